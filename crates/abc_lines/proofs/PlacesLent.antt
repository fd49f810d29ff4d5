-- A `&` to a row of places is made from a `&` to an item. Assumes `Logic`.
--     shows_laws, row_laws      what it holds can be had twice, and for a shorter time
--     lends_row                 it is made of a borrow of the row
use Rattle.std.specs.Prelude.{ℕ, ◌+◌, List, [], ◌∷◌, Option, Some, None}
use Rattle.std.specs.Mem.{type_size}
use seplogic.Ra.Ura.{Ura}
use base.Fml.{Lft, Incl, ftrue, ffalse}
use types.Logic.{Logic}
use denote.RattleType.{RattleType, RowLaws}
use denote.Memory.{each_shared, each_shr_laws}
use denote.Param.Laws.{Laws}
use denote.RawPtr.{Ptr, block_ptr, null_ptr}
use denote.Shares.{Shares-less}
use denote.Sharing.{ShrLaws, said}
use denote.SharingLaws.{beside_shr_laws, nothing_shr_laws, said_shr_laws}
use denote.Struct.Lending.{Lends, Lends-both, Lends-nothing, Lends-said, Lends-false}
use Rattle.abc_lines.specs.Places.{holds, shows, row_at, countable, row_owned, row_lent}

module _ (R : RattleType) (L : RowLaws R) where
  shows_laws : (c : Option R.Denot) (b o : ℕ) → ShrLaws (shows R c b o)
  shows_laws (Some x) = L x
  shows_laws None = λ _ _. nothing_shr_laws

  pub row_laws : (p : Ptr) (cs : List (Option R.Denot)) → ShrLaws (row_lent R p cs)
  row_laws (block_ptr b o) cs = beside_shr_laws _ _ (each_shr_laws cs (shows R) shows_laws (type_size R) b o) (said_shr_laws (countable R cs) tt)
  row_laws null_ptr cs = said_shr_laws ffalse tt

module _ {M : Type 1} {𝓤 : Ura M} (𝓛 : Logic 𝓤) (R : RattleType) (L : Laws R) (l : Lft) (lives : Incl l R.lives) where
  lends_place : (c : Option R.Denot) (b o : ℕ) → Lends 𝓛 (holds R c b o) (shows R c b o) l
  lends_place (Some x) b o = λ κ ts. Shares-less 𝓛 R R.lives l lives (L.shares 𝓛) x κ ts b o
  lends_place None b o = Lends-nothing 𝓛 (holds R None b o) l

  lends_places : (cs : List (Option R.Denot)) (b o : ℕ) → Lends 𝓛 (row_at R cs b o) (each_shared cs (shows R) (type_size R) b o) l
  lends_places [] b o = Lends-nothing 𝓛 ftrue l
  lends_places (c ∷ cs) b o = Lends-both 𝓛 _ _ (shows R c b o) (each_shared cs (shows R) (type_size R) b (o + type_size R)) l (lends_place c b o) (lends_places cs b (o + type_size R))

  pub lends_row : (p : Ptr) (cs : List (Option R.Denot)) → Lends 𝓛 (row_owned R p cs) (row_lent R p cs) l
  lends_row (block_ptr b o) cs = Lends-both 𝓛 _ _ (each_shared cs (shows R) (type_size R) b o) (said (countable R cs)) l (lends_places cs b o) (Lends-said 𝓛 (countable R cs) tt l)
  lends_row null_ptr cs = Lends-false 𝓛 (said ffalse) l
