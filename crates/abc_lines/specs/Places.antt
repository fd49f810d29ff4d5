-- What a row of places owns and lends, at items of the row R, and what a claim to its block owns.
use Rattle.std.specs.Prelude.{ℕ, ◌*◌, ◌^◌, List, length, Option, Some, None}
use Rattle.std.specs.Coded.{coded_option}
use Rattle.std.specs.Mem.{type_size}
use base.Fraction.{full_share}
use base.Fml.{Lft, Fml, ffalse, fsep, flt, froom}
use mir.Syntax.{Ty, ty_array}
use mir.Raw.{raw}
use types.SemTy.{SemTy}
use types.Share.{Parts, parts}
use denote.RattleType.{RattleType}
use denote.Memory.{lone, part_at, shared_of, each_shared}
use denote.Sharing.{nothing, said, beside}
use denote.RawPtr.{Ptr, block_ptr, null_ptr}

module _ (R : RattleType) where
  -- a place in memory: an item, or bytes of no meaning
  abbrev pub holds : Option R.Denot → ℕ → ℕ → Fml
  holds (Some x) = part_at R full_share x
  holds None = froom (raw (lone R.mir))

  abbrev pub Place : SemTy
  Place = record { rep = Option R.Denot; coded = coded_option R.coded; size = type_size R; own_at = holds }

  -- a place is owned whole or not at all
  abbrev pub whole : Parts Place
  whole = record { part = λ _. holds }

  -- the places of a row that begins at `o` in the block `b`
  abbrev pub row_at : List (Option R.Denot) → ℕ → ℕ → Fml
  row_at = parts Place whole full_share

  abbrev pub shows : Option R.Denot → ℕ → ℕ → Lft → Fml
  shows (Some x) = shared_of R x
  shows None = λ _ _. nothing

  -- the bytes of a row can be counted in a pointer's steps
  abbrev pub countable : List (Option R.Denot) → Fml
  countable cs = flt (length cs * type_size R) (2 ^ 63)

  abbrev pub row_owned : Ptr → List (Option R.Denot) → Fml
  row_owned (block_ptr b o) cs = fsep (row_at cs b o) (countable cs)
  row_owned null_ptr cs = ffalse

  abbrev pub row_lent : Ptr → List (Option R.Denot) → Lft → Fml
  row_lent (block_ptr b o) cs = beside (each_shared cs shows (type_size R) b o) (said (countable cs))
  row_lent null_ptr cs = said ffalse

  abbrev pub claim_owned : (Ty → Ptr → Fml) → Ptr → ℕ → Fml
  claim_owned token start count = token (raw (ty_array (lone R.mir) count)) start
