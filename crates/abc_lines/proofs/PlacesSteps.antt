-- What the walks over places share. Assumes `Logic`.
--     full_inside             a place that holds an item is in its row
--     reached, reached_one    how far its bytes lie from the start of the row, and that an item's bytes can be counted
--     lift, lower             one place is taken out of the row, and put back with other contents
--     kept_count              the row that comes of it is as long
--     sees                    one place of a row that is borrowed
--     fresh, spent            room for an array is a row of empty places, and the other way round
--     one_made                a struct of one field is made of the field
use Rattle.std.proofs.Common.{◌≡◌, ℕ, suc, zero, ◌+◌, ◌*◌, ◌^◌, ◌<◌, List, [], ◌∷◌, Option, Some, None, refl, sym, subst, length, get_or, set, length-set, replicate, arith}
use Rattle.std.specs.Mem.{type_size}
use seplogic.Ra.Ura.{Ura}
use base.Fraction.{full_share}
use base.Logic.{ent, sep}
use base.Fml.{Lft, Fml, froom}
use mir.Syntax.{ty_array}
use mir.Val.{Val, vstruct, vcons, vnil}
use types.Logic.{Logic, sem}
use types.Kit.{Goal, Item, Step, step, ‵, move, fjoin, fpack, feq_i, ◌⊛◌, ◌$◌, ◌∵◌, !, qed, by, drop, keep, fsplit, use1, split, rewrite, done}
use denote.Memory.{each_shared}
use denote.Param.{param, layout}
use denote.RattleType.{RattleType, Valss}
use denote.Steps.{nothing}
use denote.Struct.Struct.{Struct, within}
use Rattle.std_alloc.proofs.RawLayout.{as_raw, as_written}
use denote.Index.{takes, puts, others, place, place_is}
use Rattle.core.proofs.ptr.Rows.{times_below, one_below}
use Rattle.abc_lines.specs.Places.{holds, whole, shows, row_at}

pub full_inside : {X : Type 0} (cs : List (Option X)) (i : ℕ) (x : X) → get_or cs i None ≡ Some x → i < length cs
full_inside [] i x e = cc
full_inside (c ∷ cs) zero x e = omega arith
full_inside (c ∷ cs) (suc i) x e = omega (arith, full_inside cs i x e)

pub reached : (i n s : ℕ) → i < n → n * s < 2 ^ 63 → i * s < 2 ^ 64
reached i n s inside short = omega (arith, times_below i n s (2 ^ 63) (omega arith) short)

pub reached_one : (i n s : ℕ) → i < n → n * s < 2 ^ 63 → s < 2 ^ 64
reached_one i n s inside short = omega (arith, one_below n s (2 ^ 63) (omega arith) short)

module _ (R : RattleType) where
  -- all the row but its i-th place
  abbrev pub besides : List (Option R.Denot) → ℕ → ℕ → ℕ → Fml
  besides = others (whole R) full_share

  pub kept_count : (cs : List (Option R.Denot)) (i : ℕ) (c : Option R.Denot) → length cs * type_size R < 2 ^ 63 → length (set cs i c) * type_size R < 2 ^ 63
  kept_count cs i c short = subst (λ n. n * type_size R < 2 ^ 63) (sym (length-set cs i c)) short

  module _ {M : Type 1} {𝓤 : Ura M} (𝓛 : Logic 𝓤) (cs : List (Option R.Denot)) (i b o : ℕ) (inside : i < length cs) where
    pub lift : (c : Option R.Denot) → get_or cs i None ≡ c → ent 𝓤 (sem 𝓛 (row_at R cs b o)) (sep 𝓤 (sem 𝓛 (holds R c b (i * type_size R + o))) (sem 𝓛 (besides cs i b o)))
    lift c is =
        qed 𝓛 (‵ (row_at R cs b o) ∷ []) ∵
        use1 𝓛 (‵ (holds R (get_or cs i None) b (place (type_size R) o i)) ⊛ ‵ (besides cs i b o)) (takes (whole R) full_share 𝓛 cs i None b o inside) $ split ! $
        rewrite ! 0 (λ (c : Option R.Denot). ‵ (holds R c b (place (type_size R) o i))) is refl $
        rewrite ! 0 (λ (at : ℕ). ‵ (holds R c b at)) (place_is (type_size R) o i) refl $ done !

    pub lower : (c : Option R.Denot) → ent 𝓤 (sep 𝓤 (sem 𝓛 (holds R c b (i * type_size R + o))) (sem 𝓛 (besides cs i b o))) (sem 𝓛 (row_at R (set cs i c) b o))
    lower c =
        qed 𝓛 (‵ (holds R c b (i * type_size R + o)) ∷ ‵ (besides cs i b o) ∷ []) ∵
        rewrite ! 0 (λ (at : ℕ). ‵ (holds R c b at)) (sym (place_is (type_size R) o i)) refl $
        by ! (puts (whole R) full_share 𝓛 cs i c b o inside)

  module _ {M : Type 1} {𝓤 : Ura M} (𝓛 : Logic 𝓤) (κ : Lft) where
    sees_at : (cs : List (Option R.Denot)) (i b o : ℕ) → i < length cs → ent 𝓤 (sem 𝓛 (each_shared cs (shows R) (type_size R) b o κ)) (sem 𝓛 (shows R (get_or cs i None) b (place (type_size R) o i) κ))
    sees_at [] i b o inside = absurd (omega arith)
    sees_at (c ∷ cs) zero b o inside = qed 𝓛 (‵ (each_shared (c ∷ cs) (shows R) (type_size R) b o κ) ∷ []) ∵ fsplit ! $ keep ! (0 ∷ []) $ done !
    sees_at (c ∷ cs) (suc i) b o inside = qed 𝓛 (‵ (each_shared (c ∷ cs) (shows R) (type_size R) b o κ) ∷ []) ∵ fsplit ! $ drop ! $ by ! (sees_at cs i b (o + type_size R) (omega arith))

    pub sees : (cs : List (Option R.Denot)) (i b o : ℕ) → i < length cs → (c : Option R.Denot) → get_or cs i None ≡ c
        → ent 𝓤 (sem 𝓛 (each_shared cs (shows R) (type_size R) b o κ)) (sem 𝓛 (shows R c b (i * type_size R + o) κ))
    sees cs i b o inside c is =
        qed 𝓛 (‵ (each_shared cs (shows R) (type_size R) b o κ) ∷ []) ∵
        use1 𝓛 (‵ (shows R (get_or cs i None) b (place (type_size R) o i) κ)) (sees_at cs i b o inside) $
        rewrite ! 0 (λ (c : Option R.Denot). ‵ (shows R c b (place (type_size R) o i) κ)) is refl $
        rewrite ! 0 (λ (at : ℕ). ‵ (shows R c b at κ)) (place_is (type_size R) o i) refl $ done !

module _ (X : RattleType) {M : Type 1} {𝓤 : Ura M} (𝓛 : Logic 𝓤) (b : ℕ) where
  pub fresh : (n o : ℕ) → ent 𝓤 (𝓛.H.room (ty_array (layout X) n) b o) (sem 𝓛 (row_at (param 0 X) (replicate n None) b o))
  fresh zero o = qed 𝓛 (‵ (froom (ty_array (layout X) 0) b o) ∷ []) ∵ keep ! [] $ done !
  fresh (suc n) o =
      qed 𝓛 (‵ (froom (ty_array (layout X) (suc n)) b o) ∷ []) ∵
      use1 𝓛 (‵ (froom (layout X) b o) ⊛ ‵ (froom (ty_array (layout X) n) b (o + type_size (param 0 X)))) (𝓛.laws.room_uncons (layout X) n b o) $ split ! $
      as_raw ! (layout X) b o $ move ! (1 ∷ []) $ use1 𝓛 (‵ (row_at (param 0 X) (replicate n None) b (o + type_size (param 0 X)))) (fresh n (o + type_size (param 0 X))) $
      move ! (1 ∷ 0 ∷ []) $ fjoin ! $ done !

  pub spent : (n o : ℕ) → ent 𝓤 (sem 𝓛 (row_at (param 0 X) (replicate n None) b o)) (𝓛.H.room (ty_array (layout X) n) b o)
  spent zero o = 𝓛.laws.room_nil (layout X) b o
  spent (suc n) o =
      qed 𝓛 (‵ (row_at (param 0 X) (replicate (suc n) None) b o) ∷ []) ∵ fsplit ! $ as_written ! (layout X) b o $ move ! (1 ∷ []) $
      use1 𝓛 (‵ (froom (ty_array (layout X) n) b (o + type_size (param 0 X)))) (spent n (o + type_size (param 0 X))) $
      move ! (1 ∷ 0 ∷ []) $ by ! (𝓛.laws.room_cons (layout X) n b o)

-- a struct by its one field: what it owns does not read its name
abbrev pub only_field : RattleType → RattleType
only_field R = Struct (record { name = []; args = []; types = []; fields = R ∷ [] })

abbrev pub one : Val → Val
one u = vstruct (vcons u vnil)

pub one_made : {M : Type 1} {𝓤 : Ura M} {𝓛 : Logic 𝓤} {K : Type 0} {Γ : List (Item 𝓤)} {G : Goal 𝓤 𝓛.H} → K → (R : RattleType) (x : R.Denot) (u : Val)
    → Step K 𝓛 (‵ ((only_field R).own_val (x, tt) (one u ∷ [])) ∷ Γ) G (‵ (R.own_val x (u ∷ [])) ∷ Γ) G
one_made t R x u = step (λ s.
    nothing t $ move t (1 ∷ 0 ∷ []) $ fjoin t $ feq_i t (List Val) (one u ∷ []) (one u ∷ []) refl $ fjoin t $
    fpack t (Valss (R ∷ [])) (within (record { name = []; args = []; types = []; fields = R ∷ [] }) (x, tt) (one u ∷ [])) (u ∷ [], tt) $ s)
