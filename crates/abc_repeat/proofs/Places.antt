-- The places of the played items of some marks.
use Rattle.std.proofs.Common.{◌≡◌, ℕ, ◌+◌, true, false, cond, List, [], ◌∷◌, length, count_by, refl, ◌∙◌, arith}
use Rattle.std.proofs.lemmas.List.Recursion.{is_count_by}
use Rattle.abc_repeat.specs.declared.mark.Mark.{Mark}
use Rattle.abc_repeat.specs.Mark.{is_play}
use Rattle.abc_repeat.specs.Play.{places_from}

-- the number of played items of some marks
abbrev played : List Mark → ℕ
played [] = 0
played (m ∷ ms) = cond (is_play m) (1 + played ms) (played ms)

length-places_played : (at : ℕ) (ms : List Mark) → length (places_from at ms) ≡ played ms
length-places_played at [] = refl
length-places_played at (m ∷ ms) =
    let rest = length-places_played (at + 1) ms in
    elim (is_play m) as (λ b. length (cond b (at ∷ places_from (at + 1) ms) (places_from (at + 1) ms)) ≡ cond b (1 + played ms) (played ms)) [
      | true ↦ omega arith
      | false ↦ rest
    ]

pub length-places : (at : ℕ) (ms : List Mark) → length (places_from at ms) ≡ count_by is_play ms
length-places at ms = length-places_played at ms ∙ is_count_by played is_play refl (λ x xs. refl) ms
