-- A tune ends as soon as its sections and its notes are over.
use Rattle.std.proofs.Common.{◌≡◌, ◌⊎◌, ◌<◌, ℕ, suc, max, List, [], ◌∷◌, length, inl, inr, refl, ◌∙◌, arith, ⊎_elim}
use Rattle.std.specs.Prelude.{Any}
use Rattle.std.specs.List.{flat_map}
use Rattle.std.proofs.lemmas.Bool.{cases_lt}
use Rattle.abc_voices_score.specs.declared.score.Sounding.{Sounding}
use Rattle.abc_voices.specs.Layout.{last_off, total, voices_notes}
use Rattle.abc_voices.specs.Ends.{EndsOnce}
use Rattle.abc_voices.proofs.Fitting.Voices.{last_past, latest_end}

-- one of some things, before others and after another
any_first : {X : Type 0} (P : X → Type 0) (x : X) (xs : List X) → P x → Any P (x ∷ xs)
any_first P x xs is = (0, x, omega arith, refl, is)

any_later : {X : Type 0} (P : X → Type 0) (x : X) (xs : List X) → Any P xs → Any P (x ∷ xs)
any_later P x xs any =
    let below : any.0 < length xs = any.2 in
    (suc any.0, any.1, omega arith, any.3, any.4)

-- the last of some moments is one of them
either_max : (a b : ℕ) → (max a b ≡ a) ⊎ (max a b ≡ b)
either_max a b = ⊎_elim (λ less. inr (omega arith)) (λ other. inl (omega arith)) (cases_lt a b)

one_of : (at : ℕ) (notes : List Sounding) → (last_off at notes ≡ at) ⊎ Any (λ note. last_off at notes ≡ note.off.0) notes
one_of at [] = inl refl
one_of at (note ∷ notes) =
    let last : ℕ = last_off (max at note.off.0) notes in
    let Is : Sounding → Type 0 = λ one. last ≡ one.off.0 in
    ⊎_elim
    (λ same. ⊎_elim
    (λ first. inl (same ∙ first))
    (λ second. inr (any_first Is note notes (same ∙ second)))
    (either_max at note.off.0))
    (λ any. inr (any_later Is note notes any))
    (one_of (max at note.off.0) notes)

pub ends_once : EndsOnce
ends_once tune =
    let notes : List Sounding = flat_map (λ one. one) (voices_notes tune) in
    record {
      sections = last_past (total tune) notes;
      notes = latest_end (total tune) notes;
      soon = one_of (total tune) notes;
    }
