-- Voices by their names.
use Rattle.std.specs.List.{AllZip}
use Rattle.std.proofs.Common.{[], ◌∷◌, ◌≡◌, ℕ, zero, suc, ◌+◌, add-one, length, map, List, Some, refl, sym, ap, ◌∙◌}
use Rattle.std.specs.Map.{values_of}
use Rattle.abc_bars_header.specs.Voices.{voice_at, with_voice_at}

-- Copies of voices, each of which is its source, are the voices.
pub copies_same : {S : Type 0} (voices copies : List (List ℕ × S)) → AllZip (λ p q. (q.0 ≡ p.0) × (q.1 ≡ p.1)) voices copies → copies ≡ voices
copies_same [] [] same = refl
copies_same [] (copy ∷ copies) same = absurd same
copies_same (voice ∷ voices) [] same = absurd same
copies_same (voice ∷ voices) (copy ∷ copies) same = λ i. (same.0.0 i, same.0.1 i) ∷ copies_same voices copies same.1 i

module _ {S : Type 0} (f : S → S) where
  -- The values of the first `n` voices are changed.
  abbrev pub changed_to : ℕ → List (List ℕ × S) → List (List ℕ × S)
  changed_to zero voices = voices
  changed_to (suc n) [] = []
  changed_to (suc n) (voice ∷ voices) = (voice.0, f voice.1) ∷ changed_to n voices

  -- There are as many voices as before.
  pub length-changed_to : (n : ℕ) (voices : List (List ℕ × S)) → length (changed_to n voices) ≡ length voices
  length-changed_to zero voices = refl
  length-changed_to (suc n) [] = refl
  length-changed_to (suc n) (voice ∷ voices) = ap suc (length-changed_to n voices)

  -- What is known of one voice more is changed.
  pub changed_to-suc : (n : ℕ) (voices : List (List ℕ × S)) (known : S) → voice_at (changed_to n voices) n ≡ Some known
      → with_voice_at (changed_to n voices) n (f known) ≡ changed_to (suc n) voices
  changed_to-suc zero [] known is = refl
  changed_to-suc zero (voice ∷ voices) known is = let e : voice.1 ≡ known = cc in rw (← e) refl
  changed_to-suc (suc n) [] known is = refl
  changed_to-suc (suc n) (voice ∷ voices) known is = ap (λ rest. (voice.0, f voice.1) ∷ rest) (changed_to-suc n voices known is)

  -- What is known of all voices is changed.
  pub changed_to-length : (voices : List (List ℕ × S)) → changed_to (length voices) voices ≡ map (λ v. (v.0, f v.1)) voices
  changed_to-length [] = refl
  changed_to-length (voice ∷ voices) = ap (λ rest. (voice.0, f voice.1) ∷ rest) (changed_to-length voices)

  -- After those of the first `n` voices, that of one more is changed.
  pub changed_more : (voices now : List (List ℕ × S)) (n : ℕ) (known new : S) → now ≡ changed_to n voices → voice_at now n ≡ Some known → new ≡ f known
      → with_voice_at now n new ≡ changed_to (n + 1) voices
  changed_more voices now n known new changed is by =
      let found : voice_at (changed_to n voices) n ≡ Some known = ap (λ vs. voice_at vs n) (sym changed) ∙ is in
      let there : with_voice_at now n new ≡ with_voice_at (changed_to n voices) n (f known) = cc in
      there ∙ changed_to-suc n voices known found ∙ ap (λ k. changed_to k voices) (sym (add-one n))

-- Something is known of each voice.
pub values_long : {S : Type 0} (voices : List (List ℕ × S)) → length (values_of voices) ≡ length voices
values_long [] = refl
values_long (voice ∷ voices) = ap suc (values_long voices)
