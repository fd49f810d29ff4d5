-- The first closing byte of a text, and laws of a text without one.
use Rattle.std.proofs.Common.{◌≡◌, ℕ, ◌+◌, ◌<◌, ◌≤◌, Bool, true, false, not, Option, Some, None, is_some, List, [], ◌∷◌, ◌++◌, length, take, drop, refl, sym, ap, ◌∙◌, subst, ⊎_elim, arith, append-nil}
use Rattle.std.proofs.Common.{length-append, length-drop, length-take, take-append-drop, ◌-◌}
use Rattle.std.specs.Prelude.{IfSome, ◌==◌, nat_lt}
use Rattle.std.specs.List.{prefix_len}
use Rattle.std.proofs.Math.Seq.{take-append-add}
use Rattle.std.proofs.lemmas.Bool.{cond-true, cond-false, cond_both, cases_lt, lt-ltb, le-ltb, ltb-true, eq-eqb, eqb-true, not-false, not_from_true, false≢true}
use Rattle.std.proofs.lemmas.List.{take_all, take_rest, drop-drop}
use Rattle.std.proofs.lemmas.List.Elements.{All-drop}
use Rattle.abc_text.specs.Cut.{HasNoByte}
use Rattle.abc_scan.specs.declared.known_absent.KnownAbsent.{KnownAbsent}
use Rattle.abc_scan.specs.Byte.{closing_brace, closing_bracket}
use Rattle.abc_scan.specs.Front.{IsFront}
use Rattle.abc_scan.specs.KnownAbsent.{place_of, IsKnownAbsent}
use Rattle.abc_text.proofs.Fronts.{front_passes, front_append, front_exact, front_none, front_stops}

-- any byte but this one
abbrev pub is_other : ℕ → ℕ → Bool
is_other closing b = not (b == closing)

-- a text without such a byte has no place of it
pub place_of_none : (closing : ℕ) (text : List ℕ) → HasNoByte closing text → place_of closing text ≡ None
place_of_none closing text lacks =
    let whole : prefix_len (is_other closing) text ≡ length text =
    sym (ap (prefix_len (is_other closing)) (append-nil text)) ∙ (let e = front_append (is_other closing) text [] lacks in omega (arith, e)) in
    let past : length text ≤ prefix_len (is_other closing) text = omega (arith, whole) in
    cond-false _ _ _ (le-ltb _ _ past)

-- the first such byte after others
pub place_of-first : (closing : ℕ) (inside rest : List ℕ) → HasNoByte closing inside → place_of closing (inside ++ closing ∷ rest) ≡ Some (length inside)
place_of-first closing inside rest lacks =
    let closes : is_other closing closing ≡ false = not_from_true _ (eq-eqb closing closing refl) in
    let size : prefix_len (is_other closing) (inside ++ closing ∷ rest) ≡ length inside =
    front_exact (is_other closing) inside (closing ∷ rest) lacks (front_none (is_other closing) closing rest closes) in
    let within : prefix_len (is_other closing) (inside ++ closing ∷ rest) < length (inside ++ closing ∷ rest) = omega (arith, size, length-append inside (closing ∷ rest)) in
    cond-true _ _ _ (lt-ltb _ _ within) ∙ ap Some size

-- the byte at the place that is found
pub record IsFirst (closing : ℕ) (text : List ℕ) (place : ℕ) : Type 0 where
  pub following : List ℕ
  pub cut : text ≡ take place text ++ closing ∷ following
  pub lacks : HasNoByte closing (take place text)

pub place-sound : (closing : ℕ) (text : List ℕ) → IfSome (place_of closing text) (IsFirst closing text)
place-sound closing text =
    let size = prefix_len (is_other closing) text in
    cond_both (nat_lt size (length text)) _ _ (λ o. IfSome o (IsFirst closing text))
    (λ yes.
    let inside = ltb-true size (length text) yes in
    ⊎_elim
    (λ (none : drop size text ≡ []). absurd (omega (arith, inside, ap length none, length-drop size text)))
    (λ (stop : (y : ℕ) × (ys : List ℕ) × (drop size text ≡ y ∷ ys) × (is_other closing y ≡ false)). record {
      following = stop.1;
      cut = sym (take-append-drop size text) ∙ ap (λ l. take size text ++ l) (stop.2 ∙ ap (λ x. x ∷ stop.1) (eqb-true stop.0 closing (not-false _ stop.3)));
      lacks = front_passes (is_other closing) text;
    })
    (front_stops (is_other closing) text))
    (λ _. tt)

-- a text up to and with such a byte
pub closed_front : (closing : ℕ) (text : List ℕ) (place : ℕ) → IsFirst closing text place → (place < length text) × (take (place + 1) text ≡ take place text ++ closing ∷ [])
closed_front closing text place first =
    let sizes = ap length first.cut in
    let long = length-append (take place text) (closing ∷ first.following) in
    let size = length-take place text in
    let inside : place < length text = omega (arith, sizes, long, size) in
    let exact : length (take place text) ≡ place = omega (arith, size, inside) in (
      inside,
      (λ i. take (sym exact i + 1) (first.cut i)) ∙ take-append-add (take place text) (closing ∷ first.following) 1,
    )

-- a text without a place of the byte is without the byte
pub place_lacks : (closing : ℕ) (text : List ℕ) (place : Option ℕ) → place ≡ place_of closing text → is_some place ≡ false → HasNoByte closing text
place_lacks closing text (Some place) e none = absurd (false≢true (sym none))
place_lacks closing text None e none =
    let size = prefix_len (is_other closing) text in
    ⊎_elim
    (λ inside. let found : None ≡ Some size = e ∙ cond-true _ _ _ (lt-ltb size (length text) inside) in cc)
    (λ past. subst (HasNoByte closing) (take_all size text past) (front_passes (is_other closing) text))
    (cases_lt size (length text))

-- a byte that a text lacks is missing in every later part of it
pub lacks-drop : (n closing : ℕ) (text : List ℕ) → HasNoByte closing text → HasNoByte closing (drop n text)
lacks-drop n closing text lacks = All-drop (λ b. is_other closing b ≡ true) n text lacks

pub absent-drop : (n : ℕ) (absent : KnownAbsent) (text : List ℕ) → IsKnownAbsent absent text → IsKnownAbsent absent (drop n text)
absent-drop n absent text is = record {
  no_brace = λ e. lacks-drop n closing_brace text (is.no_brace e);
  no_bracket = λ e. lacks-drop n closing_bracket text (is.no_bracket e);
}

-- a byte that the rest lacks is missing after the first byte of the rest, and after its first token
pub absent_next : (absent : KnownAbsent) (text : List ℕ) (at : ℕ) → IsKnownAbsent absent (drop at text) → IsKnownAbsent absent (drop 1 (take (length text - at) (drop at text)))
absent_next absent text at is = subst (λ l. IsKnownAbsent absent (drop 1 l)) (sym (take_rest text at)) (absent-drop 1 absent (drop at text) is)

pub absent_after : (absent : KnownAbsent) (text : List ℕ) (at size : ℕ) → IsFront (take (length text - at) (drop at text)) size
    → IsKnownAbsent absent (drop 1 (take (length text - at) (drop at text))) → IsKnownAbsent absent (drop (at + size) text)
absent_after absent text at size front is =
    let sum : at + 1 + (size - 1) ≡ at + size = omega (arith, front.some) in
    let cut : drop (size - 1) (drop 1 (take (length text - at) (drop at text))) ≡ drop (at + size) text =
    ap (λ l. drop (size - 1) (drop 1 l)) (take_rest text at) ∙ ap (drop (size - 1)) (drop-drop 1 at text) ∙ drop-drop (size - 1) (at + 1) text ∙ ap (λ n. drop n text) sum in
    subst (IsKnownAbsent absent) cut (absent-drop (size - 1) absent (drop 1 (take (length text - at) (drop at text))) is)

-- a front of the rest of a text is inside the text
pub front_inside : (text : List ℕ) (at size : ℕ) → at ≤ length text → IsFront (take (length text - at) (drop at text)) size → at + size ≤ length text
front_inside text at size inside front = omega (arith, front.inside, ap length (take_rest text at), length-drop at text)

-- the byte is not in the rest in which it was searched
pub lacks_rest : (closing : ℕ) (text : List ℕ) → HasNoByte closing (drop 1 text) → HasNoByte closing (take (length text - 1) (drop 1 text))
lacks_rest closing text = subst (HasNoByte closing) (sym (take_rest text 1))

pub rest_lacks : (closing : ℕ) (text : List ℕ) → HasNoByte closing (take (length text - 1) (drop 1 text)) → HasNoByte closing (drop 1 text)
rest_lacks closing text = subst (HasNoByte closing) (take_rest text 1)

pub ruleset rests = (lacks_rest, rest_lacks)
