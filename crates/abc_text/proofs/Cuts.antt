-- Laws of cutting a text at a byte.
use Rattle.std.proofs.Common.{◌≡◌, ℕ, ◌+◌, ◌<◌, ◌≤◌, List, [], ◌∷◌, ◌++◌, length, drop, get_or, Some, None, refl, sym, ap, ◌∙◌, subst, ⊎_elim, arith, length-append, append_assoc}
use Rattle.std.specs.Prelude.{◌==◌, not}
use Rattle.std.specs.List.{position, position_or_len, before_first, after_first}
use Rattle.std.proofs.lemmas.Bool.{cond-true, cond-false, eqb-true, eq-eqb, lt-ltb, le-ltb, ltb-true, cases_lt, not_from_true}
use Rattle.std.proofs.lemmas.Option.{cond_some}
use Rattle.std.proofs.lemmas.List.{append-nil, take_all}
use Rattle.std.proofs.lemmas.List.Sums.{split_at_first, passes_at_first}
use Rattle.abc_text.specs.Cut.{HasNoByte, IsCut, cut_at}
use Rattle.abc_text.proofs.Fronts.{front_passes, front_none, front_exact, take_exact, drop_exact}

stops_at : (byte : ℕ) (front rest : List ℕ) → HasNoByte byte front → position_or_len (λ b. b == byte) (front ++ byte ∷ rest) ≡ length front
stops_at byte front rest h =
    front_exact (λ b. not (b == byte)) front (byte ∷ rest) h
    (front_none (λ b. not (b == byte)) byte rest (not_from_true (byte == byte) (eq-eqb byte byte refl)))

pub cut_at-found : (byte : ℕ) (front rest : List ℕ) → HasNoByte byte front → cut_at byte (front ++ byte ∷ rest) ≡ Some (front, rest)
unfolding cut_at
cut_at-found byte front rest h =
    let text = front ++ byte ∷ rest in
    let at = stops_at byte front rest h in
    let long : length text ≡ length front + length (byte ∷ rest) = length-append front (byte ∷ rest) in
    let inside : position_or_len (λ b. b == byte) text < length text = omega (arith, at, long) in
    let before : before_first (λ b. b == byte) text ≡ front = take_exact _ front (byte ∷ rest) at in
    let size : position_or_len (λ b. b == byte) text + 1 ≡ length (front ++ byte ∷ []) = omega (arith, at, length-append front (byte ∷ [])) in
    let following : after_first (λ b. b == byte) text ≡ rest = ap (λ t. drop (position_or_len (λ b. b == byte) text + 1) t) (sym (append_assoc front (byte ∷ []) rest)) ∙ drop_exact _ (front ++ byte ∷
    []) rest size in
    cond-true _ _ _ (lt-ltb _ _ inside) ∙ ap (λ x. Some (x, after_first (λ b. b == byte) text)) before ∙ ap (λ x. Some (front, x)) following

pub cut_at-none : (byte : ℕ) (text : List ℕ) → HasNoByte byte text → cut_at byte text ≡ None
unfolding cut_at
cut_at-none byte text h =
    let at : position_or_len (λ b. b == byte) (text ++ []) ≡ length text = front_exact (λ b. not (b == byte)) text [] h refl in
    let all : position_or_len (λ b. b == byte) text ≡ length text = ap (position_or_len (λ b. b == byte)) (sym (append-nil text)) ∙ at in
    let past : length text ≤ position_or_len (λ b. b == byte) text = omega (arith, all) in
    cond-false _ _ _ (le-ltb _ _ past)

-- the cut is at the first byte of this value
pub cut_at-cuts : (byte : ℕ) (text : List ℕ) (parts : List ℕ × List ℕ) → cut_at byte text ≡ Some parts → IsCut byte text parts.0 parts.1
unfolding cut_at
cut_at-cuts byte text parts e =
    let found = cond_some _ _ _ e in
    let front : before_first (λ b. b == byte) text ≡ parts.0 = ap (λ (p : List ℕ × List ℕ). p.0) found.1 in
    let rest : after_first (λ b. b == byte) text ≡ parts.1 = ap (λ (p : List ℕ × List ℕ). p.1) found.1 in
    let inside : position_or_len (λ b. b == byte) text < length text = ltb-true _ _ found.0 in
    let it : get_or text (position_or_len (λ b. b == byte) text) 0 ≡ byte = eqb-true _ byte (passes_at_first (λ b. b == byte) text 0 inside) in
    record {
      spelling = split_at_first (λ b. b == byte) text 0 inside ∙ ap (λ x. x ++ get_or text (position_or_len (λ b. b == byte) text) 0 ∷ after_first (λ b. b == byte) text) front ∙ ap (λ b. parts.0 ++ b
          ∷ after_first (λ b. b == byte) text) it ∙ ap (λ x. parts.0 ++ byte ∷ x) rest;
      first = subst (HasNoByte byte) front (front_passes (λ b. not (b == byte)) text);
    }

-- a text without a place of the byte has no such byte
pub no_place : (byte : ℕ) (text : List ℕ) → None ≡ position (λ b. b == byte) text → HasNoByte byte text
no_place byte text e = ⊎_elim
    (λ inside. let found : Some (position_or_len (λ b. b == byte) text) ≡ None = sym (cond-true _ _ _ (lt-ltb _ _ inside)) ∙ sym e in cc)
    (λ past. subst (HasNoByte byte) (take_all (position_or_len (λ b. b == byte) text) text past) (front_passes (λ b. not (b == byte)) text))
    (cases_lt (position_or_len (λ b. b == byte) text) (length text))
