-- Pieces that follow each other, and what a kept piece that still holds says of the next.
use Rattle.std.proofs.Common.{◌≡◌, ℕ, zero, suc, ◌+◌, ◌-◌, ◌<◌, ◌≤◌, Bool, true, false, List, [], ◌∷◌, ◌++◌, Some, get_or, length, slice_get, refl, sym, ◌∙◌, ap, subst, arith, length-append, ⊎_elim}
use Rattle.std.proofs.lemmas.Bool.{cases_lt, false≢true}
use Rattle.std.proofs.lemmas.Option.{slice_get_within, slice_get_read}
use Rattle.abc_fold.specs.declared.piece.Piece.{Piece}
use Rattle.abc_fold.specs.declared.piece.Piece.TheVariants.{New, Kept}
use Rattle.abc_fold.specs.Chain.{ChainView, IsKeptAt}
use Rattle.abc_fold.specs.Following.{AreMarked, Follows, FollowsLast, HasMarks, IsLeftIn}
use Rattle.abc_fold.specs.Piece.{is_taken}
use Rattle.abc_fold.specs.Steps.{Steps, IsResumable}
use Rattle.abc_fold.proofs.Kept.{some_same}

-- After the pieces before a place this is the very state in which the last of them was left.
pub record IsLeftAfter {F State Cell Items Work : Type 0} (pieces : List (Piece F State Cell Items Work)) (i : ℕ) (state : State) : Type 0 where
  pub some : 0 < i
  pub left : (before : Piece F State Cell Items Work) → slice_get pieces (i - 1) ≡ Some before → IsLeftIn state before

-- In front of all pieces nothing is known.
pub none_left : {F State Cell Items Work : Type 0} (pieces : List (Piece F State Cell Items Work)) (i : ℕ) (state : State) → false ≡ true → IsLeftAfter pieces i state
none_left pieces i state never = absurd (false≢true never)

-- An item before the end of a longer list, and the last one.
get_front : {X : Type 0} (xs : List X) (last : X) (k : ℕ) → k < length xs → slice_get (xs ++ last ∷ []) k ≡ slice_get xs k
get_front [] last k inside = absurd (omega (arith, inside))
get_front (x ∷ xs) last zero inside = refl
get_front (x ∷ xs) last (suc k) inside = get_front xs last k (omega (arith, inside))

pub get_last : {X : Type 0} (xs : List X) (last : X) → slice_get (xs ++ last ∷ []) (length xs) ≡ Some last
get_last [] last = refl
get_last (x ∷ xs) last = get_last xs last

get_there : {X : Type 0} (xs : List X) (k : ℕ) → k < length xs → (x : X) × (slice_get xs k ≡ Some x)
get_there [] k inside = absurd (omega (arith, inside))
get_there (x ∷ xs) zero inside = (x, refl)
get_there (x ∷ xs) (suc k) inside = get_there xs k (omega (arith, inside))

module _ {F State Cell Items Work : Type 0} where
  -- What a chain keeps at two places, one after the other, follows each other.
  pub kept_follow : (chain : ChainView State Cell Items) (i : ℕ) (before piece : Piece F State Cell Items Work) → IsKeptAt chain i before → IsKeptAt chain (i + 1) piece → Follows before piece
  kept_follow chain i (New cell) piece at next = absurd at
  kept_follow chain i (Kept cell entered left items) (New other) at next = absurd next
  kept_follow chain i (Kept cell entered left items) (Kept other following later given) at next =
      some_same following left (sym next.own_entry ∙ at.next_entry)

  -- One more piece with its mark.
  pub marked_more : (pieces : List (Piece F State Cell Items Work)) (marks : List Bool) (piece : Piece F State Cell Items Work) (mark : Bool)
      → HasMarks pieces marks → (mark ≡ true → FollowsLast pieces piece) → HasMarks (pieces ++ piece ∷ []) (marks ++ mark ∷ [])
  marked_more pieces marks piece mark has own = record {
    count = length-append marks (mark ∷ []) ∙ ap (λ n. n + 1) has.count ∙ sym (length-append pieces (piece ∷ []));
    right = λ i before here some marked at_before at_own. ⊎_elim
        (λ (inside : i < length pieces).
        let less : i - 1 < length pieces = omega (arith, inside) in
        let marks_inside : i < length marks = rw has.count inside in
        has.right i before here some (sym (get_front marks mark i marks_inside) ∙ marked) (sym (get_front pieces piece (i - 1) less) ∙ at_before) (sym (get_front pieces piece i inside) ∙ at_own))
        (λ (past : length pieces ≤ i).
        let within = slice_get_within (pieces ++ piece ∷ []) i here at_own in
        let count = length-append pieces (piece ∷ []) in
        let last : i ≡ length pieces = omega (arith, within, count, past) in
        let last_mark : i ≡ length marks = last ∙ sym has.count in
        let set : mark ≡ true = some_same mark true (sym (get_last marks mark) ∙ ap (λ k. slice_get (marks ++ mark ∷ []) k) (sym last_mark) ∙ marked) in
        let same : piece ≡ here = some_same piece here (sym (get_last pieces piece) ∙ ap (λ k. slice_get (pieces ++ piece ∷ []) k) (sym last) ∙ at_own) in
        let less : i - 1 < length pieces = omega (arith, some, last) in
        let place : i - 1 ≡ length pieces - 1 = ap (λ k. k - 1) last in
        let there : slice_get pieces (length pieces - 1) ≡ Some before = ap (slice_get pieces) (sym place) ∙ sym (get_front pieces piece (i - 1) less) ∙ at_before in
        subst (λ p. Follows before p) same (own set before there))
        (cases_lt i (length pieces));
  }

  -- The state in which a piece was left is the next entry.
  pub left_following : (pieces : List (Piece F State Cell Items Work)) (i : ℕ) (piece : Piece F State Cell Items Work) (state : State)
      → piece ≡ get_or pieces i piece → i < length pieces → IsLeftIn state piece → IsLeftAfter pieces (i + 1) state
  left_following pieces i piece state is inside left = record {
    some = omega arith;
    left = λ before at.
        let place : i + 1 - 1 ≡ i = omega arith in
        let own = slice_get_read pieces (length pieces) i piece refl inside is in
        subst (λ p. IsLeftIn state p) (some_same piece before (sym own ∙ ap (slice_get pieces) (sym place) ∙ at)) left;
  }

  follows_taken : (steps : Steps State Cell Items) → IsResumable steps → (state : State) (before piece : Piece F State Cell Items Work) → IsLeftIn state before → Follows before piece
      → is_taken steps state piece ≡ true
  follows_taken steps laws state before (New cell) left follows = absurd follows
  follows_taken steps laws state (New cell) (Kept other following later given) left follows = absurd left
  follows_taken steps laws state (Kept cell entered own items) (Kept other following later given) left follows =
      subst (λ s. steps.alike following s ≡ true) (follows ∙ sym left) (laws.reflexive following)

  -- A piece that follows a kept piece that still holds does so too.
  pub known_taken : (steps : Steps State Cell Items) → IsResumable steps
      → (pieces : List (Piece F State Cell Items Work)) (marks : List Bool) (i : ℕ) (state : State) (piece : Piece F State Cell Items Work)
      → AreMarked pieces marks → piece ≡ get_or pieces i piece → i < length pieces → slice_get marks i ≡ Some true → IsLeftAfter pieces i state
      → is_taken steps state piece ≡ true
  known_taken steps laws pieces marks i state piece right is inside marked following =
      let some = following.some in
      let less : i - 1 < length pieces = omega (arith, inside) in
      let before = get_there pieces (i - 1) less in
      let own = slice_get_read pieces (length pieces) i piece refl inside is in
      follows_taken steps laws state before.0 piece (following.left before.0 before.1) (right i before.0 piece some marked before.1 own)
