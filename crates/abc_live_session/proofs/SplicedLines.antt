-- The lines after a splice, and lists of the elements after a place.
use Rattle.std.proofs.Common.{◌≡◌, ℕ, zero, suc, ◌+◌, ◌-◌, ◌<◌, ◌≤◌, List, [], ◌∷◌, ◌++◌, length, take, drop, map, get_or, Some}
use Rattle.std.proofs.Common.{slice_get, refl, sym, ap, ◌∙◌, arith}
use Rattle.std.proofs.lemmas.List.{map_push, take_more}
use Rattle.std.proofs.lemmas.Option.{get_or_from_slice_get, slice_get_within}
use Rattle.std.specs.Global.{Vec}
use Rattle.abc_lines.specs.Text.{IsText, Text, lines_of, splice_from, spliced}
use Rattle.abc_lines.specs.declared.limits.TheConstants.{MOST_LINES}
use Rattle.abc_lines.proofs.ListSplices.{item_among, item_back, item_front}
use Rattle.abc_lines.proofs.Splices.{length-lines_of, length-spliced}
use Rattle.abc_live_index.proofs.OutputLists.{read_at}
use Rattle.abc_live_index.proofs.OutputReuse.{mapped_at}

-- the element at a place after others
pub dropped_at : {X : Type 0} (from : ℕ) (xs : List X) (i : ℕ) → slice_get xs (from + i) ≡ slice_get (drop from xs) i
dropped_at zero xs i = let none : 0 + i ≡ i = omega arith in ap (slice_get xs) none
dropped_at (suc from) [] i = refl
dropped_at (suc from) (x ∷ xs) i = let next : suc from + i ≡ suc (from + i) = omega arith in ap (slice_get (x ∷ xs)) next ∙ dropped_at from xs i

-- one more value of a list
pub mapped_more : {A B : Type 0} (f : A → B) (xs : List A) (i : ℕ) (x : A) (y : B) (before after : List B) → slice_get xs i ≡ Some x → y ≡ f x → before ≡ map f (take i xs) → after ≡ before ++ y ∷ []
    → after ≡ map f (take (i + 1) xs)
mapped_more f xs i x y before after here value so_far pushed =
    let within : i < length xs = slice_get_within xs i x here in
    let item : get_or xs i x ≡ x = get_or_from_slice_get xs i x x here in
    pushed ∙ ap (λ l. l ++ y ∷ []) so_far ∙ ap (λ v. map f (take i xs) ++ v ∷ []) value
    ∙ sym (map_push f (take i xs) x)
    ∙ ap (λ v. map f (take i xs ++ v ∷ [])) (sym item)
    ∙ ap (map f) (sym (take_more xs i x within))

module _ (text : Text) (at removed : ℕ) (lines : List (Vec ℕ)) (inside : at + removed ≤ length text) where
  -- a line before a splice
  pub line_front : (i : ℕ) → i < at → slice_get text i ≡ slice_get (spliced text (splice_from at removed lines)) i
  unfolding spliced
  line_front i before = item_front text at removed (lines_of lines) i inside before

  -- one that comes
  pub line_among : (i : ℕ) (line : Vec ℕ) (found : List ℕ) → at ≤ i → i - at < length lines → line ≡ get_or lines (i - at) line → found ≡ (get_or lines (i - at) line).items
      → Some found ≡ slice_get (spliced text (splice_from at removed lines)) i
  unfolding spliced
  line_among i line found following before is own =
      let many = length-lines_of lines in
      ap Some (own ∙ ap (λ (l : Vec ℕ). l.items) (sym is))
      ∙ sym (mapped_at (λ (l : Vec ℕ). l.items) lines (i - at) line (read_at lines (i - at) line before is))
      ∙ item_among text at removed (lines_of lines) i inside following (omega (arith, many, before))

  -- one after it
  pub line_following : (i : ℕ) → at ≤ i → length lines ≤ i - at → i < length (spliced text (splice_from at removed lines))
      → slice_get text (i - length lines + removed) ≡ slice_get (spliced text (splice_from at removed lines)) i
  unfolding spliced
  line_following i from following before =
      let many = length-lines_of lines in
      let long = length-spliced text (splice_from at removed lines) inside in
      ap (λ n. slice_get text (i - n + removed)) (sym many) ∙ item_back text at removed (lines_of lines) i inside (omega (arith, many, from, following)) (omega (arith, many, long, inside, before))

  pub line_small : (i : ℕ) → IsText text → at ≤ i → length lines ≤ i - at → i < length (spliced text (splice_from at removed lines)) → i - length lines + removed ≤ MOST_LINES
  line_small i limits from following before =
      let many = length-lines_of lines in
      let long = length-spliced text (splice_from at removed lines) inside in
      let few = limits.count in
      omega (arith, many, long, inside, before, from, following, few)
