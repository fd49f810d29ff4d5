-- When a splice is refused, and how many lines it leaves.
use Rattle.std.proofs.Common.{◌≡◌, ℕ, ◌+◌, ◌<◌, ◌≤◌, true, false, List, [], ◌∷◌, ◌++◌, length, get_or, take, drop, ◌&&◌, Some, Ok, Err, sym, ap, ◌∙◌, arith}
use Rattle.std.specs.Global.{Vec}
use Rattle.std.specs.Borrow.{Bor}
use Rattle.std.specs.List.{list_all, slice_get}
use Rattle.std.proofs.lemmas.Bool.Decides.{nat_tests}
use Rattle.std.proofs.lemmas.Grind.{common_steps}
use Rattle.std.proofs.lemmas.Option.{slice_get_within, get_or_from_slice_get}
use Rattle.std.proofs.lemmas.List.{take_more, map-append, map_push, length-map}
use Rattle.std.proofs.lemmas.List.Elements.{All-take, All-drop}
use Rattle.std.proofs.lemmas.List.Folds.{list_all-append}
use Rattle.std.proofs.lemmas.List.Sums.{AllPass-from_list_all, list_all-from_AllPass}
use Rattle.abc_lines.specs.declared.limits.TheConstants.{MOST_LINES}
use Rattle.abc_lines.specs.declared.edit_error.EditError.TheVariants.{BadRange, BadLine, TooLarge}
use Rattle.abc_lines.specs.GapList.{GapListView, replaced_run}
use Rattle.abc_lines.specs.LineBuffer.{LineBufferView, line_buffer_view}
use Rattle.abc_lines.specs.ListSplice.{after_splice}
use Rattle.abc_lines.specs.Text.{Text, IsText, Splice, lines_of, seen_lines, is_line, splice_from, spliced}
use Rattle.abc_lines.specs.Edits.{replaced}

-- one more line has been copied
pub copied-more : (lines : List (Vec ℕ)) (copies : Text) (i : ℕ) (line : Vec ℕ) → i < length lines → line ≡ get_or lines i line
    → copies ≡ lines_of (take i lines) → copies ++ line.items ∷ [] ≡ lines_of (take (i + 1) lines)
copied-more lines copies i line within is copied =
    let after : lines_of (take (i + 1) lines) ≡ lines_of (take i lines) ++ line.items ∷ [] =
    ap lines_of (take_more lines i line within) ∙ map-append (λ (l : Vec ℕ). l.items) (take i lines) (get_or lines i line ∷ [])
    ∙ ap (λ x. lines_of (take i lines) ++ x ∷ []) (ap (λ (l : Vec ℕ). l.items) (sym is)) in
    ap (λ t. t ++ line.items ∷ []) copied ∙ sym after

pub length-lines_of : (lines : List (Vec ℕ)) → length (lines_of lines) ≡ length lines
length-lines_of lines = length-map lines (λ (line : Vec ℕ). line.items)

pub length-spliced : (text : Text) (s : Splice) → s.at + s.removed ≤ length text → length (spliced text s) + s.removed ≡ length text + length s.lines
unfolding spliced
length-spliced text s within = grind (arith, common_steps)

pub replaced-outside : (text : Text) (s : Splice) → length text < s.at + s.removed → replaced text s ≡ Err BadRange
unfolding replaced
replaced-outside text s outside = grind (arith, nat_tests)

pub replaced-bad : (text : Text) (s : Splice) → s.at + s.removed ≤ length text → list_all is_line s.lines ≡ false → replaced text s ≡ Err BadLine
unfolding replaced
replaced-bad text s within bad = grind (arith, nat_tests)

pub replaced-large : (text : Text) (s : Splice) → s.at + s.removed ≤ length text → list_all is_line s.lines ≡ true → MOST_LINES < length (spliced text s) → replaced text s ≡ Err TooLarge
unfolding replaced
replaced-large text s within good large = grind (arith, nat_tests)

pub replaced-inside : (text : Text) (s : Splice) → s.at + s.removed ≤ length text → list_all is_line s.lines ≡ true → length (spliced text s) ≤ MOST_LINES → replaced text s ≡ Ok (spliced text s)
unfolding replaced
replaced-inside text s within good small = grind (arith, nat_tests)

joined : (xs ys : Text) → list_all is_line xs ≡ true → list_all is_line ys ≡ true → list_all is_line (xs ++ ys) ≡ true
joined xs ys front back = list_all-append is_line xs ys ∙ ap (λ a. a && list_all is_line ys) front ∙ back

front_good : (n : ℕ) (text : Text) → list_all is_line text ≡ true → list_all is_line (take n text) ≡ true
front_good n text good =
    list_all-from_AllPass is_line (take n text) (All-take (λ x. is_line x ≡ true) n text (AllPass-from_list_all is_line text good))

rest_good : (n : ℕ) (text : Text) → list_all is_line text ≡ true → list_all is_line (drop n text) ≡ true
rest_good n text good =
    list_all-from_AllPass is_line (drop n text) (All-drop (λ x. is_line x ≡ true) n text (AllPass-from_list_all is_line text good))

-- a splice of lines into a text makes a text if the lines are few enough
pub IsText-spliced : (text : Text) (s : Splice) → IsText text → list_all is_line s.lines ≡ true → length (spliced text s) ≤ MOST_LINES → IsText (spliced text s)
unfolding spliced
IsText-spliced text s is good few = record {
  count = few;
  lines = joined (take s.at text ++ s.lines) (drop (s.at + s.removed) text) (joined (take s.at text) s.lines (front_good s.at text is.lines) good) (rest_good (s.at + s.removed) text is.lines);
}

-- a splice of a text is one of its list
pub spliced-list : (list after : GapListView (List ℕ)) (held : LineBufferView) (at removed : ℕ) (lines : List (Vec ℕ)) (copies : Text) → line_buffer_view list ≡ held → copies ≡ lines_of lines
    → after ≡ after_splice list at removed copies → spliced held.text (splice_from at removed lines) ≡ after.items
unfolding spliced after_splice
spliced-list list after held at removed lines copies holds copied made =
    ap (λ text. replaced_run text at removed (lines_of lines)) (sym (ap (λ (h : LineBufferView). h.text) holds))
    ∙ ap (replaced_run list.items at removed) (sym copied)
    ∙ ap (λ (g : GapListView (List ℕ)). g.items) (sym made)

-- one more line has been borrowed
pub seen_more : (text : Text) (i : ℕ) (before after : List (Bor (List ℕ))) (line : Bor (List ℕ)) → Some line.now ≡ slice_get text i → seen_lines before ≡ take i text → after ≡ before ++ line ∷ []
    → seen_lines after ≡ take (i + 1) text
seen_more text i before after line here so_far pushed =
    let within : i < length text = slice_get_within text i line.now (sym here) in
    let item : get_or text i line.now ≡ line.now = get_or_from_slice_get text i line.now line.now (sym here) in
    ap seen_lines pushed ∙ map_push (λ (l : Bor (List ℕ)). l.now) before line
    ∙ ap (λ t. t ++ line.now ∷ []) so_far
    ∙ ap (λ x. take i text ++ x ∷ []) (sym item)
    ∙ sym (take_more text i line.now within)
