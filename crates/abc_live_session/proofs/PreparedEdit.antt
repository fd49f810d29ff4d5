-- What an edit of a kept text makes is a prepared edit.
use Rattle.std.proofs.Common.{◌≡◌, Bool, true, false, if◌then◌else◌, drop, not, length, nat_le, Result, Ok, Err, refl, sym, subst}
use Rattle.std.proofs.Common.{◌∙◌, ap}
use Rattle.std.specs.List.{AllZip, list_all}
use Rattle.std.specs.Prelude.{IfOk}
use Rattle.abc_live_text.specs.KeptText.{TextPatchView, IsStretch, KeptTextView, ArePartsOf, parts_after, parts_of}
use Rattle.abc_live_cost.specs.OldItems.{HasItemsOf}
use Rattle.abc_fold.specs.Steps.{Steps}
use Rattle.abc_lines.specs.Edits.{replaced}
use Rattle.abc_lines.specs.Text.{IsText, Splice, Text, is_line, spliced}
use Rattle.abc_lines.specs.declared.limits.TheConstants.{MOST_LINES}
use Rattle.abc_lines.specs.declared.edit_error.EditError.{EditError}
use Rattle.abc_lines.specs.declared.edit_error.EditError.TheVariants.{BadRange, BadLine, TooLarge}
use Rattle.abc_live_session.specs.Prepared.{IsPrepared}
use Rattle.abc_tune_compiler.specs.Rules.{Rules}
use Rattle.std.proofs.Common.{◌+◌}

abbrev judged : {A E : Type 0} → Bool → Bool → Bool → E → E → E → A → Result A E
judged a b c one two three x = if a then Err one else (if b then Err two else (if c then Err three else Ok x))

judged_ok : {A E : Type 0} (a b c : Bool) (one two three : E) (x : A) → IfOk (judged a b c one two three x) (λ t. t ≡ x)
judged_ok true b c one two three x = tt
judged_ok false true c one two three x = tt
judged_ok false false true one two three x = tt
judged_ok false false false one two three x = refl

-- a text that a splice makes
pub splice_makes : (text : Text) (s : Splice) (new : Text) → replaced text s ≡ Ok new → new ≡ spliced text s
unfolding replaced
splice_makes text s new is =
    let own = judged_ok (not (nat_le (s.at + s.removed) (length text))) (not (list_all is_line s.lines))
    (not (nat_le (length (spliced text s)) MOST_LINES)) BadRange BadLine TooLarge (spliced text s) in
    subst (λ (r : Result Text EditError). IfOk r (λ t. t ≡ spliced text s)) is own

pub is_prepared : {C State Cell Items Defaults : Type 0} (steps : Steps State Cell Items) (rules : Rules State Cell Items Defaults)
    (s : Splice) (patch : TextPatchView C State Cell Items) (text : KeptTextView C State Cell Items)
    → patch.on ≡ text → ArePartsOf steps rules text.lines.text (parts_of text)
    → replaced text.lines.text s ≡ Ok patch.text → IsText patch.text → ArePartsOf steps rules patch.text (parts_after patch)
    → IsStretch s patch → AllZip (HasItemsOf (drop 1 text.chains.items)) patch.new_chains patch.reused_tunes
    → IsPrepared steps rules s patch
is_prepared {C = C} {State = State} {Cell = Cell} {Items = Items} steps rules s patch text on old_parts made limits new_parts narrow items =
    record {
      makes = splice_makes text.lines.text s patch.text made ∙ ap (λ (k : KeptTextView C State Cell Items). spliced k.lines.text s) (sym on);
      limits = limits;
      old_parts = subst (λ (k : KeptTextView C State Cell Items). ArePartsOf steps rules k.lines.text (parts_of k)) (sym on) old_parts;
      new_parts = new_parts;
      in_stretch = narrow;
      own_items = subst (λ (k : KeptTextView C State Cell Items). AllZip (HasItemsOf (drop 1 k.chains.items)) patch.new_chains patch.reused_tunes) (sym on) items;
    }
