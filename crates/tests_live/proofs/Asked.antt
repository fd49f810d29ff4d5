-- The items of a tune of one line are those of its key.
use Rattle.std.proofs.Common.{◌≡◌, ℕ, true, ◌&&◌, List, [], ◌∷◌, refl, sym, ap, ◌∙◌, append-nil}
use Rattle.abc_fold.specs.Steps.{items_from}
use Rattle.abc_lines.specs.Text.{is_line}
use Rattle.abc_tune_memo.specs.Bytes.{line_bytes}
use Rattle.abc_tune_memo.specs.Memo.{AreItemsOf}
use Rattle.abc_scan.specs.Class.{class_of}
use Rattle.tests_live.specs.declared.toy.Played.{Played}
use Rattle.tests_live.specs.Toy.{cells_of, toy_rules, toy_steps}

pub asked : (byte : ℕ) (line bytes : List ℕ) (items : List Played) → is_line line ≡ true → bytes ≡ line_bytes (class_of line) line
    → items ≡ items_from toy_steps byte (cells_of line) → AreItemsOf toy_steps toy_rules (record { defaults = byte; bytes = bytes }) items
asked byte line bytes items limits own given = record {
  header = byte;
  lines = line ∷ [];
  own_defaults = refl;
  limits = ap (λ is. is && true) limits;
  own_bytes = append-nil (line_bytes (class_of line) line) ∙ sym own;
  own_items = given ∙ ap (items_from toy_steps byte) (sym (append-nil (cells_of line)));
}
