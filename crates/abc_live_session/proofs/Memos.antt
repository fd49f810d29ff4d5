-- What a session with no lines has: a memo without entries, and an empty book.
use Rattle.std.proofs.Common.{◌≡◌, List, [], sym, ap, ◌∙◌, arith}
use Rattle.abc_fold.specs.Steps.{Steps}
use Rattle.abc_live_index.specs.Outputs.{files_of, titles_of}
use Rattle.abc_lines.specs.Text.{Text}
use Rattle.abc_live_session.specs.Prepared.{IsBook}
use Rattle.abc_tune_memo.specs.Memo.{Remembers}
use Rattle.abc_live_index.specs.declared.output.Output.{Output}
use Rattle.abc_tune_compiler.specs.Book.{Book, book_of}
use Rattle.abc_tune_compiler.specs.Rules.{Rules}
use Rattle.abc_tune_compiler.specs.declared.fault.Fault.{Fault}
use Rattle.abc_tune_compiler.proofs.Moves.{no_lines_no_book}

-- It remembers nothing wrong.
pub nothing_remembered : {State Cell Items Defaults : Type 0} (steps : Steps State Cell Items) (rules : Rules State Cell Items Defaults) → Remembers steps rules []
nothing_remembered steps rules entry member = absurd (omega (arith, member.1))

-- Of no lines there is nothing in the book.
pub no_book : {State Cell Items Defaults : Type 0} (steps : Steps State Cell Items) (rules : Rules State Cell Items Defaults)
    (text : Text) (outputs : List Output) (found : List Fault) → text ≡ [] → outputs ≡ [] → found ≡ []
    → IsBook outputs found (book_of steps rules text)
no_book steps rules text outputs found empty none nothing =
    let book = ap (book_of steps rules) empty ∙ no_lines_no_book steps rules in
    record {
      files = ap files_of none ∙ sym (ap (λ (b : Book). b.files) book);
      titles = ap titles_of none ∙ sym (ap (λ (b : Book). b.titles) book);
      faults = nothing ∙ sym (ap (λ (b : Book). b.faults) book);
    }
