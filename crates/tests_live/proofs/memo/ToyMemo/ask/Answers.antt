use Rattle.std.proofs.Common.{ap, ◌∙◌, ◌++◌}
use Rattle.abc_tune_memo.specs.Bytes.{line_bytes}
use Rattle.tests_live.proofs.Asked.{asked}
use Rattle.tests_live.proofs.memo.ToyMemo.ask.Goals as goal

pub built-requires-clause-of_key : goal.built-requires-clause-of_key
built-requires-clause-of_key c =
    asked c.args.byte c.args.line.now c.from.result c.as_slice.result.now c.requires
    (c.from.ensures ∙ c.in_ok-put_line.ensures.ok ∙ ap (λ front. front
    ++ line_bytes c.class_of.result c.args.line.now) c.new-bytes.ensures.items ∙ ap (λ class. line_bytes class c.args.line.now) c.class_of.ensures.value)
    (c.as_slice.ensures.value ∙ c.in_ok-items.ensures)
