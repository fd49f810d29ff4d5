use Rattle.std.proofs.Common.{ap, ◌∙◌}
use Rattle.abc_scan.specs.Class.{class_of_text, BeginsWithPercent, IsFieldLine}
use Rattle.abc_scan.specs.Directive.{IsDirectiveLine}
use Rattle.abc_text.specs.Blank.{AreBlanks}
use Rattle.abc_text.specs.LineEnd.{without_return}
use Rattle.abc_scan.proofs.ClassLaws.{Laws, laws}
use Rattle.abc_scan.proofs.line_class.class_of.Goals as goal
use Rattle.abc_scan.proofs.line_class.class_of.Goals.{After-class_of_text}

told : (c : After-class_of_text) → Laws c.class_of_text.result (AreBlanks (without_return c.args.line.now)) (BeginsWithPercent (without_return c.args.line.now)) (IsDirectiveLine
    (without_return c.args.line.now)) (IsFieldLine (without_return c.args.line.now))
told c = laws (without_return c.args.line.now) c.class_of_text.result (c.class_of_text.ensures ∙ ap class_of_text c.without_return.ensures.value)

pub returns-clause-blank : goal.returns-clause-blank
returns-clause-blank c = (told c).blank

pub returns-clause-comment : goal.returns-clause-comment
returns-clause-comment c = (told c).comment

pub returns-clause-directive : goal.returns-clause-directive
returns-clause-directive c = (told c).directive

pub returns-clause-field : goal.returns-clause-field
returns-clause-field c = (told c).field

pub returns-clause-music : goal.returns-clause-music
returns-clause-music c = (told c).music
