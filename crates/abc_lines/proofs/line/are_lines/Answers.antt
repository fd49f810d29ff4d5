use Rattle.std.proofs.Common.{ℕ, ◌∙◌, sym, rules, tests}
use Rattle.std.specs.Global.{Vec}
use Rattle.std.proofs.lemmas.Iterator.{YieldsList-from_slice}
use Rattle.std.proofs.lemmas.Iterator.Search.{all_from_yields_List}
use Rattle.std.proofs.lemmas.List.Folds.{list_all-map}
use Rattle.abc_lines.specs.Text.{is_line}
use Rattle.abc_lines.proofs.line.are_lines.Goals as goal

pub returns : goal.returns
returns c =
    all_from_yields_List (λ (line : Vec ℕ). is_line line.items) _ _ _ c.all.ensures.ran (YieldsList-from_slice c.args.lines.now cc) (λ x b q k. search (rules, tests))
    ∙ sym (list_all-map is_line (λ (line : Vec ℕ). line.items) c.args.lines.now)
