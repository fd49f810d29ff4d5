use Rattle.std.proofs.Common.{◌≡◌, ◌-◌, ◌∙◌, sym, ap, subst, List}
use Rattle.std.specs.Prelude.{IfOk}
use Rattle.abc_voices_score.specs.declared.score.ProgramChange.{ProgramChange}
use Rattle.abc_voices.specs.Turns.{stages_in, programs_along}
use Rattle.abc_voices.proofs.Steady.{programs_kept}
use Rattle.abc_voices.proofs.programs.voices_programs.Goals as goal

pub returns-then-keeps_programs : goal.returns-then-keeps_programs
returns-then-keeps_programs c =
    let kept = c.requires.programs (sym c.keeps_programs.ensures ∙ c.if-keeps_programs.true) in
    let stages = stages_in c.args.turns.now in
    let same = programs_kept c.opening_program-opening.result c.args.first (c.args.count - c.args.first) stages kept
    ∙ ap (λ opening. programs_along opening stages c.args.first (c.args.count - c.args.first)) c.opening_program-opening.ensures in
    subst (λ (l : List (List ProgramChange)). IfOk c.each_programs.result (λ voices. voices ≡ l)) same c.each_programs.ensures
