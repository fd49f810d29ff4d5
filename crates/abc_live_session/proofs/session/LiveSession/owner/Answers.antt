use Rattle.std.proofs.Common.{rules, ◌≡◌, sym, ap, ◌∙◌}
use Rattle.abc_live_session.specs.Owner.{owner_of, tune_file}
use Rattle.abc_live_session.specs.Session.{session_tunes, session_view}
use Rattle.abc_live_session.proofs.OwnTunes.{owner_in_text}
use Rattle.abc_live_session.proofs.OwnerFiles.{file_of_owner}
use Rattle.abc_live_session.proofs.session.LiveSession.owner.Goals as goal

pub returns-clause-value : goal.returns-clause-value
returns-clause-value g c =
    let view : session_view c.self.inside.text c.self.inside.book ≡ c.args.self.now = search rules in
    let compiler = c.self.inside.text.compiler in
    let text = c.self.inside.text.lines.text in
    c.owner.ensures
    ∙ owner_in_text (g.C.Fold.steps compiler) (g.C.Compiler.rules compiler) text c.self.inside.text.chains.items
    c.self.inside.book.outputs.items c.args.n c.lines.ensures.parts.chains_are c.self.invariant.0
    ∙ ap (λ s. owner_of (session_tunes g.C.Fold.steps g.C.Compiler.rules s) c.args.n) view

pub returns-clause-file : goal.returns-clause-file
returns-clause-file g c =
    let view : session_view c.self.inside.text c.self.inside.book ≡ c.args.self.now = search rules in
    let compiler = c.self.inside.text.compiler in
    let text = c.self.inside.text.lines.text in
    let own = c.owner.ensures
    ∙ owner_in_text (g.C.Fold.steps compiler) (g.C.Compiler.rules compiler) text c.self.inside.text.chains.items
    c.self.inside.book.outputs.items c.args.n c.lines.ensures.parts.chains_are c.self.invariant.0
    ∙ ap (λ s. owner_of (session_tunes g.C.Fold.steps g.C.Compiler.rules s) c.args.n) view in
    let now = c.args.self.now in
    file_of_owner c.args.n (g.C.Fold.steps now.compiler) (g.C.Compiler.rules now.compiler) now.text
    ∙ ap (tune_file (session_tunes g.C.Fold.steps g.C.Compiler.rules now)) (sym own)
