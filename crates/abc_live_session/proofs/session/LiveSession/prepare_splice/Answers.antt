use Rattle.std.proofs.Common.{rules, ◌≡◌, Some, length, subst, sym}
use Rattle.std.proofs.lemmas.List.{length-map}
use Rattle.abc_live_text.specs.KeptText.{all_reused_tunes}
use Rattle.abc_live_session.specs.Counting.{MayCost, cost_of}
use Rattle.abc_live_text.specs.ItemSplice.{splice_in}
use Rattle.abc_live_session.specs.Session.{session_view}
use Rattle.abc_live_session.proofs.Costs.{fold_build, fold_only, built_count-stretch}
use Rattle.abc_live_session.proofs.PreparedEdit.{is_prepared}
use Rattle.abc_live_session.proofs.session.LiveSession.prepare_splice.Goals as goal

pub returns-in_err-text-clause-counted : goal.returns-in_err-text-clause-counted
returns-in_err-text-clause-counted g c =
    let view : session_view c.self.inside.text c.self.inside.book ≡ c.args.self.now = search rules in
    subst (λ s. MayCost (cost_of (g.C.Fold.steps s.compiler) (g.C.Compiler.rules s.compiler) s.text
    (Some (splice_in c.args.splice.now))) (g.C.Work.Counts.counts c.args.work.now) (g.C.Work.Counts.counts c.prepare.new.work)) view
    (fold_only (g.C.Fold.steps c.self.inside.text.compiler)
    (g.C.Compiler.rules c.self.inside.text.compiler) c.self.inside.text.lines.text (splice_in c.args.splice.now)
    (length c.args.splice.now.new.now) (sym (length-map c.args.splice.now.new.now (λ line. line.items))) _ _ (g.C.Work.Counts.counts c.prepare.new.work) c.prepare.ensures.counted)

pub book_after-requires-clause-prepared : goal.book_after-requires-clause-prepared
book_after-requires-clause-prepared g c =
    is_prepared (g.C.Fold.steps c.self.inside.text.compiler) (g.C.Compiler.rules c.self.inside.text.compiler) (splice_in c.args.splice.now) c.in_ok-text.text c.self.inside.text
    c.in_ok-text.ensures.on c.lines.ensures.parts c.in_ok-text.ensures.text c.in_ok-text.ensures.limits c.in_ok-text.ensures.parts c.in_ok-text.ensures.stretch c.in_ok-text.ensures.items

pub returns-clause-counted : goal.returns-clause-counted
returns-clause-counted g c =
    let view : session_view c.self.inside.text c.self.inside.book ≡ c.args.self.now = search rules in
    subst (λ s. MayCost (cost_of (g.C.Fold.steps s.compiler) (g.C.Compiler.rules s.compiler) s.text
    (Some (splice_in c.args.splice.now))) (g.C.Work.Counts.counts c.args.work.now) (g.C.Work.Counts.counts c.book_after.new.work)) view
    (fold_build (g.C.Fold.steps c.self.inside.text.compiler)
    (g.C.Compiler.rules c.self.inside.text.compiler) c.self.inside.text.lines.text (splice_in c.args.splice.now)
    (length c.args.splice.now.new.now) (sym (length-map c.args.splice.now.new.now (λ line. line.items))) _ _ _ c.prepare.ensures.counted
    (all_reused_tunes c.in_ok-text.text) c.in_ok-text.text.reused_tunes c.in_ok-text.ensures.untouched (built_count-stretch c.in_ok-text.text) c.book_after.ensures.counted)
