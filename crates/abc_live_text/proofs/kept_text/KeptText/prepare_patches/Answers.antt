use Rattle.std.proofs.Common.{◌≡◌, subst}
use Rattle.abc_lines.specs.GapList.{replaced_run}
use Rattle.abc_lines.specs.declared.limits.TheConstants.{MOST_LINES}
use Rattle.abc_live_text.specs.KeptText.{KeptTextView}
use Rattle.abc_live_text.proofs.StretchRows.{chains_reach, tunes_within_most}
use Rattle.abc_live_text.proofs.ReplacedParts.{items_after}
use Rattle.abc_live_text.proofs.kept_text.KeptText.prepare_patches.Goals as goal

pub of-requires-clause-within : goal.of-requires-clause-within
of-requires-clause-within g c = tunes_within_most g.C.Fold.steps g.C.Compiler.rules c.self.view_is c.self.invariant MOST_LINES c.len.ensures.limits.count _ c.deref-2.ensures.value

pub prepare_chains-requires-clause-inside : goal.prepare_chains-requires-clause-inside
prepare_chains-requires-clause-inside g c = chains_reach g.C.Fold.steps g.C.Compiler.rules c.self.view_is c.self.invariant c.args.new_parts.stretch.tunes.to c.requires.inside

pub returns-in-Ok-clause-rows : goal.returns-in-Ok-clause-rows
returns-in-Ok-clause-rows g c =
    subst (λ (k : KeptTextView g.row.C.Denot g.row.C-State.Denot g.row.C-Cell.Denot g.row.C-Items.Denot).
    c.in_ok-rows.rows.after.items ≡ replaced_run k.rows.items c.args.splice.now.at c.args.splice.now.removed c.args.rows.items) c.self.view_is
    (items_after c.self.inside.rows c.in_ok-rows.rows.after c.args.splice.now.at c.args.splice.now.removed c.args.rows.items c.in_ok-rows.ensures.after)
