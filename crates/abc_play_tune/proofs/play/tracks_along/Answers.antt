use Rattle.std.proofs.Common.{◌∙◌, arith}
use Rattle.abc_voices_sections.specs.Items.{items_of}
use Rattle.abc_play_tune.specs.Play.{counted_voices, played_sections}
use Rattle.abc_voices_sections.specs.Turns.{stages_in}
use Rattle.abc_play_tune.proofs.Lengths.{are_stages}
use Rattle.abc_play_tune.proofs.Tracks.{first_counted, stages_hold, length_along-total, for_voices-timed}
use Rattle.abc_play_tune.proofs.play.tracks_along.Goals as goal

pub returns-in_default-clause-too_late : goal.returns-in_default-clause-too_late
returns-in_default-clause-too_late c = λ _. omega (arith, c.in_default.ensures, length_along-total c.args.tune.now (stages_in c.args.turns.now) c.requires.stages)

pub voices_along-requires-clause-stages : goal.voices_along-requires-clause-stages
voices_along-requires-clause-stages c =
    are_stages c.args.turns.now (stages_hold (counted_voices (items_of c.args.tune.now)) (played_sections c.args.tune.now) (stages_in c.args.turns.now) c.requires.stages)

pub voices_along-requires-clause-voices : goal.voices_along-requires-clause-voices
voices_along-requires-clause-voices c = omega (arith, first_counted (items_of c.args.tune.now), c.requires.first, c.requires.count)

pub returns-clause-value : goal.returns-clause-value
returns-clause-value c =
    c.in_ok-found.ensures ∙ for_voices-timed c.args.tune.now (stages_in c.args.turns.now) c.args.first c.args.count c.requires.first c.requires.count c.requires.stages
