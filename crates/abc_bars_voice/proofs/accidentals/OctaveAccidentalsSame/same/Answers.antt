use Rattle.std.proofs.Common.{◌∙◌, ap, sym}
use Rattle.abc_bars_voice.specs.OctaveGroups.{octaves_of}
use Rattle.abc_bars_voice.proofs.Groups.{one_grouping}
use Rattle.abc_bars_voice.proofs.accidentals.OctaveAccidentalsSame.same.Goals as goal

pub returns : goal.returns
returns c = (
  λ same. sym c.self.view_is ∙ ap octaves_of (c.same.ensures.0 same) ∙ c.other.view_is,
  λ same. c.same.ensures.1 (one_grouping c.self.inside.groups c.other.inside.groups c.self.invariant c.other.invariant (c.self.view_is ∙ same ∙ sym c.other.view_is)),
)
