use Rattle.std.proofs.Common.{◌∙◌}
use Rattle.abc_voices_sections.specs.Items.{items_of}
use Rattle.abc_voices.proofs.OfFields.{opening_voice_of_fields}
use Rattle.abc_voices.proofs.layout.first_track.Goals as goal

pub has_unnamed_track-requires : goal.has_unnamed_track-requires
has_unnamed_track-requires c = c.opening_voice.ensures ∙ opening_voice_of_fields (items_of c.args.tune.now) (items_of c.args.fields.now) c.requires
