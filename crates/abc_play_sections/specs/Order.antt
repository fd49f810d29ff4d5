-- The steps of a voice in a section, in the order in which repeats and endings play them. Not in ABC 2.1.
use Rattle.std.specs.Prelude.{List}
use Rattle.abc_voices_sections.specs.declared.ending_fields.EndingRegion.{EndingRegion}
use Rattle.abc_voices_sections.specs.EndingFields.{with_waiting, ordered_from, ordered}
use Rattle.abc_play_sections.specs.declared.step.PlayStep.{PlayStep}
use Rattle.abc_play_sections.specs.Step.{as_item}

-- An ending's sign goes before what has waited for it, anything else after it.
abbrev pub put_with_waiting : List PlayStep → PlayStep → List PlayStep
put_with_waiting waiting step = with_waiting as_item waiting step

-- The steps from a place on in the order of their play, after the steps `waiting`.
abbrev pub in_order_from : EndingRegion → List PlayStep → List PlayStep → List PlayStep
in_order_from region waiting steps = ordered_from as_item region waiting steps

-- The steps of a voice in a section. Fields and bar lines after an ending's bar are played with the next ending.
abbrev pub in_order : List PlayStep → List PlayStep
in_order steps = ordered as_item steps
