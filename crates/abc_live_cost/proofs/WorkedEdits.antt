-- The counts of the worked edits, computed.
use Rattle.std.proofs.Common.{refl}
use Rattle.abc_book.specs.Block.{blocks_of}
use Rattle.abc_lines.specs.Text.{spliced}
use Rattle.abc_scan.specs.Directive.{directive_of}
use Rattle.abc_live_cost.specs.WorkedEdits.{WorkedEdits}

pub worked_edits : WorkedEdits
unfolding spliced blocks_of directive_of
worked_edits = record {
  nothing = (refl, refl);
  line_put = (refl, refl);
  line_added = (refl, refl);
  equal_line = (refl, refl);
  comment_put = (refl, refl);
  blank_added = (refl, refl);
  cut_short = (refl, refl);
  blank_put = (refl, refl);
  cut_in_two = (refl, refl);
  joined = (refl, refl);
  first_goes = (refl, refl);
  other_meter = (refl, refl);
  header_longer = (refl, refl);
  meter_before = (refl, refl);
  inside_a_line = (refl, refl);
  header_goes = (refl, refl);
  header_to_tune = (refl, refl);
}
