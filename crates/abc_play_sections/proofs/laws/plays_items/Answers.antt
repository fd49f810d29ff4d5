use Rattle.abc_play_sections.proofs.Items.{plays_items}
use Rattle.abc_play_sections.proofs.laws.plays_items.Goals as goal

pub returns : goal.returns
returns c = plays_items
