-- The item of a tempo.
use Rattle.std.specs.Prelude.{Bool, false, is_none}
use Rattle.abc_fields.specs.declared.tempo.Tempo.{Tempo}
use Rattle.abc_fields.specs.declared.tempo.Tempo.TheVariants.{Unset, Units, Beat}
use Rattle.abc_time.specs.declared.ratio.Ratio.{Ratio}
use Rattle.abc_bars_voice.specs.Tempo.{micros_by}
use Rattle.abc_bars_items.specs.declared.item.Item.{Item}
use Rattle.abc_bars_items.specs.declared.item.Item.TheVariants as items

-- A tempo is set, and no tempo event can hold it; a number alone counts unit notes. Not in ABC 2.1.
abbrev pub is_out_of_range : Ratio → Tempo → Bool
is_out_of_range unit Unset = false
is_out_of_range unit (Units n) = is_none (micros_by unit (Units n))
is_out_of_range unit (Beat beat n) = is_none (micros_by unit (Beat beat n))

-- The item of an accepted tempo; a number alone counts unit notes. Not in ABC 2.1.
abbrev pub tempo_item : Bool → Ratio → Tempo → Item
tempo_item opening unit tempo = items.Tempo opening (micros_by unit tempo) (is_out_of_range unit tempo)
