-- The tempo and the meter with which a tune begins.
use Rattle.std.specs.Prelude.{true, false, Option, Some, None}
use Rattle.abc_fields.specs.declared.tempo.Tempo.{Tempo}
use Rattle.abc_time.specs.declared.ratio.Ratio.{Ratio}
use Rattle.abc_bars_header.specs.Defaults.{meter_in, unit_in}
use Rattle.abc_bars_voice.specs.TempoItem.{tempo_item}
use Rattle.abc_bars_header.specs.declared.defaults.Defaults.{Defaults}
use Rattle.abc_bars_items.specs.declared.item.Item.{Item}
use Rattle.abc_bars_items.specs.declared.item.Item.TheVariants as items

-- The tempo of a tune by the tempo of its header, if it sets one.
abbrev pub opening_tempo_by : Ratio → Option Tempo → Item
opening_tempo_by unit None = items.Tempo true None false
opening_tempo_by unit (Some tempo) = tempo_item true unit tempo

-- The tempo with which a tune begins whose header ends with these values. ABC 2.1 section 3.1.8.
abbrev pub opening_tempo : Defaults → Item
opening_tempo defaults = opening_tempo_by (unit_in defaults) defaults.tempo

-- The meter with which a tune begins whose header ends with these values. ABC 2.1 section 3.1.6.
abbrev pub opening_meter : Defaults → Item
opening_meter defaults = items.Meter true (Some (meter_in defaults))
