-- What a tune opens with, by the items of its header.
use Rattle.std.specs.Prelude.{ℕ, ℤ, Bool, true, List, [], ◌∷◌, Option, Some}
use Rattle.abc_bars_items.specs.declared.item.Item.{Item}
use Rattle.abc_bars_items.specs.declared.item.Item.TheVariants as items
use Rattle.abc_fields.specs.declared.meter.Meter.{Meter}

-- The tempo with which the tune opens, after an item: a Q: of the header sets it.
abbrev pub tempo_after : Option ℕ → Item → Option ℕ
tempo_after tempo (items.Tempo true micros out) = micros
tempo_after tempo _ = tempo

-- The meter with which the tune opens, after an item: an M: of the header sets it.
abbrev pub meter_after : Option Meter → Item → Option Meter
meter_after meter (items.Meter true opening) = opening
meter_after meter _ = meter

-- The key with which the tune opens, after an item: the field that ends the header sets it.
abbrev pub key_after : Option (ℤ × Bool) → Item → Option (ℤ × Bool)
key_after key (items.Key true opening) = opening
key_after key _ = key

-- The program with which the tune opens, after an item: the last directive of the header that sets one counts.
abbrev pub program_after : Option ℕ → Item → Option ℕ
program_after program (items.Program true (Some number)) = Some number
program_after program _ = program

-- The order of the parts after an item: the last one counts. Not in ABC 2.1.
abbrev pub order_after : Option (List ℕ) → Item → Option (List ℕ)
order_after order (items.Order text) = Some text
order_after order _ = order

-- The value after the items of a tune, from the value before them.
abbrev pub after_all : {V : Type 0} → (V → Item → V) → V → List Item → V
after_all past value [] = value
after_all past value (step ∷ tune) = after_all past (past value step) tune

-- The title before an item: the first T: counts. ABC 2.1 section 3.1.2.
abbrev pub title_before : List ℕ → Item → List ℕ
title_before later (items.Title text) = text
title_before later _ = later

-- The title of a tune, empty if it has none.
abbrev pub title_of : List Item → List ℕ
title_of [] = []
title_of (step ∷ tune) = title_before (title_of tune) step
