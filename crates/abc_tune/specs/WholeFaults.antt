-- The faults of a tune as a whole.
use Rattle.std.specs.Prelude.{ℕ, ◌<◌, Bool, true, false, not, if◌then◌else◌, List, [], ◌∷◌, ◌++◌}
use Rattle.std.specs.List.{list_any}
use Rattle.abc_bars_items.specs.declared.item.Item.{Item}
use Rattle.abc_bars_items.specs.declared.item.Item.TheVariants as items
use Rattle.abc_fields.specs.declared.fault_code.FaultCode.{FaultCode}
use Rattle.abc_fields.specs.declared.fault_code.FaultCode.TheVariants as codes
use Rattle.abc_fields.specs.Fault.{number_of}
use Rattle.abc_voices.specs.Opening.{after_all}

-- Whether an item is the key of the K: that ends a header, accepted or not. ABC 2.1 section 3.1.14.
abbrev pub is_opening_key : Item → Bool
is_opening_key (items.Key opening key) = opening
is_opening_key _ = false

-- Whether the header of a tune has no K:. ABC 2.1 section 3.1.14; how it is read then is not in ABC 2.1.
abbrev pub lacks_key : List Item → Bool
lacks_key tune = not (list_any is_opening_key tune)

-- Whether the tempo with which a tune opens is out of range, after an item: a Q: of the header decides it.
abbrev pub out_after : Bool → Item → Bool
out_after before (items.Tempo true micros out) = out
out_after before _ = before

-- Whether no tempo event (SMF 1.0) can hold the tempo with which a tune opens, the last that its header sets.
abbrev pub opens_out_of_range : List Item → Bool
opens_out_of_range tune = after_all out_after false tune

-- A fault, if it is there.
abbrev pub fault_if : Bool → FaultCode → List FaultCode
fault_if there code = if there then code ∷ [] else []

-- The faults of a tune, by whether a part is unknown, voices are uneven and the tune is too long: in the order
-- of their numbers, each once.
abbrev pub faults_with : List Item → Bool → Bool → Bool → List FaultCode
faults_with tune unknown uneven long =
    fault_if (lacks_key tune) codes.MissingKey
    ++ fault_if (opens_out_of_range tune) codes.TempoRange
    ++ fault_if unknown codes.UnknownPart
    ++ fault_if uneven codes.UnevenVoices
    ++ fault_if long codes.TuneTooLong

-- The faults have numbers that rise from above this one.
abbrev pub AreRisingFrom : ℕ → List FaultCode → Type 0
AreRisingFrom number [] = Unit {0}
AreRisingFrom number (fault ∷ faults) = (number < number_of fault) × AreRisingFrom (number_of fault) faults

-- The fault of a tune that is too long.
abbrev pub is_too_long_fault : FaultCode → Bool
is_too_long_fault codes.TuneTooLong = true
is_too_long_fault _ = false
