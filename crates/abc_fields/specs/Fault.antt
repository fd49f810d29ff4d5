-- The names and numbers of faults.
use Rattle.std.specs.Prelude.{ℕ, List, codes}
use Rattle.abc_fields.specs.declared.fault_code.FaultCode.{FaultCode}
use Rattle.abc_fields.specs.declared.fault_code.FaultCode.TheVariants.{BadReference, BadMeter, BadUnit, BadTempo, BadKey, BadOrder}
use Rattle.abc_fields.specs.declared.fault_code.FaultCode.TheVariants.{BadPart, BadVoice, TooManyVoices, BadByte, Unclosed}
use Rattle.abc_fields.specs.declared.fault_code.FaultCode.TheVariants.{BadLength, BadTuplet, NestedTuplet, BadBroken, LooseTie}
use Rattle.abc_fields.specs.declared.fault_code.FaultCode.TheVariants.{EmptyChord, BigChord, BadEnding, FreeBarRest, KeyRange}
use Rattle.abc_fields.specs.declared.fault_code.FaultCode.TheVariants.{MissingKey, TempoRange, UnknownPart, UnevenVoices}
use Rattle.abc_fields.specs.declared.fault_code.FaultCode.TheVariants.{TuneTooLong, BadProgram}

-- The name that the list of faults prints.
abbrev pub name_of : FaultCode → List ℕ
name_of BadReference = codes "BadReference"
name_of BadMeter = codes "BadMeter"
name_of BadUnit = codes "BadUnit"
name_of BadTempo = codes "BadTempo"
name_of BadKey = codes "BadKey"
name_of BadOrder = codes "BadOrder"
name_of BadPart = codes "BadPart"
name_of BadVoice = codes "BadVoice"
name_of TooManyVoices = codes "TooManyVoices"
name_of BadByte = codes "BadByte"
name_of Unclosed = codes "Unclosed"
name_of BadLength = codes "BadLength"
name_of BadTuplet = codes "BadTuplet"
name_of NestedTuplet = codes "NestedTuplet"
name_of BadBroken = codes "BadBroken"
name_of LooseTie = codes "LooseTie"
name_of EmptyChord = codes "EmptyChord"
name_of BigChord = codes "BigChord"
name_of BadEnding = codes "BadEnding"
name_of FreeBarRest = codes "FreeBarRest"
name_of KeyRange = codes "KeyRange"
name_of MissingKey = codes "MissingKey"
name_of TempoRange = codes "TempoRange"
name_of UnknownPart = codes "UnknownPart"
name_of UnevenVoices = codes "UnevenVoices"
name_of TuneTooLong = codes "TuneTooLong"
name_of BadProgram = codes "BadProgram"

-- Its number: faults at one place are listed in the order of their numbers.
abbrev pub number_of : FaultCode → ℕ
number_of BadReference = 1
number_of BadMeter = 2
number_of BadUnit = 3
number_of BadTempo = 4
number_of BadKey = 5
number_of BadOrder = 6
number_of BadPart = 7
number_of BadVoice = 8
number_of TooManyVoices = 9
number_of BadByte = 10
number_of Unclosed = 11
number_of BadLength = 12
number_of BadTuplet = 13
number_of NestedTuplet = 14
number_of BadBroken = 15
number_of LooseTie = 16
number_of EmptyChord = 17
number_of BigChord = 18
number_of BadEnding = 19
number_of FreeBarRest = 20
number_of KeyRange = 21
number_of MissingKey = 22
number_of TempoRange = 23
number_of UnknownPart = 24
number_of UnevenVoices = 25
number_of TuneTooLong = 26
number_of BadProgram = 27
