-- Each code is that of its number.
use Rattle.std.proofs.Common.{◌≡◌, refl, Some}
use Rattle.abc_fields.specs.Fault.{number_of}
use Rattle.abc_fields.specs.declared.fault_code.FaultCode.{FaultCode}
use Rattle.abc_fields.specs.declared.fault_code.FaultCode.TheVariants.{BadReference, BadMeter, BadUnit, BadTempo, BadKey, BadOrder, BadPart}
use Rattle.abc_fields.specs.declared.fault_code.FaultCode.TheVariants.{BadVoice, TooManyVoices, BadByte, Unclosed, BadLength, BadTuplet, NestedTuplet}
use Rattle.abc_fields.specs.declared.fault_code.FaultCode.TheVariants.{BadBroken, LooseTie, EmptyChord, BigChord, BadEnding, FreeBarRest}
use Rattle.abc_fields.specs.declared.fault_code.FaultCode.TheVariants.{KeyRange, MissingKey, TempoRange, UnknownPart, UnevenVoices, TuneTooLong, BadProgram}
use Rattle.c_handle.specs.FaultNames.{code_numbered}

pub numbered : (code : FaultCode) → code_numbered (number_of code) ≡ Some code
numbered BadReference = refl
numbered BadMeter = refl
numbered BadUnit = refl
numbered BadTempo = refl
numbered BadKey = refl
numbered BadOrder = refl
numbered BadPart = refl
numbered BadVoice = refl
numbered TooManyVoices = refl
numbered BadByte = refl
numbered Unclosed = refl
numbered BadLength = refl
numbered BadTuplet = refl
numbered NestedTuplet = refl
numbered BadBroken = refl
numbered LooseTie = refl
numbered EmptyChord = refl
numbered BigChord = refl
numbered BadEnding = refl
numbered FreeBarRest = refl
numbered KeyRange = refl
numbered MissingKey = refl
numbered TempoRange = refl
numbered UnknownPart = refl
numbered UnevenVoices = refl
numbered TuneTooLong = refl
numbered BadProgram = refl
