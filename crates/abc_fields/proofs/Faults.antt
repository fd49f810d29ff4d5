-- Each fault has a number of its own.
use Rattle.std.proofs.Common.{◌≡◌, ℕ, ◌-◌, List, [], ◌∷◌, get_or, refl, sym, ap, ◌∙◌}
use Rattle.abc_fields.specs.declared.fault_code.FaultCode.{FaultCode}
use Rattle.abc_fields.specs.declared.fault_code.FaultCode.TheVariants.{BadReference, BadMeter, BadUnit, BadTempo, BadKey, BadOrder, BadPart, BadVoice, TooManyVoices, BadByte, Unclosed, BadLength}
use Rattle.abc_fields.specs.declared.fault_code.FaultCode.TheVariants.{BadTuplet, NestedTuplet, BadBroken, LooseTie, EmptyChord, BigChord, BadEnding, FreeBarRest, KeyRange, MissingKey, TempoRange}
use Rattle.abc_fields.specs.declared.fault_code.FaultCode.TheVariants.{UnknownPart, UnevenVoices, TuneTooLong, BadProgram}
use Rattle.abc_fields.specs.Fault.{number_of}

in_order : List FaultCode
in_order =
    BadReference ∷ BadMeter ∷ BadUnit ∷ BadTempo ∷ BadKey ∷ BadOrder ∷ BadPart ∷ BadVoice ∷ TooManyVoices
    ∷ BadByte ∷ Unclosed ∷ BadLength ∷ BadTuplet ∷ NestedTuplet ∷ BadBroken ∷ LooseTie ∷ EmptyChord ∷ BigChord
    ∷ BadEnding ∷ FreeBarRest ∷ KeyRange ∷ MissingKey ∷ TempoRange ∷ UnknownPart ∷ UnevenVoices ∷ TuneTooLong ∷ BadProgram ∷ []

-- the fault of a number
numbered : ℕ → FaultCode
numbered n = get_or in_order (n - 1) BadReference

numbered_is : (code : FaultCode) → numbered (number_of code) ≡ code
unfolding in_order numbered
numbered_is BadReference = refl
numbered_is BadMeter = refl
numbered_is BadUnit = refl
numbered_is BadTempo = refl
numbered_is BadKey = refl
numbered_is BadOrder = refl
numbered_is BadPart = refl
numbered_is BadVoice = refl
numbered_is TooManyVoices = refl
numbered_is BadByte = refl
numbered_is Unclosed = refl
numbered_is BadLength = refl
numbered_is BadTuplet = refl
numbered_is NestedTuplet = refl
numbered_is BadBroken = refl
numbered_is LooseTie = refl
numbered_is EmptyChord = refl
numbered_is BigChord = refl
numbered_is BadEnding = refl
numbered_is FreeBarRest = refl
numbered_is KeyRange = refl
numbered_is MissingKey = refl
numbered_is TempoRange = refl
numbered_is UnknownPart = refl
numbered_is UnevenVoices = refl
numbered_is TuneTooLong = refl
numbered_is BadProgram = refl

pub one_code : (a b : FaultCode) → number_of a ≡ number_of b → a ≡ b
one_code a b e = sym (numbered_is a) ∙ ap numbered e ∙ numbered_is b
