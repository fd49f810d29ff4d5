-- Values as the worked examples write them. Not in ABC 2.1.
use Rattle.std.specs.Prelude.{List, [], ◌∷◌, codes}
use Rattle.abc_fields.specs.declared.fault_code.FaultCode.TheVariants.{BadByte, BadReference}
use Rattle.abc_lines.specs.Text.{Text}
use Rattle.abc_tune_compiler.specs.Tune.{fault_in}
use Rattle.abc_tune_compiler.specs.declared.fault.Fault.{Fault}

-- a text of four lines
abbrev pub four_lines : Text
four_lines = codes "a" ∷ codes "b" ∷ codes "c" ∷ codes "d" ∷ []

-- a text with a fault in its file header, one in a tune, and one of that tune as a whole
abbrev pub faulty_blocks : Text
faulty_blocks = codes "D:5" ∷ codes "!" ∷ [] ∷ codes "X:2" ∷ codes "!" ∷ codes "a" ∷ codes "b" ∷ codes "c" ∷ []

-- faults in no order, one of them twice
abbrev pub faults_in_no_order : List Fault
faults_in_no_order =
    fault_in 2 (1, BadByte) ∷ fault_in 1 (9, BadByte) ∷ fault_in 1 (2, BadByte) ∷ fault_in 1 (2, BadReference)
    ∷ fault_in 2 (1, BadByte) ∷ []
