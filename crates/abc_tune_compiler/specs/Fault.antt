-- The order of faults: by line, then by column, then by the number of the code. Not in ABC 2.1.
use Rattle.std.specs.declared.cmp.Ordering.{Ordering}
use Rattle.std.specs.Ordering.{nat_cmp, on, then_cmp}
use Rattle.abc_fields.specs.Fault.{number_of}
use Rattle.abc_tune_compiler.specs.declared.fault.Fault.{Fault}

abbrev pub fault_cmp : Fault → Fault → Ordering
fault_cmp = then_cmp (on (λ fault. fault.line) nat_cmp) (then_cmp (on (λ fault. fault.column) nat_cmp)
    (on (λ fault. number_of fault.code) nat_cmp))
