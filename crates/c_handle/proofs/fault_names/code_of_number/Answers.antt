use Rattle.std.proofs.Common.{◌≡◌, ◌-◌, ◌==◌, false, None, cond, ap, sym, ◌∙◌, arith}
use Rattle.std.proofs.lemmas.Bool.Decides.{nat_tests}
use Rattle.std.specs.Prelude.{slice_get}
use Rattle.c_handle.specs.declared.fault_names.TheConstants.{FAULT_CODES}
use Rattle.c_handle.proofs.fault_names.code_of_number.Goals as goal

pub returns : goal.returns
returns c =
    let counted : (c.args.number == 0) ≡ false = grind (arith, nat_tests, c.if-number-eq0.false) in
    record { value = c.code_at.ensures.value ∙ ap (λ b. cond b None (slice_get FAULT_CODES (c.args.number - 1))) (sym counted) }
