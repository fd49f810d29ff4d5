use Rattle.std.proofs.Common.{◌≡◌, ◌+◌, ◌-◌, ◌&&◌, nat_le, true, inl, ap₂, subst, arith}
use Rattle.std.proofs.lemmas.Bool.Decides.{nat_tests}
use Rattle.abc_lines.specs.Edits.{Refuses, replaced}
use Rattle.abc_lines.specs.Text.{Splice}
use Rattle.abc_lines.specs.TextLines.{lines_in}
use Rattle.c_handle.proofs.Refusals.{no_range, replacement_at, replacement_none}
use Rattle.c_handle.proofs.refusal.replacement_reason.Goals as goal

pub returns-then-from-eq0 : goal.returns-then-from-eq0
returns-then-from-eq0 c = record { value = inl (replacement_none c.args.session.now.text c.args.from c.args.to (lines_in c.args.text.now) (no_range c.args.from c.args.to c.then-from-eq0.either)) }

pub returns : goal.returns
returns c =
    let text = c.args.session.now.text in
    let counted : nat_le 1 c.args.from ≡ true = grind (arith, nat_tests, c.if-from-eq0.false) in
    let forwards : nat_le c.args.from c.args.to ≡ true = grind (arith, nat_tests, c.if-from-to.false) in
    let same : c.args.to - c.args.from + 1 ≡ c.args.to + 1 - c.args.from = omega (arith, c.if-from-to.false) in
    let lines = lines_in c.args.text.now in
    let refuses = subst (λ n. let s : Splice = record { at = c.args.from - 1; removed = n; lines = lines } in Refuses c.reason.result (replaced text s)) same c.reason.ensures.value in
    record { value = rw (replacement_at text c.args.from c.args.to lines (ap₂ (λ a b. a && b) counted forwards)) refuses }
