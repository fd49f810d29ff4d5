-- The splices that edits name.
use Rattle.std.proofs.Common.{◌≡◌, ℕ, ◌+◌, ◌-◌, ◌<◌, ◌≤◌, ◌==◌, ◌&&◌, Bool, true, false, if◌then◌else◌, nat_le, Some, None, Err, sym, ap, ◌∙◌, arith}
use Rattle.std.proofs.lemmas.Bool.Decides.{nat_tests}
use Rattle.abc_lines.specs.declared.edit_error.EditError.TheVariants.{BadRange}
use Rattle.abc_lines.specs.Text.{Text}
use Rattle.abc_lines.specs.Edits.{replaced, insertion, replacement, edited}

-- an insertion leaves out no line
pub edited-insertion : (text : Text) (at : ℕ) (lines : Text) → 1 ≤ at
    → edited text (insertion at lines) ≡ replaced text (record { at = at - 1; removed = 0; lines = lines })
unfolding edited
edited-insertion text at lines above =
    let test : (at == 0) ≡ false = grind (arith, nat_tests) in
    ap (λ (b : Bool). edited text (if b then None else Some (record { at = at - 1; removed = 0; lines = lines }))) test

pub edited-insertion-zero : (text : Text) (at : ℕ) (lines : Text) → at ≡ 0 → edited text (insertion at lines) ≡ Err BadRange
unfolding edited
edited-insertion-zero text at lines zero =
    let test : (at == 0) ≡ true = grind (arith, nat_tests) in
    ap (λ (b : Bool). edited text (if b then None else Some (record { at = at - 1; removed = 0; lines = lines }))) test

-- a range that runs forwards is a run of lines
pub edited-replacement : (text : Text) (from to removed : ℕ) (lines : Text) → 1 ≤ from → from ≤ to → removed ≡ to + 1 - from
    → edited text (replacement from to lines) ≡ replaced text (record { at = from - 1; removed = removed; lines = lines })
unfolding edited
edited-replacement text from to removed lines above below count =
    let test : nat_le 1 from && nat_le from to ≡ true = grind (arith, nat_tests) in
    ap (λ (b : Bool). edited text (if b then Some (record { at = from - 1; removed = to + 1 - from; lines = lines }) else None)) test
    ∙ ap (λ n. replaced text (record { at = from - 1; removed = n; lines = lines })) (sym count)

pub edited-replacement-bad : (text : Text) (from to : ℕ) (lines : Text) → (1 ≤ from → to < from) → edited text (replacement from to lines) ≡ Err BadRange
unfolding edited
edited-replacement-bad text from to lines backwards =
    let test : nat_le 1 from && nat_le from to ≡ false = grind (arith, nat_tests) in
    ap (λ (b : Bool). edited text (if b then Some (record { at = from - 1; removed = to + 1 - from; lines = lines }) else None)) test
