-- A fold with rarely equal but often equivalent states. Not in ABC 2.1.
use Rattle.std.specs.Prelude.{ℕ, ◌+◌, ◌-◌, ◌^◌, Bool, ◌==◌, if◌then◌else◌, min, refl}
use Rattle.std.proofs.Common.{sym, ◌∙◌}
use Rattle.std.proofs.lemmas.Bool.{eqb-true, eq-eqb}
use Rattle.abc_fold.specs.Steps.{Steps, IsResumable}
use Rattle.tests_text.specs.declared.chains.Counted.{Counted}

-- The count after a cell: 0 starts again, another number is added, up to 255. The mark counts the cells.
abbrev pub next_count : Counted → ℕ → Counted
next_count state cell = record {
  count = if cell == 0 then 0 else min (state.count + cell) 255;
  mark = min (state.mark + 1) (2 ^ 64 - 1);
}

-- The item of a cell is the count before it.
abbrev pub count_before : Counted → ℕ → ℕ
count_before state cell = state.count

-- States are equivalent if their counts are equal. Their marks may differ.
abbrev pub same_count : Counted → Counted → Bool
same_count a b = a.count == b.count

abbrev pub counting : Steps Counted ℕ ℕ
counting = record { next = next_count; gives = count_before; alike = same_count }

pub counting_resumable : IsResumable counting
counting_resumable = record {
  reflexive = λ a. eq-eqb a.count a.count refl;
  symmetric = λ a b ab. eq-eqb b.count a.count (sym (eqb-true a.count b.count ab));
  transitive = λ a b c ab bc. eq-eqb a.count c.count (eqb-true a.count b.count ab ∙ eqb-true b.count c.count bc);
  equal_items = λ a b cell ab. eqb-true a.count b.count ab;
  alike_states = λ a b cell ab. rw (eqb-true a.count b.count ab) (eq-eqb (next_count b cell).count (next_count b cell).count refl);
}
