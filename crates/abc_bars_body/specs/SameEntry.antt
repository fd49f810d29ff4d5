-- Whether two entries are equal. Not in ABC 2.1.
use Rattle.std.specs.Prelude.{◌≡◌, Bool, true, List, refl}
use Rattle.abc_fold.specs.Steps.{Steps, IsResumable, resumable_where_equal}
use Rattle.abc_bars_items.specs.Item.{Items}
use Rattle.abc_bars_voice.specs.Equality.{Equality, by_code}
use Rattle.abc_scan.specs.declared.spanned.Spanned.{Spanned}
use Rattle.abc_scan.specs.declared.token.TokenKind.{TokenKind}
use Rattle.abc_bars_body.specs.contracts.entry.Entry.{the_row}
use Rattle.abc_bars_body.specs.declared.entry.Entry.{Entry}
use Rattle.abc_bars_body.specs.Step.{entry_step}

-- Entries, by each of their components.
abbrev pub entry_equality : Equality Entry
entry_equality = by_code the_row.coded

-- Whether two entries are equal.
unfoldable pub same_entry : Entry → Entry → Bool
same_entry = entry_equality.same

-- It decides exactly whether they are equal.
pub same_entry_decides : (a b : Entry) → (same_entry a b ≡ true → a ≡ b) × (a ≡ b → same_entry a b ≡ true)
unfolding same_entry
same_entry_decides a b = entry_equality.exact a b

-- The fold over bars: the state after a cell, its items, and which states are equivalent.
abbrev pub bar_steps : Steps Entry (List (Spanned TokenKind)) Items
bar_steps = record {
  next = λ entry cell. (entry_step entry cell).0;
  gives = λ entry cell. (entry_step entry cell).1;
  alike = same_entry;
}

-- Equivalent entries may replace each other: they are equal.
pub bars_resumable : IsResumable bar_steps
bars_resumable = resumable_where_equal bar_steps (λ a b. (same_entry_decides a b).0) (λ a. (same_entry_decides a a).1 refl)
