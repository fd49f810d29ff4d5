-- The items of a key, and the entries of a memo. Not in ABC 2.1.
use Rattle.std.specs.Prelude.{◌≡◌, ◌⊎◌, Bool, true, if◌then◌else◌, List, Contains, Option, Some, is_some}
use Rattle.std.specs.List.{list_all, flat_map}
use Rattle.abc_tune_compiler.specs.declared.built.Built.{Built}
use Rattle.abc_fold.specs.Steps.{Steps, items_from}
use Rattle.abc_fold.specs.Work.{Counters, raised}
use Rattle.abc_lines.specs.Text.{Text, is_line}
use Rattle.lru.specs.LruCache.{lru_cache, promoted, put_entries}
use Rattle.abc_tune_memo.specs.Bytes.{bytes_of_lines}
use Rattle.abc_tune_memo.specs.declared.key.TuneKey.{TuneKey}
use Rattle.abc_tune_compiler.specs.Rules.{Rules}

-- The items are those of lines within the limits whose bytes the key has. The fold begins after a file header that sets
-- the defaults of the key.
pub record AreItemsOf {State Cell Items Defaults : Type 0} (steps : Steps State Cell Items)
    (rules : Rules State Cell Items Defaults) (key : TuneKey Defaults) (items : List Items) : Type 0 where
  pub header : State
  pub lines : Text
  pub own_defaults : rules.defaults header ≡ key.defaults
  pub limits : list_all is_line lines ≡ true
  pub own_bytes : bytes_of_lines rules.class lines ≡ key.bytes
  pub own_items : items ≡ items_from steps (rules.tune (Some header)) (flat_map rules.cells lines)

-- A built tune has the values of the compiler's definitions at the items of the key.
pub record IsBuiltOf {State Cell Items Defaults : Type 0} (steps : Steps State Cell Items) (rules : Rules State Cell Items Defaults)
    (key : TuneKey Defaults) (built : Built) : Type 0 where
  pub items : List Items
  pub of_key : AreItemsOf steps rules key items
  pub bytes : built.bytes ≡ rules.bytes items
  pub faults : built.faults ≡ rules.build_faults items

-- Each entry has the values of the compiler's definitions at its key.
abbrev pub Remembers : {State Cell Items Defaults : Type 0} → Steps State Cell Items → Rules State Cell Items Defaults
    → List (TuneKey Defaults × Built) → Type 0
Remembers {Defaults = Defaults} steps rules entries = (entry : TuneKey Defaults × Built) → Contains entries entry
    → IsBuiltOf steps rules entry.0 entry.1

-- The counters after a key was asked for: one more tune is built unless the key is known.
abbrev pub counts_after : Option Built → Counters → Counters
counts_after known before = if is_some known then before else record before { built = raised before.built 1 }

-- The entries after a key was asked for. If it was there, it goes first and nothing else changes. If it was not, it comes
-- first with what was built, and of 64 others the last goes; or it is forgotten, and nothing changes.
abbrev pub IsFirstOrForgotten : {Defaults : Type 0} → (TuneKey Defaults → TuneKey Defaults → Bool) → TuneKey Defaults → Built
    → List (TuneKey Defaults × Built) → List (TuneKey Defaults × Built) → Type 0
IsFirstOrForgotten same key built old new = (new ≡ promoted (same key) old) ⊎ (new ≡ put_entries same (lru_cache old 64) key built)
