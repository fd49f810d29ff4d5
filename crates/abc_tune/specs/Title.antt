-- A tune has one title. ABC 2.1 section 3.1.2.
use Rattle.std.specs.Prelude.{◌≡◌, List, []}
use Rattle.abc_bars_items.specs.Item.{Items}
use Rattle.abc_tune.specs.Abc.{rules_of_abc}
use Rattle.abc_tune_compiler.specs.Tune.{first_of}
use Rattle.abc_voices.specs.Layout.{arranged_of, items_in}

-- The title in a tune's file is that under which the tune is in the list of titles: the first that one of its cells
-- gives, or the empty one.
abbrev pub HasOneTitle : Type 0
HasOneTitle = (cells : List Items) → (arranged_of (items_in cells)).score.title ≡ first_of rules_of_abc.title [] cells
