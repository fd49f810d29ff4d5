-- The title in a tune's file is that in the list of titles.
use Rattle.std.proofs.Common.{◌≡◌, ℕ, List, [], ◌∷◌, ◌++◌, Option, Some, None, refl, ap, ◌∙◌}
use Rattle.std.specs.Prelude.{unwrap_or}
use Rattle.std.specs.Option.{option_or}
use Rattle.abc_bars.specs.Titles.{title_said}
use Rattle.abc_bars_items.specs.Item.{Items}
use Rattle.abc_bars_items.specs.declared.item.Item.{Item}
use Rattle.abc_bars_items.specs.declared.item.Item.TheVariants as items
use Rattle.abc_tune.specs.Abc.{first_value, rules_of_abc}
use Rattle.abc_tune.specs.Title.{HasOneTitle}
use Rattle.abc_tune_compiler.specs.Tune.{first_of}
use Rattle.abc_voices.specs.Layout.{arranged_of, items_in}
use Rattle.abc_voices.specs.Opening.{title_before, title_of}

first : (item : Item) (later : List ℕ) → title_before later item ≡ unwrap_or (title_said item) later
first (items.Title text) later = refl
first _ later = refl

either : (one other : Option (List ℕ)) (later : List ℕ) → unwrap_or one (unwrap_or other later) ≡ unwrap_or (option_or one other) later
either None other later = refl
either (Some text) other later = refl

-- the title of two parts of a tune
of_both : (part rest : List Item) → title_of (part ++ rest) ≡ unwrap_or (first_value title_said part) (title_of rest)
of_both [] rest = refl
of_both (item ∷ part) rest =
    ap (λ later. title_before later item) (of_both part rest)
    ∙ first item (unwrap_or (first_value title_said part) (title_of rest))
    ∙ either (title_said item) (first_value title_said part) (title_of rest)

of_cells : (cells : List Items) → title_of (items_in cells) ≡ first_of rules_of_abc.title [] cells
of_cells [] = refl
of_cells (cell ∷ cells) =
    of_both cell.items (items_in cells) ∙ ap (unwrap_or (first_value title_said cell.items)) (of_cells cells)

pub has_one_title : HasOneTitle
unfolding arranged_of
has_one_title cells = of_cells cells
