-- The sections that the front of an order plays, in a list.
use Rattle.std.specs.Prelude.{◌≡◌, ℕ, List, [], ◌∷◌, ◌++◌, length, filter_map, Option}
use Rattle.abc_fields.specs.Letters.{OrderLetters}
use Rattle.abc_repeat.specs.declared.order_play.OrderPlay.{OrderPlay}

-- The letters before the innermost of the open groups.
abbrev pub letters_around : List (List ℕ) → List ℕ
letters_around [] = []
letters_around (before ∷ around) = letters_around around ++ before

-- The opening section and the sections of these letters.
abbrev pub sections_with : (ℕ → Option ℕ) → List ℕ → List ℕ
sections_with section letters = 0 ∷ filter_map section letters

-- The beginning of each open group in the list, the innermost last.
abbrev pub group_begins : (ℕ → Option ℕ) → List (List ℕ) → List ℕ
group_begins section [] = []
group_begins section (before ∷ around) = group_begins section around
    ++ length (sections_with section (letters_around (before ∷ around))) ∷ []

-- The list holds the play of the front of an order.
pub record IsPlayOf (section : ℕ → Option ℕ) (played : OrderLetters) (play : OrderPlay) : Type 0 where
  pub sections : play.sections.items ≡ sections_with section (letters_around played.around ++ played.before ++ played.item)
  pub groups : play.groups.items ≡ group_begins section played.around
  pub begin : play.begin ≡ length (sections_with section (letters_around played.around ++ played.before))
  pub count : play.count ≡ played.count
