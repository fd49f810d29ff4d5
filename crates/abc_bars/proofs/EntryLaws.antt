-- Places of different kinds.
use Rattle.std.proofs.Common.{◌≡◌, ◌∙◌, ◌↔◌, ℕ, Bool, true, [], ◌∷◌, refl, sym, ap}
use Rattle.std.proofs.lemmas.Bool.Decides.{same_from_decides}
use Rattle.abc_bars_body.specs.SameEntry.{same_entry, same_entry_decides}
use Rattle.abc_bars_body.specs.declared.entry.Entry.{Entry}
use Rattle.abc_bars_body.specs.declared.entry.Entry.TheVariants as entries
use Rattle.abc_bars.specs.LookBack.Place.{InBody, InFileHeader, InHeader, KindsApart, Place, kind_of_place, view}

-- The kind of a place, by what holds there.
abbrev kind_held : Entry → ℕ
kind_held (entries.FileHeader defaults) = 0
kind_held (entries.Opening defaults) = 1
kind_held (entries.Header header) = 2
kind_held (entries.Body body) = 3

kind-seen : (place : Place) → kind_of_place place ≡ kind_held (view place)
kind-seen (InFileHeader before) = refl
kind-seen (InHeader opening []) = refl
kind-seen (InHeader opening (line ∷ before)) = refl
kind-seen (InBody opening before key elements) = refl

-- The state at places of different kinds is never the same.
pub kinds_apart : KindsApart
kinds_apart here there same = kind-seen here ∙ ap kind_held same ∙ sym (kind-seen there)

-- What decides exactly whether the state at two places is equal is the test of it.
pub test_by : (result : Bool) (a b : Entry) → (result ≡ true → a ≡ b) × (a ≡ b → result ≡ true) → result ≡ same_entry a b
test_by result a b decides = same_from_decides result (same_entry a b) decides (same_entry_decides a b)

-- Two places are equivalent exactly if their states are equal.
pub alike_where_equal : (here there : Entry) → (same_entry here there ≡ true) ↔ (here ≡ there)
alike_where_equal here there = same_entry_decides here there
