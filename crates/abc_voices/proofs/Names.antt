-- The names of a tune's voices, as an ordered set keeps them.
use Rattle.std.proofs.Common.{◌≡◌, ℕ, Bool, true, false, cond, ◌||◌, List, [], ◌∷◌, ◌++◌, map, refl, ap, ◌∙◌}
use Rattle.std.proofs.lemmas.List.{map-append}
use Rattle.std.specs.Prelude.{bytes_eq}
use Rattle.std.specs.List.{list_any}
use Rattle.indexmap.specs.IndexSet.{insert_key}
use Rattle.abc_voices.specs.Track.{with_name}

-- A name is among the names of values exactly when a value has it.
known_by_name : {X : Type 0} (name_of : X → List ℕ) (name : List ℕ) (known : List X) → list_any (λ other. bytes_eq name (name_of other)) known ≡ list_any (bytes_eq name) (map name_of known)
known_by_name name_of name [] = refl
known_by_name name_of name (x ∷ known) = ap (λ b. bytes_eq name (name_of x) || b) (known_by_name name_of name known)

-- The names after an insertion, when it is known whether the name is there already.
names_by : {X : Type 0} (name_of : X → List ℕ) (known : List X) (one : X) (found : Bool)
    → map name_of (cond found known (known ++ one ∷ [])) ≡ cond found (map name_of known) (map name_of known ++ name_of one ∷ [])
names_by name_of known one true = refl
names_by name_of known one false = map-append name_of known (one ∷ [])

-- The names after an insertion into the set are those after the name is mentioned.
pub names_inserted : {X : Type 0} (name_of : X → List ℕ) (known : List X) (one : X)
    → map name_of (insert_key (λ a b. bytes_eq (name_of a) (name_of b)) known one) ≡ with_name (map name_of known) (name_of one)
names_inserted name_of known one =
    names_by name_of known one (list_any (λ other. bytes_eq (name_of one) (name_of other)) known)
    ∙ ap (λ b. cond b (map name_of known) (map name_of known ++ name_of one ∷ [])) (known_by_name name_of (name_of one) known)
