-- The voices that items mention, by the walk over them.
use Rattle.std.proofs.Common.{◌≡◌, ◌≤◌, ℕ, suc, Bool, true, false, cond, List, [], ◌∷◌, ◌++◌, length, drop, bytes_eq, refl, ap, ◌∙◌, arith}
use Rattle.std.specs.Prelude.{◌||◌}
use Rattle.std.specs.List.{flat_map, list_any}
use Rattle.std.proofs.lemmas.Bool.{and_parts}
use Rattle.abc_bars_body.specs.Mentioned.{AreNamed, after_items}
use Rattle.abc_bars_body.proofs.Mentions.{mentions_few, names_voices}
use Rattle.abc_bars_items.specs.declared.item.Item.{Item}
use Rattle.abc_bars_items.specs.declared.item.Item.TheVariants as items
use Rattle.abc_tune.specs.Abc.{cells_in}
use Rattle.abc_tune.specs.Lines.{HasFewVoices}
use Rattle.abc_voices_sections.specs.Section.{opening_voice}
use Rattle.abc_voices.specs.Track.{voice_names, names_from, has_unnamed_track, plays_first, tracks, with_name}

-- if one is the current one, only fields mention voices
placed_from : (names : List (List ℕ)) (tune : List Item) → (after_items (names, true) tune).0 ≡ names_from names tune
placed_from names [] = refl
placed_from names (items.Voice opening name ∷ tune) = placed_from (with_name names name) tune
placed_from names (_ ∷ tune) = placed_from names tune

-- a name is put after that of the voice without one
in_front : (b : Bool) (names : List (List ℕ)) (name : List ℕ) → cond b ([] ∷ names) (([] ∷ names) ++ name ∷ []) ≡ [] ∷ cond b names (names ++ name ∷ [])
in_front true names name = refl
in_front false names name = refl

with_named : (names : List (List ℕ)) (name : List ℕ) → bytes_eq name [] ≡ false → with_name ([] ∷ names) name ≡ [] ∷ with_name names name
with_named names name some =
    ap (λ b. cond (b || list_any (bytes_eq name) names) ([] ∷ names) (([] ∷ names) ++ name ∷ [])) some
    ∙ in_front (list_any (bytes_eq name) names) names name

after_nameless : (names : List (List ℕ)) (tune : List Item) → AreNamed tune → names_from ([] ∷ names) tune ≡ [] ∷ names_from names tune
after_nameless names [] named = refl
after_nameless names (items.Voice opening name ∷ tune) named =
    ap (λ known. names_from known tune) (with_named names name named.0) ∙ after_nameless (with_name names name) tune named.1
after_nameless names (_ ∷ tune) named = after_nameless names tune named.1

-- if the voice without a name has a track, it is mentioned
heard : (tune : List Item) → AreNamed tune → bytes_eq (opening_voice tune) [] ≡ true → plays_first tune ≡ true
    → (after_items ([], false) tune).0 ≡ names_from ([] ∷ []) tune
heard [] named opens plays = absurd (cc)
heard (items.Tone tones length ∷ tune) named opens plays = placed_from ([] ∷ []) tune
heard (items.Rest length bar ∷ tune) named opens plays = placed_from ([] ∷ []) tune
heard (items.Voice true name ∷ tune) named opens plays = absurd (cc (named.0, opens))
heard (items.Voice false name ∷ tune) named opens plays = absurd (cc)
heard (_ ∷ tune) named opens plays = heard tune named.1 opens plays

-- beside the voice without a name all others are mentioned
others : (tune : List Item) → AreNamed tune → length (names_from ([] ∷ []) tune) ≤ suc (length (after_items ([], false) tune).0)
others [] named = omega arith
others (items.Tone tones long ∷ tune) named = omega (arith, ap length (placed_from ([] ∷ []) tune))
others (items.Rest long bar ∷ tune) named = omega (arith, ap length (placed_from ([] ∷ []) tune))
others (items.Voice opening name ∷ tune) named =
    omega (arith, ap length (ap (λ known. names_from known tune) (with_named [] name named.0) ∙ after_nameless (with_name [] name) tune named.1), ap length (placed_from (with_name [] name) tune))
others (_ ∷ tune) named = others tune named.1

following_first : {A : Type 0} (xs : List A) (n : ℕ) → length xs ≤ suc n → length (drop 1 xs) ≤ n
following_first [] n few = omega arith
following_first (x ∷ xs) n few = omega (arith, few)

by_nameless : (tune : List Item) → AreNamed tune → (b : Bool) → has_unnamed_track tune ≡ b
    → length (cond b (voice_names tune) (drop 1 (voice_names tune))) ≤ length (after_items ([], false) tune).0
by_nameless tune named true plays =
    let both = and_parts (bytes_eq (opening_voice tune) []) (plays_first tune) plays in
    omega (arith, ap length (heard tune named both.0 both.1))
by_nameless tune named false plays = following_first (voice_names tune) _ (others tune named)

-- no more voices have tracks than are mentioned
tracks_few : (tune : List Item) → AreNamed tune → length (tracks tune) ≤ length (after_items ([], false) tune).0
tracks_few tune named = by_nameless tune named (has_unnamed_track tune) refl

-- no tune has more than may be
pub few_voices : HasFewVoices
few_voices opening lines =
    let cells = flat_map cells_in lines in
    omega (arith, tracks_few _ (names_voices opening cells), mentions_few opening cells)
