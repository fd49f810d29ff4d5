-- The walk over a tune finds the voices that looking back finds.
use Rattle.std.proofs.Common.{◌≡◌, ℕ, Bool, true, false, cond, List, [], ◌∷◌, ◌++◌, drop, refl, sym, ap, ◌∙◌, append_assoc, append-nil}
use Rattle.std.proofs.lemmas.List.Folds.{list_any-append}
use Rattle.std.proofs.lemmas.Slice.Eq.{bytes_eq-Decides}
use Rattle.std.specs.Prelude.{◌&&◌, ◌||◌, bytes_eq, filter_map, Option, Some, None, unwrap_or}
use Rattle.std.specs.List.{list_any, cons_option}
use Rattle.std.specs.Option.{is_none, option_or}
use Rattle.abc_bars_items.specs.declared.item.Item.{Item}
use Rattle.abc_bars_items.specs.declared.item.Item.TheVariants as items
use Rattle.abc_voices.specs.Layout.{takes_time}
use Rattle.abc_voices.specs.Track.{has_unnamed_track, names_from, plays_first}
use Rattle.abc_voices.specs.Tracks.{HaveTracksByMention, mentioned_voices, mentioned_by, mentioned_first, plays_unnamed}
use Rattle.abc_voices.specs.Voices.{declared_by, first_value, named_by, voice_at_place, with_items_before}
use Rattle.abc_voices.proofs.Voices.{declared}

-- the names that are known are the empty one and those that these items mention
abbrev AreKnown : List (List ℕ) → List Item → Type 0
AreKnown known past = (name : List ℕ) → list_any (bytes_eq name) known ≡ (bytes_eq name [] || list_any (bytes_eq name) (filter_map mentioned_by past))

abbrev is_in : List (List ℕ) → List ℕ → Bool
is_in names name = list_any (bytes_eq name) names

-- a name that is one of some others is as good as it
again : (known : List (List ℕ)) (name other : List ℕ) → is_in known name ≡ true → (b : Bool) → bytes_eq other name ≡ b → (b || is_in known other) ≡ is_in known other
again known name other found true e = sym (ap (is_in known) ((bytes_eq-Decides other name).0 e) ∙ found)
again known name other found false e = refl

-- one more test among three
swapped : (a b c : Bool) → (b || (a || c)) ≡ (a || (b || c))
swapped true true c = refl
swapped true false c = refl
swapped false b c = refl

last_of : (a b : Bool) → (a || (b || false)) ≡ (b || a)
last_of true true = refl
last_of true false = refl
last_of false true = refl
last_of false false = refl

-- one V: more
mention_step : (known : List (List ℕ)) (past rest : List Item) (opening : Bool) (name : List ℕ) → AreKnown known past
    → ((names : List (List ℕ)) → AreKnown names (items.Voice opening name ∷ past)
    → names_from names rest ≡ names ++ filter_map mentioned_first (with_items_before (items.Voice opening name ∷ past) rest))
    → (b : Bool) → is_in known name ≡ b
    → names_from (cond b known (known ++ name ∷ [])) rest
    ≡ known ++ cons_option (cond b None (Some name)) (filter_map mentioned_first (with_items_before (items.Voice opening name ∷ past) rest))
mention_step known past rest opening name are others true found =
    others known (λ other.
    sym (again known name other found (bytes_eq other name) refl)
    ∙ ap (λ b. bytes_eq other name || b) (are other)
    ∙ swapped (bytes_eq other []) (bytes_eq other name) (is_in (filter_map mentioned_by past) other))
mention_step known past rest opening name are others false found =
    others (known ++ name ∷ []) (λ other.
    list_any-append (bytes_eq other) known (name ∷ [])
    ∙ last_of (is_in known other) (bytes_eq other name)
    ∙ ap (λ b. bytes_eq other name || b) (are other)
    ∙ swapped (bytes_eq other []) (bytes_eq other name) (is_in (filter_map mentioned_by past) other))
    ∙ append_assoc known (name ∷ []) (filter_map mentioned_first (with_items_before (items.Voice opening name ∷ past) rest))

-- all names
names_are : (known : List (List ℕ)) (past rest : List Item) → AreKnown known past → names_from known rest ≡ known ++ filter_map mentioned_first (with_items_before past rest)
names_are known past [] are = sym (append-nil known)
names_are known past (items.Voice opening name ∷ rest) are =
    mention_step known past rest opening name are (λ names more. names_are names (items.Voice opening name ∷ past) rest more) (is_in known name) refl
    ∙ ap (λ b. known ++ cons_option (cond b None (Some name)) (filter_map mentioned_first (with_items_before (items.Voice opening name ∷ past) rest))) (are name)
names_are known past (item ∷ rest) are = names_are known (item ∷ past) rest are

-- a name is after items where one was after fewer
still : (one : Option (List ℕ)) (past : Option (List ℕ)) → is_none past ≡ false → is_none (option_or one past) ≡ false
still None past h = h
still (Some name) past h = refl

none_more : (takes none named others : Bool) → none ≡ false → others ≡ false → ((takes && (none && named)) || others) ≡ false
none_more takes true named others h rest = cc
none_more true false named others h rest = rest
none_more false false named others h rest = rest

-- after a V: of the body nothing plays for the voice without a name
none_after : (tune past rest : List Item) → is_none (first_value named_by past) ≡ false → list_any (plays_unnamed tune) (with_items_before past rest) ≡ false
none_after tune past [] h = refl
none_after tune past (item ∷ rest) h =
    none_more (takes_time item) (is_none (first_value named_by past)) (bytes_eq (voice_at_place tune past) []) _ h
    (none_after tune (item ∷ past) rest (still (named_by item) (first_value named_by past) h))

and_false : (b : Bool) → false ≡ (b && false)
and_false true = refl
and_false false = refl

or_more : (b c : Bool) → (b || (b && c)) ≡ (b && true)
or_more true c = refl
or_more false c = refl

-- something that takes time before the first V: of the body
plays_here : (tune past : List Item) (rest others : Bool) → first_value named_by past ≡ None → others ≡ (bytes_eq (unwrap_or (first_value declared_by tune) []) [] && rest)
    → ((is_none (first_value named_by past) && bytes_eq (voice_at_place tune past) []) || others) ≡ (bytes_eq (unwrap_or (first_value declared_by tune) []) [] && true)
plays_here tune past rest others none e =
    let opening = unwrap_or (first_value declared_by tune) [] in
    ap (λ said. (is_none said && bytes_eq (unwrap_or said opening) []) || others) none
    ∙ ap (λ b. bytes_eq opening [] || b) e
    ∙ or_more (bytes_eq opening []) rest

plays_as : (tune past rest : List Item) → first_value named_by past ≡ None
    → list_any (plays_unnamed tune) (with_items_before past rest) ≡ (bytes_eq (unwrap_or (first_value declared_by tune) []) [] && plays_first rest)
plays_as tune past [] none = and_false (bytes_eq (unwrap_or (first_value declared_by tune) []) [])
plays_as tune past (items.Tone tones length ∷ rest) none =
    plays_here tune past (plays_first rest) _ none (plays_as tune (items.Tone tones length ∷ past) rest none)
plays_as tune past (items.Rest length bar ∷ rest) none =
    plays_here tune past (plays_first rest) _ none (plays_as tune (items.Rest length bar ∷ past) rest none)
plays_as tune past (items.Voice false name ∷ rest) none =
    none_after tune (items.Voice false name ∷ past) rest refl ∙ and_false (bytes_eq (unwrap_or (first_value declared_by tune) []) [])
plays_as tune past (item ∷ rest) none = plays_as tune (item ∷ past) rest none

by_nameless : (b : Bool) (names : List (List ℕ)) → cond b ([] ∷ names) names ≡ cond b ([] ∷ []) [] ++ names
by_nameless true names = refl
by_nameless false names = refl

pub have_tracks : HaveTracksByMention
have_tracks tune =
    let all = names_are ([] ∷ []) [] tune (λ name. refl) in
    let nameless = plays_as tune [] tune refl ∙ ap (λ voice. bytes_eq voice [] && plays_first tune) (sym (declared tune)) in
    ap (λ names. cond (has_unnamed_track tune) names (drop 1 names)) all
    ∙ by_nameless (has_unnamed_track tune) (mentioned_voices tune)
    ∙ ap (λ b. cond b ([] ∷ []) [] ++ mentioned_voices tune) (sym nameless)
