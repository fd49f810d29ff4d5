-- The walk over a tune finds the voice of each item that looking back finds.
use Rattle.std.proofs.Common.{◌≡◌, ℕ, Bool, true, false, cond, List, [], ◌∷◌, ◌++◌, map, refl, sym, ap, ◌∙◌, append-nil, append_assoc}
use Rattle.std.specs.Prelude.{◌&&◌, bytes_eq, unwrap_or, filter}
use Rattle.abc_bars_items.specs.declared.item.Item.{Item}
use Rattle.abc_bars_items.specs.declared.item.Item.TheVariants as items
use Rattle.abc_voices_sections.specs.Section.{is_section, is_step, opening_voice, part, part_from, sections_from, voice_after}
use Rattle.abc_voices.specs.Voices.{named_by, declared_by, first_value, voice_at_place, with_voices, put_in_front, pieces_between, items_of_voice, AreOfVoices}

abbrev is_letter : List ℕ × Item → Bool
is_letter one = is_section one.1

-- the first declared voice
pub declared : (tune : List Item) → opening_voice tune ≡ unwrap_or (first_value declared_by tune) []
declared [] = refl
declared (items.Voice true name ∷ tune) = refl
declared (_ ∷ tune) = declared tune

-- one item more to look back at
one_more : (opening : List ℕ) (item : Item) (past : List Item)
    → voice_after (unwrap_or (first_value named_by past) opening) item ≡ unwrap_or (first_value named_by (item ∷ past)) opening
one_more opening (items.Voice false name) past = refl
one_more opening _ past = refl

-- a letter leaves the voice
same_voice : (voice : List ℕ) (item : Item) → is_section item ≡ true → voice_after voice item ≡ voice
same_voice voice (items.Section letter) h = refl
same_voice voice _ h = cc

-- the current voice after items
abbrev after : List ℕ → List Item → List ℕ
after current [] = current
after current (item ∷ steps) = after (voice_after current item) steps

-- an item, if it is of a voice
abbrev one_of : List ℕ → List ℕ → Item → List Item
one_of voice current item = cond (is_step item && bytes_eq current voice) (item ∷ []) []

in_front : (b : Bool) (item : Item) (steps : List Item) → cond b (item ∷ steps) steps ≡ cond b (item ∷ []) [] ++ steps
in_front true item steps = refl
in_front false item steps = refl

after_more : (current : List ℕ) (held : List Item) (item : Item) → after current (held ++ item ∷ []) ≡ voice_after (after current held) item
after_more current [] item = refl
after_more current (one ∷ held) item = after_more (voice_after current one) held item

part_more : (voice current : List ℕ) (held : List Item) (item : Item)
    → part_from voice current (held ++ item ∷ []) ≡ part_from voice current held ++ one_of voice (after current held) item
part_more voice current [] item = refl
part_more voice current (one ∷ held) item =
    let rest = part_more voice (voice_after current one) held item in
    let b : Bool = is_step one && bytes_eq current voice in
    in_front b one (part_from voice (voice_after current one) (held ++ item ∷ []))
    ∙ ap (λ steps. cond b (one ∷ []) [] ++ steps) rest
    ∙ sym (append_assoc (cond b (one ∷ []) []) (part_from voice (voice_after current one) held) (one_of voice (after (voice_after current one) held) item))
    ∙ ap (λ steps. steps ++ one_of voice (after (voice_after current one) held) item) (sym (in_front b one (part_from voice (voice_after current one) held)))

-- items before the first of some lists
abbrev front : List Item → List (List Item) → List (List Item)
front xs [] = xs ∷ []
front xs (ys ∷ others) = (xs ++ ys) ∷ others

front_front : (xs ys : List Item) (others : List (List Item)) → front xs (front ys others) ≡ front (xs ++ ys) others
front_front xs ys [] = refl
front_front xs ys (zs ∷ others) = ap (λ one. one ∷ others) (sym (append_assoc xs ys zs))

first_front : (b : Bool) (one : List ℕ × Item) (xs : List (List ℕ × Item))
    → map (λ x. x.1) (cond b (one ∷ xs) xs) ≡ cond b (one.1 ∷ []) [] ++ map (λ x. x.1) xs
first_front true one xs = refl
first_front false one xs = refl

abbrev is_own : List ℕ → List ℕ × Item → Bool
is_own voice one = is_step one.1 && bytes_eq one.0 voice

own_front : (voice : List ℕ) (one : List ℕ × Item) (others : List (List (List ℕ × Item)))
    → map (items_of_voice voice) (put_in_front one others) ≡ front (one_of voice one.0 one.1) (map (items_of_voice voice) others)
own_front voice one [] = ap (λ steps. steps ∷ []) (first_front (is_own voice one) one [] ∙ append-nil (one_of voice one.0 one.1))
own_front voice one (xs ∷ others) = ap (λ steps. steps ∷ map (items_of_voice voice) others) (first_front (is_own voice one) one (filter (is_own voice) xs))

-- there is a first list
first_there : (voice : List ℕ) (b : Bool) (one : List ℕ × Item) (others : List (List (List ℕ × Item)))
    → front [] (map (items_of_voice voice) (cond b ([] ∷ others) (put_in_front one others)))
    ≡ map (items_of_voice voice) (cond b ([] ∷ others) (put_in_front one others))
first_there voice true one others = refl
first_there voice false one [] = refl
first_there voice false one (xs ∷ others) = refl

front_none : (voice : List ℕ) (placed : List (List ℕ × Item))
    → front [] (map (items_of_voice voice) (pieces_between is_letter placed)) ≡ map (items_of_voice voice) (pieces_between is_letter placed)
front_none voice [] = refl
front_none voice (one ∷ placed) = first_there voice (is_letter one) one (pieces_between is_letter placed)

-- one item of the walk
walk_item : (voice opening : List ℕ) (held : List Item) (one : List ℕ × Item) (anew on : List (List ℕ × List Item))
    (others : List (List (List ℕ × Item))) (b : Bool)
    → (b ≡ true → map (part voice) anew ≡ map (items_of_voice voice) others)
    → map (part voice) on ≡ front (part_from voice opening (held ++ one.1 ∷ [])) (map (items_of_voice voice) others)
    → one.0 ≡ after opening held
    → map (part voice) (cond b ((opening, held) ∷ anew) on)
    ≡ front (part_from voice opening held) (map (items_of_voice voice) (cond b ([] ∷ others) (put_in_front one others)))
walk_item voice opening held one anew on others true new more e =
    ap (λ rest. part_from voice opening held ∷ rest) (new refl)
    ∙ ap (λ steps. steps ∷ map (items_of_voice voice) others) (sym (append-nil (part_from voice opening held)))
walk_item voice opening held one anew on others false new more e =
    more
    ∙ ap (λ steps. front steps (map (items_of_voice voice) others))
    (part_more voice opening held one.1 ∙ ap (λ current. part_from voice opening held ++ one_of voice current one.1) (sym e))
    ∙ sym (front_front (part_from voice opening held) (one_of voice one.0 one.1) (map (items_of_voice voice) others))
    ∙ ap (front (part_from voice opening held)) (sym (own_front voice one others))

walk : (tune : List Item) (voice opening : List ℕ) (held : List Item) (current : List ℕ) (past rest : List Item)
    → current ≡ voice_at_place tune past → current ≡ after opening held
    → map (part voice) (sections_from opening held current rest)
    ≡ front (part_from voice opening held) (map (items_of_voice voice) (pieces_between is_letter (with_voices tune past rest)))
walk tune voice opening held current past [] back on = ap (λ steps. steps ∷ []) (sym (append-nil (part_from voice opening held)))
walk tune voice opening held current past (item ∷ rest) back on =
    let following : voice_after current item ≡ voice_at_place tune (item ∷ past) =
    ap (λ v. voice_after v item) back ∙ one_more (unwrap_or (first_value declared_by tune) []) item past in
    let more = walk tune voice opening (held ++ item ∷ []) (voice_after current item) (item ∷ past) rest following
    (ap (λ v. voice_after v item) on ∙ sym (after_more opening held item)) in
    walk_item voice opening held (voice_at_place tune past, item) (sections_from current [] current rest)
    (sections_from opening (held ++ item ∷ []) (voice_after current item) rest)
    (pieces_between is_letter (with_voices tune (item ∷ past) rest)) (is_section item)
    (λ letter. walk tune voice current [] current (item ∷ past) rest (sym (same_voice current item letter) ∙ following) refl
    ∙ front_none voice (with_voices tune (item ∷ past) rest))
    more (sym back ∙ on)

pub are_of_voices : AreOfVoices
are_of_voices tune voice =
    walk tune voice (opening_voice tune) [] (opening_voice tune) [] tune (declared tune) refl
    ∙ front_none voice (with_voices tune [] tune)
