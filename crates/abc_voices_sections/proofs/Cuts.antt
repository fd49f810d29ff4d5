-- The sections of a tune, one step further.
use Rattle.std.proofs.Common.{◌≡◌, ℕ, ◌+◌, ◌-◌, ◌<◌, ◌≤◌, true, false, cond, List, [], ◌∷◌, ◌++◌, length, take, drop, get_or, sym, ap, ◌∙◌, arith, append_assoc, append-nil, length-drop}
use Rattle.std.specs.Prelude.{All}
use Rattle.std.proofs.lemmas.List.{drop_more, take_more, get_or-drop}
use Rattle.std.proofs.lemmas.List.Elements.{All-head, All-tail}
use Rattle.abc_bars_items.specs.declared.item.Item.{Item}
use Rattle.abc_voices_sections.specs.Section.{is_section, voice_after, cut_from}

-- what is left of a list, from an element on
pub front : {X : Type 0} (xs : List X) (i : ℕ) (x : X) → i < length xs → x ≡ get_or xs i x → drop i xs ≡ x ∷ drop (i + 1) xs
front xs i x within is = drop_more xs i x within ∙ ap (λ y. y ∷ drop (i + 1) xs) (sym is)

-- one element more
pub held_more : {X : Type 0} (xs : List X) (begin at : ℕ) (x : X) → begin ≤ at → at < length xs → x ≡ get_or xs at x
    → take (at + 1 - begin) (drop begin xs) ≡ take (at - begin) (drop begin xs) ++ x ∷ []
held_more xs begin at x inside within is =
    let next : at + 1 - begin ≡ (at - begin) + 1 = omega arith in
    let place : begin + (at - begin) ≡ at = omega arith in
    let short : at - begin < length (drop begin xs) = omega (arith, length-drop begin xs) in
    ap (λ k. take k (drop begin xs)) next ∙ take_more (drop begin xs) (at - begin) x short
    ∙ ap (λ y. take (at - begin) (drop begin xs) ++ y ∷ []) (get_or-drop begin xs (at - begin) x ∙ ap (λ k. get_or xs k x) place ∙ sym is)

-- steps without letters are one section
pub one_section : {A : Type 0} (item_of : A → Item) (opening : List ℕ) (held : List A) (voice : List ℕ) (steps : List A)
    → All (λ step. is_section (item_of step) ≡ false) steps → cut_from item_of opening held voice steps ≡ (opening, held ++ steps) ∷ []
one_section item_of opening held voice [] none = ap (λ l. (opening, l) ∷ []) (sym (append-nil held))
one_section item_of opening held voice (step ∷ steps) none =
    let next = voice_after voice (item_of step) in
    ap (λ b. cond b ((opening, held) ∷ cut_from item_of voice [] voice steps) (cut_from item_of opening (held ++ step ∷ []) next steps))
    (All-head (λ one. is_section (item_of one) ≡ false) step steps none)
    ∙ one_section item_of opening (held ++ step ∷ []) next steps (All-tail (λ one. is_section (item_of one) ≡ false) step steps none)
    ∙ ap (λ l. (opening, l) ∷ []) (append_assoc held (step ∷ []) steps)

-- a section ends before a step with a letter
pub ends_more : {A : Type 0} (item_of : A → Item) (own : List A) (seen : List (List ℕ × List A)) (opening voice : List ℕ) (begin at : ℕ) (x : A) (whole : List (List ℕ × List A))
    → at < length own → x ≡ get_or own at x → is_section (item_of x) ≡ true
    → seen ++ cut_from item_of opening (take (at - begin) (drop begin own)) voice (drop at own) ≡ whole
    → (seen ++ (opening, take (at - begin) (drop begin own)) ∷ [])
    ++ cut_from item_of voice (take (at + 1 - (at + 1)) (drop (at + 1) own)) voice (drop (at + 1) own) ≡ whole
ends_more item_of own seen opening voice begin at x whole within is known before =
    let held = take (at - begin) (drop begin own) in
    let rest = drop (at + 1) own in
    let none : at + 1 - (at + 1) ≡ 0 = omega arith in
    let ends : cut_from item_of opening held voice (drop at own) ≡ (opening, held) ∷ cut_from item_of voice [] voice rest =
    ap (cut_from item_of opening held voice) (front own at x within is)
    ∙ ap (λ b. cond b ((opening, held) ∷ cut_from item_of voice [] voice rest) (cut_from item_of opening (held ++ x ∷ []) (voice_after voice (item_of x)) rest)) known in
    append_assoc seen ((opening, held) ∷ []) (cut_from item_of voice (take (at + 1 - (at + 1)) rest) voice rest)
    ∙ ap (λ k. seen ++ ((opening, held) ∷ cut_from item_of voice (take k rest) voice rest)) none
    ∙ ap (λ l. seen ++ l) (sym ends)
    ∙ before

-- another step is in the section that goes on
pub goes_more : {A : Type 0} (item_of : A → Item) (own : List A) (seen : List (List ℕ × List A)) (opening voice : List ℕ) (begin at : ℕ) (x : A) (whole : List (List ℕ × List A))
    → begin ≤ at → at < length own → x ≡ get_or own at x → is_section (item_of x) ≡ false
    → seen ++ cut_from item_of opening (take (at - begin) (drop begin own)) voice (drop at own) ≡ whole
    → seen ++ cut_from item_of opening (take (at + 1 - begin) (drop begin own)) (voice_after voice (item_of x)) (drop (at + 1) own) ≡ whole
goes_more item_of own seen opening voice begin at x whole inside within is known before =
    let held = take (at - begin) (drop begin own) in
    let rest = drop (at + 1) own in
    let goes : cut_from item_of opening held voice (drop at own) ≡ cut_from item_of opening (held ++ x ∷ []) (voice_after voice (item_of x)) rest =
    ap (cut_from item_of opening held voice) (front own at x within is)
    ∙ ap (λ b. cond b ((opening, held) ∷ cut_from item_of voice [] voice rest) (cut_from item_of opening (held ++ x ∷ []) (voice_after voice (item_of x)) rest)) known in
    ap (λ h. seen ++ cut_from item_of opening h (voice_after voice (item_of x)) rest) (held_more own begin at x inside within is)
    ∙ ap (λ l. seen ++ l) (sym goes)
    ∙ before
