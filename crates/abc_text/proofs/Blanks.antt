-- Laws of the blanks at the ends of a text.
use Rattle.std.proofs.Common.{◌≡◌, ℕ, ◌+◌, ◌-◌, ◌≤◌, true, false, List, [], ◌∷◌, ◌++◌, length, take, drop, reverse, refl, sym, ap, ◌∙◌, ◌⊎◌, inl, inr, ⊎_elim, arith, length-append, length-drop}
use Rattle.std.proofs.Common.{length-take-le}
use Rattle.std.specs.Prelude.{not}
use Rattle.std.specs.List.{prefix_len, suffix_len, AllPass}
use Rattle.std.proofs.lemmas.Bool.{cond-true}
use Rattle.std.proofs.lemmas.List.{append-nil, reverse-append, reverse-reverse, length-reverse, take-append-drop}
use Rattle.std.proofs.lemmas.List.Sums.{prefix_len-le-length}
use Rattle.abc_text.specs.Blank.{is_blank, trim_start, trim_end, trim_blanks, AreBlanks}
use Rattle.abc_text.proofs.Fronts.{front_passes, front_stops, front_exact, front_other, take_exact, drop_exact, AllPass-reverse}

-- blanks at the start
pub trim_start-gap : (gap rest : List ℕ) → AreBlanks gap → prefix_len is_blank rest ≡ 0 → trim_start (gap ++ rest) ≡ rest
unfolding trim_start
trim_start-gap gap rest h none = drop_exact _ gap rest (front_exact is_blank gap rest h none)

pub trim_start-blanks : (gap : List ℕ) → AreBlanks gap → trim_start gap ≡ []
trim_start-blanks gap h = ap trim_start (sym (append-nil gap)) ∙ trim_start-gap gap [] h refl

pub trim_start-parts : (text : List ℕ) → (gap : List ℕ) × (text ≡ gap ++ trim_start text) × AreBlanks gap
unfolding trim_start
trim_start-parts text = (take (prefix_len is_blank text) text, sym (take-append-drop (prefix_len is_blank text) text), front_passes is_blank text)

-- a text that begins with a blank has one before
pub trim_start-some : (text : List ℕ) (b : ℕ) (bs : List ℕ) → text ≡ b ∷ bs → is_blank b ≡ true → (gap : List ℕ) × (text ≡ gap ++ trim_start text) × AreBlanks gap × (1 ≤ length gap)
unfolding trim_start
trim_start-some text b bs e blank =
    let n : prefix_len is_blank text ≡ 1 + prefix_len is_blank bs = ap (prefix_len is_blank) e ∙ cond-true (is_blank b) _ _ blank in
    let long : length (take (prefix_len is_blank text) text) ≡ prefix_len is_blank text = length-take-le _ text (prefix_len-le-length is_blank text) in
    (take (prefix_len is_blank text) text, sym (take-append-drop (prefix_len is_blank text) text), front_passes is_blank text, omega (arith, n, long))

-- blanks at the end
pub trim_end-gap : (front gap : List ℕ) → AreBlanks gap → suffix_len is_blank front ≡ 0 → trim_end (front ++ gap) ≡ front
unfolding trim_end
trim_end-gap front gap h none =
    let back : suffix_len is_blank (front ++ gap) ≡ length (reverse gap) = ap (prefix_len is_blank) (reverse-append front gap) ∙ front_exact is_blank (reverse gap) (reverse front) (AllPass-reverse
    is_blank gap h) none in
    let size : length (front ++ gap) - suffix_len is_blank (front ++ gap) ≡ length front = omega (arith, back, length-reverse gap, length-append front gap) in
    take_exact _ front gap size

-- a text read from its end: the part before its trailing blanks, and these blanks
back_parts : (text : List ℕ) → text ≡ reverse (drop (suffix_len is_blank text) (reverse text)) ++ reverse (take (suffix_len is_blank text) (reverse text))
back_parts text =
    let back = reverse text in
    let n = suffix_len is_blank text in
    sym (reverse-reverse text) ∙ ap reverse (sym (take-append-drop n back)) ∙ reverse-append (take n back) (drop n back)

trim_end-reverse : (text : List ℕ) → trim_end text ≡ reverse (drop (suffix_len is_blank text) (reverse text))
unfolding trim_end
trim_end-reverse text =
    let back = reverse text in
    let n = suffix_len is_blank text in
    let size : length text - n ≡ length (reverse (drop n back)) = omega (arith, length-reverse (drop n back), length-drop n back, length-reverse text) in
    ap (take (length text - n)) (back_parts text) ∙ take_exact _ (reverse (drop n back)) (reverse (take n back)) size

pub trim_end-parts : (text : List ℕ) → (gap : List ℕ) × (text ≡ trim_end text ++ gap) × AreBlanks gap
trim_end-parts text =
    let gap = reverse (take (suffix_len is_blank text) (reverse text)) in
    (gap, back_parts text ∙ ap (λ x. x ++ gap) (sym (trim_end-reverse text)), AllPass-reverse is_blank _ (front_passes is_blank (reverse text)))

-- the trimmed text is empty, or does not end with a blank
pub trim_end-stops : (text : List ℕ) → (trim_end text ≡ []) ⊎ ((xs : List ℕ) × (y : ℕ) × (trim_end text ≡ xs ++ y ∷ []) × (is_blank y ≡ false))
trim_end-stops text = ⊎_elim
    (λ none. inl (trim_end-reverse text ∙ ap reverse none))
    (λ some. inr (reverse some.1, some.0, trim_end-reverse text ∙ ap reverse some.2 ∙ reverse-append (some.0 ∷ []) some.1, some.3))
    (front_stops is_blank (reverse text))

-- a text that does not end with a blank
pub back_other : (front xs : List ℕ) → AllPass (λ b. not (is_blank b)) xs → 1 ≤ length xs → suffix_len is_blank (front ++ xs) ≡ 0
back_other front xs h some =
    ap (prefix_len is_blank) (reverse-append front xs)
    ∙ front_other is_blank (reverse xs) (reverse front) (AllPass-reverse (λ b. not (is_blank b)) xs h) (omega (arith, some, length-reverse xs))

-- trimming makes no text longer
pub trim_start-le : (text : List ℕ) → length (trim_start text) ≤ length text
unfolding trim_start
trim_start-le text = omega (arith, length-drop (prefix_len is_blank text) text)

pub trim_end-le : (text : List ℕ) → length (trim_end text) ≤ length text
trim_end-le text = let parts = trim_end-parts text in omega (arith, ap length parts.1, length-append (trim_end text) parts.0)

pub trim_blanks-le : (text : List ℕ) → length (trim_blanks text) ≤ length text
unfolding trim_blanks
trim_blanks-le text = omega (arith, trim_end-le (trim_start text), trim_start-le text)
