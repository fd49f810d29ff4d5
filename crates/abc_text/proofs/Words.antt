-- Laws of words.
use Rattle.std.proofs.Common.{◌≡◌, ℕ, suc, ◌+◌, ◌-◌, ◌<◌, ◌≤◌, true, false, ltb, List, [], ◌∷◌, ◌++◌, length, get_or, take, drop, MatchOption, IfSome, Option, Some, None, append-nil, refl, sym, ap}
use Rattle.std.proofs.Common.{◌∙◌, subst, inl, inr, ⊎_elim, arith, length-append, length-drop, length-take, length-take-le, drop-cons, add-one}
use Rattle.std.specs.Prelude.{◌⊎◌, ◌↔◌, not}
use Rattle.std.specs.List.{All, AllPass, filter, slice_range, slice_split}
use Rattle.std.proofs.Math.Seq.{take-append_seam, drop-append_seam}
use Rattle.std.proofs.lemmas.Bool.{cond-true, cond-false, cases_Bool, cases_lt, lt-ltb, le-ltb, not_from_false, not_from_true}
use Rattle.std.proofs.lemmas.List.Elements.{All-nil, All-cons, All-head, All-tail}
use Rattle.std.proofs.lemmas.List.Splits.{slice_split-cons_yes, slice_split_none, slice_split_first}
use Rattle.std.proofs.lemmas.List.{drop_all, take_all, take-append-drop, drop-drop}
use Rattle.std.proofs.lemmas.List.Sums.{prefix_len-le-length, prefix_len_stops, passes_at_first}
use Rattle.abc_text.specs.Blank.{is_blank}
use Rattle.abc_text.specs.Word.{is_word, words_of, IsFirstWord, AreWords, leading_blanks, bytes_before_blank, first_word}

abbrev IsInk : ℕ → Type 0
IsInk b = is_blank b ≡ false

-- the bytes before the first blank
ink : (text : List ℕ) → All IsInk (take (bytes_before_blank text) text)
ink [] = All-nil IsInk
ink (b ∷ bs) = ⊎_elim
    (λ yes. subst (λ n. All IsInk (take n (b ∷ bs))) (sym (cond-false (not (is_blank b)) (1 + bytes_before_blank bs) 0 (not_from_true _ yes))) (All-nil IsInk))
    (λ no.
    let n : bytes_before_blank (b ∷ bs) ≡ suc (bytes_before_blank bs) = cond-true (not (is_blank b)) (1 + bytes_before_blank bs) 0 (not_from_false _ no) ∙ omega arith in
    subst (λ n. All IsInk (take n (b ∷ bs))) (sym n) (All-cons IsInk b (take (bytes_before_blank bs) bs) no (ink bs)))
    (cases_Bool (is_blank b))

-- blanks make no word
following_blank : (b : ℕ) (bs : List ℕ) → is_blank b ≡ true → words_of (b ∷ bs) ≡ words_of bs
unfolding words_of
following_blank b bs is = ap (filter is_word) (slice_split-cons_yes is_blank b bs is)

after_blanks : (text : List ℕ) → words_of text ≡ words_of (drop (leading_blanks text) text)
after_blanks [] = refl
after_blanks (b ∷ bs) = ⊎_elim
    (λ yes.
    let n : leading_blanks (b ∷ bs) ≡ suc (leading_blanks bs) = cond-true (is_blank b) (1 + leading_blanks bs) 0 yes ∙ omega arith in
    following_blank b bs yes ∙ after_blanks bs ∙ ap (λ n. words_of (drop n (b ∷ bs))) (sym n))
    (λ no. ap (λ n. words_of (drop n (b ∷ bs))) (sym (cond-false (is_blank b) (1 + leading_blanks bs) 0 no)))
    (cases_Bool (is_blank b))

pub no_words : (text : List ℕ) → length text ≤ leading_blanks text → words_of text ≡ []
unfolding words_of
no_words text none = after_blanks text ∙ ap words_of (drop_all (leading_blanks text) text none)

-- a text that begins with a word
a_word : (word : List ℕ) (parts : List (List ℕ)) → 0 < length word → filter is_word (word ∷ parts) ≡ word ∷ filter is_word parts
a_word word parts some = cond-true (ltb 0 (length word)) _ _ (lt-ltb 0 (length word) some)

word_inside : (text : List ℕ) → 0 < bytes_before_blank text → bytes_before_blank text < length text
    → words_of text ≡ take (bytes_before_blank text) text ∷ words_of (drop (bytes_before_blank text) text)
unfolding words_of
word_inside text some inside =
    let n = bytes_before_blank text in
    let cut : slice_split is_blank text ≡ take n text ∷ slice_split is_blank (drop (n + 1) text) = slice_split_first is_blank text 0 inside in
    let next : drop n text ≡ get_or text n 0 ∷ drop (n + 1) text = rw (add-one, drop-cons text n 0) in
    let following : words_of (drop n text) ≡ words_of (drop (n + 1) text) = ap words_of next ∙ following_blank (get_or text n 0) (drop (n + 1) text) (passes_at_first is_blank text 0 inside) in
    let long : 0 < length (take n text) = omega (arith, length-take n text) in
    ap (filter is_word) cut ∙ a_word (take n text) (slice_split is_blank (drop (n + 1) text)) long ∙ ap (λ w. take n text ∷ w) (sym following)

word_alone : (text : List ℕ) → 0 < length text → length text ≤ bytes_before_blank text → words_of text ≡ take (bytes_before_blank text) text ∷ words_of (drop (bytes_before_blank text) text)
unfolding words_of
word_alone text some all =
    let n = bytes_before_blank text in
    let same : take n text ≡ text = take_all n text all in
    let cut : slice_split is_blank text ≡ text ∷ [] = slice_split_none is_blank text (subst (All IsInk) same (ink text)) in
    let front : words_of text ≡ text ∷ [] = ap (filter is_word) cut ∙ a_word text [] some in
    let following : words_of (drop n text) ≡ [] = ap words_of (drop_all n text all) in
    front ∙ (λ i. sym same i ∷ sym following i)

front_word : (text : List ℕ) → 0 < bytes_before_blank text → words_of text ≡ take (bytes_before_blank text) text ∷ words_of (drop (bytes_before_blank text) text)
front_word text some = ⊎_elim
    (λ inside. word_inside text some inside)
    (λ all. word_alone text (omega (arith, prefix_len-le-length (λ b. not (is_blank b)) text)) all)
    (cases_lt (bytes_before_blank text) (length text))

-- a word follows the blanks
some_ink : (text : List ℕ) → leading_blanks text < length text → 0 < bytes_before_blank (drop (leading_blanks text) text)
some_ink text inside =
    let n = leading_blanks text in
    let next : drop n text ≡ get_or text n 0 ∷ drop (suc n) text = drop-cons text n 0 inside in
    let no : is_blank (get_or text n 0) ≡ false = prefix_len_stops is_blank text 0 inside in
    let count : bytes_before_blank (drop n text) ≡ 1 + bytes_before_blank (drop (suc n) text) = ap bytes_before_blank next ∙ cond-true _ _ _ (not_from_false _ no) in
    omega (arith, count)

pub record IsPlace (text : List ℕ) (from to : ℕ) : Type 0 where
  pub some : from < to
  pub words : words_of text ≡ slice_range text from to ∷ words_of (drop to text)

place : (text : List ℕ) → leading_blanks text < length text → IsPlace text (leading_blanks text) (leading_blanks text + bytes_before_blank (drop (leading_blanks text) text))
place text inside =
    let from = leading_blanks text in
    let size = bytes_before_blank (drop from text) in
    let some : 0 < size = some_ink text inside in
    let same : size ≡ from + size - from = omega arith in
    record {
      some = omega arith;
      words = after_blanks text ∙ front_word (drop from text) some ∙ (λ i. take (same i) (drop from text) ∷ words_of (drop-drop size from text i));
    }

-- a law of the word after the blanks of a text is one of its first word
of_first_word : (Holds : ℕ → ℕ → Type 0) (text : List ℕ)
    → (leading_blanks text < length text → Holds (leading_blanks text) (leading_blanks text + bytes_before_blank (drop (leading_blanks text) text)))
    → (from to : ℕ) → Some (from, to) ≡ first_word text → Holds from to
unfolding first_word
of_first_word Holds text holds from to e = ⊎_elim
    (λ inside.
    let found : Some (leading_blanks text, leading_blanks text + bytes_before_blank (drop (leading_blanks text) text)) ≡ Some (from, to) = sym (cond-true _ _ _ (lt-ltb _ _ inside)) ∙ sym e in
    let same : (leading_blanks text, leading_blanks text + bytes_before_blank (drop (leading_blanks text) text)) ≡ (from, to) = cc in
    subst (λ (w : ℕ × ℕ). Holds w.0 w.1) same (holds inside))
    (λ past. let none : None ≡ Some (from, to) = sym (cond-false _ _ _ (le-ltb _ _ past)) ∙ sym e in cc)
    (cases_lt (leading_blanks text) (length text))

pub first_word_is : (text : List ℕ) (from to : ℕ) → Some (from, to) ≡ first_word text → IsPlace text from to
first_word_is text = of_first_word (IsPlace text) text (place text)

pub no_first_word : (text : List ℕ) → None ≡ first_word text → words_of text ≡ []
unfolding first_word
no_first_word text e = ⊎_elim
    (λ inside.
    let found : Some (leading_blanks text, leading_blanks text + bytes_before_blank (drop (leading_blanks text) text)) ≡ None = sym (cond-true _ _ _ (lt-ltb _ _ inside)) ∙ sym e in
    cc)
    (λ past. no_words text past)
    (cases_lt (leading_blanks text) (length text))

abbrev HasWords : List ℕ → Option (ℕ × ℕ) → Type 0
HasWords text o = MatchOption o (words_of text ≡ []) (λ w. words_of text ≡ slice_range text w.0 w.1 ∷ words_of (drop w.1 text))

pub words_at : (text : List ℕ) (o : Option (ℕ × ℕ)) → o ≡ first_word text → HasWords text o
words_at text None e = no_first_word text e
words_at text (Some w) e = (first_word_is text w.0 w.1 e).words

pub word_some : (text : List ℕ) (o : Option (ℕ × ℕ)) → o ≡ first_word text → IfSome o (λ w. w.0 < w.1)
word_some text None e = tt
word_some text (Some w) e = (first_word_is text w.0 w.1 e).some

-- the grammar of words, and their reading
are_blanks : (text : List ℕ) → AllPass is_blank (take (leading_blanks text) text)
are_blanks [] = All-nil _
are_blanks (b ∷ bs) = ⊎_elim
    (λ blank.
    let n : leading_blanks (b ∷ bs) ≡ suc (leading_blanks bs) = cond-true (is_blank b) (1 + leading_blanks bs) 0 blank ∙ omega arith in
    subst (λ n. AllPass is_blank (take n (b ∷ bs))) (sym n) (All-cons (λ x. is_blank x ≡ true) b (take (leading_blanks bs) bs) blank (are_blanks bs)))
    (λ other. subst (λ n. AllPass is_blank (take n (b ∷ bs))) (sym (cond-false (is_blank b) (1 + leading_blanks bs) 0 other)) (All-nil _))
    (cases_Bool (is_blank b))

abbrev Ends : List ℕ → Type 0
Ends following = (following ≡ []) ⊎ ((b : ℕ) × (rest : List ℕ) × (following ≡ b ∷ rest) × (is_blank b ≡ true))

ink_ends : (text : List ℕ) → Ends (drop (bytes_before_blank text) text)
ink_ends text = ⊎_elim
    (λ inside. inr (get_or text (bytes_before_blank text) 0, drop (suc (bytes_before_blank text)) text, drop-cons text (bytes_before_blank text) 0 inside, passes_at_first is_blank text 0 inside))
    (λ past. inl (drop_all (bytes_before_blank text) text past))
    (cases_lt (bytes_before_blank text) (length text))

-- the first word is at the place read
pub record IsFirstAt (text : List ℕ) (from to : ℕ) : Type 0 where
  pub first : IsFirstWord text (slice_range text from to) (drop to text)
  pub from_is : from ≡ length first.blanks
  pub to_is : to ≡ from + length (slice_range text from to)

first_at_blanks : (text : List ℕ) → leading_blanks text < length text → IsFirstAt text (leading_blanks text) (leading_blanks text + bytes_before_blank (drop (leading_blanks text) text))
first_at_blanks text inside =
    let from = leading_blanks text in
    let rest = drop from text in
    let size = bytes_before_blank rest in
    let some : 0 < size = some_ink text inside in
    let long : size ≤ length rest = prefix_len-le-length (λ b. not (is_blank b)) rest in
    let same : size ≡ from + size - from = omega arith in
    let word : take size rest ≡ slice_range text from (from + size) = ap (λ n. take n rest) same in
    let following : drop size rest ≡ drop (from + size) text = drop-drop size from text in
    let length_is : length (slice_range text from (from + size)) ≡ size = sym (ap length word) ∙ length-take-le size rest long in
    record {
      first = record {
        blanks = take from text;
        spelling = sym ((λ i. take from text ++ (sym word i ++ sym following i)) ∙ ap (λ l. take from text ++ l) (take-append-drop size rest) ∙ take-append-drop from text);
        are_blanks = are_blanks text;
        some = omega (arith, length_is);
        no_blank = subst (All IsInk) word (ink rest);
        ends = subst Ends following (ink_ends rest);
      };
      from_is = sym (length-take-le from text (omega arith));
      to_is = ap (λ n. from + n) (sym length_is);
    }

pub first_at : (text : List ℕ) (from to : ℕ) → Some (from, to) ≡ first_word text → IsFirstAt text from to
first_at text = of_first_word (IsFirstAt text) text (first_at_blanks text)

-- the same, with the rest cut out of the text
pub first_cut : (text : List ℕ) (from to : ℕ) → Some (from, to) ≡ first_word text → IsFirstWord text (slice_range text from to) (slice_range text to (length text))
first_cut text from to e =
    let all : take (length text - to) (drop to text) ≡ drop to text = take_all (length text - to) (drop to text) (omega (arith, length-drop to text)) in
    subst (IsFirstWord text (slice_range text from to)) (sym all) (first_at text from to e).first

front_blanks : (front rest : List ℕ) → AllPass is_blank front → leading_blanks (front ++ rest) ≡ length front + leading_blanks rest
front_blanks [] rest are = omega arith
front_blanks (b ∷ bs) rest are =
    let more = front_blanks bs rest (All-tail (λ x. is_blank x ≡ true) b bs are) in
    cond-true (is_blank b) (1 + leading_blanks (bs ++ rest)) 0 (All-head (λ x. is_blank x ≡ true) b bs are) ∙ omega (arith, more)

no_blank_first : (word rest : List ℕ) → 0 < length word → All IsInk word → leading_blanks (word ++ rest) ≡ 0
no_blank_first [] rest some are = absurd (omega arith)
no_blank_first (b ∷ bs) rest some are = cond-false (is_blank b) (1 + leading_blanks (bs ++ rest)) 0 (All-head IsInk b bs are)

front_ink : (word following : List ℕ) → All IsInk word → Ends following → bytes_before_blank (word ++ following) ≡ length word
front_ink [] following are ends = ⊎_elim
    (λ e. ap bytes_before_blank e)
    (λ h. ap bytes_before_blank h.2 ∙ cond-false (not (is_blank h.0)) (1 + bytes_before_blank h.1) 0 (not_from_true _ h.3))
    ends
front_ink (b ∷ bs) following are ends =
    let more = front_ink bs following (All-tail IsInk b bs are) ends in
    cond-true (not (is_blank b)) (1 + bytes_before_blank (bs ++ following)) 0 (not_from_false _ (All-head IsInk b bs are)) ∙ omega (arith, more)

-- and at no other place
pub record FirstKnown (text word following : List ℕ) (from : ℕ) : Type 0 where
  pub known : Some (from, from + length word) ≡ first_word text
  pub word_is : slice_range text from (from + length word) ≡ word
  pub after_is : drop (from + length word) text ≡ following

pub first_known : (text word following : List ℕ) (is : IsFirstWord text word following) → FirstKnown text word following (length is.blanks)
unfolding first_word
first_known text word following is =
    let from = length is.blanks in
    let some : 0 < length word = is.some in
    let count : leading_blanks text ≡ from = ap leading_blanks is.spelling ∙ front_blanks is.blanks (word ++ following) is.are_blanks ∙ (let none = no_blank_first word following some is.no_blank in
    omega (arith, none)) in
    let long : length text ≡ from + (length word + length following) = ap length is.spelling ∙ length-append is.blanks (word ++ following) ∙ ap (λ n. from + n) (length-append word following) in
    let rest : drop from text ≡ word ++ following = ap (drop from) is.spelling ∙ drop-append_seam is.blanks (word ++ following) in
    let size : bytes_before_blank (drop (leading_blanks text) text) ≡ length word = ap (λ n. bytes_before_blank
    (drop n text)) count ∙ ap bytes_before_blank rest ∙ front_ink word following is.no_blank is.ends in
    let inside : leading_blanks text < length text = omega (arith, count, long, some) in
    let same : from + length word - from ≡ length word = omega arith in
    record {
      known = (λ i. Some (sym count i, sym count i + sym size i)) ∙ sym (cond-true _ _ _ (lt-ltb _ _ inside));
      word_is = (λ i. take (same i) (rest i)) ∙ take-append_seam word following;
      after_is = sym (drop-drop (length word) from text) ∙ ap (drop (length word)) rest ∙ drop-append_seam word following;
    }

-- the words of a text are those of the grammar
pub all_blank : (text : List ℕ) → None ≡ first_word text → AllPass is_blank text
unfolding first_word
all_blank text e = ⊎_elim
    (λ inside.
    let found : Some (leading_blanks text, leading_blanks text + bytes_before_blank (drop (leading_blanks text) text)) ≡ None = sym (cond-true _ _ _ (lt-ltb _ _ inside)) ∙ sym e in
    cc)
    (λ past. subst (AllPass is_blank) (take_all (leading_blanks text) text past) (are_blanks text))
    (cases_lt (leading_blanks text) (length text))

blank_words : (text : List ℕ) → AllPass is_blank text → words_of text ≡ []
blank_words text are = no_words text (let e : leading_blanks (text ++ []) ≡ length text + 0 = front_blanks text [] are in let same : leading_blanks (text ++ []) ≡ leading_blanks text = ap
    leading_blanks (append-nil text) in omega (arith, e, same))

words_read : (words : List (List ℕ)) (text : List ℕ) (o : Option (ℕ × ℕ)) → o ≡ first_word text → words_of text ≡ words → AreWords text words
words_read [] text None e is = all_blank text e
words_read [] text (Some w) e is = let some : [] ≡ slice_range text w.0 w.1 ∷ words_of (drop w.1 text) = sym is ∙ (first_word_is text w.0 w.1 e).words in cc
words_read (word ∷ words) text None e is = let none : [] ≡ word ∷ words = sym (no_first_word text e) ∙ is in cc
words_read (word ∷ words) text (Some w) e is =
    let some : slice_range text w.0 w.1 ∷ words_of (drop w.1 text) ≡ word ∷ words = sym (first_word_is text w.0 w.1 e).words ∙ is in
    let first : slice_range text w.0 w.1 ≡ word = cc in
    let more : words_of (drop w.1 text) ≡ words = cc in
    (drop w.1 text, subst (λ x. IsFirstWord text x (drop w.1 text)) first (first_at text w.0 w.1 e).first, words_read words (drop w.1 text) (first_word (drop w.1 text)) refl more)

words_known : (words : List (List ℕ)) (text : List ℕ) → AreWords text words → words_of text ≡ words
words_known [] text are = blank_words text are
words_known (word ∷ words) text are =
    let known = first_known text word are.0 are.1 in
    let from = length are.1.blanks in
    (first_word_is text from (from + length word) known.known).words ∙ (λ i. known.word_is i ∷ words_of (known.after_is i)) ∙ ap (λ more. word ∷ more) (words_known words are.0 are.2)

pub words_exact : (text : List ℕ) (words : List (List ℕ)) → (words_of text ≡ words) ↔ AreWords text words
words_exact text words = (words_read words text (first_word text) refl, words_known words text)
