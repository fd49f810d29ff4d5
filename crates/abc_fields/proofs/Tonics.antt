-- The front of a key is read by its grammar.
use Rattle.std.proofs.Common.{◌≡◌, ℕ, ◌<◌, ℤ, pos, negsuc, ◌+ℤ◌, Bool, true, false, cond, List, [], ◌∷◌, ◌++◌, length, take, drop, Option, Some, None, codes, refl, sym, ap, ◌∙◌, subst, inl, inr}
use Rattle.std.proofs.Common.{⊎_elim, arith}
use Rattle.std.specs.Prelude.{◌==◌, ◌≢◌}
use Rattle.std.specs.List.{AllPass, prefix_len}
use Rattle.std.specs.Option.{option_map, option_and_then}
use Rattle.std.specs.Str.{bytes_eq}
use Rattle.std.specs.Char.{is_ascii_alphabetic}
use Rattle.std.proofs.Math.Seq.{take-append_seam, drop-append_seam}
use Rattle.std.proofs.lemmas.Bool.{cond-true, cond-false, cond_both, cases_Bool, eqb-true, eqb-false, eq-eqb, ne_eqb, false_from_ne_true, both_ways}
use Rattle.std.proofs.lemmas.List.{take-append-drop}
use Rattle.std.proofs.lemmas.Option.{cond_some}
use Rattle.std.proofs.lemmas.Slice.Eq.{bytes_eq-Decides}
use Rattle.abc_fields.specs.declared.mode.Mode.{Mode}
use Rattle.abc_fields.specs.declared.mode.Mode.TheVariants.{Ionian}
use Rattle.abc_fields.specs.declared.tonic.KeyMode.{KeyMode}
use Rattle.abc_fields.specs.declared.tonic.KeyMode.TheVariants.{Named, Explicit}
use Rattle.abc_text.specs.declared.letter.Letter.{Letter}
use Rattle.abc_text.specs.Blank.{is_blank}
use Rattle.abc_text.specs.Letter.{capital, letter_of}
use Rattle.abc_text.proofs.Fronts.{empty_list, front_exact, front_none, front_passes, front_stops}
use Rattle.abc_text.proofs.Letters.{letter_of-capital}
use Rattle.abc_fields.proofs.Readings.{bound, branches, map_some}
use Rattle.abc_fields.specs.Mode.{mode_named, mode_of}
use Rattle.abc_fields.specs.Spelling.Mode.{IsMode}
use Rattle.abc_fields.specs.Tonic.{if_capital, tonic_letter, major_sharps, sign_at, tonic_at, key_mode_by, key_mode_at}
use Rattle.abc_fields.specs.Spelling.Tonic.{HasNoSign, IsSign, IsTonic, StopsAt, IsRun, IsKeyMode}
use Rattle.abc_fields.specs.Spelling.Tonic.IsSign.{sharp, flat, none}
use Rattle.abc_fields.specs.Spelling.Tonic.IsKeyMode.{named, explicit, major}
use Rattle.abc_fields.proofs.Modes.{mode_from, mode_to}

-- the letter of a tonic
if_capital-is : (b : ℕ) (known letter : Letter) → if_capital b known ≡ Some letter → b ≡ capital letter
if_capital-is b known letter e =
    let found = cond_some _ _ _ e in
    sym (eqb-true (capital known) b found.0) ∙ ap capital found.1

tonic_letter-is : (b : ℕ) (letter : Letter) → tonic_letter b ≡ Some letter → b ≡ capital letter
tonic_letter-is b letter e = let known = bound (if_capital b) (letter_of b) letter e in if_capital-is b known.0 letter known.2

tonic_letter-capital : (letter : Letter) → tonic_letter (capital letter) ≡ Some letter
tonic_letter-capital letter = ap (option_and_then (if_capital (capital letter))) (letter_of-capital letter) ∙ cond-true _ _ _ (eq-eqb (capital letter) (capital letter) refl)

-- the sign after it
sign_from : (text : List ℕ) → IsSign text (sign_at text).0 (sign_at text).1
sign_from [] = none ((λ rest e. cc), (λ rest e. cc)) refl refl
sign_from (b ∷ bs) =
    cond_both (b == 35) (pos 7, bs) _ (λ (p : ℤ × List ℕ). IsSign (b ∷ bs) p.0 p.1) (λ t. sharp (ap (λ x. x ∷ bs) (eqb-true b 35 t)) refl) (λ t.
    cond_both (b == 98) (negsuc 6, bs) (pos 0, b ∷ bs) (λ (p : ℤ × List ℕ). IsSign (b ∷ bs) p.0 p.1) (λ u. flat (ap (λ x. x ∷ bs) (eqb-true b 98 u)) refl) (λ u.
    none ((λ rest e. eqb-false b 35 t cc), (λ rest e. eqb-false b 98 u cc)) refl refl))

no_sign : (text : List ℕ) → HasNoSign text → sign_at text ≡ (pos 0, text)
no_sign [] h = refl
no_sign (b ∷ bs) h =
    cond-false (b == 35) _ _ (ne_eqb b 35 (λ e. h.0 bs (ap (λ x. x ∷ bs) e)))
    ∙ cond-false (b == 98) _ _ (ne_eqb b 98 (λ e. h.1 bs (ap (λ x. x ∷ bs) e)))

sign_to : (text : List ℕ) (added : ℤ) (rest : List ℕ) → IsSign text added rest → sign_at text ≡ (added, rest)
sign_to text added rest (sharp e h) = ap sign_at e ∙ (λ i. (sym h i, rest))
sign_to text added rest (flat e h) = ap sign_at e ∙ (λ i. (sym h i, rest))
sign_to text added rest (none unsigned e h) = no_sign text unsigned ∙ (λ i. (sym h i, e i))

-- the tonic
abbrev with_sign : List ℕ → Letter → ℤ × List ℕ
with_sign following letter = (major_sharps letter +ℤ (sign_at following).0, (sign_at following).1)

pub tonic_from : (text : List ℕ) (s : ℤ) (rest : List ℕ) → tonic_at text ≡ Some (s, rest) → IsTonic text s rest
tonic_from [] s rest e = cc
tonic_from (b ∷ following) s rest e =
    let letter = map_some (with_sign following) (tonic_letter b) (s, rest) e in
    subst (λ (p : ℤ × List ℕ). IsTonic (b ∷ following) p.0 p.1) (sym letter.2) (record {
      letter = letter.0;
      following = following;
      spelling = ap (λ x. x ∷ following) (tonic_letter-is b letter.0 letter.1);
      added = (sign_at following).0;
      sign = sign_from following;
      sharps_are = refl;
    })

pub tonic_to : (text : List ℕ) (s : ℤ) (rest : List ℕ) → IsTonic text s rest → tonic_at text ≡ Some (s, rest)
tonic_to text s rest h =
    let sign = sign_to h.following h.added rest h.sign in
    ap tonic_at h.spelling
    ∙ ap (option_map (with_sign h.following)) (tonic_letter-capital h.letter)
    ∙ (λ i. Some (major_sharps h.letter +ℤ (sign i).0, (sign i).1))
    ∙ (λ i. Some (sym h.sharps_are i, rest))

-- the longest front that passes a test
stopped : (test : ℕ → Bool) (rest : List ℕ) → StopsAt test rest → prefix_len test rest ≡ 0
stopped test [] stops = refl
stopped test (b ∷ bs) stops = front_none test b bs (stops b bs refl)

front_len : (test : ℕ → Bool) (front rest : List ℕ) → AllPass test front → StopsAt test rest → prefix_len test (front ++ rest) ≡ length front
front_len test front rest pass stops = front_exact test front rest pass (stopped test rest stops)

stops_following : (test : ℕ → Bool) (text : List ℕ) → StopsAt test (drop (prefix_len test text) text)
stops_following test text b rest e = ⊎_elim
    (λ none. let no : b ∷ rest ≡ [] = sym e ∙ none in cc)
    (λ some. let same : b ∷ rest ≡ some.0 ∷ some.1 = sym e ∙ some.2 in let head : some.0 ≡ b = cc in subst (λ x. test x ≡ false) head some.3)
    (front_stops test text)

-- the run of letters
run_of : (text : List ℕ) →
    let following = drop (prefix_len is_blank text) text in
    IsRun text (take (prefix_len is_blank text) text) (take (prefix_len is_ascii_alphabetic following) following) (drop (prefix_len is_ascii_alphabetic following) following)
run_of text =
    let n = prefix_len is_blank text in
    let following = drop n text in
    let m = prefix_len is_ascii_alphabetic following in
    let whole = take-append-drop m following in
    record {
      spelling = sym (ap (λ l. take n text ++ l) whole ∙ take-append-drop n text);
      are_blanks = front_passes is_blank text;
      no_more_blanks = subst (StopsAt is_blank) (sym whole) (stops_following is_blank text);
      are_letters = front_passes is_ascii_alphabetic following;
      no_more_letters = stops_following is_ascii_alphabetic following;
    }

pub run_read : (text blanks run rest : List ℕ) → IsRun text blanks run rest → key_mode_at text ≡ key_mode_by (mode_of run) (length blanks) run text rest
unfolding key_mode_at
run_read text blanks run rest is =
    let n : prefix_len is_blank text ≡ length blanks = ap (prefix_len is_blank) is.spelling ∙ front_len is_blank blanks (run ++ rest) is.are_blanks is.no_more_blanks in
    let following : drop (prefix_len is_blank text) text ≡ run ++ rest = (λ i. drop (n i) (is.spelling i)) ∙ drop-append_seam blanks (run ++ rest) in
    let m : prefix_len is_ascii_alphabetic (drop (prefix_len is_blank text) text) ≡ length run =
    ap (prefix_len is_ascii_alphabetic) following ∙ front_len is_ascii_alphabetic run rest is.are_letters is.no_more_letters in
    let letters = (λ i. take (m i) (following i)) ∙ take-append_seam run rest in
    let more = (λ i. drop (m i) (following i)) ∙ drop-append_seam run rest in
    λ i. key_mode_by (mode_of (letters i)) (n i) (letters i) text (more i)

-- the mode of a key
no_mode : (run : List ℕ) (o : Option Mode) → mode_of run ≡ o → ((mode : Mode) → IsMode run mode → ⊥) → o ≡ None
no_mode run None e h = refl
no_mode run (Some mode) e h = absurd (h mode (mode_from run mode e))

exp_is_no_mode : mode_of (codes "exp") ≡ None
unfolding mode_of mode_named
exp_is_no_mode = refl

pub no_length : (text : List ℕ) → (length text == 0) ≡ true → text ≡ []
no_length text t = empty_list text (eqb-true (length text) 0 t)

some_length : (text : List ℕ) → 0 < length text → (length text == 0) ≡ false
some_length text some = ne_eqb (length text) 0 (λ e. omega (arith, e, some))

not_exp : (run : List ℕ) → run ≢ codes "exp" → bytes_eq run (codes "exp") ≡ false
not_exp run other = false_from_ne_true (bytes_eq run (codes "exp")) (λ t. other ((bytes_eq-Decides run (codes "exp")).0 t))

by_default : (blanks : ℕ) (run text rest : List ℕ) → (blanks == 0) ≡ false → bytes_eq run (codes "exp") ≡ false → key_mode_by None blanks run text rest ≡ Some (Named Ionian, text)
by_default blanks run text rest some other = ⊎_elim
    (λ t. cond-true (length run == 0) _ _ t)
    (λ t. cond-false (length run == 0) _ _ t ∙ cond-false (blanks == 0) _ _ some ∙ cond-false (bytes_eq run (codes "exp")) _ _ other)
    (cases_Bool (length run == 0))

pub key_mode_to : (text : List ℕ) (key_mode : KeyMode) (rest : List ℕ) → IsKeyMode text key_mode rest → key_mode_at text ≡ Some (key_mode, rest)
key_mode_to text key_mode rest (named blanks run mode is m e) =
    run_read text blanks run rest is ∙ ap (λ o. key_mode_by o (length blanks) run text rest) (mode_to run mode m) ∙ (λ i. Some (sym e i, rest))
key_mode_to text key_mode rest (explicit blanks is some e) =
    run_read text blanks (codes "exp") rest is
    ∙ ap (λ o. key_mode_by o (length blanks) (codes "exp") text rest) exp_is_no_mode
    ∙ cond-false (length blanks == 0) _ _ (some_length blanks some)
    ∙ (λ i. Some (sym e i, rest))
key_mode_to text key_mode rest (major blanks run following is nameless why e all) =
    run_read text blanks run following is
    ∙ ap (λ o. key_mode_by o (length blanks) run text following) (no_mode run (mode_of run) refl nameless)
    ∙ ⊎_elim
    (λ nil. ap (λ r. key_mode_by None (length blanks) r text following) nil)
    (λ later. by_default (length blanks) run text following (some_length blanks later.0) (not_exp run later.1))
    why
    ∙ (λ i. Some (sym e i, sym all i))

at_pair : (text : List ℕ) (a b : KeyMode × List ℕ) → Some a ≡ Some b → IsKeyMode text a.0 a.1 → IsKeyMode text b.0 b.1
at_pair text a b e h = let same : a ≡ b = cc in subst (λ (p : KeyMode × List ℕ). IsKeyMode text p.0 p.1) same h

key_mode_later : (text blanks run following : List ℕ) (found : KeyMode × List ℕ) → IsRun text blanks run following → ((mode : Mode) → IsMode run mode → ⊥) → (length blanks == 0) ≡ false
    → cond (bytes_eq run (codes "exp")) (Some (Explicit, following)) (Some (Named Ionian, text)) ≡ Some found → IsKeyMode text found.0 found.1
key_mode_later text blanks run following found is nameless some e = ⊎_elim
    (λ h. at_pair text (Explicit, following) found h.1 (explicit blanks (subst (λ r. IsRun text blanks r following) ((bytes_eq-Decides run (codes "exp")).0 h.0) is) (some_blanks blanks some) refl))
    (λ h. at_pair text (Named Ionian, text) found h.1
    (major blanks run following is nameless (inr (some_blanks blanks some, λ same. both_ways (bytes_eq run (codes "exp")) h.0 ((bytes_eq-Decides run (codes "exp")).1 same))) refl refl))
    (branches (bytes_eq run (codes "exp")) _ _ _ e)
  where
    some_blanks : (blanks : List ℕ) → (length blanks == 0) ≡ false → 0 < length blanks
    some_blanks [] t = cc
    some_blanks (b ∷ bs) t = omega arith

key_mode_by_mode : (text blanks run following : List ℕ) (found : KeyMode × List ℕ) (o : Option Mode) → mode_of run ≡ o → IsRun text blanks run following
    → key_mode_by o (length blanks) run text following ≡ Some found → IsKeyMode text found.0 found.1
key_mode_by_mode text blanks run following found (Some mode) o is e = at_pair text (Named mode, following) found e (named blanks run mode is (mode_from run mode o) refl)
key_mode_by_mode text blanks run following found None o is e =
    let nameless : (mode : Mode) → IsMode run mode → ⊥ = λ mode m. let known : Some mode ≡ None = sym (mode_to run mode m) ∙ o in cc in
    ⊎_elim
    (λ h. at_pair text (Named Ionian, text) found h.1 (major blanks run following is nameless (inl (no_length run h.0)) refl refl))
    (λ h. ⊎_elim
    (λ k. let none : None ≡ Some found = k.1 in cc)
    (λ k. key_mode_later text blanks run following found is nameless k.0 k.1)
    (branches (length blanks == 0) _ _ _ h.1))
    (branches (length run == 0) _ _ _ e)

pub key_mode_from : (text : List ℕ) (key_mode : KeyMode) (rest : List ℕ) → key_mode_at text ≡ Some (key_mode, rest) → IsKeyMode text key_mode rest
key_mode_from text key_mode rest e =
    let is = run_of text in
    key_mode_by_mode text _ _ _ (key_mode, rest) _ refl is (sym (run_read text _ _ _ is) ∙ e)
