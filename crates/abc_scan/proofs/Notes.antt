-- The note at the front of a text is the longest one that the grammar has there.
use Rattle.std.proofs.Common.{◌≡◌, ℕ, zero, suc, ◌+◌, ◌-◌, ◌<◌, ◌≤◌, true, false, Option, Some, None, List, [], ◌∷◌, ◌++◌, length, take, drop, replicate, refl, sym, ap, ◌∙◌, subst, ⊎_elim, arith}
use Rattle.std.proofs.Common.{append_assoc, length-append, length-drop, take-add}
use Rattle.std.specs.Prelude.{ℤ, pos, IfSome, ◌==◌, ◌||◌}
use Rattle.std.specs.List.{prefix_len, AllPass}
use Rattle.std.specs.Option.{option_map}
use Rattle.std.proofs.Math.Seq.{take-append-add}
use Rattle.std.proofs.lemmas.Bool.{cond-false, cond_both, and_from, and_parts, eqb-true, le-leb, leb-true, ne_eqb, not-true, or_from, or_parts}
use Rattle.std.proofs.lemmas.Int.{ints}
use Rattle.std.proofs.lemmas.List.Elements.{All-head}
use Rattle.std.proofs.lemmas.List.Sums.{prefix_len-le-length}
use Rattle.abc_scan.specs.declared.length.WrittenLength.{WrittenLength}
use Rattle.abc_scan.specs.declared.length.WrittenLength.TheVariants.{Factor}
use Rattle.abc_text.specs.declared.accidental.Accidental.{Accidental}
use Rattle.abc_text.specs.declared.accidental.Accidental.TheVariants.{Flat, Sharp}
use Rattle.abc_text.specs.declared.letter.Letter.{Letter}
use Rattle.abc_text.specs.declared.letter.Letter.TheVariants.{C}
use Rattle.abc_text.specs.Digit.{is_digit}
use Rattle.abc_text.specs.Letter.{capital, small, IsLetter, letter_of}
use Rattle.abc_text.proofs.Decimals.{digit_range}
use Rattle.abc_text.proofs.Letters.{letter_of-is, letter_exact}
use Rattle.abc_scan.specs.declared.note.Note.{Note}
use Rattle.abc_scan.specs.Length.{IsLength, is_slash, begins_length, length_at, length_size}
use Rattle.abc_scan.specs.Note.{accidental_text, is_octave_mark, letter_octave, octave, ends_letter, is_factor, plain_note, IsPlain, IsShort, IsNote, begins_with_byte, accidental_at, accidental_size}
use Rattle.abc_scan.specs.Note.{marks_size, note_of, note_after, note_at}
use Rattle.abc_text.proofs.Fronts.{front_passes, front_append, drop_exact, front_none}
use Rattle.abc_scan.proofs.Lengths.{read_length, length_longest, length_sound, length_size-le, unwritten, one_digit}
use Rattle.abc_scan.proofs.Marks.{run_covers}
use Rattle.abc_scan.proofs.Readings.{Finds, Covers, IsSpelled, mapped, covers_both}

-- an accidental in front of a letter is read as itself
pub record NoSign (b : ℕ) : Type 0 where
  pub no_sharp : (b == 94) ≡ false
  pub no_flat : (b == 95) ≡ false
  pub no_natural : (b == 61) ≡ false

no_sign : (letter : Letter) → NoSign (capital letter) × NoSign (small letter)
no_sign C = (record { no_sharp = refl; no_flat = refl; no_natural = refl }, record { no_sharp = refl; no_flat = refl; no_natural = refl })
no_sign letter = (record { no_sharp = refl; no_flat = refl; no_natural = refl }, record { no_sharp = refl; no_flat = refl; no_natural = refl })

letter_no_sign : (b : ℕ) (letter : Letter) → IsLetter b letter → NoSign b
letter_no_sign b letter is = ⊎_elim (λ e. subst NoSign (sym e) (no_sign letter).0) (λ e. subst NoSign (sym e) (no_sign letter).1) is

accidental_read : (a : Option Accidental) (b : ℕ) (rest : List ℕ) → NoSign b → accidental_at (accidental_text a ++ (b ∷ rest)) ≡ a
unfolding accidental_at
accidental_read None b rest n = cond-false _ _ _ n.no_sharp ∙ cond-false _ _ _ n.no_flat ∙ cond-false _ _ _ n.no_natural
accidental_read (Some Flat) b rest n = cond-false _ _ _ n.no_flat
accidental_read (Some Sharp) b rest n = cond-false _ _ _ n.no_sharp
accidental_read _ b rest n = refl

-- an accidental that is read is there
doubled : (n b : ℕ) (bs : List ℕ) → b ≡ n → begins_with_byte n bs ≡ true → b ∷ bs ≡ n ∷ n ∷ drop 2 (b ∷ bs)
doubled n b [] e h = cc
doubled n b (c ∷ cs) e h = λ i. e i ∷ eqb-true c n h i ∷ cs

abbrev Stands : Option Accidental → List ℕ → Type 0
Stands a text = text ≡ accidental_text a ++ drop (accidental_size a) text

accidental_sound : (text : List ℕ) → Stands (accidental_at text) text
unfolding accidental_at
accidental_sound [] = refl
accidental_sound (b ∷ bs) =
    cond_both (b == 94) _ _ (λ a. Stands a (b ∷ bs))
    (λ sharp. cond_both (begins_with_byte 94 bs) _ _ (λ a. Stands a (b ∷ bs)) (λ two. doubled 94 b bs (eqb-true b 94 sharp) two) (λ _. ap (λ x. x ∷ bs) (eqb-true b 94 sharp)))
    (λ _. cond_both (b == 95) _ _ (λ a. Stands a (b ∷ bs))
    (λ flat. cond_both (begins_with_byte 95 bs) _ _ (λ a. Stands a (b ∷ bs)) (λ two. doubled 95 b bs (eqb-true b 95 flat) two) (λ _. ap (λ x. x ∷ bs) (eqb-true b 95 flat)))
    (λ _. cond_both (b == 61) _ _ (λ a. Stands a (b ∷ bs)) (λ natural. ap (λ x. x ∷ bs) (eqb-true b 61 natural)) (λ _. refl)))

-- no mark follows the marks of a note
digit_no_mark : (b : ℕ) → is_digit b ≡ true → is_octave_mark b ≡ false
digit_no_mark b h = let range = digit_range b h in or_from _ _ (ne_eqb b 39 (λ e. absurd (omega arith))) (ne_eqb b 44 (λ e. absurd (omega arith)))

no_mark : (over : List ℕ) (s : ℕ) (under rest : List ℕ) → AllPass is_digit over → (0 < length under → s ≡ 1) → 0 < length (over ++ (replicate s 47 ++ under))
    → prefix_len is_octave_mark ((over ++ (replicate s 47 ++ under)) ++ rest) ≡ 0
no_mark [] zero [] rest digits one some = absurd (omega arith)
no_mark [] zero (d ∷ ds) rest digits one some = let e : zero ≡ 1 = one (omega arith) in absurd (omega arith)
no_mark [] (suc s) under rest digits one some = front_none is_octave_mark 47 ((replicate s 47 ++ under) ++ rest) refl
no_mark (d ∷ ds) s under rest digits one some = front_none is_octave_mark d ((ds ++ (replicate s 47 ++ under)) ++ rest) (digit_no_mark d (All-head (λ b. is_digit b ≡ true) d ds digits))

marks_end : (written rest : List ℕ) (value : WrittenLength) → IsLength written value → 0 < length written → prefix_len is_octave_mark (written ++ rest) ≡ 0
marks_end written rest value is some =
    ap (λ l. prefix_len is_octave_mark (l ++ rest)) is.spelling ∙ no_mark is.over is.slashes is.under rest is.over_digits is.one_slash (subst (λ l. 0 < length l) is.spelling some)

note_read : (rest : List ℕ) (note : Note) (b : ℕ) → IsLetter b note.letter → note_at (accidental_text note.accidental ++ (b ∷ rest)) ≡ Some (note_of note.accidental b rest note.letter)
unfolding note_at
note_read rest note b letter =
    let text = accidental_text note.accidental ++ (b ∷ rest) in
    let sign : accidental_at text ≡ note.accidental = accidental_read note.accidental b rest (letter_no_sign b note.letter letter) in
    let following : drop (accidental_size (accidental_at text)) text ≡ b ∷ rest =
    (λ i. drop (accidental_size (sign i)) text) ∙ drop_exact (accidental_size note.accidental) (accidental_text note.accidental) (b ∷ rest) refl in
    (λ i. note_after (sign i) (following i)) ∙ ap (option_map (note_of note.accidental b rest)) ((letter_exact b note.letter).1 letter)

-- a letter is read alone if neither an octave mark nor a length follows it
record Alone (rest : List ℕ) : Type 0 where
  pub marks : marks_size rest ≡ 0
  pub size : length_size rest ≡ 0
  pub value : length_at rest ≡ Factor 1 1

alone_before : (rest : List ℕ) → ends_letter rest ≡ true → Alone rest
unfolding length_size length_at
alone_before [] ends = record { marks = refl; size = refl; value = refl }
alone_before (b ∷ bs) ends =
    let none = or_parts (is_octave_mark b) (is_digit b || is_slash b) (not-true _ ends) in
    let length_of = unwritten b bs none.1 in
    record { marks = front_none is_octave_mark b bs none.0; size = length_of.0; value = length_of.1 }

octave_alone : (b : ℕ) → octave b [] ≡ pos (letter_octave b)
octave_alone b = omega (arith, ints)

abbrev read_plain : Letter → ℤ → WrittenLength → ℕ → Option (Note × ℕ)
read_plain letter octaves value size = Some (record { accidental = None; letter = letter; octave = octaves; length = value }, size)

plain_read : (b : ℕ) (rest : List ℕ) (num size : ℕ) (note : Note) → IsPlain b num note → marks_size rest ≡ 0 → length_size rest ≡ size → length_at rest ≡ Factor num 1
    → IsShort (b ∷ rest) (note, 1 + size)
plain_read b rest num size note is marks long written =
    let letter = note.letter in
    let own : IsLetter b letter = (letter_exact b letter).0 is.letter in
    let value : length_at (drop (marks_size rest) rest) ≡ Factor num 1 = ap (λ n. length_at (drop n rest)) marks ∙ written in
    let sizes : length_size (drop (marks_size rest) rest) ≡ size = ap (λ n. length_size (drop n rest)) marks ∙ long in
    let read : note_at (b ∷ rest) ≡ Some (plain_note b num letter, 1 + size) =
    note_read rest (plain_note b num letter) b own
    ∙ (λ i. read_plain letter (octave b (take (marks i) rest)) (value i) (0 + 1 + marks i + sizes i))
    ∙ ap (λ o. read_plain letter o (Factor num 1) (1 + size)) (octave_alone b) in
    record { byte = b; rest = rest; spelling = refl; letter = own; is_read = read ∙ ap (λ n. Some (n, 1 + size)) (sym is.plain) }

pub letter_alone : (b : ℕ) (rest : List ℕ) (note : Note) → IsPlain b 1 note → ends_letter rest ≡ true → IsShort (b ∷ rest) (note, 1)
letter_alone b rest note is ends = let alone = alone_before rest ends in plain_read b rest 1 0 note is alone.marks alone.size alone.value

pub letter_digit : (b d : ℕ) (rest : List ℕ) (note : Note) → IsPlain b (d - 48) note → is_factor d ≡ true → begins_length rest ≡ false → IsShort (b ∷ d ∷ rest) (note, 2)
letter_digit b d rest note is factor none =
    let parts = and_parts _ _ factor in
    let least : 49 ≤ d = leb-true 49 d parts.0 in
    let digit : is_digit d ≡ true = and_from _ _ (le-leb 48 d (omega arith)) parts.1 in
    let length_of = one_digit d rest least digit none in
    plain_read b (d ∷ rest) (d - 48) 1 note is (front_none is_octave_mark d rest (digit_no_mark d digit)) length_of.0 length_of.1

pub note_longest : (front rest : List ℕ) (note : Note) → IsNote front note → Finds (note_at (front ++ rest)) front note
note_longest front rest note is =
    let sign = accidental_text note.accidental in
    let following = is.marks ++ (is.written ++ rest) in
    let found : Note × ℕ = note_of note.accidental is.letter following note.letter in
    let parts : front ++ rest ≡ sign ++ (is.letter ∷ following) =
    ap (λ l. l ++ rest) is.spelling ∙ append_assoc sign (is.letter ∷ (is.marks ++ is.written)) rest ∙ ap (λ l. sign ++ (is.letter ∷ l)) (append_assoc is.marks is.written rest) in
    let long : length front ≡ length sign + suc (length (is.marks ++ is.written)) = ap length is.spelling ∙ length-append sign (is.letter ∷ (is.marks ++ is.written)) in
    let count = front_append is_octave_mark is.marks (is.written ++ rest) is.octave_marks in
    let covers = covers_both (take (marks_size following) following, marks_size following) (read_length (drop (marks_size following) following)) is.marks is.written is.marks note.length
    (run_covers is_octave_mark is.marks (is.written ++ rest) is.octave_marks)
    (λ exact. subst (λ l. Covers (read_length l) is.written note.length) (sym (drop_exact (marks_size following) is.marks (is.written ++ rest) (sym exact)))
    (length_longest is.written rest note.length is.length_is))
    (λ some. omega (arith, count, marks_end is.written rest note.length is.length_is some)) in
    record {
      found = found.0;
      size = found.1;
      is_read = ap note_at parts ∙ note_read following note is.letter is.letter_is;
      long = omega (arith, long, covers.0);
      same = λ e.
          let same = covers.1 (omega (arith, long, e)) in
          let octaves : note.octave ≡ octave is.letter (take (marks_size following) following) = is.octave_is ∙ (λ i. octave is.letter (same i).0) in
          λ i. record { accidental = note.accidental; letter = note.letter; octave = octaves i; length = (same i).1 };
    }

-- the note read is one of the grammar
note_here : (a : Option Accidental) (b : ℕ) (rest : List ℕ) (letter : Letter) → IsLetter b letter → IsSpelled IsNote (accidental_text a ++ (b ∷ rest)) (note_of a b rest letter)
note_here a b rest letter is =
    let following = drop (marks_size rest) rest in
    let total = length-append (accidental_text a) (b ∷ rest) in
    let marks = prefix_len-le-length is_octave_mark rest in
    let written = length_size-le following in
    let sum : (note_of a b rest letter).1 ≡ length (accidental_text a) + suc (marks_size rest + length_size following) = omega arith in (
      record { some = omega arith; inside = omega (arith, total, marks, written, sum, length-drop (marks_size rest) rest) },
      record {
        letter = b;
        marks = take (marks_size rest) rest;
        written = take (length_size following) following;
        spelling = (λ i. take (sum i) (accidental_text a ++ (b ∷ rest))) ∙ take-append-add (accidental_text a) (b ∷ rest) (suc (marks_size rest + length_size following))
            ∙ ap (λ l. accidental_text a ++ (b ∷ l)) (take-add (marks_size rest) (length_size following) rest);
        letter_is = is;
        octave_marks = front_passes is_octave_mark rest;
        octave_is = refl;
        length_is = length_sound following;
      },
    )

letter_found : (b : ℕ) (o : Option Letter) → letter_of b ≡ o → IfSome o (IsLetter b)
letter_found b None e = tt
letter_found b (Some letter) e = letter_of-is b letter e

following_sound : (a : Option Accidental) (following : List ℕ) → IfSome (note_after a following) (IsSpelled IsNote (accidental_text a ++ following))
following_sound a [] = tt
following_sound a (b ∷ rest) =
    mapped (IsLetter b) (IsSpelled IsNote (accidental_text a ++ (b ∷ rest))) (note_of a b rest) (letter_of b) (λ letter is. note_here a b rest letter is) (letter_found b (letter_of b) refl)

pub note_sound : (text : List ℕ) → IfSome (note_at text) (IsSpelled IsNote text)
unfolding note_at
note_sound text =
    let a = accidental_at text in
    let following = drop (accidental_size a) text in
    subst (λ l. IfSome (note_after a following) (IsSpelled IsNote l)) (sym (accidental_sound text)) (following_sound a following)
