-- Accidentals, looked back for.
use Rattle.std.proofs.Common.{◌≡◌, ◌==◌, ℤ, Bool, true, false, ◌&&◌, cond, List, [], ◌∷◌, Option, Some, None, unwrap_or, refl, sym, ap, ◌∙◌}
use Rattle.std.specs.BTreeMap.{insert_entry, is_at}
use Rattle.std.specs.Cmp.{int_cmp_total}
use Rattle.std.specs.Map.{lookup}
use Rattle.std.specs.Option.{option_or}
use Rattle.std.proofs.Common.{Ordering, Less, Equal, Greater}
use Rattle.std.specs.Ordering.{int_cmp, int_eq, is_eq, match_ordering}
use Rattle.std.proofs.lemmas.Bool.Decides.{Decides-int_eq}
use Rattle.std.proofs.lemmas.Cmp.{alike_right}
use Rattle.abc_scan.specs.declared.directive.Reach.{Reach}
use Rattle.abc_scan.specs.declared.directive.Reach.TheVariants.{Not, Octave, Pitch}
use Rattle.abc_scan.specs.declared.note.Note.{Note}
use Rattle.abc_text.specs.declared.letter.Letter.{Letter}
use Rattle.abc_text.specs.declared.letter.Letter.TheVariants.{C, D, E, F, G, A, B}
use Rattle.abc_text.specs.Letter.{capital}
use Rattle.abc_bars_voice.specs.declared.accidentals.Accidentals.{Accidentals}
use Rattle.abc_bars_voice.specs.declared.accidentals.Accidentals.TheVariants.{Own, InOctaves, OnLetters}
use Rattle.abc_bars_voice.specs.declared.accidentals.LetterAccidentals.{LetterAccidentals}
use Rattle.abc_bars_voice.specs.Accidentals.{letters_in, no_accidentals, no_letters, on_letter, reach_of, with_letter, with_octave, written_on}
use Rattle.abc_bars_voice.specs.Alteration.{own_alteration, with_own, with_written}
use Rattle.abc_bars.specs.LookBack.Voice.{accidentals_of, newest_written, put_before, reaches}

-- How far accidentals reach stays.
reach-written : (accidentals : Accidentals) (note : Note) (own : Option ℤ) → reach_of (with_written accidentals note own) ≡ reach_of accidentals
reach-written accidentals note None = refl
reach-written Own note (Some by) = refl
reach-written (InOctaves octaves) note (Some by) = refl
reach-written (OnLetters letters) note (Some by) = refl

reach-none : (reach : Reach) → reach_of (no_accidentals reach) ≡ reach
reach-none Not = refl
reach-none Octave = refl
reach-none Pitch = refl

pub reach_kept : (reach : Reach) (notes : List Note) → reach_of (accidentals_of reach notes) ≡ reach
reach_kept reach [] = reach-none reach
reach_kept reach (note ∷ earlier) = reach-written (accidentals_of reach earlier) note (own_alteration note) ∙ reach_kept reach earlier

-- One more accidental on a letter.
letter-set : (letters : LetterAccidentals) (of_note letter : Letter) (by : ℤ)
    → on_letter (with_letter letters of_note by) letter ≡ option_or (cond (capital of_note == capital letter) (Some by) None) (on_letter letters letter)
letter-set letters C C by = refl
letter-set letters D D by = refl
letter-set letters E E by = refl
letter-set letters F F by = refl
letter-set letters G G by = refl
letter-set letters A A by = refl
letter-set letters B B by = refl
letter-set letters of_note letter by = refl

-- What is found after one more entry of a map.
twice : {X : Type 0} (b : Bool) (x y z : X) → cond b x z ≡ cond b x (cond b y z)
twice true x y z = refl
twice false x y z = refl

by-turns : {X : Type 0} (a b : Bool) (x y z : X) → (a ≡ true → b ≡ false) → cond b y (cond a x z) ≡ cond a x (cond b y z)
by-turns true true x y z apart = let never : true ≡ false = apart refl in absurd cc
by-turns true false x y z apart = refl
by-turns false b x y z apart = refl

equal-by : (order : Ordering) → is_eq order ≡ true → order ≡ Equal
equal-by Less is = absurd cc
equal-by Equal is = refl
equal-by Greater is = absurd cc

-- What is found at a key.
abbrev Found : {X : Type 0} → ℤ → List (ℤ × X) → Option X
Found q entries = lookup (is_at (int_cmp q)) entries

found-by : {X : Type 0} (q k : ℤ) (v : X) (e : ℤ × X) (es : List (ℤ × X)) → Found q (insert_entry int_cmp es k v) ≡ cond (int_eq q k) (Some v) (Found q es)
    → (order : Ordering) → int_cmp k e.0 ≡ order
    → Found q (match_ordering order ((k, v) ∷ e ∷ es) ((e.0, v) ∷ es) (e ∷ insert_entry int_cmp es k v)) ≡ cond (int_eq q k) (Some v) (cond (int_eq q e.0) (Some e.1) (Found q es))
found-by q k v e es rest Less is = refl
found-by q k v e es rest Equal is =
    let same : int_eq q k ≡ int_eq q e.0 = ap is_eq (alike_right int_cmp_total k e.0 q is) in
    twice (int_eq q e.0) (Some v) (Some e.1) (Found q es) ∙ ap (λ (b : Bool). cond b (Some v) (cond (int_eq q e.0) (Some e.1) (Found q es))) (sym same)
found-by q k v e es rest Greater is =
    ap (λ (o : Option _). cond (int_eq q e.0) (Some e.1) o) rest
    ∙ by-turns (int_eq q k) (int_eq q e.0) (Some v) (Some e.1) (Found q es)
    (λ same. ap is_eq (int_cmp_total.congr q k e.0 (equal-by (int_cmp q k) same) ∙ is))

found-set : {X : Type 0} (q k : ℤ) (v : X) (es : List (ℤ × X)) → Found q (insert_entry int_cmp es k v) ≡ cond (int_eq q k) (Some v) (Found q es)
found-set q k v [] = refl
found-set q k v (e ∷ es) = found-by q k v e es (found-set q k v es) (int_cmp k e.0) refl

-- One more accidental on a letter in an octave.
default-by : (b : Bool) (x : LetterAccidentals) (o : Option LetterAccidentals) → unwrap_or (cond b (Some x) o) no_letters ≡ cond b x (unwrap_or o no_letters)
default-by true x o = refl
default-by false x o = refl

octave-set : (octaves : List (ℤ × LetterAccidentals)) (k q : ℤ) (letter : Letter) (by : ℤ)
    → letters_in (with_octave octaves k letter by) q ≡ cond (int_eq q k) (with_letter (letters_in octaves k) letter by) (letters_in octaves q)
unfolding letters_in with_octave
octave-set octaves k q letter by =
    ap (λ (o : Option LetterAccidentals). unwrap_or o no_letters) (found-set q k (with_letter (letters_in octaves k) letter by) octaves)
    ∙ default-by (int_eq q k) (with_letter (letters_in octaves k) letter by) (Found q octaves)

-- Octaves that compare as equal have the same accidentals.
same-octave : (octaves : List (ℤ × LetterAccidentals)) (k q : ℤ) → int_eq q k ≡ true → letters_in octaves q ≡ letters_in octaves k
same-octave octaves k q is = ap (letters_in octaves) ((Decides-int_eq q k).0 is)

none-apart : (c : Bool) (by : ℤ) (old : Option ℤ) → old ≡ option_or (cond (c && false) (Some by) None) old
none-apart true by old = refl
none-apart false by old = refl

all-true : (c : Bool) → (c && true) ≡ c
all-true true = refl
all-true false = refl

in-octaves : (octaves : List (ℤ × LetterAccidentals)) (other note : Note) (by : ℤ) (b : Bool) → int_eq note.octave other.octave ≡ b
    → on_letter (cond b (with_letter (letters_in octaves other.octave) other.letter by) (letters_in octaves note.octave)) note.letter
    ≡ option_or (cond ((capital other.letter == capital note.letter) && b) (Some by) None) (on_letter (letters_in octaves note.octave) note.letter)
in-octaves octaves other note by true is =
    letter-set (letters_in octaves other.octave) other.letter note.letter by
    ∙ (λ i. option_or (cond (sym (all-true (capital other.letter == capital note.letter)) i) (Some by) None) (on_letter (sym (same-octave octaves other.octave note.octave is) i) note.letter))
in-octaves octaves other note by false is = none-apart (capital other.letter == capital note.letter) by (on_letter (letters_in octaves note.octave) note.letter)

-- An accidental alters the notes that it reaches; for other notes nothing changes.
none-own : (b : Bool) (old : Option ℤ) → old ≡ option_or (cond b None None) old
none-own true old = refl
none-own false old = refl

on-with-written : (accidentals : Accidentals) (other note : Note) (own : Option ℤ)
    → written_on (with_written accidentals other own) note ≡ option_or (cond (reaches (reach_of accidentals) other note) own None) (written_on accidentals note)
on-with-written accidentals other note None = none-own (reaches (reach_of accidentals) other note) (written_on accidentals note)
on-with-written Own other note (Some by) = refl
on-with-written (OnLetters letters) other note (Some by) = letter-set letters other.letter note.letter by
on-with-written (InOctaves octaves) other note (Some by) =
    ap (λ (letters : LetterAccidentals). on_letter letters note.letter) (octave-set octaves other.octave note.octave other.letter by)
    ∙ in-octaves octaves other note by (int_eq note.octave other.octave) refl

on-no-letter : (letter : Letter) → on_letter no_letters letter ≡ None
on-no-letter C = refl
on-no-letter _ = refl

on-none : (reach : Reach) (note : Note) → written_on (no_accidentals reach) note ≡ None
unfolding letters_in
on-none Not note = refl
on-none Octave note = on-no-letter note.letter
on-none Pitch note = on-no-letter note.letter

-- What is heard on a note is the last of the accidentals that reach it.
pub newest_heard : (reach : Reach) (notes : List Note) (note : Note) → written_on (accidentals_of reach notes) note ≡ newest_written reach note notes
newest_heard reach [] note = on-none reach note
newest_heard reach (other ∷ earlier) note =
    on-with-written (accidentals_of reach earlier) other note (own_alteration other)
    ∙ (λ i. option_or (cond (reaches (reach_kept reach earlier i) other note) (own_alteration other) None) (newest_heard reach earlier note i))

-- The accidentals after the notes of a chord.
abbrev pub with_each : Accidentals → List (Note × Bool) → Accidentals
with_each accidentals [] = accidentals
with_each accidentals (note ∷ later) = with_each (with_own accidentals note.0) later

pub each_put : (reach : Reach) (notes : List (Note × Bool)) (before : List Note) → accidentals_of reach (put_before notes before) ≡ with_each (accidentals_of reach before) notes
each_put reach [] before = refl
each_put reach (note ∷ later) before = each_put reach later (note.0 ∷ before)
