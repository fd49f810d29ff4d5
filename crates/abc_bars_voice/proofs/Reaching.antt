-- What a note hears is the last accidental that reaches it.
use Rattle.std.proofs.Common.{Ordering, ◌≡◌, ◌∙◌, ℤ, int_eq, int_cmp, ◌==◌, Bool, true, false, if◌then◌else◌, List, [], ◌∷◌, ◌++◌, Option, Some, None, unwrap_or, refl, sym, ap, subst}
use Rattle.std.specs.Prelude.{All, option_map}
use Rattle.std.specs.Ordering.{match_ordering}
use Rattle.std.specs.declared.cmp.Ordering.TheVariants.{Less, Equal, Greater}
use Rattle.std.specs.BTreeMap.{insert_entry, is_at}
use Rattle.std.specs.Map.{lookup}
use Rattle.std.proofs.lemmas.Bool.{false_from_ne_true}
use Rattle.std.proofs.lemmas.Bool.Decides.{Decides-int_eq, Decides-eqb}
use Rattle.std.proofs.lemmas.Cmp.{int_ranked}
use Rattle.std.proofs.lemmas.List.Elements.{All-head, All-tail}
use Rattle.abc_scan.specs.declared.directive.Reach.{Reach}
use Rattle.abc_scan.specs.declared.directive.Reach.TheVariants.{Not, Octave, Pitch}
use Rattle.abc_scan.specs.declared.note.Note.{Note}
use Rattle.abc_text.specs.declared.accidental.Accidental.{Accidental}
use Rattle.abc_text.specs.Accidental.{alteration as accidental_alteration}
use Rattle.abc_text.specs.declared.letter.Letter.{Letter}
use Rattle.abc_text.specs.declared.letter.Letter.TheVariants.{C, D, E, F, G, A, B}
use Rattle.abc_text.specs.Letter.{capital}
use Rattle.abc_bars_voice.specs.declared.accidentals.Accidentals.{Accidentals}
use Rattle.abc_bars_voice.specs.declared.accidentals.Accidentals.TheVariants.{Own, InOctaves, OnLetters}
use Rattle.abc_bars_voice.specs.declared.accidentals.LetterAccidentals.{LetterAccidentals}
use Rattle.abc_bars_voice.specs.Accidentals.{letters_in, no_accidentals, no_letters, on_letter, reach_of, with_accidental, with_letter, with_octave, written_on}
use Rattle.abc_bars_voice.specs.Alteration.{with_own, with_written}
use Rattle.abc_bars_voice.specs.Reaching.{AccidentalsReach, Hears, Reaches, after_notes}

-- an accidental on a letter, as each letter sees it
abbrev seen : LetterAccidentals → Letter → ℤ → Letter → Option ℤ
seen letters letter by other = if capital letter == capital other then Some by else on_letter letters other

abbrev each_letter : LetterAccidentals → Letter → ℤ → LetterAccidentals
each_letter letters letter by = record {
  c = seen letters letter by C;
  d = seen letters letter by D;
  e = seen letters letter by E;
  f = seen letters letter by F;
  g = seen letters letter by G;
  a = seen letters letter by A;
  b = seen letters letter by B;
}

as_each : (letters : LetterAccidentals) (letter : Letter) (by : ℤ) → with_letter letters letter by ≡ each_letter letters letter by
as_each letters C by = refl
as_each letters D by = refl
as_each letters E by = refl
as_each letters F by = refl
as_each letters G by = refl
as_each letters A by = refl
as_each letters B by = refl

on_each : (letters : LetterAccidentals) (letter : Letter) (by : ℤ) (other : Letter) → on_letter (each_letter letters letter by) other ≡ seen letters letter by other
on_each letters letter by C = refl
on_each letters letter by D = refl
on_each letters letter by E = refl
on_each letters letter by F = refl
on_each letters letter by G = refl
on_each letters letter by A = refl
on_each letters letter by B = refl

on_letters : (letters : LetterAccidentals) (letter : Letter) (by : ℤ) (other : Letter) → on_letter (with_letter letters letter by) other ≡ seen letters letter by other
on_letters letters letter by other = ap (λ l. on_letter l other) (as_each letters letter by) ∙ on_each letters letter by other

seen_by : (letters : LetterAccidentals) (letter : Letter) (by : ℤ) (other : Letter) (same : Bool) → (capital letter == capital other) ≡ same
    → on_letter (with_letter letters letter by) other ≡ (if same then Some by else on_letter letters other)
seen_by letters letter by other same e = on_letters letters letter by other ∙ ap (λ b. if b then Some by else on_letter letters other) e

-- on the letter that it is on
pub on_its_letter : (letters : LetterAccidentals) (letter : Letter) (by : ℤ) (other : Letter) → capital letter ≡ capital other
    → on_letter (with_letter letters letter by) other ≡ Some by
on_its_letter letters letter by other e = seen_by letters letter by other true ((Decides-eqb (capital letter) (capital other)).1 e)

-- and on the others
pub on_another : (letters : LetterAccidentals) (letter : Letter) (by : ℤ) (other : Letter) → ¬ (capital letter ≡ capital other)
    → on_letter (with_letter letters letter by) other ≡ on_letter letters other
on_another letters letter by other h =
    seen_by letters letter by other false (false_from_ne_true (capital letter == capital other) (λ e. h ((Decides-eqb (capital letter) (capital other)).0 e)))

-- an entry is found at the octave at which it was put
abbrev Octaves : Type 0
Octaves = List (ℤ × LetterAccidentals)

abbrev found : Octaves → ℤ → Option LetterAccidentals
found octaves octave = lookup (is_at (int_cmp octave)) octaves

put_by : (octaves : Octaves) (first : ℤ × LetterAccidentals) (octave : ℤ) (letters : LetterAccidentals) (r : Ordering) → int_cmp octave first.0 ≡ r
    → found (insert_entry int_cmp octaves octave letters) octave ≡ Some letters
    → found (match_ordering r ((octave, letters) ∷ first ∷ octaves) ((first.0, letters) ∷ octaves) (first ∷ insert_entry int_cmp octaves octave letters)) octave ≡ Some letters
put_by octaves first octave letters Less e rest = rw ((Decides-int_eq octave octave).1 refl) refl
put_by octaves first octave letters Equal e rest = rw e refl
put_by octaves first octave letters Greater e rest = rw e rest

put : (octaves : Octaves) (octave : ℤ) (letters : LetterAccidentals) → found (insert_entry int_cmp octaves octave letters) octave ≡ Some letters
put [] octave letters = rw ((Decides-int_eq octave octave).1 refl) refl
put (first ∷ octaves) octave letters = put_by octaves first octave letters (int_cmp octave first.0) refl (put octaves octave letters)

-- and the others stay
stays_by : (octaves : Octaves) (first : ℤ × LetterAccidentals) (octave : ℤ) (letters : LetterAccidentals) (other : ℤ) (r : Ordering) → r ≡ int_cmp octave first.0
    → int_eq other octave ≡ false
    → found (insert_entry int_cmp octaves octave letters) other ≡ found octaves other
    → found (match_ordering r ((octave, letters) ∷ first ∷ octaves) ((first.0, letters) ∷ octaves) (first ∷ insert_entry int_cmp octaves octave letters)) other ≡ found (first ∷ octaves) other
stays_by octaves first octave letters other Less e apart rest = rw apart refl
stays_by octaves first octave letters other Equal e apart rest =
    let same : octave ≡ first.0 = int_ranked octave first.0 Equal e in
    let elsewhere : int_eq other first.0 ≡ false = ap (λ o. int_eq other o) (sym same) ∙ apart in
    rw elsewhere refl
stays_by octaves first octave letters other Greater e apart rest =
    ap (λ (o : Option LetterAccidentals). if int_eq other first.0 then Some first.1 else o) rest

stays : (octaves : Octaves) (octave : ℤ) (letters : LetterAccidentals) (other : ℤ) → int_eq other octave ≡ false
    → found (insert_entry int_cmp octaves octave letters) other ≡ found octaves other
stays [] octave letters other apart = rw apart refl
stays (first ∷ octaves) octave letters other apart =
    stays_by octaves first octave letters other (int_cmp octave first.0) refl apart (stays octaves octave letters other apart)

in_its_octave : (octaves : Octaves) (octave : ℤ) (letter : Letter) (by : ℤ)
    → letters_in (with_octave octaves octave letter by) octave ≡ with_letter (letters_in octaves octave) letter by
unfolding letters_in with_octave
in_its_octave octaves octave letter by = ap (λ (o : Option LetterAccidentals). unwrap_or o no_letters) (put octaves octave _)

in_another : (octaves : Octaves) (octave : ℤ) (letter : Letter) (by : ℤ) (other : ℤ) → int_eq other octave ≡ false
    → letters_in (with_octave octaves octave letter by) other ≡ letters_in octaves other
unfolding letters_in with_octave
in_another octaves octave letter by other apart = ap (λ (o : Option LetterAccidentals). unwrap_or o no_letters) (stays octaves octave _ other apart)

-- An accidental alters the notes that it reaches.
pub heard_on : (accidentals : Accidentals) (earlier note : Note) (by : ℤ) → Reaches (reach_of accidentals) earlier note
    → written_on (with_accidental accidentals earlier by) note ≡ Some by
heard_on Own earlier note by h = absurd h
heard_on (InOctaves octaves) earlier note by h =
    ap (λ o. on_letter (letters_in (with_octave octaves earlier.octave earlier.letter by) o) note.letter) (sym h.1)
    ∙ ap (λ l. on_letter l note.letter) (in_its_octave octaves earlier.octave earlier.letter by)
    ∙ on_its_letter (letters_in octaves earlier.octave) earlier.letter by note.letter h.0
heard_on (OnLetters letters) earlier note by h = on_its_letter letters earlier.letter by note.letter h

by_octave : (octaves : Octaves) (earlier note : Note) (by : ℤ) (same : Bool) → int_eq note.octave earlier.octave ≡ same
    → ¬ Reaches Octave earlier note
    → on_letter (letters_in (with_octave octaves earlier.octave earlier.letter by) note.octave) note.letter ≡ on_letter (letters_in octaves note.octave) note.letter
by_octave octaves earlier note by true e h =
    let same : note.octave ≡ earlier.octave = (Decides-int_eq note.octave earlier.octave).0 e in
    ap (λ o. on_letter (letters_in (with_octave octaves earlier.octave earlier.letter by) o) note.letter) same
    ∙ ap (λ l. on_letter l note.letter) (in_its_octave octaves earlier.octave earlier.letter by)
    ∙ on_another (letters_in octaves earlier.octave) earlier.letter by note.letter (λ letters. h (letters, sym same))
    ∙ ap (λ o. on_letter (letters_in octaves o) note.letter) (sym same)
by_octave octaves earlier note by false e h =
    ap (λ l. on_letter l note.letter) (in_another octaves earlier.octave earlier.letter by note.octave e)

-- It alters no other notes.
pub passed_over : (accidentals : Accidentals) (earlier note : Note) (by : ℤ) → ¬ Reaches (reach_of accidentals) earlier note
    → written_on (with_accidental accidentals earlier by) note ≡ written_on accidentals note
passed_over Own earlier note by h = refl
passed_over (InOctaves octaves) earlier note by h = by_octave octaves earlier note by (int_eq note.octave earlier.octave) refl h
passed_over (OnLetters letters) earlier note by h = on_another letters earlier.letter by note.letter h

abbrev after_one : Accidentals → Note → Option Accidental → Accidentals
after_one accidentals earlier accidental = with_written accidentals earlier (option_map accidental_alteration accidental)

not_heard_by : (accidentals : Accidentals) (earlier note : Note) (accidental : Option Accidental) → earlier.accidental ≡ accidental
    → ¬ Hears (reach_of accidentals) note earlier
    → written_on (after_one accidentals earlier accidental) note ≡ written_on accidentals note
not_heard_by accidentals earlier note None e h = refl
not_heard_by accidentals earlier note (Some accidental) e h =
    passed_over accidentals earlier note (accidental_alteration accidental)
    (λ reaches. h (record { accidental = accidental; written = e; reaches = reaches }))

not_heard : (accidentals : Accidentals) (earlier note : Note) → ¬ Hears (reach_of accidentals) note earlier
    → written_on (with_own accidentals earlier) note ≡ written_on accidentals note
not_heard accidentals earlier note h = not_heard_by accidentals earlier note earlier.accidental refl h

heard : (accidentals : Accidentals) (earlier note : Note) (accidental : Accidental) → earlier.accidental ≡ Some accidental → Reaches (reach_of accidentals) earlier note
    → written_on (with_own accidentals earlier) note ≡ Some (accidental_alteration accidental)
heard accidentals earlier note accidental e h =
    ap (λ o. written_on (after_one accidentals earlier o) note) e ∙ heard_on accidentals earlier note (accidental_alteration accidental) h

reach_by : (accidentals : Accidentals) (earlier : Note) (by : Option ℤ) → reach_of (with_written accidentals earlier by) ≡ reach_of accidentals
reach_by accidentals earlier None = refl
reach_by Own earlier (Some by) = refl
reach_by (InOctaves octaves) earlier (Some by) = refl
reach_by (OnLetters letters) earlier (Some by) = refl

-- accidentals reach as far after notes
pub reach_stays : (accidentals : Accidentals) (notes : List Note) → reach_of (after_notes accidentals notes) ≡ reach_of accidentals
reach_stays accidentals [] = refl
reach_stays accidentals (note ∷ notes) = reach_stays (with_own accidentals note) notes ∙ reach_by accidentals note (option_map accidental_alteration note.accidental)

pub none_of : (accidentals : Accidentals) (reach : Reach) (notes : List Note) (note : Note) → reach_of accidentals ≡ reach → All (λ other. ¬ Hears reach note other) notes
    → written_on (after_notes accidentals notes) note ≡ written_on accidentals note
none_of accidentals reach [] note e h = refl
none_of accidentals reach (first ∷ notes) note e h =
    let reach_is = reach_by accidentals first (option_map accidental_alteration first.accidental) ∙ e in
    let first_not : ¬ Hears reach note first = All-head (λ other. ¬ Hears reach note other) first notes h in
    none_of (with_own accidentals first) reach notes note reach_is (All-tail (λ other. ¬ Hears reach note other) first notes h)
    ∙ not_heard accidentals first note (subst (λ r. ¬ Hears r note first) (sym e) first_not)

after_both : (accidentals : Accidentals) (before following : List Note) → after_notes accidentals (before ++ following) ≡ after_notes (after_notes accidentals before) following
after_both accidentals [] following = refl
after_both accidentals (note ∷ before) following = after_both (with_own accidentals note) before following

last_of : (accidentals : Accidentals) (reach : Reach) (before following : List Note) (earlier note : Note) (accidental : Accidental) → reach_of accidentals ≡ reach
    → earlier.accidental ≡ Some accidental → Reaches reach earlier note → All (λ other. ¬ Hears reach note other) following
    → written_on (after_notes accidentals (before ++ earlier ∷ following)) note ≡ Some (accidental_alteration accidental)
last_of accidentals reach before following earlier note accidental e written reaches none =
    let so_far = after_notes accidentals before in
    let reach_is : reach_of so_far ≡ reach = reach_stays accidentals before ∙ e in
    let own_reach = reach_by so_far earlier (option_map accidental_alteration earlier.accidental) ∙ reach_is in
    ap (λ a. written_on a note) (after_both accidentals before (earlier ∷ following))
    ∙ none_of (with_own so_far earlier) reach following note own_reach none
    ∙ heard so_far earlier note accidental written (subst (λ r. Reaches r earlier note) (sym reach_is) reaches)

pub reach_none : (reach : Reach) → reach_of (no_accidentals reach) ≡ reach
reach_none Not = refl
reach_none Octave = refl
reach_none Pitch = refl

pub none_in : (letter : Letter) → on_letter no_letters letter ≡ None
none_in C = refl
none_in D = refl
none_in E = refl
none_in F = refl
none_in G = refl
none_in A = refl
none_in B = refl

nothing_on : (reach : Reach) (note : Note) → written_on (no_accidentals reach) note ≡ None
unfolding letters_in
nothing_on Not note = refl
nothing_on Octave note = none_in note.letter
nothing_on Pitch note = none_in note.letter

pub accidentals_reach : AccidentalsReach
accidentals_reach reach notes note = record {
  last = λ before following earlier accidental is written reaches none.
      ap (λ l. written_on (after_notes (no_accidentals reach) l) note) is
      ∙ last_of (no_accidentals reach) reach before following earlier note accidental (reach_none reach) written reaches none;
  none = λ h. none_of (no_accidentals reach) reach notes note (reach_none reach) h ∙ nothing_on reach note;
}
