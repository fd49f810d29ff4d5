-- Of two accidentals of a letter that a K: lists the later one counts.
use Rattle.std.proofs.Common.{◌≡◌, ℕ, List, [], ◌∷◌, ◌++◌, map, ◌⊎◌, inl, inr, ⊎_elim, Option, Some, None, codes, refl, sym, ap, ◌∙◌, subst, ℤ}
use Rattle.std.specs.Prelude.{All, ◌≢◌, fold}
use Rattle.std.proofs.lemmas.List.Elements.{All-nil, All-cons}
use Rattle.abc_text.specs.declared.accidental.Accidental.{Accidental}
use Rattle.abc_text.specs.declared.letter.Letter.{Letter}
use Rattle.abc_text.specs.declared.letter.Letter.TheVariants.{C, D, E, F, G, A, B}
use Rattle.abc_text.specs.Accidental.{spelling, alteration as semitones}
use Rattle.abc_text.specs.Letter.{IsLetter}
use Rattle.abc_fields.specs.declared.key.Key.{Key}
use Rattle.abc_fields.specs.declared.signature.Signature.{Signature}
use Rattle.abc_fields.specs.Accidental.{changes_of}
use Rattle.abc_fields.specs.Key.{key_of}
use Rattle.abc_fields.specs.Listed.{with_change}
use Rattle.abc_fields.specs.Signature.{alteration, altered_signature}
use Rattle.abc_fields.specs.Spelling.Accidental.{AreChanges}
use Rattle.abc_fields.specs.Spelling.Key.{IsKey, IsSpelled, IsCompleted, nothing, spelled}
use Rattle.abc_fields.specs.Spelling.Listed.{IsChanged, AreListed}
use Rattle.abc_fields.proofs.Accidentals.{changes_exact}
use Rattle.abc_fields.proofs.Keys.{key_read}
use Rattle.abc_bars.specs.KeyFieldLaws.{Change, Lists, HasNoneOf, IsSilentOf, AltersByLast, IsListed, LastListedCounts}

-- letters
same_letter : (a b : Letter) → (a ≡ b) ⊎ (a ≢ b)
same_letter A A = inl refl
same_letter B B = inl refl
same_letter C C = inl refl
same_letter D D = inl refl
same_letter E E = inl refl
same_letter F F = inl refl
same_letter G G = inl refl
same_letter a b = inr (λ e. cc)

altered_here : (s : Signature) (letter : Letter) (by : ℤ) → alteration (altered_signature s letter by) letter ≡ by
altered_here s A by = refl
altered_here s _ by = refl

altered_else : (s : Signature) (letter other : Letter) (by : ℤ) → letter ≢ other → alteration (altered_signature s letter by) other ≡ alteration s other
altered_else s A A by h = absurd (h refl)
altered_else s B B by h = absurd (h refl)
altered_else s C C by h = absurd (h refl)
altered_else s D D by h = absurd (h refl)
altered_else s E E by h = absurd (h refl)
altered_else s F F by h = absurd (h refl)
altered_else s G G by h = absurd (h refl)
altered_else s letter other by h = refl

-- what one change after another leaves of a letter
record EndsWith (changes : List Change) (letter : Letter) (accidental : Accidental) : Type 0 where
  earlier : List Change
  later : List Change
  split : changes ≡ earlier ++ (accidental, letter) ∷ later
  none : HasNoneOf letter later

abbrev Left : Signature → List Change → Signature → Letter → Type 0
Left start changes signature letter =
    ((accidental : Accidental) × EndsWith changes letter accidental × (alteration signature letter ≡ semitones accidental))
    ⊎ (HasNoneOf letter changes × (alteration signature letter ≡ alteration start letter))

-- the same for changes of any form
module _ {T : Type 0} (step : Signature → T → Signature) (of : T → Change) (is : (s : Signature) (t : T) → step s t ≡ altered_signature s (of t).1 (semitones (of t).0)) where
  left : (start : Signature) (changes : List T) (letter : Letter) → Left start (map of changes) (fold step start changes) letter
  left start [] letter = inr (All-nil (λ change. change.1 ≢ letter), refl)
  left start (t ∷ ts) letter = ⊎_elim
      (λ found. inl (found.0, record { earlier = of t ∷ found.1.earlier; later = found.1.later; split = ap (λ l. of t ∷ l) found.1.split; none = found.1.none }, found.2))
      (λ silent. ⊎_elim
      (λ same. inl (
        (of t).0,
        record {
          earlier = [];
          later = map of ts;
          split = ap (λ l. ((of t).0, l) ∷ map of ts) same;
          none = silent.0;
        },
        silent.1 ∙ ap (λ s. alteration s letter) (is start t) ∙ ap (λ l. alteration (altered_signature start l (semitones (of t).0)) letter) same ∙ altered_here start letter (semitones (of t).0),
      ))
      (λ other. inr (
        All-cons (λ change. change.1 ≢ letter) (of t) (map of ts) other silent.0,
        silent.1 ∙ ap (λ s. alteration s letter) (is start t) ∙ altered_else start (of t).1 letter (semitones (of t).0) other,
      ))
      (same_letter (of t).1 letter))
      (left (step start t) ts letter)

-- a list of changes in another form
module _ {T : Type 0} (Are : List ℕ → List T → Type 0) (of : T → Change) where
  lists_from : ((word : List ℕ) → Are word [] → word ≡ [])
      → ((word : List ℕ) (t : T) (ts : List T) → Are word (t ∷ ts) → (b : ℕ) × (rest : List ℕ) × (word ≡ spelling (of t).0 ++ b ∷ rest) × IsLetter b (of t).1 × Are rest ts)
      → (word : List ℕ) (changes : List T) → Are word changes → Lists word (map of changes)
  lists_from none some word [] h = none word h
  lists_from none some word (t ∷ ts) h =
      let first = some word t ts h in
      (first.0, first.1, first.2, first.3, lists_from none some first.1 ts first.4)

module _ {T : Type 0} (Are : List ℕ → List T → Type 0) (make : Change → T) where
  lists_to : ((word : List ℕ) → word ≡ [] → Are word [])
      → ((word rest : List ℕ) (b : ℕ) (change : Change) (ts : List T) → word ≡ spelling change.0 ++ b ∷ rest → IsLetter b change.1 → Are rest ts → Are word (make change ∷ ts))
      → (word : List ℕ) (changes : List Change) → Lists word changes → Are word (map make changes)
  lists_to none some word [] h = none word h
  lists_to none some word (change ∷ changes) h =
      some word h.1 h.0 change (map make changes) h.2 h.3 (lists_to none some h.1 changes h.4)

module _ {T : Type 0} (found : Option (List T)) (make : Change → T) (of : T → Change) (back : (c : Change) → of (make c) ≡ c) where
  made_back : (changes : List Change) → map of (map make changes) ≡ changes
  made_back [] = refl
  made_back (change ∷ changes) = (λ i. back change i ∷ made_back changes i)

  made_once : (a b : List Change) → found ≡ Some (map make a) → found ≡ Some (map make b) → a ≡ b
  made_once a b first second = let e : map make a ≡ map make b = cc in sym (made_back a) ∙ ap (map of) e ∙ made_back b

-- a word lists in one way only
lists_once : (word : List ℕ) (a b : List Change) → Lists word a → Lists word b → a ≡ b
lists_once word a b h k =
    made_once (changes_of word) (λ change. record { accidental = change.0; letter = change.1 }) (λ change. (change.accidental, change.letter)) (λ change. refl) a b
    ((changes_exact word _).1 (lists_to AreChanges (λ change. record { accidental = change.0; letter = change.1 }) (λ w e. e)
    (λ w rest byte change ts e letter are. (rest, record { byte = byte; spelling = e; letter = letter }, are)) word a h))
    ((changes_exact word _).1 (lists_to AreChanges (λ change. record { accidental = change.0; letter = change.1 }) (λ w e. e)
    (λ w rest byte change ts e letter are. (rest, record { byte = byte; spelling = e; letter = letter }, are)) word b k))

silent_word : (letter : Letter) (word : List ℕ) (changes : List Change) → Lists word changes → HasNoneOf letter changes → IsSilentOf letter word
silent_word letter word changes h none others k = subst (HasNoneOf letter) (lists_once word changes others h k) none

-- what one word leaves of a letter
data LeavesOf (start : Signature) (word : List ℕ) (next : Signature) (letter : Letter) : Type 0 where
  says : (accidental : Accidental) (earlier later : List Change) → Lists word (earlier ++ (accidental, letter) ∷ later) → HasNoneOf letter later
      → alteration next letter ≡ semitones accidental → LeavesOf start word next letter
  keeps : IsSilentOf letter word → alteration next letter ≡ alteration start letter → LeavesOf start word next letter

leaves_by : (start : Signature) (word : List ℕ) (next : Signature) (changes : List Change) (letter : Letter) → Lists word changes → Left start changes next letter → LeavesOf start word next letter
leaves_by start word next changes letter lists h = ⊎_elim
    (λ found. says found.0 found.1.earlier found.1.later (subst (Lists word) found.1.split lists) found.1.none found.2)
    (λ none. keeps (silent_word letter word changes lists none.0) none.1)
    h

leaves : (start : Signature) (word : List ℕ) (next : Signature) (letter : Letter) → IsChanged start word next → LeavesOf start word next letter
leaves start word next letter h = ⊎_elim
    (λ some. leaves_by start word next _ letter
    (lists_from AreChanges (λ change. (change.accidental, change.letter)) (λ w e. e) (λ w t ts are. (are.1.byte, are.0, are.1.spelling, are.1.letter, are.2)) word some.0 some.1)
    (subst (λ s. Left start (map (λ change. (change.accidental, change.letter)) some.0) s letter) (sym some.2)
    (left with_change (λ change. (change.accidental, change.letter)) (λ s t. refl) start some.0 letter)))
    (λ none. keeps
    (λ changes lists. absurd (none.0 _ (lists_to AreChanges (λ change. record { accidental = change.0; letter = change.1 }) (λ w e. e)
    (λ w rest byte change ts e letter are. (rest, record { byte = byte; spelling = e; letter = letter }, are)) word changes lists)))
    (ap (λ s. alteration s letter) none.1))
    h

-- what words leave of it
first_word : (start : Signature) (word : List ℕ) (words : List (List ℕ)) (next changed : Signature) (letter : Letter) → LeavesOf start word next letter
    → All (IsSilentOf letter) words → alteration changed letter ≡ alteration next letter → AltersByLast start (word ∷ words) changed letter
first_word start word words next changed letter (says accidental earlier later lists none is) silent same =
    inl (
      accidental,
      record {
        before = [];
        word = word;
        after = words;
        split = refl;
        earlier = earlier;
        later = later;
        listed = lists;
        none_later = none;
        silent = silent;
      },
      same ∙ is,
    )
first_word start word words next changed letter (keeps quiet is) silent same = inr (All-cons (IsSilentOf letter) word words quiet silent, same ∙ is)

listed_left : (words : List (List ℕ)) (start changed : Signature) → AreListed start words changed → (letter : Letter) → AltersByLast start words changed letter
listed_left [] start changed h letter = inr (All-nil (IsSilentOf letter), ap (λ s. alteration s letter) h)
listed_left (word ∷ words) start changed h letter = ⊎_elim
    (λ found. inl (
      found.0,
      record {
        before = word ∷ found.1.before;
        word = found.1.word;
        after = found.1.after;
        split = ap (λ l. word ∷ l) found.1.split;
        earlier = found.1.earlier;
        later = found.1.later;
        listed = found.1.listed;
        none_later = found.1.none_later;
        silent = found.1.silent;
      },
      found.2,
    ))
    (λ rest. first_word start word words h.0 changed letter (leaves start word h.0 letter h.1) rest.0 rest.1)
    (listed_left words h.0 changed h.2 letter)

completed_left : (start : Option Signature) (words : List (List ℕ)) (completed : Option Signature) (signature : Signature) → IsCompleted start words completed → completed ≡ Some signature
    → (opening : Signature) × (start ≡ Some opening) × ((letter : Letter) → AltersByLast opening words signature letter)
completed_left None words completed signature h e = cc
completed_left (Some opening) words completed signature h e =
    let same : h.0 ≡ signature = let last = h.2 in cc in
    (opening, refl, listed_left words opening signature (subst (AreListed opening words) same h.1))

spelled_left : (value : List ℕ) (key : Key) (signature : Signature) → IsSpelled value key → key.signature ≡ Some signature → IsListed value signature
spelled_left value key signature h e =
    let left = completed_left h.start.signature h.words key.signature signature h.signature e in
    record {
      start = h.start;
      text = h.text;
      words = h.words;
      opening = left.0;
      begins = h.begins;
      are_words = h.are_words;
      opens = left.1;
      alters = left.2;
    }

key_left : (value : List ℕ) (key : Key) (signature : Signature) → IsKey value key → key.signature ≡ Some signature → ((value ≡ []) ⊎ (value ≡ codes "none")) ⊎ IsListed value signature
key_left value key signature (nothing is same) e = inl is
key_left value key signature (spelled h) e = inr (spelled_left value key signature h e)

pub last_listed_counts : LastListedCounts
last_listed_counts value key signature read e = key_left value key signature (((key_read value (key_of value) refl).ok key).0 read) e
