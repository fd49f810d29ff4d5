-- A run of letters is read as a mode exactly if it names one.
use Rattle.std.proofs.Common.{◌≡◌, ℕ, ◌<◌, ◌≤◌, Bool, true, false, cond, ◌||◌, List, [], ◌∷◌, length, get_or, Option, Some, None, codes, refl, sym, ap, ◌∙◌, subst, inl, inr, ⊎_elim, arith}
use Rattle.std.specs.List.{Contains}
use Rattle.std.specs.Str.{bytes_eq}
use Rattle.std.specs.Prelude.{All}
use Rattle.std.proofs.lemmas.List.Elements.{All-nil, All-cons, All-contains}
use Rattle.std.specs.Char.{to_ascii_lowercase}
use Rattle.std.proofs.lemmas.Slice.Eq.{bytes_eq-Decides}
use Rattle.std.proofs.lemmas.Bool.{and_right, or_cases, cond-true, cond-false, cases_Bool, false_from_ne_true}
use Rattle.abc_fields.specs.declared.mode.Mode.{Mode}
use Rattle.abc_fields.specs.declared.mode.Mode.TheVariants.{Lydian, Ionian, Mixolydian, Dorian, Aeolian, Phrygian, Locrian}
use Rattle.abc_fields.specs.Mode.{front_of, mode_named, mode_of}
use Rattle.abc_fields.proofs.Readings.{named}
use Rattle.abc_fields.specs.Spelling.Mode.{names_of, IsMode}

-- fewer than three letters name nothing
short_name : (name : List ℕ) → length name < 3 → mode_named name ≡ None
unfolding mode_named
short_name [] h = refl
short_name (a ∷ []) h = grind (arith, and_right)
short_name (a ∷ b ∷ []) h = grind (arith, and_right)
short_name (a ∷ b ∷ c ∷ rest) h = absurd (omega arith)

pub minor_run : (run : List ℕ) → bytes_eq run (codes "m") ≡ true → mode_of run ≡ Some Aeolian
unfolding mode_of
minor_run run e = cond-true _ _ _ e

other_run : (run : List ℕ) → bytes_eq run (codes "m") ≡ false → mode_of run ≡ mode_named (front_of run)
unfolding mode_of
other_run run e = cond-false _ _ _ e

pub short_run : (run : List ℕ) → length run < 3 → bytes_eq run (codes "m") ≡ false → mode_of run ≡ None
short_run [] h e = other_run [] e ∙ short_name [] h
short_run (a ∷ []) h e = other_run (a ∷ []) e ∙ short_name (to_ascii_lowercase a ∷ []) (omega arith)
short_run (a ∷ b ∷ []) h e = other_run (a ∷ b ∷ []) e ∙ short_name (to_ascii_lowercase a ∷ to_ascii_lowercase b ∷ []) (omega arith)
short_run (a ∷ b ∷ c ∷ rest) h e = absurd (omega arith)

pub long_run : (run : List ℕ) → 3 ≤ length run → bytes_eq run (codes "m") ≡ false
    → mode_of run ≡ mode_named (to_ascii_lowercase (get_or run 0 0) ∷ to_ascii_lowercase (get_or run 1 0) ∷ to_ascii_lowercase (get_or run 2 0) ∷ [])
long_run [] h e = absurd (omega arith)
long_run (a ∷ []) h e = absurd (omega arith)
long_run (a ∷ b ∷ []) h e = absurd (omega arith)
long_run (a ∷ b ∷ c ∷ rest) h e = other_run (a ∷ b ∷ c ∷ rest) e

-- a mode that three letters name has them among its names
chosen : (t : Bool) (a : Mode) (rest : Option Mode) (mode : Mode) (name : List ℕ) → cond t (Some a) rest ≡ Some mode
    → (t ≡ true → Contains (names_of a) name) → (rest ≡ Some mode → Contains (names_of mode) name) → Contains (names_of mode) name
chosen true a rest mode name e here later = let same : a ≡ mode = cc in subst (λ m. Contains (names_of m) name) same (here refl)
chosen false a rest mode name e here later = later e

only_name : (name known : List ℕ) → bytes_eq name known ≡ true → Contains (known ∷ []) name
only_name name known e = (0, omega arith, named name known e)

either_name : (name known other : List ℕ) → (bytes_eq name known || bytes_eq name other) ≡ true → Contains (known ∷ other ∷ []) name
either_name name known other e = ⊎_elim
    (λ t. (0, omega arith, named name known t))
    (λ t. (1, omega arith, named name other t))
    (or_cases _ _ e)

named_from : (name : List ℕ) (mode : Mode) → mode_named name ≡ Some mode → Contains (names_of mode) name
unfolding mode_named
named_from name mode e =
    chosen _ Lydian _ mode name e (only_name name _) (λ e.
    chosen _ Ionian _ mode name e (either_name name _ _) (λ e.
    chosen _ Mixolydian _ mode name e (only_name name _) (λ e.
    chosen _ Dorian _ mode name e (only_name name _) (λ e.
    chosen _ Aeolian _ mode name e (either_name name _ _) (λ e.
    chosen _ Phrygian _ mode name e (only_name name _) (λ e.
    chosen _ Locrian _ mode name e (only_name name _) (λ e. cc)))))))

-- and each of a mode's names names it
abbrev NamesIt : Mode → List ℕ → Type 0
NamesIt mode name = (mode_named name ≡ Some mode) × (length name ≡ 3)

one_name : (mode : Mode) (name : List ℕ) → NamesIt mode name → All (NamesIt mode) (name ∷ [])
one_name mode name h = All-cons (NamesIt mode) name [] h (All-nil _)

two_names : (mode : Mode) (name other : List ℕ) → NamesIt mode name → NamesIt mode other → All (NamesIt mode) (name ∷ other ∷ [])
two_names mode name other h k = All-cons (NamesIt mode) name (other ∷ []) h (one_name mode other k)

named_to : (mode : Mode) → All (NamesIt mode) (names_of mode)
unfolding mode_named
named_to Lydian = one_name Lydian (codes "lyd") (refl, refl)
named_to Ionian = two_names Ionian (codes "maj") (codes "ion") (refl, refl) (refl, refl)
named_to Mixolydian = one_name Mixolydian (codes "mix") (refl, refl)
named_to Dorian = one_name Dorian (codes "dor") (refl, refl)
named_to Aeolian = two_names Aeolian (codes "min") (codes "aeo") (refl, refl) (refl, refl)
named_to Phrygian = one_name Phrygian (codes "phr") (refl, refl)
named_to Locrian = one_name Locrian (codes "loc") (refl, refl)

not_minor : (run : List ℕ) → length (front_of run) ≡ 3 → bytes_eq run (codes "m") ≡ false
not_minor run three = false_from_ne_true _ (λ t.
    let one : length (front_of run) ≡ 1 = ap (λ r. length (front_of r)) ((bytes_eq-Decides run (codes "m")).0 t) in
    omega (arith, one, three))

-- the mode read is the one of the grammar
pub mode_from : (run : List ℕ) (mode : Mode) → mode_of run ≡ Some mode → IsMode run mode
mode_from run mode e = ⊎_elim
    (λ t. let same : mode ≡ Aeolian = let k = minor_run run t in cc in inl ((bytes_eq-Decides run (codes "m")).0 t, same))
    (λ t. inr (named_from (front_of run) mode (sym (other_run run t) ∙ e)))
    (cases_Bool (bytes_eq run (codes "m")))

pub mode_to : (run : List ℕ) (mode : Mode) → IsMode run mode → mode_of run ≡ Some mode
mode_to run mode h = ⊎_elim
    (λ short. ap mode_of short.0 ∙ minor_run (codes "m") refl ∙ ap Some (sym short.1))
    (λ named.
    let known : NamesIt mode (front_of run) = All-contains (NamesIt mode) (names_of mode) (front_of run) (named_to mode) named in
    other_run run (not_minor run known.1) ∙ known.0)
    h
