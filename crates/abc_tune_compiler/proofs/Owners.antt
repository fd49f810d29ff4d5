-- The first tune of a number that has a file owns the number.
use Rattle.std.proofs.Common.{◌≡◌, ℕ, ◌==◌, ◌&&◌, Bool, true, false, cond, List, [], ◌∷◌, Option, Some, None, is_some, refl, sym, ap, ◌∙◌, arith, eqb-true}
use Rattle.std.specs.BTreeMap.{insert_entry}
use Rattle.std.specs.Ordering.{nat_cmp}
use Rattle.std.proofs.lemmas.Bool.Decides.{nat_tests}
use Rattle.abc_tune_compiler.specs.Files.{Files, file_at, with_file_of, files_from, first_file}
use Rattle.abc_tune_compiler.specs.Laws.{FirstOwner}
use Rattle.abc_tune_compiler.specs.Tune.{Tune}

-- the first of two files, if there is one
abbrev pub either : Option (List ℕ) → Option (List ℕ) → Option (List ℕ)
either None other = other
either (Some bytes) other = Some bytes

-- a file put among files is found at its number, the others at theirs
inserted : (files : Files) (k : ℕ) (bytes : List ℕ) (n : ℕ) → file_at (insert_entry nat_cmp files k bytes) n ≡ cond (k == n) (Some bytes) (file_at files n)
inserted [] k bytes n = refl
inserted (file ∷ files) k bytes n =
    let rest = inserted files k bytes n in
    grind (arith, nat_tests)

put_step : (files : Files) (k : ℕ) (bytes : List ℕ) (n : ℕ) (rest here : Option (List ℕ)) (same : Bool) → here ≡ file_at files k → (k == n) ≡ same
    → either (file_at (cond (is_some here) files (insert_entry nat_cmp files k bytes)) n) rest ≡ either (file_at files n) (cond same (Some bytes) rest)
put_step files k bytes n rest None true e same =
    let at : k ≡ n = eqb-true k n same in
    ap (λ file. either file rest) (inserted files k bytes n ∙ ap (λ t. cond t (Some bytes) (file_at files n)) same) ∙ ap (λ file. either file (Some bytes)) (e ∙ ap (file_at files) at)
put_step files k bytes n rest None false e same = ap (λ file. either file rest) (inserted files k bytes n ∙ ap (λ t. cond t (Some bytes) (file_at files n)) same)
put_step files k bytes n rest (Some other) true e same =
    let has : file_at files n ≡ Some other = ap (file_at files) (sym (eqb-true k n same)) ∙ sym e in
    ap (λ file. either file rest) has ∙ ap (λ file. either file (Some bytes)) (sym has)
put_step files k bytes n rest (Some other) false e same = refl

-- the file of a tune comes after those that are there
offered : (files : Files) (k : ℕ) (bytes : Option (List ℕ)) (n : ℕ) (rest : Option (List ℕ)) (same : Bool) → (k == n) ≡ same
    → either (file_at (with_file_of files k bytes) n) rest ≡ either (file_at files n) (cond (same && is_some bytes) bytes rest)
offered files k None n rest true same = refl
offered files k None n rest false same = refl
offered files k (Some bytes) n rest true same = put_step files k bytes n rest (file_at files k) true refl same
offered files k (Some bytes) n rest false same = put_step files k bytes n rest (file_at files k) false refl same

nothing_following : (file : Option (List ℕ)) → file ≡ either file None
nothing_following None = refl
nothing_following (Some bytes) = refl

first_among : (files : Files) (tunes : List Tune) (n : ℕ) → file_at (files_from files tunes) n ≡ either (file_at files n) (first_file tunes n)
first_among files [] n = nothing_following (file_at files n)
first_among files (tune ∷ tunes) n = first_among (with_file_of files tune.number tune.bytes) tunes n ∙ offered files tune.number tune.bytes n (first_file tunes n) (tune.number == n) refl

pub first_owner : FirstOwner
first_owner tunes n = first_among [] tunes n
