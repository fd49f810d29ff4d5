-- Laws of the lines of an input that comes in pieces.
use Rattle.std.proofs.Common.{◌≡◌, ◌≢◌, ℕ, zero, suc, ◌+◌, ◌-◌, ◌<◌, ◌≤◌, ◌&&◌, ◌==◌, min, Bool, true, false, cond, leb, List, []}
use Rattle.std.proofs.Common.{◌∷◌, ◌++◌, length, take, map, refl, sym, ap, ◌∙◌, arith, Result, Ok, Err, OnOk, is_ok}
use Rattle.std.proofs.Common.{if◌then◌else◌}
use Rattle.std.specs.List.{slice_split, onto_first}
use Rattle.std.proofs.lemmas.List.Splits.{slice_split_at, slice_split_none, slice_split-cons_no}
use Rattle.std.proofs.lemmas.List.Elements.{All-tail, All-head, All-take}
use Rattle.std.proofs.lemmas.List.{take_min}
use Rattle.std.proofs.Math.Seq.{take-append-add}
use Rattle.std.proofs.lemmas.Bool.Decides.{nat_tests}
use Rattle.abc_lines.specs.declared.limits.TheConstants.{LONGEST_LINE}
use Rattle.abc_lines.specs.TextLines.{whole_lines}
use Rattle.abc_lines.proofs.TextLines.{split_some, whole_lines-more}
use Rattle.abc2midi_live.specs.Transcript.{input_lines, most_kept}
use Rattle.abc2midi_live.specs.Machine.{IsClean}

abbrev is_feed : ℕ → Bool
is_feed b = b == 10

-- a line that has ended, before what comes after its line feed
pub input_lines-line : (ended : Bool) (line rest : List ℕ) → IsClean line → input_lines ended (line ++ 10 ∷ rest) ≡ take most_kept line ∷ input_lines ended rest
unfolding input_lines
input_lines-line ended line rest clean =
    ap (λ parts. map (take most_kept) (whole_lines ended parts)) (slice_split_at is_feed line 10 rest clean refl)
    ∙ ap (map (take most_kept)) (whole_lines-more ended line (slice_split is_feed rest) (split_some rest))

-- a text in front of the first of some lines
abbrev onto : List ℕ → List (List ℕ) → List (List ℕ)
onto line [] = line ∷ []
onto line (first ∷ more) = (line ++ first) ∷ more

onto-first : (b : ℕ) (line : List ℕ) (parts : List (List ℕ)) → onto_first b (onto line parts) ≡ onto (b ∷ line) parts
onto-first b line [] = refl
onto-first b line (first ∷ more) = refl

onto-nil : (parts : List (List ℕ)) → parts ≢ [] → parts ≡ onto [] parts
onto-nil [] some = absurd (some refl)
onto-nil (first ∷ more) some = refl

split-onto : (line rest : List ℕ) → IsClean line → slice_split is_feed (line ++ rest) ≡ onto line (slice_split is_feed rest)
split-onto [] rest clean = onto-nil (slice_split is_feed rest) (split_some rest)
split-onto (b ∷ line) rest clean =
    slice_split-cons_no is_feed b (line ++ rest) (All-head (λ c. (c == 10) ≡ false) b line clean)
    ∙ ap (onto_first b) (split-onto line rest (All-tail (λ c. (c == 10) ≡ false) b line clean))
    ∙ onto-first b line (slice_split is_feed rest)

take_kept : (n : ℕ) (line rest : List ℕ) → take n (take n line ++ rest) ≡ take n (line ++ rest)
take_kept zero line rest = refl
take_kept (suc n) [] rest = refl
take_kept (suc n) (b ∷ line) rest = ap (λ l. b ∷ l) (take_kept n line rest)

some_leb : (n : ℕ) → leb 1 (suc n) ≡ true
some_leb n = grind (arith, nat_tests)

some_kept : (n : ℕ) (line rest : List ℕ) → leb 1 (length (take (suc n) line ++ rest)) ≡ leb 1 (length (line ++ rest))
some_kept n [] rest = refl
some_kept n (b ∷ line) rest = some_leb (length (take n line ++ rest)) ∙ sym (some_leb (length (line ++ rest)))

last_if : (b : Bool) (x y : List ℕ) (n : ℕ) → take n x ≡ take n y → map (take n) (cond b (x ∷ []) []) ≡ map (take n) (cond b (y ∷ []) [])
last_if true x y n e = ap (λ l. l ∷ []) e
last_if false x y n e = refl

whole_last : (ended : Bool) (a b : List ℕ) (n : ℕ) → leb 1 (length a) ≡ leb 1 (length b) → take n a ≡ take n b
    → map (take n) (cond (ended && leb 1 (length a)) (a ∷ []) []) ≡ map (take n) (cond (ended && leb 1 (length b)) (b ∷ []) [])
whole_last ended a b n same kept = ap (λ t. map (take n) (cond (ended && t) (a ∷ []) [])) same ∙ last_if (ended && leb 1 (length b)) a b n kept

kept-onto : (ended : Bool) (n : ℕ) (line : List ℕ) (parts : List (List ℕ)) → parts ≢ []
    → map (take (suc n)) (whole_lines ended (onto (take (suc n) line) parts)) ≡ map (take (suc n)) (whole_lines ended (onto line parts))
kept-onto ended n line [] some = absurd (some refl)
kept-onto ended n line (first ∷ []) some = whole_last ended _ _ (suc n) (some_kept n line first) (take_kept (suc n) line first)
kept-onto ended n line (first ∷ next ∷ more) some = ap (λ l. l ∷ map (take (suc n)) (whole_lines ended (next ∷ more))) (take_kept (suc n) line first)

pub clean_kept : (n : ℕ) (line : List ℕ) → IsClean line → IsClean (take n line)
clean_kept n line clean = All-take (λ b. (b == 10) ≡ false) n line clean

-- of a line that has not ended, only its front matters
pub input_lines-kept : (ended : Bool) (line rest : List ℕ) → IsClean line → input_lines ended (take most_kept line ++ rest) ≡ input_lines ended (line ++ rest)
unfolding input_lines
input_lines-kept ended line rest clean =
    ap (λ parts. map (take most_kept) (whole_lines ended parts)) (split-onto (take most_kept line) rest (clean_kept most_kept line clean))
    ∙ kept-onto ended LONGEST_LINE line (slice_split is_feed rest) (split_some rest)
    ∙ sym (ap (λ parts. map (take most_kept) (whole_lines ended parts)) (split-onto line rest clean))

-- a line that has not ended is none so far
pub input_lines-begun : (line : List ℕ) → IsClean line → input_lines false line ≡ []
unfolding input_lines
input_lines-begun line clean = ap (λ parts. map (take most_kept) (whole_lines false parts)) (slice_split_none is_feed line clean)

-- at the end of the input it is one, if it is not empty
pub input_lines-last : (line : List ℕ) → IsClean line → 0 < length line → input_lines true line ≡ take most_kept line ∷ []
unfolding input_lines
input_lines-last line clean some = ap (λ parts. map (take most_kept) (whole_lines true parts)) (slice_split_none is_feed line clean)
    ∙ ap (λ b. map (take most_kept) (cond b (line ∷ []) [])) (let e : leb 1 (length line) ≡ true = grind (arith, nat_tests) in e)

pub input_lines-nil : (ended : Bool) → input_lines ended [] ≡ []
unfolding input_lines
input_lines-nil true = refl
input_lines-nil false = refl

-- the bytes that fit
pub kept_front : (n : ℕ) (begun piece : List ℕ) → length begun ≤ n → begun ++ take (min (length piece) (n - length begun)) piece ≡ take n (begun ++ piece)
kept_front n begun piece h =
    let room = n - length begun in
    let same : min (length piece) room ≡ min room (length piece) = omega arith in
    let whole : length begun + room ≡ n = omega arith in
    ap (λ k. begun ++ take k piece) same ∙ ap (λ l. begun ++ l) (take_min room piece) ∙ sym (take-append-add begun piece room) ∙ ap (λ k. take k (begun ++ piece)) whole

-- a fact for the case that a call succeeded
pub on_ok_branch : {T E X : Type 0} (r : Result T E) (x y z : X) → x ≡ (if is_ok r then y else z) → OnOk r (x ≡ y)
on_ok_branch (Ok v) x y z e = e
on_ok_branch (Err v) x y z e = tt
