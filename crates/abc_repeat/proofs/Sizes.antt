-- The number of places that are played.
use Rattle.std.proofs.Common.{◌≡◌, ℕ, suc, ◌+◌, ◌-◌, ◌*◌, ◌≤◌, min, Bool, false, List, length, count_by, take, drop, sym, ap, ◌∙◌, ⊎_elim, arith, zero-add, length-append}
use Rattle.std.proofs.lemmas.Bool.{cases_lt}
use Rattle.abc_repeat.specs.declared.mark.Mark.{Mark}
use Rattle.abc_repeat.specs.Mark.{is_play}
use Rattle.abc_repeat.specs.Strain.{strain_of, first_text, opens_after, strains_from}
use Rattle.abc_repeat.specs.Play.{first_ending, run_start, most_passes, endings_size, strain_play, plays_from}
use Rattle.abc_repeat.proofs.Cuts.{text_back}
use Rattle.abc_repeat.proofs.Numbers.{min-product, sizes_join}
use Rattle.abc_repeat.proofs.Passes.{length-strain_play, endings_size-late}
use Rattle.abc_repeat.proofs.Places.{length-places}
use Rattle.abc_repeat.proofs.Rests.{rest_of, rest_more}
use Rattle.abc_repeat.proofs.Runs.{first_ending_at}

-- one more pass
pub endings_more : (text run : List Mark) (e start : ℕ) → start ≡ run_start (e + 1) text → run ≡ (strain_of (take (length text - start) (drop start text))).common
    → endings_size (strain_of text) (e + 1) ≡ endings_size (strain_of text) e + count_by is_play run
unfolding endings_size
endings_more text run e start at is =
    let strain = strain_of text in
    let one : e + 1 ≡ suc e = omega arith in
    let begins : start ≡ run_start (suc e) text = at ∙ ap (λ k. run_start k text) one in
    let played : length (first_ending (suc e) (length strain.common) strain.endings) ≡ count_by is_play run =
    ap (λ k. length (first_ending (suc e) k strain.endings)) (sym (zero-add (length strain.common)))
    ∙ ap length (first_ending_at (suc e) 0 text)
    ∙ length-places (0 + run_start (suc e) text) (strain_of (drop (run_start (suc e) text) text)).common
    ∙ ap (λ k. count_by is_play (strain_of (drop k text)).common) (sym begins)
    ∙ ap (λ l. count_by is_play (strain_of l).common) (sym (rest_of start text))
    ∙ ap (count_by is_play) (sym is) in
    ap (endings_size strain) one ∙ ap (λ k. endings_size strain e + k) played

-- passes are counted up to the 32nd
pub endings_all : (text : List Mark) (p many top : ℕ) → 32 ≤ top → p ≡ min many top → endings_size (strain_of text) (min p 32) ≡ endings_size (strain_of text) many
endings_all text p many top h is = ⊎_elim
    (λ less. let e : min p 32 ≡ many = omega arith in ap (endings_size (strain_of text)) e)
    (λ more. let e : min p 32 ≡ 32 = omega arith in ap (endings_size (strain_of text)) e ∙ sym (endings_size-late (strain_of text) many 32 (omega arith) more))
    (cases_lt many 32)

pub length-play : (at : ℕ) (text : List Mark) → length (strain_play at (strain_of text))
    ≡ most_passes text * count_by is_play (strain_of text).common + endings_size (strain_of text) (most_passes text)
length-play at text =
    length-strain_play at (strain_of text)
    ∙ ap (λ l. most_passes l * count_by is_play (strain_of text).common + endings_size (strain_of text) (most_passes l)) (text_back text)

-- the size of a strain, whose numbers stay at the greatest value
pub strain_total : (text common : List Mark) (p c product endings total top : ℕ) → 32 ≤ top → p ≡ min (most_passes text) top → common ≡ (strain_of text).common
    → c ≡ count_by is_play common → product ≡ min (p * c) top → endings ≡ min (endings_size (strain_of text) (min p 32)) top → total ≡ min (product + endings) top
    → total ≡ min (length (strain_play 0 (strain_of text))) top
strain_total text common p c product endings total top wide passes is counted multiplied ended added =
    let whole = length-play 0 text in
    let last = endings_all text p (most_passes text) top wide passes in
    let count : c ≡ count_by is_play (strain_of text).common = counted ∙ ap (count_by is_play) is in
    let times : product ≡ min (most_passes text * count_by is_play (strain_of text).common) top =
    multiplied ∙ ap (λ q. min (q * c) top) passes ∙ min-product (most_passes text) c top ∙ ap (λ k. min (most_passes text * k) top) count in
    let ends : endings ≡ min (endings_size (strain_of text) (most_passes text)) top = ended ∙ ap (λ k. min k top) last in
    added ∙ sizes_join product endings (most_passes text * count_by is_play (strain_of text).common)
    (endings_size (strain_of text) (most_passes text)) (length (strain_play 0 (strain_of text))) top times ends whole

length-play_at : (at : ℕ) (text : List Mark) → length (strain_play at (strain_of text)) ≡ length (strain_play 0 (strain_of text))
length-play_at at text = length-play at text ∙ sym (length-play 0 text)

sums_join : (size one next a b z top : ℕ) → one ≡ min a top → next ≡ min (size + one) top → z ≡ a + b → min (next + b) top ≡ min (size + z) top
sums_join size one next a b z top e f g = omega arith

-- one more strain
pub total_more : (at size one next top : ℕ) (opened following : Bool) (ms text : List Mark) → text ≡ first_text opened (take (length ms - at) (drop at ms)) → following ≡ opens_after false text
    → one ≡ min (length (strain_play 0 (strain_of text))) top → next ≡ min (size + one) top
    → min (next + length (plays_from (at + length text) (strains_from following (drop (at + length text) ms)))) top ≡ min (size + length (plays_from at (strains_from opened (drop at ms)))) top
total_more at size one next top opened following ms text is opens single added =
    let rest = plays_from (at + length text) (strains_from (opens_after false text) (drop (at + length text) ms)) in
    let whole : length (plays_from at (strains_from opened (drop at ms))) ≡ length (strain_play 0 (strain_of text)) + length rest =
    ap length (rest_more at opened ms text is) ∙ length-append (strain_play at (strain_of text)) rest ∙ ap (λ k. k + length rest) (length-play_at at text) in
    ap (λ o. min (next + length (plays_from (at + length text) (strains_from o (drop (at + length text) ms)))) top) opens
    ∙ sums_join size one next (length (strain_play 0 (strain_of text))) (length rest) (length (plays_from at (strains_from opened (drop at ms)))) top single added whole
