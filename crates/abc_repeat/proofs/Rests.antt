-- The rest of some marks.
use Rattle.std.proofs.Common.{◌≡◌, ℕ, ◌+◌, ◌-◌, ◌≤◌, Bool, false, List, [], ◌++◌, length, take, drop, sym, ap, ◌∙◌, arith, append_assoc, length-append, length-drop}
use Rattle.std.proofs.lemmas.List.{take_all, drop_all, drop-drop}
use Rattle.abc_repeat.specs.declared.mark.Mark.{Mark}
use Rattle.abc_repeat.specs.Strain.{strain_of, first_text, opens_after, strains_from}
use Rattle.abc_repeat.specs.Play.{plays_from, strain_play}
use Rattle.abc_repeat.proofs.Cuts.{plays_more, nothing_left}

-- a slice from a place on is the rest
pub rest_of : (n : ℕ) (ms : List Mark) → take (length ms - n) (drop n ms) ≡ drop n ms
rest_of n ms = take_all (length ms - n) (drop n ms) (omega (arith, length-drop n ms))

-- the play of the rest is that of its first strain, and that of the marks after it
pub rest_more : (at : ℕ) (opened : Bool) (ms text : List Mark) → text ≡ first_text opened (take (length ms - at) (drop at ms))
    → plays_from at (strains_from opened (drop at ms)) ≡ strain_play at (strain_of text) ++ plays_from (at + length text) (strains_from (opens_after false text) (drop (at + length text) ms))
rest_more at opened ms text is =
    plays_more at opened (drop at ms) text (is ∙ ap (first_text opened) (rest_of at ms))
    ∙ ap (λ l. strain_play at (strain_of text) ++ plays_from (at + length text) (strains_from (opens_after false text) l)) (drop-drop (length text) at ms)

pub rest_none : (at : ℕ) (opened : Bool) (ms : List Mark) → length ms ≤ at → plays_from at (strains_from opened (drop at ms)) ≡ []
rest_none at opened ms h = ap (λ l. plays_from at (strains_from opened l)) (drop_all at ms h) ∙ nothing_left at opened

-- a strain is no longer than the play of the rest
pub strain_short : (at : ℕ) (opened : Bool) (ms text : List Mark) (most : ℕ) → text ≡ first_text opened (take (length ms - at) (drop at ms))
    → length (plays_from at (strains_from opened (drop at ms))) ≤ most → length (strain_play at (strain_of text)) ≤ most
strain_short at opened ms text most is small =
    let rest = plays_from (at + length text) (strains_from (opens_after false text) (drop (at + length text) ms)) in
    let whole : length (plays_from at (strains_from opened (drop at ms))) ≡ length (strain_play at (strain_of text)) + length rest =
    ap length (rest_more at opened ms text is) ∙ length-append (strain_play at (strain_of text)) rest in
    omega arith

-- the marks after a strain are no longer than before
pub rest_short : (at : ℕ) (opened following : Bool) (ms text : List Mark) (most : ℕ) → text ≡ first_text opened (take (length ms - at) (drop at ms)) → following ≡ opens_after false text
    → length (plays_from at (strains_from opened (drop at ms))) ≤ most → length (plays_from (at + length text) (strains_from following (drop (at + length text) ms))) ≤ most
rest_short at opened following ms text most is opens small =
    let rest = plays_from (at + length text) (strains_from (opens_after false text) (drop (at + length text) ms)) in
    let whole : length (plays_from at (strains_from opened (drop at ms))) ≡ length (strain_play at (strain_of text)) + length rest =
    ap length (rest_more at opened ms text is) ∙ length-append (strain_play at (strain_of text)) rest in
    let same : length (plays_from (at + length text) (strains_from following (drop (at + length text) ms))) ≡ length rest =
    ap (λ o. length (plays_from (at + length text) (strains_from o (drop (at + length text) ms)))) opens in
    omega arith

-- one more strain is appended
pub put_strain_more : (items put : List ℕ) (at : ℕ) (opened following : Bool) (ms text : List Mark) → text ≡ first_text opened (take (length ms - at) (drop at ms)) → following ≡ opens_after false text
    → put ≡ items ++ strain_play at (strain_of text)
    → put ++ plays_from (at + length text) (strains_from following (drop (at + length text) ms)) ≡ items ++ plays_from at (strains_from opened (drop at ms))
put_strain_more items put at opened following ms text is opens more =
    ap (λ o. put ++ plays_from (at + length text) (strains_from o (drop (at + length text) ms))) opens
    ∙ ap (λ l. l ++ plays_from (at + length text) (strains_from (opens_after false text) (drop (at + length text) ms))) more
    ∙ append_assoc items (strain_play at (strain_of text)) (plays_from (at + length text) (strains_from (opens_after false text) (drop (at + length text) ms)))
    ∙ ap (λ l. items ++ l) (sym (rest_more at opened ms text is))

-- the first strain lies in the marks
pub rest_inside : (at : ℕ) (ms text : List Mark) → at ≤ length ms → length text ≤ length (take (length ms - at) (drop at ms)) → at + length text ≤ length ms
rest_inside at ms text inside short = omega (arith, ap length (rest_of at ms), length-drop at ms)
