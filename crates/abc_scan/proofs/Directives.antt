-- The directive read from a line is the one that it spells.
use Rattle.std.proofs.Common.{◌≡◌, ℕ, ◌≤◌, true, false, cond, Option, Some, None, List, [], ◌∷◌, ◌++◌, codes, length, take, drop, refl, sym, ap, ◌∙◌, subst, inl, inr, ⊎_elim, arith, length-take-le}
use Rattle.std.proofs.Common.{take-append-drop}
use Rattle.std.specs.Prelude.{IfSome, ◌⊎◌, ◌==◌, is_some}
use Rattle.std.specs.List.{prefix_len, AllPass}
use Rattle.std.proofs.lemmas.Bool.{cond-true, cond-false, cond_both, eqb-true, eqb-false, ne_eqb, or_from, or_cases}
use Rattle.std.proofs.lemmas.List.Elements.{All-head}
use Rattle.std.proofs.lemmas.List.Sums.{prefix_len-le-length}
use Rattle.std.proofs.lemmas.Slice.Eq.{bytes_eq-Decides}
use Rattle.abc_text.specs.Blank.{is_blank}
use Rattle.abc_text.specs.Digit.{is_digit}
use Rattle.abc_text.specs.Number.{IsNumber}
use Rattle.abc_text.specs.Word.{begins_with, leading_blanks}
use Rattle.abc_text.proofs.Decimals.{digit_range}
use Rattle.abc_text.proofs.Fronts.{front_exact, front_none, front_passes, drop_exact}
use Rattle.abc_scan.specs.declared.directive.Directive.{Directive}
use Rattle.abc_scan.specs.declared.directive.Directive.TheVariants as directives
use Rattle.abc_scan.specs.declared.directive.Reach.{Reach}
use Rattle.abc_scan.specs.declared.directive.Reach.TheVariants.{Not, Octave, Pitch}
use Rattle.abc_scan.specs.Directive.{IsGap, IsEnd, IsProgramLine, name_of, IsReachLine, IsDirective, IsDirectiveLine, after_gap, is_comment_or_none, directive_at_end, program_by}
use Rattle.abc_scan.specs.Directive.{program_directive, midi_directive, reach_directive, directive_of, is_directive, ReadsDirectives}
use Rattle.abc_scan.specs.Number.{number_at}
use Rattle.abc_scan.proofs.Numbers.{number_exact, number_sound}
use Rattle.abc_scan.proofs.Readings.{IsSpelled}

-- blanks between two words
gap-read : (reading : List ℕ → Option Directive) (gap text : List ℕ) → IsGap gap → leading_blanks text ≡ 0 → after_gap reading (gap ++ text) ≡ reading text
gap-read reading gap text is none =
    let count : leading_blanks (gap ++ text) ≡ length gap = front_exact is_blank gap text is.1 none in
    cond-false _ _ _ (ne_eqb (leading_blanks (gap ++ text)) 0 (λ e. absurd (omega (arith, e, count, is.0))))
    ∙ ap reading (drop_exact (leading_blanks (gap ++ text)) gap text count)

gap-sound : (reading : List ℕ → Option Directive) (P : Directive → Type 0) (text : List ℕ)
    → (IsGap (take (leading_blanks text) text) → IfSome (reading (drop (leading_blanks text) text)) P) → IfSome (after_gap reading text) P
gap-sound reading P text later =
    let n = leading_blanks text in
    cond_both (n == 0) None (reading (drop n text)) (λ o. IfSome o P)
    (λ _. tt)
    (λ some.
    let long = length-take-le n text (prefix_len-le-length is_blank text) in
    let differs = eqb-false n 0 some in
    later (omega (arith, long, differs), front_passes is_blank text))

-- a word in front
word-sound : (word : List ℕ) (P : Directive → Type 0) (text : List ℕ) (o other : Option Directive) → (text ≡ word ++ drop (length word) text → IfSome o P) → IfSome other P
    → IfSome (cond (begins_with word text) o other) P
word-sound word P text o other later more =
    cond_both (begins_with word text) o other (λ x. IfSome x P)
    (λ yes. later (sym (take-append-drop (length word) text) ∙ ap (λ l. l ++ drop (length word) text) ((bytes_eq-Decides (take (length word) text) word).0 yes)))
    (λ _. more)

-- the text after it
comment-blanks : (comment : List ℕ) → (comment ≡ []) ⊎ ((rest : List ℕ) × (comment ≡ 37 ∷ rest)) → (leading_blanks comment ≡ 0) × (is_comment_or_none comment ≡ true)
comment-blanks comment is = ⊎_elim
    (λ none. subst (λ l. (leading_blanks l ≡ 0) × (is_comment_or_none l ≡ true)) (sym none) (refl, refl))
    (λ some. subst (λ l. (leading_blanks l ≡ 0) × (is_comment_or_none l ≡ true)) (sym some.1) (refl, refl))
    is

end-read : (directive : Directive) (end : List ℕ) → IsEnd end → directive_at_end directive end ≡ Some directive
end-read directive end is =
    let known = comment-blanks is.comment is.comment_is in
    let count : leading_blanks end ≡ length is.blanks = ap leading_blanks is.spelling ∙ front_exact is_blank is.blanks is.comment is.blanks_are known.0 in
    let left : drop (leading_blanks end) end ≡ is.comment = ap (drop (leading_blanks end)) is.spelling ∙ drop_exact (leading_blanks end) is.blanks is.comment count in
    cond-true _ _ _ (ap is_comment_or_none left ∙ known.1)

comment-sound : (text : List ℕ) → is_comment_or_none text ≡ true → (text ≡ []) ⊎ ((rest : List ℕ) × (text ≡ 37 ∷ rest))
comment-sound [] e = inl refl
comment-sound (b ∷ bs) e = inr (bs, ap (λ x. x ∷ bs) (eqb-true b 37 e))

end-sound : (P : Directive → Type 0) (directive : Directive) (end : List ℕ) → (IsEnd end → P directive) → IfSome (directive_at_end directive end) P
end-sound P directive end later =
    let n = leading_blanks end in
    cond_both (is_comment_or_none (drop n end)) (Some directive) None (λ o. IfSome o P)
    (λ yes. later (record {
      blanks = take n end;
      comment = drop n end;
      spelling = sym (take-append-drop n end);
      blanks_are = front_passes is_blank end;
      comment_is = comment-sound (drop n end) yes;
    }))
    (λ _. tt)

-- a number is no blank, and no digit may follow it
digit-no_blank : (d : ℕ) → is_digit d ≡ true → is_blank d ≡ false
digit-no_blank d is =
    let range = digit_range d is in
    or_from (d == 32) (d == 9) (ne_eqb d 32 (λ e. absurd (omega (arith, range, e)))) (ne_eqb d 9 (λ e. absurd (omega (arith, range, e))))

number-no_blank : (digits end : List ℕ) → 1 ≤ length digits → AllPass is_digit digits → leading_blanks (digits ++ end) ≡ 0
number-no_blank [] end some all = absurd (omega arith)
number-no_blank (d ∷ ds) end some all = front_none is_blank d (ds ++ end) (digit-no_blank d (All-head (λ b. is_digit b ≡ true) d ds all))

blank-no_digit : (b : ℕ) → is_blank b ≡ true → is_digit b ≡ false
blank-no_digit b is = ⊎_elim (λ e. ap is_digit (eqb-true b 32 e)) (λ e. ap is_digit (eqb-true b 9 e)) (or_cases (b == 32) (b == 9) is)

comment-no_digit : (comment : List ℕ) → (comment ≡ []) ⊎ ((rest : List ℕ) × (comment ≡ 37 ∷ rest)) → prefix_len is_digit comment ≡ 0
comment-no_digit comment is = ⊎_elim (λ none. ap (prefix_len is_digit) none) (λ some. ap (prefix_len is_digit) some.1) is

blanks-no_digit : (blanks comment : List ℕ) → AllPass is_blank blanks → prefix_len is_digit comment ≡ 0 → prefix_len is_digit (blanks ++ comment) ≡ 0
blanks-no_digit [] comment all none = none
blanks-no_digit (b ∷ bs) comment all none = front_none is_digit b (bs ++ comment) (blank-no_digit b (All-head (λ x. is_blank x ≡ true) b bs all))

end-no_digit : (end : List ℕ) → IsEnd end → prefix_len is_digit end ≡ 0
end-no_digit end is = ap (prefix_len is_digit) is.spelling ∙ blanks-no_digit is.blanks is.comment is.blanks_are (comment-no_digit is.comment is.comment_is)

-- the program
program_directive-read : (digits end : List ℕ) (number : ℕ) → IsNumber digits number → IsEnd end → program_directive (digits ++ end) ≡ Some (directives.Program number)
program_directive-read digits end number is end_is =
    ap (program_by (digits ++ end)) (number_exact digits end number is (end-no_digit end end_is))
    ∙ ap (directive_at_end (directives.Program number)) (drop_exact (length digits) digits end refl)
    ∙ end-read (directives.Program number) end end_is

midi-word : (text : List ℕ) → directive_of (codes "%%MIDI" ++ text) ≡ after_gap midi_directive text
unfolding directive_of
midi-word text = refl

program-word : (text : List ℕ) → midi_directive (codes "program" ++ text) ≡ after_gap program_directive text
program-word text = refl

pub program-read : (text : List ℕ) (number : ℕ) → IsProgramLine text number → directive_of text ≡ Some (directives.Program number)
program-read text number is =
    ap directive_of is.spelling
    ∙ midi-word (is.gap ++ (codes "program" ++ (is.second_gap ++ (is.digits ++ is.end))))
    ∙ gap-read midi_directive is.gap (codes "program" ++ (is.second_gap ++ (is.digits ++ is.end))) is.gap_is refl
    ∙ program-word (is.second_gap ++ (is.digits ++ is.end))
    ∙ gap-read program_directive is.second_gap (is.digits ++ is.end) is.second_gap_is (number-no_blank is.digits is.end is.number_is.some is.number_is.digits)
    ∙ program_directive-read is.digits is.end number is.number_is is.end_is

-- the reach of accidentals
reach-word : (text : List ℕ) → directive_of (codes "%%propagate-accidentals" ++ text) ≡ after_gap reach_directive text
unfolding directive_of
reach-word text = refl

name-no_blank : (reach : Reach) (end : List ℕ) → leading_blanks (name_of reach ++ end) ≡ 0
name-no_blank Not end = refl
name-no_blank Octave end = refl
name-no_blank Pitch end = refl

name-read : (reach : Reach) (end : List ℕ) → reach_directive (name_of reach ++ end) ≡ directive_at_end (directives.Reach reach) end
name-read Not end = refl
name-read Octave end = refl
name-read Pitch end = refl

pub reach-read : (text : List ℕ) (reach : Reach) → IsReachLine text reach → directive_of text ≡ Some (directives.Reach reach)
reach-read text reach is =
    ap directive_of is.spelling
    ∙ reach-word (is.gap ++ (name_of reach ++ is.end))
    ∙ gap-read reach_directive is.gap (name_of reach ++ is.end) is.gap_is (name-no_blank reach is.end)
    ∙ name-read reach is.end
    ∙ end-read (directives.Reach reach) is.end is.end_is

pub directive-read : (text : List ℕ) (directive : Directive) → IsDirective text directive → directive_of text ≡ Some directive
directive-read text (directives.Program number) is = program-read text number is
directive-read text (directives.Reach reach) is = reach-read text reach is

-- the program read is spelled so
number-sound : (P : Directive → Type 0) (text : List ℕ) (o : Option (ℕ × ℕ)) → IfSome o (IsSpelled IsNumber text)
    → ((number : ℕ × ℕ) → IsNumber (take number.1 text) number.0 → IsEnd (drop number.1 text) → P (directives.Program number.0)) → IfSome (program_by text o) P
number-sound P text None is later = tt
number-sound P text (Some number) is later = end-sound P (directives.Program number.0) (drop number.1 text) (λ end. later number is.1 end)

program-sound : (text following : List ℕ) → text ≡ codes "%%MIDI" ++ following → IfSome (after_gap midi_directive following) (IsDirective text)
program-sound text following cut =
    let n = leading_blanks following in
    let after = drop n following in
    let later = drop 7 after in
    let m = leading_blanks later in
    let digits = drop m later in
    gap-sound midi_directive (IsDirective text) following
    (λ gap. word-sound (codes "program") (IsDirective text) after (after_gap program_directive later) None
    (λ word. gap-sound program_directive (IsDirective text) later
    (λ second. number-sound (IsDirective text) digits (number_at digits) (number_sound digits) (λ number number_is end. record {
      gap = take n following;
      second_gap = take m later;
      digits = take number.1 digits;
      end = drop number.1 digits;
      spelling = cut ∙ ap (λ l. codes "%%MIDI" ++ l) (sym (take-append-drop n following) ∙ ap (λ l. take n following ++ l)
          (word ∙ ap (λ l. codes "program" ++ l) (sym (take-append-drop m later) ∙ ap (λ l. take m later ++ l) (sym (take-append-drop number.1 digits)))));
      gap_is = gap;
      second_gap_is = second;
      number_is = number_is;
      end_is = end;
    })))
    tt)

-- the reach of accidentals
name-sound : (P : Directive → Type 0) (reach : Reach) (text : List ℕ) (other : Option Directive)
    → ((reach : Reach) (end : List ℕ) → text ≡ name_of reach ++ end → IsEnd end → P (directives.Reach reach))
    → IfSome other P → IfSome (cond (begins_with (name_of reach) text) (directive_at_end (directives.Reach reach) (drop (length (name_of reach)) text)) other) P
name-sound P reach text other later more =
    let end = drop (length (name_of reach)) text in
    word-sound (name_of reach) P text (directive_at_end (directives.Reach reach) end) other (λ word. end-sound P (directives.Reach reach) end (λ is. later reach end word is)) more

reach-sound : (text following : List ℕ) → text ≡ codes "%%propagate-accidentals" ++ following → IfSome (after_gap reach_directive following) (IsDirective text)
reach-sound text following cut =
    let n = leading_blanks following in
    let P = IsDirective text in
    gap-sound reach_directive P following (λ gap.
    let later : (reach : Reach) (end : List ℕ) → drop n following ≡ name_of reach ++ end → IsEnd end → IsDirective text (directives.Reach reach) = λ reach end word is. record {
      gap = take n following;
      end = end;
      spelling = cut ∙ ap (λ l. codes "%%propagate-accidentals" ++ l) (sym (take-append-drop n following) ∙ ap (λ l. take n following ++ l) word);
      gap_is = gap;
      end_is = is;
    } in
    name-sound P Not (drop n following) _ later (name-sound P Octave (drop n following) _ later (name-sound P Pitch (drop n following) None later tt)))

pub directive-sound : (text : List ℕ) → IfSome (directive_of text) (IsDirective text)
unfolding directive_of
directive-sound text =
    word-sound (codes "%%MIDI") (IsDirective text) text (after_gap midi_directive (drop 6 text)) _ (λ word. program-sound text (drop 6 text) word)
    (word-sound (codes "%%propagate-accidentals") (IsDirective text) text (after_gap reach_directive (drop 23 text)) None (λ word. reach-sound text (drop 23 text) word) tt)

pub reads_directives : ReadsDirectives
reads_directives text directive = (λ e. subst (λ o. IfSome o (IsDirective text)) e (directive-sound text), directive-read text directive)

-- a line of which a directive is read
line-by : (text : List ℕ) (o : Option Directive) → IfSome o (IsDirective text) → is_some o ≡ true → IsDirectiveLine text
line-by text None is some = cc
line-by text (Some directive) is some = (directive, is)

pub directive-line : (text : List ℕ) → is_directive text ≡ true → IsDirectiveLine text
directive-line text e = line-by text (directive_of text) (directive-sound text) e

pub line-directive : (text : List ℕ) → IsDirectiveLine text → is_directive text ≡ true
line-directive text is = ap is_some (directive-read text is.0 is.1)

-- it begins with `%`
pub directive-percent : (text : List ℕ) → IsDirectiveLine text → (rest : List ℕ) × (text ≡ 37 ∷ rest)
directive-percent text (directives.Program number, is) = (_, is.spelling)
directive-percent text (directives.Reach reach, is) = (_, is.spelling)
