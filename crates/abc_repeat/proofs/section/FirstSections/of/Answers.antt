use Rattle.std.proofs.Common.{◌+◌, ◌-◌, ◌==◌, length, drop, set, get_or, None, refl, sym, ap, ◌∙◌, length-set}
use Rattle.std.specs.List.{position_from}
use Rattle.std.specs.Option.{option_or}
use Rattle.abc_repeat.proofs.Tables.{option_or-none, option_or-kept, option_or-set, section_of-table}
use Rattle.abc_repeat.proofs.section.FirstSections.of.Goals as goal
use Rattle.abc_repeat.proofs.section.FirstSections.of.Goals.{then-is_ascii_uppercase, else-is_ascii_uppercase}

pub loop-at-init : goal.loop-at-init
loop-at-init c = record { wide = refl; firsts = λ letter upper. option_or-none letter (position_from (λ own. own == letter) 1 c.args.letters.now) upper }

pub loop-at-preserved : goal.loop-at-preserved
loop-at-preserved c =
    let letters = c.args.letters.now in
    let at = c.loop-at.at in
    elim c.if-is_ascii_uppercase.branch [
      | then-is_ascii_uppercase w ↦ record {
        wide = ap length w.by_letter-is ∙ length-set c.loop-at.by_letter (get_or letters at 0 - 65) w.or.result ∙ c.loop-at.invariant.wide;
        firsts = λ letter upper.
            ap (λ table. option_or (get_or table (letter - 65) None)
            (position_from (λ own. own == letter) ((at + 1) + 1) (drop (at + 1) letters))) (w.by_letter-is ∙ ap (λ made. set c.loop-at.by_letter (get_or letters at 0 - 65) made) w.or.ensures)
            ∙ option_or-set c.loop-at.by_letter letters at letter c.loop-at.invariant.wide c.loop-at-test.true (sym c.is_ascii_uppercase.ensures.value ∙ w.if-is_ascii_uppercase.true) upper
            ∙ c.loop-at.invariant.firsts letter upper;
      }
      | else-is_ascii_uppercase w ↦ record {
        wide = ap length w.by_letter-is ∙ c.loop-at.invariant.wide;
        firsts = λ letter upper.
            ap (λ table. option_or (get_or table (letter - 65) None) (position_from (λ own. own == letter) ((at + 1) + 1) (drop (at + 1) letters))) w.by_letter-is
            ∙ option_or-kept c.loop-at.by_letter letters at letter c.loop-at-test.true (sym c.is_ascii_uppercase.ensures.value ∙ w.if-is_ascii_uppercase.false) upper
            ∙ c.loop-at.invariant.firsts letter upper;
      }
    ]

pub returns : goal.returns
returns c = λ letter. section_of-table c.loop-at.by_letter c.args.letters.now c.loop-at.at letter c.loop-at-test.false (λ upper. c.loop-at.invariant.firsts letter upper)
