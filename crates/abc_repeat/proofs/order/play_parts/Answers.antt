use Rattle.std.proofs.Common.{◌∙◌, Some, arith}
use Rattle.abc_repeat.specs.Section.{section_of}
use Rattle.abc_repeat.specs.declared.order.TheConstants.{MOST_SECTIONS}
use Rattle.abc_repeat.proofs.OrderFaults.{list_any-unknown, order_sections, length-sections_of, too_long_by_test, not_too_long}
use Rattle.abc_repeat.proofs.order.play_parts.Goals as goal

pub returns-then-size-ge-MOST_SECTIONS-clause-refused : goal.returns-then-size-ge-MOST_SECTIONS-clause-refused
returns-then-size-ge-MOST_SECTIONS-clause-refused c =
    let section = section_of c.of-firsts.result in
    let order = c.args.order.now in
    let letters = c.args.letters.now in
    let size = length-sections_of section order letters c.of-firsts.ensures in
    too_long_by_test MOST_SECTIONS (Some order) letters c.has_unknown-unknown.result (omega (arith, size, c.order_size-size.ensures))
    (c.has_unknown-unknown.ensures ∙ list_any-unknown section order letters c.requires c.of-firsts.ensures)

pub returns-in_err-sections-clause-refused : goal.returns-in_err-sections-clause-refused
returns-in_err-sections-clause-refused c =
    let size = length-sections_of (section_of c.of-firsts.result) c.args.order.now c.args.letters.now c.of-firsts.ensures in
    not_too_long MOST_SECTIONS (Some c.args.order.now) c.args.letters.now c.from_residual.result
    (omega (arith, size, c.order_size-size.ensures)) (λ unknown e. let same_refusal = rw e at c.from_residual.ensures.1 in cc)

pub returns-clause-sections : goal.returns-clause-sections
returns-clause-sections c = c.in_ok-sections.ensures ∙ order_sections (section_of c.of-firsts.result) c.args.order.now c.args.letters.now c.of-firsts.ensures

pub returns-clause-unknown : goal.returns-clause-unknown
returns-clause-unknown c = c.has_unknown-unknown.ensures ∙ list_any-unknown (section_of c.of-firsts.result) c.args.order.now c.args.letters.now c.requires c.of-firsts.ensures

pub returns-clause-refused : goal.returns-clause-refused
returns-clause-refused c =
    let size = length-sections_of (section_of c.of-firsts.result) c.args.order.now c.args.letters.now c.of-firsts.ensures in
    not_too_long MOST_SECTIONS (Some c.args.order.now) c.args.letters.now _ (omega (arith, size, c.order_size-size.ensures)) (λ unknown e. cc)
