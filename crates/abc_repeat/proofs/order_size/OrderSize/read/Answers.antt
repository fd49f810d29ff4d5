use Rattle.std.proofs.Common.{◌≡◌, true, ap, ◌∙◌, arith}
use Rattle.std.specs.Option.{is_some}
use mir.Val.{bool_byte}
use Rattle.std.specs.Char.{is_ascii_digit, is_ascii_uppercase}
use Rattle.abc_fields.proofs.Fronts.{upper_between, digit_between, silent_low, silent_middle, silent_high}
use Rattle.abc_repeat.specs.Section.{section_of}
use Rattle.abc_repeat.proofs.OrderSizes.{letter_sized, open_sized, close_sized, digit_sized, silent_sized}
use Rattle.abc_repeat.proofs.order_size.OrderSize.read.Goals as goal

pub returns-in-40 : goal.returns-in-40
returns-in-40 c = λ played is.
    let section = section_of c.args.sections.now in
    open_sized section played c.args.self.now c.push.new.self c.args.byte c.total-total.result is c.in-40.is (c.total-total.ensures section played is) c.push.ensures.items

pub returns-in-41 : goal.returns-in-41
returns-in-41 c = λ played is.
    let section = section_of c.args.sections.now in
    close_sized section played c.args.self.now c.pop.new.self c.pop.result c.args.byte c.total-self.result c.unwrap_or-self.result
    is c.in-41.is c.pop.ensures.items c.pop.ensures.variant.1 c.unwrap_or-self.ensures (c.total-self.ensures section played is)

pub returns-then-byte-lt48 : goal.returns-then-byte-lt48
returns-then-byte-lt48 c = λ played is. silent_sized (section_of c.args.sections.now) played c.args.self.now c.args.byte is
    (silent_low c.args.byte (omega arith) (λ e. omega (arith, e)) (λ e. omega (arith, e)))

pub returns-then-byte-lt65 : goal.returns-then-byte-lt65
returns-then-byte-lt65 c = λ played is. silent_sized (section_of c.args.sections.now) played c.args.self.now c.args.byte is (silent_middle c.args.byte (omega arith) (omega arith))

pub returns-else-byte-lt91 : goal.returns-else-byte-lt91
returns-else-byte-lt91 c = λ played is. silent_sized (section_of c.args.sections.now) played c.args.self.now c.args.byte is (silent_high c.args.byte (omega arith))

pub returns-in-48-to-57 : goal.returns-in-48-to-57
returns-in-48-to-57 c = λ played is.
    let digit : is_ascii_digit c.args.byte ≡ true = digit_between c.args.byte (omega arith) (omega arith) in
    digit_sized (section_of c.args.sections.now) played c.args.self.now c.args.byte c.longer_count.result is digit c.longer_count.ensures

pub returns-in-65-to-90 : goal.returns-in-65-to-90
returns-in-65-to-90 c = λ played is.
    let section = section_of c.args.sections.now in
    let upper : is_ascii_uppercase c.args.byte ≡ true = upper_between c.args.byte (omega arith) (omega arith) in
    letter_sized section played c.args.self.now c.args.byte c.total-self-in-65-to-90.result (bool_byte c.is_some.result) is upper
    (c.total-self-in-65-to-90.ensures section played is) (ap bool_byte (c.is_some.ensures ∙ ap is_some c.get.ensures))
