use Rattle.std.proofs.Common.{◌≡◌, ℕ, ◌++◌, true, length, Option, None, sym, ap, ◌∙◌, arith, append-nil}
use Rattle.std.specs.Option.{option_to_list}
use Rattle.std.specs.Char.{is_ascii_digit, is_ascii_uppercase}
use Rattle.abc_fields.proofs.Fronts.{upper_between, digit_between, silent_low, silent_middle, silent_high}
use Rattle.abc_repeat.specs.Section.{section_of}
use Rattle.abc_repeat.proofs.OrderPlays.{letter_played, open_played, close_played, digit_played, silent_played}
use Rattle.abc_repeat.proofs.order_play.OrderPlay.read.Goals as goal

pub push-requires : goal.push-requires
push-requires c =
    let room = c.requires.room c.in-40.is in
    let same = ap (λ groups. length groups.items) c.in_ok-end_item-in-40.ensures.groups in
    (omega arith, omega (arith, room, same))

pub returns-in_ok-end_item-in-40 : goal.returns-in_ok-end_item-in-40
returns-in_ok-end_item-in-40 c = λ played is.
    let section = section_of c.args.sections.now in
    open_played section played c.end_item.new.self c.push.new.self c.args.byte c.in-40.is (c.in_ok-end_item-in-40.ensures.played section played is) c.push.ensures.items

pub returns-in_ok-end_item-in-41 : goal.returns-in_ok-end_item-in-41
returns-in_ok-end_item-in-41 c = λ played is.
    let section = section_of c.args.sections.now in
    close_played section played c.end_item-in-41.new.self c.pop.new.self c.pop.result c.args.byte c.unwrap_or-self.result c.in-41.is
    (c.in_ok-end_item-in-41.ensures.played section played is) c.pop.ensures.items c.pop.ensures.variant.1
    c.unwrap_or-self.ensures

pub returns-then-byte-lt48 : goal.returns-then-byte-lt48
returns-then-byte-lt48 c = λ played is.
    silent_played (section_of c.args.sections.now) played c.args.self.now c.args.byte is (silent_low c.args.byte (omega arith) (λ e. omega (arith, e)) (λ e. omega (arith, e)))

pub returns-in-48-to-57 : goal.returns-in-48-to-57
returns-in-48-to-57 c = λ played is.
    let digit : is_ascii_digit c.args.byte ≡ true = digit_between c.args.byte (omega arith) (omega arith) in
    digit_played (section_of c.args.sections.now) played c.args.self.now c.args.byte c.longer_count.result is digit c.longer_count.ensures

pub returns-then-byte-lt65 : goal.returns-then-byte-lt65
returns-then-byte-lt65 c = λ played is. silent_played (section_of c.args.sections.now) played c.args.self.now c.args.byte is (silent_middle c.args.byte (omega arith) (omega arith))

pub returns-in_ok-push-in-65-to-90 : goal.returns-in_ok-push-in-65-to-90
returns-in_ok-push-in-65-to-90 c = λ played is.
    let section = section_of c.args.sections.now in
    let play = c.end_item-in-65-to-90.new.self in
    let upper : is_ascii_uppercase c.args.byte ≡ true = upper_between c.args.byte (omega arith) (omega arith) in
    letter_played section played play c.push-in-Some.new.self c.args.byte upper (c.in_ok-end_item-in-65-to-90.ensures.played section played is)
    (c.in_ok-push-in-65-to-90.ensures.items ∙ ap (λ o. play.sections.items ++ option_to_list o) (sym c.in-Some.is ∙ c.get.ensures))

pub returns-in_default-get : goal.returns-in_default-get
returns-in_default-get c = λ played is.
    let section = section_of c.args.sections.now in
    let play = c.end_item-in-65-to-90.new.self in
    let upper : is_ascii_uppercase c.args.byte ≡ true = upper_between c.args.byte (omega arith) (omega arith) in
    let none : ◌≡◌ {A = Option ℕ} None (section c.args.byte) = sym c.in_default-get.is ∙ c.get.ensures in
    letter_played section played play play.sections c.args.byte upper (c.in_ok-end_item-in-65-to-90.ensures.played section played is)
    (sym (append-nil play.sections.items) ∙ ap (λ o. play.sections.items ++ option_to_list o) none)

pub returns-else-byte-lt91 : goal.returns-else-byte-lt91
returns-else-byte-lt91 c = λ played is. silent_played (section_of c.args.sections.now) played c.args.self.now c.args.byte is (silent_high c.args.byte (omega arith))
