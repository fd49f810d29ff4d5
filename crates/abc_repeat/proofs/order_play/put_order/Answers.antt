use Rattle.std.proofs.Common.{length, get_or, ap, ◌∙◌, subst, sym, arith, append-nil, [], ◌++◌}
use Rattle.abc_fields.specs.Letters.{letters_so_far, count_on, count_or_once, front_of}
use Rattle.abc_fields.proofs.Fronts.{front_accepts, front_more, whole_order, whole_letters}
use Rattle.abc_repeat.specs.Section.{section_of}
use Rattle.abc_repeat.specs.OrderPlay.{letters_around, sections_with, IsPlayOf}
use Rattle.abc_repeat.proofs.OrderPlays.{begins_inside, length-begins}
use Rattle.abc_repeat.proofs.order_play.put_order.Goals as goal

pub read-requires-clause-inside : goal.read-requires-clause-inside
read-requires-clause-inside c =
    let inside = begins_inside (section_of c.args.sections.now) (front_of c.args.order.now c.loop-byte.byte-index) c.loop-byte.play c.loop-byte.invariant in
    omega (arith, inside, c.loop-byte.play.sections.ok.0)

pub read-requires-clause-room : goal.read-requires-clause-room
read-requires-clause-room c = λ opens.
    let accepts = front_accepts c.args.order.now c.requires.order c.loop-byte.byte-index (omega arith) in
    let groups = ap length c.loop-byte.invariant.groups ∙ length-begins (section_of c.args.sections.now) (front_of c.args.order.now c.loop-byte.byte-index).around in
    omega (arith, accepts.room opens, groups)

pub read-requires-clause-short : goal.read-requires-clause-short
read-requires-clause-short c = λ digit.
    let accepts = front_accepts c.args.order.now c.requires.order c.loop-byte.byte-index (omega arith) in
    let same = ap (λ count. count_on count (get_or c.args.order.now c.loop-byte.byte-index 0)) c.loop-byte.invariant.count in
    omega (arith, accepts.short digit, same)

pub read-requires-clause-counted : goal.read-requires-clause-counted
read-requires-clause-counted c = λ says digit.
    let accepts = front_accepts c.args.order.now c.requires.order c.loop-byte.byte-index (omega arith) in
    let same = ap count_or_once c.loop-byte.invariant.count in
    omega (arith, accepts.counted says digit, same)

pub loop-byte-preserved : goal.loop-byte-preserved
loop-byte-preserved c =
    let section = section_of c.args.sections.now in
    let read = c.in_ok-read.ensures (front_of c.args.order.now c.loop-byte.byte-index) c.loop-byte.invariant in
    subst (λ played. IsPlayOf section played c.read.new.self) (sym (front_more c.args.order.now c.loop-byte.byte-index c.loop-byte-test.true)) read

pub end_item-requires-clause-inside : goal.end_item-requires-clause-inside
end_item-requires-clause-inside c =
    let inside = begins_inside (section_of c.args.sections.now) (front_of c.args.order.now c.loop-byte.byte-index) c.loop-byte.play c.loop-byte.invariant in
    omega (arith, inside, c.loop-byte.play.sections.ok.0)

pub end_item-requires-clause-counted : goal.end_item-requires-clause-counted
end_item-requires-clause-counted c =
    let whole = whole_order c.args.order.now c.requires.order c.loop-byte.byte-index c.loop-byte-test.false in
    let same = ap count_or_once c.loop-byte.invariant.count in
    omega (arith, whole.counted, same)

pub returns : goal.returns
returns c =
    let section = section_of c.args.sections.now in
    let front = front_of c.args.order.now c.loop-byte.byte-index in
    let whole = whole_order c.args.order.now c.requires.order c.loop-byte.byte-index c.loop-byte-test.false in
    let played = c.in_ok-end_item.ensures.played section front c.loop-byte.invariant in
    played.sections
    ∙ ap (λ around. sections_with section (letters_around around ++ letters_so_far front ++ [])) whole.outside
    ∙ ap (sections_with section) (append-nil (letters_so_far front) ∙ whole_letters c.args.order.now c.requires.order c.loop-byte.byte-index c.loop-byte-test.false)
