use Rattle.std.proofs.Common.{length, get_or, ap, ◌∙◌, subst, sym, arith}
use Rattle.abc_fields.specs.Letters.{count_on, front_of}
use Rattle.abc_fields.proofs.Fronts.{front_accepts, front_more, whole_letters}
use Rattle.abc_repeat.specs.Section.{section_of}
use Rattle.abc_repeat.specs.OrderSize.{size_of, IsSizeOf}
use Rattle.abc_repeat.proofs.OrderSizes.{length-sizes}
use Rattle.abc_repeat.proofs.order_size.order_size.Goals as goal

pub loop-byte-init : goal.loop-byte-init
loop-byte-init c = c.new-size.ensures c.args.sections.now

pub read-requires-clause-room : goal.read-requires-clause-room
read-requires-clause-room c = λ opens.
    let accepts = front_accepts c.args.order.now c.requires c.loop-byte.byte-index (omega arith) in
    let groups = ap length c.loop-byte.invariant.around ∙ length-sizes (section_of c.args.sections.now) (front_of c.args.order.now c.loop-byte.byte-index).around in
    omega (arith, accepts.room opens, groups)

pub read-requires-clause-short : goal.read-requires-clause-short
read-requires-clause-short c = λ digit.
    let accepts = front_accepts c.args.order.now c.requires c.loop-byte.byte-index (omega arith) in
    let same = ap (λ count. count_on count (get_or c.args.order.now c.loop-byte.byte-index 0)) c.loop-byte.invariant.count in
    omega (arith, accepts.short digit, same)

pub loop-byte-preserved : goal.loop-byte-preserved
loop-byte-preserved c =
    let section = section_of c.args.sections.now in
    let read = c.read.ensures (front_of c.args.order.now c.loop-byte.byte-index) c.loop-byte.invariant in
    subst (λ played. IsSizeOf section played c.read.new.self) (sym (front_more c.args.order.now c.loop-byte.byte-index c.loop-byte-test.true)) read

pub returns : goal.returns
returns c =
    let section = section_of c.args.sections.now in
    c.total.ensures section (front_of c.args.order.now c.loop-byte.byte-index) c.loop-byte.invariant
    ∙ ap (size_of section) (whole_letters c.args.order.now c.requires c.loop-byte.byte-index c.loop-byte-test.false)
