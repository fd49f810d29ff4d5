use Rattle.std.proofs.Common.{◌≡◌, ◌-◌, ◌<◌, length, arith}
use Rattle.abc_lines.specs.Text.{text_of}
use Rattle.c_handle.proofs.TextChanges.{change_of, insertion_is, replacement_is}
use Rattle.c_handle.proofs.text_change.edit_between.Goals as goal

pub returns-then-front-last : goal.returns-then-front-last
returns-then-front-last c =
    let front = c.common_front-front in
    let back = c.common_back-back in
    let text = c.args.session.now.text in
    let came = text_of c.in_ok-came.came in
    let gone : 0 ≡ length text - front.result - back.result = omega (arith, c.if-front-last.true, c.line_count.ensures.value) in
    record {
      value = (
        record { at = front.result; removed = 0; lines = came },
        insertion_is front.result came,
        change_of text c.args.lines.now front.result back.result 0 came back.ensures.old back.ensures.new front.ensures.same back.ensures.same
            front.ensures.first back.ensures.last gone c.in_ok-came.ensures.value,
      );
    }

pub returns : goal.returns
returns c =
    let front = c.common_front-front in
    let back = c.common_back-back in
    let text = c.args.session.now.text in
    let came = text_of c.in_ok-came.came in
    let to = c.line_count.result - back.result in
    let some : front.result < to = omega (arith, c.if-front-last.false, c.line_count.ensures.value, back.ensures.old) in
    let gone : to - front.result ≡ length text - front.result - back.result = omega (arith, c.line_count.ensures.value) in
    record {
      value = (
        record { at = front.result; removed = to - front.result; lines = came },
        replacement_is front.result to came some,
        change_of text c.args.lines.now front.result back.result (to - front.result) came back.ensures.old back.ensures.new front.ensures.same
            back.ensures.same front.ensures.first back.ensures.last gone c.in_ok-came.ensures.value,
      );
    }
