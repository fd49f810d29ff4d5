use Rattle.std.proofs.Common.{[], refl, arith}
use Rattle.abc_lines.proofs.GapRow.{all_gap, somes-none}
use Rattle.abc_lines.proofs.gap_row.GapRow.with_capacity.Goals as goal

pub returns : goal.returns
returns g c =
    let made = c.in_ok-places.ensures in (
      record {
        front = [];
        back = [];
        row = all_gap _ c.args.room made.0;
        before = refl;
        count = omega arith;
        fits = omega arith;
        small = (c.if-not-may_hold.ensures refl).1;
        claimed = (made.1, made.2, made.3);
      },
      somes-none _ c.args.room made.0,
      refl,
      refl,
    )
