use Rattle.abc_repeat.proofs.Greatest.{greatest_is}
use Rattle.abc_repeat.proofs.mark.greatest_number.Goals as goal

pub returns : goal.returns
returns c = greatest_is c.args.numbers c.ranges.numbers.fits
