use Rattle.abc_time.proofs.LengthLaws.{judges}
use Rattle.abc_time.proofs.lengths.length.Goals as goal

pub returns-in-Some : goal.returns-in-Some
returns-in-Some c =
    let j = judges _ _ c.requires.unit c.requires.factors _ c.in-Some.ensures in
    record { value = c.in-Some.ensures; ok = j.ok; not_whole = j.not_whole; too_long = j.too_long }

pub returns-in-None : goal.returns-in-None
returns-in-None c =
    let e = c.length_by_cancelling.ensures in
    let j = judges _ _ c.requires.unit c.requires.factors _ e in
    record { value = e; ok = j.ok; not_whole = j.not_whole; too_long = j.too_long }
