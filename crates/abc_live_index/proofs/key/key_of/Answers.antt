use Rattle.std.proofs.Common.{refl}
use Rattle.abc_live_index.specs.Tunes.{lowered_place}
use Rattle.abc_live_index.proofs.Keys.{seen_there}
use Rattle.abc_live_index.proofs.key.key_of.Goals as goal

pub returns : goal.returns
returns g c = rw (c.in_ok-bytes.ensures, c.defaults_by-defaults.ensures, seen_there c.args.stretch.now.lines.now (lowered_place c.args.stretch.now.before c.args.place)) refl
