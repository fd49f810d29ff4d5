use Rattle.std.proofs.Common.{ℕ, List, map, ap, ◌∙◌, Bor}
use Rattle.abc_voices.proofs.Names.{names_inserted}
use Rattle.abc_voices.proofs.track.put_name.Goals as goal

abbrev name_of : Bor (List ℕ) → List ℕ
name_of voice = voice.now

pub returns : goal.returns
returns c = ap (map name_of) c.in_ok-insert.ensures.keys ∙ names_inserted name_of c.args.known.now.keys c.args.name
