use Rattle.std.proofs.Common.{◌≡◌, length, refl, arith}
use Rattle.abc_bars_voice.proofs.Alike.{same_by_places}
use Rattle.abc_bars_header.proofs.same_header.VoicesSame.same.Goals as goal

pub returns : goal.returns
returns g c =
    let long : length c.args.self.now ≡ length c.args.other.now = cc in
    let all = same_by_places c.args.self.now c.args.other.now long (λ k below. c.loop-at.invariant.agree k (omega (arith, below, c.loop-at.invariant.count))) in
    (λ _. all, λ _. refl)
