use Rattle.std.proofs.Common.{arith}
use Rattle.smf_bytes.proofs.NumberTexts.{answers}
use Rattle.smf_bytes.proofs.number.read_number.Goals as goal

pub returns : goal.returns
returns c =
    let all = answers c.args.bytes.now c.read.result (λ i. omega (arith, c.type_inv.bytes i)) c.read.ensures in
    record { ok = all.ok; padded = all.padded; too_long = all.too_long; truncated = all.truncated }
