use Rattle.std.proofs.Common.{◌≡◌, List, ℕ, subst, sym}
use Rattle.std.specs.List.{AllZip, zip}
use Rattle.abc_bars_header.proofs.NamedLists.{zip-copies}
use Rattle.abc_bars_header.proofs.voices.VoicesClone.clone.Goals as goal

pub returns : goal.returns
returns g c =
    let S = g.row.S.Denot in
    let C = g.S.Clone.is_clone in
    let names = c.self.inside.names in
    let copies = c.in_ok-known.known.items in
    let Copies : List (List ℕ × S) → List (List ℕ × S) → Type 0 = AllZip (λ p q. (q.0 ≡ p.0) × C p.1 q.1) in
    let made : Copies (zip names c.self.inside.known.items) (zip names copies) = zip-copies C names c.self.inside.known.items copies c.in_ok-known.ensures.cases.0 c.self.invariant in
    let of_voices : Copies c.args.self.now (zip names copies) = subst (λ voices. Copies voices (zip names copies)) c.self.view_is made in
    record { cases = subst (λ shared. Copies c.args.self.now (zip shared copies)) (sym c.in_ok-names.ensures) of_voices }
