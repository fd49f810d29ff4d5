use Rattle.std.proofs.Common.{Bor, ◌∙◌, ◌≡◌, Some, None, ap, sym, slice_get, bytes_eq, subst}
use Rattle.std.specs.List.{IsDistinct}
use Rattle.std.specs.Map.Iter.{deref_pair}
use Rattle.std.specs.Option.{option_map}
use Rattle.abc_bars_header.proofs.NamedLists.{lent_at, no_name-zip, none_known-zip, pair_at-zip}
use Rattle.abc_bars_header.proofs.NamedLists.{seen}
use Rattle.abc_bars_header.proofs.voices.Voices.entry.Goals as goal

pub returns-in_err-name-clause-value : goal.returns-in_err-name-clause-value
returns-in_err-name-clause-value g c =
    let s = seen c.self.inside.names c.self.inside.known.items c.args.self.now c.self.view_is c.self.invariant in
    ap (option_map deref_pair) c.from_residual.ensures
    ∙ sym (no_name-zip c.self.inside.names c.self.inside.known.items c.args.at (sym c.in_err-name.ensures.value))
    ∙ ap (λ l. slice_get l c.args.at) s.entries

pub returns-in_err-name-clause-distinct : goal.returns-in_err-name-clause-distinct
returns-in_err-name-clause-distinct g c =
    let s = seen c.self.inside.names c.self.inside.known.items c.args.self.now c.self.view_is c.self.invariant in
    subst (IsDistinct bytes_eq) s.names c.get.ensures.distinct

pub returns-in_err-known-clause-value : goal.returns-in_err-known-clause-value
returns-in_err-known-clause-value g c =
    let s = seen c.self.inside.names c.self.inside.known.items c.args.self.now c.self.view_is c.self.invariant in
    let none : slice_get c.self.inside.known.items c.args.at ≡ None =
    ap (λ l. slice_get l c.args.at) (sym c.deref.ensures.value) ∙ sym (lent_at {R = Bor g.row.S.Denot} (λ known. known.now) c.deref.result.now c.args.at None c.in_err-known.ensures.lookup) in
    ap (option_map deref_pair) c.from_residual-in_err-known.ensures
    ∙ sym (none_known-zip c.self.inside.names c.self.inside.known.items c.args.at none)
    ∙ ap (λ l. slice_get l c.args.at) s.entries

pub returns-in_err-known-clause-distinct : goal.returns-in_err-known-clause-distinct
returns-in_err-known-clause-distinct g c =
    let s = seen c.self.inside.names c.self.inside.known.items c.args.self.now c.self.view_is c.self.invariant in
    subst (IsDistinct bytes_eq) s.names c.get.ensures.distinct

pub returns-clause-value : goal.returns-clause-value
returns-clause-value g c =
    let s = seen c.self.inside.names c.self.inside.known.items c.args.self.now c.self.view_is c.self.invariant in
    let known = ap (λ l. slice_get l c.args.at) (sym c.deref.ensures.value)
    ∙ sym (lent_at {R = Bor g.row.S.Denot} (λ known. known.now) c.deref.result.now c.args.at (Some c.in_ok-known.known) c.in_ok-known.ensures.lookup) in
    sym (pair_at-zip c.self.inside.names c.self.inside.known.items c.args.at _ _ (sym c.in_ok-name.ensures.value) known)
    ∙ ap (λ l. slice_get l c.args.at) s.entries

pub returns-clause-distinct : goal.returns-clause-distinct
returns-clause-distinct g c =
    let s = seen c.self.inside.names c.self.inside.known.items c.args.self.now c.self.view_is c.self.invariant in
    subst (IsDistinct bytes_eq) s.names c.get.ensures.distinct
