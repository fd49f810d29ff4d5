use Rattle.std.proofs.Common.{◌∙◌, ap, sym, refl, slice_get, Some, arith}
use Rattle.std.proofs.lemmas.Option.{slice_get-get_or}
use Rattle.indexmap.specs.Layout.{set_value_at}
use Rattle.abc_bars_header.proofs.NamedLists.{zip-changed}
use Rattle.abc_bars_header.proofs.NamedLists.{seen}
use Rattle.abc_bars_header.proofs.voices.Voices.known_mut.Goals as goal

pub index_mut-requires : goal.index_mut-requires
index_mut-requires g c =
    let s = seen c.self.inside.names c.self.inside.known.items c.args.self.now c.self.view_is c.self.invariant in
    omega (arith, s.known_count, c.requires, c.self.inside.known.ok.0)

pub returns : goal.returns
returns g c =
    let s = seen c.self.inside.names c.self.inside.known.items c.args.self.now c.self.view_is c.self.invariant in (
      (refl, λ w. zip-changed c.self.inside.names c.self.inside.known.items c.args.at w ∙ ap (λ pairs. set_value_at pairs c.args.at w) s.entries),
      record {
        writes_back = tt;
        value = ap (λ l. slice_get l c.args.at) (sym s.known)
            ∙ slice_get-get_or c.self.inside.known.items c.args.at c.index_mut.result.now (omega (arith, s.known_count, c.requires))
            ∙ ap Some (sym c.index_mut.ensures.value);
      },
    )
