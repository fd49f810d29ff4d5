-- Fields of a body that have no effect.
use Rattle.std.proofs.Common.{◌≡◌, ℕ, false, List, refl}
use Rattle.abc_bars_body.specs.declared.body.Body.{Body}
use Rattle.abc_bars_header.specs.declared.field_kind.FieldKind.{FieldKind}
use Rattle.abc_bars_header.specs.declared.field_kind.FieldKind.TheVariants as kinds
use Rattle.abc_bars_body.specs.BodyFields.{has_effect, kind_result, without_effect}

pub no_effect : (kind : FieldKind) (body : Body) (value : List ℕ) (place : ℕ) → has_effect kind ≡ false → kind_result body kind value place ≡ without_effect body
no_effect kinds.Reference body value place none = refl
no_effect kinds.Title body value place none = refl
no_effect kinds.Other body value place none = refl
no_effect kinds.Parts body value place none = cc
no_effect kinds.Meter body value place none = cc
no_effect kinds.UnitLength body value place none = cc
no_effect kinds.Tempo body value place none = cc
no_effect kinds.Key body value place none = cc
no_effect kinds.Voice body value place none = cc
