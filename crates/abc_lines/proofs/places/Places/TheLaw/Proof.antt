-- A `&` to places shows the items that they hold. Assumes `Logic`.
use mathlib.Core.List.{[], ◌++◌}
use base.Fml.{Incl-trans}
use contract.BorrowLft.{meet_⊑_left}
use denote.RattleType.{RattleType}
use denote.Param.Laws.{Laws}
use denote.Param.Shared.{copy_shared}
use denote.Struct.Field.{RawPtr-field}
use denote.Struct.Laws.{RawPtr-copy}
use denote.Struct.Lending.{of_Lends}
use Rattle.abc_lines.specs.contracts.places.Places as P
use Rattle.abc_lines.proofs.places.Places.TheLaw.Statement.{statement}
use Rattle.abc_lines.proofs.PlacesLent.{row_laws, lends_row}

pub shares : (R : RattleType) (L : Laws R) → statement R L
shares R L = of_Lends (P.struct R) (P.the_codes R.Denot R.coded) (P.the_heap R) (P.the_lent R)
    (λ d _. row_laws R L.shr_laws d.start d.row) (copy_shared RawPtr-field RawPtr-copy, tt)
    (λ M 𝓤 𝓛 d p. let l = (P.the_row R).lives in
    lends_row 𝓛 R L l (Incl-trans (meet_⊑_left (R.lives ++ []) _) (meet_⊑_left R.lives [])) d.start d.row)
