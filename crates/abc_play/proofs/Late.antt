-- A tune ends with its sections or later.
use Rattle.std.proofs.Common.{ℕ, ◌<◌, ◌≤◌, List, [], ◌∷◌, arith}
use Rattle.std.specs.List.{flat_map}
use Rattle.std.specs.Prelude.{max}
use Rattle.abc_bars_items.specs.declared.item.Item.{Item}
use Rattle.abc_time.specs.Grains.{grains_of_the_latest_end}
use Rattle.abc_voices.specs.Layout.{end_of, last_off, total, voices_notes}
use Rattle.abc_voices_score.specs.declared.score.Sounding.{Sounding}

pub no_earlier : (at : ℕ) (notes : List Sounding) → at ≤ last_off at notes
no_earlier at [] = omega arith
no_earlier at (note ∷ notes) =
    let later = no_earlier (max at note.off.0) notes in
    omega (arith, later)

pub ends_late : (tune : List Item) → grains_of_the_latest_end < total tune → grains_of_the_latest_end < end_of tune
ends_late tune late =
    let later = no_earlier (total tune) (flat_map (λ notes. notes) (voices_notes tune)) in
    omega (arith, later, late)
