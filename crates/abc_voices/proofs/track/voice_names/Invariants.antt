use Rattle.std.proofs.Common.{◌≡◌, drop, map}
use Rattle.abc_voices_sections.specs.Items.{items_of}
use Rattle.abc_voices.specs.Track.{voice_names, names_from}
use Rattle.abc_voices.proofs.track.voice_names.Given as goal

-- the names so far, and those of the rest
abbrev pub invariant-loop-item : goal.invariant-loop-item
invariant-loop-item l = names_from (map (λ voice. voice.now) l.voices.keys) (items_of (drop l.item-index l.tune)) ≡ voice_names (items_of l.tune)
