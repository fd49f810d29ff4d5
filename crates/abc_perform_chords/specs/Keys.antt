-- The keys of the accompaniment. ABC 2.1 section 4.18 has the chord names.
use Rattle.std.specs.Prelude.{ℕ, ℤ, ◌+◌, Bool, true, false, List, [], ◌∷◌, ◌++◌, option_to_list, Option, Some, None, slice_get}
use Rattle.abc_marks.specs.ChordName.{half_tones}
use Rattle.abc_marks.specs.declared.chord_name.ChordName.{ChordName}
use Rattle.abc_marks.specs.declared.directive.StepSound.{StepSound}
use Rattle.abc_marks.specs.declared.directive.StepSound.TheVariants as sounds
use Rattle.abc_perform_note.specs.Key.{transposed_key}
use Rattle.abc_perform_chords.specs.declared.keys.TheConstants.{LOWEST_ROOT, LOWEST_BASS}

-- The key some semitones above a key, moved as its voice is; none if MIDI does not have it.
abbrev pub note_key : ℕ → ℤ → ℕ → List ℕ
note_key key by above = option_to_list (transposed_key (key + above) by)

-- The keys of notes above a key.
abbrev pub note_keys : ℕ → ℤ → List ℕ → List ℕ
note_keys key by [] = []
note_keys key by (above ∷ notes) = note_key key by above ++ note_keys key by notes

-- The key of a note, if there is one.
abbrev pub key_if_any : ℕ → ℤ → Option ℕ → List ℕ
key_if_any key by None = []
key_if_any key by (Some above) = note_key key by above

-- The key of one of some notes, if there are as many.
abbrev pub one_key : ℕ → ℤ → List ℕ → ℕ → List ℕ
one_key key by notes index = key_if_any key by (slice_get notes index)

-- The key of a chord's root, from 48 to 59, or the one an octave lower.
abbrev pub root_key : ChordName → Bool → ℕ
root_key name false = LOWEST_ROOT + name.root
root_key name true = LOWEST_BASS + name.root

-- The keys of a chord in a step.
abbrev pub chord_keys : ChordName → ℤ → StepSound → List ℕ
chord_keys name by sounds.Chord = note_keys (root_key name false) by (half_tones name.kind)
chord_keys name by sounds.Both = note_keys (root_key name false) by (half_tones name.kind)
chord_keys name by (sounds.Note index lower) = one_key (root_key name lower) by (half_tones name.kind) index
chord_keys name by _ = []

-- The keys of the bass in a step, from 36 to 47 before it is moved.
abbrev pub bass_keys : ChordName → ℤ → StepSound → List ℕ
bass_keys name by sounds.Bass = note_key (LOWEST_BASS + name.bass) by 0
bass_keys name by sounds.Both = note_key (LOWEST_BASS + name.bass) by 0
bass_keys name by _ = []
