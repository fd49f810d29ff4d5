-- The modes of keys. ABC 2.1 section 3.1.14.
use Rattle.std.specs.Prelude.{ℕ, ◌||◌, Bool, true, false, ℤ, pos, negsuc, if◌then◌else◌, List, take, map, codes, Option, Some, None}
use Rattle.std.specs.Str.{bytes_eq}
use Rattle.std.specs.Char.{to_ascii_lowercase}
use Rattle.abc_fields.specs.declared.mode.Mode.{Mode}
use Rattle.abc_fields.specs.declared.mode.Mode.TheVariants.{Lydian, Ionian, Mixolydian, Dorian, Aeolian, Phrygian, Locrian}

-- The number of sharps that a mode adds to those of the major key on the same tonic.
abbrev pub added_sharps : Mode → ℤ
added_sharps Lydian = pos 1
added_sharps Ionian = pos 0
added_sharps Mixolydian = negsuc 0
added_sharps Dorian = negsuc 1
added_sharps Aeolian = negsuc 2
added_sharps Phrygian = negsuc 3
added_sharps Locrian = negsuc 4

-- Minor and Aeolian are minor.
abbrev pub is_minor : Mode → Bool
is_minor Aeolian = true
is_minor _ = false

-- The first three letters of a text, small.
abbrev pub front_of : List ℕ → List ℕ
front_of run = map to_ascii_lowercase (take 3 run)

-- The mode that three small letters name.
unfoldable pub mode_named : List ℕ → Option Mode
mode_named name =
    if bytes_eq name (codes "lyd") then Some Lydian
    else (if bytes_eq name (codes "maj") || bytes_eq name (codes "ion") then Some Ionian
    else (if bytes_eq name (codes "mix") then Some Mixolydian
    else (if bytes_eq name (codes "dor") then Some Dorian
    else (if bytes_eq name (codes "min") || bytes_eq name (codes "aeo") then Some Aeolian
    else (if bytes_eq name (codes "phr") then Some Phrygian
    else (if bytes_eq name (codes "loc") then Some Locrian
    else None))))))

-- The mode that a run of letters names.
unfoldable pub mode_of : List ℕ → Option Mode
mode_of run = if bytes_eq run (codes "m") then Some Aeolian else mode_named (front_of run)
