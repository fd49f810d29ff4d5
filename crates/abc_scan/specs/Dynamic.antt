-- Dynamics. ABC 2.1 section 4.14.
use Rattle.std.specs.Prelude.{◌≡◌, ℕ, Option, Some, None, List, [], ◌∷◌, ◌++◌, codes, if◌then◌else◌}
use Rattle.std.specs.Str.{bytes_eq}
use Rattle.abc_scan.specs.declared.dynamic.Dynamic.{Dynamic}
use Rattle.abc_scan.specs.declared.dynamic.Dynamic.TheVariants.{Ppp, Pp, P, Mp, Mf, F, Ff, Fff}
use Rattle.abc_scan.specs.Byte.{exclamation}

-- The name of a dynamic (ABC 2.1 section 4.14), and the MIDI velocity of notes with it (not in ABC 2.1).
abbrev pub name_and_velocity : Dynamic → List ℕ × ℕ
name_and_velocity Ppp = (codes "ppp", 30)
name_and_velocity Pp = (codes "pp", 45)
name_and_velocity P = (codes "p", 60)
name_and_velocity Mp = (codes "mp", 75)
name_and_velocity Mf = (codes "mf", 90)
name_and_velocity F = (codes "f", 105)
name_and_velocity Ff = (codes "ff", 120)
name_and_velocity Fff = (codes "fff", 127)

abbrev pub name_of : Dynamic → List ℕ
name_of dynamic = (name_and_velocity dynamic).0

abbrev pub velocity_of : Dynamic → ℕ
velocity_of dynamic = (name_and_velocity dynamic).1

-- A dynamic: its name between exclamation marks. ABC 2.1 section 4.14.
abbrev pub IsDynamic : List ℕ → Dynamic → Type 0
IsDynamic text dynamic = text ≡ exclamation ∷ (name_of dynamic ++ exclamation ∷ [])

-- The dynamic that a text spells.
unfoldable pub dynamic_of : List ℕ → Option Dynamic
dynamic_of text =
    if bytes_eq text (codes "!ppp!") then Some Ppp
    else (if bytes_eq text (codes "!pp!") then Some Pp
    else (if bytes_eq text (codes "!p!") then Some P
    else (if bytes_eq text (codes "!mp!") then Some Mp
    else (if bytes_eq text (codes "!mf!") then Some Mf
    else (if bytes_eq text (codes "!f!") then Some F
    else (if bytes_eq text (codes "!ff!") then Some Ff
    else (if bytes_eq text (codes "!fff!") then Some Fff
    else None)))))))
