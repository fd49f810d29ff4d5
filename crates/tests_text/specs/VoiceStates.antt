-- Parts of a voice's state, and of a header, as the worked examples write them. Not in ABC 2.1.
use Rattle.std.specs.Prelude.{ℕ, List, [], ◌∷◌, codes, map, length, Option, option_map}
use Rattle.abc_bars_body.specs.declared.body.Body.{Body}
use Rattle.abc_bars_body.specs.declared.body.Current.TheVariants.{At}
use Rattle.abc_fields.specs.Shift.{no_shift}
use Rattle.abc_fields.specs.declared.shift.Shift.{Shift}
use Rattle.abc_scan.specs.declared.broken.BrokenRhythm.{BrokenRhythm}
use Rattle.abc_scan.specs.declared.broken.Direction.{Direction}
use Rattle.abc_scan.specs.declared.tuplet.Tuplet.{Tuplet}
use Rattle.abc_bars_voice.specs.Tuplet.{OpenTuplet}
use Rattle.abc_bars_voice.specs.declared.voice_state.VoiceState.{VoiceState}

-- A tuplet mark of these numbers. The last two are optional.
abbrev pub mark : ℕ → Option ℕ → Option ℕ → Tuplet
mark p q r = record { p = p; q = q; r = r }

-- An open tuplet of p notes in the time of q, with `left` notes to come.
abbrev pub open_tuplet : ℕ → ℕ → ℕ → OpenTuplet
open_tuplet p q left = record { p = p; q = q; left = left }

-- Marks of broken rhythm.
abbrev pub broken : Direction → ℕ → BrokenRhythm
broken direction marks = record { direction = direction; marks = marks }

-- Fifteen voices, `a` to `o`, without any shift.
abbrev pub fifteen_voices : List (List ℕ × Shift)
fifteen_voices = map (λ letter. (letter ∷ [], no_shift)) (codes "abcdefghijklmno")

-- The one voice `A`, with this shift.
abbrev pub voice_a : Shift → List (List ℕ × Shift)
voice_a shift = (codes "A", shift) ∷ []

-- A body with these voices, each in the state of any other voice. The first is the current one.
abbrev pub body_of : VoiceState → List (List ℕ × Shift) → Body
body_of state voices = record { voices = map (λ voice. (voice.0, state)) voices; current = At 0; another = state }

-- The number of voices of a body, if there is one.
abbrev pub voices_in : Option Body → Option ℕ
voices_in body = option_map (λ b. length b.voices) body
