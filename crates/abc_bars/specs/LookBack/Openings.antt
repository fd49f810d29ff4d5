-- The states with which the voices of a tune's body begin, by the lines of its header and the key that ended it.
-- ABC 2.1 sections 3.1, 4.6, 7.1 and 11.3.
use Rattle.std.specs.Prelude.{◌≡◌, ℕ, pos, List, unwrap_or}
use Rattle.std.specs.List.{Contains}
use Rattle.abc_fields.specs.declared.key.Key.{Key}
use Rattle.abc_fields.specs.declared.meter.Meter.TheVariants.{Free}
use Rattle.abc_fields.specs.declared.shift.Shift.{Shift}
use Rattle.abc_fields.specs.Shift.{no_shift}
use Rattle.abc_fields.specs.Signature.{natural}
use Rattle.abc_bars_header.specs.declared.defaults.Defaults.{Defaults}
use Rattle.abc_bars_header.specs.HeaderLine.{HeaderLine}
use Rattle.abc_bars_voice.specs.declared.voice_state.VoiceState.{VoiceState}
use Rattle.abc_bars_voice.specs.Accidentals.{reach_of}
use Rattle.abc_bars_voice.specs.UnitLength.{unit_by}
use Rattle.abc_bars.specs.LookBack.ByName.{opening_of}
use Rattle.abc_bars.specs.LookBack.Defaults.{defaults_at}
use Rattle.abc_bars.specs.LookBack.Header.{declared_names, declared_shift}
use Rattle.abc_bars.specs.LookBack.Place.{opening_at}

-- The state with which a voice begins in a body. `set` are the values of the header, `key` is the key that ended it, and
-- `said` is the shift by the V: lines of the voice:
-- - `meter`: the header's, else free meter;
-- - `unit`: the header's unit note length, else that of the meter;
-- - `signature`: the key's, else no accidentals. Without a tonic there is none: not in ABC 2.1;
-- - `reach`: accidentals reach as far as the header sets;
-- - `clef`, `octave`, `transpose`: each part of the shift by `said`, else by the key, else 0. This order is not in ABC 2.1.
pub record OpensWith (set : Defaults) (key : Key) (said : Shift) (state : VoiceState) : Type 0 where
  pub meter : state.meter ≡ unwrap_or set.meter Free
  pub unit : state.unit ≡ unwrap_or set.unit (unit_by state.meter)
  pub signature : state.signature ≡ unwrap_or key.signature natural
  pub reach : reach_of state.accidentals ≡ set.reach
  pub clef : state.shift.clef ≡ unwrap_or said.clef (unwrap_or key.shift.clef (pos 0))
  pub octave : state.shift.octave ≡ unwrap_or said.octave (unwrap_or key.shift.octave (pos 0))
  pub transpose : state.shift.transpose ≡ unwrap_or said.transpose (unwrap_or key.shift.transpose (pos 0))

-- A voice of this name begins with these values, after these lines and this key.
abbrev pub VoiceOpens : Defaults → List HeaderLine → Key → Shift → List ℕ → Type 0
VoiceOpens values fields key said name =
    OpensWith (defaults_at values fields) key said (opening_of (opening_at values fields key) name)

-- A voice that the header declares begins with what its last V: says of its shift.
abbrev pub DeclaredVoicesOpen : Type 0
DeclaredVoicesOpen =
    (values : Defaults) (fields : List HeaderLine) (key : Key) (name : List ℕ)
    → Contains (declared_names fields) name → VoiceOpens values fields key (declared_shift fields name) name

-- Of another one, and of the one without a name, the header says nothing.
abbrev pub OtherVoicesOpen : Type 0
OtherVoicesOpen =
    (values : Defaults) (fields : List HeaderLine) (key : Key) (name : List ℕ)
    → ¬ Contains (declared_names fields) name → VoiceOpens values fields key no_shift name
