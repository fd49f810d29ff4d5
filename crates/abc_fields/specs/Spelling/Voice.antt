-- The grammar of a voice, the value of a field V:. ABC 2.1 section 7.1.
use Rattle.std.specs.Prelude.{◌≡◌, ℕ, ◌+◌, List, length}
use Rattle.abc_fields.specs.declared.voice.Voice.{Voice}
use Rattle.abc_text.specs.Word.{IsFirstWord, words_of}
use Rattle.abc_fields.specs.Spelling.Shift.{IsShift}

-- A voice: its identifier is the first word, and the words after it set its shift.
pub record IsVoice (text : List ℕ) (voice : Voice) : Type 0 where
  pub identifier : List ℕ
  pub following : List ℕ
  pub first : IsFirstWord text identifier following
  pub from : voice.from ≡ length first.blanks
  pub to : voice.to ≡ voice.from + length identifier
  pub shift : IsShift (words_of following) voice.shift
