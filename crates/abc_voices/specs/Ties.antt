-- The notes that are heard, as chains of tied tones. ABC 2.1 section 4.11; which tones are joined is not in ABC 2.1.
use Rattle.std.specs.Prelude.{◌≡◌, ℕ, suc, ◌+◌, ◌==◌, nat_lt, Bool, false, ◌&&◌, if◌then◌else◌, List, [], ◌∷◌, ◌++◌, map}
use Rattle.std.specs.Prelude.{Option, Some, None}
use Rattle.abc_bars_items.specs.declared.item.Item.{Item}
use Rattle.abc_bars_items.specs.declared.item.Tone.{Tone}
use Rattle.abc_voices_score.specs.declared.score.Sounding.{Sounding}
use Rattle.abc_voices.specs.Layout.{all_notes, played_sections, score_of}
use Rattle.abc_voices_sections.specs.PlayedSection.{section_length, play_in}
use Rattle.abc_voices.specs.TiedNotes.{notes_from}
use Rattle.abc_voices_sections.specs.Step.{length_of, tones_of}
use Rattle.abc_voices.specs.Track.{voice_names, tracks}

-- A time token that is played: the moment at which it begins, and its tones.
pub record TimeToken : Type 0 where
  pub at : ℕ
  pub tones : List Tone

-- A time token, if it is one, before others.
abbrev pub with_token : ℕ → Option (List Tone) → List TimeToken → List TimeToken
with_token at None tokens = tokens
with_token at (Some tones) tokens = record { at = at; tones = tones } ∷ tokens

-- The time tokens of what is played from a moment on, before others.
abbrev pub tokens_from : ℕ → List Item → List TimeToken → List TimeToken
tokens_from at [] tokens = tokens
tokens_from at (item ∷ play) tokens = with_token at (tones_of item) (tokens_from (at + length_of item) play tokens)

-- The time tokens of a voice in sections that are played from a moment on.
abbrev pub tokens_in : List (List ℕ) → List ℕ → ℕ → List (List ℕ × List Item) → List TimeToken
tokens_in voices voice at [] = []
tokens_in voices voice at (section ∷ rest) =
    tokens_from at (play_in section voice) (tokens_in voices voice (at + section_length voices section) rest)

-- Whether a tone has this key.
abbrev pub has_key : ℕ → Option ℕ → Bool
has_key key None = false
has_key key (Some own) = own == key

-- How many of some tones have a key.
abbrev pub tones_with : ℕ → List Tone → ℕ
tones_with key [] = 0
tones_with key (tone ∷ tones) = if has_key key tone.key then suc (tones_with key tones) else tones_with key tones

-- How many of some tones that have a key are tied.
abbrev pub tied_with : ℕ → List Tone → ℕ
tied_with key [] = 0
tied_with key (tone ∷ tones) = if tone.tied && has_key key tone.key then suc (tied_with key tones) else tied_with key tones

-- The tone in `tones` that has the key and exactly `number` tones of the key before it, and how many of those are tied.
-- `past` has the tones before `tones`, the last one first.
abbrev pub tone_at : ℕ → ℕ → List Tone → List Tone → Option (Tone × ℕ)
tone_at key number past [] = None
tone_at key number past (tone ∷ tones) =
    if has_key key tone.key && (tones_with key past == number) then Some (tone, tied_with key past)
    else tone_at key number (tone ∷ past) tones

-- The tone of `next`, the next time token, with which `tone` is joined if it is tied: that of the key at the index `number`.
-- `number` tied tones of the key are before `tone` in its own time token.
abbrev pub joined_with : Tone → ℕ → ℕ → List Tone → Option (Tone × ℕ)
joined_with tone key number next = if tone.tied then tone_at key number [] next else None

-- The end of a tone that is joined with another, or with none.
abbrev pub end_by : ℕ → (Tone × ℕ → ℕ) → Option (Tone × ℕ) → ℕ
end_by own following None = own
end_by own following (Some other) = following other

-- When the chain that `tone` begins at the moment `at` ends: with the last tone that is joined. `number` tied tones of its
-- key are before it in its time token, and the time tokens `tokens` follow.
abbrev pub chain_end : ℕ → Tone → ℕ → ℕ → List TimeToken → ℕ
chain_end at tone key number [] = at + tone.length.0
chain_end at tone key number (token ∷ tokens) =
    end_by (at + tone.length.0) (λ other. chain_end token.at other.0 key other.1 tokens) (joined_with tone key number token.tones)

-- The note of the chain that `tone` begins, as loud as `tone`. `past` has the tones before it in its time token, the last
-- one first. There is no note if a tone of the preceding time token is joined with it: `tied` counts the tied ones of each key.
abbrev pub chain_note : (ℕ → ℕ) → ℕ → List Tone → Tone → List TimeToken → Option ℕ → List Sounding
chain_note tied at past tone tokens None = []
chain_note tied at past tone tokens (Some key) =
    if nat_lt (tones_with key past) (tied key) then []
    else record {
      key = key;
      on = record { 0 = at };
      off = record { 0 = chain_end at tone key (tied_with key past) tokens };
      velocity = tone.velocity;
    } ∷ []

-- The notes of the chains that begin with `tones`, those of one time token after its tones `past`.
abbrev pub chain_notes : (ℕ → ℕ) → ℕ → List Tone → List Tone → List TimeToken → List Sounding
chain_notes tied at past [] tokens = []
chain_notes tied at past (tone ∷ tones) tokens = chain_note tied at past tone tokens tone.key
    ++ chain_notes tied at (tone ∷ past) tones tokens

-- The notes of all chains, those that begin at the last time token first.
abbrev pub tie_chains : (ℕ → ℕ) → List TimeToken → List Sounding
tie_chains tied [] = []
tie_chains tied (token ∷ tokens) = tie_chains (λ key. tied_with key token.tones) tokens
    ++ chain_notes tied token.at [] token.tones tokens

-- What is heard of time tokens: a note for each longest chain of joined tones.
abbrev pub heard_notes : List TimeToken → List Sounding
heard_notes tokens = tie_chains (λ key. 0) tokens

-- The notes of a play are its chains.
abbrev pub PlaysChains : Type 0
PlaysChains = (at : ℕ) (play : List Item)
    → all_notes (notes_from at play (record { first = []; others = [] })) ≡ heard_notes (tokens_from at play [])

-- So are those of each voice of a tune, over its repeats and sections.
abbrev pub VoicesPlayChains : Type 0
VoicesPlayChains = (tune : List Item) → (score_of tune).voices
    ≡ map (λ voice. heard_notes (tokens_in (voice_names tune) voice 0 (played_sections tune))) (tracks tune)
