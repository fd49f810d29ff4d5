-- The chains of tied tones in a play, as a relation. ABC 2.1 section 4.11; which tones are joined is not in ABC 2.1.
use Rattle.std.specs.Prelude.{◌≡◌, ℕ, suc, ◌+◌, true, List, [], ◌∷◌, ◌++◌, Option, Some, None, slice_get, take}
use Rattle.abc_bars_items.specs.declared.item.Tone.{Tone}
use Rattle.abc_voices_score.specs.declared.score.Sounding.{Sounding}
use Rattle.abc_voices.specs.Ties.{TimeToken, heard_notes, tied_with, tones_with}

-- The tones of the first of some time tokens, if there is one.
abbrev pub first_tones : List TimeToken → List Tone
first_tones [] = []
first_tones (token ∷ tokens) = token.tones

-- The tone at `place` of a time token is joined with the one at `other` of the next one. The first is tied, and both have
-- one key. As many tied tones of the key are before the first as tones of the key are before the second.
pub record IsJoined (tones next : List Tone) (place other : ℕ) : Type 0 where
  pub tone : Tone
  pub tone_is : slice_get tones place ≡ Some tone
  pub tied : tone.tied ≡ true
  pub follower : Tone
  pub follows : slice_get next other ≡ Some follower
  pub key : ℕ
  pub own_key : tone.key ≡ Some key
  pub same_key : follower.key ≡ Some key
  pub in_turn : tied_with key (take place tones) ≡ tones_with key (take other next)

-- A chain of tones, one in each time token from the first on: at `place`, and then at `others`. Each is joined with the next
-- one, and the last with none.
abbrev pub IsChain : List TimeToken → ℕ → List ℕ → Type 0
IsChain [] place others = ⊥
IsChain (token ∷ tokens) place [] = (other : ℕ) → IsJoined token.tones (first_tones tokens) place other → ⊥
IsChain (token ∷ tokens) place (other ∷ others) = IsJoined token.tones (first_tones tokens) place other
    × IsChain tokens other others

-- The length of a tone, if there is one.
abbrev pub length_if : Option Tone → ℕ
length_if None = 0
length_if (Some tone) = tone.length.0

-- When the last tone of a chain is over.
abbrev pub end_of_chain : List TimeToken → ℕ → List ℕ → ℕ
end_of_chain [] place others = 0
end_of_chain (token ∷ tokens) place [] = token.at + length_if (slice_get token.tones place)
end_of_chain (token ∷ tokens) place (other ∷ others) = end_of_chain tokens other others

-- The moment of the first of some time tokens.
abbrev pub first_moment : List TimeToken → ℕ
first_moment [] = 0
first_moment (token ∷ tokens) = token.at

-- The note of the chain that begins with the tone at `place` of the first time token. It lasts from the beginning of its
-- first tone to the end of its last, as loud as its first.
pub record IsNoteOf (tokens : List TimeToken) (place : ℕ) (note : Sounding) : Type 0 where
  pub tone : Tone
  pub tone_is : slice_get (first_tones tokens) place ≡ Some tone
  pub key : tone.key ≡ Some note.key
  pub others : List ℕ
  pub chain : IsChain tokens place others
  pub on : note.on.0 ≡ first_moment tokens
  pub off : note.off.0 ≡ end_of_chain tokens place others
  pub velocity : note.velocity ≡ tone.velocity

-- The notes that begin with the tone at `place` of the first time token, after one with the tones `previous`. There is none
-- if the tone is silent or one of `previous` is joined with it, else the note of the chain that it begins.
pub data IsBegun (previous : List Tone) (tokens : List TimeToken) (place : ℕ) (notes : List Sounding) : Type 0 where
  silent : (tone : Tone) → slice_get (first_tones tokens) place ≡ Some tone → tone.key ≡ None → notes ≡ []
      → IsBegun previous tokens place notes
  goes_on : (before : ℕ) → IsJoined previous (first_tones tokens) before place → notes ≡ [] → IsBegun previous tokens place notes
  begins : (note : Sounding) → ((before : ℕ) → IsJoined previous (first_tones tokens) before place → ⊥)
      → IsNoteOf tokens place note → notes ≡ note ∷ [] → IsBegun previous tokens place notes

-- The notes that begin with `tones` of the first time token, the first of them at `place`, in turn.
abbrev pub AreBegun : List Tone → List TimeToken → ℕ → List Tone → List Sounding → Type 0
AreBegun previous tokens place [] notes = notes ≡ []
AreBegun previous tokens place (tone ∷ tones) notes =
    (own : List Sounding) × (others : List Sounding) × (notes ≡ own ++ others)
    × IsBegun previous tokens place own × AreBegun previous tokens (suc place) tones others

-- The notes of time tokens after one with the tones `previous`, those that begin at the last one first.
abbrev pub AreHeard : List Tone → List TimeToken → List Sounding → Type 0
AreHeard previous [] notes = notes ≡ []
AreHeard previous (token ∷ tokens) notes =
    (later : List Sounding) × (own : List Sounding) × (notes ≡ later ++ own)
    × AreHeard token.tones tokens later × AreBegun previous (token ∷ tokens) 0 token.tones own

-- The notes of time tokens are those of their longest chains, each once.
abbrev pub HearsChains : Type 0
HearsChains = (tokens : List TimeToken) → AreHeard [] tokens (heard_notes tokens)

-- No other notes are.
abbrev pub HearsNoOthers : Type 0
HearsNoOthers = (tokens : List TimeToken) (notes : List Sounding) → AreHeard [] tokens notes → notes ≡ heard_notes tokens
