-- The time tokens of a play are those of the tune.
use Rattle.std.proofs.Common.{◌≡◌, ℕ, ◌+◌, List, [], ◌∷◌, ◌++◌, map, refl, sym, ap, ◌∙◌, arith}
use Rattle.std.specs.Borrow.{Bor}
use Rattle.abc_bars_items.specs.declared.item.Item.{Item}
use Rattle.abc_voices.specs.Layout as layout
use Rattle.abc_voices.specs.Ties.{with_token, tokens_from, tokens_in, heard_notes}
use Rattle.abc_voices.specs.Track.{tracks, voice_names}
use Rattle.abc_voices.proofs.Ties.{voices_play_chains}
use Rattle.abc_voices_sections.specs.Items.{items_of}
use Rattle.abc_voices_sections.specs.PlayedSection.{play_in}
use Rattle.abc_voices_sections.specs.Step.{length_of, tones_of}
use Rattle.abc_play_sections.specs.declared.step.PlayStep.{PlayStep}
use Rattle.abc_play_sections.specs.declared.step.PlayStep.TheVariants as steps
use Rattle.abc_play_sections.specs.Play.{steps_in}
use Rattle.abc_play_sections.specs.Step.{items_among}
use Rattle.abc_play_sections.proofs.Items.{plays_items}
use Rattle.abc_play_tune.specs.Laws.{PlaysTokens, PlaysScore}
use Rattle.abc_play_tune.specs.Play.{played_sections, play_of_voice, tokens_among}
use Rattle.abc_play_tune.specs.Stage.{section_time}
use Rattle.abc_play_tune.specs.Timed.{timed_from, timed_in}
use Rattle.abc_play_tune.specs.declared.timed.TimedStep.{TimedStep}
use Rattle.abc_play_tune.specs.Steps.{without_places}
use Rattle.abc_play_tune.proofs.Times.{section_time-alike}
use Rattle.abc_play_tune.proofs.WithoutPlaces.{plays_sections}

-- the tokens of steps before others
timed_tokens : (at : ℕ) (own : List PlayStep) (rest : List TimedStep) → tokens_among (timed_from at own ++ rest) ≡ tokens_from at (items_among own) (tokens_among rest)
timed_tokens at [] rest = refl
timed_tokens at (steps.Item item place ∷ own) rest =
    ap (with_token at (tones_of item.now)) (timed_tokens (at + length_of item.now) own rest)
timed_tokens at (steps.BarLine place ∷ own) rest =
    let same : at + 0 ≡ at = omega arith in
    ap (λ moment. tokens_among (timed_from moment own ++ rest)) same ∙ timed_tokens at own rest

-- the tokens of a voice in sections
section_tokens : (voices : List (List ℕ)) (voice : List ℕ) (at : ℕ) (played : List (List ℕ × List PlayStep))
    → tokens_among (timed_in voices voice at played) ≡ tokens_in voices voice at (map without_places played)
section_tokens voices voice at [] = refl
section_tokens voices voice at (section ∷ rest) =
    let next = at + section_time voices section in
    timed_tokens at (steps_in section voice) (timed_in voices voice next rest)
    ∙ (λ i. tokens_from at (plays_items section.0 voice section.1 i) (section_tokens voices voice next rest i))
    ∙ ap (λ time. tokens_from at (play_in (without_places section) voice) (tokens_in voices voice (at + time) (map without_places rest))) (section_time-alike voices section)

pub plays_tokens : PlaysTokens
plays_tokens tune voice =
    let voices = voice_names (items_of tune) in
    section_tokens voices voice 0 (played_sections tune)
    ∙ ap (tokens_in voices voice 0) (plays_sections tune)

heard_alike : (tune : List (Bor Item)) (those : List (List ℕ))
    → map (λ voice. heard_notes (tokens_in (voice_names (items_of tune)) voice 0 (layout.played_sections (items_of tune)))) those
    ≡ map (λ voice. heard_notes (tokens_among (play_of_voice tune voice))) those
heard_alike tune [] = refl
heard_alike tune (voice ∷ those) = λ i. heard_notes (sym (plays_tokens tune voice) i) ∷ heard_alike tune those i

pub plays_score : PlaysScore
plays_score tune = voices_play_chains (items_of tune) ∙ heard_alike tune (tracks (items_of tune))
