use Rattle.std.proofs.Common.{◌≡◌, ◌∙◌, ◌-◌, List, ℕ, length, take, drop, sym, ap, arith}
use Rattle.std.proofs.lemmas.List.{length-map}
use Rattle.std.specs.Borrow.{Bor}
use Rattle.abc_voices.proofs.Layouts.{first_within}
use Rattle.abc_voices.specs.Track.{voice_names}
use Rattle.abc_voices_sections.specs.Items.{items_of}
use Rattle.abc_play_tune.proofs.Tracks.{counted_within, names_counted}
use Rattle.abc_play_tune.proofs.play.play_along.Goals as goal

pub slice_bounds-counted-count : goal.slice_bounds-counted-count
slice_bounds-counted-count c =
    let long : length c.args.voices.now ≡ length (voice_names (items_of c.args.tune.now)) =
    sym (length-map c.args.voices.now (λ (voice : Bor (List ℕ)). voice.now)) ∙ ap length c.requires.voices in
    omega (arith, long, c.counted_place-from.ensures, counted_within (items_of c.args.tune.now), first_within (items_of c.args.tune.now))

pub slice_bounds-counted-start : goal.slice_bounds-counted-start
slice_bounds-counted-start c =
    let long : length c.args.voices.now ≡ length (voice_names (items_of c.args.tune.now)) =
    sym (length-map c.args.voices.now (λ (voice : Bor (List ℕ)). voice.now)) ∙ ap length c.requires.voices in
    omega (arith, long, c.counted_place-from.ensures, counted_within (items_of c.args.tune.now), first_within (items_of c.args.tune.now))

pub stages_of-requires-clause-voices : goal.stages_of-requires-clause-voices
stages_of-requires-clause-voices c =
    names_counted (items_of c.args.tune.now) c.args.voices.now c.counted_place-from.result c.requires.voices c.counted_place-from.ensures

pub tracks_along-requires-clause-count : goal.tracks_along-requires-clause-count
tracks_along-requires-clause-count c =
    let from = c.counted_place-from.result in
    let part : List (Bor (List ℕ)) = take (length c.args.voices.now - from) (drop from c.args.voices.now) in
    sym (length-map part (λ (voice : Bor (List ℕ)). voice.now))
    ∙ ap length (names_counted (items_of c.args.tune.now) c.args.voices.now from c.requires.voices c.counted_place-from.ensures)
