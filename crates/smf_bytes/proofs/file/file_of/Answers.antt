use Rattle.std.proofs.Common.{◌<◌, ◌^◌, ℕ, List, length, subst, sym, ◌∙◌}
use Rattle.abc_time.specs.Grains.{tick_at}
use Rattle.smf_bytes.specs.declared.event.Event.{Event}
use Rattle.smf_bytes.specs.Track.{track_body, conductor_events}
use Rattle.smf_bytes.proofs.Files.{opened}
use Rattle.smf_bytes.proofs.Lengths.{EndBy, conductor_length, conductor_ticks}
use Rattle.smf_bytes.proofs.file.file_of.Goals as goal

pub put_track-requires-clause-within : goal.put_track-requires-clause-within
put_track-requires-clause-within c =
    let score = c.args.score.now in
    let events = c.in_ok-changes.ensures ∙ (λ i. conductor_events (c.as_slice.ensures i) (c.as_slice-2.ensures i)) in
    subst (λ (t : ℕ). EndBy t c.in_ok-changes.changes.items) (sym c.tick_of-end.ensures.value)
    (subst (EndBy (tick_at score.end.0)) (sym events) (conductor_ticks score.end score.title score.conductor c.requires.changes))

pub put_track-requires-clause-length : goal.put_track-requires-clause-length
put_track-requires-clause-length c =
    let score = c.args.score.now in
    let events = c.in_ok-changes.ensures ∙ (λ i. conductor_events (c.as_slice.ensures i) (c.as_slice-2.ensures i)) in
    let tick = c.tick_of-end.result in
    let Short = λ (body : List Event). length (track_body tick body) < 2 ^ 32 in
    subst Short (sym events) (conductor_length tick score.title score.conductor c.requires.counts.title c.requires.counts.changes)

pub loop-place-init : goal.loop-place-init
loop-place-init c =
    let score = c.args.score.now in
    let events = c.in_ok-changes.ensures ∙ (λ i. conductor_events (c.as_slice.ensures i) (c.as_slice-2.ensures i)) in
    opened score c.in_ok-file.file.items _ _ c.len.result c.tick_of-end.result c.in_ok-changes.changes.items
    c.in_ok-file.ensures.items c.len.ensures c.in_ok-put_header.ensures c.tick_of-end.ensures.value events c.in_ok-put_track.ensures
