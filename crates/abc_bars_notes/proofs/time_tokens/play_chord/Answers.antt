use Rattle.std.proofs.Common.{◌≡◌, true}
use Rattle.abc_bars_notes.specs.declared.chords.ChordContext.{ChordContext}
use Rattle.abc_bars_notes.specs.TokenRole.{has_note}
use Rattle.abc_bars_notes.proofs.ChordTones.{chord-tone}
use Rattle.abc_bars_notes.proofs.time_tokens.play_chord.Goals as goal

pub push_notes-requires : goal.push_notes-requires
push_notes-requires c =
    let noted : has_note c.as_slice-parts.result.now ≡ true = cc in
    let chord_context : ChordContext = record { length = c.args.chord.now.length; tied = c.args.place.tied; from = c.args.place.from } in
    record {
      some = chord-tone c.args.state.now c.args.broken.now chord_context c.as_slice-parts.result.now _ c.in_ok-builder.ensures.value noted;
      few = c.in_ok-builder.ensures.range.few;
      each = c.in_ok-builder.ensures.range.each;
    }
