use Rattle.std.proofs.Common.{◌≡◌, ◌+◌, ◌++◌, ◌≤◌, max, drop, map}
use Rattle.std.specs.Prelude.{sum_by}
use Rattle.abc_time.specs.Grains.{grains_of_the_latest_end}
use Rattle.abc_voices_sections.specs.PlayedSection.{count_in, section_time}
use Rattle.abc_voices_sections.specs.Stage.{steps_at, part_in, part_size}
use Rattle.abc_voices_sections.proofs.stage.Stage.of.Given as goal

-- the parts so far, and those of the rest; the room that is left
abbrev pub invariant-loop-voice : goal.invariant-loop-voice
invariant-loop-voice g l = record {
  parts : l.parts ++ map (part_in g.T.AsItem.item_of (steps_at l.section)) (map (λ voice. voice.now) (drop l.voice-index l.voices)) ≡ map (part_in g.T.AsItem.item_of (steps_at l.section)) (map (λ voice. voice.now) l.voices);
  sizes : sum_by part_size l.parts + sum_by (count_in g.T.AsItem.item_of (steps_at l.section)) (map (λ voice. voice.now) (drop l.voice-index l.voices))
      ≡ sum_by (count_in g.T.AsItem.item_of (steps_at l.section)) (map (λ voice. voice.now) l.voices);
  left : sum_by part_size l.parts + l.left ≡ l.fn.room;
  longest : max l.longest.0 (section_time g.T.AsItem.item_of (map (λ voice. voice.now) (drop l.voice-index l.voices)) (steps_at l.section)) ≡ section_time g.T.AsItem.item_of (map (λ voice. voice.now) l.voices) (steps_at l.section);
  in_time : l.longest.0 ≤ grains_of_the_latest_end;
}
