use Rattle.std.proofs.Common.{◌≡◌, List, [], ◌++◌, map, sym, ap, subst, ◌∙◌}
use Rattle.std.specs.Prelude.{All, IsPermutation}
use Rattle.std.proofs.lemmas.List.{append-nil, nil_from_length}
use Rattle.std.proofs.lemmas.List.Sorted.{IsPermutation-refl}
use Rattle.abc_voices_score.specs.Limits.{IsSoundingWithin}
use Rattle.abc_voices_score.specs.declared.score.Sounding.{Sounding}
use Rattle.smf_bytes.specs.Voice.{all_ends, all_of, change_of}
use Rattle.smf_bytes.proofs.Turned.{last_within, one_back}
use Rattle.smf_bytes.proofs.voice.events_of_voice.Goals as goal

pub loop-note-init : goal.loop-note-init
loop-note-init c =
    let whole : c.into_iter-note-iterator.result.iter.rest.now ≡ c.args.notes.now =
    ap (λ i. i.iter.rest.now) c.into_iter-note-iterator.ensures.into_iter_gives ∙ ap (λ i. i.rest.now) c.rev-note-items.ensures.source ∙ c.iter.ensures.rest in
    let bag = all_of c.args.programs.now c.args.notes.now in
    let first : c.put_programs.new.events.items ≡ map change_of c.args.programs.now =
    c.in_ok-put_programs.ensures ∙ ap (λ l. l ++ map change_of c.args.programs.now) c.in_ok-events.ensures.items in
    record {
      within = subst (All (IsSoundingWithin c.args.end)) (sym whole) c.requires.notes.each;
      events = subst (λ (left : List Sounding). IsPermutation bag (c.put_programs.new.events.items ++ all_ends left)) (sym whole)
          (subst (λ l. IsPermutation bag (l ++ all_ends c.args.notes.now)) (sym first) (IsPermutation-refl bag));
    }

pub loop-note-preserved : goal.loop-note-preserved
loop-note-preserved c =
    let left = c.loop-note.note-iterator.iter.rest.now in
    let left' = c.next.new.self.iter.rest.now in
    record {
      within = (last_within c.args.end left left' c.in-Some.note.now c.in-Some.ensures.steps c.loop-note.invariant.within).1;
      events = one_back (all_of c.args.programs.now c.args.notes.now) c.loop-note.events.items c.push_note.new.events.items left left'
          c.in-Some.note.now c.in-Some.ensures.steps c.in_ok-push_note.ensures c.loop-note.invariant.events;
    }

pub returns : goal.returns
returns c =
    let bag = all_of c.args.programs.now c.args.notes.now in
    let none : c.loop-note.note-iterator.iter.rest.now ≡ [] = nil_from_length c.loop-note.note-iterator.iter.rest.now c.in-None.ensures.steps.0 in
    subst (IsPermutation bag) (append-nil c.loop-note.events.items)
    (subst (λ (left : List Sounding). IsPermutation bag (c.loop-note.events.items ++ all_ends left)) none c.loop-note.invariant.events)
