use Rattle.std.proofs.Common.{◌≡◌, ℕ, ◌≤◌, List, [], ◌∷◌, ◌++◌, arith, subst, sym, ap, ◌∙◌}
use Rattle.std.specs.Prelude.{All, OnOk}
use Rattle.std.proofs.lemmas.List.Elements.{All-drop, All-nil, All-take}
use Rattle.abc_time.specs.Grains.{tick_at}
use Rattle.abc_voices_score.specs.Limits.{IsProgramWithin, IsSoundingWithin}
use Rattle.abc_voices_score.specs.declared.score.ProgramChange.{ProgramChange}
use Rattle.abc_voices_score.specs.declared.score.Sounding.{Sounding}
use Rattle.smf_bytes.specs.Event.{end_event}
use Rattle.smf_bytes.specs.Groups.{AreInTurn}
use Rattle.smf_bytes.specs.Order.{in_order}
use Rattle.smf_bytes.specs.Track.{Follows, timed_events, track_body, voice_events}
use Rattle.smf_bytes.proofs.Grouped.{all_follow, cut, none_left, some_left, turn_take, written_on}
use Rattle.smf_bytes.proofs.Timed.{closed, follows_back, follows_front, follows_start}
use Rattle.smf_bytes.proofs.voice_track.put_in_turn.Goals as goal

pub loop-left-init : goal.loop-left-init
unfolding track_body
loop-left-init c =
    let music = c.args.music in
    record {
      notes = c.requires.within.notes;
      turn = c.requires.turn;
      follows = all_follow c.args.music.end music.channel [] music.notes.now (All-nil (IsProgramWithin c.args.music.end)) c.requires.within.notes.each;
      written = ap (λ (programs : List ProgramChange). c.args.out.now ++ track_body (tick_at c.args.music.end.0) (voice_events music.channel programs music.notes.now)) (sym c.requires.programs);
    }

pub first_group-start-requires-clause-some : goal.first_group-start-requires-clause-some
first_group-start-requires-clause-some c = some_left c.loop-left.left.now (sym c.is_empty.ensures ∙ c.loop-left-test.true)

pub put_group-requires-clause-notes : goal.put_group-requires-clause-notes
put_group-requires-clause-notes c =
    let left = c.loop-left.left.now in
    let P = IsSoundingWithin c.args.music.end in
    let count = c.loop-left.invariant.notes.count in
    record {
      count = omega (arith, count, c.split_at.ensures.back_len);
      each = subst (All P) (sym c.split_at.ensures.back) (All-drop P c.first_group-start.result.0 left c.loop-left.invariant.notes.each);
    }

pub put_group-requires-clause-in_time : goal.put_group-requires-clause-in_time
put_group-requires-clause-in_time c =
    let end = tick_at c.args.music.end.0 in
    let own = λ (notes : List Sounding). in_order (voice_events c.args.music.channel [] notes) in
    let e =
    cut c.args.music.channel c.first_group-start.result.1.0 c.first_group-start.result.0 c.args.music.end c.loop-left.left.now c.split_at.result.0.now c.split_at.result.1.now
    c.split_at.ensures.front c.split_at.ensures.back c.loop-left.invariant.notes.each c.first_group-start.ensures.ends c.first_group-start.ensures.begins in
    follows_front end c.loop-left.before (own c.split_at.result.1.now) (own c.split_at.result.0.now)
    (subst (Follows end c.loop-left.before) e c.loop-left.invariant.follows)

pub loop-left-preserved : goal.loop-left-preserved
loop-left-preserved c =
    let end = tick_at c.args.music.end.0 in
    let left = c.loop-left.left.now in
    let later = c.split_at.result.0.now in
    let group = c.split_at.result.1.now in
    let before = c.loop-left.before in
    let P = IsSoundingWithin c.args.music.end in
    let own = λ (notes : List Sounding). in_order (voice_events c.args.music.channel [] notes) in
    let e =
    cut c.args.music.channel c.first_group-start.result.1.0 c.first_group-start.result.0 c.args.music.end left later group
    c.split_at.ensures.front c.split_at.ensures.back c.loop-left.invariant.notes.each c.first_group-start.ensures.ends c.first_group-start.ensures.begins in
    let count = c.loop-left.invariant.notes.count in
    let last = c.in_ok-before.ensures.last in
    record {
      notes = record {
        count = omega (arith, count, c.first_group-start.ensures.inside, c.split_at.ensures.front_len);
        each = subst (All P) (sym c.split_at.ensures.front) (All-take P c.first_group-start.result.0 left c.loop-left.invariant.notes.each);
      };
      turn = subst AreInTurn (sym c.split_at.ensures.front) (turn_take c.first_group-start.result.0 left c.loop-left.invariant.turn);
      follows = subst (λ (n : ℕ). Follows end n (own later)) (sym last) (follows_back end before (own group) (own later) (subst (Follows end before) e c.loop-left.invariant.follows));
      written = written_on c.loop-left.out c.put_group.new.out _ before _ (own left) (own group) (own later) (end_event end ∷ []) e c.in_ok-before.ensures.bytes last
          c.loop-left.invariant.written;
    }

pub overflow_sub-delta : goal.overflow_sub-delta
overflow_sub-delta c =
    let within : c.loop-left.before ≤ tick_at c.args.music.end.0 =
    follows_start (tick_at c.args.music.end.0) c.loop-left.before (in_order (voice_events c.args.music.channel [] c.loop-left.left.now)) c.loop-left.invariant.follows in
    omega (arith, within, c.tick_of.ensures.value)

pub returns : goal.returns
returns c =
    let end = tick_at c.args.music.end.0 in
    let body = c.loop-left.out in
    let before = c.loop-left.before in
    let done : c.loop-left.left.now ≡ [] = none_left c.loop-left.left.now (sym c.is_empty.ensures ∙ c.loop-left-test.false) in
    let shut =
    closed body _ before c.tick_of.result end c.tick_of.ensures.value
    (ap (λ (l : List Sounding). body ++ timed_events before (in_order (voice_events c.args.music.channel [] l) ++ end_event end ∷ [])) (sym done) ∙ c.loop-left.invariant.written) in
    subst (λ l. OnOk c.put_end.result (c.put_end.new.self ≡ l)) shut c.put_end.ensures
