use Rattle.std.proofs.Common.{◌<◌, [], ◌∷◌, ◌++◌, length, map, take, subst, sym, ap, ◌∙◌}
use Rattle.std.proofs.lemmas.Cmp.{nat_list_eq_equiv}
use Rattle.abc_bars_body.specs.BodyOpening.{opening_voice_state, opening_voice}
use Rattle.abc_bars_header.specs.Voices.{place_of}
use Rattle.abc_bars_header.proofs.NamePlaces.{inside_some, new_before, one_more_made}
use Rattle.abc_bars_body.proofs.body_opening.opening_voices.Goals as goal
use Rattle.abc_bars_body.proofs.body_opening.opening_voices.Goals.{in-Some+in_ok-clone+in_ok-push, in_default}

-- The voice's own name is new among the voices before it.
pub push-requires : goal.push-requires
push-requires c =
    let header = c.args.header.now in
    let so_far = map (opening_voice header c.args.key.now) (take c.loop-at.at header.voices) in
    let made = new_before nat_list_eq_equiv (λ v. opening_voice_state header.defaults c.args.key.now v.1) header.voices c.loop-at.at
    (c.in-Some.name.now, c.in-Some.said.now) c.in-Some.ensures.distinct (sym c.in-Some.ensures.value) in
    ap (λ voices. place_of c.in_ok-clone.field-0 voices) c.loop-at.invariant
    ∙ ap (λ name. place_of name so_far) c.in_ok-clone.ensures.cases ∙ made

-- The voice at a place is put after those before it.
pub loop-at-preserved : goal.loop-at-preserved
loop-at-preserved c =
    let header = c.args.header.now in
    let so_far = map (opening_voice header c.args.key.now) (take c.loop-at.at header.voices) in
    elim c.match-entry.branch [
      | in-Some+in_ok-clone+in_ok-push w ↦ (
          let made = one_more_made (opening_voice header c.args.key.now) header.voices c.loop-at.at
          (w.in-Some.name.now, w.in-Some.said.now) (sym w.in-Some.ensures.value) in
          let cloned = w.in_ok-clone.ensures.cases in
          w.voices-is ∙ w.in_ok-push.ensures.ok
          ∙ ap (λ voices. voices ++ (w.in_ok-clone.field-0, w.opening_voice_state-state.result) ∷ []) c.loop-at.invariant
          ∙ ap (λ name. so_far ++ (name, w.opening_voice_state-state.result) ∷ []) cloned
          ∙ ap (λ state. so_far ++ (w.in-Some.name.now, state) ∷ []) w.opening_voice_state-state.ensures ∙ sym made)
      | in_default w ↦ (
          let inside : c.loop-at.at < length header.voices = subst (λ n. c.loop-at.at < n) c.len-at-end.ensures c.loop-at-test.true in
          absurd (inside_some header.voices c.loop-at.at inside w.in_default.ensures.value))
    ]
