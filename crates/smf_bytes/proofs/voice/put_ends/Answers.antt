use Rattle.std.proofs.Common.{[], ◌∷◌, ◌++◌, subst, sym, ◌∙◌}
use Rattle.std.specs.Prelude.{IsPermutation}
use Rattle.std.proofs.lemmas.List.Sorted.{IsPermutation-trans}
use Rattle.smf_bytes.proofs.Turned.{restored}
use Rattle.smf_bytes.proofs.voice.put_ends.Goals as goal

pub returns-then-not-is_last : goal.returns-then-not-is_last
returns-then-not-is_last c =
    let all = c.args.events.now.items ++ c.args.on ∷ c.args.off ∷ [] in
    let pushed = c.extend_from_slice.new.self.items in
    let first = c.move_back.new.events in
    let both = c.move_back-then-not-is_last.new.events in
    let once : IsPermutation pushed first = subst (λ l. IsPermutation l first) c.deref_mut.ensures.value c.move_back.ensures.permutation in
    let twice : IsPermutation first both =
    subst (λ l. IsPermutation l both)
    (c.deref_mut-then-not-is_last.ensures.value ∙ restored _ first _ (c.move_back.ensures.length ∙ c.deref_mut.ensures.len))
    c.move_back-then-not-is_last.ensures.permutation in
    subst (IsPermutation all)
    (sym (restored _ both _ (c.move_back-then-not-is_last.ensures.length ∙ c.deref_mut-then-not-is_last.ensures.len)))
    (subst (λ l. IsPermutation l both) c.in_ok-extend_from_slice.ensures.items (IsPermutation-trans pushed first both once twice))
