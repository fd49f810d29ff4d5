use Rattle.std.proofs.Common.{◌≡◌, ◌++◌, List, ℕ, All, sym, ap, ◌∙◌, subst}
use Rattle.abc_repeat.specs.Play.{play_of, IsPlayed}
use Rattle.abc_repeat.proofs.Lying.{play_played}
use Rattle.abc_repeat.proofs.play.expand_within.Goals as goal

pub returns-clause-played : goal.returns-clause-played
returns-clause-played c =
    let ms = c.args.marks.now in
    let put : c.put_play.new.play.items ≡ play_of ms = c.in_ok-put_play.ensures ∙ ap (λ l. l ++ play_of ms) c.in_ok-play.ensures.items in
    subst (λ (l : List ℕ). All (IsPlayed ms) l) (sym put) (play_played ms)
