-- Laws of the output of a run.
use Rattle.std.proofs.Common.{◌≡◌, ℕ, Bool, true, false, List, [], ◌++◌, Option, Some, None, refl, sym, ap, ◌∙◌, append_assoc}
use Rattle.std.proofs.Common.{append-nil, if◌then◌else◌}
use Rattle.abc_publish.specs.Publisher.{Directory}
use Rattle.abc2midi_live.specs.Machine.{Future, future_change, Answers}
use Rattle.abc2midi_live.specs.Storing.{StoreAnswer}
use Rattle.abc2midi_live.specs.RunOutput.{Extent, RunOutput, run_output, with_text_before, nothing_more}

-- nothing before what is written
pub no_text_before : (rest : Option RunOutput) → with_text_before [] rest ≡ rest
no_text_before None = refl
no_text_before (Some t) = refl

-- a text before another one
pub two_texts_before : (first second : List ℕ) (rest : Option RunOutput) → with_text_before (first ++ second) rest ≡ with_text_before first (with_text_before second rest)
two_texts_before first second None = refl
two_texts_before first second (Some t) = ap (λ text. Some (run_output text t.directory)) (append_assoc first second t.text)

-- a text, and nothing more
pub text_before_end : (text : List ℕ) (d : Directory) → with_text_before text (nothing_more d []) ≡ Some (run_output text d)
text_before_end text d = ap (λ t. Some (run_output t d)) (append-nil text)

-- Two steps make one.
pub answers_both : {X : Type 0} (before mid after : Future X) (d e : Directory) (a b : List X) (first second : List StoreAnswer) (text text' : List ℕ) (goes_on : Bool)
    → Answers (future_change before mid d) a first text true → Answers (future_change mid after e) b second text' goes_on
    → Answers (future_change before after e) (a ++ b) (first ++ second) (text ++ text') goes_on
answers_both before mid after d e a b first second text text' goes_on one two extent rest later =
    ap (λ l. before extent l ((first ++ second) ++ later)) (append_assoc a b rest)
    ∙ ap (before extent (a ++ (b ++ rest))) (append_assoc first second later)
    ∙ one extent (b ++ rest) (second ++ later)
    ∙ ap (with_text_before text) (two extent rest later)
    ∙ sym (two_texts_before text text' (if goes_on then after extent rest later else nothing_more e later))

-- Nothing comes, and the store is not called.
pub answers_none : {X : Type 0} (before after : Future X) (d : Directory) → after ≡ before → Answers (future_change before after d) [] [] [] true
answers_none before after d same extent rest later = ap (λ f. f extent rest later) (sym same) ∙ sym (no_text_before (after extent rest later))

-- what is answered to all of a piece, if the machine ends with it
pub ended_with : {X : Type 0} (before after : Future X) (d : Directory) (piece : List X) (stored : List StoreAnswer) (text : List ℕ) (extent : Extent) (rest : List X)
    → Answers (future_change before after d) piece stored text false → before extent (piece ++ rest) stored ≡ Some (run_output text d)
ended_with before after d piece stored text extent rest h =
    ap (before extent (piece ++ rest)) (sym (append-nil stored)) ∙ h extent rest [] ∙ text_before_end text d

-- what is answered to a piece and to what comes after it
pub continued_with : {X : Type 0} (before after : Future X) (d : Directory) (piece : List X) (first second : List StoreAnswer) (text : List ℕ) (t : RunOutput) (extent : Extent) (rest : List X)
    → Answers (future_change before after d) piece first text true → after extent rest second ≡ Some t
    → before extent (piece ++ rest) (first ++ second) ≡ Some (run_output (text ++ t.text) t.directory)
continued_with before after d piece first second text t extent rest h e = h extent rest second ∙ ap (with_text_before text) e
