-- The tune that gives the file of a number, by the outputs of the tunes.
use Rattle.std.proofs.Common.{◌≡◌, ℕ, ◌+◌, ◌==◌, ◌&&◌, cond, List, [], ◌∷◌, drop, map, Option, Some, is_some, refl, ap, ◌∙◌}
use Rattle.std.specs.List.{AllZip}
use Rattle.abc_fold.specs.Chain.{ChainView}
use Rattle.abc_fold.specs.Steps.{Steps}
use Rattle.abc_lines.specs.Text.{Text}
use Rattle.abc_live_index.specs.Output.{output_in}
use Rattle.abc_live_index.specs.Owners.{owner_among, owner_by}
use Rattle.abc_live_index.specs.Tunes.{OutputAgrees}
use Rattle.abc_live_index.specs.declared.output.Output.{Output}
use Rattle.abc_live_session.specs.Owner.{owner_of}
use Rattle.abc_live_session.proofs.Parts.{outputs_agree, tune_chains}
use Rattle.abc_live_text.specs.Chains.{AreChains}
use Rattle.abc_tune_compiler.specs.Book.{blocks_in, compiled_text_of, opening_of, tunes_in}
use Rattle.abc_tune_compiler.specs.Rules.{Rules}
use Rattle.abc_tune_compiler.specs.Tune.{Tune}

owner_agrees : (at : ℕ) (outputs : List Output) (tunes : List Tune) (n : ℕ) → AllZip OutputAgrees outputs tunes
    → owner_by (λ (output : Output). output.number) (λ (output : Output). output.built.bytes) at outputs n
    ≡ owner_by (λ (tune : Tune). tune.number) (λ (tune : Tune). tune.bytes) at tunes n
owner_agrees at [] [] n all = refl
owner_agrees at [] (tune ∷ tunes) n all = absurd all
owner_agrees at (output ∷ outputs) [] n all = absurd all
owner_agrees at (output ∷ outputs) (tune ∷ tunes) n all =
    let rest : ℕ → Option ℕ = λ i. owner_by (λ (o : Output). o.number) (λ (o : Output). o.built.bytes) i outputs n in
    ap (λ k. cond ((k == n) && is_some output.built.bytes) (Some at) (rest (at + 1))) all.0.number
    ∙ ap (λ b. cond ((tune.number == n) && is_some b) (Some at) (rest (at + 1))) all.0.bytes
    ∙ ap (cond ((tune.number == n) && is_some tune.bytes) (Some at)) (owner_agrees (at + 1) outputs tunes n all.1)

module _ {State Cell Items Defaults : Type 0} (steps : Steps State Cell Items) (rules : Rules State Cell Items Defaults) (text : Text) where
  -- the owner of a number among the outputs of the chains of a text is its owner among the tunes
  pub owner_in_text : (chains : List (ChainView State Cell Items)) (outputs : List Output) (n : ℕ) → AreChains steps rules text chains
      → outputs ≡ map (output_in rules) (drop 1 chains)
      → owner_among outputs n ≡ owner_of (compiled_text_of steps.next steps.gives rules text (blocks_in rules text)).tunes n
  owner_in_text chains outputs n are own =
      let blocks = blocks_in rules text in
      ap (λ (o : List Output). owner_among o n) own
      ∙ owner_agrees 0 (map (output_in rules) (drop 1 chains)) (compiled_text_of steps.next steps.gives rules text blocks).tunes n
      (outputs_agree steps rules text (opening_of steps.next rules text blocks) (drop 1 chains) (tunes_in blocks) (tune_chains steps rules text chains are))
