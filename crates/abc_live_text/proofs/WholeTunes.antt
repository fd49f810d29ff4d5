-- The chains of the tunes of a text, by its rows.
use Rattle.std.proofs.Common.{◌≡◌, ◌+◌, List, [], ◌∷◌, length, sym, arith}
use Rattle.std.proofs.lemmas.Slice.Zip.{AllZip-long}
use Rattle.abc_fold.specs.Chain.{ChainView}
use Rattle.abc_fold.specs.Steps.{Steps}
use Rattle.abc_lines.specs.Text.{Text}
use Rattle.abc_tune_compiler.specs.Book.{blocks_in, tunes_in}
use Rattle.abc_tune_compiler.specs.Rules.{Rules}
use Rattle.abc_live_text.specs.Chains.{AreChains}

pub chains_count : {State Cell Items Defaults : Type 0} (steps : Steps State Cell Items) (rules : Rules State Cell Items Defaults)
    (text : Text) (chains : List (ChainView State Cell Items)) → AreChains steps rules text chains → length chains ≡ length (tunes_in (blocks_in rules text)) + 1
chains_count steps rules text [] own = absurd own
chains_count steps rules text (chain ∷ chains) own =
    let count = sym (AllZip-long _ chains (tunes_in (blocks_in rules text)) own.1) in
    omega (arith, count)
