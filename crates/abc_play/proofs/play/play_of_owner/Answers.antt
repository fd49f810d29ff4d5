use Rattle.std.proofs.Common.{◌≡◌, ◌<◌, ◌≤◌, ℕ, List, Some, get_or, length, slice_get, sym, ap, ◌∙◌, arith}
use Rattle.std.proofs.lemmas.Option.{slice_get-get_or}
use Rattle.std.proofs.lemmas.Result.{IfErr-weaker, IfOk-weaker}
use Rattle.abc_book.specs.declared.block.Block.{Block}
use Rattle.abc_book.specs.declared.block.BlockKind.TheVariants.{FileHeader}
use Rattle.abc_lines.specs.LineBuffer.{LineBufferView}
use Rattle.abc_lines.specs.Text.{Text}
use Rattle.abc_repeat.specs.declared.play.TheConstants.{MOST_PLACES}
use Rattle.abc_tune.specs.Abc.{rules_of_abc}
use Rattle.abc_tune_compiler.specs.Book.{blocks_in, tunes_in}
use Rattle.abc_play.specs.Play.{block_play, block_size, play_of, play_size}
use Rattle.abc_play.specs.Refusal.{RefusesPlay, RefusesTune}
use Rattle.abc_play.proofs.Numbers.{no_tune, number_few, number_play, number_refused}
use Rattle.abc_play.proofs.Owned.{chain_at, chain_none, owner_short}
use Rattle.abc_play.proofs.play.play_of_owner.Goals as goal

-- the tune at an index, as the code reads it
abbrev read : List Block → ℕ → Block
read tunes i = get_or tunes i (record { kind = FileHeader; from = 0; to = 0 })

read_is : (text : Text) (tunes : List Block) (i : ℕ) → tunes ≡ tunes_in (blocks_in rules_of_abc text) → i < length tunes
    → slice_get (tunes_in (blocks_in rules_of_abc text)) i ≡ Some (read tunes i)
read_is text tunes i are inside = ap (λ l. slice_get l i) (sym are) ∙ slice_get-get_or tunes i _ inside

pub returns-then-tune-tunes-clause-refused : goal.returns-then-tune-tunes-clause-refused
returns-then-tune-tunes-clause-refused c =
    let text = c.args.text.now.lines.text in
    let are = ap length (c.tunes-tunes.ensures ∙ c.lines.ensures.parts.tunes_are) in
    let over : length (tunes_in (blocks_in rules_of_abc text)) ≤ c.args.tune = omega (arith, are, c.if-tune-tunes.true) in
    no_tune text c.args.number c.args.tune c.requires over

pub returns-in-None-clause-refused : goal.returns-in-None-clause-refused
returns-in-None-clause-refused c =
    let text = c.args.text.now.lines.text in
    let are = ap length (c.tunes-tunes.ensures ∙ c.lines.ensures.parts.tunes_are) in
    let inside : c.args.tune < length (tunes_in (blocks_in rules_of_abc text)) = omega (arith, are, c.if-tune-tunes.false) in
    absurd (chain_none text c.args.text.now.chains.items c.args.tune c.lines.ensures.parts.chains_are (sym c.in-None.ensures) inside)

pub play_of_block-requires-clause-rows : goal.play_of_block-requires-clause-rows
play_of_block-requires-clause-rows c = c.lines.ensures.parts.read

pub play_of_block-requires-clause-few : goal.play_of_block-requires-clause-few
play_of_block-requires-clause-few c = omega (arith, c.len.ensures.limits.count, ap (λ (lines : LineBufferView). length lines.text) c.lines.ensures.lines)

pub play_of_block-requires-clause-chain : goal.play_of_block-requires-clause-chain
play_of_block-requires-clause-chain c =
    let text = c.args.text.now.lines.text in
    let tunes = c.tunes-tunes.result.now in
    let own = read_is text tunes c.args.tune (c.tunes-tunes.ensures ∙ c.lines.ensures.parts.tunes_are) c.if-tune-tunes.false in
    chain_at text c.args.text.now.chains.items c.args.tune c.get.result.now (read tunes c.args.tune) c.lines.ensures.parts.chains_are (sym c.in-Some.ensures ∙ ap Some (sym c.get.ensures)) own

pub play_of_block-requires-clause-short : goal.play_of_block-requires-clause-short
play_of_block-requires-clause-short c =
    let text = c.args.text.now.lines.text in
    let tunes = c.tunes-tunes.result.now in
    let own = read_is text tunes c.args.tune (c.tunes-tunes.ensures ∙ c.lines.ensures.parts.tunes_are) c.if-tune-tunes.false in
    let is = chain_at text c.args.text.now.chains.items c.args.tune c.get.result.now (read tunes c.args.tune) c.lines.ensures.parts.chains_are
    (sym c.in-Some.ensures ∙ ap Some (sym c.get.ensures)) own in
    owner_short text c.args.number c.args.tune c.get.result.now (read tunes c.args.tune) c.requires own is

pub returns-in-Some-clause-value : goal.returns-in-Some-clause-value
returns-in-Some-clause-value c =
    let text = c.args.text.now.lines.text in
    let tunes = c.tunes-tunes.result.now in
    let block = read tunes c.args.tune in
    let own = read_is text tunes c.args.tune (c.tunes-tunes.ensures ∙ c.lines.ensures.parts.tunes_are) c.if-tune-tunes.false in
    IfOk-weaker c.play_of_block.result (λ play. play.tracks ≡ block_play text block) (λ play. play_of text c.args.number ≡ Some play.tracks)
    (λ play is. number_play text c.args.number c.args.tune block c.requires own play.tracks is) c.play_of_block.ensures.value

pub returns-in-Some-clause-few : goal.returns-in-Some-clause-few
returns-in-Some-clause-few c =
    let text = c.args.text.now.lines.text in
    let tunes = c.tunes-tunes.result.now in
    let block = read tunes c.args.tune in
    let own = read_is text tunes c.args.tune (c.tunes-tunes.ensures ∙ c.lines.ensures.parts.tunes_are) c.if-tune-tunes.false in
    IfOk-weaker c.play_of_block.result (λ _. block_size text block ≤ MOST_PLACES) (λ _. play_size text c.args.number ≤ MOST_PLACES)
    (λ _ few. number_few text c.args.number c.args.tune block c.requires own few) c.play_of_block.ensures.few

pub returns-in-Some-clause-refused : goal.returns-in-Some-clause-refused
returns-in-Some-clause-refused c =
    let text = c.args.text.now.lines.text in
    let tunes = c.tunes-tunes.result.now in
    let block = read tunes c.args.tune in
    let own = read_is text tunes c.args.tune (c.tunes-tunes.ensures ∙ c.lines.ensures.parts.tunes_are) c.if-tune-tunes.false in
    IfErr-weaker c.play_of_block.result (RefusesTune (block_size text block)) (RefusesPlay text c.args.number)
    (λ e why. number_refused text c.args.number c.args.tune block c.requires own e why) c.play_of_block.ensures.refused
