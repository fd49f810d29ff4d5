use Rattle.std.proofs.Common.{rules, ◌≡◌, ◌<◌, Some, length, map, option_copied, slice_get, ap, ◌∙◌, sym}
use Rattle.abc_lines.specs.Text.{seen_lines}
use Rattle.std.proofs.lemmas.List.{length-map}
use Rattle.std.specs.Borrow.{Bor}
use Rattle.std.specs.Prelude.{ℕ, List}
use Rattle.abc_live_index.specs.Output.{output_in}
use Rattle.abc_live_index.proofs.BuildCounts.{built_none, built_perhaps}
use Rattle.abc_live_index.proofs.Keys.{as_many, items_of_tune, lies_there, value_there}
use Rattle.abc_live_index.proofs.OutputLists.{ok_more}
use Rattle.abc_live_index.proofs.outputs.output_at.Goals as goal

pub bounds-stretch-place : goal.bounds-stretch-place
bounds-stretch-place g c =
    as_many (g.C.Fold.steps c.args.compiler.now) (g.C.Compiler.rules c.args.compiler.now)
    (g.met.C.Fold.resumable c.args.compiler.now) (g.met.C.Compiler.lawful c.args.compiler.now)
    (option_copied c.args.stretch.now.header_state) c.args.stretch.now.before (seen_lines c.args.stretch.now.lines.now)
    c.args.stretch.now.chains.now c.args.stretch.now.places.now c.requires.tunes c.args.place c.requires.place

pub offset_bounds-stretch-place : goal.offset_bounds-stretch-place
offset_bounds-stretch-place g c =
    let inside : c.args.place < length c.args.stretch.now.places.now =
    as_many (g.C.Fold.steps c.args.compiler.now) (g.C.Compiler.rules c.args.compiler.now)
    (g.met.C.Fold.resumable c.args.compiler.now) (g.met.C.Compiler.lawful c.args.compiler.now)
    (option_copied c.args.stretch.now.header_state) c.args.stretch.now.before (seen_lines c.args.stretch.now.lines.now)
    c.args.stretch.now.chains.now c.args.stretch.now.places.now c.requires.tunes c.args.place c.requires.place in
    search rules

pub key_of-requires : goal.key_of-requires
key_of-requires g c =
    rw (← length-map c.args.stretch.now.lines.now (λ (line : Bor (List ℕ)). line.now))
    (lies_there (g.C.Fold.steps c.args.compiler.now) (g.C.Compiler.rules c.args.compiler.now)
    (g.met.C.Fold.resumable c.args.compiler.now) (g.met.C.Compiler.lawful c.args.compiler.now)
    (option_copied c.args.stretch.now.header_state) c.args.stretch.now.before (seen_lines c.args.stretch.now.lines.now)
    c.args.stretch.now.chains.now c.args.stretch.now.places.now c.requires.tunes c.args.place _ c.requires.place)

pub returns-in_err-key-clause-counted : goal.returns-in_err-key-clause-counted
returns-in_err-key-clause-counted g c = built_none _ _

pub returns-in_err-items-clause-counted : goal.returns-in_err-items-clause-counted
returns-in_err-items-clause-counted g c = built_none _ _

pub built-requires-clause-of_key : goal.built-requires-clause-of_key
built-requires-clause-of_key g c =
    items_of_tune (g.C.Fold.steps c.args.compiler.now) (g.C.Compiler.rules c.args.compiler.now)
    (g.met.C.Fold.resumable c.args.compiler.now) (g.met.C.Compiler.lawful c.args.compiler.now)
    (option_copied c.args.stretch.now.header_state) c.args.stretch.now.before (seen_lines c.args.stretch.now.lines.now)
    c.args.stretch.now.chains.now c.args.stretch.now.places.now c.requires.tunes c.args.place _ c.chain_at-chain.result.now
    c.in_ok-key.key c.deref.result.now c.requires.limits c.requires.place c.chain_at-chain.ensures c.in_ok-key.ensures
    (c.deref.ensures.value ∙ c.in_ok-items.ensures)

pub returns-in_err-built-clause-counted : goal.returns-in_err-built-clause-counted
returns-in_err-built-clause-counted g c = built_perhaps _ _ _ c.built.ensures.counted

pub returns-clause-value : goal.returns-clause-value
returns-clause-value g c =
    let rules = g.C.Compiler.rules c.args.compiler.now in
    let own = c.deref-2.ensures.value ∙ c.in_ok-items.ensures in
    let there = value_there rules c.args.stretch.now.chains.now c.args.place c.chain_at-chain.result.now c.deref-2.result.now c.in_ok-of.field-0 c.chain_at-chain.ensures own c.in_ok-of.ensures in
    ok_more c.new.result (λ output. output ≡ c.in_ok-of.field-0)
    (λ output. slice_get (map (output_in rules) c.args.stretch.now.chains.now) c.args.place ≡ Some output) (λ output is. there ∙ ap Some (sym is)) c.new.ensures

pub returns-in_err-of-clause-counted : goal.returns-in_err-of-clause-counted
returns-in_err-of-clause-counted g c = built_perhaps _ _ _ c.built.ensures.counted

pub returns-clause-counted : goal.returns-clause-counted
returns-clause-counted g c = built_perhaps _ _ _ c.built.ensures.counted
