use Rattle.std.proofs.Common.{sym, ◌∙◌}
use Rattle.abc_tune_memo.proofs.Remembering.{after_asking, after_keeping, found_values, kept_after}
use Rattle.abc_tune_memo.proofs.memo.TuneMemo.built.Goals as goal

pub returns-in_err-known-clause-remembers : goal.returns-in_err-known-clause-remembers
returns-in_err-known-clause-remembers g c = after_asking _ _ _ _ _ c.recall.ensures.entries c.requires.remembers

pub returns-in-Some-clause-remembers : goal.returns-in-Some-clause-remembers
returns-in-Some-clause-remembers g c = after_asking _ _ _ _ _ c.recall.ensures.entries c.requires.remembers

pub returns-in_err-built-clause-remembers : goal.returns-in_err-built-clause-remembers
returns-in_err-built-clause-remembers g c = after_asking _ _ _ _ _ c.recall.ensures.entries c.requires.remembers

pub returns-in-Some-clause-bytes : goal.returns-in-Some-clause-bytes
returns-in-Some-clause-bytes g c = (found_values _ _ (g.met.C.Fold.resumable c.args.compiler.now) (g.met.C.Compiler.lawful c.args.compiler.now) _ g.met.C.Compiler.eq_is_sound
    _ c.requires.remembers _ _ _ c.requires.of_key (sym c.in_ok-known.ensures.value ∙ c.in-Some.is)).0

pub returns-in-Some-clause-faults : goal.returns-in-Some-clause-faults
returns-in-Some-clause-faults g c = (found_values _ _ (g.met.C.Fold.resumable c.args.compiler.now) (g.met.C.Compiler.lawful c.args.compiler.now) _ g.met.C.Compiler.eq_is_sound
    _ c.requires.remembers _ _ _ c.requires.of_key (sym c.in_ok-known.ensures.value ∙ c.in-Some.is)).1

pub returns-clause-remembers : goal.returns-clause-remembers
returns-clause-remembers g c =
    let steps = g.C.Fold.steps c.args.compiler.now in
    let asked = after_asking steps (g.C.Compiler.rules c.args.compiler.now) _ _ _ c.recall.ensures.entries c.requires.remembers in
    after_keeping steps (g.C.Compiler.rules c.args.compiler.now) (g.met.C.Fold.resumable c.args.compiler.now) (g.met.C.Compiler.lawful c.args.compiler.now)
    g.C.Defaults.PartialEq.eq g.met.C.Compiler.eq_is_sound c.recall.new.self asked c.args.key c.remember.new.self c.in_ok-built.built
    (record {
      items = c.args.items.now;
      of_key = c.requires.of_key;
      bytes = c.in_ok-built.ensures.bytes;
      faults = c.in_ok-built.ensures.faults;
    })
    c.remember.ensures

pub returns-clause-entries : goal.returns-clause-entries
returns-clause-entries g c =
    kept_after g.C.Defaults.PartialEq.eq c.args.key c.in_ok-known.field-0 c.in_ok-built.built c.args.self.now c.recall.new.self c.remember.new.self
    c.in_ok-known.ensures.value c.in_default.not-Some c.recall.ensures.entries
    c.remember.ensures
