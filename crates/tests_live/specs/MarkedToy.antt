-- The toy language with states that count the cells before them; nothing reads the count. Not in ABC 2.1.
use Rattle.std.specs.Prelude.{ℕ, ◌+◌, ◌-◌, ◌^◌, Bool, ◌==◌, List, min, refl, unwrap_or}
use Rattle.std.proofs.Common.{sym, ap, ◌∙◌}
use Rattle.std.proofs.lemmas.Bool.{eqb-true, eq-eqb}
use Rattle.abc_live.specs.Lawful.{AreLawful}
use Rattle.abc_live.specs.Steps.{Steps, IsResumable}
use Rattle.abc_live.specs.Class.{class_of}
use Rattle.abc_live.specs.Rules.{Rules}
use Rattle.tests_live.specs.declared.marked_toy.Marked.{Marked}
use Rattle.tests_live.specs.declared.toy.Played.{Played}
use Rattle.tests_live.specs.Toy.{cells_of, next_byte, no_byte, played_line, number_of, title_of, faults_of, file_of}
use Rattle.tests_live.specs.Toy.{tune_faults_of}
use Rattle.tests_live.specs.ToyLaws.{toy_without_cells}

-- The state after a line.
abbrev pub marked_next : Marked → List ℕ → Marked
marked_next state line = record { byte = next_byte state.byte line; mark = min (state.mark + 1) (2 ^ 64 - 1) }

-- The result of a line does not depend on the mark.
abbrev pub marked_gives : Marked → List ℕ → Played
marked_gives state line = played_line state.byte line

-- States are equivalent if their bytes are equal, whatever their marks.
abbrev pub same_byte : Marked → Marked → Bool
same_byte a b = a.byte == b.byte

abbrev pub marked_steps : Steps Marked (List ℕ) Played
marked_steps = record { next = marked_next; gives = marked_gives; alike = same_byte }

-- The state in which a file header begins.
abbrev pub no_mark : Marked
no_mark = record { byte = no_byte; mark = 0 }

-- The definitions of the toy, with these states.
abbrev pub marked_rules : Rules Marked (List ℕ) Played ℕ
marked_rules = record {
  class = class_of;
  cells = cells_of;
  header = no_mark;
  tune = λ after. unwrap_or after no_mark;
  defaults = λ state. state.byte;
  number = number_of;
  title = title_of;
  faults = faults_of;
  bytes = file_of;
  build_faults = tune_faults_of;
}

pub marked_resumable : IsResumable marked_steps
marked_resumable = record {
  reflexive = λ a. eq-eqb a.byte a.byte refl;
  symmetric = λ a b ab. eq-eqb b.byte a.byte (sym (eqb-true a.byte b.byte ab));
  transitive = λ a b c ab bc. eq-eqb a.byte c.byte (eqb-true a.byte b.byte ab ∙ eqb-true b.byte c.byte bc);
  equal_items = λ a b line ab. ap (λ byte. played_line byte line) (eqb-true a.byte b.byte ab);
  alike_states = λ a b line ab. eq-eqb (next_byte a.byte line) (next_byte b.byte line)
      (ap (λ byte. next_byte byte line) (eqb-true a.byte b.byte ab));
}

pub marked_lawful : AreLawful marked_steps marked_rules
marked_lawful = record {
  equal_defaults = λ a b alike. eqb-true a.byte b.byte alike;
  alike_openings = λ a b same. eq-eqb a.byte b.byte same;
  without_header = eq-eqb no_byte no_byte refl;
  without_cells = toy_without_cells;
}
