-- The toy is lawful, as a session requires. Not in ABC 2.1.
use Rattle.std.specs.Prelude.{◌≡◌, ◌↔◌, ◌⊎◌, ℕ, ◌==◌, IsTrue, List, [], refl}
use Rattle.std.proofs.Common.{inl, inr}
use Rattle.std.proofs.lemmas.Bool.{eqb-true, eq-eqb}
use Rattle.abc_live.specs.Lawful.{AreLawful}
use Rattle.abc_live.specs.Steps.{IsResumable, resumable_where_equal}
use Rattle.abc_live.specs.Class.{class_of}
use Rattle.abc_live.specs.declared.LineClass.{LineClass}
use Rattle.abc_live.specs.declared.LineClass.TheVariants.{Blank, Comment, Field, Directive, Music}
use Rattle.tests_live.specs.Toy.{cells_of, cells_of_class, next_byte, no_byte, toy_rules, toy_steps}

pub toy_resumable : IsResumable toy_steps
toy_resumable = resumable_where_equal toy_steps (λ a b alike. eqb-true a b alike) (λ a. eq-eqb a a refl)

-- The lines of a class have no cells exactly if they are blank or comments.
silent_class : (class : LineClass) (line : List ℕ) → (cells_of_class class line ≡ []) ↔ ((class ≡ Blank) ⊎ (class ≡ Comment))
silent_class Blank line = (λ none. inl refl, λ silent. refl)
silent_class Comment line = (λ none. inr refl, λ silent. refl)
silent_class (Field letter) line = (λ none. absurd cc, λ silent. elim silent [ inl blank ↦ absurd cc | inr comment ↦ absurd cc ])
silent_class Directive line = (λ none. absurd cc, λ silent. elim silent [ inl blank ↦ absurd cc | inr comment ↦ absurd cc ])
silent_class Music line = (λ none. absurd cc, λ silent. elim silent [ inl blank ↦ absurd cc | inr comment ↦ absurd cc ])

pub toy_without_cells : (line : List ℕ) → (cells_of line ≡ []) ↔ ((class_of line ≡ Blank) ⊎ (class_of line ≡ Comment))
toy_without_cells line = silent_class (class_of line) line

pub toy_lawful : AreLawful toy_steps toy_rules
toy_lawful = record {
  equal_defaults = λ a b alike. eqb-true a b alike;
  alike_openings = λ a b same. eq-eqb a b same;
  without_header = eq-eqb no_byte no_byte refl;
  without_cells = toy_without_cells;
}

pub toy_eq_is_sound : (a b : ℕ) → IsTrue (a == b) → a ≡ b
toy_eq_is_sound a b same = eqb-true a b same
