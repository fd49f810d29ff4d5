-- One recursion over the lines gives the blocks.
use Rattle.std.proofs.Common.{◌≡◌, ℕ, ◌+◌, false, List, [], ◌∷◌, ◌++◌, filter, refl, sym, ap, ◌==◌, ⊎_elim, subst}
use Rattle.std.specs.List.{flat_map}
use Rattle.std.proofs.lemmas.Bool.{cases_Bool, eqb-true}
use Rattle.abc_scan.specs.declared.line_class.LineClass.{LineClass}
use Rattle.abc_scan.specs.declared.line_class.LineClass.TheVariants.{Blank, Comment, Field}
use Rattle.abc_book.specs.declared.block.Block.{Block}
use Rattle.abc_book.specs.declared.block.BlockKind.TheVariants.{FileHeader, Tune, Free}
use Rattle.abc_book.specs.declared.pass.OpenBlock.TheVariants.{Nothing, Inside, Ended}
use Rattle.abc_book.specs.Block.{Line, letter_x, number_lines, without_comments, first_piece, other_pieces, cut_at_blanks, cut_before_x, has_lines, pieces_of, end_after, later_blocks, blocks_of_runs}
use Rattle.abc_book.specs.Block.{blocks_of, opening_kind}
use Rattle.abc_book.specs.Pass.{one_line, blocks_from}
use Rattle.abc_book.specs.Laws.{OnePass}

-- the lines from this number on, cut at the blank ones; the current run first
pub runs_at : ℕ → List LineClass → List (List Line)
runs_at at classes = cut_at_blanks (without_comments (number_lines at classes))

-- the current run, cut before each X: line; the current piece first
pub pieces_at : ℕ → List LineClass → List (List Line)
pieces_at at classes = cut_before_x (first_piece (runs_at at classes))

-- the blocks of the runs after it
pub runs_blocks : List (List Line) → List Block
runs_blocks runs = flat_map (λ later. later_blocks (pieces_of later)) (filter has_lines runs)

-- the blocks after the current piece
pub after_at : ℕ → List LineClass → List Block
after_at at classes =
    later_blocks (filter has_lines (other_pieces (pieces_at at classes))) ++ runs_blocks (other_pieces (runs_at at classes))

-- the block so far with the current piece
pub grown : Block → ℕ → List LineClass → Block
grown block at classes = record block { to = end_after block.to (first_piece (pieces_at at classes)) }

pub record Passes (at : ℕ) (classes : List LineClass) : Type 0 where
  pub inside : (block : Block) → blocks_from (Inside block) at classes ≡ grown block at classes ∷ after_at at classes
  pub ended : blocks_from Ended at classes ≡ runs_blocks (runs_at at classes)
  pub nothing : blocks_from Nothing at classes ≡ blocks_of_runs (filter has_lines (runs_at at classes))

passes_x : (at letter : ℕ) (classes : List LineClass) → letter ≡ letter_x → Passes (at + 1) classes → Passes at (Field letter ∷ classes)
unfolding runs_at pieces_at runs_blocks after_at grown
passes_x at letter classes e later = subst (λ x. Passes at (Field x ∷ classes)) (sym e) (record {
  inside = λ block. ap (λ l. block ∷ l) (later.inside (one_line Tune at));
  ended = later.inside (one_line Tune at);
  nothing = later.inside (one_line Tune at);
})

passes_field : (at letter : ℕ) (classes : List LineClass) → (letter == letter_x) ≡ false → Passes (at + 1) classes → Passes at (Field letter ∷ classes)
unfolding runs_at pieces_at runs_blocks after_at grown
passes_field at letter classes e later = record {
  inside = λ block. simp e (later.inside (record block { to = at + 1 }));
  ended = simp e (later.inside (one_line Free at));
  nothing = simp e (later.inside (one_line FileHeader at));
}

pub passes : (at : ℕ) (classes : List LineClass) → Passes at classes
unfolding runs_at pieces_at runs_blocks after_at grown
passes at [] = record { inside = λ block. refl; ended = refl; nothing = refl }
passes at (Blank ∷ classes) =
    let later = passes (at + 1) classes in
    record { inside = λ block. ap (λ l. block ∷ l) later.ended; ended = later.ended; nothing = later.nothing }
passes at (Comment ∷ classes) =
    let later = passes (at + 1) classes in record { inside = later.inside; ended = later.ended; nothing = later.nothing }
passes at (Field letter ∷ classes) =
    let later = passes (at + 1) classes in
    ⊎_elim (λ e. passes_x at letter classes (eqb-true letter letter_x e) later) (λ e. passes_field at letter classes e later) (cases_Bool (letter == letter_x))
passes at (class ∷ classes) =
    let later = passes (at + 1) classes in
    record {
      inside = λ block. later.inside (record block { to = at + 1 });
      ended = later.inside (one_line Free at);
      nothing = later.inside (one_line (opening_kind class) at);
    }

pub one_pass : OnePass
unfolding blocks_of runs_at
one_pass classes = sym (passes 0 classes).nothing
