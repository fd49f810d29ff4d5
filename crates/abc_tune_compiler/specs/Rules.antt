-- The definitions of any compiler over ABC's lines. Not in ABC 2.1.
use Rattle.std.specs.Prelude.{ℕ, List, Option}
use Rattle.abc_fields.specs.declared.fault_code.FaultCode.{FaultCode}
use Rattle.abc_scan.specs.declared.line_class.LineClass.{LineClass}

-- The definitions of a compiler, but for the steps of its fold.
pub record Rules (State Cell Items Defaults : Type 0) : Type 0 where
  -- the class of a line, by its own bytes
  pub class : List ℕ → LineClass
  -- the cells of a line
  pub cells : List ℕ → List Cell
  -- the state in which a file header begins
  pub header : State
  -- the state in which a tune begins, by the state after the file header, if there is one
  pub tune : Option State → State
  -- what a file header sets for all tunes
  pub defaults : State → Defaults
  -- the reference number and the title that a cell gives, if it gives one
  pub number : Items → Option ℕ
  pub title : Items → Option (List ℕ)
  -- the faults of a cell: their columns, counted from 1, and their codes
  pub faults : Items → List (ℕ × FaultCode)
  -- the bytes of a tune's file, from what all its cells give; a tune may have none
  pub bytes : List Items → Option (List ℕ)
  -- the faults of a tune as a whole
  pub build_faults : List Items → List FaultCode
