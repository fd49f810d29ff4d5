-- The lines of a header.
use Rattle.abc_scan.specs.declared.directive.Directive.{Directive}
use Rattle.abc_scan.specs.declared.field.Field.{Field}

-- A line of a file header or of a tune's header: a field or a directive. ABC 2.1 sections 3 and 11.
pub data HeaderLine : Type 0 where
  FieldLine : Field → HeaderLine
  DirectiveLine : Directive → HeaderLine
