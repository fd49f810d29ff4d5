-- The definitions of `abc_scan` for lines, tokens and cells.
pub use Rattle.abc_scan.specs.Accidental.{alteration}
pub use Rattle.abc_scan.specs.Blank.{AreBlanks}
pub use Rattle.abc_scan.specs.Cell.{cells_of}
pub use Rattle.abc_scan.specs.Letter.{capital}
pub use Rattle.abc_scan.specs.Line.{tokens_of}
pub use Rattle.abc_scan.specs.LineEnd.{DropsOneReturn, without_return}
pub use Rattle.abc_scan.specs.Work.{raised}
