-- The book of a text: its files, its titles and its faults, by the compiler of ABC. Not in ABC 2.1.
use Rattle.std.specs.Prelude.{List}
use Rattle.abc_lines.specs.Text.{Text}
use Rattle.abc_tune.specs.Abc.{rules_of_abc, steps_of_abc}
use Rattle.abc_tune_compiler.specs.Book.{Book, book_of}
use Rattle.abc_tune_compiler.specs.Files.{Files}
use Rattle.abc_tune_compiler.specs.declared.fault.Fault.{Fault}
use Rattle.abc_tune_compiler.specs.declared.title.Title.{Title}

-- The book of a text: its files, titles and faults, as the rules of ABC give them.
abbrev pub abc_book : Text → Book
abc_book text = book_of steps_of_abc rules_of_abc text

-- The reference numbers that have a file, rising, each with the file's bytes.
unfoldable pub files_of : Text → Files
files_of text = (abc_book text).files

-- The titles, tune by tune.
unfoldable pub titles_of : Text → List Title
titles_of text = (abc_book text).titles

-- The faults, in order, each once.
unfoldable pub faults_of : Text → List Fault
faults_of text = (abc_book text).faults
