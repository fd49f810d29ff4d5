-- The bytes by which a tune is known. Not in ABC 2.1.
use Rattle.std.specs.Prelude.{ℕ, List, [], ◌∷◌, ◌++◌}
use Rattle.std.specs.List.{flat_map}
use Rattle.abc_lines.specs.Text.{Text}
use Rattle.abc_scan.specs.declared.line_class.LineClass.{LineClass}
use Rattle.abc_scan.specs.declared.line_class.LineClass.TheVariants.{Blank, Comment, Field, Directive, Music}
use Rattle.abc_text.specs.Byte.{line_feed}

-- What a line of this class adds: itself and a line feed, and nothing if it is a comment.
abbrev pub line_bytes : LineClass → List ℕ → List ℕ
line_bytes Comment line = []
line_bytes Blank line = line ++ line_feed ∷ []
line_bytes (Field letter) line = line ++ line_feed ∷ []
line_bytes Directive line = line ++ line_feed ∷ []
line_bytes Music line = line ++ line_feed ∷ []

-- The bytes by which lines are known, by what each is.
abbrev pub bytes_of_lines : (List ℕ → LineClass) → Text → List ℕ
bytes_of_lines class lines = flat_map (λ line. line_bytes (class line) line) lines
