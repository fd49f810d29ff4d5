-- The file header. ABC 2.1 section 2.2.2.
use Rattle.abc_bars_header.specs.Defaults.{directive_result, setting_result}
use Rattle.abc_bars_header.specs.FieldFault.{faults_of}
use Rattle.abc_bars_header.specs.FieldKind.{kind_of}
use Rattle.abc_bars_header.specs.HeaderLine.{HeaderLine, FieldLine, DirectiveLine}
use Rattle.abc_bars_header.specs.declared.defaults.Defaults.{Defaults}
use Rattle.abc_bars_header.specs.declared.defaults.SettingResult.{SettingResult}
use Rattle.abc_bars_header.specs.declared.file_header.FileHeaderResult.{FileHeaderResult}

-- The values after a line of a header, and its fault: M:, L:, Q: and directives set values.
abbrev pub line_result : Defaults → HeaderLine → SettingResult
line_result defaults (FieldLine field) = setting_result defaults (kind_of field.letter) field.value
line_result defaults (DirectiveLine directive) = directive_result defaults directive

-- The result of a line of the file header: M:, L:, Q: and directives set defaults for all tunes. That no other field
-- has an effect or a fault is not in ABC 2.1.
abbrev pub file_header_result : Defaults → HeaderLine → FileHeaderResult
file_header_result defaults line =
    let given = line_result defaults line in
    record { defaults = given.defaults; faults = faults_of given.fault }
