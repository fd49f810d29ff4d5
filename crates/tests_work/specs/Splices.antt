-- What the words of the command line ask for.
use Rattle.std.specs.Prelude.{ℕ, ◌<◌, ◌^◌, List, [], ◌∷◌, String, string_bytes}
use Rattle.std.specs.Global.{Global}
use Rattle.std.specs.Str.Parse.{IsNumeral, digits_value, without_leading_plus}
use Rattle.tests_work.specs.declared.splices.SpliceRun.{SpliceRun}

-- The value of the decimal digits of a word. A plus may come first.
abbrev pub value_of : List ℕ → ℕ
value_of word = digits_value 10 (without_leading_plus word)

-- A word is a decimal number below 2^32.
abbrev pub IsNumber : List ℕ → Type 0
IsNumber word = IsNumeral 10 (without_leading_plus word) × (value_of word < 2 ^ 32)

-- The words are three numbers.
abbrev pub AreNumbers : List (String Global) → Type 0
AreNumbers (lines ∷ count ∷ step ∷ []) =
    IsNumber (string_bytes lines) × IsNumber (string_bytes count) × IsNumber (string_bytes step)
AreNumbers _ = ⊥

-- The splices that the words LINES COUNT STEP ask for.
abbrev pub run_of : List (String Global) → SpliceRun
run_of (lines ∷ count ∷ step ∷ []) =
    record { lines = value_of (string_bytes lines); count = value_of (string_bytes count); step = value_of (string_bytes step) }
run_of _ = record { lines = 0; count = 0; step = 0 }
