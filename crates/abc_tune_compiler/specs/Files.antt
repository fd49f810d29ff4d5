-- The MIDI files of a book by reference number, and how two books differ. Not in ABC 2.1.
use Rattle.std.specs.Prelude.{◌≡◌, ◌≢◌, ℕ, ◌==◌, ◌&&◌, not, if◌then◌else◌, List, [], ◌∷◌, filter, is_some, Option, Some, None}
use Rattle.std.specs.Prelude.{IsSome}
use Rattle.std.specs.BTreeMap.{insert_entry}
use Rattle.std.specs.Map.{keys_of, lookup}
use Rattle.std.specs.Option.{option_eq}
use Rattle.std.specs.Ordering.{nat_cmp}
use Rattle.std.specs.Str.{bytes_eq}
use Rattle.abc_tune_compiler.specs.Tune.{Tune}

-- The reference numbers that have a file, rising, each with the file's bytes.
abbrev pub Files : Type 0
Files = List (ℕ × List ℕ)

-- The file of a number, if it has one.
abbrev pub file_at : Files → ℕ → Option (List ℕ)
file_at files number = lookup (λ n. n == number) files

-- The file of a number among tunes: that of the first tune of the number that has one.
abbrev pub first_file : List Tune → ℕ → Option (List ℕ)
first_file [] number = None
first_file (tune ∷ tunes) number =
    if (tune.number == number) && is_some tune.bytes then tune.bytes else first_file tunes number

-- The files after a tune: a number keeps the file that it has.
abbrev pub with_file_of : Files → ℕ → Option (List ℕ) → Files
with_file_of files number None = files
with_file_of files number (Some bytes) = if is_some (file_at files number) then files else insert_entry nat_cmp files number bytes

-- These files, and then those of elements with numbers and files.
abbrev pub files_by : {A : Type 0} → (A → ℕ) → (A → Option (List ℕ)) → Files → List A → Files
files_by number_of file_of files [] = files
files_by number_of file_of files (one ∷ rest) = files_by number_of file_of (with_file_of files (number_of one) (file_of one)) rest

-- These files, and then those of tunes.
abbrev pub files_from : Files → List Tune → Files
files_from files tunes = files_by (λ tune. tune.number) (λ tune. tune.bytes) files tunes

-- The numbers, rising, that have a file afterwards, and had none or one with other bytes.
unfoldable pub written_numbers : Files → Files → List ℕ
written_numbers before after = filter (λ n. not (option_eq bytes_eq (file_at before n) (file_at after n))) (keys_of after)

-- The numbers, rising, that had a file and have none afterwards.
unfoldable pub removed_numbers : Files → Files → List ℕ
removed_numbers before after = filter (λ n. not (is_some (file_at after n))) (keys_of before)

-- A number has a file, and had none or one with other bytes.
abbrev pub HasNewFile : Files → Files → ℕ → Type 0
HasNewFile before after n = IsSome (file_at after n) × (file_at before n ≢ file_at after n)

-- A number had a file and has none.
abbrev pub HasLostFile : Files → Files → ℕ → Type 0
HasLostFile before after n = IsSome (file_at before n) × (file_at after n ≡ None)
