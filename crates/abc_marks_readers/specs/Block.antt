-- The edges of text blocks. ABC 2.1 section 11.1 has `%%begintext` and `%%endtext`; other names are not in ABC 2.1.
use Rattle.std.specs.Prelude.{ℕ, Bool, true, not, ◌||◌, ◌==◌, if◌then◌else◌, List, [], ◌∷◌, codes, take, drop, Option, Some, None}
use Rattle.std.specs.Char.{is_ascii_alphabetic}
use Rattle.std.specs.List.{prefix_len}
use Rattle.abc_text.specs.Blank.{is_blank}
use Rattle.abc_text.specs.LineEnd.{without_return}
use Rattle.abc_text.specs.Word.{begins_with}

-- Nothing, or a blank first.
abbrev pub ends_or_blank : List ℕ → Bool
ends_or_blank [] = true
ends_or_blank (b ∷ bs) = is_blank b

-- The name of a text block at the front of a text: letters, up to its end or a blank.
abbrev pub block_name : List ℕ → Option (List ℕ)
block_name text =
    let letters = prefix_len is_ascii_alphabetic text in
    if (letters == 0) || not (ends_or_blank (drop letters text)) then None else Some (take letters text)

-- The name of the text block that a line begins.
unfoldable pub block_begun_by : List ℕ → Option (List ℕ)
block_begun_by line =
    let text = without_return line in
    if begins_with (codes "%%begin") text then block_name (drop 7 text) else None

-- The name of the text block that a line ends.
unfoldable pub block_ended_by : List ℕ → Option (List ℕ)
block_ended_by line =
    let text = without_return line in
    if begins_with (codes "%%end") text then block_name (drop 5 text) else None
