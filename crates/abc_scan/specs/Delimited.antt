-- Tokens between delimiters. ABC 2.1 sections 4.12 (grace notes), 4.14 (decorations), 4.18 and 4.19 (quoted text).
use Rattle.std.specs.Prelude.{◌≡◌, ◌⊎◌, ℕ, ◌+◌, Option, None, List, [], ◌∷◌, ◌++◌, if◌then◌else◌, ◌==◌}
use Rattle.std.specs.Option.{option_map}
use Rattle.abc_text.specs.Cut.{HasNoByte}
use Rattle.abc_scan.specs.Byte.{quote, exclamation, opening_brace, closing_brace}
use Rattle.abc_scan.specs.KnownAbsent.{place_of}

-- The bytes that open and close quoted text `".."`, a decoration `!..!` and a grace group `{..}`.
abbrev pub AreDelimiters : ℕ → ℕ → Type 0
AreDelimiters opening closing =
    ((opening ≡ quote) × (closing ≡ quote))
    ⊎ (((opening ≡ exclamation) × (closing ≡ exclamation)) ⊎ ((opening ≡ opening_brace) × (closing ≡ closing_brace)))

-- An opening byte, bytes other than its closing byte, and the closing byte.
pub record IsDelimited (text : List ℕ) : Type 0 where
  pub opening : ℕ
  pub inside : List ℕ
  pub closing : ℕ
  pub spelling : text ≡ opening ∷ (inside ++ closing ∷ [])
  pub delimiters : AreDelimiters opening closing
  pub first_closing : HasNoByte closing inside

-- The size of a token that is opened by one byte and closed by the first such byte after it.
abbrev pub closed_by : ℕ → List ℕ → Option ℕ
closed_by closing rest = option_map (λ place. place + 2) (place_of closing rest)

-- The size in bytes of the token between delimiters at the front of a text.
unfoldable pub delimited_at : List ℕ → Option ℕ
delimited_at [] = None
delimited_at (b ∷ rest) =
    if b == quote then closed_by quote rest
    else (if b == exclamation then closed_by exclamation rest
    else (if b == opening_brace then closed_by closing_brace rest else None))
