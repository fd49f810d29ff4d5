-- A text cut from left to right, each time the longest part that begins there: a line into its tokens, the
-- inside of a chord into its parts. ABC 2.1 section 4.
use Rattle.std.specs.Prelude.{◌≡◌, ℕ, zero, suc, ◌+◌, ◌-◌, ◌<◌, ◌≤◌, ◌⊎◌, Bool, Option, List, [], ◌∷◌, ◌++◌, length, unwrap_or}
use Rattle.std.specs.Option.{option_map}
use Rattle.abc_scan.specs.declared.spanned.Spanned.{Spanned}

-- The kind of a byte that begins no part, and the test for bar lines.
pub record Kinds (K : Type 0) : Type 0 where
  pub unmatched : ℕ → K
  pub is_bar : K → Bool

-- The grammar of parts. It may depend on whether a bar line is directly before the part.
pub record Grammar (K : Type 0) : Type 1 where
  pub kinds : Kinds K
  pub spells : Bool → List ℕ → K → Type 0

-- The part read at the front of a text, and its size in bytes.
pub record Reader (K : Type 0) : Type 0 where
  pub kinds : Kinds K
  pub reading : Bool → List ℕ → Option (K × ℕ)

-- The first byte of a text, as a byte that begins no part.
abbrev pub unmatched_at : {K : Type 0} → Kinds K → List ℕ → K
unmatched_at kinds [] = kinds.unmatched 0
unmatched_at kinds (b ∷ bs) = kinds.unmatched b

-- The longest front of a text that spells a part.
pub record IsLongest {K : Type 0} (spells : List ℕ → K → Type 0) (text front : List ℕ) (kind : K) : Type 0 where
  pub spelled : spells front kind
  pub longest : (other rest : List ℕ) (k : K) → text ≡ other ++ rest → spells other k → length other ≤ length front

-- No front of a text spells a part.
abbrev pub SpellsNone : {K : Type 0} → (List ℕ → K → Type 0) → List ℕ → Type 0
SpellsNone {K} spells text = (front rest : List ℕ) (kind : K) → text ≡ front ++ rest → spells front kind → ⊥

-- The next part of a text: the longest one, or one byte if no part begins there.
abbrev pub IsNext : {K : Type 0} → Kinds K → (List ℕ → K → Type 0) → List ℕ → List ℕ → K → Type 0
IsNext kinds spells text front kind =
    IsLongest spells text front kind ⊎ (SpellsNone spells text × (length front ≡ 1) × (kind ≡ unmatched_at kinds text))

-- The parts are the text cut up, which begins at this place.
abbrev pub IsCuttingFrom : {K : Type 0} → Grammar K → Bool → ℕ → List ℕ → List (Spanned K) → Type 0
IsCuttingFrom grammar after_bar at text [] = text ≡ []
IsCuttingFrom grammar after_bar at text (t ∷ ts) =
    (front : List ℕ) × (rest : List ℕ) × (text ≡ front ++ rest) × IsNext grammar.kinds (grammar.spells after_bar) text front t.kind
    × (t.from ≡ at) × (t.to ≡ at + length front) × IsCuttingFrom grammar (grammar.kinds.is_bar t.kind) t.to rest ts

-- A part of this kind with the value read.
abbrev pub as_kind : {V K : Type 0} → (V → K) → Option (V × ℕ) → Option (K × ℕ)
as_kind kind found = option_map (λ r. (kind r.0, r.1)) found

-- A part of this kind and size.
abbrev pub of_kind : {K : Type 0} → K → Option ℕ → Option (K × ℕ)
of_kind kind found = option_map (λ size. (kind, size)) found

-- The first part of a text, and its size in bytes: the part read there, else one byte.
abbrev pub next : {K : Type 0} → Reader K → Bool → List ℕ → K × ℕ
next reader after_bar text = unwrap_or (reader.reading after_bar text) (unmatched_at reader.kinds text, 1)

-- The part at the front of a text that begins at this place.
abbrev pub part_at : {K : Type 0} → ℕ → K × ℕ → Spanned K
part_at at first = record { kind = first.0; from = at; to = at + first.1 }

-- The parts of a text that begins at this place. Its first `inside` bytes belong to the part before.
abbrev pub cutting_from : {K : Type 0} → Reader K → Bool → ℕ → ℕ → List ℕ → List (Spanned K)
cutting_from reader after_bar at inside [] = []
cutting_from reader after_bar at zero (b ∷ bs) =
    part_at at (next reader after_bar (b ∷ bs))
    ∷ cutting_from reader (reader.kinds.is_bar (next reader after_bar (b ∷ bs)).0) (at + 1)
    ((next reader after_bar (b ∷ bs)).1 - 1) bs
cutting_from reader after_bar at (suc inside) (b ∷ bs) = cutting_from reader after_bar (at + 1) inside bs

-- A part has at least one byte, and they lie in a text of this length.
abbrev pub IsSpan : {K : Type 0} → ℕ → Spanned K → Type 0
IsSpan len t = (t.from < t.to) × (t.to ≤ len)

-- The parts lie end to end from the first place to the last.
abbrev pub JoinFromTo : {K : Type 0} → ℕ → List (Spanned K) → ℕ → Type 0
JoinFromTo at [] end = at ≡ end
JoinFromTo at (t ∷ ts) end = (t.from ≡ at) × JoinFromTo t.to ts end
