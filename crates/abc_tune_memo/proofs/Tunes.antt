-- Lines that have the same bytes, but for comments, have the same cells.
use Rattle.std.proofs.Common.{◌≡◌, ℕ, Bool, true, false, ◌&&◌, List, [], ◌∷◌, ◌++◌, length, Option, Some, None, refl, sym, ap, ◌∙◌, append_assoc}
use Rattle.std.specs.Prelude.{◌==◌, ◌||◌, not, nat_le}
use Rattle.std.specs.List.{list_all, list_any, flat_map}
use Rattle.std.proofs.lemmas.Bool.{and_parts, false≢true}
use Rattle.std.proofs.lemmas.List.Sums.{AllPass-from_list_all}
use Rattle.abc_lines.specs.Text.{Text, is_line}
use Rattle.abc_lines.specs.declared.limits.TheConstants.{LONGEST_LINE}
use Rattle.abc_scan.specs.declared.line_class.LineClass.{LineClass}
use Rattle.abc_scan.specs.declared.line_class.LineClass.TheVariants.{Blank, Comment, Field, Directive, Music}
use Rattle.abc_text.specs.Byte.{line_feed}
use Rattle.abc_text.specs.Cut.{HasNoByte, cut_at}
use Rattle.abc_text.proofs.Cuts.{cut_at-found}
use Rattle.abc_tune_memo.specs.Bytes.{line_bytes, bytes_of_lines}

-- Lines, each followed by a line feed.
abbrev joined : Text → List ℕ
joined [] = []
joined (line ∷ lines) = line ++ line_feed ∷ joined lines

abbrev first_of : {A B : Type 0} → A × B → Option (A × B) → A × B
first_of other None = other
first_of other (Some pair) = pair

some_pair : {A B : Type 0} (p q : A × B) → Some p ≡ Some q → p ≡ q
some_pair p q is = ap (first_of p) is

no_front : (line rest : List ℕ) → [] ≡ line ++ line_feed ∷ rest → ⊥
no_front [] rest is = cc
no_front (byte ∷ line) rest is = cc

none_found : (byte : ℕ) (bytes : List ℕ) → not (list_any (λ b. b == byte) bytes) ≡ true → list_all (λ b. not (b == byte)) bytes ≡ true
none_found byte [] none = refl
none_found byte (b ∷ bytes) none = (elim (b == byte) as (λ found. not (found || list_any (λ b. b == byte) bytes) ≡ true → (not found && list_all (λ b. not (b == byte)) bytes) ≡ true) [
  | true ↦ λ never. absurd (false≢true never)
  | false ↦ λ others. none_found byte bytes others
]) none

unbroken : (line : List ℕ) → is_line line ≡ true → HasNoByte line_feed line
unbroken line is =
    AllPass-from_list_all (λ b. not (b == line_feed)) line
    (none_found line_feed line (and_parts (nat_le (length line) LONGEST_LINE) (not (list_any (λ byte. byte == line_feed) line)) is).1)

-- Lines without line feeds are determined by their joined bytes.
same_lines : (xs ys : Text) → list_all is_line xs ≡ true → list_all is_line ys ≡ true → joined xs ≡ joined ys → xs ≡ ys
same_lines [] [] some other is = refl
same_lines [] (y ∷ ys) some other is = absurd (no_front y (joined ys) is)
same_lines (x ∷ xs) [] some other is = absurd (no_front x (joined xs) (sym is))
same_lines (x ∷ xs) (y ∷ ys) some other is =
    let left = and_parts (is_line x) (list_all is_line xs) some in
    let right = and_parts (is_line y) (list_all is_line ys) other in
    let cuts = some_pair (x, joined xs) (y, joined ys) (sym (cut_at-found line_feed x (joined xs) (unbroken x left.0))
    ∙ ap (cut_at line_feed) is ∙ cut_at-found line_feed y (joined ys) (unbroken y right.0)) in
    let rest = same_lines xs ys left.1 right.1 (ap (λ p. p.1) cuts) in
    ap (λ line. line ∷ xs) (ap (λ p. p.0) cuts) ∙ ap (λ lines. y ∷ lines) rest

-- A line of this class before others, if it is no comment.
abbrev kept_line : LineClass → List ℕ → Text → Text
kept_line Comment line rest = rest
kept_line Blank line rest = line ∷ rest
kept_line (Field letter) line rest = line ∷ rest
kept_line Directive line rest = line ∷ rest
kept_line Music line rest = line ∷ rest

both : (p q : Bool) → p ≡ true → q ≡ true → (p && q) ≡ true
both true true one other = refl
both true false one other = other
both false q one other = one

module _ (class : List ℕ → LineClass) where
  -- The lines that are no comments.
  abbrev kept : Text → Text
  kept [] = []
  kept (line ∷ lines) = kept_line (class line) line (kept lines)

  line_joined : (k : LineClass) (line : List ℕ) (rest : Text) → line_bytes k line ++ joined rest ≡ joined (kept_line k line rest)
  line_joined Comment line rest = refl
  line_joined Blank line rest = append_assoc line (line_feed ∷ []) (joined rest)
  line_joined (Field letter) line rest = append_assoc line (line_feed ∷ []) (joined rest)
  line_joined Directive line rest = append_assoc line (line_feed ∷ []) (joined rest)
  line_joined Music line rest = append_assoc line (line_feed ∷ []) (joined rest)

  bytes_joined : (lines : Text) → bytes_of_lines class lines ≡ joined (kept lines)
  bytes_joined [] = refl
  bytes_joined (line ∷ lines) = ap (λ rest. line_bytes (class line) line ++ rest) (bytes_joined lines) ∙ line_joined (class line) line (kept lines)

  line_unbroken : (k : LineClass) (line : List ℕ) (rest : Text) → is_line line ≡ true → list_all is_line rest ≡ true → list_all is_line (kept_line k line rest) ≡ true
  line_unbroken Comment line rest first others = others
  line_unbroken Blank line rest first others = both (is_line line) (list_all is_line rest) first others
  line_unbroken (Field letter) line rest first others = both (is_line line) (list_all is_line rest) first others
  line_unbroken Directive line rest first others = both (is_line line) (list_all is_line rest) first others
  line_unbroken Music line rest first others = both (is_line line) (list_all is_line rest) first others

  kept_unbroken : (lines : Text) → list_all is_line lines ≡ true → list_all is_line (kept lines) ≡ true
  kept_unbroken [] all = all
  kept_unbroken (line ∷ lines) all =
      let parts = and_parts (is_line line) (list_all is_line lines) all in
      line_unbroken (class line) line (kept lines) parts.0 (kept_unbroken lines parts.1)

  module _ {Cell : Type 0} (cells : List ℕ → List Cell) (none : (line : List ℕ) → class line ≡ Comment → cells line ≡ []) where
    line_cells : (k : LineClass) (line : List ℕ) (rest : Text) → class line ≡ k → cells line ++ flat_map cells rest ≡ flat_map cells (kept_line k line rest)
    line_cells Comment line rest is = ap (λ own. own ++ flat_map cells rest) (none line is)
    line_cells Blank line rest is = refl
    line_cells (Field letter) line rest is = refl
    line_cells Directive line rest is = refl
    line_cells Music line rest is = refl

    kept_cells : (lines : Text) → flat_map cells lines ≡ flat_map cells (kept lines)
    kept_cells [] = refl
    kept_cells (line ∷ lines) = ap (λ rest. cells line ++ rest) (kept_cells lines) ∙ line_cells (class line) line (kept lines) refl

    -- Lines without line feeds that have the same bytes, but for comments, have the same cells.
    pub same_cells : (xs ys : Text) → list_all is_line xs ≡ true → list_all is_line ys ≡ true → bytes_of_lines class xs ≡ bytes_of_lines class ys → flat_map cells xs ≡ flat_map cells ys
    same_cells xs ys some other is =
        let same = same_lines (kept xs) (kept ys) (kept_unbroken xs some) (kept_unbroken ys other) (sym (bytes_joined xs) ∙ is ∙ bytes_joined ys) in
        kept_cells xs ∙ ap (flat_map cells) same ∙ sym (kept_cells ys)
