-- Where pieces end in old chains, one piece after the other.
use Rattle.std.proofs.Common.{◌≡◌, ℕ, ◌+◌, ◌-◌, List, [], ◌∷◌, ◌++◌, Option, Some, None, Result, Ok, Err, IfOk, IfSome}
use Rattle.std.proofs.Common.{slice_get, length, sym, ◌∙◌, ap, subst, arith, length-append}
use Rattle.std.specs.Option.{IsSome, IsSomeAnd}
use Rattle.abc_fold.specs.declared.piece.Piece.{Piece}
use Rattle.abc_fold.specs.declared.piece.Piece.TheVariants.{New, Kept}
use Rattle.abc_fold.specs.Chain.{ChainView, IsKeptAt}
use Rattle.abc_fold.specs.Following.{Follows, FollowsLast}
use Rattle.abc_fold.proofs.Following.{get_last}
use Rattle.abc_fold.proofs.Kept.{some_same}
use Rattle.abc_live_cost.specs.Origin.{Origin}
use Rattle.abc_live_text.specs.PieceEnd.{EndsAt, IsLeftAt, LiesAt}
use Rattle.abc_live_text.specs.Pieces.{address_from, entries_at}
use Rattle.abc_live_text.proofs.LinePieces.{IsPlaced}

module _ {F State Cell Items Work : Type 0} (chains : List (ChainView State Cell Items)) where
  follows_one : (source i : ℕ) (last piece : Piece F State Cell Items Work) → IsLeftAt chains source i last → LiesAt chains (Some (source, i)) piece → Follows last piece
  follows_one source i last (New cell) left lies = absurd lies
  follows_one source i (New cell) (Kept other entered own items) left lies = absurd left
  follows_one source i (Kept cell before following given) (Kept other entered own items) left lies =
      some_same entered following (sym lies.0 ∙ left)

  -- A piece that is where others end follows the last of them.
  pub follows_end : (pieces : List (Piece F State Cell Items Work)) (piece : Piece F State Cell Items Work) (at : Option (ℕ × ℕ))
      → IsSomeAnd at (λ a. EndsAt chains pieces a.0 a.1) → LiesAt chains at piece → FollowsLast pieces piece
  follows_end pieces piece None ends lies = absurd ends
  follows_end pieces piece (Some a) ends lies = λ last is. follows_one a.0 a.1 last piece (ends last is) lies

  left_one : (source i : ℕ) (piece : Piece F State Cell Items Work) → LiesAt chains (Some (source, i)) piece → IsLeftAt chains source (i + 1) piece
  left_one source i (New cell) lies = absurd lies
  left_one source i (Kept cell entered left items) lies = lies.1

  ends_one : (pieces : List (Piece F State Cell Items Work)) (piece : Piece F State Cell Items Work) (source place : ℕ)
      → IsLeftAt chains source place piece → EndsAt chains (pieces ++ piece ∷ []) source place
  ends_one pieces piece source place left last is =
      let count : length (pieces ++ piece ∷ []) - 1 ≡ length pieces = let long = length-append pieces (piece ∷ []) in omega (arith, long) in
      let same : piece ≡ last = some_same piece last (sym (get_last pieces piece) ∙ ap (slice_get (pieces ++ piece ∷ [])) (sym count) ∙ is) in
      subst (λ p. IsLeftAt chains source place p) same left

  -- Where pieces end after the cell of a line at index `k`.
  pub ends_next : (pieces : List (Piece F State Cell Items Work)) (piece : Piece F State Cell Items Work) (o : Option Origin) (k : ℕ)
      → LiesAt chains (address_from k o) piece → IfSome (address_from (k + 1) o) (λ a. EndsAt chains (pieces ++ piece ∷ []) a.0 a.1)
  ends_next pieces piece None k lies = tt
  ends_next pieces piece (Some origin) k lies =
      let place : origin.first + k + 1 ≡ origin.first + (k + 1) = omega arith in
      subst (λ n. EndsAt chains (pieces ++ piece ∷ []) origin.source n) place
      (ends_one pieces piece origin.source (origin.first + k + 1) (left_one origin.source (origin.first + k) piece lies))

  -- If a line has an origin, its pieces end somewhere.
  pub ends_there : (pieces : List (Piece F State Cell Items Work)) (o : Option Origin) (k : ℕ) → IsSome o
      → IfSome (address_from k o) (λ a. EndsAt chains pieces a.0 a.1) → IsSomeAnd (address_from k o) (λ a. EndsAt chains pieces a.0 a.1)
  ends_there pieces None k some ends = cc
  ends_there pieces (Some origin) k some ends = ends

  -- Pieces that end where a line begins.
  pub ends_before : (pieces : List (Piece F State Cell Items Work)) (end o : Option Origin) → IsSome o → end ≡ o
      → IfSome end (λ (e : Origin). EndsAt chains pieces e.source e.first) → IsSomeAnd (address_from 0 o) (λ a. EndsAt chains pieces a.0 a.1)
  ends_before pieces end None some is ends = cc
  ends_before pieces end (Some origin) some is ends =
      let place : origin.first ≡ origin.first + 0 = omega arith in
      let own : IfSome (Some origin) (λ (e : Origin). EndsAt chains pieces e.source e.first) = subst (λ o. IfSome o (λ (e : Origin). EndsAt chains pieces e.source e.first)) is ends in
      subst (λ n. EndsAt chains pieces origin.source n) place own

  -- The end that a line names.
  pub ends_after : (pieces : List (Piece F State Cell Items Work)) (end o : Option Origin) (k : ℕ)
      → IfSome end (λ (e : Origin). address_from k o ≡ Some (e.source, e.first)) → IfSome (address_from k o) (λ a. EndsAt chains pieces a.0 a.1)
      → IfSome end (λ (e : Origin). EndsAt chains pieces e.source e.first)
  ends_after pieces None o k is ends = tt
  ends_after pieces (Some e) o k is ends = subst (λ at. IfSome at (λ a. EndsAt chains pieces a.0 a.1)) is ends

  piece_lies : (source i : ℕ) (chain : ChainView State Cell Items) (piece : Piece F State Cell Items Work)
      → entries_at chains source ≡ chain.entries → IsKeptAt chain i piece → LiesAt chains (Some (source, i)) piece
  piece_lies source i chain (New cell) e at = absurd at
  piece_lies source i chain (Kept cell entered left items) e at =
      (ap (λ l. slice_get l i) e ∙ at.own_entry, ap (λ l. slice_get l (i + 1)) e ∙ at.next_entry)

  -- The place of a kept piece of a line.
  pub own_place : {E : Type 0} {row : List Cell} {o : Option Origin} {k : ℕ} {chain : ChainView State Cell Items} {source i : ℕ} (result : Result (Piece F State Cell Items Work) E)
      → IsPlaced chains row o k chain source i → IfOk result (λ piece. IsKeptAt chain i piece) → IfOk result (λ piece. LiesAt chains (address_from k o) piece)
  own_place (Err error) here at = tt
  own_place {chain = chain} {source = source} {i = i} (Ok piece) here at =
      subst (λ a. LiesAt chains a piece) (sym here.address) (piece_lies source i chain piece here.entries at)
