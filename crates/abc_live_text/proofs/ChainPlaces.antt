-- The places of the chains of a text.
use Rattle.std.proofs.Common.{◌≡◌, ℕ, ◌<◌, ◌≤◌, true, false, List, [], ◌∷◌, map, Option, Some, None, All, IfSome, length, refl}
use Rattle.std.proofs.Common.{sym, subst, arith, ⊎_elim}
use Rattle.std.proofs.lemmas.Bool.{cases_Bool}
use Rattle.std.proofs.lemmas.List.Elements.{All-cons, All-nil}
use Rattle.std.proofs.lemmas.List.{length-map}
use Rattle.abc_book.specs.Block.{blocks_of}
use Rattle.abc_book.specs.Laws.{RiseFromTo}
use Rattle.abc_book.specs.declared.block.Block.{Block}
use Rattle.abc_book.specs.declared.block.BlockKind.{BlockKind}
use Rattle.abc_book.specs.declared.block.BlockKind.TheVariants as kinds
use Rattle.abc_book.proofs.Rising.{blocks_rise}
use Rattle.abc_tune_compiler.specs.Book.{header_in, is_file_header, is_tune, tunes_in}
use Rattle.abc_live_text.specs.Pieces.{LiesWithin, class_in}
use Rattle.abc_live_text.specs.Chains.{header_place, places_of}
use Rattle.abc_live_text.specs.Origin.{BlocksRise}
use Rattle.abc_live_text.specs.Row.{CarriedRow}
use Rattle.abc_live_text.proofs.Spans.{rise_to}

lower : (low first : ℕ) (blocks : List Block) (last : ℕ) → low ≤ first → BlocksRise first blocks last → BlocksRise low blocks last
lower low first [] last e h = omega arith
lower low first (block ∷ blocks) last e h = let a = h.0 in (omega arith, h.1, h.2)

tunes_rise : (first : ℕ) (blocks : List Block) (last : ℕ) → RiseFromTo first blocks last → BlocksRise first (tunes_in blocks) last
tunes_rise first [] last h = h
tunes_rise first (block ∷ blocks) last h =
    let a : first ≤ block.from = h.0 in
    let b : block.from < block.to = h.1 in
    let c : block.from ≤ block.to = omega arith in
    ⊎_elim
    (λ (e : is_tune block.kind ≡ true). simp e (a, c, tunes_rise block.to blocks last h.2))
    (λ (e : is_tune block.kind ≡ false). simp e (lower first block.to _ last (omega arith) (tunes_rise block.to blocks last h.2)))
    (cases_Bool (is_tune block.kind))

no_tune : (kind : BlockKind) → is_file_header kind ≡ true → is_tune kind ≡ false
no_tune kinds.FileHeader h = refl
no_tune kinds.Tune h = absurd (cc)
no_tune kinds.Free h = refl

rise_places : (blocks : List Block) (last : ℕ) → RiseFromTo 0 blocks last → BlocksRise 0 (places_of blocks) last
rise_places [] last h = (omega arith, omega arith, h)
rise_places (block ∷ blocks) last h =
    let b : block.from < block.to = h.1 in
    let c : block.from ≤ block.to = omega arith in
    ⊎_elim
    (λ (e : is_file_header block.kind ≡ true). let other : is_tune block.kind ≡ false = no_tune block.kind e in simp (e, other) (h.0, c, tunes_rise block.to blocks last h.2))
    (λ (e : is_file_header block.kind ≡ false). let zeroth : 0 ≤ 0 = omega arith in let own = tunes_rise 0 (block ∷ blocks) last h in simp e (zeroth, zeroth, own))
    (cases_Bool (is_file_header block.kind))

-- The places of a text follow one another within it.
pub places_rise : {Cell : Type 0} (rows : List (CarriedRow Cell)) (blocks : List Block) → blocks ≡ blocks_of (map class_in rows) → BlocksRise 0 (places_of blocks) (length rows)
places_rise rows blocks are =
    subst (λ n. BlocksRise 0 (places_of blocks) n) (length-map rows class_in)
    (rise_places blocks (length (map class_in rows)) (subst (λ (b : List Block). RiseFromTo 0 b (length (map class_in rows))) (sym are) (blocks_rise (map class_in rows))))

rise_within : (at : ℕ) (blocks : List Block) (last : ℕ) → BlocksRise at blocks last → All (LiesWithin last) blocks
rise_within at [] last rise = All-nil (LiesWithin last)
rise_within at (block ∷ blocks) last rise =
    let within : LiesWithin last block = (rise.1, rise_to block.to blocks last rise.2) in
    All-cons (LiesWithin last) block blocks within (rise_within block.to blocks last rise.2)

own_place : (n : ℕ) (header : Option Block) → LiesWithin n (header_place header) → IfSome header (LiesWithin n)
own_place n None h = tt
own_place n (Some block) h = h

pub header_within : {Cell : Type 0} (rows : List (CarriedRow Cell)) (blocks : List Block) → blocks ≡ blocks_of (map class_in rows) → IfSome (header_in blocks) (LiesWithin (length rows))
header_within rows blocks are =
    let rise = places_rise rows blocks are in
    own_place (length rows) (header_in blocks) (rise.1, rise_to (header_place (header_in blocks)).to (tunes_in blocks) (length rows) rise.2)

pub tunes_within : {Cell : Type 0} (rows : List (CarriedRow Cell)) (blocks : List Block) → blocks ≡ blocks_of (map class_in rows) → All (LiesWithin (length rows)) (tunes_in blocks)
tunes_within rows blocks are =
    let rise = places_rise rows blocks are in
    rise_within (header_place (header_in blocks)).to (tunes_in blocks) (length rows) rise.2
