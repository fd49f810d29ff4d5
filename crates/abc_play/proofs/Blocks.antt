-- The play of the tune of a block, by its chain.
use Rattle.std.proofs.Common.{◌≡◌, ℕ, ◌≤◌, false, List, [], ◌∷◌, length, map, refl, sym, ap, subst, ◌∙◌, arith}
use Rattle.std.specs.Borrow.{Bor}
use Rattle.abc_bars_items.specs.Item.{Items}
use Rattle.abc_bars_items.specs.declared.item.Item.{Item}
use Rattle.abc_book.specs.declared.block.Block.{Block}
use Rattle.abc_lines.specs.Text.{Text}
use Rattle.abc_live_cost.specs.OldItems.{IsChainOf}
use Rattle.abc_live_index.proofs.ChainOutputs.{given_each}
use Rattle.abc_scan.specs.declared.spanned.Spanned.{Spanned}
use Rattle.abc_scan.specs.declared.token.TokenKind.{TokenKind}
use Rattle.abc_tune.specs.Abc.{rules_of_abc, steps_of_abc}
use Rattle.abc_tune_compiler.specs.Placed.{Placed}
use Rattle.abc_tune_compiler.specs.Tune.{cells_in}
use Rattle.abc_voices.specs.Layout.{is_too_long, items_in}
use Rattle.abc_voices.specs.Track.{tracks}
use Rattle.abc_voices_sections.specs.Items.{items_of}
use Rattle.abc_play_tune.specs.Play.{play_of_voice, steps_played}
use Rattle.abc_play_tune.specs.declared.timed.TimedStep.{TimedStep}
use Rattle.abc_play.specs.Places.{tune_places}
use Rattle.abc_play.specs.Play.{block_items, block_play, block_size, opening_in, placed_track, referred, tune_play}
use Rattle.abc_play.specs.Refusal.{RefusesTune}
use Rattle.abc_play.specs.declared.entry.PlayedEntry.{PlayedEntry}
use Rattle.abc_play.specs.declared.place.Place.{Place}
use Rattle.abc_play.specs.declared.play_error.PlayError.{PlayError}
use Rattle.abc_play.proofs.Owned.{ChainOf, chain_items}
use Rattle.abc_play.proofs.References.{steps_played-alike, tune_play-alike}

map_twice : {A B C : Type 0} (f : A → B) (g : B → C) (xs : List A) → map g (map f xs) ≡ map (λ x. g (f x)) xs
map_twice f g [] = refl
map_twice f g (x ∷ xs) = ap (λ l. g (f x) ∷ l) (map_twice f g xs)

module _ (text : Text) (block : Block) (chain : ChainOf) (is : IsChainOf steps_of_abc rules_of_abc.cells (opening_in text) text chain block) where
  -- there is an item for each cell
  pub few_items : length chain.items ≤ length chain.cells
  few_items = let same = ap length is.folds.items ∙ given_each steps_of_abc (opening_in text) chain.cells in omega (arith, same)

  module _ (given : List Items) (tune : List (Bor Item)) (given_is : given ≡ chain.items) (tune_is : items_of tune ≡ items_in given) where
    own_items : items_of tune ≡ items_in (block_items text block)
    own_items = tune_is ∙ ap items_in (given_is ∙ chain_items text chain block is)

    -- its tune is not too long
    pub tune_short : is_too_long (items_in chain.items) ≡ false → is_too_long (items_of tune) ≡ false
    tune_short short = ap is_too_long (tune_is ∙ ap items_in given_is) ∙ short

    -- how much it plays
    pub size_is : steps_played tune ≡ block_size text block
    size_is = sym (steps_played-alike tune) ∙ ap (λ items. steps_played (map referred items)) own_items

    -- what it plays
    pub play_is : (cells : List (Placed (List (Spanned TokenKind)))) (places : List (List Place)) (voices : List (List TimedStep)) (found : List (List PlayedEntry))
        → cells ≡ cells_in rules_of_abc text block → places ≡ tune_places cells given → voices ≡ map (play_of_voice tune) (tracks (items_of tune))
        → found ≡ map (placed_track places) voices → found ≡ block_play text block
    play_is cells places voices found cells_are places_are voices_are found_is =
        found_is
        ∙ ap (map (placed_track places)) voices_are
        ∙ map_twice (play_of_voice tune) (placed_track places) (tracks (items_of tune))
        ∙ sym (tune_play-alike tune places)
        ∙ ap (λ items. tune_play (map referred items) places) own_items
        ∙ ap (tune_play (map referred (items_in (block_items text block))))
        (places_are ∙ ap (λ c. tune_places c given) cells_are ∙ ap (tune_places (cells_in rules_of_abc text block)) (given_is ∙ chain_items text chain block is))

    -- why it is refused
    pub refused_is : (e : PlayError) → RefusesTune (steps_played tune) e → RefusesTune (block_size text block) e
    refused_is e refused = subst (λ (n : ℕ). RefusesTune n e) size_is refused
