-- The play of a number is that of the tune that owns it.
use Rattle.std.proofs.Common.{◌≡◌, ℕ, ◌<◌, ◌≤◌, List, Option, Some, None, slice_get, length, refl, sym, ap, subst, ◌∙◌}
use Rattle.std.specs.Prelude.{option_and_then, IsSome}
use Rattle.std.specs.Option.{option_map}
use Rattle.std.proofs.lemmas.Option.{slice_get_past}
use Rattle.abc_book.specs.declared.block.Block.{Block}
use Rattle.abc_lines.specs.Text.{Text}
use Rattle.abc_live_session.specs.Owner.{owner_of}
use Rattle.abc_repeat.specs.declared.play.TheConstants.{MOST_PLACES}
use Rattle.abc_tune.specs.Abc.{rules_of_abc}
use Rattle.abc_tune_compiler.specs.Book.{blocks_in, tunes_in}
use Rattle.abc_play.specs.Play.{block_of, block_play, block_size, play_of, play_size, size_of, tunes_of}
use Rattle.abc_play.specs.Refusal.{RefusesPlay, RefusesTune}
use Rattle.abc_play.specs.declared.entry.PlayedEntry.{PlayedEntry}
use Rattle.abc_play.specs.declared.play_error.PlayError.{PlayError}
use Rattle.abc_play.specs.declared.play_error.PlayError.TheVariants.{NoSuchNumber, TooLong, OutOfMemory}

-- no tune owns it
pub no_owner : (text : Text) (number : ℕ) → owner_of (tunes_of text) number ≡ None → block_of text number ≡ None
no_owner text number owner = ap (option_and_then (slice_get (tunes_in (blocks_in rules_of_abc text)))) owner

-- no tune is at its owner's place
pub no_tune : (text : Text) (number tune : ℕ) → owner_of (tunes_of text) number ≡ Some tune → length (tunes_in (blocks_in rules_of_abc text)) ≤ tune
    → block_of text number ≡ None
no_tune text number tune owner over =
    ap (option_and_then (slice_get (tunes_in (blocks_in rules_of_abc text)))) owner ∙ slice_get_past (tunes_in (blocks_in rules_of_abc text)) tune over

module _ (text : Text) (number tune : ℕ) (block : Block) (owner : owner_of (tunes_of text) number ≡ Some tune)
    (here : slice_get (tunes_in (blocks_in rules_of_abc text)) tune ≡ Some block) where
  block_is : block_of text number ≡ Some block
  block_is = ap (option_and_then (slice_get (tunes_in (blocks_in rules_of_abc text)))) owner ∙ here

  pub number_play : (found : List (List PlayedEntry)) → found ≡ block_play text block → play_of text number ≡ Some found
  number_play found is = ap (option_map (block_play text)) block_is ∙ ap Some (sym is)

  pub number_few : block_size text block ≤ MOST_PLACES → play_size text number ≤ MOST_PLACES
  number_few few = subst (λ (o : Option Block). size_of text o ≤ MOST_PLACES) (sym block_is) few

  pub number_refused : (e : PlayError) → RefusesTune (block_size text block) e → RefusesPlay text number e
  number_refused NoSuchNumber refused = absurd refused
  number_refused TooLong refused = subst (λ (o : Option Block). MOST_PLACES < size_of text o) (sym block_is) refused
  number_refused OutOfMemory refused = subst (λ (o : Option Block). IsSome o) (sym block_is) refl
