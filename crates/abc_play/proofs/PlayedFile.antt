-- The play of a number is its file.
use Rattle.std.proofs.Common.{◌≡◌, ℕ, ◌+◌, ◌≤◌, max, nat_lt, Bool, true, false, cond, List, [], ◌∷◌, ◌++◌, map, Option, Some, None, is_some, slice_get}
use Rattle.std.proofs.Common.{refl, sym, ap, ◌∙◌, arith}
use Rattle.std.specs.Borrow.{Bor}
use Rattle.std.specs.List.{flat_map}
use Rattle.std.specs.Option.{option_map}
use Rattle.std.specs.Prelude.{option_and_then}
use Rattle.std.proofs.lemmas.Bool.{false≢true, ltb-true, ltb-false}
use Rattle.std.proofs.lemmas.Option.{none-some, same_Some, slice_get-map}
use Rattle.abc_bars_body.specs.declared.entry.Entry.{Entry}
use Rattle.abc_bars_items.specs.Item.{Items}
use Rattle.abc_bars_items.specs.declared.item.Item.{Item}
use Rattle.abc_book.specs.declared.block.Block.{Block}
use Rattle.abc_fold.specs.Steps.{items_from}
use Rattle.abc_lines.specs.Text.{Text}
use Rattle.abc_live_session.proofs.OwnerFiles.{file_of_owner}
use Rattle.abc_live_session.specs.Owner.{owner_of, tune_file}
use Rattle.abc_play_tune.proofs.Sounded.{sounds_score}
use Rattle.abc_play_tune.specs.Entries.{entries_from}
use Rattle.abc_play_tune.specs.Laws.{capped, heard_on, lasting_on}
use Rattle.abc_play_tune.specs.Play.{play_of_voice}
use Rattle.abc_play_tune.specs.Sounds.{sounds_of}
use Rattle.abc_play_tune.specs.declared.entry.PlayEntry.{PlayEntry}
use Rattle.abc_scan.specs.declared.spanned.Spanned.{Spanned}
use Rattle.abc_scan.specs.declared.token.TokenKind.{TokenKind}
use Rattle.abc_time.specs.Grains.{grains_of_a_whole_note, grains_of_the_latest_end, tick_at}
use Rattle.abc_tune.specs.Abc.{rules_of_abc, steps_of_abc}
use Rattle.abc_tune.specs.Built.{bytes_of}
use Rattle.abc_tune_compiler.specs.Book.{blocks_in, book_of, tunes_in}
use Rattle.abc_tune_compiler.specs.Files.{file_at}
use Rattle.abc_tune_compiler.specs.Placed.{Placed, items_along, placed_values}
use Rattle.abc_tune_compiler.specs.Tune.{Tune, cells_in, lines_in, tune_of}
use Rattle.abc_voices.proofs.TooLong.{is_too_long-by}
use Rattle.abc_voices.specs.Layout.{arranged_of, end_of, is_too_long, items_in, last_off, score_of, total, voices_notes}
use Rattle.abc_voices.specs.TooLong.{of_time}
use Rattle.abc_voices.specs.Track.{tracks}
use Rattle.abc_voices_score.specs.declared.score.Sounding.{Sounding}
use Rattle.abc_voices_sections.specs.Items.{items_of}
use Rattle.smf_bytes.specs.File.{file_bytes}
use Rattle.abc_play.specs.File.{PlaysFile, in_ticks, lasting}
use Rattle.abc_play.specs.Places.{tune_places}
use Rattle.abc_play.specs.Play.{block_items, block_of, block_play, block_tune, opening_in, placed_entry, placed_track, play_of, tunes_of}
use Rattle.abc_play.specs.declared.entry.PlayedEntry.{PlayedEntry}
use Rattle.abc_play.specs.declared.place.Place.{Place}
use Rattle.abc_play.proofs.InText.{mapped}
use Rattle.abc_play.proofs.Late.{no_earlier}
use Rattle.abc_play.proofs.Owned.{built_short, owned}
use Rattle.abc_play.proofs.PlaysText.{referred_items}
use Rattle.abc_play.proofs.TextPlaces.{values_from}

-- ends of notes are not capped
capped_is : (moment : ℕ) → moment ≤ grains_of_the_latest_end → capped moment ≡ moment
unfolding grains_of_a_whole_note grains_of_the_latest_end
capped_is moment early = omega (arith, early)

same_notes : (notes : List Sounding) (at : ℕ) → last_off at notes ≤ grains_of_the_latest_end → map (heard_on tick_at) notes ≡ map in_ticks notes
same_notes [] at early = refl
same_notes (note ∷ notes) at early =
    let later = no_earlier (max at note.off.0) notes in
    let is = capped_is note.off.0 (omega (arith, later, early)) in
    λ i. record { on = tick_at note.on.0; off = tick_at (is i); key = note.key; velocity = note.velocity } ∷ same_notes notes (max at note.off.0) early i

last_off-append : (at : ℕ) (notes others : List Sounding) → last_off at (notes ++ others) ≡ last_off (last_off at notes) others
last_off-append at [] others = refl
last_off-append at (note ∷ notes) others = last_off-append (max at note.off.0) notes others

same_voices : (voices : List (List Sounding)) (at : ℕ) → last_off at (flat_map (λ (notes : List Sounding). notes) voices) ≤ grains_of_the_latest_end
    → map (map (heard_on tick_at)) voices ≡ map (map in_ticks) voices
same_voices [] at early = refl
same_voices (notes ∷ voices) at early =
    let flat = flat_map (λ (own : List Sounding). own) voices in
    let split = last_off-append at notes flat in
    let later = no_earlier (last_off at notes) flat in
    λ i. same_notes notes at (omega (arith, split, later, early)) i ∷ same_voices voices (last_off at notes) (omega (arith, split, early)) i

not_late : (tune : List Item) → is_too_long tune ≡ false → end_of tune ≤ grains_of_the_latest_end
not_late tune short = by (nat_lt grains_of_the_latest_end (end_of tune)) refl
  where
    by : (b : Bool) → nat_lt grains_of_the_latest_end (end_of tune) ≡ b → end_of tune ≤ grains_of_the_latest_end
    by true is = absurd (false≢true (sym short ∙ is_too_long-by tune (of_time (ltb-true grains_of_the_latest_end (end_of tune) is))))
    by false is = ltb-false grains_of_the_latest_end (end_of tune) is

-- entries without their places
without_places : (places : List (List Place)) (entries : List PlayEntry) → map lasting (map (placed_entry places) entries) ≡ map (lasting_on tick_at) entries
without_places places [] = refl
without_places places (entry ∷ entries) = ap (λ l. lasting_on tick_at entry ∷ l) (without_places places entries)

tracks_without : (tune : List (Bor Item)) (places : List (List Place)) (voices : List (List ℕ))
    → map (λ voice. sounds_of (map (lasting_on tick_at) (entries_from [] (play_of_voice tune voice)))) voices
    ≡ map (λ (entries : List PlayedEntry). sounds_of (map lasting entries)) (map (λ voice. placed_track places (play_of_voice tune voice)) voices)
tracks_without tune places [] = refl
tracks_without tune places (voice ∷ voices) =
    λ i. sounds_of (sym (without_places places (entries_from [] (play_of_voice tune voice))) i) ∷ tracks_without tune places voices i

-- the bytes of a tune
values_along : (state : Entry) (cells : List (Placed (List (Spanned TokenKind))))
    → placed_values (items_along steps_of_abc.next steps_of_abc.gives state cells) ≡ items_from steps_of_abc state (placed_values cells)
values_along state [] = refl
values_along state (cell ∷ cells) = ap (λ l. steps_of_abc.gives state cell.here ∷ l) (values_along (steps_of_abc.next state cell.here) cells)

built_bytes : (given : List Items) → is_too_long (items_in given) ≡ false → bytes_of given ≡ Some (file_bytes (score_of (items_in given)))
unfolding bytes_of arranged_of
built_bytes given short = ap (λ b. cond b None (Some (file_bytes (score_of (items_in given))))) short

at_owner : (blocks : List Block) (o : Option ℕ) (block : Block) → option_and_then (slice_get blocks) o ≡ Some block
    → (i : ℕ) × (o ≡ Some i) × (slice_get blocks i ≡ Some block)
at_owner blocks None block is = absurd (none-some block is)
at_owner blocks (Some i) block is = (i, refl, is)

module _ (text : Text) where
  abbrev made : Block → Tune
  made block = tune_of steps_of_abc.next steps_of_abc.gives rules_of_abc (opening_in text) text block

  made_bytes : (block : Block) → (made block).bytes ≡ bytes_of (block_items text block)
  unfolding tune_of
  made_bytes block =
      ap bytes_of (values_along (opening_in text) (cells_in rules_of_abc text block)
      ∙ ap (items_from steps_of_abc (opening_in text)) (values_from (block.from + 1) (lines_in text block)))

  -- the sounds of a tune with a file
  block_sounds : (block : Block) → is_too_long (items_in (block_items text block)) ≡ false
      → map (map in_ticks) (score_of (items_in (block_items text block))).voices ≡ map (λ (entries : List PlayedEntry). sounds_of (map lasting entries)) (block_play text block)
  block_sounds block short =
      let own = items_in (block_items text block) in
      let tune = block_tune text block in
      let places = tune_places (cells_in rules_of_abc text block) (block_items text block) in
      sym (same_voices (voices_notes own) (total own) (not_late own short))
      ∙ ap (λ l. map (map (heard_on tick_at)) (score_of l).voices) (sym (referred_items own))
      ∙ sounds_score tick_at tune
      ∙ tracks_without tune places (tracks (items_of tune))

  pub played_file : (number : ℕ) (play : List (List PlayedEntry)) → play_of text number ≡ Some play → PlaysFile (file_at (book_of steps_of_abc rules_of_abc text).files number) play
  played_file number play is =
      let blocks = tunes_in (blocks_in rules_of_abc text) in
      let found = mapped (block_play text) (block_of text number) play is in
      let block : Block = found.0 in
      let at = at_owner blocks (owner_of (tunes_of text) number) block found.1 in
      let owns = owned (λ (tune : Tune). tune.number) (λ (tune : Tune). tune.bytes) 0 (tunes_of text) number at.0 at.1 in
      let place : owns.k ≡ at.0 = let same = owns.place in omega (arith, same) in
      let here : slice_get (tunes_of text) at.0 ≡ Some (made block) = slice_get-map made blocks at.0 ∙ ap (option_map made) at.2 in
      let tune : made block ≡ owns.one = same_Some (made block) owns.one (sym here ∙ ap (slice_get (tunes_of text)) (sym place) ∙ owns.here) in
      let given = block_items text block in
      let short = built_short given (ap is_some (sym (made_bytes block)) ∙ ap (λ (t : Tune). is_some t.bytes) tune ∙ owns.file) in
      record {
        score = score_of (items_in given);
        bytes = file_of_owner number steps_of_abc rules_of_abc text
            ∙ ap (tune_file (tunes_of text)) at.1
            ∙ ap (option_and_then (λ (t : Tune). t.bytes)) here
            ∙ made_bytes block ∙ built_bytes given short;
        sounds = block_sounds block short ∙ ap (map (λ (entries : List PlayedEntry). sounds_of (map lasting entries))) (sym found.2);
      }
