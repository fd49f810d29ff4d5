-- The entries of the tones of a time token, one tone further.
use Rattle.std.proofs.Common.{◌≡◌, ℕ, ◌+◌, ◌<◌, List, [], ◌∷◌, ◌++◌, length, take, drop, get_or, sym, ap, ◌∙◌, append_assoc}
use Rattle.std.proofs.lemmas.List.{drop_more, take_more}
use Rattle.abc_bars_items.specs.declared.item.Tone.{Tone}
use Rattle.abc_play_tune.specs.Entries.{tone_entry, tone_entries}
use Rattle.abc_play_tune.specs.declared.entry.PlayEntry.{PlayEntry}

pub tones_more : (previous : List Tone) (at place : ℕ) (tones : List Tone) (i : ℕ) (none : Tone) (seen next whole : List PlayEntry) (entry : PlayEntry)
    → i < length tones → entry ≡ tone_entry previous at place (take i tones) (get_or tones i none) → next ≡ seen ++ entry ∷ []
    → seen ++ tone_entries previous at place (take i tones) (drop i tones) ≡ whole
    → next ++ tone_entries previous at place (take (i + 1) tones) (drop (i + 1) tones) ≡ whole
tones_more previous at place tones i none seen next whole entry within own more before =
    let rest = drop (i + 1) tones in
    ap (λ l. l ++ tone_entries previous at place (take (i + 1) tones) rest) more
    ∙ append_assoc seen (entry ∷ []) (tone_entries previous at place (take (i + 1) tones) rest)
    ∙ (λ k. seen ++ own k ∷ tone_entries previous at place (take_more tones i none within k) rest)
    ∙ ap (λ left. seen ++ tone_entries previous at place (take i tones) left) (sym (drop_more tones i none within))
    ∙ before
