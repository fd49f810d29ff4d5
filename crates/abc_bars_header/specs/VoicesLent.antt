-- The voices after a value of one of them was borrowed and changed.
use Rattle.std.specs.Prelude.{ℕ, List, Option}
use Rattle.std.specs.Borrow.{Fml, Lends, LendsIf, MutBor, RattleType}
use Rattle.abc_bars_header.specs.contracts.voices.Voices.{the_row}
use Rattle.abc_bars_header.specs.Voices.{with_voice_at}

-- Once the borrow ends, what was last written is the value of the voice at the index; without a voice there nothing
-- changes.
abbrev pub lends_voice : (S : RattleType) → MutBor (List (List ℕ × S.Denot)) → ℕ → Option (MutBor S.Denot) → Fml
lends_voice S voices at lent = LendsIf (the_row S) S voices lent (with_voice_at voices.now at) voices.now

-- The same for an existing voice.
abbrev pub lends_known : (S : RattleType) → MutBor (List (List ℕ × S.Denot)) → ℕ → MutBor S.Denot → Fml
lends_known S voices at lent = Lends (the_row S) S voices lent (with_voice_at voices.now at)
