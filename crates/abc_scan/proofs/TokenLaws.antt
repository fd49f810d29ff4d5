-- Each text of a line has one cutting.
use Rattle.std.proofs.Common.{◌≡◌, ℕ, zero, suc, ◌<◌, ◌≤◌, Bool, true, Option, Some, None, List, [], ◌∷◌, ◌++◌, length, take, drop, refl, sym, ap, ◌∙◌, subst, inl, inr, ⊎_elim, arith, length-append}
use Rattle.std.proofs.Common.{length-take-le}
use Rattle.std.specs.Prelude.{IfSome, false}
use Rattle.std.specs.List.{AllPass}
use Rattle.std.specs.Option.{option_map, option_or}
use Rattle.std.proofs.Math.Seq.{drop-append_seam}
use Rattle.std.proofs.lemmas.List.{take-append-le}
use Rattle.std.proofs.lemmas.Bool.{cases_lt, false≢true}
use Rattle.std.proofs.lemmas.List.Elements.{All-nil, All-take, All-drop, All-head}
use Rattle.abc_scan.specs.declared.chord.Chord.{Chord}
use Rattle.abc_scan.specs.declared.dynamic.Dynamic.{Dynamic}
use Rattle.abc_scan.specs.declared.start.Start.{Start}
use Rattle.abc_scan.specs.declared.start.Start.TheVariants as starts
use Rattle.abc_scan.specs.declared.token.TokenKind.{TokenKind}
use Rattle.abc_scan.specs.declared.token.TokenKind.TheVariants as kinds
use Rattle.abc_scan.specs.declared.tuplet.Tuplet.{Tuplet}
use Rattle.abc_scan.specs.Bar.{IsBar, bar_at}
use Rattle.abc_scan.specs.BarRest.{IsBarRest, bar_rest_at}
use Rattle.abc_scan.specs.Broken.{IsBroken, broken_at}
use Rattle.abc_scan.specs.Chord.{IsChord, chord_at}
use Rattle.abc_scan.specs.Cutting.{as_kind}
use Rattle.abc_scan.specs.Delimited.{IsDelimited, delimited_at}
use Rattle.abc_scan.specs.Dynamic.{IsDynamic, dynamic_of}
use Rattle.abc_scan.specs.Ending.{IsEnding, ending_at}
use Rattle.abc_scan.specs.InlineField.{IsInlineField, inline_field_at}
use Rattle.abc_scan.specs.Line.{CutsEachText, CutsOnce}
use Rattle.abc_scan.specs.NoEffect.{IsExtraSpace, extra_space_at}
use Rattle.abc_scan.specs.Note.{IsNote, IsRest, note_at, rest_at}
use Rattle.abc_scan.specs.Start.{start_of}
use Rattle.abc_scan.specs.Token.{Spells, line_kinds, dynamic_or_ignored, enclosed_token, reading_by, reading_at}
use Rattle.abc_scan.specs.Tuplet.{IsTuplet, tuplet_at}
use Rattle.abc_scan.proofs.Bars.{bar_longest, bar_sound}
use Rattle.abc_scan.proofs.Brokens.{broken_longest, broken_sound}
use Rattle.abc_scan.proofs.Chords.{chord_longest, chord_sound}
use Rattle.abc_scan.proofs.Cuttings.{Reads, cuts_from, only_cutting}
use Rattle.abc_scan.proofs.Delimiters.{delimited_longest, delimited_sound, inline_field_longest, inline_field_sound}
use Rattle.abc_scan.proofs.Dynamics.{dynamic-sound, dynamic-read, dynamic-none, dynamic-delimited, byte-no_dynamic, space-no_dynamic}
use Rattle.abc_scan.proofs.Endings.{is_range_byte, ranges_text, ending_longest, ending_sound}
use Rattle.abc_text.proofs.Fronts.{take_exact}
use Rattle.abc_scan.proofs.Notes.{note_longest, note_sound}
use Rattle.abc_scan.proofs.Readings.{Finds, IsSpelled, IsSized, one_front, mapped, finds-wrapped, finds-one, wrapped-sound, sized-sound}
use Rattle.abc_scan.proofs.Rests.{rest_longest, rest_sound, bar_rest_longest, bar_rest_sound, extra_space_longest, extra_space_sound}
use Rattle.abc_scan.proofs.Starts.{by_start, note_starts, rest_starts, bar_rest_starts, bar_starts, field_starts, chord_starts, ending_starts, tuplet_starts, broken_starts, tie_starts, blank_starts}
use Rattle.abc_scan.proofs.Starts.{delimited_starts, silent_by, Known, start_known}
use Rattle.abc_scan.proofs.Tuplets.{tuplet_longest, tuplet_sound}

-- the first of two readings
finds-first : (o other : Option (TokenKind × ℕ)) (front : List ℕ) (kind : TokenKind) → Finds o front kind → Finds (option_or o other) front kind
finds-first o other front kind f = record { found = f.found; size = f.size; is_read = ap (λ x. option_or x other) f.is_read; long = f.long; same = f.same }

-- a chord that begins as an ending is longer
following_first : (size : ℕ) (written : List ℕ) → AllPass is_range_byte written → AllPass is_range_byte (drop 1 (take size (91 ∷ written)))
following_first zero written all = All-nil _
following_first (suc n) written all = All-take (λ b. is_range_byte b ≡ true) n written all

too_short : (written rest inside following : List ℕ) (size : ℕ) → AllPass is_range_byte written → size ≤ length (91 ∷ written)
    → take size ((91 ∷ written) ++ rest) ≡ 91 ∷ (inside ++ 93 ∷ following) → ⊥
too_short written rest inside following size bytes short spelled =
    let whole : take size (91 ∷ written) ≡ 91 ∷ (inside ++ 93 ∷ following) = sym (take-append-le size (91 ∷ written) rest short) ∙ spelled in
    let all : AllPass is_range_byte (inside ++ 93 ∷ following) = subst (λ l. AllPass is_range_byte (drop 1 l)) whole (following_first size written bytes) in
    let last : AllPass is_range_byte (93 ∷ following) = subst (AllPass is_range_byte) (drop-append_seam inside (93 ∷ following)) (All-drop (λ b. is_range_byte b ≡ true) (length inside)
    (inside ++ 93 ∷ following) all) in
    false≢true (All-head (λ b. is_range_byte b ≡ true) 93 following last)

chord_longer : (front rest written : List ℕ) (chord : Chord) (size : ℕ) → front ≡ 91 ∷ written → AllPass is_range_byte written → IsChord (take size (front ++ rest)) chord → length front < size
chord_longer front rest written chord size spelled bytes is = ⊎_elim
    (λ longer. longer)
    (λ short.
    let chord_text : take size ((91 ∷ written) ++ rest) ≡ 91 ∷ (is.framed.inside ++ 93 ∷ is.framed.written) = sym (ap (λ l. take size (l ++ rest)) spelled) ∙ is.framed.spelling in
    absurd (too_short written rest is.framed.inside is.framed.written size bytes (omega (arith, short, ap length spelled)) chord_text))
    (cases_lt (length front) size)

-- an ending that begins with `[` is read if no chord is there
bracket_finds : (after_bar : Bool) (front rest written : List ℕ) (passes : Option ℕ) (o : Option (Chord × ℕ)) → IfSome o (IsSpelled IsChord (front ++ rest)) → front ≡ 91 ∷ written
    → AllPass is_range_byte written → Finds (ending_at after_bar (front ++ rest)) front passes
    → Finds (option_or (as_kind kinds.Chord o) (as_kind kinds.Ending (ending_at after_bar (front ++ rest)))) front (kinds.Ending passes)
bracket_finds after_bar front rest written passes None chord spelled bytes f = finds-wrapped kinds.Ending (ending_at after_bar (front ++ rest)) front passes f
bracket_finds after_bar front rest written passes (Some r) chord spelled bytes f =
    let longer = chord_longer front rest written r.0 r.1 spelled bytes chord.1 in
    record { found = kinds.Chord r.0; size = r.1; is_read = refl; long = omega (arith, longer); same = λ e. absurd (omega (arith, longer, e)) }

-- a tuplet is longer than its `(`
parenthesis_finds : (text front : List ℕ) (o : Option (Tuplet × ℕ)) → IfSome o (IsSpelled IsTuplet text) → length front ≡ 1
    → Finds (option_or (as_kind kinds.Tuplet o) (Some (kinds.NoEffect, 1))) front kinds.NoEffect
parenthesis_finds text front None is one = finds-one kinds.NoEffect front one
parenthesis_finds text front (Some r) is one =
    let p = is.1.p_is.some in
    let long = length-append is.1.p_text (is.1.q_text ++ is.1.r_text) in
    let two : 2 ≤ r.1 = omega (arith, p, length-take-le r.1 text is.0.inside, ap length is.1.spelling, long) in
    record { found = kinds.Tuplet r.0; size = r.1; is_read = refl; long = omega (arith, two, one); same = λ e. absurd (omega (arith, two, one, e)) }

-- the token read is the longest
module _ (after_bar : Bool) (front rest : List ℕ) where
  abbrev text : List ℕ
  text = front ++ rest

  abbrev by : Start → Option (TokenKind × ℕ)
  by start = reading_by start after_bar text

  wrapped : {V : Type 0} (start : Start) (wrap : V → TokenKind) (o : Option (V × ℕ)) (value : V) → by start ≡ as_kind wrap o → start_of text ≡ start → Finds o front value
      → Finds (by (start_of text)) front (wrap value)
  wrapped start wrap o value read begins f =
      by_start by text front (wrap value) start begins (subst (λ x. Finds x front (wrap value)) (sym read) (finds-wrapped wrap o front value f))

  ending_finds : (passes : Option ℕ) → IsEnding after_bar front passes → Finds (by (start_of text)) front (kinds.Ending passes)
  ending_finds passes is =
      let f = ending_longest after_bar front rest passes is in
      ⊎_elim
      (λ (b : (front ≡ 91 ∷ is.written) × (start_of text ≡ starts.Bracket)). by_start by text front (kinds.Ending passes) starts.Bracket b.1
      (bracket_finds after_bar front rest is.written passes (chord_at text) (chord_sound text) b.0 (ranges_text is.ranges is.written is.ranges_are).0 f))
      (λ (d : start_of text ≡ starts.Digit). wrapped starts.Digit kinds.Ending (ending_at after_bar text) passes refl d f)
      (ending_starts after_bar front rest passes is)

  -- a text between delimiters
  enclosed_finds : (kind : TokenKind) → IsDelimited front → dynamic_or_ignored (dynamic_of front) ≡ kind → Finds (by starts.Delimited) front kind
  enclosed_finds kind d is =
      let size = length front in
      let own : take size text ≡ front = take_exact size front rest refl in
      record {
        found = kind;
        size = size;
        is_read = ap (option_map (enclosed_token text)) (delimited_longest front rest d) ∙ (λ i. Some ((ap (λ l. dynamic_or_ignored (dynamic_of l)) own ∙ is) i, size));
        long = omega arith;
        same = λ _. refl;
      }

  token_finds : (kind : TokenKind) → Spells after_bar front kind → Finds (by (start_of text)) front kind
  token_finds (kinds.Note note) is = wrapped starts.Note kinds.Note (note_at text) note refl (note_starts front rest note is) (note_longest front rest note is)
  token_finds (kinds.Rest value) is = wrapped starts.Rest kinds.Rest (rest_at text) value refl (rest_starts front rest value is) (rest_longest front rest value is)
  token_finds (kinds.BarRest bars) is = wrapped starts.BarRest kinds.BarRest (bar_rest_at text) bars refl (bar_rest_starts front rest bars is) (bar_rest_longest front rest bars is)
  token_finds (kinds.Chord chord) is =
      by_start by text front (kinds.Chord chord) starts.Bracket (chord_starts front rest is.frame is.framed)
      (finds-first (as_kind kinds.Chord (chord_at text)) (as_kind kinds.Ending (ending_at after_bar text)) front (kinds.Chord chord)
      (finds-wrapped kinds.Chord (chord_at text) front chord (chord_longest front rest chord is)))
  token_finds (kinds.InlineField field) is =
      wrapped starts.InlineField kinds.InlineField (inline_field_at text) field refl (field_starts front rest field is) (inline_field_longest front rest field is)
  token_finds (kinds.Bar bar) is = wrapped starts.BarLine kinds.Bar (bar_at text) bar refl (bar_starts front rest bar is) (bar_longest front rest bar is)
  token_finds (kinds.Ending passes) is = ending_finds passes is
  token_finds (kinds.Tuplet tuplet) is =
      by_start by text front (kinds.Tuplet tuplet) starts.Parenthesis (tuplet_starts front rest tuplet is)
      (finds-first (as_kind kinds.Tuplet (tuplet_at text)) (Some (kinds.NoEffect, 1)) front (kinds.Tuplet tuplet)
      (finds-wrapped kinds.Tuplet (tuplet_at text) front tuplet (tuplet_longest front rest tuplet is)))
  token_finds (kinds.Broken broken) is = wrapped starts.Broken kinds.Broken (broken_at text) broken refl (broken_starts front rest broken is) (broken_longest front rest broken is)
  token_finds kinds.Tie is = by_start by text front kinds.Tie starts.Tie (tie_starts front rest is) (finds-one kinds.Tie front (ap length is))
  token_finds kinds.Blank is = by_start by text front kinds.Blank starts.Blank (blank_starts front rest is) (finds-one kinds.Blank front (ap length is.spelling))
  token_finds (kinds.Dynamic dynamic) is =
      let d = dynamic-delimited front dynamic is in
      by_start by text front (kinds.Dynamic dynamic) starts.Delimited (delimited_starts front rest d)
      (enclosed_finds (kinds.Dynamic dynamic) d (ap dynamic_or_ignored (dynamic-read front dynamic is)))
  token_finds kinds.NoEffect is = silent_by by front rest kinds.NoEffect is.0
      (λ d. enclosed_finds kinds.NoEffect d (ap dynamic_or_ignored (dynamic-none front is.1)))
      (λ s. extra_space_longest kinds.NoEffect front rest s)
      (λ one. parenthesis_finds text front (tuplet_at text) (tuplet_sound text) one)
      (λ one. finds-one kinds.NoEffect front one)
  token_finds _ is = absurd is

token_longest : (after_bar : Bool) (front rest : List ℕ) (kind : TokenKind) → Spells after_bar front kind → Finds (reading_at after_bar (front ++ rest)) front kind
unfolding reading_at
token_longest after_bar front rest kind is = token_finds after_bar front rest kind is

-- the token read is one of the grammar
spells_enclosed : (after_bar : Bool) (front : List ℕ) (o : Option Dynamic) → dynamic_of front ≡ o → IfSome o (IsDynamic front) → IsDelimited front → Spells after_bar front (dynamic_or_ignored o)
spells_enclosed after_bar front None e is d = (inl d, λ dynamic is. let k : None ≡ Some dynamic = sym e ∙ dynamic-read front dynamic is in cc)
spells_enclosed after_bar front (Some dynamic) e is d = is

module _ (after_bar : Bool) (b : ℕ) (rest : List ℕ) where
  abbrev here : List ℕ
  here = b ∷ rest

  abbrev AreTokens : Option (TokenKind × ℕ) → Type 0
  AreTokens o = IfSome o (IsSpelled (Spells after_bar) here)

  is_kind : {V : Type 0} (Is : List ℕ → V → Type 0) (wrap : V → TokenKind) (o : Option (V × ℕ)) → ((own : List ℕ) (x : V) → Is own x → Spells after_bar own (wrap x)) → IfSome o (IsSpelled Is here)
      → AreTokens (as_kind wrap o)
  is_kind Is wrap o spelled h = wrapped-sound Is (Spells after_bar) wrap here o spelled h

  bracket_sound : (o : Option (Chord × ℕ)) → IfSome o (IsSpelled IsChord here) → AreTokens (option_or (as_kind kinds.Chord o) (as_kind kinds.Ending (ending_at after_bar here)))
  bracket_sound None is = is_kind (IsEnding after_bar) kinds.Ending (ending_at after_bar here) (λ own x h. h) (ending_sound after_bar here)
  bracket_sound (Some chord) is = is

  parenthesis_sound : (o : Option (Tuplet × ℕ)) → b ≡ 40 → IfSome o (IsSpelled IsTuplet here) → AreTokens (option_or (as_kind kinds.Tuplet o) (Some (kinds.NoEffect, 1)))
  parenthesis_sound None known is = (one_front b rest, (inr (inr (record { byte = 40; spelling = ap (λ x. x ∷ []) known; silent = refl })), byte-no_dynamic (b ∷ []) refl))
  parenthesis_sound (Some tuplet) known is = is

  read_sound : (start : Start) → Known b start → AreTokens (reading_by start after_bar here)
  read_sound starts.Note known = is_kind IsNote kinds.Note (note_at here) (λ own x h. h) (note_sound here)
  read_sound starts.Rest known = is_kind IsRest kinds.Rest (rest_at here) (λ own x h. h) (rest_sound here)
  read_sound starts.BarRest known = is_kind IsBarRest kinds.BarRest (bar_rest_at here) (λ own x h. h) (bar_rest_sound here)
  read_sound starts.BarLine known = is_kind IsBar kinds.Bar (bar_at here) (λ own x h. h) (bar_sound here)
  read_sound starts.InlineField known = is_kind IsInlineField kinds.InlineField (inline_field_at here) (λ own x h. h) (inline_field_sound here)
  read_sound starts.Bracket known = bracket_sound (chord_at here) (chord_sound here)
  read_sound starts.Digit known = is_kind (IsEnding after_bar) kinds.Ending (ending_at after_bar here) (λ own x h. h) (ending_sound after_bar here)
  read_sound starts.Parenthesis known = parenthesis_sound (tuplet_at here) known (tuplet_sound here)
  read_sound starts.Broken known = is_kind IsBroken kinds.Broken (broken_at here) (λ own x h. h) (broken_sound here)
  read_sound starts.Tie known = (one_front b rest, ap (λ x. x ∷ []) known)
  read_sound starts.Blank known = (one_front b rest, record { byte = b; spelling = refl; blank = known })
  read_sound starts.Delimited known =
      mapped (IsSized IsDelimited here) (IsSpelled (Spells after_bar) here) (enclosed_token here) (delimited_at here)
      (λ n is. (is.0, spells_enclosed after_bar (take n here) (dynamic_of (take n here)) refl (dynamic-sound (take n here)) is.1))
      (delimited_sound here)
  read_sound starts.Space known =
      sized-sound IsExtraSpace (Spells after_bar) kinds.NoEffect here (extra_space_at here) (λ own is. (inr (inl is), space-no_dynamic own is.written is.spelling)) (extra_space_sound here)
  read_sound starts.Single known = (one_front b rest, (inr (inr (record { byte = b; spelling = refl; silent = known })), byte-no_dynamic (b ∷ []) refl))
  read_sound starts.Nothing known = tt

token_sound : (after_bar : Bool) (text : List ℕ) → IfSome (reading_at after_bar text) (IsSpelled (Spells after_bar) text)
unfolding reading_at
token_sound after_bar [] = tt
token_sound after_bar (b ∷ rest) = read_sound after_bar b rest (start_of (b ∷ rest)) (start_known b rest)

pub reads_tokens : Reads Spells reading_at
reads_tokens = record { longest = token_longest; sound = token_sound }

pub cuts_each : CutsEachText
cuts_each text = cuts_from line_kinds Spells reading_at reads_tokens (length text) false 0 text (omega arith)

pub cuts_once : CutsOnce
cuts_once text a b is_a is_b =
    only_cutting line_kinds Spells reading_at reads_tokens false 0 text a is_a ∙ sym (only_cutting line_kinds Spells reading_at reads_tokens false 0 text b is_b)
