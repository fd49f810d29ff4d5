-- The chord at the front of a text is the longest that the grammar has there, and its inside has one cutting.
use Rattle.std.proofs.Common.{◌≡◌, ℕ, Bool, List, [], ◌∷◌, ◌++◌, length, take, drop, refl, sym, ap, ◌∙◌, subst, inl, inr, ⊎_elim, arith, append_assoc, append-nil, take-append-drop}
use Rattle.std.specs.Prelude.{IfSome, false}
use Rattle.std.specs.Option.{option_map}
use Rattle.abc_scan.specs.declared.chord.Chord.{Chord}
use Rattle.abc_scan.specs.declared.frame.Frame.{Frame}
use Rattle.abc_scan.specs.declared.chord_part.ChordPartKind.{ChordPartKind}
use Rattle.abc_scan.specs.declared.chord_part.ChordPartKind.TheVariants as kinds
use Rattle.abc_scan.specs.declared.start.Start.{Start}
use Rattle.abc_scan.specs.declared.start.Start.TheVariants as starts
use Rattle.abc_scan.specs.Chord.{SpellsPart, part_kinds, part_grammar, inside_of, IsChord, part_by, part_reading_at, parts_of, chord_of, chord_at}
use Rattle.abc_scan.specs.Cutting.{IsCuttingFrom}
use Rattle.abc_scan.specs.Delimited.{IsDelimited, delimited_at}
use Rattle.abc_scan.specs.Frame.{IsFrame, frame_at}
use Rattle.abc_scan.specs.NoEffect.{IsExtraSpace, HasNoEffect, extra_space_at}
use Rattle.abc_scan.specs.Note.{IsNote, note_at}
use Rattle.abc_scan.specs.Single.{IsBlankToken}
use Rattle.abc_scan.specs.Start.{start_of}
use Rattle.abc_scan.proofs.Cuttings.{Reads, cuts_from, only_cutting}
use Rattle.abc_scan.proofs.Delimiters.{delimited_longest, delimited_sound}
use Rattle.abc_scan.proofs.Frames.{frame_longest, frame_sound}
use Rattle.abc_text.proofs.Fronts.{take_exact}
use Rattle.abc_scan.proofs.Notes.{note_longest, note_sound}
use Rattle.abc_scan.proofs.Readings.{Finds, IsSpelled, one_front, mapped, finds-wrapped, finds-sized, finds-one, wrapped-sound, sized-sound}
use Rattle.abc_scan.proofs.Rests.{extra_space_longest, extra_space_sound}
use Rattle.abc_scan.proofs.Starts.{by_start, note_starts, tie_starts, blank_starts, silent_by, Known, start_known}

-- the part read is the longest
part_longest : (after_bar : Bool) (front rest : List ℕ) (kind : ChordPartKind) → SpellsPart after_bar front kind → Finds (part_reading_at after_bar (front ++ rest)) front kind
unfolding part_reading_at
part_longest after_bar front rest (kinds.Note note) is =
    let text = front ++ rest in
    by_start (λ s. part_by s text) text front (kinds.Note note) starts.Note (note_starts front rest note is) (finds-wrapped kinds.Note (note_at text) front note (note_longest front rest note is))
part_longest after_bar front rest kinds.Tie is =
    let text = front ++ rest in
    by_start (λ s. part_by s text) text front kinds.Tie starts.Tie (tie_starts front rest is) (finds-one kinds.Tie front (ap length is))
part_longest after_bar front rest kinds.NoEffect is =
    let text = front ++ rest in
    let by = λ (s : Start). part_by s text in
    ⊎_elim
    (λ (b : IsBlankToken front). by_start by text front kinds.NoEffect starts.Blank (blank_starts front rest b) (finds-one kinds.NoEffect front (ap length b.spelling)))
    (λ (silent : HasNoEffect front). silent_by by front rest kinds.NoEffect silent
    (λ d. finds-sized kinds.NoEffect (delimited_at text) front (length front) (delimited_longest front rest d) (omega arith))
    (λ s. extra_space_longest kinds.NoEffect front rest s)
    (λ one. finds-one kinds.NoEffect front one)
    (λ one. finds-one kinds.NoEffect front one))
    is
part_longest after_bar front rest kinds.BadByte is = absurd is

-- the part read is one of the grammar
part_by_sound : (start : Start) (after_bar : Bool) (b : ℕ) (rest : List ℕ) → Known b start → IfSome (part_by start (b ∷ rest)) (IsSpelled (SpellsPart after_bar) (b ∷ rest))
part_by_sound starts.Note after_bar b rest known =
    wrapped-sound IsNote (SpellsPart after_bar) kinds.Note (b ∷ rest) (note_at (b ∷ rest)) (λ front note is. is) (note_sound (b ∷ rest))
part_by_sound starts.Parenthesis after_bar b rest known = (one_front b rest, inr (inr (inr (record { byte = 40; spelling = ap (λ x. x ∷ []) known; silent = refl }))))
part_by_sound starts.Tie after_bar b rest known = (one_front b rest, ap (λ x. x ∷ []) known)
part_by_sound starts.Blank after_bar b rest known = (one_front b rest, inl (record { byte = b; spelling = refl; blank = known }))
part_by_sound starts.Delimited after_bar b rest known =
    sized-sound IsDelimited (SpellsPart after_bar) kinds.NoEffect (b ∷ rest) (delimited_at (b ∷ rest)) (λ front is. inr (inl is)) (delimited_sound (b ∷ rest))
part_by_sound starts.Space after_bar b rest known =
    sized-sound IsExtraSpace (SpellsPart after_bar) kinds.NoEffect (b ∷ rest) (extra_space_at (b ∷ rest)) (λ front is. inr (inr (inl is))) (extra_space_sound (b ∷ rest))
part_by_sound starts.Single after_bar b rest known = (one_front b rest, inr (inr (inr (record { byte = b; spelling = refl; silent = known }))))
part_by_sound _ after_bar b rest known = tt

part_sound : (after_bar : Bool) (text : List ℕ) → IfSome (part_reading_at after_bar text) (IsSpelled (SpellsPart after_bar) text)
unfolding part_reading_at
part_sound after_bar [] = tt
part_sound after_bar (b ∷ rest) = part_by_sound (start_of (b ∷ rest)) after_bar b rest (start_known b rest)

pub reads_parts : Reads SpellsPart part_reading_at
reads_parts = record { longest = part_longest; sound = part_sound }

-- the bytes inside a frame are the same in any text that it begins
frame_inside : (front rest : List ℕ) (frame : Frame) (is : IsFrame front frame) → inside_of frame (front ++ rest) ≡ is.inside
frame_inside front rest frame is =
    let parts : front ++ rest ≡ 91 ∷ (is.inside ++ 93 ∷ (is.written ++ rest)) =
    ap (λ l. l ++ rest) is.spelling ∙ ap (λ l. 91 ∷ l) (append_assoc is.inside (93 ∷ is.written) rest) in
    ap (λ l. take frame.inside (drop 1 l)) parts ∙ take_exact frame.inside is.inside (93 ∷ (is.written ++ rest)) is.size_is

frame_own : (front : List ℕ) (frame : Frame) (is : IsFrame front frame) → inside_of frame front ≡ is.inside
frame_own front frame is = ap (inside_of frame) (sym (append-nil front)) ∙ frame_inside front [] frame is

pub chord_longest : (front rest : List ℕ) (chord : Chord) → IsChord front chord → Finds (chord_at (front ++ rest)) front chord
unfolding chord_at parts_of
chord_longest front rest chord is =
    let text = front ++ rest in
    let f = frame_longest front rest is.frame is.framed in
    record {
      found = chord_of f.found text;
      size = f.size;
      is_read = ap (option_map (λ (r : Frame × ℕ). (chord_of r.0 text, r.1))) f.is_read;
      long = f.long;
      same = λ e.
          let frame : is.frame ≡ f.found = f.same e in
          let inside : inside_of is.frame front ≡ inside_of f.found text =
          frame_own front is.frame is.framed ∙ sym (frame_inside front rest is.frame is.framed) ∙ (λ i. inside_of (frame i) text) in
          let parts : chord.parts ≡ parts_of (inside_of f.found text) =
          only_cutting part_kinds SpellsPart part_reading_at reads_parts false 1 (inside_of is.frame front) chord.parts is.parts_are ∙ ap parts_of inside in
          let outer : chord.length ≡ f.found.length = is.length_is ∙ ap (λ (x : Frame). x.length) frame in
          λ i. record { parts = parts i; length = outer i };
    }

chord_here : (text : List ℕ) (frame : Frame) (size : ℕ) → IsSpelled IsFrame text (frame, size) → IsSpelled IsChord text (chord_of frame text, size)
unfolding parts_of
chord_here text frame size sound =
    let front = take size text in
    let inside : inside_of frame front ≡ inside_of frame text =
    frame_own front frame sound.1 ∙ sym (frame_inside front (drop size text) frame sound.1) ∙ ap (inside_of frame) (take-append-drop size text) in (
      sound.0,
      record {
        frame = frame;
        framed = sound.1;
        length_is = refl;
        parts_are = subst (λ l. IsCuttingFrom part_grammar false 1 l (parts_of (inside_of frame text))) (sym inside) (cuts_from part_kinds SpellsPart part_reading_at reads_parts
            (length (inside_of frame text)) false 1 (inside_of frame text) (omega arith));
      },
    )

pub chord_sound : (text : List ℕ) → IfSome (chord_at text) (IsSpelled IsChord text)
unfolding chord_at
chord_sound text =
    mapped (IsSpelled IsFrame text) (IsSpelled IsChord text) (λ r. (chord_of r.0 text, r.1)) (frame_at text) (λ r is. chord_here text r.0 r.1 is) (frame_sound text)
