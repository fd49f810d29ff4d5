-- Sets of definitions that the examples open: a set opens all that its `unfolding` line names. Its value has no meaning.
use Rattle.abc_text.specs.Accidental.{accidental_of}
use Rattle.abc_text.specs.Blank.{trim_blanks, trim_end, trim_start}
use Rattle.abc_text.specs.Cut.{cut_at}
use Rattle.abc_text.specs.Letter.{letter_of}
use Rattle.abc_text.specs.Number.{number_of}
use Rattle.abc_text.specs.Power.{is_power_up_to}
use Rattle.abc_text.specs.Word.{first_word, words_of}
use Rattle.abc_time.specs.Grains.{grains_of_a_tick, grains_of_a_whole_note, grains_of_the_latest_end, grains_of_the_longest_length}
use Rattle.abc_time.specs.Length.{length_of, quotient_of}
use Rattle.abc_time.specs.Tempo.{quarter_of}
use Rattle.abc_scan.specs.Bar.{bar_at}
use Rattle.abc_scan.specs.BarRest.{bar_rest_at}
use Rattle.abc_scan.specs.Broken.{broken_at}
use Rattle.abc_scan.specs.Chord.{chord_at, part_reading_at, parts_of}
use Rattle.abc_scan.specs.Delimited.{delimited_at}
use Rattle.abc_scan.specs.Directive.{directive_of}
use Rattle.abc_scan.specs.Dynamic.{dynamic_of}
use Rattle.abc_scan.specs.Ending.{ending_at, passes_at, range_at, ranges_at}
use Rattle.abc_scan.specs.Frame.{frame_at}
use Rattle.abc_scan.specs.InlineField.{inline_field_at}
use Rattle.abc_scan.specs.Length.{length_at, length_size}
use Rattle.abc_scan.specs.Line.{tokens_of}
use Rattle.abc_scan.specs.NoEffect.{extra_space_at}
use Rattle.abc_scan.specs.Note.{accidental_at, note_at, rest_at}
use Rattle.abc_scan.specs.Number.{number_at}
use Rattle.abc_scan.specs.Start.{bracket_start, byte_start}
use Rattle.abc_scan.specs.Token.{reading_at}
use Rattle.abc_scan.specs.Tuplet.{tuplet_at}
use Rattle.abc_fields.specs.Accidental.{changes_of}
use Rattle.abc_fields.specs.Clef.{mark_of, names_clef, without_line}
use Rattle.abc_fields.specs.Key.{complete_key, key_in, key_with, start_of}
use Rattle.abc_fields.specs.Listed.{with_accidentals}
use Rattle.abc_fields.specs.Mode.{mode_named, mode_of}
use Rattle.abc_fields.specs.Property.{property_of, signed_number, unquote}
use Rattle.abc_fields.specs.Shift.{shift_of}
use Rattle.abc_fields.specs.Signature.{signature_of}
use Rattle.abc_fields.specs.Meter
use Rattle.abc_fields.specs.Tempo
use Rattle.abc_fields.specs.Tonic.{key_mode_at}
use Rattle.abc_fields.specs.Voice.{voice_in, voice_of}
use Rattle.abc_fields.specs.Letters.{play_on}
use Rattle.abc_fields.specs.Parts.{next}
use Rattle.abc_bars_voice.specs.Accidentals.{letters_in, with_octave}
use Rattle.abc_bars_voice.specs.UnitLength.{unit_grains}
use Rattle.abc_bars_notes.specs.BarRest.{bar_grains}
use Rattle.abc_bars_body.specs.Step.{entry_step}
use Rattle.abc_repeat.specs.Order.{has_unknown, sections_of}
use Rattle.abc_repeat.specs.Mark.{greatest_number, greatest_number_to, has_number}
use Rattle.abc_repeat.specs.Play.{play_of, strain_play}

-- Texts without blanks at their ends.
unfoldable pub blanks : Unit {0}
unfolding trim_start trim_end trim_blanks
blanks = tt

-- The words, numbers, letters and accidentals of `abc_text`.
unfoldable pub texts : Unit {0}
unfolding blanks accidental_of cut_at letter_of number_of is_power_up_to first_word words_of
texts = tt

-- The grains of `abc_time`.
unfoldable pub grains : Unit {0}
unfolding grains_of_a_tick grains_of_a_whole_note grains_of_the_latest_end grains_of_the_longest_length
grains = tt

-- The lengths and the tempi of `abc_time`.
unfoldable pub times : Unit {0}
unfolding grains length_of quotient_of quarter_of
times = tt

-- The meters of `abc_fields`.
unfoldable pub meters : Unit {0}
unfolding texts Meter.sum_of Meter.fraction_of Meter.symbol_or_fraction
meters = tt

-- The beats of tempi.
unfoldable pub beats : Unit {0}
unfolding texts Tempo.positive_number Tempo.part_of Tempo.fraction_of Tempo.word_in_front Tempo.after_word Tempo.sum_of Tempo.halve
beats = tt

-- The tempi of `abc_fields`.
unfoldable pub tempos : Unit {0}
unfolding beats quarter_of Tempo.bare_tempo Tempo.tempo_around Tempo.tempo_in Tempo.tempo_of
tempos = tt

-- The properties of keys and voices.
unfoldable pub properties : Unit {0}
unfolding texts mark_of names_clef without_line property_of signed_number unquote shift_of
properties = tt

-- The signatures of keys.
unfoldable pub signatures : Unit {0}
unfolding texts changes_of with_accidentals mode_named mode_of signature_of key_mode_at
signatures = tt

-- The keys of `abc_fields`.
unfoldable pub keys : Unit {0}
unfolding properties signatures key_with start_of complete_key key_in
keys = tt

-- The values of fields but orders of parts.
unfoldable pub fields : Unit {0}
unfolding meters tempos keys voice_in voice_of
fields = tt

-- The orders of parts of `abc_fields`.
unfoldable pub orders : Unit {0}
unfolding play_on next
orders = tt

-- The sections that an order plays.
unfoldable pub sections : Unit {0}
unfolding play_on sections_of has_unknown
sections = tt

-- The play of a section.
unfoldable pub plays : Unit {0}
unfolding has_number greatest_number_to greatest_number strain_play play_of
plays = tt

-- The notes of `abc_scan`.
unfoldable pub notes : Unit {0}
unfolding length_at length_size accidental_at note_at
notes = tt

-- The tokens of lines with directives, fields and notes.
unfoldable pub lines : Unit {0}
unfolding texts notes number_at directive_of byte_start reading_at tokens_of
lines = tt

-- The chords of `abc_scan`.
unfoldable pub chords : Unit {0}
unfolding frame_at part_reading_at parts_of chord_at
chords = tt

-- The tokens of lines without inline fields, bar rests, broken rhythm and tuplets.
unfoldable pub tokens : Unit {0}
unfolding lines chords rest_at bar_at ending_at delimited_at dynamic_of bracket_start
tokens = tt

-- The ranges of passes of endings.
unfoldable pub endings : Unit {0}
unfolding range_at ranges_at passes_at
endings = tt

-- All tokens of `abc_scan`.
unfoldable pub music : Unit {0}
unfolding tokens endings bar_rest_at broken_at tuplet_at inline_field_at extra_space_at
music = tt

-- The lines of a header.
unfoldable pub headers : Unit {0}
unfolding entry_step fields orders lines times
headers = tt

-- The lines of a body.
unfoldable pub bars : Unit {0}
unfolding entry_step fields music times bar_grains letters_in with_octave unit_grains
bars = tt
