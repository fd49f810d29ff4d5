-- The scores, and the changes and the notes of a track, of the worked examples of files. Not in ABC 2.1.
use Rattle.std.specs.Prelude.{ℕ, pos, negsuc, true, false, List, [], ◌∷◌, ◌++◌, codes, replicate}
use Rattle.abc_voices_score.specs.declared.score.Change.{Change}
use Rattle.abc_voices_score.specs.declared.score.ChangeKind.TheVariants.{Tempo, Meter, Key}
use Rattle.abc_voices_score.specs.declared.score.Score.{Score}
use Rattle.abc_voices_score.specs.declared.score.Sounding.{Sounding}
use Rattle.smf_bytes.specs.Event.{end_event, note_off, note_on}
use Rattle.smf_bytes.specs.declared.event.Event.{Event}
use Rattle.tests_files.specs.Values.{at_tick, change_at, program_at, seventh, sounding, sounding_with}

-- A tempo that changes at tick 240.
abbrev pub two_tempos : List Change
two_tempos = change_at 0 (Tempo 500000) ∷ change_at 0 (Key (pos 0) false) ∷ change_at 240 (Tempo 1000000) ∷ []

-- A tune with the title `A`, in C, of the one note C, an eighth.
abbrev pub one_eighth : Score
one_eighth = record {
  title = codes "A";
  end = record { 0 = 116237721600 };
  conductor = change_at 0 (Tempo 500000) ∷ change_at 0 (Key (pos 0) false) ∷ [];
  voices = (sounding 60 0 240 ∷ []) ∷ [];
  programs = [] ∷ [];
}

-- The header of a file of two tracks, in hexadecimal. SMF 1.0.
abbrev header_of_two_tracks : List ℕ
header_of_two_tracks = codes "4D546864000000060001000201E0"

-- The track of the one note C, an eighth, in hexadecimal. SMF 1.0.
abbrev eighth_track : List ℕ
eighth_track = codes "4D54726B0000000D00903C508170803C4000FF2F00"

-- The file of the tune, in hexadecimal: the header, the conductor's track, the track of the voice. SMF 1.0.
abbrev pub one_eighth_file : List ℕ
one_eighth_file =
    header_of_two_tracks
    ++ codes "4D54726B0000001700FF03014100FF510307A12000FF590200008170FF2F00"
    ++ eighth_track

-- Seven notes one after another in the time of four.
abbrev pub seven_notes : List Sounding
seven_notes = seventh 60 0 ∷ seventh 62 1 ∷ seventh 64 2 ∷ seventh 65 3 ∷ seventh 67 4 ∷ seventh 69 5 ∷ seventh 71 6 ∷ []

-- Their track, in hexadecimal. The bytes are those of a second compiler.
abbrev pub seven_notes_track : List ℕ
seven_notes_track =
    codes "4D54726B0000004300903C508109803C4000903E508109803E40009040508109804040"
    ++ codes "00904150810980414000904350810980434000904550810980454000904750810A80474000FF2F00"

-- A key, a meter and a tempo of tick 0.
abbrev pub opening_changes : List Change
opening_changes = change_at 0 (Key (pos 0) false) ∷ change_at 0 (Meter 3 4) ∷ change_at 0 (Tempo 500000) ∷ []

-- Events in no order, all but one at tick 240.
abbrev pub events_in_no_order : List Event
events_in_no_order =
    end_event 240 ∷ note_on 0 62 80 240 ∷ note_off 0 64 240 ∷ note_on 0 60 80 240 ∷ note_off 0 60 240 ∷ note_on 0 64 80 0 ∷ []

-- Changes in no order, several at tick 0 and several at tick 480.
abbrev pub changes_in_no_order : List Change
changes_in_no_order =
    change_at 0 (Key (negsuc 6) true) ∷ change_at 0 (Meter 6 8) ∷ change_at 0 (Tempo 500000)
    ∷ change_at 480 (Tempo 1) ∷ change_at 480 (Meter 255 64) ∷ change_at 480 (Key (pos 7) false)
    ∷ change_at 480 (Tempo 16777215) ∷ []

-- Their track, in hexadecimal. The bytes are those of a second compiler.
abbrev pub changes_track : List ℕ
changes_track =
    codes "4D54726B0000003700FF510307A12000FF58040603180800FF5902F901"
    ++ codes "8360FF510300000100FF5103FFFFFF00FF5804FF06180800FF590207008360FF2F00"

-- A note of a tune without dynamics, and two loud ones after it.
abbrev pub two_loud_notes : List Sounding
two_loud_notes = sounding 60 0 240 ∷ sounding_with 105 62 240 480 ∷ sounding_with 105 64 480 720 ∷ []

-- Notes in no order, several at one tick, and two that begin and end within one tick.
abbrev pub notes_in_no_order : List Sounding
notes_in_no_order =
    sounding 64 0 480 ∷ sounding 60 0 480 ∷ sounding 67 480 960 ∷ sounding 60 480 481 ∷ sounding 61 480 480
    ∷ sounding 127 960 960 ∷ sounding 0 0 960 ∷ []

-- A note and a meter that go on to the latest end, 131,072 whole notes.
abbrev pub the_longest : Score
the_longest = record {
  title = [];
  end = at_tick 251658240;
  conductor = change_at 251658240 (Meter 2 1) ∷ [];
  voices = (sounding 60 0 251658240 ∷ []) ∷ [];
  programs = [] ∷ [];
}

-- Its file, in hexadecimal: the header, the conductor's track, the track of the voice. The bytes are those of a second
-- compiler.
abbrev pub the_longest_file : List ℕ
the_longest_file =
    header_of_two_tracks
    ++ codes "4D54726B0000000FF8808000FF58040200180800FF2F00"
    ++ codes "4D54726B0000000F00903C50F8808000803C4000FF2F00"

-- Fifteen voices without notes.
abbrev pub fifteen_silent_voices : Score
fifteen_silent_voices = record {
  title = [];
  end = at_tick 0;
  conductor = [];
  voices = replicate 15 [];
  programs = replicate 15 [];
}

-- Two voices, of which the second alone has a program.
abbrev pub two_voices : Score
two_voices = record {
  title = [];
  end = at_tick 240;
  conductor = [];
  voices = (sounding 60 0 240 ∷ []) ∷ (sounding_with 45 64 0 240 ∷ []) ∷ [];
  programs = [] ∷ (program_at 0 1 ∷ []) ∷ [];
}

-- Their file, in hexadecimal: the header of three tracks, the conductor's track, those of the voices. SMF 1.0.
abbrev pub two_voices_file : List ℕ
two_voices_file =
    codes "4D546864000000060001000301E0"
    ++ codes "4D54726B000000058170FF2F00"
    ++ eighth_track
    ++ codes "4D54726B0000001000C1010091402D817081404000FF2F00"
