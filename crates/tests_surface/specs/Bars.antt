-- The definitions of `abc_bars` for the fold over bars, its laws, and the values of headers.
pub use Rattle.abc_bars.specs.Body.{here}
pub use Rattle.abc_bars.specs.BodyOpening.{body_from}
pub use Rattle.abc_bars.specs.Broken.{is_time_token}
pub use Rattle.abc_bars.specs.Cell.{with_token}
pub use Rattle.abc_bars.specs.Defaults.{no_defaults}
pub use Rattle.abc_bars.specs.Entry.{defaults_of, opening_after}
pub use Rattle.abc_bars.specs.FileHeader.{file_header_result}
pub use Rattle.abc_bars.specs.Grains.{grains_of_the_longest_length}
pub use Rattle.abc_bars.specs.Header.{header_result, opening_header}
pub use Rattle.abc_bars.specs.HeaderLine.{HeaderLine}
pub use Rattle.abc_bars.specs.Item.{IsItem}
pub use Rattle.abc_bars.specs.Length.{IsLength}
pub use Rattle.abc_bars.specs.Limits.{HIGHEST_PROGRAM, MOST_VOICES}
pub use Rattle.abc_bars.specs.LookBack.AfterBody.{body_after}
pub use Rattle.abc_bars.specs.LookBack.Along.{CellTokens}
pub use Rattle.abc_bars.specs.LookBack.ByName.{naming_at, voice_state_named}
pub use Rattle.abc_bars.specs.LookBack.CellPlace.{VoicePlace}
pub use Rattle.abc_bars.specs.LookBack.Cells.{element_of}
pub use Rattle.abc_bars.specs.LookBack.Defaults.{defaults_at}
pub use Rattle.abc_bars.specs.LookBack.Element.{Element}
pub use Rattle.abc_bars.specs.LookBack.Header.{declared_names, header_at}
pub use Rattle.abc_bars.specs.LookBack.Keys.{IsAlteredAt}
pub use Rattle.abc_bars.specs.LookBack.Place.{AtEachPlace, Place, place_following, result_at, result_in_body, view}
pub use Rattle.abc_bars.specs.LookBack.Ties.{loose_ties}
pub use Rattle.abc_bars.specs.LookBack.Voice.{voice_state_at}
pub use Rattle.abc_bars.specs.LooseTies.{is_loose_tie}
pub use Rattle.abc_bars.specs.Mentioned.{MentionsFew, NamesVoices}
pub use Rattle.abc_bars.specs.Meter.{IsMeterInRange, meter_of}
pub use Rattle.abc_bars.specs.QuarterNote.{FitsInTempoEvent}
pub use Rattle.abc_bars.specs.Ratio.{IsRatio}
pub use Rattle.abc_bars.specs.SameDefaults.{same_defaults}
pub use Rattle.abc_bars.specs.SameEntry.{bar_steps}
pub use Rattle.abc_bars.specs.Step.{entry_step}
pub use Rattle.abc_bars.specs.Tempo.{tempo_of}
pub use Rattle.abc_bars.specs.TonesView.{viewed_tones}
pub use Rattle.abc_bars.specs.TuneTempo.{micros_by}
pub use Rattle.abc_bars.specs.Unit.{unit_of}
pub use Rattle.abc_bars.specs.UnitLength.{IsUnitPart, unit_by}
pub use Rattle.abc_bars.specs.VoiceState.{without_accidentals}
pub use Rattle.abc_bars.specs.Voices.{voice_at}
