-- The definitions of `abc2midi_live` for runs of commands.
pub use Rattle.abc2midi_live.specs.Edits.{edited, insertion}
pub use Rattle.abc2midi_live.specs.Piped.{new_pipe}
pub use Rattle.abc2midi_live.specs.Streams.{faults}
pub use Rattle.abc2midi_live.specs.Transcript.{book_lines}
pub use Rattle.abc2midi_live.specs.Work.{raised}
