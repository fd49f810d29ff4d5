pub mod KeyFieldLaws
pub mod Limits
pub mod LookBack
pub mod Titles
-- The definitions of the crates below that public clauses cite: a caller needs only this crate.
pub use Rattle.abc_bars_body.specs.Body
pub use Rattle.abc_bars_body.specs.BodyOpening
pub use Rattle.abc_bars_body.specs.Cell
pub use Rattle.abc_bars_body.specs.Entry
pub use Rattle.abc_bars_body.specs.Mentioned
pub use Rattle.abc_bars_body.specs.SameEntry
pub use Rattle.abc_bars_body.specs.Step
pub use Rattle.abc_fields.specs.Meter
pub use Rattle.abc_fields.specs.Tempo
pub use Rattle.abc_fields.specs.Unit
pub use Rattle.abc_bars_header.specs.Defaults
pub use Rattle.abc_bars_header.specs.FileHeader
pub use Rattle.abc_bars_header.specs.Header
pub use Rattle.abc_bars_header.specs.HeaderLine
pub use Rattle.abc_bars_header.specs.SameDefaults
pub use Rattle.abc_bars_header.specs.Voices
pub use Rattle.abc_bars_items.specs.Item
pub use Rattle.abc_bars_items.specs.TonesView
pub use Rattle.abc_bars_notes.specs.Broken
pub use Rattle.abc_bars_notes.specs.LooseTies
pub use Rattle.abc_bars_voice.specs.VoiceState
pub use Rattle.abc_bars_voice.specs.Tempo as TuneTempo
pub use Rattle.abc_bars_voice.specs.UnitLength
pub use Rattle.abc_time.specs.Grains
pub use Rattle.abc_time.specs.Length
pub use Rattle.abc_time.specs.Ratio
pub use Rattle.abc_time.specs.Tempo as QuarterNote
