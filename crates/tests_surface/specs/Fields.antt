-- The definitions of `abc_fields` for the values of fields.
pub use Rattle.abc_fields.specs.Fault.{name_of}
pub use Rattle.abc_fields.specs.Key.{key_of}
pub use Rattle.abc_fields.specs.Letter.{capital}
pub use Rattle.abc_fields.specs.Meter.{meter_of}
pub use Rattle.abc_fields.specs.Parts.{parts_of}
pub use Rattle.abc_fields.specs.Ratio.{IsRatio}
pub use Rattle.abc_fields.specs.Signature.{alteration}
pub use Rattle.abc_fields.specs.Tempo.{tempo_of}
pub use Rattle.abc_fields.specs.Word.{words_of}
