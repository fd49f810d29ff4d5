-- The definitions of `abc_play` for the play of a number.
pub use Rattle.abc_play.specs.Play.{play_of}
pub use Rattle.abc_play.specs.Refusal.{RefusesPlay}
