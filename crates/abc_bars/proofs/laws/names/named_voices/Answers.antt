use Rattle.abc_bars.proofs.LookBack.BodyState.{here_found, voice_list_of-found, voice_at-found}
use Rattle.abc_bars.proofs.laws.names.named_voices.Goals as goal

pub returns : goal.returns
returns c = record { names = voice_list_of-found; voices = voice_at-found; current = here_found }
