-- The variable saw's rooms, and two places that it does not use. Assumes nothing.
use Rattle.std.proofs.Common.{refl, arith}
use Rattle.variable_saw.proofs.voice.ParametersVoice.places.Goals as goal

pub returns : goal.returns
returns c = (2, refl, omega arith)
