-- The super square's rooms, and three places that it does not use. Assumes nothing.
use Rattle.std.proofs.Common.{refl, arith}
use Rattle.super_square.proofs.voice.ParametersVoice.places.Goals as goal

pub returns : goal.returns
returns c = (3, refl, omega arith)
