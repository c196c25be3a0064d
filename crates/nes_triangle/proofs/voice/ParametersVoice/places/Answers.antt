-- The NES triangle's room, and four places that it does not use. Assumes nothing.
use Rattle.std.proofs.Common.{refl, arith}
use Rattle.nes_triangle.proofs.voice.ParametersVoice.places.Goals as goal

pub returns : goal.returns
returns c = (4, refl, omega arith)
