-- The NES triangle's hand as a block begins: the step of a valid state can be held. Assumes nothing.
use Rattle.nes_triangle.proofs.Held.{holdable}
use Rattle.nes_triangle.proofs.voice.ParametersVoice.ready.Goals as goal

pub hold-requires : goal.hold-requires
hold-requires c = holdable c.of_bits-depth.ensures c.requires
