-- `classic_face::state_of` meets its contract: field by field. Assumes nothing.
use Rattle.classic_face.specs.Words.{state_of}
use Rattle.classic_face.proofs.state_of.Goals as goal

pub returns : goal.returns
unfolding state_of
returns c =
    rw (c.from_bits.ensures, c.from_bits-2.ensures, c.from_bits-3.ensures, c.from_bits-4.ensures, c.from_bits-5.ensures, c.from_bits-6.ensures, c.from_bits-7.ensures, c.from_bits-8.ensures)
