-- `navuloqu::stems::navuloqu_3_wave_write` meets its contract: `write`'s, with the answer's number. Assumes nothing.
use Rattle.navuloqu.proofs.stem_calls.navuloqu_3_wave_write.Goals as goal

pub returns : goal.returns
returns c = rw c.number.ensures c.write.ensures
