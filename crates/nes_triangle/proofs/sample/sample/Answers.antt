-- `nes_triangle::sample::sample` meets its contract. Assumes nothing.
use Rattle.nes_triangle.proofs.Stepping.{finishable}
use Rattle.nes_triangle.specs.Sample.{stepped_of, sound_of, sample_of}
use Rattle.nes_triangle.specs.Private.{reached_of, reach_of}
use Rattle.nes_triangle.proofs.sample.sample.Goals as goal

pub finish-requires : goal.finish-requires
unfolding reach_of reached_of
finish-requires c = rw c.reach-e.ensures (finishable _ _ _ c.requires)

pub returns : goal.returns
unfolding sample_of reach_of
returns c =
    let a = c.args in
    let t = stepped_of a.d a.s a.frequency in
    rw (← c.fade-g.ensures) (c.finish.ensures a.s t (sound_of a.d a.s t c.fade-g.result a.frequency) c.reach-e.ensures)
