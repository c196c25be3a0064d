-- `super_square::sample::sample` meets its contract: its parts make the definition. Assumes nothing.
use Rattle.super_square.proofs.Edges.{edge_crossable}
use Rattle.super_square.proofs.Samples.{sample_is}
use Rattle.super_square.proofs.sample.sample.Goals as goal

pub pass-p-requires : goal.pass-p-requires
pass-p-requires c = edge_crossable c.requires

pub returns : goal.returns
returns c = sample_is _ _ _ c.pass-p.ensures c.after-t.ensures c.finish.ensures
