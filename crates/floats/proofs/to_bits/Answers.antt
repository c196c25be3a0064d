-- `floats::to_bits` meets its contract: the one value that is no number has the quiet NaN's pattern. Assumes nothing.
use Rattle.std.proofs.Common.{ap, sym, ◌∙◌}
use lib.Ieee.{binary32, to_bits}
use Rattle.floats.proofs.Nans.{nan_of}
use Rattle.floats.proofs.to_bits.Goals as goal

pub returns-then-is_nan : goal.returns-then-is_nan
unfolding to_bits
returns-then-is_nan c = sym (ap (to_bits binary32) (nan_of _ (sym c.is_nan.ensures.value ∙ c.if-is_nan.true)))
