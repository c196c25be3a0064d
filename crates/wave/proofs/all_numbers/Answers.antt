-- `wave::all_numbers` meets its contract: it asks of each sample what the definition asks. Assumes nothing.
use mathlib.Core.Bool.{not}
use mathlib.Core.Path.{◌∙◌}
use borrow.Author.Rules.{rules}
use Rattle.std.specs.Float.Ieee.{is_nan}
use Rattle.std.proofs.lemmas.Iterator.{YieldsList-from_slice}
use Rattle.std.proofs.lemmas.Iterator.Search.{all_from_yields_List}
use Rattle.wave.proofs.Numbers.{each_number}
use Rattle.wave.proofs.all_numbers.Goals as goal

pub returns : goal.returns
returns c =
    all_from_yields_List (λ x. not (is_nan x)) _ _ _ c.all.ensures.ran (YieldsList-from_slice c.args.samples.now cc) (λ x b q k. search rules) ∙ each_number c.args.samples.now
