-- `bank::by_kind` meets its contract: each case is its kind's call, on its state. Assumes nothing.
use Rattle.bank.specs.Bank.{with_shape, with_saw, with_super_square, with_nes, with_string, with_classic, shape_played, saw_played, super_square_played, nes_played, string_played, classic_played}
use Rattle.bank.proofs.Lending.{played_is}
use Rattle.bank.proofs.by_kind.Goals as goal

pub returns-in-VariableShape : goal.returns-in-VariableShape
unfolding shape_played
returns-in-VariableShape c = rw c.in-VariableShape.is (played_is (with_shape c.args.bank.now) _ _ _ c.render.ensures)

pub returns-in-VariableSaw : goal.returns-in-VariableSaw
unfolding saw_played
returns-in-VariableSaw c = rw c.in-VariableSaw.is (played_is (with_saw c.args.bank.now) _ _ _ c.render-in-VariableSaw.ensures)

pub returns-in-SuperSquare : goal.returns-in-SuperSquare
unfolding super_square_played
returns-in-SuperSquare c = rw c.in-SuperSquare.is (played_is (with_super_square c.args.bank.now) _ _ _ c.render-in-SuperSquare.ensures)

pub returns-in-NesTriangle : goal.returns-in-NesTriangle
unfolding nes_played
returns-in-NesTriangle c = rw c.in-NesTriangle.is (played_is (with_nes c.args.bank.now) _ _ _ c.render-in-NesTriangle.ensures)

pub returns-in-StringSynth : goal.returns-in-StringSynth
unfolding string_played
returns-in-StringSynth c = rw c.in-StringSynth.is (played_is (with_string c.args.bank.now) _ _ _ c.render-in-StringSynth.ensures)

pub returns-in-Classic : goal.returns-in-Classic
unfolding classic_played
returns-in-Classic c = rw c.in-Classic.is (played_is (with_classic c.args.bank.now) _ _ _ c.render-in-Classic.ensures)
