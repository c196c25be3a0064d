-- `jobs::by_kind` meets its contract: each kind has its case. Assumes nothing.
use Rattle.jobs.specs.Record.{by_kind_of}
use Rattle.jobs.proofs.by_kind.Goals as goal

pub returns-in-VariableShape : goal.returns-in-VariableShape
unfolding by_kind_of
returns-in-VariableShape c = rw c.in-VariableShape.is c.shape.ensures

pub returns-in-VariableSaw : goal.returns-in-VariableSaw
unfolding by_kind_of
returns-in-VariableSaw c = rw c.in-VariableSaw.is c.saw.ensures

pub returns-in-SuperSquare : goal.returns-in-SuperSquare
unfolding by_kind_of
returns-in-SuperSquare c = rw c.in-SuperSquare.is c.super_square.ensures

pub returns-in-NesTriangle : goal.returns-in-NesTriangle
unfolding by_kind_of
returns-in-NesTriangle c = rw c.in-NesTriangle.is c.nes.ensures

pub returns-in-StringSynth : goal.returns-in-StringSynth
unfolding by_kind_of
returns-in-StringSynth c = rw c.in-StringSynth.is c.string.ensures

pub returns-in-Classic : goal.returns-in-Classic
unfolding by_kind_of
returns-in-Classic c = rw c.in-Classic.is c.classic.ensures
