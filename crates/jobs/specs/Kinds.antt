-- The kinds of a record and their numbers: "kind: 1 shape, 2 saw, 3 super square, 4 NES, 5 string", and 02 (i): "record kind 6". Assumes nothing.
use Rattle.std.specs.Prelude.{Option, None, Some, List, [], ◌∷◌, ℕ, slice_index_or}
use Rattle.jobs.specs.declared.kind.Kind.{Kind}
use Rattle.jobs.specs.declared.kind.Kind.TheVariants.{VariableShape, VariableSaw, SuperSquare, NesTriangle, StringSynth, Classic}

-- a kind's number
abbrev pub number_of : Kind → ℕ
number_of VariableShape = 1
number_of VariableSaw = 2
number_of SuperSquare = 3
number_of NesTriangle = 4
number_of StringSynth = 5
number_of Classic = 6

-- the kinds by number, from 0, which names none
abbrev pub in_order : List (Option Kind)
in_order = None ∷ Some VariableShape ∷ Some VariableSaw ∷ Some SuperSquare ∷ Some NesTriangle ∷ Some StringSynth ∷ Some Classic ∷ []

-- the kind of a number: above 6 there is none either
abbrev pub kind_of : ℕ → Option Kind
kind_of number = slice_index_or in_order number None
