-- `jobs::unused::used` meets its contract: the rows are the definition's. Assumes nothing.
use mathlib.Core.Path.{◌≡◌, refl, ◌∙◌}
use denote.Enum.Bare.{sameb}
use lib.Dec.{eqb}
use Rattle.jobs.specs.contracts.kind.Kind.{the_type}
use Rattle.jobs.specs.declared.kind.Kind.{Kind}
use Rattle.jobs.specs.declared.kind.Kind.TheVariants.{VariableShape, VariableSaw, SuperSquare, NesTriangle, StringSynth, Classic}
use Rattle.jobs.specs.Kinds.{number_of}
use Rattle.jobs.specs.Fields.{byte_used}
use Rattle.jobs.proofs.unused.used.Goals as goal

-- two kinds are the same where their numbers are
same : (a b : Kind) → sameb the_type a b ≡ eqb (number_of a) (number_of b)
same a b = elim a as (λ (x : Kind). sameb the_type x b ≡ eqb (number_of x) (number_of b)) [
  | VariableShape ↦ elim b as (λ (y : Kind). sameb the_type VariableShape y ≡ eqb 1 (number_of y)) [ VariableShape ↦ refl | VariableSaw ↦ refl | SuperSquare ↦ refl | NesTriangle ↦ refl | StringSynth ↦ refl | Classic ↦ refl ]
  | VariableSaw ↦ elim b as (λ (y : Kind). sameb the_type VariableSaw y ≡ eqb 2 (number_of y)) [ VariableShape ↦ refl | VariableSaw ↦ refl | SuperSquare ↦ refl | NesTriangle ↦ refl | StringSynth ↦ refl | Classic ↦ refl ]
  | SuperSquare ↦ elim b as (λ (y : Kind). sameb the_type SuperSquare y ≡ eqb 3 (number_of y)) [ VariableShape ↦ refl | VariableSaw ↦ refl | SuperSquare ↦ refl | NesTriangle ↦ refl | StringSynth ↦ refl | Classic ↦ refl ]
  | NesTriangle ↦ elim b as (λ (y : Kind). sameb the_type NesTriangle y ≡ eqb 4 (number_of y)) [ VariableShape ↦ refl | VariableSaw ↦ refl | SuperSquare ↦ refl | NesTriangle ↦ refl | StringSynth ↦ refl | Classic ↦ refl ]
  | StringSynth ↦ elim b as (λ (y : Kind). sameb the_type StringSynth y ≡ eqb 5 (number_of y)) [ VariableShape ↦ refl | VariableSaw ↦ refl | SuperSquare ↦ refl | NesTriangle ↦ refl | StringSynth ↦ refl | Classic ↦ refl ]
  | Classic ↦ elim b as (λ (y : Kind). sameb the_type Classic y ≡ eqb 6 (number_of y)) [ VariableShape ↦ refl | VariableSaw ↦ refl | SuperSquare ↦ refl | NesTriangle ↦ refl | StringSynth ↦ refl | Classic ↦ refl ]
]

pub returns : goal.returns
unfolding byte_used
returns c =
    let kind = c.args.kind in
    let shape = c.eq-shape.ensures ∙ same kind VariableShape in
    let saw = c.eq-saw.ensures ∙ same kind VariableSaw in
    let square = c.eq-square.ensures ∙ same kind SuperSquare in
    let nes = c.eq-nes.ensures ∙ same kind NesTriangle in
    let string = c.eq-string.ensures ∙ same kind StringSynth in
    let classic = c.eq-classic.ensures ∙ same kind Classic in
    rw (shape, saw, square, nes, string, classic, c.among.ensures, c.among-2.ensures, c.among-3.ensures, c.among-4.ensures, c.among-5.ensures, c.among-6.ensures, c.among-7.ensures, c.among-8.ensures, c.among-9.ensures, c.among-10.ensures)
