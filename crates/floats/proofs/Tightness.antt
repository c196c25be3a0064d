-- Two outcomes that satisfy one equation. Assumes nothing.
use mathlib.Core.Path.{◌≡◌, sym, ◌∙◌}

pub coincide : {A : Type 0} {x y z : A} → x ≡ z → y ≡ z → x ≡ y
coincide p q = p ∙ sym q
