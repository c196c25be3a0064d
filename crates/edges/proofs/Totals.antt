-- Crossings, late and not late together: a rise adds one to the rises, a fall one to the falls, and where no reset is nothing is late. Assumes nothing.
use Rattle.std.proofs.Common.{◌≡◌, ℕ, zero, suc, ◌+◌, ◌≤◌, Bool, true, false, cond, not, ◌&&◌, None, arith}
use lib.Ieee.{Float, lt}
use Rattle.floats.specs.F32.{one32}
use Rattle.block.proofs.Plays.{in_32}
use Rattle.edges.specs.declared.Crossings.{Crossings}
use Rattle.edges.specs.declared.Edge.{Edge}
use Rattle.edges.specs.Counted.{rose, fell}
use Rattle.edges.specs.CrossingLoop.{turns, Crosses}

abbrev pub every_rise : Crossings → ℕ
every_rise c = c.rises + c.late_rises

abbrev pub every_fall : Crossings → ℕ
every_fall c = c.falls + c.late_falls

pub rose_more : (late : Bool) (c : Crossings) → every_rise c ≤ 1 → every_rise (rose late c) ≡ every_rise c + 1
rose_more true c h = rw (in_32 (c.rises + 0) (omega (arith, h)), in_32 (c.late_rises + 1) (omega (arith, h))) (omega arith)
rose_more false c h = rw (in_32 (c.rises + 1) (omega (arith, h)), in_32 (c.late_rises + 0) (omega (arith, h))) (omega arith)

pub fell_more : (late : Bool) (c : Crossings) → every_fall c ≤ 1 → every_fall (fell late c) ≡ every_fall c + 1
fell_more true c h = rw (in_32 (c.falls + 0) (omega (arith, h)), in_32 (c.late_falls + 1) (omega (arith, h))) (omega arith)
fell_more false c h = rw (in_32 (c.falls + 1) (omega (arith, h)), in_32 (c.late_falls + 0) (omega (arith, h))) (omega arith)

-- what a rise and a fall keep, the loop keeps, however many turns it makes
pub turns_keep : (P : Edge → Type 0) (width : Float) (rise fall : Edge → Edge) → ((e : Edge) → P e → P (rise e)) → ((e : Edge) → P e → P (fall e))
    → (k : ℕ) (e : Edge) → P e → P (turns k width rise fall e)
unfolding turns
turns_keep P width rise fall up down zero e p = p
turns_keep P width rise fall up down (suc k) e p = first (λ r q. turns_keep P width rise fall up down k (fall r) (down r q)) (not e.high && lt e.phase width)
  where
    risen : (b : Bool) → P (cond b e (rise e))
    risen true = p
    risen false = up e p

    second : ((r : Edge) → P r → P (turns k width rise fall (fall r))) → (r : Edge) → P r → (b : Bool) → P (cond b r (turns k width rise fall (fall r)))
    second more r q true = q
    second more r q false = more r q

    first : ((r : Edge) → P r → P (turns k width rise fall (fall r)))
        → (b : Bool) → P (cond b e (let r = cond e.high e (rise e) in cond (lt r.phase one32) r (turns k width rise fall (fall r))))
    first more true = p
    first more false = second more (cond e.high e (rise e)) (risen e.high) (lt (cond e.high e (rise e)).phase one32)

-- no reset, and nothing late
pub record NoReset (e : Edge) : Type 0 where
  pub free : e.reset ≡ None
  pub rises : e.crossings.late_rises ≡ 0
  pub falls : e.crossings.late_falls ≡ 0

pub loop_none_late : (x : Crosses) (k : ℕ) (e : Edge) → NoReset e → NoReset (turns k x.width x.rise x.fall e)
loop_none_late x k e h = turns_keep NoReset x.width x.rise x.fall up down k e h
  where
    up : (e : Edge) → NoReset e → NoReset (x.rise e)
    up e h =
        let r = x.rises e in
        record { free = rw (r.reset, h.free); rises = rw (r.counts, h.free, h.rises); falls = rw (r.counts, h.falls) }

    down : (e : Edge) → NoReset e → NoReset (x.fall e)
    down e h =
        let r = x.falls e in
        record { free = rw (r.reset, h.free); rises = rw (r.counts, h.rises); falls = rw (r.counts, h.free, h.falls) }
