-- What a sample has come to, from its parts: a step that is still the state's, or a new one with a wrap or without. Assumes nothing.
use Rattle.std.proofs.Common.{◌≡◌, ℕ, Bool, true, false, not, ◌&&◌}
use lib.Ieee.{Float, le}
use Rattle.floats.specs.F32.{◌⊕◌, ◌⊗◌, half32, four32}
use Rattle.whole_part.specs.WholePart.{whole_part, is_whole}
use Rattle.nes_triangle.specs.declared.State.{State}
use Rattle.nes_triangle.specs.declared.depth.Depth.{Depth}
use Rattle.nes_triangle.specs.declared.sample.Gains.{Gains}
use Rattle.nes_triangle.specs.declared.step.Reached.{Reached}
use Rattle.nes_triangle.specs.declared.sample.Samples.{Samples}
use Rattle.nes_triangle.specs.Sample.{stepped_of, start_of, peak_of, edge_of, trough_of, sound_of}
use Rattle.nes_triangle.specs.Private.{reached_of, turned_of, reach_of}

-- whether it still ascends after the peak
abbrev ascending_of : State → Float → Bool
ascending_of s frequency = s.ascending && not (le half32 (s.phase ⊕ frequency))

module _ (d : Depth) (s : State) (g : Gains) (frequency : Float) {x : Samples} {whole : ℕ} {r : Reached}
    (at_x : x ≡ peak_of (s.ascending && le half32 (s.phase ⊕ frequency)) (s.phase ⊕ frequency) frequency (four32 ⊗ frequency ⊗ g.tri_gain) (start_of s))
    (at-whole : whole ≡ whole_part ((s.phase ⊕ frequency) ⊗ d.num_steps_f)) where
  pub reach_still : is_whole whole s.step ≡ true
      → r ≡ reached_of (record { reached = s.phase ⊕ frequency; phase = s.phase ⊕ frequency; next_step = whole; changed = false; wrap = false }) x (ascending_of s frequency)
      → r ≡ reach_of d s g frequency
  unfolding reach_of reached_of stepped_of sound_of edge_of trough_of
  reach_still same at-r = rw (at-r, at_x, at-whole, rw at-whole at same)

  pub reach_turned : is_whole whole s.step ≡ false → r ≡ turned_of d g x (ascending_of s frequency) (s.phase ⊕ frequency) whole frequency → r ≡ reach_of d s g frequency
  unfolding reach_of turned_of stepped_of sound_of
  reach_turned new at-r = rw (at-r, at_x, at-whole, rw at-whole at new)
