-- Every public function's contract, as the kit reads it, determines its outcome. Assumes nothing.
use borrow.Fn.Kinds.{ended_of}
use mathlib.Core.Path.{refl}
use Rattle.floats.specs.Tightness.{Determines}
use Rattle.floats.proofs.Tightness.{coincide}
use Rattle.ranges.proofs.within
use Rattle.ranges.proofs.phase_in
use Rattle.ranges.proofs.frequency_in
use Rattle.ranges.proofs.parameter_frequency_in
use Rattle.ranges.proofs.unit_in
use Rattle.ranges.proofs.waveshape_in
use Rattle.ranges.proofs.modulation_or_gain_in
use Rattle.ranges.proofs.targets.clip
use Rattle.ranges.proofs.targets.clamp_width

pub within_tight : Determines (ended_of _ within.Kinds.ps within.Kinds.r) within.Reads.Learnt
within_tight κs a r q v w h k = (coincide h k, refl)

pub phase_in_tight : Determines (ended_of _ phase_in.Kinds.ps phase_in.Kinds.r) phase_in.Reads.Learnt
phase_in_tight κs a r q v w h k = (coincide h k, refl)

pub frequency_in_tight : Determines (ended_of _ frequency_in.Kinds.ps frequency_in.Kinds.r) frequency_in.Reads.Learnt
frequency_in_tight κs a r q v w h k = (coincide h k, refl)

pub parameter_frequency_in_tight : Determines (ended_of _ parameter_frequency_in.Kinds.ps parameter_frequency_in.Kinds.r) parameter_frequency_in.Reads.Learnt
parameter_frequency_in_tight κs a r q v w h k = (coincide h k, refl)

pub unit_in_tight : Determines (ended_of _ unit_in.Kinds.ps unit_in.Kinds.r) unit_in.Reads.Learnt
unit_in_tight κs a r q v w h k = (coincide h k, refl)

pub waveshape_in_tight : Determines (ended_of _ waveshape_in.Kinds.ps waveshape_in.Kinds.r) waveshape_in.Reads.Learnt
waveshape_in_tight κs a r q v w h k = (coincide h k, refl)

pub modulation_or_gain_in_tight : Determines (ended_of _ modulation_or_gain_in.Kinds.ps modulation_or_gain_in.Kinds.r) modulation_or_gain_in.Reads.Learnt
modulation_or_gain_in_tight κs a r q v w h k = (coincide h k, refl)

pub clip_tight : Determines (ended_of _ clip.Kinds.ps clip.Kinds.r) clip.Reads.Learnt
clip_tight κs a r q v w h k = (coincide h k, refl)

pub clamp_width_tight : Determines (ended_of _ clamp_width.Kinds.ps clamp_width.Kinds.r) clamp_width.Reads.Learnt
clamp_width_tight κs a r q v w h k = (coincide h k, refl)
