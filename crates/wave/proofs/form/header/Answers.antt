-- `wave::form::header` meets its contract: four numbers in the places that are left for them. Assumes nothing.
use mathlib.Core.Path.{◌∙◌}
use Rattle.wave.specs.Form.{low_first, header_of}
use Rattle.wave.proofs.Putting.{dword_bytes}
use Rattle.wave.proofs.form.header.Goals as goal

pub returns : goal.returns
unfolding header_of low_first
returns c =
    rw (
      c.copy_from_slice.ensures.after ∙ c.to_le_bytes.ensures ∙ dword_bytes _,
      c.copy_from_slice-2.ensures.after ∙ c.to_le_bytes-2.ensures ∙ dword_bytes _,
      c.copy_from_slice-3.ensures.after ∙ c.to_le_bytes-3.ensures ∙ dword_bytes _,
      c.copy_from_slice-4.ensures.after ∙ c.to_le_bytes-4.ensures ∙ dword_bytes _,
    )
