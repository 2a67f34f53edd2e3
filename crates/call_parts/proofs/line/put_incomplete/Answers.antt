use Rattle.std.proofs.Common.{append_assoc, refl}
use Rattle.call_parts.proofs.line.put_incomplete.Goals as goal

pub returns : goal.returns
returns c =
    rw (c.in_ok-extend_from_slice-3.ensures.items, c.in_ok-extend_from_slice-2.ensures.items, c.in_ok-extend_from_slice.ensures.items, c.as_bytes.ensures.value, c.part_text.ensures)
    (simp append_assoc refl)
