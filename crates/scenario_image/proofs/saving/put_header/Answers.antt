use Rattle.std.proofs.Common.{append_assoc}
use Rattle.scenario_image.proofs.saving.put_header.Goals as goal

pub returns : goal.returns
returns c =
    rw (c.in_ok-put_u32.ensures, c.in_ok-put_u16-3.ensures, c.in_ok-put_u16-2.ensures, c.in_ok-put_u16.ensures, c.in_ok-put_u64.ensures, c.in_ok-extend_from_slice.ensures.items, c.len.ensures, c.len-2.ensures, c.len-3.ensures, c.len-4.ensures)
    (simp append_assoc)
