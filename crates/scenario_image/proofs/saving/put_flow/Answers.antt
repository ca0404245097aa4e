use Rattle.std.proofs.Common.{append_assoc}
use Rattle.scenario_image.proofs.saving.put_flow.Goals as goal

pub returns : goal.returns
returns c =
    rw (c.in_ok-put_u8.ensures, c.byte_of.ensures, c.in_ok-put_u32-3.ensures, c.in_ok-put_u32-2.ensures, c.in_ok-put_u64.ensures, c.in_ok-put_u32.ensures, c.in_ok-put_u16-3.ensures, c.in_ok-put_u16-2.ensures, c.in_ok-put_u16.ensures)
    (simp append_assoc)
