use Rattle.std.proofs.Common.{append_assoc}
use Rattle.scenario_image.proofs.saving.put_link.Goals as goal

pub returns : goal.returns
returns c =
    rw (c.in_ok-put_lose.ensures, c.in_ok-put_u8-2.ensures, c.in_ok-put_codel.ensures, c.in_ok-put_u16-3.ensures, c.in_ok-put_u8.ensures, c.in_ok-put_u64-2.ensures, c.in_ok-put_u64.ensures, c.in_ok-put_u16-2.ensures, c.in_ok-put_u16.ensures, c.queue_byte.ensures, c.len.ensures, c.as_slice.ensures.value)
    (simp append_assoc)
