use Prim.Native.Nat.{◌+◌, ◌*◌}
use mathlib.Core.Path.{refl}
use lib.ListN.{length}
use Rattle.slices.proofs.Over as o
use Rattle.slices.specs.Le.{le32}
use Rattle.requests.specs.Number.{numbers, payload_length}
use Rattle.requests.proofs.Number.{header_is}
use Rattle.work_buffer.proofs.put_ioctl_header.Goals as goal

pub returns : goal.returns
returns c =
    let a = c.args in
    let r₁ = o.run_more (le32 (numbers a.r).cmd) o.run_none refl (rw c.request_cmd.ensures at c.put_le32.ensures) in
    let r₂ = o.run_more (le32 (payload_length a.r (length a.first.now) (length a.second.now))) r₁ refl (rw c.payload_len.ensures at c.put_low32.ensures) in
    let r₃ = o.run_more (le32 (a.id * 65536 + (numbers a.r).interface * 4096 + (numbers a.r).kind)) r₂ refl (rw c.flags.ensures at c.put_low32-2.ensures) in
    rw (← header_is) (o.run_more (le32 0) r₃ refl c.put_le32-2.ensures).is
