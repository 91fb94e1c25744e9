-- `do_ioctl`.
use Rattle.std.specs.Prelude.{ℕ, ◌+◌, ◌%◌, min, Bool, true, false, ltb, eqb, ℤ, pos, negsuc, length, take, drop, Option, Some, None}
use Rattle.slices.specs.Pick.{pick}
use Rattle.slices.specs.Over.{over}
use Rattle.wlan.specs.State.{with_sdpcm, with_pending, set_id, set_reply}
use Rattle.wlan.specs.declared.DriverError.{DriverError}
use Rattle.wlan.specs.declared.PendingIoctlResp.{PendingIoctlResp}
use Rattle.wlan.specs.declared.SdpcmPacket.{SdpcmPacket}
use Rattle.definition.specs.Bus.{Bytes, Op}
use Rattle.definition.specs.Prog.{World, world, with_state, with_buf, Turn, again, out, Loop, Prog, ret, stop, say, loop, M, bind, ◌>>=◌, ◌>>◌, raise}
use Rattle.definition.specs.Event.{handled}
use Rattle.definition.specs.Request.{Request, ioctl_header}
use Rattle.definition.specs.Device.{poll_device}
use Rattle.definition.specs.Send.{elapsed, clock, response_of, send_common}

-- ---- the request

-- 'Each builder writes into the part of the buffer from byte 28 on, every byte of its declared payload.'
unfoldable pub laid : Request → World → World
laid r w = with_buf w (over w.buf 28 r.payload)

abbrev pub next_id : World → ℕ
next_id w = (w.st.sdpcm.requested_ioctl_id + 1) % 256

-- the id is spent, and the 16 bytes before the payload are laid
unfoldable pub numbered : Request → World → World
numbered r w =
    world (with_sdpcm w.st (set_id w.st.sdpcm (next_id w))) (over w.buf 12 (ioctl_header r (next_id w))) w.list

-- ---- the reply

unfoldable pub is_zero : ℤ → Bool
is_zero (pos n) = eqb n 0
is_zero (negsuc n) = false

-- `finish_ioctl_resp`: 3, then 11; the part that was asked for is copied to byte 28
unfoldable pub finished : ℕ → PendingIoctlResp → M (Unit {0})
finished len r w =
    let offset = r.buf.offset in
    let n = min len r.buf.len in
    pick (is_zero r.status)
    (pick (ltb 2048 (offset + n)) (stop DriverError.PastBuffer w) (ret tt (with_buf w (over w.buf 28 (take n (drop offset w.buf))))))
    (stop DriverError.Io w)

-- a turn after its poll: the reply, or a wait of 10,000 ns
unfoldable pub reply_turn : SdpcmPacket → M (Turn PendingIoctlResp)
reply_turn SdpcmPacket.None w = say (Op.wait 10000) (ret again w)
reply_turn (SdpcmPacket.Control offset len status) w = ret (out (response_of offset len status)) w
reply_turn (SdpcmPacket.AsyncEvent offset len) w = say (Op.wait 10000) (ret again (handled offset len w))
reply_turn (SdpcmPacket.Data offset len interface) w = say (Op.wait 10000) (ret again w)

-- 'then polls while elapsed is below 500,000 µs'
unfoldable pub in_time : ℕ → ℕ → M (Turn PendingIoctlResp)
in_time t0 t w = pick (ltb (elapsed t0 t) 500000) ((poll_device >>= reply_turn) w) (stop DriverError.Timeout w)

abbrev pub awaited : ℕ → M PendingIoctlResp
awaited t0 w = loop (Loop.reply_loop t0) w raise

abbrev pub no_reply : World → World
no_reply w = with_state w (with_pending w.st (set_reply w.st.pending None))

-- '`do_ioctl` first uses a stored reply, whatever id it had'
unfoldable pub reply : Option PendingIoctlResp → M PendingIoctlResp
reply None w = (clock >>= awaited) w
reply (Some r) w = ret r (no_reply w)

-- ---- `do_ioctl`, the payload already laid

unfoldable pub do_ioctl : Request → M (Unit {0})
do_ioctl r w =
    (send_common 0 (16 + length r.payload) r.secret
    >> ((λ v. reply v.st.pending.ioctl_resp v)
    >>= finished (length r.payload)))
    (numbered r w)

-- a request, laid and exchanged
unfoldable pub exchange : Request → M (Unit {0})
exchange r w = do_ioctl r (laid r w)
