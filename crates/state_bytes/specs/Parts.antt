-- What is there or not as numbers: a tag, 0 for none, and fields, 0 where there are none.
use Rattle.std.specs.Prelude.{ℕ, eqb, Option, Some, None}
use Rattle.slices.specs.Pick.{pick}
use Rattle.slices.specs.Le.{signed32}
use Rattle.wlan.specs.declared.PendingIoctlResp.{PendingIoctlResp}
use Rattle.state_bytes.specs.declared.parts.ReplyParts.{ReplyParts}
use Rattle.state_bytes.specs.declared.parts.FrameParts.{FrameParts}
use Rattle.state_bytes.specs.declared.parts.TickParts.{TickParts}
use Rattle.state_bytes.specs.Numbers.{unsigned32}
use Rattle.wlan.specs.declared.PendingBuf.{PendingBuf}

unfoldable pub waiting_reply : PendingIoctlResp → ReplyParts
waiting_reply x = record { tag = 1; offset = x.buf.offset; len = x.buf.len; status = unsigned32 x.status }

unfoldable pub reply_parts : Option PendingIoctlResp → ReplyParts
reply_parts None = record { tag = 0; offset = 0; len = 0; status = 0 }
reply_parts (Some x) = waiting_reply x

unfoldable pub reply_of : ReplyParts → Option PendingIoctlResp
reply_of p =
    pick (eqb p.tag 0) None
    (Some (record { buf = record { offset = p.offset; len = p.len }; status = signed32 p.status }))

unfoldable pub frame_parts : Option PendingBuf → FrameParts
frame_parts None = record { tag = 0; offset = 0; len = 0 }
frame_parts (Some b) = record { tag = 1; offset = b.offset; len = b.len }

unfoldable pub frame_of : FrameParts → Option PendingBuf
frame_of p = pick (eqb p.tag 0) None (Some (record { offset = p.offset; len = p.len }))

unfoldable pub tick_parts : Option ℕ → TickParts
tick_parts None = record { tag = 0; tick = 0 }
tick_parts (Some n) = record { tag = 1; tick = n }

unfoldable pub tick_of : TickParts → Option ℕ
tick_of p = pick (eqb p.tag 0) None (Some p.tick)
