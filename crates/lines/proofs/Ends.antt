-- The numbers of a call's end.
use mathlib.Core.Path.{◌≡◌, ap, ◌∙◌}
use mathlib.Core.List.{List, [], ◌∷◌}
use Prim.Native.Nat.{ℕ}
use lib.ListN.{take}
use Rattle.wlan.specs.declared.Sdpcm.{Sdpcm}
use Rattle.definition.specs.Run.{End}
use Rattle.definition.specs.Player.{line, line_of, numbers, state_number}
use Rattle.session_bytes.specs.Session.{session_in}
use Rattle.run_end.specs.declared.RunEnd.{RunEnd}
use Rattle.run_end.specs.RunEnd.{number_by}
use Rattle.run_end.proofs.Laws.{number_is}
use Rattle.lines.specs.Text.{text_of, Printed}

pub numbers-are : (e : End) (log s : List ℕ) (r : RunEnd) (x : Sdpcm) (k w : ℕ) → Printed e log s r → k ≡ number_by r.kind
    → w ≡ state_number (session_in s).st.link.state → x ≡ (session_in s).st.sdpcm
    → k ∷ r.value ∷ w ∷ x.packet_tx_seq ∷ x.last_bus_data_credit ∷ x.wlan_flow_control ∷ x.requested_ioctl_id ∷ r.len ∷ [] ≡ numbers e
numbers-are e log s r x k w h ek ew ex =
    let n : k ≡ _ = ek ∙ (ap number_by h.tells.kind ∙ number_is e.outcome) in
    rw (n, h.tells.value, ew, ex, h.state, h.len)

-- the line by the numbers and the log that were there
pub line-is : (call : ℕ) (e : End) (log s ns : List ℕ) (r : RunEnd) → Printed e log s r → ns ≡ call ∷ numbers e → text_of (line ns (take r.len log)) ≡ text_of (line_of call e)
line-is call e log s ns r h en = rw (en, h.len, h.log)
