-- A send that nothing refuses any more: its packet, its two operations, and its end.
use Prim.Native.Nat.{ℕ, zero, suc, ◌+◌, ◌%◌, ◌≤◌, ◌<◌}
use mathlib.Core.Path.{◌≡◌, refl, ap, ◌∙◌}
use mathlib.Core.Bool.{false}
use mathlib.Core.List.{List, [], ◌∷◌}
use native.Mathlib.Nat.{le_of_suc-le-suc, not-suc-le-zero}
use native.Mathlib.Omega.{arith}
use lib.Bits.{bit_and}
use lib.Dec.{eqb}
use lib.ListN.{length, drop, set, get_or}
use Rattle.slices.specs.Over.{over}
use Rattle.slices.specs.Le.{round4}
use Rattle.slices.proofs.Over.{over-nil}
use Rattle.wlan.specs.declared.BusOp.{BusOp}
use Rattle.wlan.specs.declared.Success.{Success}
use Rattle.definition.specs.Bus.{Bytes, words_of}
use Rattle.definition.specs.Event.{event_of}
use Rattle.definition.specs.Packet.{header, data_part}
use Rattle.definition.specs.Prog.{World}
use Rattle.device.specs.Meaning.{landing}
use Rattle.send.specs.declared.SendPoint.{SendPoint}
use Rattle.send.specs.Send.{send_op, spending}
use Rattle.control.specs.declared.CallPoint.{CallPoint}
use Rattle.control.specs.Steps.{call_op}
use Rattle.control.specs.Meaning.{call_tree, call_shown, Kc, secret_at}
use Rattle.effects.specs.Answer.{is_wait}
use Rattle.session_bytes.specs.Session.{session_in, with_state}
use Rattle.places.specs.Places.{Holds}
use Rattle.going.specs.Onward.{go}
use Rattle.asking.specs.declared.Back.{Back}
use Rattle.asking.specs.Asking.{Asks, asked_of}
use Rattle.asking.proofs.Laws as asking
use Rattle.run_end.specs.RunEnd as ending
use Rattle.turning.specs.Turning as turning
use Rattle.send_call.specs.SendCall as to
use Rattle.straight_send.specs.Straight.{Answered, Straight, Both}
use Rattle.send_call.proofs.Laws.{free-starts, ends_by, valued-ends, ready-goes, write-ends}
use Rattle.std.specs.Prelude.{Ok}

-- ---- the packet

module _ {ℓ} {A : Type ℓ} where
  -- a run over the front, and one behind it
  front-first : (d s : List A) (at : ℕ) (t : List A) → length s ≤ at → over (over d 0 s) at t ≡ over (over d at t) 0 s
  unfolding over
  front-first [] s at t h = refl
  front-first (x ∷ d) [] at t h = rw (over-nil (over (x ∷ d) at t) 0) refl
  front-first (x ∷ d) (y ∷ s) zero t h = absurd (not-suc-le-zero h)
  front-first (x ∷ d) (y ∷ s) (suc at) t h = ap (λ (l : List A). y ∷ l) (front-first d s at t (le_of_suc-le-suc h))

pub packet-laid : (b : Bytes) (interface n seq : ℕ) (frame : Bytes) {f : Bytes} → f ≡ over (over b 0 (header n seq 2)) 12 (data_part interface frame) → f ≡ over (over b 12 (data_part interface frame)) 0 (header n seq 2)
unfolding header
packet-laid b interface n seq frame h =
    let e : length (header n seq 2) ≡ 12 = refl in
    h ∙ front-first b (header n seq 2) 12 (data_part interface frame) (omega arith)

-- ---- the operations

-- the status is read
status-asked : (rec log : List ℕ) (b : Bytes) → Answered rec → 0 < length log → Asks BusOp.ReadStatus rec log (set log 0 0x20000000) 0 0 b b (asked_of Back.No false (get_or rec 1 0) 2 1)
unfolding words_of landing is_wait
status-asked rec log b h l =
    asking.asks-same BusOp.ReadStatus rec log 0 0 1 b (set log 0 0x20000000) (asking.logged-one BusOp.ReadStatus log 0 0x20000000 b refl l) refl _ (λ x. refl) (asking.heard-got BusOp.ReadStatus rec 0 1 _ (get_or rec 1 0) 2 (asking.status-got rec 0 h.status h.word) refl)

-- the packet's k words are written
write-asked : (rec log log' : List ℕ) (n k : ℕ) (b : Bytes) → Answered rec → asking.Logged (BusOp.WritePacket n) log log' 1 k b → Asks (BusOp.WritePacket n) rec log log' 2 1 b b (asked_of Back.No false 0 3 (1 + k))
unfolding landing is_wait
write-asked rec log log' n k b h g =
    asking.asks-same (BusOp.WritePacket n) rec log 2 1 k b log' g refl _ (λ x. refl) (asking.heard-write rec 2 (1 + k) _ (asking.heard-got BusOp.FrameControl rec 2 (1 + k) _ 0 3 (asking.write-got rec 2 h.written) refl) n)

pub both-asked : (rec log log' : List ℕ) (n k : ℕ) (b : Bytes) → 0 < length log → asking.Logged (BusOp.WritePacket n) (set log 0 0x20000000) log' 1 k b → Answered rec → Both rec log log' n (1 + k) b
both-asked rec log log' n k b l g h = record { status = status-asked rec log b h l; write = write-asked rec (set log 0 0x20000000) log' n k b h g }

-- ---- the end

-- b and d: the session's bytes before and after; b₀ and f: the work buffer
module _ (frame : Bytes) (b d rec log log' : List ℕ) (b₀ f : Bytes) (room : ℕ) (s : Straight (length frame) b rec room) (interface seq len : ℕ) (e : World) where
  abbrev n : ℕ
  n = round4 (18 + length frame)

  says-ready : eqb (bit_and (get_or rec 1 0 % 4294967296) 0x20) 0 ≡ false
  says-ready =
      let w : get_or rec 1 0 % 4294967296 ≡ get_or rec 1 0 = omega (arith, s.answered.word) in
      rw w s.answered.ready

  -- where the status is read
  both_end : Both rec log log' n len f → turning.Ends e (go e (drop 0 rec) log 0 (call_tree (to.args_in frame) (to.asks_of (SendPoint.Ready 999 n)) (turning.world_in d f))) (ending.end_by (Ok Success.Done) len) log' d f
  unfolding call_tree call_op send_op
  both_end h =
      let a = to.args_in frame in
      let m : length frame ≤ 2030 = omega (arith, s.most) in
      let p = SendPoint.Ready 999 n in
      let q = SendPoint.Writing n in
      valued-ends BusOp.ReadStatus _ h.status e (secret_at a (CallPoint.Send p)) (λ y. Kc a (CallPoint.Send p) y (turning.world_in d f)) refl refl
      (λ y hv i hb. ends_by (ready-goes frame m p y f f i hb e (drop 2 rec) (set log 0 0x20000000) 1 999 n refl d (get_or rec 1 0) hv says-ready)
      (valued-ends (BusOp.WritePacket n) _ h.write e (secret_at a (CallPoint.Send q)) (λ y. Kc a (CallPoint.Send q) y (turning.world_in d f)) refl refl
      (λ y hv i hb. write-ends frame m q y f f i hb e (drop 3 rec) log' len n refl d 0 hv)))

  pub straight-ends : seq ≡ (session_in b).st.sdpcm.packet_tx_seq → Holds d (with_state b (spending (session_in b).st)) → f ≡ over (over b₀ 12 (data_part interface frame)) 0 (header (18 + length frame) seq 2) → Both rec log log' n len f
      → turning.Ends e (go e (drop 0 rec) log 0 (call_shown (to.args_in frame) (to.start_in interface frame b) (event_of [] 0) (turning.world_in b b₀))) (ending.end_by (Ok Success.Done) len) log' d f
  straight-ends hs hd hf h = ends_by (ap (λ t. go e (drop 0 rec) log 0 t) (free-starts frame b d interface seq b₀ s.free s.most hs hd hf)) (both_end h)
