-- Sending, in two worlds that differ only in secret bytes: the packets differ in hidden bytes alone.
use mathlib.Core.Path.{◌≡◌, refl, sym, ap, ◌∙◌}
use mathlib.Core.Bool.{Bool, true, false, ◌&&◌, ◌||◌, true≢false}
use mathlib.Core.List.{[], ◌∷◌}
use Prim.Native.Nat.{ℕ, zero, suc, ◌+◌, ◌%◌, ◌≤◌, ◌<◌}
use native.Mathlib.Nat.{zero-add}
use native.Mathlib.Omega.{arith}
use borrow.Author.Tests.{leb-false, le-leb, lt-ltb}
use lib.Bits.{bit_and}
use lib.Dec.{ltb, leb, eqb}
use lib.IntN.{ℤ}
use lib.ListN.{length, take, drop, length-take}
use lib.Seq.{get_or-take}
use Rattle.slices.specs.Pick.{pick}
use Rattle.slices.specs.Over.{over}
use Rattle.slices.specs.Le.{round4}
use Rattle.wlan.specs.State.{with_sdpcm, with_pending, with_scan, with_link, set_seq, set_reply}
use Rattle.wlan.specs.declared.AsyncEvent.{AsyncEvent}
use Rattle.wlan.specs.declared.SdpcmPacket.{SdpcmPacket}
use Rattle.definition.specs.Bus.{Bytes, Place, Op}
use Rattle.definition.specs.Prog.{World, Note, Turn, Loop, Prog}
use Rattle.definition.specs.Packet.{size_in, header}
use Rattle.definition.specs.Event.{event_bytes, event_of, scan_after, link_after, list_after, after, handled}
use Rattle.definition.specs.Send.{elapsed, clock, free, response_of, still_stalled, stall_test, stall_turn, until_free, until_ready, written, emitted, send_common}
use Rattle.secrecy.specs.Secrecy.{hidden, blot}
use Rattle.secrecy.proofs.Bufs.{Alike, Part, part-alike, blotted-same}
use Rattle.secrecy.proofs.Twin.{Twin, left, right, On, twin-over, twin-moved, over-on}
use Rattle.secrecy.proofs.Related.{SameOp, o-same, o-write, BackP, TurnP, Related, r-ret, r-stop, r-say, r-loop, r-note, r-bind, r-weaken, r-pick, r-raise, r-operate}
use Rattle.secrecy.proofs.Device.{Lies}
use Rattle.std.specs.Prelude.{Some}

-- ---- events

event-same : (part part' : Bytes) (len : ℕ) → take len part ≡ take len part' → event_of part' len ≡ event_of part len
unfolding event_of event_bytes
event-same part part' len e = rw e

-- what follows an event, if it goes alike wherever what was alike still is
pub handled-rel : {A : Type 0} {P : A → Twin → Type 0} (S : ℕ → Type 0) (f f' : World → Prog A) (offset len : ℕ) (τ : Twin) → Part offset len τ.one τ.two → On S τ
    → ((σ : Twin) → On S σ → Related P (f (left σ)) (f' (right σ))) → Related P (f (handled offset len (left τ))) (f' (handled offset len (right τ)))
unfolding handled
handled-rel {A} {P} S f f' offset len τ l s g =
    rw (event-same (drop offset τ.one) (drop offset τ.two) len (part-alike τ.one τ.two offset len τ.size l)) (go (ltb len 48))
  where
    e : AsyncEvent
    e = event_of (drop offset τ.one) len

    go : (v : Bool) → Related P (f (pick v (left τ) (after e (left τ)))) (f' (pick v (right τ) (after e (right τ))))
    go true = g τ s
    go false = g (twin-moved τ (with_link (with_scan τ.st (scan_after e τ.st.scan)) (link_after e τ.st.link)) (list_after e τ.list) τ.waiting) s

-- ---- a written packet

-- the places of a packet that are compared
abbrev pub Open : ℕ → Place → ℕ → Type 0
Open size secret i = (i < size) × (secret.from ≤ i → i < secret.from + secret.count → ⊥)

shown-open : (n size : ℕ) (secret : Place) (i : ℕ) → n ≤ size → hidden n secret i ≡ false → Open size secret i
unfolding hidden
shown-open n size secret i l e =
    (omega (arith, leb-false n i both.0), λ h u. both.1 (le-leb _ _ h) (lt-ltb _ _ u))
  where
    or : (x y z : Bool) → (x || (y && z)) ≡ false → (x ≡ false) × (y ≡ true → z ≡ true → ⊥)
    or true y z e = absurd (true≢false e)
    or false true true e = absurd (true≢false e)
    or false true false e = (refl, λ h u. true≢false (sym u))
    or false false z e = (refl, λ h u. true≢false (sym h))

    both : (leb n i ≡ false) × (leb secret.from i ≡ true → ltb i (secret.from + secret.count) ≡ true → ⊥)
    both = or (leb n i) (leb secret.from i) (ltb i (secret.from + secret.count)) e

-- the header says the size, or the buffer is too short for it
size-sent : (b : Bytes) (size seq channel : ℕ) → 12 ≤ size → size_in (take (round4 size) (over b 0 (header size seq channel))) ≤ size
unfolding over header
size-sent b size seq channel h =
    rw (get_or-take (round4 size) (over b 0 (header size seq channel)) 0 0 (omega arith), get_or-take (round4 size) (over b 0 (header size seq channel)) 1 0 (omega arith)) (go b)
  where
    go : (b : Bytes) → size_in (over b 0 (header size seq channel)) ≤ size
    go [] = omega arith
    go (x ∷ []) = omega arith
    go (x ∷ y ∷ b) = omega arith

write_same : (size : ℕ) (secret : Place) (τ : Twin) → 12 ≤ size → size_in (take (round4 size) τ.one) ≤ size → On (Open size secret) τ → SameOp (Op.write_packet (take (round4 size) τ.one) secret) (Op.write_packet (take (round4 size) τ.two) secret)
unfolding blot
write_same size secret τ h l s = o-write same_length same-packet
  where
    p : Bytes
    p = take (round4 size) τ.one

    p' : Bytes
    p' = take (round4 size) τ.two

    same_length : length p ≡ length p'
    same_length = rw (length-take (round4 size) τ.one, length-take (round4 size) τ.two, τ.size)

    at : (j : ℕ) → j < round4 size → Alike τ.one τ.two j → Alike p p' j
    at j u e = get_or-take (round4 size) τ.one j 0 u ∙ e ∙ sym (get_or-take (round4 size) τ.two j 0 u)

    byte : (j : ℕ) → Open size secret j → Alike p p' j
    byte j o = at j (omega arith) (s j o)

    same_size : size_in p' ≡ size_in p
    same_size = rw (← at 0 (omega arith) (τ.front 0 (omega arith)), ← at 1 (omega arith) (τ.front 1 (omega arith)))

    same-packet : blot (Op.write_packet p secret) ≡ blot (Op.write_packet p' secret)
    same-packet =
        rw same_size (ap (λ (x : Bytes). Op.write_packet x secret) (blotted-same (size_in p) secret 0 p p' same_length (λ j e. byte j (shown-open (size_in p) size secret j l (rw (zero-add j) at e)))))

-- ---- the parts

module _ (S : ℕ → Type 0) where
  -- what was alike still is
  abbrev pub Kept : {A : Type 0} → A → Twin → Type 0
  Kept a σ = On S σ

  abbrev pub Turned : (l : Loop) → Turn (Rattle.definition.specs.Prog.Back l) → Twin → Type 0
  Turned l t σ = On S σ × TurnP l t σ

  pub r-clock : (τ : Twin) → On S τ → Related Kept (clock (left τ)) (clock (right τ))
  r-clock τ s = r-operate τ o-same (λ n. s)

  stall_test-rel : (t0 : ℕ) (τ : Twin) → On S τ → Related (Turned (Loop.stall_loop t0)) (stall_test t0 (left τ)) (stall_test t0 (right τ))
  unfolding stall_test still_stalled
  stall_test-rel t0 τ s =
      r-pick (free τ.st) (λ e. r-ret τ (s, tt))
      (λ e. r-bind _ _ (r-clock τ s) (λ t σ i. r-pick (ltb 1000000 (elapsed t0 t)) (λ e. r-stop σ) (λ e. r-say (r-ret σ (i, tt)))))

  -- a stored reply lies in bytes that are alike
  abbrev pub stored : (offset len : ℕ) (status : ℤ) (τ : Twin) → Part offset len τ.one τ.two → Twin
  stored offset len status τ l =
      twin-moved τ (with_pending τ.st (set_reply τ.st.pending (Some (response_of offset len status)))) τ.list
      (record { frame = τ.waiting.frame; reply = l })

  pub stall_turn-rel : (t0 : ℕ) (p : SdpcmPacket) (τ : Twin) → On S τ → Lies p τ → Related (Turned (Loop.stall_loop t0)) (stall_turn t0 p (left τ)) (stall_turn t0 p (right τ))
  unfolding stall_turn
  stall_turn-rel t0 SdpcmPacket.None τ s l = stall_test-rel t0 τ s
  stall_turn-rel t0 (SdpcmPacket.Control offset len status) τ s l = r-ret (stored offset len status τ l) (s, tt)
  stall_turn-rel t0 (SdpcmPacket.AsyncEvent offset len) τ s l = handled-rel S (stall_test t0) (stall_test t0) offset len τ l s (λ σ i. stall_test-rel t0 σ i)
  stall_turn-rel t0 (SdpcmPacket.Data offset len interface) τ s l = stall_test-rel t0 τ s

  until_free-rel : (τ : Twin) → On S τ → Related Kept (until_free (left τ)) (until_free (right τ))
  unfolding until_free
  until_free-rel τ s =
      r-pick (free τ.st) (λ e. r-ret τ s)
      (λ e. r-bind _ _ (r-clock τ s) (λ t σ i. r-loop S σ i (λ r ρ v. r-weaken (λ a τ h. h.0) (r-raise {P = λ b σ. On S σ × BackP (Loop.stall_loop t) b σ} r ρ v))))

  module _ (size : ℕ) (secret : Place) (le : 12 ≤ size) (sub : (i : ℕ) → Open size secret i → S i) where
    -- and the header is laid
    abbrev Ready : Twin → Type 0
    Ready σ = On S σ × (size_in (take (round4 size) σ.one) ≤ size)

    abbrev Headed : {A : Type 0} → A → Twin → Type 0
    Headed a σ = Ready σ

    until_ready-rel : (k : ℕ) (τ : Twin) → Ready τ → Related Headed (until_ready k (left τ)) (until_ready k (right τ))
    unfolding until_ready
    until_ready-rel zero τ h = r-stop τ
    until_ready-rel (suc k) τ h =
        r-bind {P = Headed} _ _ (r-operate τ o-same (λ n. h)) (λ s σ i. r-pick (eqb (bit_and s 0x20) 0) (λ e. until_ready-rel k σ i) (λ e. r-ret σ i))

    emitted-rel : (τ : Twin) → Ready τ → Related Kept (emitted size secret (left τ)) (emitted size secret (right τ))
    unfolding emitted written
    emitted-rel τ h =
        r-pick (ltb 2040 (round4 size)) (λ e. r-stop τ)
        (λ e. r-bind _ _ (until_ready-rel 1000 τ h)
        (λ u σ i. r-bind {P = Kept} _ _ (r-operate σ (write_same size secret σ le i.1 (λ j o. i.0 j (sub j o))) (λ n. i.0)) (λ n ρ j. r-ret ρ j)))

  pub send_common-rel : (channel len : ℕ) (secret : Place) → ((i : ℕ) → Open (12 + len) secret i → S i) → (τ : Twin) → On S τ → Related Kept (send_common channel len secret (left τ)) (send_common channel len secret (right τ))
  unfolding send_common twin-over
  send_common-rel channel len secret sub τ s =
      r-bind _ _ (until_free-rel τ s)
      (λ u σ i. r-note Note.spent (λ v. emitted-rel (12 + len) secret (omega arith) sub (laid σ) (over-on S 0 (head σ) σ i, size-sent σ.one (12 + len) σ.st.sdpcm.packet_tx_seq channel (omega arith))))
    where
      head : Twin → Bytes
      head σ = header (12 + len) σ.st.sdpcm.packet_tx_seq channel

      laid : Twin → Twin
      laid σ =
          let ρ = twin-over 0 (head σ) σ in
          twin-moved ρ (with_sdpcm σ.st (set_seq σ.st.sdpcm ((σ.st.sdpcm.packet_tx_seq + 1) % 256))) σ.list ρ.waiting
