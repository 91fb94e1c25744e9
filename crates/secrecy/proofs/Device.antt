-- The device poll, in two worlds that differ only in secret bytes: it goes alike, and what it returns lies in bytes that are alike.
use mathlib.Core.Path.{◌≡◌}
use mathlib.Core.Bool.{Bool, true, false, ◌&&◌}
use mathlib.Core.List.{◌++◌}
use Prim.Native.Nat.{ℕ, zero, suc, ◌+◌, ◌<◌}
use native.Mathlib.Omega.{arith}
use lib.Bits.{bit_and}
use lib.Dec.{eqb}
use lib.ListN.{take, drop, replicate, length-append, length-drop}
use Rattle.slices.specs.Pick.{pick}
use Rattle.slices.specs.Le.{le32, round4}
use Rattle.slices.proofs.Over.{length_part}
use Rattle.wlan.specs.State.{with_sdpcm, set_mark}
use Rattle.wlan.specs.declared.Sdpcm.{Sdpcm}
use Rattle.wlan.specs.declared.RxPacket.{RxPacket}
use Rattle.wlan.specs.declared.SdpcmPacket.{SdpcmPacket}
use Rattle.definition.specs.Bus.{Bytes, Op, Ans, fault, val}
use Rattle.definition.specs.Prog.{Note, ret, note, M}
use Rattle.definition.specs.Packet.{size_in, complement_in, declared}
use Rattle.definition.specs.Device.{had_packet, pending, unreadable, landed, faulted, packet_in, read_in, got_packet, arrived, by_status, status_read, status_reads, acknowledge, interrupt_read, poll_by, poll_device}
use Rattle.secrecy.proofs.Bufs.{Alike, Part}
use Rattle.secrecy.proofs.Twin.{Twin, left, right, On, twin-over, twin-moved, over-on, over-made}
use Rattle.secrecy.proofs.Packets.{Below, ReadBelow, process-below, process-same}
use Rattle.secrecy.proofs.Related.{Fits, o-same, Related, r-ret, r-stop, r-ask, r-say, r-note, r-bind, r-pick, r-valued, r-operate}
use Rattle.std.specs.Prelude.{Ok, Err}
use Rattle.wlan.specs.Results.{Received}
use Rattle.wlan.specs.declared.RxError.{RxError}

-- what a packet holds lies in bytes that are alike
abbrev pub Lies : SdpcmPacket → Twin → Type 0
Lies SdpcmPacket.None σ = Unit {0}
Lies (SdpcmPacket.Control offset len status) σ = Part offset len σ.one σ.two
Lies (SdpcmPacket.AsyncEvent offset len) σ = Part offset len σ.one σ.two
Lies (SdpcmPacket.Data offset len interface) σ = Part offset len σ.one σ.two

lies : (n : ℕ) (p : SdpcmPacket) (σ : Twin) → Below n p → ((i : ℕ) → i < n → Alike σ.one σ.two i) → Lies p σ
lies n SdpcmPacket.None σ h f = tt
lies n (SdpcmPacket.Control offset len status) σ h f = λ i u v. f i (omega arith)
lies n (SdpcmPacket.AsyncEvent offset len) σ h f = λ i u v. f i (omega arith)
lies n (SdpcmPacket.Data offset len interface) σ h f = λ i u v. f i (omega arith)

module _ (S : ℕ → Type 0) where
  -- what was alike still is
  abbrev pub Polled : SdpcmPacket → Twin → Type 0
  Polled p σ = On S σ × Lies p σ

  packet_in-rel : (n : ℕ) (r : Received) (τ : Twin) → On S τ → ReadBelow n r → ((i : ℕ) → i < n → Alike τ.one τ.two i) → Related Polled (packet_in r (left τ)) (packet_in r (right τ))
  unfolding packet_in
  packet_in-rel n (Ok p) τ s h f = r-ret τ (s, lies n p τ h f)
  packet_in-rel n (Err RxError.HeaderBeyond) τ s h f = r-stop τ

  abbrev with_sd : Sdpcm → Twin → Twin
  with_sd x τ = twin-moved τ (with_sdpcm τ.st x) τ.list τ.waiting

  -- a read packet, the same in both
  read-rel : (m : ℕ) (v v' : Bool) (x x' : RxPacket) (n n' : Note) (τ ρ : Twin) → v' ≡ v → x' ≡ x → On S τ → On S ρ → ReadBelow m x.received → ((i : ℕ) → i < m → Alike ρ.one ρ.two i)
      → Related Polled (pick v (ret SdpcmPacket.None (left τ)) (note n (read_in x (left ρ)))) (pick v' (ret SdpcmPacket.None (right τ)) (note n' (read_in x' (right ρ))))
  unfolding read_in
  read-rel m v v' x x' n n' τ ρ e e' s t h f =
      rw (e, e') (r-pick v (λ u. r-ret τ (s, tt)) (λ u. r-note n (λ w. packet_in-rel m x.received (with_sd x.sdpcm ρ) t h f)))

  got_packet-rel : (n : ℕ) (τ : Twin) → On S τ → ((i : ℕ) → i < n → Alike τ.one τ.two i) → Related Polled (got_packet n (left τ)) (got_packet n (right τ))
  unfolding got_packet
  got_packet-rel n τ s f =
      r-note (Note.received (declared τ.one) n)
      (λ u. read-rel (declared τ.one) _ _ _ _ _ _ (with_sd (set_mark τ.st.sdpcm false) τ) (with_sd (set_mark τ.st.sdpcm true) τ) empty
      (process-same n τ.one τ.two (set_mark τ.st.sdpcm true) τ.size (λ i l. τ.front i (omega arith)) (λ i l. f i (omega arith))) s s
      (process-below n τ.one (set_mark τ.st.sdpcm true)) (λ i l. f i (omega arith)))
    where
      empty : (eqb (size_in τ.two) 0 && eqb (complement_in τ.two) 0) ≡ (eqb (size_in τ.one) 0 && eqb (complement_in τ.one) 0)
      empty = rw (← τ.front 0 (omega arith), ← τ.front 1 (omega arith), ← τ.front 2 (omega arith), ← τ.front 3 (omega arith))

  arrived-rel : (n : ℕ) (x : Ans) (τ : Twin) → Fits (Op.read_packet n) x → On S τ → Related Polled (arrived n x (left τ)) (arrived n x (right τ))
  unfolding arrived landed faulted twin-over
  arrived-rel n (fault p) τ h s = r-stop (twin-over 0 (le32 (0x60000000 + n) ++ replicate (round4 n) 0) τ)
  arrived-rel n (val v T) τ h s =
      let t : Bytes = take n (drop 4 T) ++ drop n T in
      got_packet-rel n (twin-over 0 t τ) (over-on S 0 t τ s)
      (λ i l. over-made 0 t τ i (omega arith) (omega (arith, length-append (take n (drop 4 T)) (drop n T), length_part T 4 n, length-drop n T)))

  by_status-rel : (s : ℕ) (τ : Twin) → On S τ → Related Polled (by_status s (left τ)) (by_status s (right τ))
  unfolding by_status
  by_status-rel s τ h =
      let τ' : Twin = with_sd (set_mark τ.st.sdpcm false) τ in
      r-pick (eqb (bit_and s 0x100) 0) (λ e. r-ret τ' (h, tt))
      (λ e. r-pick (unreadable s)
      (λ e. r-bind _ _ (r-operate {P = λ n σ. On S σ} τ o-same (λ n. h)) (λ n σ i. r-ret (with_sd (set_mark σ.st.sdpcm false) σ) (i, tt)))
      (λ e. r-ask o-same (λ x u. arrived-rel (pending s) x τ u h)))

  -- a part goes alike
  abbrev Goes : M SdpcmPacket → Type 1
  Goes m = (τ : Twin) → On S τ → Related Polled (m (left τ)) (m (right τ))

  status_read-rel : (more : M SdpcmPacket) (s : ℕ) → Goes more → Goes (status_read more s)
  unfolding status_read
  status_read-rel more s g τ h = r-pick (eqb s 0xffffffff) (λ e. r-say (g τ h)) (λ e. by_status-rel s τ h)

  status_reads-rel : (k : ℕ) → Goes (status_reads k)
  unfolding status_reads
  status_reads-rel zero τ h = r-ret τ (h, tt)
  status_reads-rel (suc k) τ h =
      r-bind _ _ (r-operate {P = λ n σ. On S σ} τ o-same (λ n. h)) (λ s σ i. status_read-rel (status_reads k) s (status_reads-rel k) σ i)

  interrupt_read-rel : (v : ℕ) → Goes (interrupt_read v)
  unfolding interrupt_read acknowledge
  interrupt_read-rel v τ h =
      r-bind {P = λ u σ. On S σ} _ _ (r-pick (eqb v 0) (λ e. r-ret τ h) (λ e. r-bind _ _ (r-operate {P = λ n σ. On S σ} τ o-same (λ n. h)) (λ m σ i. r-ret σ i)))
      (λ u σ i. r-pick (eqb (bit_and v 0x20) 0) (λ e. r-ret σ (i, tt)) (λ e. status_reads-rel 1000 σ i))

  pub poll_by-rel : (x : Ans) → Goes (poll_by x)
  unfolding poll_by
  poll_by-rel x τ h =
      r-pick (had_packet τ.st)
      (λ e. r-bind _ _ (r-valued {P = λ n σ. On S σ} x τ (λ n. h)) (λ s σ i. status_read-rel (status_reads 999) s (status_reads-rel 999) σ i))
      (λ e. r-bind _ _ (r-valued {P = λ n σ. On S σ} x τ (λ n. h)) (λ v σ i. interrupt_read-rel v σ i))

  pub poll_device-rel : Goes poll_device
  unfolding poll_device
  poll_device-rel τ h = r-ask o-same (λ x u. poll_by-rel x τ h)
