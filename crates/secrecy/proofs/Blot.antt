-- What blotting leaves: the number of words, and every byte that is not hidden.
use mathlib.Core.Path.{◌≡◌, refl, ap, ◌∙◌}
use mathlib.Core.Bool.{false}
use mathlib.Core.List.{List, [], ◌∷◌, map}
use Prim.Native.Nat.{ℕ, zero, suc, ◌+◌, ◌<◌}
use native.Mathlib.Nat.{add-zero, zero-add}
use native.Mathlib.Omega.{arith}
use lib.ListN.{length, get_or, length-append}
use lib.Seq.{ext_get_or}
use Rattle.slices.specs.Pick.{pick}
use Rattle.slices.proofs.Le.{length-packed}
use Rattle.definition.specs.Bus.{Bytes, Place, Op, words_of, log_of}
use Rattle.definition.specs.Packet.{size_in}
use Rattle.definition.specs.Prog.{World}
use Rattle.definition.specs.Run.{words, called, shown}
use Rattle.definition.specs.History.{Given, end_of, history_of}
use Rattle.secrecy.specs.Secrecy.{hidden, blotted, blot, seen}

pub blotted-length : (size : ℕ) (secret : Place) (i : ℕ) (p : Bytes) → length (blotted size secret i p) ≡ length p
unfolding blotted
blotted-length size secret i [] = refl
blotted-length size secret i (x ∷ p) = ap suc (blotted-length size secret (i + 1) p)

-- byte j of a packet from its byte i on
pub blotted-byte : (size : ℕ) (secret : Place) (i : ℕ) (p : Bytes) (j : ℕ) → j < length p → get_or (blotted size secret i p) j 0 ≡ pick (hidden size secret (i + j)) 0 (get_or p j 0)
unfolding blotted
blotted-byte size secret i [] j h = absurd (omega arith)
blotted-byte size secret i (x ∷ p) zero h = rw (add-zero i)
blotted-byte size secret i (x ∷ p) (suc j) h =
    let e : i + suc j ≡ i + 1 + j = omega arith in
    rw e (blotted-byte size secret (i + 1) p j (omega arith))

-- a packet of which no byte is hidden is seen whole
pub blot-plain : (p : Bytes) (secret : Place) → ((i : ℕ) → i < length p → hidden (size_in p) secret i ≡ false) → blot (Op.write_packet p secret) ≡ Op.write_packet p secret
unfolding blot
blot-plain p secret f = ap (λ (x : Bytes). Op.write_packet x secret) (ext_get_or 0 _ _ n (λ i l. byte i (omega (arith, n))))
  where
    n : length (blotted (size_in p) secret 0 p) ≡ length p
    n = blotted-length (size_in p) secret 0 p

    byte : (i : ℕ) → i < length p → get_or (blotted (size_in p) secret 0 p) i 0 ≡ get_or p i 0
    byte i l = blotted-byte (size_in p) secret 0 p i l ∙ rw (zero-add i, f i l)

pub blot-words : (q : Op) → words (blot q) ≡ words q
unfolding blot words_of
blot-words Op.read_interrupt = refl
blot-words Op.read_status = refl
blot-words (Op.read_packet n) = refl
blot-words Op.read_clock = refl
blot-words Op.read_tick = refl
blot-words (Op.write_packet p secret) =
    let b : Bytes = blotted (size_in p) secret 0 p in
    omega (arith, length-packed b, length-packed p, blotted-length (size_in p) secret 0 p)
blot-words (Op.write_interrupt v) = refl
blot-words Op.frame_control = refl
blot-words (Op.wait ns) = refl

-- each word stands where it stood
pub blot-log : (qs : List Op) → length (log_of (map blot qs)) ≡ length (log_of qs)
unfolding log_of
blot-log [] = refl
blot-log (q ∷ qs) = omega (arith, blot-words q, blot-log qs, length-append (words_of (blot q)) (log_of (map blot qs)), length-append (words_of q) (log_of qs))

-- the log of a call that writes no hidden byte is the call's own
pub log-plain : (g : Given) (w : World) → map blot (history_of g w).ops ≡ (history_of g w).ops → (seen g w).log ≡ (end_of g w).log
unfolding seen called shown
log-plain g w e = rw e
