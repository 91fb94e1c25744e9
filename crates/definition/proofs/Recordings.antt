-- Calls and the words of their recordings, for sessions that are computed.
use mathlib.Core.List.{List, [], ◌∷◌, ◌++◌}
use Prim.Native.Nat.{ℕ, ◌+◌, ◌-◌, ◌*◌}
use lib.ListN.{length, replicate}
use Rattle.slices.specs.Le.{le16, packed}
use Rattle.definition.specs.Bus.{Bytes, head}
use Rattle.definition.specs.Calls.{Call}
use Rattle.definition.specs.History.{Given}

-- with a log of 64 words, and no output
abbrev pub given : Call → List ℕ → Given
given c recording = record { call = c; recording = recording; log = replicate 64 0; output = [] }

-- a packet of the declared size, channel, header length, flow and credit
abbrev pub packet_of : ℕ → ℕ → ℕ → ℕ → ℕ → Bytes → Bytes
packet_of size channel h flow credit payload =
    le16 size ++ (le16 (65535 - size) ++ (0 ∷ channel ∷ 0 ∷ h ∷ flow ∷ credit ∷ 0 ∷ 0 ∷ payload))

abbrev pub interrupt : ℕ → List ℕ
interrupt v = head 1 v ∷ []

abbrev pub status : ℕ → List ℕ
status v = head 2 0 ∷ v ∷ []

-- the packet came whole: its transfer has four bytes before it, and zeros up to a whole word after it
abbrev pub came : Bytes → List ℕ
came p = head 3 (length p) ∷ 0 ∷ packed p

abbrev pub clock : ℕ → List ℕ
clock t = head 4 0 ∷ t ∷ 0 ∷ []

abbrev pub tick : ℕ → List ℕ
tick t = head 5 0 ∷ t ∷ 0 ∷ []

abbrev pub done : List ℕ
done = head 6 0 ∷ []

-- the interrupt says that a packet waits
abbrev pub interrupted : List ℕ
interrupted = interrupt 32 ++ done

abbrev pub fault : ℕ → List ℕ
fault p = head 7 p ∷ []

-- a status word that says n bytes wait
abbrev pub waiting : ℕ → List ℕ
waiting n = status (256 + 512 * n)

-- a packet waits, and comes
abbrev pub coming : Bytes → List ℕ
coming p = waiting (length p) ++ came p

-- F2 is ready, and the write is done
abbrev pub sent : List ℕ
sent = status 32 ++ done
