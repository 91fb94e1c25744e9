-- A session in which the bound is met exactly, with stalls, failed writes and a rolled-back call; and one that shows why a work buffer
-- must hold bytes. The checker computes both from the definition.
use mathlib.Core.Path.{◌≡◌, refl}
use mathlib.Core.List.{List, [], ◌∷◌, ◌++◌}
use Prim.Native.Nat.{ℕ}
use lib.ListN.{replicate}
use Rattle.wlan.specs.Outcome.{refusal_of}
use Rattle.wlan.specs.State.{fresh}
use Rattle.definition.specs.Bus.{Bytes, head}
use Rattle.definition.specs.Prog.{World, world}
use Rattle.definition.specs.Calls.{Call}
use Rattle.definition.specs.History.{Given, history_of, next, folded, counted}
use Rattle.definition.specs.Credits.{Tally, tally, count}
use Rattle.definition.specs.Player.{empty_list}
use Rattle.definition.specs.Open.{opened}
use Rattle.definition.proofs.Recordings.{given, packet_of, interrupt, interrupted, status, clock, fault, waiting, coming, sent}

-- ---- calls

abbrev polling : List ℕ → Given
polling recording = given Call.wifi_poll recording

-- a frame of n bytes is sent
abbrev sending : ℕ → List ℕ → Given
sending n recording = given (Call.send_data 0 (replicate n 0)) recording

-- a packet that brings a credit and no frame
abbrev crediting : ℕ → List ℕ
crediting credit = coming (packet_of 12 2 12 0 credit [])

-- ---- what is computed of a list of calls

-- after a call: its refusal; advances, spent; the stored credit, the sequence; and what would be spent if a rolled-back call counted
abbrev row : Given → World → Tally → List ℕ
row c w g =
    let t = counted count (history_of c w) g in
    let s = (next c w).st.sdpcm in
    refusal_of (history_of c w).outcome
    ∷ t.advances
    ∷ t.spent
    ∷ s.last_bus_data_credit
    ∷ s.packet_tx_seq
    ∷ (folded count (history_of c w).notes g).spent
    ∷ []

unfoldable rows : List Given → World → Tally → List (List ℕ)
rows [] w g = []
rows (c ∷ cs) w g = row c w g ∷ rows cs (next c w) (counted count (history_of c w) g)

-- from a fresh state
abbrev table : List Given → Bytes → List (List ℕ)
table cs b = rows cs (world fresh b empty_list) (tally 0 0)

-- ---- the bound is met

session : List Given
session =
    -- the first number needs no advance: 1 spent is 1 + 0
    sending 1 sent
    -- a stall that no credit ends: 2, nothing spent
    ∷ sending 1 (clock 0 ++ (interrupt 0 ++ clock 1000001))
    -- an advance of 2
    ∷ polling (interrupted ++ crediting 3)
    -- a frame of 2,023 bytes is not written, and its number is spent
    ∷ sending 2023 []
    -- the write has no answer: rolled back, and its number is not spent
    ∷ sending 1 (status 32)
    -- a fault at the write: 3 spent is 1 + 2
    ∷ sending 1 (status 32 ++ fault 3)
    -- 21 ahead of the last credit: no advance
    ∷ polling (crediting 24)
    -- a stall that an advance of 20 ends
    ∷ sending 1 (clock 0 ++ (crediting 23 ++ sent))
    ∷ []

bound-met : table session (replicate 2048 0) ≡ (0 ∷ 0 ∷ 1 ∷ 1 ∷ 1 ∷ 1 ∷ [])
    ∷ (2 ∷ 0 ∷ 1 ∷ 1 ∷ 1 ∷ 1 ∷ [])
    ∷ (0 ∷ 2 ∷ 1 ∷ 3 ∷ 1 ∷ 1 ∷ [])
    ∷ (1 ∷ 2 ∷ 2 ∷ 3 ∷ 2 ∷ 2 ∷ [])
    ∷ (8 ∷ 2 ∷ 2 ∷ 3 ∷ 2 ∷ 3 ∷ [])
    ∷ (7 ∷ 2 ∷ 3 ∷ 3 ∷ 3 ∷ 3 ∷ [])
    ∷ (0 ∷ 2 ∷ 3 ∷ 3 ∷ 3 ∷ 3 ∷ [])
    ∷ (0 ∷ 22 ∷ 4 ∷ 23 ∷ 4 ∷ 4 ∷ [])
    ∷ []
unfolding session rows opened
bound-met = refl

-- ---- the premise is needed

-- the credit's place holds 257, which no byte is; a packet of 4 bytes leaves it there, and it is stored as no advance
unread : List Given
unread = polling (interrupted ++ (waiting 4 ++ (head 3 4 ∷ 0 ∷ 0xFFF3000C ∷ []))) ∷ sending 1 sent ∷ sending 1 sent ∷ []

byte-needed : table unread (replicate 9 0 ++ (257 ∷ replicate 2038 0)) ≡ (0 ∷ 0 ∷ 0 ∷ 257 ∷ 0 ∷ 0 ∷ []) ∷ (0 ∷ 0 ∷ 1 ∷ 257 ∷ 1 ∷ 1 ∷ []) ∷ (0 ∷ 0 ∷ 2 ∷ 257 ∷ 2 ∷ 2 ∷ []) ∷ []
unfolding unread rows opened
byte-needed = refl
