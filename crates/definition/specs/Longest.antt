-- 'The longest log a poll can leave', by the words of its recording: the 65 numbers, and the statement.
use Rattle.std.specs.Prelude.{◌≡◌, List, [], ◌∷◌, ℕ, zero, suc, ◌+◌, ◌-◌, ◌*◌, ◌/◌, ◌≤◌, eqb, length, take, replicate, Err}
use Rattle.slices.specs.Pick.{pick}
use Rattle.wlan.specs.Outcome.{refusal_of}
use Rattle.wlan.specs.State.{fresh}
use Rattle.wlan.specs.declared.Refusal.{Refusal}
use Rattle.definition.specs.Bus.{Bytes, head}
use Rattle.definition.specs.Prog.{World, world}
use Rattle.definition.specs.Calls.{Call}
use Rattle.definition.specs.Run.{End, called}
use Rattle.definition.specs.Player.{empty_list}

-- ---- the numbers

-- 'For each recording length from 0 to 64 words, give the greatest number of wish words that one poll can leave'
unfoldable pub table : List ℕ
table =
    1 ∷ 2 ∷ 3 ∷ 3 ∷ 5 ∷ 5 ∷ 7 ∷ 7 ∷ 9 ∷ 9 ∷ 11 ∷ 11 ∷ 13 ∷ 13 ∷ 15 ∷ 15 ∷ 17 ∷ 17 ∷ 19 ∷ 19 ∷ 21 ∷ 21 ∷ 23 ∷ 23 ∷ 25 ∷ 25 ∷ 27 ∷ 27 ∷ 29 ∷ 29 ∷ 31 ∷ 31 ∷ 33
    ∷ 33 ∷ 35 ∷ 35 ∷ 37 ∷ 37 ∷ 39 ∷ 39 ∷ 41 ∷ 41 ∷ 43 ∷ 43 ∷ 45 ∷ 45 ∷ 47 ∷ 47 ∷ 49 ∷ 49 ∷ 51 ∷ 51 ∷ 53 ∷ 53 ∷ 55 ∷ 55 ∷ 57 ∷ 57 ∷ 59 ∷ 59 ∷ 61 ∷ 61 ∷ 63 ∷ 63 ∷ 65 ∷ []

-- the same for every length: one more than the words where they are even, as many where they are odd, and 2 for one word
unfoldable pub most : ℕ → ℕ
most n = pick (eqb n 1) 2 (2 * (n / 2) + 1)

-- ---- 'No state and recording of that length leave more.'

-- 'from any state', with any work buffer and scan list, whatever recording, log and output are lent
abbrev pub after_poll : World → List ℕ → List ℕ → Bytes → End
after_poll w recording log out = called Call.wifi_poll w recording log out

-- 'The count is the log's own length, waits included', and the unanswered last operation
abbrev pub NoMore : Type 0
NoMore = (w : World) (recording log : List ℕ) (out : Bytes) → (after_poll w recording log out).len ≤ most (length recording)

-- what a board asks: into a log of so many words every operation fits, 12 does not come
abbrev pub NeverFull : Type 0
NeverFull =
    (w : World) (recording log : List ℕ) (out : Bytes) → most (length recording) ≤ length log → (after_poll w recording log out).outcome ≡ Err Refusal.LogFull → ⊥

-- ---- 'supply a state and recording that reach it': a fresh state, and the first words of one recording

-- n statuses of 0xffffffff: to each belong two words of the log, the read and its wait
unfoldable pub busy : ℕ → List ℕ
busy zero = []
busy (suc n) = head 2 0 ∷ 0xffffffff ∷ busy n

-- an interrupt that says a packet waits, its write done, then 31 such statuses: 64 words
unfoldable pub recorded : List ℕ
recorded = head 1 0x20 ∷ head 6 0 ∷ busy 31

-- a poll of the first n of them, with a log of so many words
unfoldable pub example : ℕ → ℕ → End
example n room = after_poll (world fresh (replicate 2048 0) empty_list) (take n recorded) (replicate room 0) []

-- the log that it leaves
abbrev pub reached : ℕ → ℕ
reached n = (example n 65).len

-- its refusal where the log is one word short of that
abbrev pub short_of : ℕ → ℕ
short_of n = refusal_of (example n (reached n - 1)).outcome

-- n .. n + k - 1
unfoldable pub counting : ℕ → ℕ → List ℕ
counting n zero = []
counting n (suc k) = n ∷ counting (suc n) k

-- 0 to 64 words
abbrev pub zero_to64 : List ℕ
zero_to64 = counting 0 65
