-- 'Credits never overdrawn': what is counted, and the statement.
use Rattle.std.specs.Prelude.{◌≡◌, List, ℕ, ◌+◌, ◌-◌, ◌%◌, ◌≤◌, ◌<◌}
use Rattle.wlan.specs.State.{fresh}
use Rattle.wlan.specs.declared.ScanList.{ScanList}
use Rattle.definition.specs.Bus.{Bytes}
use Rattle.definition.specs.Prog.{World, world, Note}
use Rattle.definition.specs.Packet.{credit_in}
use Rattle.definition.specs.History.{Given, Along}

-- 'both counted from the history of packets and sends', as high as they come
pub record Tally : Type 0 where
  -- 'the sum of the credit advances accepted'
  pub advances : ℕ
  -- 'the sequence numbers spent', also on a write that failed or never began
  pub spent : ℕ

abbrev pub tally : ℕ → ℕ → Tally
tally advances spent = record { advances = advances; spent = spent }

abbrev pub count : Note → Tally → Tally
count (Note.received declared came) g = g
count (Note.advanced n) g = tally (g.advances + n) g.spent
count Note.spent g = tally g.advances (g.spent + 1)
count (Note.key_laid frame reply) g = g

-- 'the sequence numbers spent never exceed one plus the sum of the credit advances accepted'
abbrev pub Granted : Tally → Type 0
Granted g = g.spent ≤ 1 + g.advances

-- 'and the difference modulo 256 is the gap between stored credit and sequence'
abbrev pub GapIs : World → Tally → Type 0
GapIs w g = (1 + g.advances - g.spent) % 256 ≡ (w.st.sdpcm.last_bus_data_credit + 256 - w.st.sdpcm.packet_tx_seq) % 256

-- where one call hands on to the next
pub record Covered (w : World) (g : Tally) : Type 0 where
  pub granted : Granted g
  pub gap : GapIs w g

-- A read of fewer than 5 bytes leaves the credit's byte as the work buffer has it, and here a buffer's numbers may be any. That one is
-- asked to be a byte, as every number of a lent `&mut [u8]` is.
abbrev pub CreditIsByte : Bytes → Type 0
CreditIsByte b = credit_in b < 256

-- 'From a fresh state', with any scan list, over every list of calls with any recordings, logs and outputs: after each call, and
-- what is granted at every moment inside one. 'Rolled-back calls count on neither side' (`Along`).
abbrev pub NeverOverdrawn : Type 0
NeverOverdrawn = (cs : List Given) (b : Bytes) (l : ScanList) → CreditIsByte b → Along count Covered Granted cs (world fresh b l) (tally 0 0)
