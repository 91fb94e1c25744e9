-- 'Credits never overdrawn', of the exported functions: a history is a chain of their results.
use Rattle.std.specs.Prelude.{List, ℕ}
use contract.Lifetimes.{Lfts}
use Rattle.wlan.specs.declared.ScanList.{ScanList}
use Rattle.wlan.specs.declared.State.{State}
use Rattle.definition.specs.Prog.{World, world}
use Rattle.definition.specs.History.{Given, history_of, counted, Within}
use Rattle.definition.specs.Credits.{Tally, tally, count, Granted, Covered}
use Rattle.chains.specs.Chain.{Lent, Chain, none, more}
use Rattle.words.proofs.byte_at.Reads as byte_at
use Rattle.words.proofs.wide.Reads as wide
use Rattle.cyw43.proofs.fresh.fresh_state.Reads as fresh-state

-- Byte 9 of a lent work buffer, read by the library's own functions, which ask nothing of a caller: `wide(byte_at(buf, 9))`. By their
-- contracts it is below 256, so every lent work buffer has this.
pub record CreditRead (buf : Lent) : Type 0 where
  pub κs : Lfts 1
  pub byte : ℕ
  pub word : ℕ
  pub read : byte_at.Post κs (buf, (9, tt)) byte (buf, (9, tt))
  pub widened : wide.Post tt (byte, tt) word (byte, tt)

-- along a chain, with what was counted before it: what each call is handed and leaves, the next one's, is covered; and what is
-- granted at every moment inside a call, also in one that is rolled back later
abbrev pub Kept : {gs : List Given} {w : World} → Chain gs w → Tally → Type 0
Kept (none {w}) t = Covered w t
Kept (more {g} {w = w} r c) t = Covered w t × (Within count Granted t (history_of g w).notes × Kept c (counted count (history_of g w) t))

-- from a fresh state, any lent work buffer and any scan list
abbrev pub CallsNeverOverdrawn : Type 0
CallsNeverOverdrawn = (gs : List Given) (buf : Lent) (l : ScanList) (s : State) → fresh-state.Post tt tt s tt → CreditRead buf → (c : Chain gs (world s buf.now l)) → Kept c (tally 0 0)
