-- 'The longest log a poll can leave', of the C entry: what `cyw43_poll` returns and leaves, as its own contract states it.
use Rattle.std.specs.Prelude.{◌≡◌, List, ℕ, ◌≤◌, length, get_or}
use contract.Lifetimes.{Lfts}
use Rattle.std.specs.Borrow.{Bor, MutBor}
use Rattle.definition.specs.Longest.{most}
use Rattle.cyw43_c.proofs.entries.cyw43_poll.Reads as cyw43-poll

-- a lent slice; `now` of it is its list
abbrev pub Lent : Type 0
Lent = Bor (List ℕ)

-- one lent to be written
abbrev pub LentMut : Type 0
LentMut = MutBor (List ℕ)

-- what a board lends
pub record Slices : Type 0 where
  pub session : LentMut
  pub undo : LentMut
  pub rec : Lent
  pub log : LentMut
  pub buf : LentMut
  pub result : LentMut

abbrev pub lent : Slices → LentMut × (LentMut × (Lent × (LentMut × (LentMut × (LentMut × Unit {0})))))
lent x = (x.session, (x.undo, (x.rec, (x.log, (x.buf, (x.result, tt))))))

-- the entry, called with x, has returned r and left y
abbrev pub Polled : Lfts 6 → Slices → ℕ → Slices → Type 0
Polled κs x r y = cyw43-poll.Post κs (lent x) r (lent y)

-- the bound for its recording
abbrev pub longest : Slices → ℕ
longest x = most (length x.rec.now)

-- a log of so many words is never too short: 12 is not returned
abbrev pub EntryNeverFull : Type 0
EntryNeverFull = (κs : Lfts 6) (x : Slices) (r : ℕ) (y : Slices) → Polled κs x r y → longest x ≤ length x.log.now → r ≡ 12 → ⊥

-- result[1], the words of the log, is no more; 100 leaves it as it was
abbrev pub EntryNoMore : Type 0
EntryNoMore = (κs : Lfts 6) (x : Slices) (r : ℕ) (y : Slices) → Polled κs x r y → 2 ≤ length x.result.now → (r ≡ 100 → ⊥) → get_or y.result.now 1 0 ≤ longest x
