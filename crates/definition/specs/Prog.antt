-- A call as a tree of bus operations. A loop is a node: its turns are told in `Loops`, and each opens with an operation.
use Rattle.std.specs.Prelude.{ℕ, Bool, List}
use Rattle.wlan.specs.declared.DriverError.{DriverError}
use Rattle.wlan.specs.declared.PendingIoctlResp.{PendingIoctlResp}
use Rattle.wlan.specs.declared.ScanList.{ScanList}
use Rattle.wlan.specs.declared.State.{State}
use Rattle.definition.specs.Bus.{Bytes, Op, Ans}

-- what a call changes: the state, the work buffer and the scan list
pub record World : Type 0 where
  pub st : State
  pub buf : Bytes
  pub list : ScanList

abbrev pub world : State → Bytes → ScanList → World
world s b l = record { st = s; buf = b; list = l }

abbrev pub with_state : World → State → World
with_state w s = world s w.buf w.list

abbrev pub with_buf : World → Bytes → World
with_buf w b = world w.st b w.list

-- history that theorems speak of; nothing that is run depends on it
pub data Note : Type 0 where
  -- a packet came: the size that it declares, and the bytes that came
  received : ℕ → ℕ → Note
  -- the credit went up by so many
  advanced : ℕ → Note
  -- a sequence number was spent
  spent : Note
  -- a passphrase was laid into the work buffer: did a frame wait, did a stored reply
  key_laid : Bool → Bool → Note

-- how a part ended: with a value, or refused
pub data Fin (A : Type 0) : Type 0 where
  fine : A → Fin A
  failed : DriverError → Fin A

-- how a turn of a loop ended
pub data Turn (A : Type 0) : Type 0 where
  again : Turn A
  out : A → Turn A

-- the loops that only an answer ends: a stall and a reply wait with the clock at their start, and poll's
pub data Loop : Type 0 where
  stall_loop : ℕ → Loop
  reply_loop : ℕ → Loop
  poll_loop : Loop

-- what a loop hands back: a reply wait its reply, poll's whether a frame came
abbrev pub Back : Loop → Type 0
Back (stall_loop t0) = Unit {0}
Back (reply_loop t0) = PendingIoctlResp
Back poll_loop = Bool

pub data Prog (A : Type 0) : Type 0 where
  ret : A → World → Prog A
  stop : DriverError → World → Prog A
  -- an operation, and what follows its answer
  ask : Op → (Ans → Prog A) → Prog A
  -- a wait
  say : Op → Prog A → Prog A
  loop : (l : Loop) → World → (Fin (Back l) → World → Prog A) → Prog A
  note : Note → Prog A → Prog A

abbrev pub M : Type 0 → Type 0
M A = World → Prog A

unfoldable pub bind : {A B : Type 0} → Prog A → (A → World → Prog B) → Prog B
bind (ret a w) f = f a w
bind (stop e w) f = stop e w
bind (ask q k) f = ask q (λ x. bind (k x) f)
bind (say q p) f = say q (bind p f)
bind (loop l w k) f = loop l w (λ r v. bind (k r v) f)
bind (note n p) f = note n (bind p f)

infixr 20 ◌>>=◌
abbrev pub ◌>>=◌ : {A B : Type 0} → M A → (A → M B) → M B
◌>>=◌ m f = λ w. bind (m w) f

infixr 20 ◌>>◌
abbrev pub ◌>>◌ : {A B : Type 0} → M A → M B → M B
◌>>◌ m n = λ w. bind (m w) (λ a. n)

-- a refusal becomes a value, also one from inside a loop
unfoldable pub attempt : {A : Type 0} → Prog A → Prog (Fin A)
attempt (ret a w) = ret (fine a) w
attempt (stop e w) = ret (failed e) w
attempt (ask q k) = ask q (λ x. attempt (k x))
attempt (say q p) = say q (attempt p)
attempt (loop l w k) = loop l w (λ r v. attempt (k r v))
attempt (note n p) = note n (attempt p)

unfoldable pub raise : {A : Type 0} → Fin A → M A
raise (fine a) w = ret a w
raise (failed e) w = stop e w

-- after a turn: the loop once more, or what follows it
unfoldable pub turned : {A : Type 0} (l : Loop) → (Fin (Back l) → World → Prog A) → Fin (Turn (Back l)) → World → Prog A
turned l k (fine again) w = loop l w k
turned l k (fine (out b)) w = k (fine b) w
turned l k (failed e) w = k (failed e) w

-- ---- the smallest trees

-- an answer's number; a fault ends the call
unfoldable pub valued : Ans → M ℕ
valued (Ans.fault p) w = stop (DriverError.Fault p) w
valued (Ans.val n bytes) w = ret n w

unfoldable pub operate : Op → M ℕ
operate q w = ask q (λ x. valued x w)

unfoldable pub pause : ℕ → M (Unit {0})
pause ns w = say (Op.wait ns) (ret tt w)

-- a change of the state alone
abbrev pub change : (State → State) → M (Unit {0})
change f w = ret tt (with_state w (f w.st))
