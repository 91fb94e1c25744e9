-- Running trees that differ only in secret bytes: they end alike, and their operations differ in hidden bytes alone.
use mathlib.Core.Path.{◌≡◌, refl}
use mathlib.Core.Bool.{Bool, true, false}
use mathlib.Core.List.{List, [], ◌∷◌, ◌++◌, map}
use Prim.Native.Nat.{ℕ, ◌-◌}
use native.Mathlib.Omega.{arith}
use lib.Dec.{leb, eqb}
use lib.ListN.{length, length-append}
use Rattle.slices.specs.Pick.{pick}
use Rattle.slices.proofs.Le.{length-packed}
use Rattle.wlan.specs.declared.DriverError.{DriverError}
use Rattle.wlan.specs.declared.Refusal.{Refusal}
use Rattle.definition.specs.Bus.{Bytes, Op, words_of, log_of, Answer, answers, Ans, Taken, got, wrong, taken_by}
use Rattle.definition.specs.Prog.{Note, Prog}
use Rattle.definition.specs.Poll.{Result, first}
use Rattle.definition.specs.Calls.{Call, call}
use Rattle.definition.specs.Run.{Rest, ended, refused, paused, full, Settled, at, logged, words, fitting, turning, settle, Run, rolled_back, afterwards, answered, unanswered, resumed, run, run_of}
use Rattle.secrecy.specs.Secrecy.{blot, Every, Came, Idle, SameCall}
use Rattle.secrecy.proofs.Twin.{Twin, left, right}
use Rattle.secrecy.proofs.Related.{Holds, Fits, SameOp, o-same, o-write, Related, r-ret, r-stop, r-ask, r-say, r-loop, r-note, r-bind, r-attempt, r-turned}
use Rattle.secrecy.proofs.Exchange.{Any, body-rel}
use Rattle.secrecy.proofs.Calls.{call-rel}
use Rattle.secrecy.proofs.Answers.{Whole, AllWhole, answers-whole, TakenFits, taken-fits, taken-same}
use Rattle.wlan.specs.Results.{Outcome}

-- both premises hold of a history
abbrev pub AllHold : List Note → Type 0
AllHold = Every Holds

pub all_hold : (ns : List Note) → Every Came ns → Every Idle ns → AllHold ns
all_hold [] c i = tt
all_hold (n ∷ ns) c i = ((c.0, i.0), all_hold ns c.1 i.1)

-- ---- operations

pub data SameOps : List Op → List Op → Type 0 where
  os-nil : SameOps [] []
  os-cons : {q q' : Op} {l l' : List Op} → SameOp q q' → SameOps l l' → SameOps (q ∷ l) (q' ∷ l')

words_same : {q q' : Op} → SameOp q q' → words q' ≡ words q
unfolding words_of
words_same o-same = refl
words_same (o-write {p} {p'} e f) = omega (arith, length-packed p, length-packed p')

blot-same : {q q' : Op} → SameOp q q' → blot q ≡ blot q'
blot-same o-same = refl
blot-same (o-write e f) = f

pub ops_append : {a a' b b' : List Op} → SameOps a a' → SameOps b b' → SameOps (a ++ b) (a' ++ b')
ops_append os-nil r = r
ops_append (os-cons o l) r = os-cons o (ops_append l r)

pub ops-length : {a a' : List Op} → SameOps a a' → length (log_of a) ≡ length (log_of a')
unfolding log_of
ops-length os-nil = refl
ops-length (os-cons {q} {q'} {l} {l'} o r) = omega (arith, words_same o, ops-length r, length-append (words_of q) (log_of l), length-append (words_of q') (log_of l'))

pub ops-blot : {a a' : List Op} → SameOps a a' → map blot a ≡ map blot a'
ops-blot os-nil = refl
ops-blot (os-cons o r) = rw (blot-same o, ops-blot r)

-- ---- up to the first operation that takes an answer

pub data SameRest : Rest → Rest → Type 1 where
  sr-ended : {r : Result} (τ : Twin) → SameRest (ended r (left τ)) (ended r (right τ))
  sr-refused : {e : DriverError} (τ : Twin) → SameRest (refused e (left τ)) (refused e (right τ))
  sr-paused : {room : ℕ} {q q' : Op} {k k' : Ans → Prog Result} → SameOp q q' → ((x : Ans) → Fits q x → Related Any (k x) (k' x)) → SameRest (paused room q k) (paused room q' k')
  sr-full : SameRest full full

record SameSettled (s s' : Settled) : Type 1 where
  ops : SameOps s.ops s'.ops
  rest : SameRest s.rest s'.rest

at-rel : {r r' : Rest} → SameRest r r' → SameSettled (at r) (at r')
at-rel h = record { ops = os-nil; rest = h }

-- an operation is logged in both or in none
fitting-rel : (room : ℕ) {q q' : Op} (f f' : ℕ → Settled) → SameOp q q' → (AllHold (f (room - words q)).notes → SameSettled (f (room - words q)) (f' (room - words q))) → AllHold (fitting room q f).notes → SameSettled (fitting room q f) (fitting room q' f')
fitting-rel room {q} {q'} f f' o g h = rw (words_same o) (go (leb (words q) room) h)
  where
    go : (v : Bool) → AllHold (pick v (logged q (f (room - words q))) (at full)).notes → SameSettled (pick v (logged q (f (room - words q))) (at full)) (pick v (logged q' (f' (room - words q))) (at full))
    go true h = let s = g h in record { ops = os-cons o s.ops; rest = s.rest }
    go false h = at-rel sr-full

settle-rel : (room : ℕ) {p p' : Prog Result} → Related Any p p' → AllHold (settle room p).notes → SameSettled (settle room p) (settle room p')
unfolding settle
settle-rel room (r-ret τ u) h = at-rel (sr-ended τ)
settle-rel room (r-stop τ) h = at-rel (sr-refused τ)
settle-rel room (r-ask {q} {q'} {k} {k'} o g) h = fitting-rel room (λ m. at (paused m q k)) (λ m. at (paused m q' k')) o (λ u. at-rel (sr-paused o g)) h
settle-rel room (r-say {q} {p} {p'} r) h = fitting-rel room (λ m. settle m p) (λ m. settle m p') o-same (λ u. settle-rel (room - words q) r u) h
settle-rel room (r-loop {l} {k} {k'} S τ s g) h =
    fitting-rel room (λ m. at (paused m (first l τ.st) (turning l (left τ) k))) (λ m. at (paused m (first l τ.st) (turning l (right τ) k'))) o-same
    (λ u. at-rel (sr-paused o-same (λ x f. r-bind _ _ (r-attempt (body-rel S l x τ s)) (λ r σ i. r-turned l S k k' g r σ i)))) h
settle-rel room (r-note n r) h =
    let s = settle-rel room (r h.0) h.1 in
    record { ops = s.ops; rest = s.rest }

-- ---- the whole run

pub data SameRun : Run → Run → Type 0 where
  same-run : {o : Outcome} {b : Bytes} {ops ops' : List Op} {notes notes' : List Note} (τ : Twin) → SameOps ops ops'
      → SameRun (record { outcome = o; output = b; world = left τ; ops = ops; notes = notes }) (record { outcome = o; output = b; world = right τ; ops = ops'; notes = notes' })

after-rel : (s s' : Settled) {r r' : Run} → SameOps s.ops s'.ops → SameRun r r' → SameRun (afterwards s r) (afterwards s' r')
after-rel s s' h (same-run τ l) = same-run τ (ops_append h l)

pub hold-front : (a b : List Note) → AllHold (a ++ b) → AllHold a
hold-front [] b h = tt
hold-front (n ∷ a) b h = (h.0, hold-front a b h.1)

pub hold-back : (a b : List Note) → AllHold (a ++ b) → AllHold b
hold-back [] b h = h
hold-back (n ∷ a) b h = hold-back a b h.1

unanswered-rel : (τ : Twin) {r r' : Rest} → SameRest r r' → SameRun (unanswered (left τ) r) (unanswered (right τ) r')
unanswered-rel τ (sr-ended σ) = same-run σ os-nil
unanswered-rel τ (sr-refused σ) = same-run σ os-nil
unanswered-rel τ (sr-paused o g) = same-run τ os-nil
unanswered-rel τ sr-full = same-run τ os-nil

-- what is left of two trees that go alike ends alike
abbrev Runs : (ℕ → Prog Result → Run) → (ℕ → Prog Result → Run) → Type 1
Runs go go' = (room : ℕ) (p p' : Prog Result) → Related Any p p' → AllHold (go room p).notes → SameRun (go room p) (go' room p')

answered-rel : (τ : Twin) (go go' : ℕ → Prog Result → Run) → Runs go go' → (room : ℕ) (q : Op) (k k' : Ans → Prog Result) → ((x : Ans) → Fits q x → Related Any (k x) (k' x))
    → (t : Taken) → TakenFits q t → AllHold (answered (left τ) (go room) k t).notes → SameRun (answered (left τ) (go room) k t) (answered (right τ) (go' room) k' t)
answered-rel τ go go' g room q k k' r (got x) f h = g room (k x) (k' x) (r x f) h
answered-rel τ go go' g room q k k' r wrong f h = same-run τ os-nil

resumed-rel : (τ : Twin) (a : Answer) → Whole a → (go go' : ℕ → Prog Result → Run) → Runs go go' → {r r' : Rest} → SameRest r r' → AllHold (resumed (left τ) a go r).notes → SameRun (resumed (left τ) a go r) (resumed (right τ) a go' r')
resumed-rel τ a w go go' g (sr-ended σ) h = same-run σ os-nil
resumed-rel τ a w go go' g (sr-refused σ) h = same-run σ os-nil
resumed-rel τ a w go go' g (sr-paused {room} {q} {q'} {k} {k'} o r) h =
    rw (taken-same a o) (answered-rel τ go go' g room q k k' r (taken_by q a) (taken-fits q a w) h)
resumed-rel τ a w go go' g sr-full h = same-run τ os-nil

run-rel : (τ : Twin) (l : List Answer) → AllWhole l → (room : ℕ) (p p' : Prog Result) → Related Any p p' → AllHold (run (left τ) l room p).notes → SameRun (run (left τ) l room p) (run (right τ) l room p')
unfolding run
run-rel τ [] w room p p' r h =
    let s = settle-rel room r (hold-front (settle room p).notes (unanswered (left τ) (settle room p).rest).notes h) in
    after-rel (settle room p) (settle room p') s.ops (unanswered-rel τ s.rest)
run-rel τ (a ∷ l) w room p p' r h =
    let go : ℕ → Prog Result → Run = λ m q. run (left τ) l m q in
    let rest = (resumed (left τ) a go (settle room p).rest).notes in
    let s = settle-rel room r (hold-front (settle room p).notes rest h) in
    after-rel (settle room p) (settle room p') s.ops
    (resumed-rel τ a w.0 go (λ m q. run (right τ) l m q) (λ m q q' i u. run-rel τ l w.1 m q q' i u) s.rest (hold-back (settle room p).notes rest h))

pub run_of-rel : {c c' : Call} (τ : Twin) (recording : List ℕ) (room : ℕ) → SameCall c c' → AllHold (run_of c (left τ) recording room).notes → SameRun (run_of c (left τ) recording room) (run_of c' (right τ) recording room)
unfolding run_of
run_of-rel {c} {c'} τ recording room r h = rw (← τ.size) (go (eqb (length τ.one) 2048) h)
  where
    go : (v : Bool) → AllHold (pick v (run (left τ) (answers recording) room (call c (left τ))) (rolled_back Refusal.BufferLength (left τ))).notes
        → SameRun (pick v (run (left τ) (answers recording) room (call c (left τ))) (rolled_back Refusal.BufferLength (left τ))) (pick v (run (right τ) (answers recording) room (call c' (right τ))) (rolled_back Refusal.BufferLength (right τ)))
    go true h = run-rel τ (answers recording) (answers-whole recording 0) room (call c (left τ)) (call c' (right τ)) (call-rel r τ) h
    go false h = same-run τ os-nil
