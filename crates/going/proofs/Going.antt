-- A tree's run, node by node.
use mathlib.Core.Path.{◌≡◌, refl, sym, ap, ◌∙◌}
use mathlib.Core.Bool.{Bool, true, false}
use mathlib.Core.List.{List, [], ◌∷◌, ◌++◌}
use Prim.Native.Nat.{ℕ, ◌+◌, ◌-◌, ◌≤◌}
use native.Mathlib.Omega.{arith}
use lib.Dec.{leb}
use lib.ListN.{length, drop, length-append}
use Rattle.slices.specs.Pick.{pick}
use Rattle.slices.specs.Over.{over}
use Rattle.slices.proofs.Over.{length_over, over-append}
use Rattle.wlan.specs.declared.DriverError.{DriverError}
use Rattle.wlan.specs.declared.Refusal.{Refusal}
use Rattle.definition.specs.Bus.{Bytes, Op, words_of, log_of, Answer, answers, Ans, Taken, got, wrong, taken_by}
use Rattle.definition.specs.Prog.{World, Prog, ret, stop, ask, say, loop, note}
use Rattle.definition.specs.Poll.{Result}
use Rattle.definition.specs.Run as def
use Rattle.definition.specs.Run.{End, Settled, settle, words, run, finished, rolled_back, answered, unanswered, resumed, afterwards}
use Rattle.definition.proofs.Compose.{unroll}
use Rattle.going.specs.Onward.{finish, go, heard}
use Rattle.std.specs.Prelude.{Ok, Err}

-- ---- the front opened

settle-ops : (room : ℕ) (p : Prog Result) → (settle room (unroll p)).ops ≡ (settle room p).ops
unfolding settle unroll
settle-ops room (ret r w) = refl
settle-ops room (stop e w) = refl
settle-ops room (ask q k) = refl
settle-ops room (say q p) = refl
settle-ops room (loop l w k) = refl
settle-ops room (note n p) = settle-ops room p

settle-rest : (room : ℕ) (p : Prog Result) → (settle room (unroll p)).rest ≡ (settle room p).rest
unfolding settle unroll
settle-rest room (ret r w) = refl
settle-rest room (stop e w) = refl
settle-rest room (ask q k) = refl
settle-rest room (say q p) = refl
settle-rest room (loop l w k) = refl
settle-rest room (note n p) = settle-rest room p

-- no note is shown
finish-quiet : (log : List ℕ) (len : ℕ) (s t : Settled) (f : def.Rest → def.Run) → s.ops ≡ t.ops → s.rest ≡ t.rest → finish log len (afterwards s (f s.rest)) ≡ finish log len (afterwards t (f t.rest))
unfolding finish
finish-quiet log len s t f o r = rw (o, r)

module _ (e : World) where
  run-unroll : (more : List Answer) (room : ℕ) (log : List ℕ) (len : ℕ) (p : Prog Result) → finish log len (run e more room (unroll p)) ≡ finish log len (run e more room p)
  unfolding run
  run-unroll [] room log len p = finish-quiet log len (settle room (unroll p)) (settle room p) (unanswered e) (settle-ops room p) (settle-rest room p)
  run-unroll (a ∷ more) room log len p =
      finish-quiet log len (settle room (unroll p)) (settle room p) (resumed e a (λ left q. run e more left q)) (settle-ops room p) (settle-rest room p)

  pub go-unroll : (ws log : List ℕ) (len : ℕ) (p : Prog Result) → go e ws log len (unroll p) ≡ go e ws log len p
  unfolding go
  go-unroll ws log len p = run-unroll (answers ws) (length log - len) log len p

  -- ---- the ends

  pub run_ret : (more : List Answer) (room : ℕ) (r : Result) (w : World) → run e more room (ret r w) ≡ finished (Ok r.success) r.output w
  unfolding run settle
  run_ret [] room r w = refl
  run_ret (a ∷ more) room r w = refl

  pub go-ret : (ws log : List ℕ) (len : ℕ) (r : Result) (w : World) → go e ws log len (ret r w) ≡ finish log len (finished (Ok r.success) r.output w)
  unfolding go
  go-ret ws log len r w = ap (finish log len) (run_ret (answers ws) (length log - len) r w)

  pub run-stop : (more : List Answer) (room : ℕ) (x : DriverError) (w : World) → run e more room (stop x w) ≡ finished (Err (Refusal.Driver x)) [] w
  unfolding run settle
  run-stop [] room x w = refl
  run-stop (a ∷ more) room x w = refl

  pub go-stop : (ws log : List ℕ) (len : ℕ) (x : DriverError) (w : World) → go e ws log len (stop x w) ≡ finish log len (finished (Err (Refusal.Driver x)) [] w)
  unfolding go
  go-stop ws log len x w = ap (finish log len) (run-stop (answers ws) (length log - len) x w)

-- ---- an operation in the log

-- a run after an operation that was logged
abbrev after : Op → def.Run → def.Run
after q r = record { outcome = r.outcome; output = r.output; world = r.world; ops = q ∷ r.ops; notes = r.notes }

pub finish-after : (log : List ℕ) (len : ℕ) (q : Op) (r : def.Run) → finish log len (after q r) ≡ finish (over log len (words_of q)) (len + words q) r
unfolding finish log_of
finish-after log len q r =
    let n : len + length (words_of q ++ log_of r.ops) ≡ len + words q + length (log_of r.ops) = omega (arith, length-append (words_of q) (log_of r.ops)) in
    rw (over-append log len (words_of q) (log_of r.ops), n)

-- the room that is left
room-left : (log : List ℕ) (len n : ℕ) (s : List ℕ) → length (over log len s) - (len + n) ≡ length log - len - n
room-left log len n s = omega (arith, length_over log len s)

module _ (e : World) (log : List ℕ) (len : ℕ) (q : Op) where
  abbrev log' : List ℕ
  log' = over log len (words_of q)

  abbrev len' : ℕ
  len' = len + words q

  -- 12
  abbrev full_or : End → End
  full_or x = pick (leb (words q) (length log - len)) x (finish log len (rolled_back Refusal.LogFull e))

  answered-after : (go go' : Prog Result → def.Run) (k : Ans → Prog Result) (t : Taken) → ((p : Prog Result) → go p ≡ go' p) → finish log len (after q (answered e go k t)) ≡ finish log' len' (answered e go' k t)
  answered-after go go' k (got x) h = finish-after log len q (go (k x)) ∙ ap (finish log' len') (h (k x))
  answered-after go go' k wrong h = finish-after log len q (rolled_back Refusal.WrongAnswer e)

  run-ask : (more : List Answer) (k : Ans → Prog Result) → finish log len (run e more (length log - len) (ask q k)) ≡ full_or (heard e more log' len' q k)
  unfolding run settle heard
  run-ask [] k = by (leb (words q) (length log - len))
    where
      by : (b : Bool) → finish log len (afterwards (pick b (def.logged q (def.at (def.paused (length log - len - words q) q k))) (def.at def.full)) (unanswered e (pick b (def.logged q (def.at (def.paused (length log - len - words q) q k))) (def.at def.full)).rest)) ≡ pick b (finish log' len' (rolled_back Refusal.Unrecorded e)) (finish log len (rolled_back Refusal.LogFull e))
      by true = finish-after log len q (rolled_back Refusal.Unrecorded e)
      by false = refl
  run-ask (a ∷ more) k = by (leb (words q) (length log - len))
    where
      by : (b : Bool) → finish log len (afterwards (pick b (def.logged q (def.at (def.paused (length log - len - words q) q k))) (def.at def.full)) (resumed e a (λ left p. run e more left p) (pick b (def.logged q (def.at (def.paused (length log - len - words q) q k))) (def.at def.full)).rest)) ≡ pick b (finish log' len' (answered e (λ p. run e more (length log' - len') p) k (taken_by q a))) (finish log len (rolled_back Refusal.LogFull e))
      by true =
          answered-after (λ p. run e more (length log - len - words q) p) (λ p. run e more (length log' - len') p) k (taken_by q a) (λ p. ap (λ n. run e more n p) (sym (room-left log len (words q) (words_of q))))
      by false = refl

  -- an operation that takes an answer
  pub go-ask : (ws : List ℕ) (k : Ans → Prog Result) → go e ws log len (ask q k) ≡ full_or (heard e (answers ws) log' len' q k)
  unfolding go
  go-ask ws k = run-ask (answers ws) k

  run-say : (more : List Answer) (p : Prog Result) → finish log len (run e more (length log - len) (say q p)) ≡ full_or (finish log' len' (run e more (length log' - len') p))
  unfolding run settle
  run-say [] p = by (leb (words q) (length log - len))
    where
      by : (b : Bool) → finish log len (afterwards (pick b (def.logged q (settle (length log - len - words q) p)) (def.at def.full)) (unanswered e (pick b (def.logged q (settle (length log - len - words q) p)) (def.at def.full)).rest)) ≡ pick b (finish log' len' (run e [] (length log' - len') p)) (finish log len (rolled_back Refusal.LogFull e))
      by true = rw (room-left log len (words q) (words_of q)) (finish-after log len q (run e [] (length log - len - words q) p))
      by false = refl
  run-say (a ∷ more) p = by (leb (words q) (length log - len))
    where
      by : (b : Bool) → finish log len (afterwards (pick b (def.logged q (settle (length log - len - words q) p)) (def.at def.full)) (resumed e a (λ left p. run e more left p) (pick b (def.logged q (settle (length log - len - words q) p)) (def.at def.full)).rest)) ≡ pick b (finish log' len' (run e (a ∷ more) (length log' - len') p)) (finish log len (rolled_back Refusal.LogFull e))
      by true = rw (room-left log len (words q) (words_of q)) (finish-after log len q (run e (a ∷ more) (length log - len - words q) p))
      by false = refl

  -- a wait
  pub go-say : (ws : List ℕ) (p : Prog Result) → go e ws log len (say q p) ≡ full_or (go e ws log' len' p)
  unfolding go
  go-say ws p = run-say (answers ws) p
