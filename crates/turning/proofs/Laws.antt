-- How a run ends, by the tree that is left.
use Prim.Native.Nat.{ℕ, ◌<◌, ◌≤◌}
use mathlib.Core.Path.{◌≡◌, refl, sym, ap, ◌∙◌}
use mathlib.Core.Bool.{Bool, true, false}
use mathlib.Core.List.{List, []}
use native.Mathlib.Omega.{arith}
use native.Mathlib.Nat.{add-zero}
use lib.ListN.{length, drop}
use Rattle.slices.specs.Over.{over}
use Rattle.slices.proofs.Over.{over-nil}
use Rattle.wlan.specs.declared.BusOp.{BusOp}
use Rattle.wlan.specs.declared.DriverError.{DriverError}
use Rattle.wlan.specs.declared.Refusal.{Refusal}
use Rattle.wlan.specs.Outcome.{error_value, refusal_value}
use Rattle.connect_failure.specs.Parts.{failure_parts}
use Rattle.definition.specs.Bus.{Bytes, Ans, Place, log_of}
use Rattle.definition.specs.Prog.{World, world, Prog, stop, ret}
use Rattle.definition.specs.Poll.{Result}
use Rattle.definition.specs.Run.{End, finished, rolled_back}
use Rattle.device.specs.Meaning.{op_in, asking, told, landing, InRange}
use Rattle.session_bytes.specs.Session.{is_session}
use Rattle.going.specs.Onward.{finish, go}
use Rattle.going.proofs.Going.{go-ret, go-stop}
use Rattle.asking.specs.declared.Back.{Back}
use Rattle.asking.specs.declared.Asked.{Asked}
use Rattle.asking.specs.Asking.{Asks, KeptOn, Landed, Left, Grew, SmallPlace, answer_of, answer_to, asked, followed}
use Rattle.undo.specs.Undo.{Kept}
use Rattle.run_end.specs.declared.RunEnd.{RunEnd}
use Rattle.run_end.specs.RunEnd as ending
use Rattle.turning.specs.Turning as to
use Rattle.std.specs.Prelude.{None, Ok, Err}
use Rattle.wlan.specs.Results.{Outcome, fault_at}

-- 8, 9 and 12
rolled : (e : World) (c : Refusal) (log b : List ℕ) (buf : Bytes) (len : ℕ) → refusal_value c < 256 → to.Ends e (finish log len (rolled_back c e)) (record { back = true; kind = ending.refusal_kind c; value = refusal_value c; failure = failure_parts None; len = len }) log b buf
unfolding finish log_of over
rolled e c log b buf len f = rw (over-nil log len, add-zero) (record { tells = record { kind = refl; value = refl; failure = refl; fits = f }; len = refl; log = refl; output = refl; left = refl })

pub backed : (e : World) (on : End) (c : Back) (log b : List ℕ) (buf : Bytes) (len : ℕ) → to.is_back c ≡ true → to.Ends e (followed e log len on c) (record { back = true; kind = to.back_kind c; value = 0; failure = failure_parts None; len = len }) log b buf
backed e on Back.No log b buf len h = absurd (let z : ◌≡◌ {A = ℕ} 0 1 = cc in omega arith)
backed e on Back.Unrecorded log b buf len h = rolled e Refusal.Unrecorded log b buf len (omega arith)
backed e on Back.WrongAnswer log b buf len h = rolled e Refusal.WrongAnswer log b buf len (omega arith)
backed e on Back.LogFull log b buf len h = rolled e Refusal.LogFull log b buf len (omega arith)

over-is : (e w : World) (o : Outcome) (log b : List ℕ) (buf : Bytes) (len : ℕ) → to.world_in b buf ≡ w → ending.Fits o → to.Ends e (finish log len (finished o [] w)) (ending.end_by o len) log b buf
unfolding finish log_of over
over-is e w o log b buf len h f = rw (over-nil log len, add-zero) (record { tells = record { kind = refl; value = refl; failure = refl; fits = f }; len = refl; log = refl; output = refl; left = h })

pub stopped : (e : World) (x : DriverError) (ws log b : List ℕ) (buf : Bytes) (len : ℕ) → error_value x < 256 → to.Ends e (go e ws log len (stop x (to.world_in b buf))) (ending.end_by (Err (Refusal.Driver x)) len) log b buf
stopped e x ws log b buf len f = rw (go-stop e ws log len x (to.world_in b buf)) (over-is e (to.world_in b buf) (Err (Refusal.Driver x)) log b buf len refl f)

-- a call without output
pub returned : (e : World) (r : Result) (ws log b : List ℕ) (buf : Bytes) (len : ℕ) → r.output ≡ [] → ending.SuccessFits r.success → to.Ends e (go e ws log len (ret r (to.world_in b buf))) (ending.end_by (Ok r.success) len) log b buf
returned e r ws log b buf len h f = rw (go-ret e ws log len r (to.world_in b buf), h) (over-is e (to.world_in b buf) (Ok r.success) log b buf len refl f)

-- goes on where the two are the same
pub not_back : (c : Back) → to.is_back c ≡ false → c ≡ Back.No
not_back Back.No h = refl
not_back Back.Unrecorded h = absurd (let z : ◌≡◌ {A = ℕ} 0 1 = cc in omega arith)
not_back Back.WrongAnswer h = absurd (let z : ◌≡◌ {A = ℕ} 0 1 = cc in omega arith)
not_back Back.LogFull h = absurd (let z : ◌≡◌ {A = ℕ} 0 1 = cc in omega arith)

pub still_kept : {u : List ℕ} {b c : Bytes} → Kept u → c ≡ b → KeptOn u u b c
still_kept k e = rw e (record { kept = k; session = λ s. refl; buf = refl; records = refl })

-- ---- what is left

pub put_back : {session₀ session log : List ℕ} {buf₀ buf b : Bytes} {d : List ℕ} {e : End} {r : RunEnd} → is_session session₀ ≡ true → session ≡ session₀ → buf ≡ buf₀ → r.back ≡ true → to.Ends (to.world_in session₀ buf₀) e r log d b
    → (is_session session ≡ true) × (to.world_in session buf ≡ world e.st e.buf e.list)
put_back k es eb hb h = rw (es, eb) (k, sym (rw hb at h.left))

-- ---- after an operation that was asked

module _ (op : BusOp) {rec log log' : List ℕ} {pos len : ℕ} {b c : Bytes} (a : Asked) (h : Asks op rec log log' pos len b c a) (e : World) (s : Place) (k : Ans → Prog Result) (d : List ℕ) where
  abbrev before : End
  before = go e (drop pos rec) log len (asking (op_in op s b) k)

  -- by the answer y that was read
  abbrev onward : Ans → End
  onward y = go e (drop a.pos rec) log' a.len (k y)

  abbrev reply : Ans
  reply = answer_to op (answer_of a.fault a.value) (drop pos rec)

  pub asked-back : (r : RunEnd) → ((on : End) → to.Ends e (followed e log' a.len on a.back) r log' d c) → to.Ends e before r log' d c
  unfolding asked
  asked-back r f = rw (← h.on e s k) (f _)

  on-is : a.back ≡ Back.No → onward reply ≡ before
  unfolding asked
  on-is n = rw n at (h.on e s k)

  landed : a.back ≡ Back.No → Landed op (drop pos rec) b c (answer_of a.fault a.value)
  unfolding Left
  landed n = rw n at h.left

  pub asked-value : (P : End → Type 0) → a.back ≡ Back.No → a.fault ≡ false
      → ((y : Ans) → Ok a.value ≡ told y → InRange op y → c ≡ landing op y b → P (onward y)) → P before
  unfolding answer_of
  asked-value P n g f = rw (← on-is n) (f reply (sym ((landed n).told ∙ ap (λ (t : Bool). answer_of t a.value) g)) (landed n).range (landed n).landed)

  -- a fault, and what follows it
  pub asked-faulted : (P : End → Type 0) → a.back ≡ Back.No → a.fault ≡ true
      → ((y : Ans) → Err (fault_at a.value) ≡ told y → a.value < 256 → InRange op y → c ≡ landing op y b → P (onward y)) → P before
  unfolding answer_of SmallPlace
  asked-faulted P n g f =
      let p : SmallPlace (answer_of true a.value) = rw g at (landed n).place in
      rw (← on-is n) (f reply (sym ((landed n).told ∙ ap (λ (t : Bool). answer_of t a.value) g)) p (landed n).range (landed n).landed)

  -- 7
  pub asked-fault : a.back ≡ Back.No → a.fault ≡ true
      → ((y : Ans) → Err (fault_at a.value) ≡ told y → InRange op y → c ≡ landing op y b → go e (drop a.pos rec) log' a.len (stop (DriverError.Fault a.value) (to.world_in d c)) ≡ onward y)
      → to.Ends e before (ending.end_by (Err (Refusal.Driver (DriverError.Fault a.value))) a.len) log' d c
  unfolding answer_of SmallPlace
  asked-fault n g f =
      let p : SmallPlace (answer_of true a.value) = rw g at (landed n).place in
      rw (← on-is n, ← f reply (sym ((landed n).told ∙ ap (λ (t : Bool). answer_of t a.value) g)) (landed n).range (landed n).landed) (stopped e (DriverError.Fault a.value) (drop a.pos rec) log' d c a.len p)

pub asked-grew : {op : BusOp} {rec log log' : List ℕ} {pos len : ℕ} {b c : Bytes} {a : Asked} → Asks op rec log log' pos len b c a → a.back ≡ Back.No → (len < a.len) × (a.len ≤ length log)
unfolding Grew
asked-grew h n = rw n at h.grew
