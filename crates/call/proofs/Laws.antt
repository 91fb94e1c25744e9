-- A call by value, by what its run left in bytes.
use Prim.Native.Nat.{ℕ}
use mathlib.Core.Path.{◌≡◌, refl, sym, ap, ◌∙◌}
use mathlib.Core.List.{List, []}
use lib.ListN.{length}
use Rattle.wlan.specs.declared.Refusal.{Refusal}
use Rattle.wlan.specs.declared.ScanList.{ScanList}
use Rattle.wlan.specs.declared.State.{State}
use Rattle.definition.specs.Bus.{Bytes}
use Rattle.definition.specs.Prog.{World, world}
use Rattle.definition.specs.Calls.{Call}
use Rattle.definition.specs.Run.{End, called}
use Rattle.session_bytes.specs.declared.session.Session.{Session}
use Rattle.session_bytes.specs.Session.{session_bytes, session_in, is_session}
use Rattle.run_end.specs.declared.RunEnd.{RunEnd}
use Rattle.going.specs.declared.CallEnd.{CallEnd}
use Rattle.going.specs.Onward.{end_of}
use Rattle.turning.specs.Turning.{world_in}
use Rattle.runs.specs.Runs.{Left, Ran}
use Rattle.runs.proofs.Called.{called-13}
use Rattle.std.specs.Prelude.{Err}

-- x has what is read from the bytes s
pub ended : {x : CallEnd} {s log : List ℕ} {buf : Bytes} {r : RunEnd} (e : End) → Left e log s buf r → x.outcome ≡ e.outcome → x.st ≡ (session_in s).st → x.list ≡ (session_in s).list → x.len ≡ r.len → end_of x log buf [] ≡ e
ended e h o t l n =
    rw (o, n, h.len, h.log, ← h.output, t ∙ ap (λ (w : World). w.st) h.stands, l ∙ ap (λ (w : World). w.list) h.stands, ap (λ (w : World). w.buf) h.stands) refl

pub by_value : {s log' d : List ℕ} {g : Bytes} {r : RunEnd} {x : CallEnd} (c : Call) (st : State) (list : ScanList) (rec log : List ℕ) (buf : Bytes) → s ≡ session_bytes (record { st = st; list = list }) → session_in (session_bytes (record { st = st; list = list })) ≡ record { st = st; list = list }
    → Ran c rec log log' s d buf g r → ((e : End) (l : List ℕ) (b : Bytes) → Left e l d b r → end_of x l b [] ≡ e) → end_of x log' g [] ≡ called c (world st buf list) rec log []
by_value c st list rec log buf es back ran f = rw (es, back) at (f _ _ _ ran)

-- 13
pub other-called : {x : CallEnd} (c : Call) (st : State) (list : ScanList) (rec log : List ℕ) (buf : Bytes) → (x.outcome ≡ Err Refusal.BufferLength) × (x.st ≡ st) × (x.list ≡ list) × (x.len ≡ 0) → (length buf ≡ 2048 → ⊥)
    → end_of x log buf [] ≡ called c (world st buf list) rec log []
other-called c st list rec log buf h d = rw (h.0, h.1, h.2, h.3) (called-13 st buf list rec log c d)
