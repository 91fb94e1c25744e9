-- What the call comes to that is played.
use mathlib.Core.Path.{◌≡◌, refl, ap, sym}
use mathlib.Core.Bool.{Bool, true, false, ◌&&◌}
use mathlib.Core.List.{List, [], ◌∷◌}
use Prim.Native.Nat.{ℕ, zero, suc, ◌≤◌}
use native.Mathlib.Omega.{arith}
use lib.Dec.{eqb}
use lib.ListN.{length, take, replicate, length-replicate}
use Rattle.slices.specs.Pick.{pick}
use Rattle.slices.specs.Le.{le32_at}
use Rattle.slices.proofs.Over.{over-nil}
use Rattle.wlan.specs.declared.DriverError.{DriverError}
use Rattle.wlan.specs.declared.Refusal.{Refusal}
use Rattle.definition.specs.Bus.{Bytes, log_of}
use Rattle.definition.specs.Prog.{World}
use Rattle.definition.specs.Calls.{Call}
use Rattle.definition.specs.Run.{End, called, finished, shown}
use Rattle.definition.specs.Player.{Arguments, call_with, bad_arguments, arguments_of, empty_log, played_call, line_of, one, next_call, play_from}
use Rattle.session_bytes.specs.Session.{is_session}
use Rattle.run_end.specs.declared.RunEnd.{RunEnd}
use Rattle.run_end.specs.RunEnd.{end_by}
use Rattle.turning.specs.Turning.{world_in}
use Rattle.runs.specs.Runs.{Left, Ran}
use Rattle.taking.specs.Taking.{Leaves}
use Rattle.lines.specs.Input.{output_length}
use Rattle.session.specs.Play.{Plays, call_end, world_after}
use Rattle.std.specs.Prelude.{Err}
use Rattle.wlan.specs.Results.{Outcome}

-- ---- the output's room, and the end where the arguments are bad

take-zeros : (n m : ℕ) → n ≤ m → take {A = ℕ} n (replicate m 0) ≡ replicate n 0
take-zeros zero m h = refl
take-zeros (suc n) zero h = absurd (omega arith)
take-zeros (suc n) (suc m) h = ap (λ (l : List ℕ). 0 ∷ l) (take-zeros n m (omega arith))

pub output-zeros : (n k : ℕ) (zs : List ℕ) → zs ≡ replicate 2048 0 → n ≡ k → k ≤ 2048 → take n zs ≡ replicate k 0
output-zeros n k zs e ek h = rw (e, ek) (take-zeros k 2048 h)

ended : (o : Outcome) (w : World) (log out : List ℕ)
    → record { outcome = o; st = w.st; list = w.list; buf = w.buf; log = log; len = 0; output = out } ≡ shown log out (finished o [] w)
unfolding shown log_of
ended o w log out = simp over-nil

-- ---- the end of the call; k: its output's length

-- without an output
whole : {e : End} {log d : List ℕ} {g : Bytes} {r : RunEnd} → Left e log d g r → Leaves e log d g [] r
whole h = record { tells = h.tells; len = h.len; log = h.log; output = sym h.output; held = h.held; stands = h.stands }

-- the arguments are a call's
as_call : {log' d : List ℕ} {g o' : Bytes} {r : RunEnd} {x : Arguments} (c : Call) (w : World) (rec log : List ℕ) (o : Bytes) → x ≡ call_with c → Leaves (called c w rec log o) log' d g o' r → Leaves (played_call w rec log o x) log' d g o' r
unfolding played_call
as_call c w rec log o ex h = rw ex h

no_output : {k : ℕ} {out : Bytes} → k ≡ 0 → out ≡ replicate k 0 → out ≡ []
no_output ek eo = rw (eo, ek)

pub ran : {log' d : List ℕ} {g out : Bytes} {r : RunEnd} {x : Arguments} {k : ℕ} (c : Call) (rec log b : List ℕ) (buf : Bytes) → x ≡ call_with c → k ≡ 0 → out ≡ replicate k 0 → Ran c rec log log' b d buf g r → Plays x rec log log' b d buf g out out r
ran c rec log b buf ex ek eo h = rw (no_output ek eo) (as_call c (world_in b buf) rec log [] ex (whole h))

-- take's output is as long as its argument says
pub took : {log' d : List ℕ} {g o' : Bytes} {r : RunEnd} {x : Arguments} {k : ℕ} (n : ℕ) (w : World) (rec log : List ℕ) (out : Bytes) → x ≡ call_with (Call.get_rx_buf n) → k ≡ n → out ≡ replicate k 0
    → Leaves (called (Call.get_rx_buf (length out)) w rec log out) log' d g o' r → Leaves (played_call w rec log out x) log' d g o' r
took n w rec log out ex ek eo h =
    let l : length out ≡ n = rw (eo, length-replicate) ek in
    as_call (Call.get_rx_buf (length out)) w rec log out (rw l ex) h

-- nothing is changed
pub refused : {r : RunEnd} {x : Arguments} (rec log b : List ℕ) (buf out : Bytes) → x ≡ bad_arguments → is_session b ≡ true → r ≡ end_by (Err (Refusal.Driver DriverError.InvalidArg)) 0 → Plays x rec log log b b buf buf out out r
unfolding played_call
refused rec log b buf out ex h er =
    rw (ex, er, ← ended (Err (Refusal.Driver DriverError.InvalidArg)) (world_in b buf) log out)
    (record { tells = record { kind = refl; value = refl; failure = refl; fits = omega arith }; len = refl; log = refl; output = refl; held = h; stands = refl })

-- the state, the list and the buffer that are handed on
pub carried : {log log' d : List ℕ} {g o o' : Bytes} {r : RunEnd} (rec b : List ℕ) (buf : Bytes) (a : List ℕ) (n : ℕ) → log ≡ empty_log → o ≡ replicate (output_length n a) 0
    → Plays (arguments_of n a) rec log log' b d buf g o o' r → world_in d g ≡ world_after (call_end (world_in b buf) rec n a)
carried rec b buf a n el eo p = rw (el, eo) at p.stands

output-is : (t : Bool) (n : ℕ) → pick t (replicate n 0) [] ≡ replicate {A = ℕ} (pick t n 0) 0
output-is true n = refl
output-is false n = refl

-- the definition plays on from there
pub goes_on : (m : ℕ) (w : World) (n : ℕ) (a rec more : List ℕ)
    → play_from (suc m) w (one n a rec more) ≡ line_of n (call_end w rec n a) ∷ play_from m (world_after (call_end w rec n a)) (next_call more)
unfolding play_from
goes_on m w n a rec more = rw (output-is (eqb n 8 && eqb (length a) 4) (le32_at a 0))
