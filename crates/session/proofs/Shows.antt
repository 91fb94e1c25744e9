-- The lines of a call that was played.
use Prim.Native.Nat.{ℕ, ◌≤◌}
use mathlib.Core.Path.{◌≡◌, ap}
use mathlib.Core.List.{List}
use lib.ListN.{length, take, replicate}
use lib.Seq.{length-take-le}
use Rattle.definition.specs.Bus.{Bytes}
use Rattle.definition.specs.Prog.{World}
use Rattle.definition.specs.Run.{End}
use Rattle.definition.specs.Player.{arguments_of, empty_log, line_of}
use Rattle.run_end.specs.declared.RunEnd.{RunEnd}
use Rattle.turning.specs.Turning.{world_in}
use Rattle.taking.specs.Taking.{Leaves}
use Rattle.lines.specs.Input.{output_length}
use Rattle.lines.specs.Text.{text_of, Printed}
use Rattle.session.specs.Play.{Plays, call_end, Fronts}

-- what is printed of an end is what the call left
printed : {e : End} {log d : List ℕ} {g o : Bytes} {r : RunEnd} → Leaves e log d g o r → Printed e log d r
printed h = record { tells = h.tells; len = h.len; log = h.log; state = ap (λ (w : World). w.st) h.stands }

-- the text's front is the call's lines
pub shows : {log log' d : List ℕ} {g o o' : Bytes} {r : RunEnd} (rec b : List ℕ) (buf : Bytes) (a text : List ℕ) (n k : ℕ) → log ≡ empty_log → o ≡ replicate (output_length n a) 0
    → Plays (arguments_of n a) rec log log' b d buf g o o' r → ((e : End) → Printed e log' d r → take k text ≡ text_of (line_of n e)) → k ≤ length text
    → Fronts (text_of (line_of n (call_end (world_in b buf) rec n a))) text
shows rec b buf a text n k el eo p t l =
    let q : take k text ≡ text_of (line_of n (call_end (world_in b buf) rec n a)) = t _ (printed (rw (el, eo) at p)) in
    let m : length (take k text) ≡ k = length-take-le k text l in
    rw (← q, m)
