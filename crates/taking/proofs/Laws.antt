-- What take leaves in the bytes.
use Prim.Native.Nat.{ℕ}
use mathlib.Core.Path.{◌≡◌, refl}
use mathlib.Core.Bool.{true}
use mathlib.Core.List.{List}
use Rattle.definition.specs.Bus.{Bytes}
use Rattle.definition.specs.Run.{End}
use Rattle.session_bytes.specs.Session.{is_session, session_in}
use Rattle.places.specs.Places.{Holds, frame_put}
use Rattle.run_end.specs.declared.RunEnd.{RunEnd}
use Rattle.run_end.specs.RunEnd.{Fits, end_by}
use Rattle.going.specs.Onward.{end_of, with_list}
use Rattle.ending.specs.Take.{ended, frameless_state}
use Rattle.taking.specs.Taking.{Leaves}
use Rattle.std.specs.Prelude.{None}
use Rattle.wlan.specs.Results.{Outcome}

-- nothing is logged, and the session is the one in the bytes
pub leaves : (o : Outcome) (d log : List ℕ) (buf out : Bytes) {e : End} {r : RunEnd} → r ≡ end_by o 0 → Fits o → is_session d ≡ true → end_of (with_list (ended o (session_in d).st) (session_in d).list) log buf out ≡ e → Leaves e log d buf out r
leaves o d log buf out er f h q =
    rw (er, ← q)
    (record { tells = record { kind = refl; value = refl; failure = refl; fits = f }; len = refl; log = refl; output = refl; held = h; stands = refl })

-- no frame waits any more; s: the session's bytes before
pub dropped : (o : Outcome) (s d log : List ℕ) (buf out : Bytes) {e : End} {r : RunEnd} → Holds d (frame_put s None) → r ≡ end_by o 0 → Fits o → end_of (with_list (ended o (frameless_state (session_in s).st)) (session_in s).list) log buf out ≡ e → Leaves e log d buf out r
dropped o s d log buf out h er f q = leaves o d log buf out er f h.known (rw h.back q)
