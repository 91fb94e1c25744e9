-- What a C entry in place hands back.
use Rattle.std.specs.Prelude.{ℕ, List, eqb, Err}
use Rattle.slices.specs.Pick.{pick}
use Rattle.wlan.specs.declared.Refusal.{Refusal}
use Rattle.definition.specs.Bus.{Bytes}
use Rattle.definition.specs.Prog.{World, world}
use Rattle.definition.specs.Calls.{Call}
use Rattle.definition.specs.Run.{End, called}
use Rattle.session_bytes.specs.Session.{session_in, is_session}
use Rattle.entry.specs.Entry.{Handed, shown, handed}

-- 13: lent memory of another length
abbrev pub other_length : World → List ℕ → Bytes → End
other_length w log out =
    record {
      outcome = Err Refusal.BufferLength;
      st = w.st;
      list = w.list;
      buf = w.buf;
      log = log;
      len = 0;
      output = out;
    }

-- 100: the bytes are no session's, and all is as it was; n: the length of the memory for roll-back
unfoldable pub entered : Call → List ℕ → ℕ → List ℕ → List ℕ → Bytes → Bytes → List ℕ → Handed
entered c session n recording log buf out result =
    let w = world (session_in session).st buf (session_in session).list in
    pick (is_session session) (handed result (pick (eqb n 3444) (called c w recording log out) (other_length w log out))) (shown 100 session log buf out result)
