-- What a C entry hands back.
use Rattle.std.specs.Prelude.{ℕ, Bool, true, List, [], ◌∷◌}
use Rattle.slices.specs.Pick.{pick}
use Rattle.slices.specs.Over.{over}
use Rattle.wlan.specs.Outcome.{refusal_of, value_of}
use Rattle.definition.specs.Prog.{world}
use Rattle.definition.specs.Calls.{Call}
use Rattle.definition.specs.Run.{End, called}
use Rattle.session_bytes.specs.declared.session.Session.{Session}
use Rattle.session_bytes.specs.Session.{session_bytes, session_in, is_session}

pub record Handed : Type 0 where
  -- the number that is returned
  pub refusal : ℕ
  pub session : List ℕ
  -- are these a session's bytes, and which session do they hold?
  pub known : Bool
  pub holds : Session
  pub log : List ℕ
  pub buf : List ℕ
  pub output : List ℕ
  pub result : List ℕ

abbrev pub shown : ℕ → List ℕ → List ℕ → List ℕ → List ℕ → List ℕ → Handed
shown r session log buf out result =
    record {
      refusal = r;
      session = session;
      known = is_session session;
      holds = session_in session;
      log = log;
      buf = buf;
      output = out;
      result = result;
    }

abbrev pub session_at : End → Session
session_at e = record { st = e.st; list = e.list }

-- a call that ran: its state and list are in the bytes and are read from them again; value and log length are in the result
unfoldable pub handed : List ℕ → End → Handed
handed result e =
    record {
      refusal = refusal_of e.outcome;
      session = session_bytes (session_at e);
      known = true;
      holds = session_at e;
      log = e.log;
      buf = e.buf;
      output = e.output;
      result = over result 0 (value_of e.outcome ∷ e.len ∷ []);
    }

-- 100: the bytes are no session's, and all is as it was
unfoldable pub entered : Call → List ℕ → List ℕ → List ℕ → List ℕ → List ℕ → List ℕ → Handed
entered c session recording log buf out result =
    let s = session_in session in
    pick (is_session session) (handed result (called c (world s.st buf s.list) recording log out)) (shown 100 session log buf out result)
