-- What the rest of a recording makes of a call, from where its run stands.
use Rattle.std.specs.Prelude.{ℕ, ◌+◌, ◌-◌, List, [], ◌∷◌, eqb, length}
use Rattle.slices.specs.Pick.{pick}
use Rattle.slices.specs.Over.{over}
use Rattle.wlan.specs.declared.BusOp.{BusOp}
use Rattle.wlan.specs.declared.Refusal.{Refusal}
use Rattle.wlan.specs.declared.ScanList.{ScanList}
use Rattle.definition.specs.Bus.{Bytes, Place, Op, log_of, Answer, answers, Ans, val, taken_by}
use Rattle.definition.specs.Prog.{World, world, Prog}
use Rattle.definition.specs.Poll.{Result}
use Rattle.definition.specs.Run as def
use Rattle.definition.specs.Run.{End, run, rolled_back, answered, shown}
use Rattle.device.specs.Meaning.{op_in}
use Rattle.effects.specs.Answer.{is_wait}
use Rattle.going.specs.declared.StateEnd.{StateEnd}
use Rattle.going.specs.declared.CallEnd.{CallEnd}

-- what a run shows, its log from index len on; a call that runs has no output
unfoldable pub finish : List ℕ → ℕ → def.Run → End
finish log len r =
    record {
      outcome = r.outcome;
      st = r.world.st;
      list = r.world.list;
      buf = r.world.buf;
      log = over log len (log_of r.ops);
      len = len + length (log_of r.ops);
      output = over [] 0 r.output;
    }

-- a tree's run on the words ws; e: the world before the call
unfoldable pub go : World → List ℕ → List ℕ → ℕ → Prog Result → End
go e ws log len p = finish log len (run e (answers ws) (length log - len) p)

-- from an operation that stands in the log, by the answers that are left
unfoldable pub heard : World → List Answer → List ℕ → ℕ → Op → (Ans → Prog Result) → End
heard e [] log len q k = finish log len (rolled_back Refusal.Unrecorded e)
heard e (a ∷ more) log len q k = finish log len (answered e (λ p. run e more (length log - len) p) k (taken_by q a))

-- the same, where the operation may be a wait
unfoldable pub responded : World → List ℕ → List ℕ → ℕ → BusOp → Place → Bytes → (Ans → Prog Result) → End
responded e ws log len op s b k = pick (is_wait op) (go e ws log len (k (val 0 []))) (heard e (answers ws) log len (op_in op s b) k)

-- a tree called: 13, or its run; a call that runs has no output
unfoldable pub called_by : World → List ℕ → List ℕ → Prog Result → End
called_by w rec log p =
    shown log [] (pick (eqb (length w.buf) 2048) (run w (answers rec) (length log) p) (rolled_back Refusal.BufferLength w))

-- what a call hands back, with its lent slices
abbrev pub end_of : CallEnd → List ℕ → Bytes → Bytes → End
end_of x log b out = record { outcome = x.outcome; st = x.st; list = x.list; buf = b; log = log; len = x.len; output = out }

abbrev pub with_list : StateEnd → ScanList → CallEnd
with_list x l = record { outcome = x.outcome; st = x.st; list = l; len = x.len }
