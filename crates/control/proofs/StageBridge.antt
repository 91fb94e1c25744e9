-- A stage begins, and what follows it: the step is the tree's.
use mathlib.Core.Path.{◌≡◌, refl, sym, ap, ◌∙◌, fun_ext}
use mathlib.Core.Bool.{Bool, true, false, false≢true}
use mathlib.Core.List.{List, [], ◌∷◌}
use Prim.Native.Nat.{ℕ, ◌+◌, ◌-◌, ◌*◌, ◌%◌, ◌≤◌, ◌<◌}
use native.Mathlib.Omega.{arith}
use lib.Dec.{ltb}
use lib.ListN.{length}
use borrow.Author.Tests.{le-ltb}
use Rattle.slices.specs.Pick.{pick}
use Rattle.slices.specs.Over.{over}
use Rattle.slices.specs.Le.{round4}
use Rattle.wlan.specs.declared.WifiState.{WifiState}
use Rattle.wlan.specs.declared.DriverError.{DriverError}
use Rattle.wlan.specs.declared.AsyncEvent.{AsyncEvent}
use Rattle.wlan.specs.declared.State.{State}
use Rattle.definition.specs.Bus.{Bytes, Op, Ans, Place}
use Rattle.definition.specs.Prog.{World, world, with_state, with_buf, Fin, fine, failed, Prog, ret, stop, ask, say, note, M, bind, attempt, raise}
use Rattle.definition.specs.Request as def
use Rattle.definition.specs.Request.{ioctl_header}
use Rattle.definition.specs.Send.{free}
use Rattle.definition.specs.Ioctl.{laid, next_id, do_ioctl, exchange}
use Rattle.definition.specs.Poll.{Result, giving}
use Rattle.definition.specs.Join.{is_dev_error, ignoring, tried, down_on_error, linked}
use Rattle.definition.proofs.Compose.{unroll, bind_assoc, bind-raise, opened}
use Rattle.handling.specs.Handle.{list_heard}
use Rattle.requests.specs.Request.{request_of}
use Rattle.requests.specs.declared.IovarName.{IovarName}
use Rattle.requests.specs.declared.Request.{Request}
use Rattle.requests.specs.Number.{name_length, payload_length}
use Rattle.requests.proofs.Number.{payload-length}
use Rattle.device.specs.Meaning.{op_in, asking}
use Rattle.device.proofs.Asking.{asking-bind, asking-attempt, unroll-asking}
use Rattle.send.specs.declared.SendNext.{SendNext}
use Rattle.send.specs.declared.SendPoint.{SendPoint}
use Rattle.send.specs.declared.StallPoint.{StallPoint}
use Rattle.send.specs.Send as send
use Rattle.send.specs.Meaning.{laid_header}
use Rattle.ioctl.specs.declared.IoctlNext.{IoctlNext}
use Rattle.ioctl.specs.declared.IoctlPoint.{IoctlPoint}
use Rattle.ioctl.specs.Ioctl as ioctl
use Rattle.ioctl.specs.Meaning.{Ki, ioctl_tree, ioctl_shown}
use Rattle.ioctl.proofs.Bridge as ioctl-bridge
use Rattle.control.specs.declared.Job.{Job}
use Rattle.control.specs.declared.Stage.{Stage}
use Rattle.control.specs.declared.CallPoint.{CallPoint}
use Rattle.control.specs.declared.Before.{Before}
use Rattle.control.specs.declared.RequestPut.{RequestPut}
use Rattle.control.specs.declared.CallNext.{CallNext}
use Rattle.control.specs.declared.CallStep.{CallStep}
use Rattle.control.specs.Steps.{call_op, lays, step, linked_state}
use Rattle.control.specs.Stages.{request_at, request_len, is_tried, is_last}
use Rattle.control.specs.Exchange.{unbegun, begun_by, new_id, begins, begins_numbered}
use Rattle.control.specs.Meaning.{Args, lens_of, request_in, len_at, laid_before, laid_request, laid_all, list_at, rest, refused_at, after_stage, Kc, secret_at, call_tree, call_shown, step_world}
use Rattle.std.specs.Prelude.{Option}
use Rattle.send.specs.declared.Header.{Header}

-- the byte arguments are not so long that a length does not fit 16 bits
abbrev pub Modest : Args → Type 0
Modest a = length a.first + length a.second < 60000

-- ---- lengths

name-small : (v : IovarName) → name_length v ≤ 22
name-small IovarName.BusTxglom = omega arith
name-small IovarName.Apsta = omega arith
name-small IovarName.AmpduBaWsize = omega arith
name-small IovarName.AmpduMpdu = omega arith
name-small IovarName.AmpduRxFactor = omega arith
name-small IovarName.SupWpa = omega arith
name-small IovarName.SupWpa2Eapver = omega arith
name-small IovarName.SupWpaTmo = omega arith
name-small IovarName.Mfp = omega arith
name-small IovarName.Gpioout = omega arith

payload-small : (r : Request) (n m : ℕ) → n + m < 60000 → payload_length r n m < 65000
payload-small (Request.Country c) n m h = omega arith
payload-small (Request.SetWord cmd value interface) n m h = omega arith
payload-small (Request.GetWord cmd interface) n m h = omega arith
payload-small (Request.Iovar v x) n m h = omega (arith, name-small v)
payload-small (Request.IovarPair v x y) n m h = omega (arith, name-small v)
payload-small Request.EventMessages n m h = omega arith
payload-small Request.Escan n m h = omega arith
payload-small Request.CurrentAddress n m h = omega arith
payload-small Request.Up n m h = omega arith
payload-small Request.Ssid n m h = omega arith
payload-small Request.Key n m h = omega arith
payload-small Request.SaePassword n m h = omega arith
payload-small (Request.Variable interface) n m h = omega arith

-- the requests whose errors are ignored are short
tried-short : (j : Job) (g : Stage) (n m : ℕ) → is_tried g ≡ true → payload_length (request_at j g) n m ≤ 2012
unfolding is_tried request_at
tried-short j Stage.Country n m e = absurd (false≢true e)
tried-short j Stage.AntDiv n m e = absurd (false≢true e)
tried-short j Stage.Txglom n m e = omega arith
tried-short j Stage.Apsta n m e = omega arith
tried-short j Stage.BaWsize n m e = omega arith
tried-short j Stage.Mpdu n m e = omega arith
tried-short j Stage.RxFactor n m e = omega arith
tried-short j Stage.EventMessages n m e = absurd (false≢true e)
tried-short j Stage.InitUp n m e = absurd (false≢true e)
tried-short j Stage.JoinBaWsize n m e = absurd (false≢true e)
tried-short j Stage.Wsec n m e = absurd (false≢true e)
tried-short j Stage.SupWpa n m e = absurd (false≢true e)
tried-short j Stage.Eapver n m e = absurd (false≢true e)
tried-short j Stage.SupWpaTmo n m e = omega arith
tried-short j Stage.Key n m e = absurd (false≢true e)
tried-short j Stage.Sae n m e = absurd (false≢true e)
tried-short j Stage.Infra n m e = absurd (false≢true e)
tried-short j Stage.Auth n m e = absurd (false≢true e)
tried-short j Stage.Mfp n m e = absurd (false≢true e)
tried-short j Stage.WpaAuth n m e = absurd (false≢true e)
tried-short j Stage.Ssid n m e = absurd (false≢true e)
tried-short j Stage.Escan n m e = absurd (false≢true e)
tried-short j Stage.Disassoc n m e = absurd (false≢true e)
tried-short j Stage.Single n m e = absurd (false≢true e)

module _ (a : Args) where
  -- ---- three ways on from an exchange

  plain-next : (g : Stage) → is_tried g ≡ false → is_last g ≡ false → (λ r v. bind (raise r v) (λ u. rest a g)) ≡ after_stage a g
  unfolding bind raise after_stage refused_at
  plain-next g t l = fun_ext (λ r. fun_ext (λ v. by r v))
    where
      stops : (b : Bool) (e : DriverError) (v : World) → stop e v ≡ pick b (pick (is_tried g) (rest a g v) (pick (is_last g) (stop e (linked WifiState.Down v)) (stop e v))) (stop e v)
      stops true e v = rw (t, l) refl
      stops false e v = refl

      by : (r : Fin (Unit {0})) (v : World) → bind (raise r v) (λ u. rest a g) ≡ after_stage a g r v
      by (fine u) v = refl
      by (failed e) v = stops (is_dev_error e) e v

  tried-next : (g : Stage) → is_tried g ≡ true → (λ r v. bind (ignoring r v) (λ u. rest a g)) ≡ after_stage a g
  unfolding bind ignoring after_stage refused_at
  tried-next g t = fun_ext (λ r. fun_ext (λ v. by r v))
    where
      goes : (b : Bool) (e : DriverError) (v : World) → bind {A = Unit {0}} (pick b (ret tt v) (stop e v)) (λ u. rest a g) ≡ pick b (pick (is_tried g) (rest a g v) (pick (is_last g) (stop e (linked WifiState.Down v)) (stop e v))) (stop e v)
      goes true e v = rw t refl
      goes false e v = refl

      by : (r : Fin (Unit {0})) (v : World) → bind (ignoring r v) (λ u. rest a g) ≡ after_stage a g r v
      by (fine u) v = refl
      by (failed e) v = goes (is_dev_error e) e v

  last-next : down_on_error ≡ after_stage a Stage.Ssid
  unfolding down_on_error after_stage refused_at rest is_tried is_last
  last-next = fun_ext (λ r. fun_ext (λ v. by r v))
    where
      by : (r : Fin (Unit {0})) (v : World) → down_on_error r v ≡ after_stage a Stage.Ssid r v
      by (fine u) v = refl
      by (failed e) v = refl

  -- an exchange and what follows it, as a stage
  pub plain-is : (g : Stage) (p : Prog (Unit {0})) → is_tried g ≡ false → is_last g ≡ false → bind p (λ u. rest a g) ≡ bind (attempt p) (after_stage a g)
  plain-is g p t l = bind-raise (λ u. rest a g) p ∙ ap (bind (attempt p)) (plain-next g t l)

  pub tried-is : (g : Stage) (p : Prog (Unit {0})) → is_tried g ≡ true → bind (bind (attempt p) ignoring) (λ u. rest a g) ≡ bind (attempt p) (after_stage a g)
  tried-is g p t = bind_assoc ignoring (λ u. rest a g) (attempt p) ∙ ap (bind (attempt p)) (tried-next g t)

  pub last-is : (p : Prog (Unit {0})) → bind (attempt p) down_on_error ≡ bind (attempt p) (after_stage a Stage.Ssid)
  last-is p = ap (bind (attempt p)) last-next

  -- ---- a stage's exchange goes on

  pub ask-is : (g : Stage) (q : IoctlPoint) (w : World) → unroll (bind (attempt (asking (op_in (ioctl.ioctl_op q) (request_in a g).secret w.buf) (λ x. Ki (len_at a g) (request_in a g).secret q x w))) (after_stage a g)) ≡ call_tree a (CallNext.Ask (CallPoint.Exchange g q)) w
  unfolding call_tree call_op secret_at Kc
  ask-is g q w =
      let op = op_in (ioctl.ioctl_op q) (request_in a g).secret w.buf in
      let k : Ans → Prog (Unit {0}) = λ x. Ki (len_at a g) (request_in a g).secret q x w in
      ap (λ t. unroll (bind t (after_stage a g))) (asking-attempt op k)
      ∙ (ap unroll (asking-bind op (λ x. attempt (k x)) (after_stage a g)) ∙ unroll-asking op (λ x. bind (attempt (k x)) (after_stage a g)))

  -- ---- a stage begins

  -- a beginning asks, or is refused where its errors are not ignored
  Begins : Stage → IoctlNext → Type 0
  Begins g (IoctlNext.Ask p q) = Unit {0}
  Begins g (IoctlNext.Done c) = ⊥
  Begins g (IoctlNext.Refused p e) = is_tried g ≡ false

  unbegun-is : (g : Stage) (x : DriverError) (h : Bool) (before : Before) (put : RequestPut) (p : Option Header) (e : AsyncEvent) (s : State) (w : World) → is_tried g ≡ false → unroll (refused_at a g x (world s (laid_header p (laid_request a put (laid_before before w.buf))) (list_heard h e w.list))) ≡ call_shown a (unbegun s g h (lays before put p) x) e w
  unfolding unroll refused_at unbegun call_tree laid_all list_at
  unbegun-is g x h before put p e s w t = rw t (by (is_dev_error x) (is_last g))
    where
      v : World
      v = world s (laid_header p (laid_request a put (laid_before before w.buf))) (list_heard h e w.list)

      by : (b c : Bool) → unroll (pick b (pick c (stop x (linked WifiState.Down v)) (stop x v)) (stop x v)) ≡ call_shown a (pick b (pick c (step (linked_state s WifiState.Down) h (lays before put p) (CallNext.Refused x)) (step s h (lays before put p) (CallNext.Refused x))) (step s h (lays before put p) (CallNext.Refused x))) e w
      by true true = refl
      by true false = refl
      by false c = refl

  begun-is : (g : Stage) (n : IoctlNext) (h : Bool) (before : Before) (put : RequestPut) (e : AsyncEvent) (s : State) (w : World) → Begins g n → unroll (bind (attempt (ioctl_tree (len_at a g) (request_in a g).secret n (world s (laid_request a put (laid_before before w.buf)) (list_heard h e w.list)))) (after_stage a g)) ≡ call_shown a (begun_by n s g h before put) e w
  unfolding Begins begun_by ioctl_tree bind attempt after_stage laid_all list_at
  begun-is g (IoctlNext.Ask p q) h before put e s w ok = ask-is g q (world s (laid_header p (laid_request a put (laid_before before w.buf))) (list_heard h e w.list))
  begun-is g (IoctlNext.Done c) h before put e s w ok = absurd ok
  begun-is g (IoctlNext.Refused p x) h before put e s w ok = unbegun-is g x h before put p e s w ok

  -- the beginning of an exchange asks, or is refused for its size
  start-begins : (g : Stage) (s : State) (len : ℕ) → (is_tried g ≡ true → len ≤ 2012) → len < 65000 → Begins g (ioctl.start_step s len).next
  unfolding Begins ioctl.start_step ioctl.sending_step ioctl.sending_next ioctl.out_of send.start_step send.emit_step
  start-begins g s len small fits = by (free (ioctl.numbering s)) (ltb 2040 (round4 ((len + 28) % 65536))) (is_tried g) refl (λ t. le-ltb 2040 (round4 ((len + 28) % 65536)) (omega (arith, small t)))
    where
      by : (b c t : Bool) → is_tried g ≡ t → (t ≡ true → c ≡ false) → Begins g (ioctl.sending_step (pick b (pick c (send.step (send.spending (ioctl.numbering s)) false (SendNext.Refused (send.put_of (ioctl.numbering s) (ioctl.out_of len)) DriverError.InvalidArg)) (send.step (send.spending (ioctl.numbering s)) false (SendNext.Ask (send.put_of (ioctl.numbering s) (ioctl.out_of len)) (SendPoint.Ready 999 (round4 ((len + 28) % 65536)))))) (send.asks (ioctl.numbering s) false (SendPoint.Stall StallPoint.First))) len).next
      by false c t e f = tt
      by true false t e f = tt
      by true true false e f = e
      by true true true e f = e ∙ f refl

  start-heard : (s : State) (len : ℕ) → (ioctl.start_step s len).heard ≡ false
  unfolding ioctl.start_step ioctl.sending_step ioctl.sending_next send.start_step send.emit_step
  start-heard s len = by (free (ioctl.numbering s)) (ltb 2040 (round4 (ioctl.out_of len).size))
    where
      n : State
      n = ioctl.numbering s

      by : (b c : Bool) → (ioctl.sending_step (pick b (pick c (send.step (send.spending n) false (SendNext.Refused (send.put_of n (ioctl.out_of len)) DriverError.InvalidArg)) (send.step (send.spending n) false (SendNext.Ask (send.put_of n (ioctl.out_of len)) (SendPoint.Ready 999 (round4 (ioctl.out_of len).size))))) (send.asks n false (SendPoint.Stall StallPoint.First))) len).heard ≡ false
      by false c = refl
      by true true = refl
      by true false = refl

  -- ---- a stage's length, as the code has it

  len_is : (g : Stage) → len_at a g ≡ payload_length (request_at a.job g) (length a.first) (length a.second)
  len_is g = payload-length (request_at a.job g) a.first a.second

  len-small : (g : Stage) → Modest a → len_at a g < 65000
  len-small g m = omega (arith, len_is g, payload-small (request_at a.job g) (length a.first) (length a.second) m)

  pub len-fits : (g : Stage) → Modest a → request_len (request_at a.job g) (lens_of a) ≡ len_at a g
  unfolding request_len
  len-fits g m = omega (arith, len_is g, payload-small (request_at a.job g) (length a.first) (length a.second) m)

  -- ---- a stage begins

  -- its payload lies at 28 already
  numbered_is : (g : Stage) (h : Bool) (before : Before) (put : RequestPut) (e : AsyncEvent) (s : State) (w v : World) → Modest a → v.st ≡ s → v.list ≡ list_heard h e w.list → over v.buf 12 (ioctl_header (request_in a g) (new_id s)) ≡ laid_request a put (laid_before before w.buf) → unroll (bind (attempt (do_ioctl (request_in a g) v)) (after_stage a g)) ≡ call_shown a (begun_by (ioctl.start_step s (len_at a g)).next (ioctl.start_step s (len_at a g)).st g h before put) e w
  unfolding list_heard
  numbered_is g h before put e s w v m es el eb =
      let r = ioctl.start_step s (len_at a g) in
      opened (after_stage a g) (do_ioctl (request_in a g) v) _ (ioctl-bridge.start_is (request_in a g) e v (len-small g m))
      ∙ (rw (es, el, eb, start-heard s (len_at a g)) (begun-is g r.next h before put e r.st w (start-begins g s (len_at a g) (λ t. omega (arith, len_is g, tried-short a.job g (length a.first) (length a.second) t)) (len-small g m))))

  -- a stage's request is laid, and exchanged
  pub begin-is : (g : Stage) (h : Bool) (before : Before) (e : AsyncEvent) (s : State) (w : World) → Modest a → unroll (bind (attempt (exchange (request_in a g) (world s (laid_before before w.buf) (list_heard h e w.list)))) (after_stage a g)) ≡ call_shown a (begins a.job (lens_of a) g s h before) e w
  unfolding exchange laid begins laid_request
  begin-is g h before e s w m =
      rw (len-fits g m)
      (numbered_is g h before (RequestPut.Whole (request_at a.job g) (new_id s)) e s w (laid (request_in a g) (world s (laid_before before w.buf) (list_heard h e w.list))) m refl refl refl)

  -- one whose payload lies there
  pub begin-numbered-is : (g : Stage) (e : AsyncEvent) (w : World) → Modest a → unroll (bind (attempt (do_ioctl (request_in a g) w)) (after_stage a g)) ≡ call_shown a (begins_numbered a.job (lens_of a) g w.st) e w
  unfolding begins_numbered laid_request laid_before list_heard
  begin-numbered-is g e w m =
      rw (len-fits g m) (numbered_is g false Before.None (RequestPut.Numbered (request_at a.job g) (new_id w.st)) e w.st w w m refl refl refl)

  -- ---- the same, by how a stage's errors are taken

  pub plain-begin : (g : Stage) (h : Bool) (before : Before) (e : AsyncEvent) (s : State) (w : World) → Modest a → is_tried g ≡ false → is_last g ≡ false → unroll (bind (exchange (request_in a g) (world s (laid_before before w.buf) (list_heard h e w.list))) (λ u. rest a g)) ≡ call_shown a (begins a.job (lens_of a) g s h before) e w
  plain-begin g h before e s w m t l = ap unroll (plain-is g (exchange (request_in a g) (world s (laid_before before w.buf) (list_heard h e w.list))) t l) ∙ begin-is g h before e s w m

  pub tried-begin : (g : Stage) (h : Bool) (before : Before) (e : AsyncEvent) (s : State) (w : World) → Modest a → is_tried g ≡ true → unroll (bind (tried (request_in a g) (world s (laid_before before w.buf) (list_heard h e w.list))) (λ u. rest a g)) ≡ call_shown a (begins a.job (lens_of a) g s h before) e w
  unfolding tried
  tried-begin g h before e s w m t = ap unroll (tried-is g (exchange (request_in a g) (world s (laid_before before w.buf) (list_heard h e w.list))) t) ∙ begin-is g h before e s w m
