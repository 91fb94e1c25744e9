use mathlib.Core.Path.{◌≡◌, refl, sym, ap, ◌∙◌}
use Prim.Native.Nat.{ℕ, ◌%◌}
use native.Mathlib.Omega.{arith}
use Rattle.wlan.specs.declared.DriverError.{DriverError}
use Rattle.ioctl.specs.declared.IoctlNext.{IoctlNext}
use Rattle.reply_points.specs.ReplyPoints.{point_of}
use Rattle.replying.proofs.Laws.{fault-replies}
use Rattle.turning.proofs.Laws.{asked-grew, not_back}
use Rattle.ioctl_call.proofs.Laws.{back-comes, fault-comes, value-comes}
use Rattle.ioctl_call.proofs.ioctl_turn.Goals as goal

pub returns-then-is_back : goal.returns-then-is_back
returns-then-is_back c = let i = sym c.is_back.ensures ∙ c.if-is_back.true in let w = c.ioctl_turned.ensures.2 in let k = c.ioctl_ask-a.ensures.kept in record { on = λ x g f e. back-comes x g f (point_of c.args.p) c.ioctl_ask-a.result c.ioctl_ask-a.ensures.asks e c.args.s.now c.args.s.now c.ioctl_ask-a.new.buf c.ioctl_turned.result w i; asks = rw (c.ioctl_turned.ensures.0, w, i) refl; held = c.requires.s_value; kept = record { kept = k.kept; session = k.session c.args.s.now; buf = k.buf }; grew = λ j. rw w (asked-grew c.ioctl_ask-a.ensures.asks (not_back _ (rw w at j))) }

pub returns-then-a : goal.returns-then-a
returns-then-a c = let i = sym c.is_back.ensures ∙ c.if-is_back.false in let w = c.answered.ensures.2 in let k = c.ioctl_ask-a.ensures.kept in let v = c.ioctl_ask-a.result.value in record { on = λ x g f e. fault-comes x g f (point_of c.args.p) c.ioctl_ask-a.result c.ioctl_ask-a.ensures.asks e c.args.s.now c.args.s.now c.ioctl_ask-a.new.buf c.answered.result w i c.if-a.true {u = c.ioctl_ask-a.new.undo} {v = c.ioctl_ask-a.new.undo} (λ y m. let z : v % 256 ≡ v = omega (arith, m) in rw c.answered.ensures.1 (fault-replies _ _ (point_of c.args.p) v _ k.kept c.requires.s_value y (λ hh. c.ioctl_fault-then-a.ensures hh ∙ ap (λ (t : ℕ). IoctlNext.Refused hh (DriverError.Fault t)) z))); asks = rw (c.answered.ensures.0, c.answered.ensures.1, w, i) refl; held = c.requires.s_value; kept = record { kept = k.kept; session = k.session c.args.s.now; buf = k.buf }; grew = λ j. rw w (asked-grew c.ioctl_ask-a.ensures.asks (not_back _ (rw w at j))) }

pub ioctl_answer-requires : goal.ioctl_answer-requires
ioctl_answer-requires c = record { s_value = c.requires.s_value; kept = c.ioctl_ask-a.ensures.kept.kept }

pub returns : goal.returns
returns c = let i = sym c.is_back.ensures ∙ c.if-is_back.false in let w = c.answered-2.ensures.2 in let k = c.ioctl_ask-a.ensures.kept in let n = c.ioctl_answer.ensures in record { on = λ x g f e. value-comes x g f (point_of c.args.p) c.ioctl_ask-a.result c.ioctl_ask-a.ensures.asks e c.args.s.now c.ioctl_answer.new.s c.ioctl_answer.new.buf c.answered-2.result w i c.if-a.false {u = c.ioctl_ask-a.new.undo} {v = c.ioctl_answer.new.undo} (rw c.answered-2.ensures.1 n); asks = rw (c.answered-2.ensures.0, c.answered-2.ensures.1, w, i) refl; held = n.held.known; kept = record { kept = n.kept; session = n.session ∙ k.session c.args.s.now; buf = n.buf ∙ k.buf }; grew = λ j. rw w (asked-grew c.ioctl_ask-a.ensures.asks (not_back _ (rw w at j))) }
