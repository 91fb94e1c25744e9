-- What holds wherever a tree ends, if it holds where it begins. General: says nothing of a call.
use mathlib.Core.Path.{◌≡◌, refl}
use mathlib.Core.Bool.{Bool, true, false}
use Prim.Native.Nat.{ℕ}
use Rattle.slices.specs.Pick.{pick}
use Rattle.wlan.specs.declared.DriverError.{DriverError}
use Rattle.definition.specs.Bus.{Op, Ans, fault, val}
use Rattle.definition.specs.Prog.{World, Note, Fin, fine, failed, Turn, again, out, Loop, stall_loop, reply_loop, poll_loop, Back, Prog, ret, stop, ask, say, loop, note, bind, attempt, raise, turned, valued, operate, pause}
use Rattle.definition.specs.Send.{free}
use Rattle.definition.specs.Poll.{Result}
use Rattle.definition.proofs.Bytewise.{Bytewise}
use Rattle.definition.proofs.Walk.Events.{Event}
use Rattle.definition.proofs.Walk.Course.{Course, Steady, Plain, answering, noting}

-- answers bring bytes
abbrev pub BytesIn : Ans → Type 0
BytesIn (fault p) = Unit {0}
BytesIn (val v T) = Bytewise T

-- a part returns
abbrev pub Lawful : (C : Course) {A : Type 0} → A → World → C.Acc → Type 0
Lawful C a w g = C.Holds w g

-- a call may end
abbrev pub Gives : (C : Course) → Result → World → C.Acc → Type 0
Gives C r w g = C.Ended r.success w g

-- a send may go
abbrev pub Free : (C : Course) {A : Type 0} → A → World → C.Acc → Type 0
Free C a w g = C.Holds w g × (free w.st ≡ true)

-- what a loop ends with
abbrev pub LoopEnds : (C : Course) (l : Loop) → Back l → World → C.Acc → Type 0
LoopEnds C (stall_loop t0) b w g = C.Holds w g × (free w.st ≡ true)
LoopEnds C (reply_loop t0) b w g = C.Holds w g
LoopEnds C poll_loop true w g = C.Reported w g
LoopEnds C poll_loop false w g = C.Holds w g

abbrev pub TurnEnds : (C : Course) (l : Loop) → Turn (Back l) → World → C.Acc → Type 0
TurnEnds C l again w g = C.Holds w g
TurnEnds C l (out b) w g = LoopEnds C l b w g

-- a part returns with Q, or is refused
abbrev pub FinQ : (C : Course) {A : Type 0} → (A → World → C.Acc → Type 0) → Fin A → World → C.Acc → Type 0
FinQ C Q (fine a) w g = Q a w g
FinQ C Q (failed e) w g = C.Holds w g

-- the invariant at each end of the tree, and Q where it returns; at each note what is always said
pub data Keeps (C : Course) {A : Type 0} (Q : A → World → C.Acc → Type 0) : Prog A → C.Acc → Type 0 where
  k-ret : {a : A} {w : World} {g : C.Acc} → Q a w g → Keeps C Q (ret a w) g
  k-stop : {e : DriverError} {w : World} {g : C.Acc} → C.Holds w g → Keeps C Q (stop e w) g
  k-ask : {q : Op} {k : Ans → Prog A} {g : C.Acc} → C.Always (C.step (Event.logged q) g) → ((x : Ans) → BytesIn x → Keeps C Q (k x) (answering C q x g)) → Keeps C Q (ask q k) g
  k-say : {q : Op} {p : Prog A} {g : C.Acc} → C.Always (C.step (Event.logged q) g) → Keeps C Q p (C.step (Event.logged q) g) → Keeps C Q (say q p) g
  k-loop : {l : Loop} {w : World} {k : Fin (Back l) → World → Prog A} {g : C.Acc} → C.Holds w g → ((r : Fin (Back l)) (v : World) (h : C.Acc) → FinQ C (LoopEnds C l) r v h → Keeps C Q (k r v) h) → Keeps C Q (loop l w k) g
  k-note : {n : Note} {p : Prog A} {g : C.Acc} → C.Always (noting C n g) → Keeps C Q p (noting C n g) → Keeps C Q (note n p) g

pub k-bind : {C : Course} {A B : Type 0} {P : A → World → C.Acc → Type 0} {Q : B → World → C.Acc → Type 0} {p : Prog A} {g : C.Acc} (f : A → World → Prog B) → Keeps C P p g → ((a : A) (w : World) (h : C.Acc) → P a w h → Keeps C Q (f a w) h) → Keeps C Q (bind p f) g
unfolding bind
k-bind f (k-ret {a} {w} {g} h) r = r a w g h
k-bind f (k-stop h) r = k-stop h
k-bind f (k-ask c h) r = k-ask c (λ x u. k-bind f (h x u) r)
k-bind f (k-say c h) r = k-say c (k-bind f h r)
k-bind f (k-loop {k} i h) r = k-loop i (λ x v t j. k-bind {p = k x v} f (h x v t j) r)
k-bind f (k-note c h) r = k-note c (k-bind f h r)

pub k-attempt : {C : Course} {A : Type 0} {Q : A → World → C.Acc → Type 0} {p : Prog A} {g : C.Acc} → Keeps C Q p g → Keeps C (FinQ C Q) (attempt p) g
unfolding attempt
k-attempt (k-ret h) = k-ret h
k-attempt (k-stop h) = k-ret h
k-attempt (k-ask c h) = k-ask c (λ x u. k-attempt (h x u))
k-attempt (k-say c h) = k-say c (k-attempt h)
k-attempt (k-loop {k} i h) = k-loop i (λ r v t j. k-attempt {p = k r v} (h r v t j))
k-attempt (k-note c h) = k-note c (k-attempt h)

pub k-raise : {C : Course} {A : Type 0} {Q : A → World → C.Acc → Type 0} (r : Fin A) (w : World) (g : C.Acc) → FinQ C Q r w g → Keeps C Q (raise r w) g
unfolding raise
k-raise (fine a) w g h = k-ret h
k-raise (failed e) w g h = k-stop h

pub k-pick : {C : Course} {A : Type 0} {Q : A → World → C.Acc → Type 0} (b : Bool) {p q : Prog A} {g : C.Acc} → (b ≡ true → Keeps C Q p g) → (b ≡ false → Keeps C Q q g) → Keeps C Q (pick b p q) g
k-pick true h k = h refl
k-pick false h k = k refl

pub k-valued : {C : Course} (x : Ans) (w : World) (g : C.Acc) → C.Holds w g → Keeps C (Lawful C) (valued x w) g
unfolding valued
k-valued (fault p) w g h = k-stop h
k-valued (val n b) w g h = k-ret h

pub k-operate : {C : Course} (law : Steady C) (q : Op) → Plain q → (w : World) (g : C.Acc) → C.Holds w g → Keeps C (Lawful C) (operate q w) g
unfolding operate
k-operate law q i w g h = k-ask (law.always-plain q g i (law.always w g h)) (λ x u. k-valued x w _ (law.plain q x w g i h))

-- a wait
pub k-wait : {C : Course} (law : Steady C) {A : Type 0} {Q : A → World → C.Acc → Type 0} (ns : ℕ) {p : Prog A} (w : World) (g : C.Acc) → C.Holds w g
    → ((t : C.Acc) → C.Holds w t → Keeps C Q p t) → Keeps C Q (say (Op.wait ns) p) g
k-wait law ns w g h k = k-say (law.always-plain (Op.wait ns) g tt (law.always w g h)) (k _ (law.waited ns w g h))

pub k-pause : {C : Course} (law : Steady C) (ns : ℕ) (w : World) (g : C.Acc) → C.Holds w g → Keeps C (Lawful C) (pause ns w) g
unfolding pause
k-pause law ns w g h = k-wait law ns w g h (λ t i. k-ret i)

pub k-turned : {C : Course} {A : Type 0} {Q : A → World → C.Acc → Type 0} (l : Loop) (k : Fin (Back l) → World → Prog A) → ((r : Fin (Back l)) (v : World) (h : C.Acc) → FinQ C (LoopEnds C l) r v h → Keeps C Q (k r v) h)
    → (r : Fin (Turn (Back l))) (w : World) (g : C.Acc) → FinQ C (TurnEnds C l) r w g → Keeps C Q (turned l k r w) g
unfolding turned
k-turned l k c (fine again) w g h = k-loop h c
k-turned l k c (fine (out b)) w g h = c (fine b) w g h
k-turned l k c (failed e) w g h = c (failed e) w g h
