-- Two trees that differ only in secret bytes; what binding and handling do to that. General: says nothing of a call.
use mathlib.Core.Path.{◌≡◌, refl}
use mathlib.Core.Bool.{Bool, true, false}
use Prim.Native.Nat.{ℕ, ◌+◌, ◌≤◌}
use lib.ListN.{length}
use Rattle.slices.specs.Pick.{pick}
use Rattle.wlan.specs.declared.DriverError.{DriverError}
use Rattle.definition.specs.Bus.{Bytes, Place, Op, Ans}
use Rattle.definition.specs.Prog.{World, Note, Fin, fine, failed, Turn, again, out, Loop, Back, Prog, ret, stop, ask, say, loop, note, bind, attempt, raise, turned, valued, operate, pause}
use Rattle.secrecy.specs.Secrecy.{blot, Came, Idle}
use Rattle.secrecy.proofs.Bufs.{Part}
use Rattle.secrecy.proofs.Twin.{Twin, left, right, On}

-- two operations: the same but for the hidden bytes of a packet
pub data SameOp : Op → Op → Type 0 where
  o-same : {q : Op} → SameOp q q
  o-write : {p p' : Bytes} {secret : Place} → length p ≡ length p' → blot (Op.write_packet p secret) ≡ blot (Op.write_packet p' secret)
      → SameOp (Op.write_packet p secret) (Op.write_packet p' secret)

-- a packet that was asked for came whole
abbrev pub Fits : Op → Ans → Type 0
Fits Op.read_interrupt x = Unit {0}
Fits Op.read_status x = Unit {0}
Fits (Op.read_packet n) (Ans.fault p) = Unit {0}
Fits (Op.read_packet n) (Ans.val v T) = 4 + n ≤ length T
Fits Op.read_clock x = Unit {0}
Fits Op.read_tick x = Unit {0}
Fits (Op.write_packet p secret) x = Unit {0}
Fits (Op.write_interrupt v) x = Unit {0}
Fits Op.frame_control x = Unit {0}
Fits (Op.wait ns) x = Unit {0}

-- both premises
abbrev pub Holds : Note → Type 0
Holds n = Came n × Idle n

-- a value is as P says; of a refusal nothing is said
abbrev pub FinP : {A : Type 0} → (A → Twin → Type 0) → Fin A → Twin → Type 0
FinP P (fine a) σ = P a σ
FinP P (failed e) σ = Unit {0}

-- what a loop hands back lies in bytes that are alike
abbrev pub BackP : (l : Loop) → Back l → Twin → Type 0
BackP (Loop.stall_loop t0) b σ = Unit {0}
BackP (Loop.reply_loop t0) r σ = Part r.buf.offset r.buf.len σ.one σ.two
BackP Loop.poll_loop b σ = Unit {0}

abbrev pub TurnP : (l : Loop) → Turn (Back l) → Twin → Type 0
TurnP l again σ = Unit {0}
TurnP l (out b) σ = BackP l b σ

-- a loop keeps what was alike at its start
pub data Related {A : Type 0} (P : A → Twin → Type 0) : Prog A → Prog A → Type 1 where
  r-ret : {a : A} (τ : Twin) → P a τ → Related P (ret a (left τ)) (ret a (right τ))
  r-stop : {e : DriverError} (τ : Twin) → Related P (stop e (left τ)) (stop e (right τ))
  r-ask : {q q' : Op} {k k' : Ans → Prog A} → SameOp q q' → ((x : Ans) → Fits q x → Related P (k x) (k' x)) → Related P (ask q k) (ask q' k')
  r-say : {q : Op} {p p' : Prog A} → Related P p p' → Related P (say q p) (say q p')
  r-loop : {l : Loop} {k k' : Fin (Back l) → World → Prog A} (S : ℕ → Type 0) (τ : Twin) → On S τ → ((r : Fin (Back l)) (σ : Twin) → FinP (λ b σ. On S σ × BackP l b σ) r σ → Related P (k r (left σ)) (k' r (right σ))) → Related P (loop l (left τ) k) (loop l (right τ) k')
  r-note : (n : Note) {n' : Note} {p p' : Prog A} → (Holds n → Related P p p') → Related P (note n p) (note n' p')

pub r-bind : {A B : Type 0} {P : A → Twin → Type 0} {Q : B → Twin → Type 0} (f f' : A → World → Prog B) {p p' : Prog A} → Related P p p' → ((a : A) (τ : Twin) → P a τ → Related Q (f a (left τ)) (f' a (right τ))) → Related Q (bind p f) (bind p' f')
unfolding bind
r-bind f g (r-ret {a = a} τ x) h = h a τ x
r-bind f g (r-stop τ) h = r-stop τ
r-bind f g (r-ask w k) h = r-ask w (λ x u. r-bind f g (k x u) h)
r-bind f g (r-say r) h = r-say (r-bind f g r h)
r-bind f g (r-loop {k = k₁} {k' = k₂} S τ s k) h = r-loop S τ s (λ b σ v. r-bind f g {p = k₁ b (left σ)} {p' = k₂ b (right σ)} (k b σ v) h)
r-bind f g (r-note n k) h = r-note n (λ v. r-bind f g (k v) h)

pub r-weaken : {A : Type 0} {P Q : A → Twin → Type 0} {p p' : Prog A} → ((a : A) (τ : Twin) → P a τ → Q a τ) → Related P p p' → Related Q p p'
r-weaken h (r-ret {a = a} τ x) = r-ret τ (h a τ x)
r-weaken h (r-stop τ) = r-stop τ
r-weaken h (r-ask w k) = r-ask w (λ x u. r-weaken h (k x u))
r-weaken h (r-say r) = r-say (r-weaken h r)
r-weaken h (r-loop {k = k₁} {k' = k₂} S τ s k) = r-loop S τ s (λ r σ v. r-weaken {p = k₁ r (left σ)} {p' = k₂ r (right σ)} h (k r σ v))
r-weaken h (r-note n k) = r-note n (λ v. r-weaken h (k v))

pub r-attempt : {A : Type 0} {P : A → Twin → Type 0} {p p' : Prog A} → Related P p p' → Related (FinP P) (attempt p) (attempt p')
unfolding attempt
r-attempt (r-ret τ x) = r-ret τ x
r-attempt (r-stop τ) = r-ret τ tt
r-attempt (r-ask w k) = r-ask w (λ x u. r-attempt (k x u))
r-attempt (r-say r) = r-say (r-attempt r)
r-attempt (r-loop {k = k₁} {k' = k₂} S τ s k) = r-loop S τ s (λ r σ v. r-attempt {p = k₁ r (left σ)} {p' = k₂ r (right σ)} (k r σ v))
r-attempt (r-note n k) = r-note n (λ v. r-attempt (k v))

pub r-pick : {A : Type 0} {P : A → Twin → Type 0} (v : Bool) {p p' q q' : Prog A} → (v ≡ true → Related P p p') → (v ≡ false → Related P q q') → Related P (pick v p q) (pick v p' q')
r-pick true f g = f refl
r-pick false f g = g refl

pub r-raise : {A : Type 0} {P : A → Twin → Type 0} (r : Fin A) (τ : Twin) → FinP P r τ → Related P (raise r (left τ)) (raise r (right τ))
unfolding raise
r-raise (fine a) τ x = r-ret τ x
r-raise (failed e) τ x = r-stop τ

pub r-valued : {P : ℕ → Twin → Type 0} (x : Ans) (τ : Twin) → ((n : ℕ) → P n τ) → Related P (valued x (left τ)) (valued x (right τ))
unfolding valued
r-valued (Ans.fault p) τ h = r-stop τ
r-valued (Ans.val n b) τ h = r-ret τ (h n)

pub r-operate : {P : ℕ → Twin → Type 0} {q q' : Op} (τ : Twin) → SameOp q q' → ((n : ℕ) → P n τ) → Related P (operate q (left τ)) (operate q' (right τ))
unfolding operate
r-operate τ w h = r-ask w (λ x u. r-valued x τ h)

pub r-pause : {P : Unit {0} → Twin → Type 0} (ns : ℕ) (τ : Twin) → P tt τ → Related P (pause ns (left τ)) (pause ns (right τ))
unfolding pause
r-pause ns τ h = r-say (r-ret τ h)

pub r-turned : {A : Type 0} {P : A → Twin → Type 0} (l : Loop) (S : ℕ → Type 0) (k k' : Fin (Back l) → World → Prog A) → ((r : Fin (Back l)) (σ : Twin) → FinP (λ b σ. On S σ × BackP l b σ) r σ → Related P (k r (left σ)) (k' r (right σ)))
    → (r : Fin (Turn (Back l))) (τ : Twin) → FinP (λ t σ. On S σ × TurnP l t σ) r τ → Related P (turned l k r (left τ)) (turned l k' r (right τ))
unfolding turned
r-turned l S k k' h (fine again) τ u = r-loop S τ u.0 h
r-turned l S k k' h (fine (out b)) τ u = h (fine b) τ u
r-turned l S k k' h (failed e) τ u = h (failed e) τ tt
