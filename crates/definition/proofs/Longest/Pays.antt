-- A tree pays for its log with the words of its answers. General: says nothing of a call, but that its only loop is poll's.
use Prim.Native.Nat.{ℕ, ◌+◌, ◌-◌, ◌≤◌}
use native.Mathlib.Omega.{arith}
use lib.Dec.{eqb}
use Rattle.slices.specs.Pick.{pick}
use Rattle.definition.specs.Bus.{Op, wants, Ans, fault, val}
use Rattle.definition.specs.Prog.{World, Fin, fine, failed, Loop, stall_loop, reply_loop, poll_loop, Back, Prog, ret, stop, ask, say, loop, note, bind, attempt, valued}
use Rattle.definition.specs.Run.{words}
use Rattle.definition.specs.Longest.{most}

-- the words of an answer of kind k that are counted: a status has two; of any other one will do, though a packet and a tick have more
abbrev pub weigh : ℕ → ℕ
weigh k = pick (eqb k 2) 2 1

-- of the answer that an operation was given
abbrev pub cost : Op → Ans → ℕ
cost q (fault p) = 1
cost q (val v bytes) = weigh (wants q)

-- with n words left, what may still be logged after an operation and its answer, if f n may be before
abbrev pub paid : Op → Ans → (ℕ → ℕ) → ℕ → ℕ
paid q x f n = f (n + cost q x) - words q

-- poll's loop alone
abbrev pub Polls : Loop → Type 0
Polls (stall_loop t0) = ⊥
Polls (reply_loop t0) = ⊥
Polls poll_loop = Unit {0}

-- what may be logged after poll's loop: the tick, and nothing after a refusal
abbrev pub after_loop : {A : Type 0} → Fin A → ℕ → ℕ
after_loop (fine a) n = 1
after_loop (failed e) n = 0

-- with n words of answers left, the tree logs at most f n words, and leaves Q a n of them to what follows its value a
abbrev pub Pays : {A : Type 0} → (A → ℕ → ℕ) → (ℕ → ℕ) → Prog A → Type 0
Pays Q f (ret a w) = (n : ℕ) → Q a n ≤ f n
Pays Q f (stop e w) = Unit {0}
Pays Q f (ask q k) = ((n : ℕ) → words q ≤ f n) × ((x : Ans) → Pays Q (paid q x f) (k x))
Pays Q f (say q p) = ((n : ℕ) → words q ≤ f n) × Pays Q (λ n. f n - words q) p
Pays Q f (loop l w k) = Polls l × (((n : ℕ) → most n ≤ f n) × ((r : Fin (Back l)) (v : World) → Pays Q (after_loop r) (k r v)))
Pays Q f (note m p) = Pays Q f p

pub p-weaken : {A : Type 0} (Q : A → ℕ → ℕ) (f g : ℕ → ℕ) (p : Prog A) → ((n : ℕ) → f n ≤ g n) → Pays Q f p → Pays Q g p
p-weaken Q f g (ret a w) h u = λ n. omega (arith, h n, u n)
p-weaken Q f g (stop e w) h u = tt
p-weaken Q f g (ask q k) h u = (λ n. omega (arith, h n, u.0 n), λ x. p-weaken Q (paid q x f) (paid q x g) (k x) (λ n. omega (arith, h (n + cost q x))) (u.1 x))
p-weaken Q f g (say q p) h u = (λ n. omega (arith, h n, u.0 n), p-weaken Q (λ n. f n - words q) (λ n. g n - words q) p (λ n. omega (arith, h n)) u.1)
p-weaken Q f g (loop l w k) h u = (u.0, (λ n. omega (arith, h n, u.1.0 n), u.1.1))
p-weaken Q f g (note m p) h u = p-weaken Q f g p h u

pub p-bind : {A B : Type 0} (P : A → ℕ → ℕ) (Q : B → ℕ → ℕ) (f : ℕ → ℕ) (g : A → World → Prog B) → ((a : A) (w : World) → Pays Q (P a) (g a w)) → (p : Prog A) → Pays P f p → Pays Q f (bind p g)
unfolding bind
p-bind P Q f g h (ret a w) u = p-weaken Q (P a) f (g a w) u (h a w)
p-bind P Q f g h (stop e w) u = tt
p-bind P Q f g h (ask q k) u = (u.0, λ x. p-bind P Q (paid q x f) g h (k x) (u.1 x))
p-bind P Q f g h (say q p) u = (u.0, p-bind P Q (λ n. f n - words q) g h p u.1)
p-bind P Q f g h (loop l w k) u = (u.0, (u.1.0, λ r v. p-bind P Q (after_loop r) g h (k r v) (u.1.1 r v)))
p-bind P Q f g h (note m p) u = p-bind P Q f g h p u

-- nothing is left to what follows a refusal
abbrev pub FinQ : {A : Type 0} → (A → ℕ → ℕ) → Fin A → ℕ → ℕ
FinQ Q (fine a) n = Q a n
FinQ Q (failed e) n = 0

pub p-attempt : {A : Type 0} (Q : A → ℕ → ℕ) (f : ℕ → ℕ) (p : Prog A) → Pays Q f p → Pays (FinQ Q) f (attempt p)
unfolding attempt
p-attempt Q f (ret a w) u = u
p-attempt Q f (stop e w) u = λ n. omega arith
p-attempt Q f (ask q k) u = (u.0, λ x. p-attempt Q (paid q x f) (k x) (u.1 x))
p-attempt Q f (say q p) u = (u.0, p-attempt Q (λ n. f n - words q) p u.1)
p-attempt Q f (loop l w k) u = (u.0, (u.1.0, λ r v. p-attempt Q (after_loop r) (k r v) (u.1.1 r v)))
p-attempt Q f (note m p) u = p-attempt Q f p u

-- the answer's number, and on; a fault ends the call
pub p-valued : {A : Type 0} (Q : A → ℕ → ℕ) (q : Op) (f : ℕ → ℕ) (g : ℕ → World → Prog A) (w : World)
    → ((v : ℕ) → Pays Q (λ n. f (n + weigh (wants q)) - words q) (g v w)) → (x : Ans) → Pays Q (paid q x f) (bind (valued x w) g)
unfolding bind valued
p-valued Q q f g w h (fault p) = tt
p-valued Q q f g w h (val v b) = h v
