-- The call that a number and its arguments are.
use mathlib.Core.Path.{◌≡◌, refl}
use mathlib.Core.Bool.{Bool, true, false}
use mathlib.Core.List.{List}
use Prim.Native.Nat.{ℕ, ◌+◌, ◌-◌, ◌≤◌, ◌<◌}
use native.Mathlib.Omega.{arith}
use lib.ListN.{length, take, drop}
use lib.Seq.{drop-drop}
use borrow.Author.Tests.{eq-eqb, ne_eqb, le-leb, lt-leb}
use Rattle.std.specs.Prelude.{Option, Some, None, ◌==◌}
use Rattle.std.specs.List.{position, IsSplitAt}
use Rattle.slices.specs.Pick.{pick}
use Rattle.slices.specs.Le.{le32_at}
use Rattle.slices.proofs.Over.{part-rest}
use Rattle.definition.specs.Calls.{Call}
use Rattle.definition.specs.Player.{Arguments, call_with, join_of, variable_of, arguments_of}
use Rattle.jobs.specs.declared.ExchangeCall.{ExchangeCall}
use Rattle.jobs.specs.Jobs.{call_of}
use Rattle.lines.specs.Input.{output_length, Plain}
use Rattle.arguments.specs.declared.CallArgs.{CallArgs}
use Rattle.arguments.specs.Arguments.{Reads}
use Rattle.arguments.proofs.Fits.{name-found, name-none}

-- a call that is exchanges, with these byte arguments
abbrev Exchanged : ℕ → List ℕ → ExchangeCall → List ℕ → List ℕ → Type 0
Exchanged n a c s t = (arguments_of n a ≡ call_with (call_of c s t)) × (output_length n a ≡ 0)

module _ (a : List ℕ) where
  pub init-is : {x : ℕ} (s t : List ℕ) → x ≡ le32_at a 0 → length a ≡ 4 → Exchanged 1 a (ExchangeCall.Init x) s t
  unfolding arguments_of call_of
  init-is s t e h = (rw (eq-eqb (length a) 4 h, e), refl)

  pub init-bad : (length a ≡ 4 → ⊥) → Reads 1 a None
  unfolding arguments_of
  init-bad h = (rw (ne_eqb (length a) 4 h), refl)

  pub gpio-is : {x y : ℕ} (s t : List ℕ) → x ≡ le32_at a 0 → y ≡ le32_at a 4 → length a ≡ 8 → Exchanged 9 a (ExchangeCall.GpioSet x y) s t
  unfolding arguments_of call_of
  gpio-is s t e f h = (rw (eq-eqb (length a) 8 h, e, f), refl)

  pub gpio-bad : (length a ≡ 8 → ⊥) → Reads 9 a None
  unfolding arguments_of
  gpio-bad h = (rw (ne_eqb (length a) 8 h), refl)

  pub get-is : {x y : ℕ} (s t : List ℕ) → x ≡ le32_at a 0 → y ≡ le32_at a 4 → length a ≡ 8 → Exchanged 11 a (ExchangeCall.GetIoctl x y) s t
  unfolding arguments_of call_of
  get-is s t e f h = (rw (eq-eqb (length a) 8 h, e, f), refl)

  pub get-bad : (length a ≡ 8 → ⊥) → Reads 11 a None
  unfolding arguments_of
  get-bad h = (rw (ne_eqb (length a) 8 h), refl)

  pub set_is : {x y z : ℕ} (s t : List ℕ) → x ≡ le32_at a 0 → y ≡ le32_at a 4 → z ≡ le32_at a 8 → length a ≡ 12 → Exchanged 12 a (ExchangeCall.SetIoctl x y z) s t
  unfolding arguments_of call_of
  set_is s t e f g h = (rw (eq-eqb (length a) 12 h, e, f, g), refl)

  pub set-bad : (length a ≡ 12 → ⊥) → Reads 12 a None
  unfolding arguments_of
  set-bad h = (rw (ne_eqb (length a) 12 h), refl)

  pub take-is : length a ≡ 4 → Reads 8 a (Some CallArgs.Take)
  unfolding arguments_of
  take-is h = (rw (eq-eqb (length a) 4 h), rw (eq-eqb (length a) 4 h))

  pub take-bad : (length a ≡ 4 → ⊥) → Reads 8 a None
  unfolding arguments_of
  take-bad h = (rw (ne_eqb (length a) 4 h), rw (ne_eqb (length a) 4 h))

  pub send-is : {x : ℕ} (h s : List ℕ) → x ≡ le32_at a 0 → IsSplitAt a 4 h s → (arguments_of 7 a ≡ call_with (Call.send_data x s)) × (output_length 7 a ≡ 0)
  unfolding arguments_of
  send-is h s e p = (rw (le-leb 4 (length a) p.0, p.2, e), refl)

  pub send-bad : length a < 4 → Reads 7 a None
  unfolding arguments_of
  send-bad h = (rw (lt-leb 4 (length a) h), refl)

  pub join_is : {x n : ℕ} (h r s t : List ℕ) → x ≡ le32_at a 0 → n ≡ le32_at a 4 → IsSplitAt a 8 h r → IsSplitAt r n s t → Exchanged 3 a (ExchangeCall.Connect x) s t
  unfolding arguments_of call_of join_of
  join_is {n} h r s t e f p q =
      let room : 8 + n ≤ length a = omega (arith, q.0, p.4) in
      let past : t ≡ drop (8 + n) a = rw (q.2, p.2) (drop-drop n 8 a) in
      (rw (← f, le-leb 8 (length a) p.0, le-leb (8 + n) (length a) room, e, q.1, past, p.2), refl)

  pub join-short : length a < 8 → Reads 3 a None
  unfolding arguments_of join_of
  join-short h = (rw (lt-leb 8 (length a) h), refl)

  pub join-bad : {n : ℕ} (h r : List ℕ) → n ≡ le32_at a 4 → IsSplitAt a 8 h r → length r < n → Reads 3 a None
  unfolding arguments_of join_of
  join-bad {n} h r f p l =
      let room : length a < 8 + n = omega (arith, p.4) in
      (rw (← f, le-leb 8 (length a) p.0, lt-leb (8 + n) (length a) room), refl)

  pub variable-is : {x n : ℕ} (h r : List ℕ) → x ≡ le32_at a 0 → IsSplitAt a 4 h r → position (λ b. b == 0) r ≡ Some n
      → Exchanged 13 a (ExchangeCall.WriteIovar x) (take n r) (take (length r - (n + 1)) (drop (n + 1) r))
  unfolding arguments_of call_of variable_of
  variable-is {n} h r e p z =
      let f = name-found r n z in
      (rw (← p.2, f.0, f.1, le-leb 4 (length a) p.0, e, part-rest r (n + 1)), refl)

  pub variable-short : length a < 4 → Reads 13 a None
  unfolding arguments_of variable_of
  variable-short h = (rw (lt-leb 4 (length a) h), refl)

  pub variable-bad : (h r : List ℕ) → IsSplitAt a 4 h r → position (λ b. b == 0) r ≡ None → Reads 13 a None
  unfolding arguments_of variable_of
  variable-bad h r p z = (rw (← p.2, name-none r z, le-leb 4 (length a) p.0), refl)

pub renumbered : (r : Option CallArgs) (n k : ℕ) (a : List ℕ) → n ≡ k → Reads k a r → Reads n a r
renumbered r n k a e h = rw e h

module _ (n : ℕ) (a s t : List ℕ) where
  pub scan-is : n ≡ 2 → length a ≡ 0 → Exchanged n a ExchangeCall.Scan s t
  unfolding arguments_of call_of
  scan-is e h = (rw (e, eq-eqb (length a) 0 h), rw e)

  pub leave-is : n ≡ 4 → length a ≡ 0 → Exchanged n a ExchangeCall.Disconnect s t
  unfolding arguments_of call_of
  leave-is e h = (rw (e, eq-eqb (length a) 0 h), rw e)

  pub abort-is : n ≡ 5 → length a ≡ 0 → Exchanged n a ExchangeCall.AbortConnect s t
  unfolding arguments_of call_of
  abort-is e h = (rw (e, eq-eqb (length a) 0 h), rw e)

  pub mac-is : n ≡ 10 → length a ≡ 0 → Exchanged n a ExchangeCall.GetMacAddr s t
  unfolding arguments_of call_of
  mac-is e h = (rw (e, eq-eqb (length a) 0 h), rw e)

pub poll-is : (n : ℕ) (a : List ℕ) → n ≡ 6 → length a ≡ 0 → Reads n a (Some CallArgs.Poll)
unfolding arguments_of
poll-is n a e h = (rw (e, eq-eqb (length a) 0 h), rw e)

pick_same : (t : Bool) (x : Arguments) → pick t x x ≡ x
pick_same true x = refl
pick_same false x = refl

module _ (n : ℕ) (a : List ℕ) (p : Plain n) where
  pub bare-bad : (length a ≡ 0 → ⊥) → Reads n a None
  unfolding arguments_of
  bare-bad h = (
    rw
        (ne_eqb n 1 p.0, ne_eqb n 3 p.1, ne_eqb n 7 p.2, ne_eqb n 8 p.3, ne_eqb n 9 p.4, ne_eqb n 11 p.5, ne_eqb n 12 p.6, ne_eqb n 13 p.7, ne_eqb (length a) 0 h)
        (simp pick_same),
    rw (ne_eqb n 8 p.3),
  )

  pub up_is : (s t : List ℕ) → (n ≡ 2 → ⊥) → (n ≡ 4 → ⊥) → (n ≡ 5 → ⊥) → (n ≡ 6 → ⊥) → (n ≡ 10 → ⊥) → length a ≡ 0 → Exchanged n a ExchangeCall.Up s t
  unfolding arguments_of call_of
  up_is s t b d f g i h = (
    rw
        (ne_eqb n 1 p.0, ne_eqb n 2 b, ne_eqb n 3 p.1, ne_eqb n 4 d, ne_eqb n 5 f, ne_eqb n 6 g, ne_eqb n 7 p.2, ne_eqb n 8 p.3, ne_eqb n 9 p.4, ne_eqb n 10 i, ne_eqb n 11 p.5, ne_eqb n 12 p.6, ne_eqb n 13 p.7, eq-eqb (length a) 0 h),
    rw (ne_eqb n 8 p.3),
  )
