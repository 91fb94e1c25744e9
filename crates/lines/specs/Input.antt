-- What is tested of a call's words and of its arguments. `proofs/Read.antt` has `next_call` by these tests.
use Rattle.std.specs.Prelude.{◌≡◌, ℕ, ◌≤◌, Bool, ◌&&◌, List, ltb, leb, eqb, length, Result, IfOk}
use Rattle.slices.specs.Pick.{pick}
use Rattle.slices.specs.Le.{le32_at}
use Rattle.lines.specs.declared.input.InputError.{InputError}
use Rattle.lines.specs.declared.input.CallInput.{CallInput}

abbrev pub is_call : ℕ → Bool
is_call h = ltb 0xF0000000 h && leb h 0xF000000E

-- how long the output is that the call writes
abbrev pub output_length : ℕ → List ℕ → ℕ
output_length c a = pick (eqb c 8 && eqb (length a) 4) (le32_at a 0) 0

-- not the number of a call that has arguments
abbrev pub Plain : ℕ → Type 0
Plain c = (c ≡ 1 → ⊥) × (c ≡ 3 → ⊥) × (c ≡ 7 → ⊥) × (c ≡ 8 → ⊥) × (c ≡ 9 → ⊥) × (c ≡ 11 → ⊥) × (c ≡ 12 → ⊥) × (c ≡ 13 → ⊥)

-- a count that was read is within its limit
abbrev pub Within : ℕ → Result ℕ InputError → Type 0
Within limit r = IfOk r (λ n. n ≤ limit)

-- a call that was read is within its limits
abbrev pub Fits : CallInput → Type 0
Fits c = (length c.args.now ≤ 2048) × (length c.rec.now ≤ 4096) × (output_length c.call c.args.now ≤ 2048)
