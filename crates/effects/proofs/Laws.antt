-- What a taken answer says of the recording's words, at the place where it was read.
use mathlib.Core.Path.{◌≡◌, refl, sym, ◌∙◌}
use mathlib.Core.Bool.{Bool, true, false, ◌||◌}
use mathlib.Core.List.{List, [], ◌∷◌}
use Prim.Native.Nat.{ℕ, zero, suc, ◌+◌, ◌*◌, ◌≤◌, ◌<◌}
use native.Mathlib.Omega.{arith}
use lib.Dec.{ltb, eqb}
use lib.ListN.{length, take, drop, get_or, length-drop}
use lib.Seq.{get_or-drop, drop-drop}
use borrow.Author.Tests.{ltb-true, eqb-true, eqb-false}
use Rattle.slices.specs.Pick.{pick}
use Rattle.slices.specs.Le.{words_for, bytes_of}
use Rattle.wlan.specs.declared.BusOp.{BusOp}
use Rattle.definition.specs.Bus as def
use Rattle.bus.specs.Op.{op_of}
use Rattle.answers.specs.Taken.{taken_of}
use Rattle.answers.proofs.Answers.{size_in, next_of, size-pos, taken-fault, taken-value, taken-packet}
use Rattle.device.specs.Meaning.{InRange}
use Rattle.effects.specs.Answer.{answer_in, is_wait}
use Rattle.std.specs.Prelude.{Ok, Err}
use Rattle.wlan.specs.Results.{BusAnswer}

-- ---- where it lies

whole : (q : def.Op) (ws : List ℕ) (x : BusAnswer) → Ok x ≡ taken_of q ws → size_in ws ≤ length ws
whole q ws (Err f) h = (taken-fault q ws f.place (sym h)).whole
whole q ws (Ok v) h = (taken-value q ws v (sym h)).whole

pub got-inside : (q : def.Op) (rec : List ℕ) (pos : ℕ) (x : BusAnswer) → Ok x ≡ taken_of q (drop pos rec) → pos < length rec
got-inside q rec pos x h = omega (arith, whole q (drop pos rec) x h, size-pos (get_or (drop pos rec) 0 0), length-drop pos rec)

-- ---- a packet

pub packet-fits : (n : ℕ) (rec : List ℕ) (pos : ℕ) (x : BusAnswer) (v : ℕ) → x ≡ Ok v → Ok x ≡ taken_of (def.Op.read_packet n) (drop pos rec) → pos + (2 + words_for n) ≤ length rec
packet-fits n rec pos x v e h =
    let ws = drop pos rec in
    omega (arith, whole (def.Op.read_packet n) ws x h, (taken-packet n ws v (sym (rw e at h))).size, length-drop pos rec)

pub packet-bytes : (n : ℕ) (rec : List ℕ) (pos : ℕ) (x : BusAnswer) (v : ℕ) → x ≡ Ok v → Ok x ≡ taken_of (def.Op.read_packet n) (drop pos rec) → bytes_of (take (1 + words_for n) (drop (pos + 1) rec)) ≡ (next_of (drop pos rec)).bytes
packet-bytes n rec pos x v e h = sym ((taken-packet n (drop pos rec) v (sym (rw e at h))).bytes ∙ rw drop-drop)

-- ---- how wide a value is

-- w: the answer's second word
abbrev Wide : ℕ → def.Answer → Type 0
Wide w a = (a.kind ≡ 1 → a.value < 65536) × (a.kind ≡ 2 → a.value ≡ w)

neither : (w k v : ℕ) (b : def.Bytes) → (k ≡ 1 → ⊥) → (k ≡ 2 → ⊥) → Wide w (def.answer k v b)
neither w k v b f g = (λ e. absurd (f e), λ e. absurd (g e))

abbrev no : def.Answer
no = def.answer 0 0 []

no-wide : (w : ℕ) → Wide w no
no-wide w = neither w 0 0 [] (λ e. omega arith) (λ e. omega arith)

pick-by : (w : ℕ) (b : Bool) (x y : def.Answer) → (b ≡ true → Wide w x) → (b ≡ false → Wide w y) → Wide w (pick b x y)
pick-by w true x y f g = f refl
pick-by w false x y f g = g refl

usable : (w : ℕ) (b : Bool) (x : def.Answer) → (b ≡ true → Wide w x) → Wide w (pick b x no)
usable w b x f = pick-by w b x no f (λ e. no-wide w)

wide_by : (k low w w' : ℕ) (b : def.Bytes)
    → Wide w (pick (eqb k 1) (pick (ltb low 65536) (def.answer 1 low []) no)
    (pick (eqb k 2) (pick (eqb low 0) (def.answer 2 w []) no)
    (pick (eqb k 3) (pick (ltb low 65536) (def.answer 3 low b) no)
    (pick (eqb k 4 || eqb k 5) (pick (eqb low 0) (def.answer k (w + 4294967296 * w') []) no)
    (pick (eqb k 6) (pick (eqb low 0) (def.answer 6 0 []) no)
    (pick (eqb k 7) (pick (ltb low 10) (def.answer 7 low []) no) no))))))
wide_by k low w w' b =
    pick-by w (eqb k 1) _ _ (λ h. usable w (ltb low 65536) (def.answer 1 low []) (λ l. (λ e. ltb-true _ _ l, λ e. absurd (omega arith))))
    (λ n1. pick-by w (eqb k 2) _ _ (λ h. usable w (eqb low 0) (def.answer 2 w []) (λ l. (λ e. absurd (omega arith), λ e. refl)))
    (λ n2. pick-by w (eqb k 3) _ _ (λ h. usable w (ltb low 65536) (def.answer 3 low b) (λ l. neither w 3 low b (λ e. omega arith) (λ e. omega arith)))
    (λ n3. pick-by w (eqb k 4 || eqb k 5) _ _ (λ h. usable w (eqb low 0) (def.answer k (w + 4294967296 * w') []) (λ l. neither w k (w + 4294967296 * w') [] (eqb-false _ _ n1) (eqb-false _ _ n2)))
    (λ n4. pick-by w (eqb k 6) _ _ (λ h. usable w (eqb low 0) (def.answer 6 0 []) (λ l. neither w 6 0 [] (λ e. omega arith) (λ e. omega arith)))
    (λ n6. usable w (eqb k 7) _ (λ h. usable w (ltb low 10) (def.answer 7 low []) (λ l. neither w 7 low [] (λ e. omega arith) (λ e. omega arith))))))))

wide : (ws : List ℕ) → Wide (get_or ws 1 0) (def.answer_of ws)
unfolding def.answer_of
wide ws = wide_by (def.kind_of (get_or ws 0 0)) (def.low_of (get_or ws 0 0)) (get_or ws 1 0) (get_or ws 2 0) (bytes_of (drop 1 ws))

by_tests : (s t u w : Bool) (x v : ℕ) (b c : def.Bytes)
    → pick s (pick t def.wrong (def.got (def.fault x))) (pick u (pick w (def.got (def.val x b)) def.wrong) def.wrong) ≡ def.got (def.val v c)
    → (u ≡ true) × (x ≡ v)
by_tests true true u w x v b c h = absurd (let z : ◌≡◌ {A = ℕ} 0 1 = cc in omega arith)
by_tests true false u w x v b c h = absurd (let z : ◌≡◌ {A = ℕ} 0 1 = cc in omega arith)
by_tests false t false w x v b c h = absurd (let z : ◌≡◌ {A = ℕ} 0 1 = cc in omega arith)
by_tests false t true false x v b c h = absurd (let z : ◌≡◌ {A = ℕ} 0 1 = cc in omega arith)
by_tests false t true true x v b c h = (refl, cc)

-- an answer that gave a value is of the kind that was wanted
valued : (q : def.Op) (a : def.Answer) (v : ℕ) (c : def.Bytes) → def.taken_by q a ≡ def.got (def.val v c) → (a.kind ≡ def.wants q) × (a.value ≡ v)
unfolding def.taken_by
valued q a v c h =
    let e = by_tests (eqb a.kind 7) (eqb (def.wants q) 4 || eqb (def.wants q) 5) (eqb a.kind (def.wants q)) (def.asked q a.value) a.value v a.bytes c h in
    (eqb-true _ _ e.0, e.1)

next-valued : (q : def.Op) (ws : List ℕ) (v : ℕ) → Ok (Ok v) ≡ taken_of q ws → ((next_of ws).kind ≡ def.wants q) × ((next_of ws).value ≡ v)
next-valued q ws v h = valued q (next_of ws) v (next_of ws).bytes (taken-value q ws v (sym h)).taken

get_or-taken : (n : ℕ) (ws : List ℕ) (i : ℕ) → get_or (take n ws) i 0 ≤ get_or ws i 0
get_or-taken zero ws i = omega arith
get_or-taken (suc n) [] i = omega arith
get_or-taken (suc n) (w ∷ ws) zero = omega arith
get_or-taken (suc n) (w ∷ ws) (suc i) = get_or-taken n ws i

interrupt-wide : (ws : List ℕ) (v : ℕ) → Ok (Ok v) ≡ taken_of def.Op.read_interrupt ws → v < 65536
interrupt-wide ws v h =
    let e = next-valued def.Op.read_interrupt ws v h in
    omega (arith, (wide (take (size_in ws) ws)).0 e.0, e.1)

status-word : (ws : List ℕ) (v : ℕ) → Ok (Ok v) ≡ taken_of def.Op.read_status ws → v ≤ get_or ws 1 0
status-word ws v h =
    let e = next-valued def.Op.read_status ws v h in
    omega (arith, (wide (take (size_in ws) ws)).1 e.0, e.1, get_or-taken (size_in ws) ws 1)

ranged : (op : BusOp) (x : BusAnswer) (ws : List ℕ) → is_wait op ≡ false → get_or ws 1 0 < 4294967296 → Ok x ≡ taken_of (op_of op []) ws → InRange op (answer_in x ws)
unfolding InRange answer_in is_wait
ranged BusOp.ReadInterrupt (Err f) ws n s h = tt
ranged BusOp.ReadInterrupt (Ok v) ws n s h = interrupt-wide ws v h
ranged BusOp.ReadStatus (Err f) ws n s h = tt
ranged BusOp.ReadStatus (Ok v) ws n s h = omega (arith, status-word ws v h)
ranged (BusOp.ReadPacket k) x ws n s h = tt
ranged BusOp.ReadClock x ws n s h = tt
ranged BusOp.ReadTick x ws n s h = tt
ranged (BusOp.WritePacket k) x ws n s h = tt
ranged (BusOp.WriteInterrupt v) x ws n s h = tt
ranged BusOp.FrameControl x ws n s h = tt
ranged (BusOp.Wait ns) x ws n s h = absurd (let z : ◌≡◌ {A = ℕ} 0 1 = cc in omega arith)

pub in-range : (op : BusOp) (x : BusAnswer) (rec : List ℕ) (pos : ℕ) → is_wait op ≡ false → get_or rec (pos + 1) 0 < 4294967296 → Ok x ≡ taken_of (op_of op []) (drop pos rec) → InRange op (answer_in x (drop pos rec))
in-range op x rec pos n s h = ranged op x (drop pos rec) n (omega (arith, get_or-drop pos rec 1 0)) h
