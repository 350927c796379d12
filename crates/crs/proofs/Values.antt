-- The values of a symbol, two bits each, one after the other in its sequence; and that a c_init has 31 bits.
-- Assumes nothing.
use mathlib.Core.Path.{◌≡◌, refl, ap, ◌∙◌}
use Prim.Native.Nat.{ℕ, zero, suc, ◌+◌, ◌-◌, ◌*◌, ◌/◌, ◌%◌, ◌^◌, ◌≤◌, ◌<◌}
use native.Mathlib.Nat.{mul-le-mul}
use native.Mathlib.Omega.{arith}
use borrow.Author.Tests.{ne_eqb}
use lib.Dec.{eqb}
use lib.IntN.{pos}
use mir.Val.{bool_byte}
use Rattle.base.specs.Signs.{flip}
use Rattle.base.proofs.Pairs.{pair-of}
use Rattle.gold.specs.Sequence.{c, binary}
use Rattle.gold.proofs.Binary.{binary-two}
use Rattle.gold.proofs.Laws.{c_lt}
use Rattle.crs.specs.Crs.{normal_prefix, crs_init, in_widest, crs_value, word_value}

-- m values on from the first, at bit 2 (110 - N) + 2 m, stand the two bits of value m
pub value-at : (prefix C N n l m : ℕ) → N ≤ 110 → word_value (binary (c (crs_init prefix C n l)) (2 * (110 - N) + 2 * m) 2) ≡ crs_value prefix C N n l m
unfolding word_value crs_value in_widest
value-at prefix C N n l m few =
    let init = crs_init prefix C n l in
    let k = 2 * (110 - N) + 2 * m in
    let a : 2 * (110 - N) + 2 * m ≡ 2 * (m + 110 - N) = omega arith in
    let w : binary (c init) k 2 ≡ c init k * 2 + c init (k + 1) = binary-two (c init) k in
    let first : binary (c init) k 2 / 2 ≡ c init (2 * (m + 110 - N)) = upper (c init k) (c init (k + 1)) (binary (c init) k 2) w (c_lt init (k + 1)) ∙ ap (c init) a in
    let second : binary (c init) k 2 % 2 ≡ c init (2 * (m + 110 - N) + 1) = lower (c init k) (c init (k + 1)) (binary (c init) k 2) w (c_lt init (k + 1)) ∙ ap (λ (i : ℕ). c init (i + 1)) a in
    pair-of (ap (λ (b : ℕ). flip b (pos 1)) first) (ap (λ (b : ℕ). flip b (pos 1)) second)
  where
    upper : (a b w : ℕ) → w ≡ a * 2 + b → b < 2 → w / 2 ≡ a
    upper a b w e less = omega arith

    lower : (a b w : ℕ) → w ≡ a * 2 + b → b < 2 → w % 2 ≡ b
    lower a b w e less = omega arith

-- a cell up to 503, a slot below 20 and a symbol below 7 give a c_init of 31 bits
pub init-fits : (C n l : ℕ) → C ≤ 503 → n < 20 → l < 7 → 1024 * (7 * (n + 1) + l + 1) * (2 * C + 1) + 2 * C + 1 < 2 ^ 31
init-fits C n l few slot symbol =
    let a : 1024 * (7 * (n + 1) + l + 1) ≤ 150528 = omega arith in
    let b : 2 * C + 1 ≤ 1007 = omega arith in
    let h : 1024 * (7 * (n + 1) + l + 1) * (2 * C + 1) ≤ 150528 * 1007 = mul-le-mul a b in
    omega arith

pub prefix-le : (p : ℕ) → normal_prefix p ≤ 1
unfolding normal_prefix
prefix-le zero = omega arith
prefix-le (suc p) = omega arith

-- N_CP as the code has it
pub prefix-flag : (p : ℕ) → bool_byte (eqb p 0) ≡ normal_prefix p
unfolding normal_prefix
prefix-flag zero = refl
prefix-flag (suc p) = rw (ne_eqb (suc p) 0 (λ e. omega arith)) refl
