-- Where a channel's sequence starts: each c_init fits a u32, and the definitions at the branches of the code. Assumes nothing.
use Rattle.std.specs.Prelude.{if◌then◌else◌}
use Prim.Native.Nat.{ℕ, ◌+◌, ◌-◌, ◌*◌, ◌%◌, ◌<◌, ◌≤◌}
use mathlib.Core.Path.{◌≡◌, sym, ap, ◌∙◌}
use mathlib.Core.Bool.{Bool}
use native.Mathlib.Omega.{arith}
use native.Mathlib.Nat.{mul-le-mul}
use borrow.Author.Tests.{lt-ltb, le-ltb, eq-eqb, ne_eqb}
use Rattle.crs.specs.Crs.{crs_init}
use Rattle.plan.specs.declared.Cell.{Cell}
use Rattle.plan.specs.declared.Frame.{Frame}
use Rattle.layout.specs.Rules.{slot_length, slot_of, in_slot}
use Rattle.subframe.specs.Elements.{pbch_first}

-- ---- the reference signals: a symbol of the first slot, and one of the second
module _ (c : Cell) (n f s : ℕ) (en : n ≡ 2 * f) where
  abbrev e : ℕ
  e = c.prefix

  abbrev C : ℕ
  C = c.identity

  abbrev L : ℕ
  L = slot_length c

  abbrev start : Bool → ℕ
  start t = crs_init e C (2 * f + (if t then 0 else 1)) (if t then s else s - L)

  pub early : s < L → crs_init e C n s ≡ crs_init e C (2 * f + slot_of c s) (in_slot c s)
  unfolding slot_of in_slot
  early h = let q : n ≡ 2 * f + 0 = omega (arith, en) in ap (λ (x : ℕ). crs_init e C x s) q ∙ sym (ap start (lt-ltb s L h))

  pub late : L ≤ s → crs_init e C (n + 1) (s - L) ≡ crs_init e C (2 * f + slot_of c s) (in_slot c s)
  unfolding slot_of in_slot
  late h = let q : n + 1 ≡ 2 * f + 1 = omega (arith, en) in ap (λ (x : ℕ). crs_init e C x (s - L)) q ∙ sym (ap start (le-ltb s L h))

-- ---- PCFICH's and PHICH's: at most 10 × 1,007 × 512 + 503
pub product : (f C : ℕ) → f ≤ 9 → C ≤ 503 → (f + 1) * (2 * C + 1) ≤ 10070
product f C a b = mul-le-mul {n₂ = 10} {m₂ = 1007} (omega arith) (omega arith)

-- ---- PBCH's first bit
module _ (c : Cell) (f : Frame) where
  pub extended : c.prefix ≡ 1 → 432 * (f.number % 4) ≡ pbch_first c f
  unfolding pbch_first
  extended h = sym (ap (λ (t : Bool). (if t then 432 else 480) * (f.number % 4)) (eq-eqb c.prefix 1 h))

  pub normal : (c.prefix ≡ 1 → ⊥) → 480 * (f.number % 4) ≡ pbch_first c f
  unfolding pbch_first
  normal h = sym (ap (λ (t : Bool). (if t then 432 else 480) * (f.number % 4)) (ne_eqb c.prefix 1 h))
