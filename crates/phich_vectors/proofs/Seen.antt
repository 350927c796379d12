-- The tests of the program: what `known`, `ready` and `flips` have seen. Assumes nothing.
use Prim.Native.Nat.{ℕ, ◌+◌, ◌-◌, ◌*◌, ◌≤◌, ◌<◌}
use mathlib.Core.Path.{◌≡◌, refl}
use mathlib.Core.Bool.{Bool, true, false, cond}
use mathlib.Core.List.{List}
use native.Mathlib.Decide.{ℕ_discrete}
use native.Mathlib.Nat.{not-suc-le-zero, mul-le-mul}
use native.Mathlib.Omega.{arith}
use borrow.Author.Count.{below_more}
use borrow.Author.Tests.{ltb-true, ltb-false}
use lib.Dec.{ltb}
use lib.IntN.{pos, negsuc, nat_abs}
use lib.ListN.{length, get_or, drop}
use Rattle.base.specs.Bytes.{signed_of}
use Rattle.plan.specs.declared.Hi.{Hi}
use Rattle.plan.specs.Commands.{hi_of}
use Rattle.plan.specs.CommandLists.{his_from, next_of}
use Rattle.phich.specs.His.{hi_number}
use Rattle.phich.specs.Spreading.{Length}
use Rattle.phich.specs.Units.{mapping_unit}
use Rattle.phich.specs.Loops.{HiIn, HisIn, Levels}
use Rattle.phich.proofs.HisLeft.{At, at-start, here, at_next}

-- ---- `known`
pub hi-known : {l q g : ℕ} {h : Hi} → Length l → q ≡ h.sequence → g ≡ h.group → q < 2 * l → g * l < 100 → HiIn l h
unfolding mapping_unit
hi-known ok eq eg a b = record { spread = ok; known = omega arith; unit = rw (← eg) (omega arith) }

pub group-fits : (g l : ℕ) → g < 256 → l ≤ 4 → g * l ≤ 1020
group-fits g l a b = mul-le-mul {n₁ = g} {m₁ = l} {n₂ = 255} {m₂ = 4} (omega arith) b

-- ---- `ready`: k HIs are known
pub record Known (l : ℕ) (plan : List ℕ) (count from k : ℕ) : Type 0 where
  pub where-at : At plan 0 count from k
  pub each : (n : ℕ) → n < k → HiIn l (hi_number (his_from (drop 0 plan) count) n)

pub start : (l : ℕ) (plan : List ℕ) (count : ℕ) → Known l plan count 0 0
start l plan count = record { where-at = at-start plan 0 count; each = λ n r. absurd (not-suc-le-zero r) }

pub next :
    {l : ℕ} {plan : List ℕ} {count from k : ℕ} → Known l plan count from k → k < count → {h : Hi} {next : ℕ} → h ≡ hi_of (drop from plan) → HiIn l h → next ≡ next_of plan from
    → Known l plan count next (k + 1)
next {l = l} {plan = plan} {count = count} {from = from} {k = k} t r {h = h} eh ok en =
    record { where-at = at_next t.where-at r en; each = λ n q. pick n q (ℕ_discrete n k) }
  where
    pick : (n : ℕ) → n < k + 1 → Dec (n ≡ k) → HiIn l (hi_number (his_from (drop 0 plan) count) n)
    pick n q (yes e) = rw (e, ← here t.where-at r, ← eh) ok
    pick n q (no e) = t.each n (omega (arith, e))

pub finish : {l : ℕ} {plan : List ℕ} {count from k : ℕ} → Known l plan count from k → count ≤ k → HisIn l plan 0 count
finish t r = record { each = λ n q. t.each n (omega arith) }

-- ---- `flips`: the bytes below i are not -128
pub record Flips (part : List ℕ) (i : ℕ) : Type 0 where
  pub size : length part ≡ 8
  pub done : i ≤ 8
  pub each : (j : ℕ) → j < i → (get_or part j 0 < 256) × (get_or part j 0 ≡ 128 → ⊥)

pub flips-none : {part : List ℕ} → length part ≡ 8 → Flips part 0
flips-none e = record { size = e; done = omega arith; each = λ j r. absurd (not-suc-le-zero r) }

pub flips-more : {part : List ℕ} {i : ℕ} → Flips part i → i < 8 → get_or part i 0 < 256 → (get_or part i 0 ≡ 128 → ⊥) → Flips part (i + 1)
flips-more t r b n = record { size = t.size; done = omega arith; each = below_more _ _ t.each (b, n) }

small-level : (b : ℕ) → b < 256 → (b ≡ 128 → ⊥) → nat_abs (signed_of b) ≤ 127
small-level b r n = pick (ltb b 128) refl
  where
    pick : (t : Bool) → ltb b 128 ≡ t → nat_abs (cond t (pos b) (negsuc (255 - b))) ≤ 127
    pick true e = omega (arith, ltb-true b 128 e)
    pick false e = omega (arith, ltb-false b 128 e, n)

pub flips-all : {part : List ℕ} {i : ℕ} → Flips part i → 8 ≤ i → Levels 127 part
flips-all {part = part} {i = n} t r = record { size = t.size; small = λ i k. (level (2 * i) (omega arith), level (2 * i + 1) (omega arith)) }
  where
    level : (j : ℕ) → j < 8 → nat_abs (signed_of (get_or part j 0)) ≤ 127
    level j k = let e = t.each j (omega arith) in small-level (get_or part j 0) e.0 e.1
