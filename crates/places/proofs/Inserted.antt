-- The group left with number n in symbol 0 is n and those of PCFICH's groups that stand below it: each of these has at most n groups left
-- below itself. In a later symbol it is n. Assumes six blocks.
use Prim.Native.Nat.{ℕ, suc, ◌+◌, ◌≤◌, ◌<◌}
use mathlib.Core.Path.{◌≡◌, refl, sym, ap, ◌∙◌}
use mathlib.Core.Bool.{true, false}
use native.Mathlib.Omega.{arith}
use native.Mathlib.Decide.{dec_le}
use lib.Dec.{ltb}
use borrow.Author.Tests.{lt-ltb, le-ltb, not-true}
use Rattle.base.proofs.Tests.{clash}
use Rattle.base.specs.Choice.{indicator}
use Rattle.plan.specs.declared.Cell.{Cell}
use Rattle.plan.specs.Fields.{symbol_groups}
use Rattle.layout.specs.Rules.{format_group, is_format, format_has, quad_symbol, is_left, groups_left, quad_number, quad_group}
use Rattle.layout.specs.Chain.{below_of, number}
use Rattle.layout.proofs.Groups.{is-format, below, number_is, number-later}
use Rattle.layout.proofs.Units.{number_lt, unit-number}
use Rattle.base.specs.Counts.{cnt, nth}
use Rattle.places.specs.Steps.{step_of}
use Rattle.base.proofs.Counts.{cnt-le, cnt-own, nth-is}

not-format : (c : Cell) (t : ℕ) → is_left c 0 t ≡ true → is_format c t ≡ false
unfolding is_left format_has
not-format c t e = not-true (is_format c t) e

module _ (c : Cell) (big : 6 ≤ c.blocks) where
  abbrev F : ℕ → ℕ
  F i = format_group c i

  abbrev step : ℕ → ℕ → ℕ
  step n t = step_of (F 0) (F 1) (F 2) (F 3) n t

  below-is : (t : ℕ) → below_of (F 0) (F 1) (F 2) (F 3) t ≡ below c t
  unfolding below
  below-is t = refl

  module _ (n : ℕ) (small : n < groups_left c 0) where
    abbrev G : ℕ
    G = nth (is_left c 0) (symbol_groups c 0) n

    at : (is_left c 0 G ≡ true) × (G < symbol_groups c 0) × (cnt (is_left c 0) G ≡ n)
    unfolding groups_left
    at = nth-is (is_left c 0) (symbol_groups c 0) n small

    -- a group of PCFICH below it is counted, one above is not
    step_is : (i : ℕ) → i < 4 → step n (F i) ≡ indicator (ltb (F i) G)
    step_is i l = go (dec_le (suc (F i)) G)
      where
        numbered : number c 0 (F i) + below_of (F 0) (F 1) (F 2) (F 3) (F i) ≡ F i
        numbered = omega (arith, number_is c big (F i), below-is (F i))

        other : F i ≡ G → ⊥
        other e = clash (ap (is_format c) (sym e) ∙ is-format c (F i) i l refl) (not-format c G at.0)

        go : Dec (suc (F i) ≤ G) → step n (F i) ≡ indicator (ltb (F i) G)
        go (yes h) =
            let u : number c 0 (F i) ≤ n = omega (arith, cnt-le (is_left c 0) (F i) G (omega arith), at.2) in
            rw (lt-ltb (F i) G h, lt-ltb (F i) (n + 1 + below_of (F 0) (F 1) (F 2) (F 3) (F i)) (omega (arith, numbered))) refl
        go (no h) =
            let v : G ≤ F i = omega arith in
            let u : n < number c 0 (F i) = omega (arith, cnt-own (is_left c 0) G at.0, cnt-le (is_left c 0) (suc G) (F i) (above v other), at.2) in
            rw (le-ltb (F i) G v, le-ltb (F i) (n + 1 + below_of (F 0) (F 1) (F 2) (F 3) (F i)) (omega (arith, numbered))) refl
          where
            above : G ≤ F i → (F i ≡ G → ⊥) → suc G ≤ F i
            above v d = omega arith

    inserted : n + (step n (F 0) + step n (F 1) + step n (F 2) + step n (F 3)) ≡ G
    inserted =
        omega
        (arith, number_is c big G, below-is G, at.2, step_is 0 (omega arith), step_is 1 (omega arith), step_is 2 (omega arith), step_is 3 (omega arith))

  -- the group of a quad in symbol 0, and of one in a later symbol
  pub unit-inserted : (m i : ℕ) → quad_symbol c i ≡ 0 → let n = quad_number c m i in n + (step n (F 0) + step n (F 1) + step n (F 2) + step n (F 3)) ≡ quad_group c m i
  unfolding quad_group
  unit-inserted m i e =
      let n = quad_number c m i in
      inserted n (omega (arith, number_lt c big m i, ap (groups_left c) e)) ∙ ap (λ (s : ℕ). nth (is_left c s) (symbol_groups c s) n) (sym e)

  pub unit-later : (m i : ℕ) → 0 < quad_symbol c i → quad_number c m i ≡ quad_group c m i
  unit-later m i l = sym (unit-number c big m i) ∙ number-later c (quad_symbol c i) l (quad_group c m i)
