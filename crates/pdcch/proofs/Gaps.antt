-- How far the places of a pair are apart, by the code's tests. Assumes nothing.
use Prim.Native.Nat.{ℕ, ◌%◌}
use mathlib.Core.Path.{◌≡◌, refl}
use borrow.Author.Tests.{eq-eqb, ne_eqb}
use Rattle.plan.specs.declared.Cell.{Cell}
use Rattle.pdcch.specs.Groups.{gap_of}

module _ (c : Cell) (four : ℕ) where
  pub gap-four : four ≡ 1 → 1 ≡ gap_of c four
  unfolding gap_of
  gap-four e = rw (eq-eqb four 1 e) refl

  module _ (n : four ≡ 1 → ⊥) where
    pub gap-apart : c.identity % 3 ≡ 1 → 2 ≡ gap_of c four
    unfolding gap_of
    gap-apart e = rw (ne_eqb four 1 n, eq-eqb (c.identity % 3) 1 e) refl

    pub gap-beside : (c.identity % 3 ≡ 1 → ⊥) → 1 ≡ gap_of c four
    unfolding gap_of
    gap-beside e = rw (ne_eqb four 1 n, ne_eqb (c.identity % 3) 1 e) refl
