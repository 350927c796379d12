-- The bytes of units differ; three bytes that are an element: those of a unit of the table with levels up to its limit. Assumes nothing.
use Rattle.std.specs.Prelude.{Option, Some, None}
use mathlib.Core.Path.{◌≡◌, refl, sym, ap, ◌∙◌}
use mathlib.Core.Bool.{Bool, true, false, not, ◌&&◌}
use Prim.Native.Nat.{ℕ, ◌≤◌}
use borrow.Author.Tests.{le-leb}
use lib.Dec.{T, eqb, leb, leb→le}
use lib.Ieee.Fits.{and_l, and_r}
use lib.IntN.{nat_abs}
use Rattle.base.specs.Bytes.{signed_of}
use Rattle.base.proofs.Computed.{every}
use Rattle.sample.specs.declared.UnitRow.{UnitRow}
use Rattle.sample.specs.Units.{unit_rows, scale_of}
use Rattle.sample.specs.Refusal.{no_element}
use Rattle.sample.proofs.Table.{found, has-byte}

-- each unit has a byte of its own: the row found by it is that unit's
abbrev is_unit : Option UnitRow → ℕ → Bool
is_unit (Some r) u = eqb r.unit u
is_unit None u = false

pub own-bytes : T (every (λ (r : UnitRow). is_unit (scale_of r.byte) r.unit) unit_rows)
unfolding scale_of
own-bytes = tt

-- neither silence nor a phase has a row, and every limit is a signed byte
abbrev levelled : UnitRow → Bool
levelled r = not (eqb r.byte 0) && not (eqb r.byte 63)

is-not : (t : Bool) → T (not t) → t ≡ false
is-not true h = absurd h
is-not false h = refl

module _ (b : ℕ) (r : UnitRow) (e : scale_of b ≡ Some r) where
  pub limit-few : r.limit ≤ 127
  unfolding scale_of
  limit-few = leb→le r.limit 127 (found (λ (x : UnitRow). leb x.limit 127) unit_rows tt b r e)

  other : (n : ℕ) → T (not (eqb r.byte n)) → eqb b n ≡ false
  unfolding scale_of
  other n h = ap (λ (x : ℕ). eqb x n) (sym (has-byte unit_rows b r e)) ∙ is-not (eqb r.byte n) h

  level-row : T (levelled r)
  unfolding scale_of
  level-row = found levelled unit_rows tt b r e

  pub row-elements : (i j : ℕ) → nat_abs (signed_of i) ≤ r.limit → nat_abs (signed_of j) ≤ r.limit → no_element b i j ≡ false
  row-elements i j re im =
      let t = not (eqb r.byte 0) in
      let u = not (eqb r.byte 63) in
      rw (other 0 (and_l t u level-row), other 63 (and_r t u level-row), e, le-leb (nat_abs (signed_of i)) r.limit re, le-leb (nat_abs (signed_of j)) r.limit im) refl
