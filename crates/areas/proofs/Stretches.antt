-- PLACES BETWEEN HOLES on one port, stretch after stretch: of each as many as are wanted. Assumes nothing.
use Prim.Native.Nat.{ℕ, ◌+◌, ◌-◌, ◌≤◌, ◌<◌}
use mathlib.Core.Path.{◌≡◌}
use mathlib.Core.List.{List}
use native.Mathlib.Decide.{dec_le}
use native.Mathlib.Omega.{arith}
use Rattle.walk.specs.Forms.{Stretch, StretchesAt, holed_place}
use Rattle.walk.specs.Addresses.{SinglesIn, HolesIn}
use Rattle.walk.proofs.Singles.{stretch-at, stretch-on}
use Rattle.areas.specs.Tables.{Smaller}

pub stretches-start : {first lead each total at left : ℕ} → Stretch first lead each 0 at left → StretchesAt first lead each total at left 0
stretches-start s = record { few = omega arith; stretch = λ l. s }

module _ {first lead each total at left k n : ℕ} (d : StretchesAt first lead each total at left k) (l : k < total) (m : Smaller left (total - k) n) where
  pub some : 0 < n
  some = pick (dec_le left n)
    where
      pick : Dec (left ≤ n) → 0 < n
      pick (yes e) = omega (arith, (d.stretch l).some)
      pick (no e) = omega (arith, m.one (omega arith))

  -- the stretch is taken whole where places are left after it
  whole : k + n < total → n ≡ left
  whole b = pick (dec_le left n)
    where
      pick : Dec (left ≤ n) → n ≡ left
      pick (yes e) = omega (arith, m.first)
      pick (no e) = absurd (omega (arith, m.one (omega arith)))

  pub stretch-here : (i : ℕ) → i < n → at + i ≡ holed_place first lead each (k + i)
  stretch-here i b = stretch-at (d.stretch l) i (omega (arith, m.first))

  pub stretch-in : {grid : List ℕ} → HolesIn first lead each total grid → SinglesIn at n grid
  stretch-in h =
      let e = stretch-here (n - 1) (omega (arith, some)) in
      let b = h.inside (k + (n - 1)) (omega (arith, some, m.second)) in
      (omega (arith, some, e, b.0), omega (arith, some, e, b.1))

  pub stretches-on : StretchesAt first lead each total (at + (n + 1)) each (k + n)
  stretches-on =
      record {
        few = omega (arith, m.second);
        stretch = λ b.
            let e : n ≡ left = whole b in
            let z : at + (n + 1) ≡ at + left + 1 = omega arith in
            rw (z, e) (stretch-on (d.stretch l));
      }
