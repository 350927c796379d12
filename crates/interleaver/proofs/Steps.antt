-- For loops over a cursor: c is the cursor n steps on from position s mod R, around the R positions. Assumes nothing.
use Prim.Native.Nat.{ℕ, ◌+◌, ◌%◌, ◌≤◌, ◌<◌}
use mathlib.Core.Path.{◌≡◌, sym, ap, ap₂, ◌∙◌}
use native.Mathlib.Nat.{mod-lt, mod-add-mod}
use native.Mathlib.Omega.{arith}
use Rattle.interleaver.specs.Matrix.{quad_at, sent_at}
use Rattle.interleaver.specs.Cursor.{cursor_at, step_of, Stands}
use Rattle.interleaver.specs.declared.Cursor.{Cursor}
use Rattle.interleaver.proofs.Undo.{undone}

pub walk_from : (R s : ℕ) (c : Cursor) → c ≡ cursor_at R (s % R) → c ≡ cursor_at R ((s + 0) % R)
walk_from R s c e = let z : s ≡ s + 0 = omega arith in e ∙ ap (λ (x : ℕ). cursor_at R (x % R)) z

module _ (R s n : ℕ) (least : 1 ≤ R) (few : R ≤ 4096) (c : Cursor) (e : c ≡ cursor_at R ((s + n) % R)) where
  of-quads : c.quads ≡ R
  unfolding cursor_at
  of-quads = ap (λ (x : Cursor). x.quads) e

  of_at : c.at ≡ (s + n) % R
  unfolding cursor_at
  of_at = ap (λ (x : Cursor). x.at) e

  inside : (s + n) % R < R
  inside = mod-lt (s + n) (omega arith)

  pub walk-stands : Stands c
  walk-stands =
      record {
        whole = e ∙ sym (ap₂ cursor_at of-quads of_at);
        inside = omega (arith, of-quads, of_at, inside);
        few = omega (arith, of-quads);
      }

  -- its quad is the one that is sent n-th
  pub walk-quad : (x : ℕ) → x ≡ quad_at c.quads c.at → x ≡ sent_at R s n
  unfolding sent_at
  walk-quad x p = p ∙ ap₂ quad_at of-quads of_at

  pub walk-small : (x : ℕ) → x ≡ quad_at c.quads c.at → x < R
  walk-small x p = omega (arith, p, ap₂ quad_at of-quads of_at, (undone R).inside ((s + n) % R) inside)

  pub walk_step : (r : Cursor) → r ≡ step_of c → r ≡ cursor_at R ((s + (n + 1)) % R)
  walk_step r p =
      let z : s + n + 1 ≡ s + (n + 1) = omega arith in
      p ∙ ap₂ (λ (x y : ℕ). cursor_at x ((y + 1) % x)) of-quads of_at ∙ ap (cursor_at R) (mod-add-mod (s + n) R 1 ∙ ap (λ (x : ℕ). x % R) z)
