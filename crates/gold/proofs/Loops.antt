-- What a step of the loops of `mirrored` and `skip` keeps. Assumes nothing.
use mathlib.Core.Path.{◌≡◌, ap, sym, ◌∙◌}
use Prim.Native.Nat.{ℕ, ◌+◌, ◌*◌, ◌/◌, ◌%◌, ◌^◌, ◌<◌, ◌≤◌}
use native.Mathlib.Omega.{arith}
use lib.Pow.{pow_mono}
use Rattle.gold.specs.declared.Registers.{Registers}
use Rattle.gold.specs.Sequence.{start2, binary}
use Rattle.gold.specs.Steps.{after}
use Rattle.gold.proofs.Binary.{binary-none, binary-more, binary-lt, start2-two}
use Rattle.gold.proofs.Laws.{after-after}

-- ---- `mirrored`: x has k bits of c_init, the lowest most significant
pub record Mirrored (ci k x : ℕ) : Type 0 where
  pub most : k ≤ 31
  pub bits : x ≡ binary (start2 ci) 0 k

pub mirrored-none : (ci : ℕ) → Mirrored ci 0 0
mirrored-none ci = record { most = omega arith; bits = sym (binary-none (start2 ci) 0) }

pub mirrored-lt : {ci k x : ℕ} → Mirrored ci k x → x < 2 ^ 31
mirrored-lt {ci} {k} {x} m =
    let h : binary (start2 ci) 0 k < 2 ^ k = binary-lt (start2 ci) (start2-two ci) 0 k in
    let p : 2 ^ k ≤ 2 ^ 31 = pow_mono m.most in
    omega (arith, m.bits)

pub mirrored-more : {ci k x : ℕ} → Mirrored ci k x → k < 31 → Mirrored ci (k + 1) (x * 2 + ci / 2 ^ k % 2)
unfolding start2
mirrored-more {ci} {k} {x} m less = record {
  most = omega arith;
  bits =
      (λ i. m.bits i * 2 + ap (start2 ci) {x = k} {y = 0 + k} (omega arith) i) ∙ sym (binary-more (start2 ci) 0 k);
}

-- ---- `skip`: m steps after k
pub skipped : {s t : Registers} (r : Registers) (k m n : ℕ) → s ≡ after r k → t ≡ after s m → k + m ≡ n → t ≡ after r n
skipped r k m n h e g = e ∙ ap (λ (p : Registers). after p m) h ∙ after-after r k m ∙ ap (after r) g
