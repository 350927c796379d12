-- The 168 pairs of indices (m0, m1) are all different, and each has m0 below m1 (document 02, #106), said of the definitions that the SSS elements
-- cite. Assumes nothing.
use Prim.Native.Nat.{ℕ, ◌+◌, ◌-◌, ◌*◌, ◌/◌, ◌<◌}
use mathlib.Core.Path.{◌≡◌, sym, ap₂, ◌∙◌}
use mathlib.Core.Bool.{Bool, ◌&&◌}
use lib.Dec.{T, ltb, eqb, eqb→eq, ltb→lt}
use lib.Ieee.Fits.{and_l, and_r}
use Rattle.base.proofs.Computed.{below_at}
use Rattle.sync.specs.Sss.{q_prime, q_of, e_of, m0_of, m1_of}

-- D from its indices a < b: m' = 31q + a and D = m' - q(q+1)/2, where q = b - a - 1
unfoldable pub group_identity : ℕ → ℕ → ℕ
group_identity a b = 31 * (b - a - 1) + a - (b - a - 1) * (b - a) / 2

right : ℕ → Bool
right D = ltb (m0_of D) (m1_of D) && eqb (group_identity (m0_of D) (m1_of D)) D

-- one computed test over the 168 groups
tested : (D : ℕ) → D < 168 → T (right D)
unfolding right group_identity m0_of m1_of e_of q_of q_prime
tested = below_at right 168 tt

pub indices-rise : (D : ℕ) → D < 168 → m0_of D < m1_of D
unfolding right
indices-rise D h = ltb→lt _ _ (and_l (ltb (m0_of D) (m1_of D)) _ (tested D h))

pub group-back : (D : ℕ) → D < 168 → group_identity (m0_of D) (m1_of D) ≡ D
unfolding right
group-back D h = eqb→eq _ _ (and_r (ltb (m0_of D) (m1_of D)) _ (tested D h))

pub indices-differ : (D E : ℕ) → D < 168 → E < 168 → m0_of D ≡ m0_of E → m1_of D ≡ m1_of E → D ≡ E
indices-differ D E h k a b = sym (group-back D h) ∙ ap₂ group_identity a b ∙ group-back E k
