-- Reference signals: of six subcarriers in a row the ports below P have `signals`. Assumes nothing.
use Prim.Native.Nat.{ℕ, ◌+◌, ◌-◌, ◌*◌, ◌%◌, ◌<◌}
use mathlib.Core.Path.{◌≡◌, refl, sym, ◌∙◌}
use mathlib.Core.Logic.{◌⊎◌, inl, inr}
use mathlib.Core.Bool.{Bool, true, false, not, ◌&&◌, and-true, and-false}
use native.Mathlib.Omega.{arith}
use lib.Dec.{T, ltb, eqb, eqb→eq}
use Rattle.base.proofs.Tests.{by-test}
use Rattle.base.proofs.Computed.{all_below, below_at}
use Rattle.base.specs.Choice.{indicator}
use Rattle.plan.specs.declared.Cell.{Cell}
use Rattle.layout.specs.Rules.{crs_symbol, crs_below}
use Rattle.layout.proofs.Pilot.{crs_first, hits, not-both, first-pair, second-pair, no-pair}
use Rattle.base.specs.Sums.{sum_to}
use Rattle.counts.specs.Users.{signals}
use Rattle.counts.proofs.Logic.{every_way, by-table}
use Rattle.base.proofs.Sums.{six}

-- ---- by symbol
module _ (c : Cell) (P s : ℕ) where
  pub signals-first : crs_symbol c 0 s ≡ true → indicator (ltb 0 P) + indicator (ltb 1 P) ≡ signals c P s
  unfolding signals sum_to crs_symbol
  signals-first e = rw (e, rw e at (not-both c s)) (simp (and-true, and-false) (omega arith))

  pub signals-second : crs_symbol c 2 s ≡ true → indicator (ltb 2 P) + indicator (ltb 3 P) ≡ signals c P s
  unfolding signals sum_to crs_symbol
  signals-second e = rw (e, rw (e, and-true) at (not-both c s)) (simp (and-true, and-false) (omega arith))

  pub signals-other : crs_symbol c 0 s ≡ false → crs_symbol c 2 s ≡ false → 0 ≡ signals c P s
  unfolding signals sum_to crs_symbol
  signals-other e d = rw (e, d) (simp and-false)

-- the reference signals of the ports below P by k mod 6
pub record Refs (c : Cell) (P s : ℕ) : Type 0 where
  pub x : ℕ
  pub u : Bool
  pub v : Bool
  pub small : x < 6
  pub held : (k : ℕ) → crs_below c P s k ≡ hits u v x (k % 6)
  pub sum : indicator u + indicator v ≡ signals c P s

pub refs : (c : Cell) (P s : ℕ) → Refs c P s
refs c P s =
    by-test (crs_symbol c 0 s)
    (λ e. record {
      x = crs_first c 0 s;
      u = ltb 0 P;
      v = ltb 1 P;
      small = omega arith;
      held = λ k. first-pair c s P k e;
      sum = signals-first c P s e;
    })
    (λ e. by-test (crs_symbol c 2 s)
    (λ d. record {
      x = crs_first c 2 s;
      u = ltb 2 P;
      v = ltb 3 P;
      small = omega arith;
      held = λ k. second-pair c s P k d;
      sum = signals-second c P s d;
    })
    (λ d. record { x = 0; u = false; v = false; small = omega arith; held = λ k. no-pair c s P k e d; sum = signals-other c P s e d }))

-- ---- half blocks: those of six subcarriers that no reference signal has
abbrev left_over : Bool → Bool → Bool → ℕ → Bool
left_over g u v x =
    eqb (six (λ r. indicator (g && not (hits u v x r))) 0) (indicator g * (6 - (indicator u + indicator v)))

computed : T (all_below (λ x. every_way 3 (λ g u v. left_over g u v x)) 6)
computed = tt

pub half-left : (g u v : Bool) {x : ℕ} → x < 6 → six (λ r. indicator (g && not (hits u v x r))) 0 ≡ indicator g * (6 - (indicator u + indicator v))
half-left g u v {x} h =
    eqb→eq _ _ (by-table 3 (λ g u v. left_over g u v x) (below_at (λ x. every_way 3 (λ g u v. left_over g u v x)) 6 computed x h) g u v)

-- with two or four ports, none or two
pub signals-pair : (c : Cell) (P s : ℕ) → (P ≡ 2) ⊎ (P ≡ 4) → (signals c P s ≡ 0) ⊎ (signals c P s ≡ 2)
signals-pair c P s two =
    by-test (crs_symbol c 0 s)
    (λ e. inr (sym (signals-first c P s e) ∙ outer two))
    (λ e. by-test (crs_symbol c 2 s)
    (λ d. second two (signals-second c P s d))
    (λ d. inl (sym (signals-other c P s e d))))
  where
    outer : (P ≡ 2) ⊎ (P ≡ 4) → indicator (ltb 0 P) + indicator (ltb 1 P) ≡ 2
    outer (inl e) = rw e refl
    outer (inr e) = rw e refl

    second : (P ≡ 2) ⊎ (P ≡ 4) → indicator (ltb 2 P) + indicator (ltb 3 P) ≡ signals c P s → (signals c P s ≡ 0) ⊎ (signals c P s ≡ 2)
    second (inl e) z = inl (sym z ∙ rw e refl)
    second (inr e) z = inr (sym z ∙ rw e refl)
