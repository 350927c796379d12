-- The reference signals of four ports: at most one stands at a place, and `pilot` names its port. Assumes nothing.
use Rattle.std.specs.Prelude.{if◌then◌else◌}
use Prim.Native.Nat.{ℕ, zero, suc, ◌+◌, ◌%◌, ◌≤◌, ◌<◌}
use mathlib.Core.Path.{◌≡◌, refl}
use mathlib.Core.Bool.{Bool, true, false, ◌&&◌, ◌||◌, and-true, and-false, or-false}
use native.Mathlib.Omega.{arith}
use lib.Dec.{ltb, eqb}
use borrow.Author.Tests.{ne_eqb, le-ltb, eqb-true}
use Rattle.base.proofs.Tests.{by-test, clash, on-if}
use Rattle.plan.specs.declared.Cell.{Cell}
use Rattle.layout.specs.Rules.{slot_length, in_slot, crs_symbol, crs_shift, stands_at, crs_of, crs_below}
use Rattle.layout.specs.Owners.{symbols}
use Rattle.layout.specs.Chain.{pilot_of, pilot}

pub slot-length : (c : Cell) → (6 ≤ slot_length c) × (slot_length c ≤ 7)
unfolding slot_length
slot-length c = by-test (eqb c.prefix 1) (λ t. rw t (omega arith, omega arith)) (λ t. rw t (omega arith, omega arith))

pub slot-short : (c : Cell) → eqb c.prefix 1 ≡ true → slot_length c ≡ 6
unfolding slot_length
slot-short c e = rw e refl

pub slot-long : (c : Cell) → eqb c.prefix 1 ≡ false → slot_length c ≡ 7
unfolding slot_length
slot-long c e = rw e refl

pub symbols-most : (c : Cell) → symbols c ≤ 14
symbols-most c = omega (arith, slot-length c)

-- which of four ports stands, where S says that 0 and 1 use the symbol, T that 2 and 3 do
abbrev picked : Bool → Bool → Bool → Bool → Bool → Bool → ℕ
picked S T a b d e = if S then (if a then 0 else if b then 1 else 4) else if T then (if d then 2 else if e then 3 else 4) else 4

picks :
    (S T a b d e : Bool) → S && T ≡ false → a && b ≡ false → d && e ≡ false → let q = picked S T a b d e in
    (S && a ≡ eqb q 0) × (S && b ≡ eqb q 1) × (T && d ≡ eqb q 2) × (T && e ≡ eqb q 3)
picks true true a b d e x y z = clash refl x
picks true false true true d e x y z = clash refl y
picks true false true false d e x y z = (refl, refl, refl, refl)
picks true false false true d e x y z = (refl, refl, refl, refl)
picks true false false false d e x y z = (refl, refl, refl, refl)
picks false true a b true true x y z = clash refl z
picks false true a b true false x y z = (refl, refl, refl, refl)
picks false true a b false true x y z = (refl, refl, refl, refl)
picks false true a b false false x y z = (refl, refl, refl, refl)
picks false false a b d e x y z = (refl, refl, refl, refl)

none4 : (q : ℕ) → 4 ≤ q → (eqb q 0 ≡ false) × (eqb q 1 ≡ false) × (eqb q 2 ≡ false) × (eqb q 3 ≡ false)
none4 q h = (ne_eqb q 0 (λ e. omega arith), ne_eqb q 1 (λ e. omega arith), ne_eqb q 2 (λ e. omega arith), ne_eqb q 3 (λ e. omega arith))

below_p : (P : ℕ) → P ≤ 4 → (q : ℕ) → ltb 0 P && eqb q 0 || ltb 1 P && eqb q 1 || ltb 2 P && eqb q 2 || ltb 3 P && eqb q 3 ≡ ltb q P
below_p P h zero = simp (and-true, and-false, or-false)
below_p P h (suc zero) = simp (and-true, and-false, or-false)
below_p P h (suc (suc zero)) = simp (and-true, and-false, or-false)
below_p P h (suc (suc (suc zero))) = simp (and-true, and-false)
below_p P h (suc (suc (suc (suc q)))) =
    let z = none4 (suc (suc (suc (suc q)))) (omega arith) in
    simp (z.0, z.1, z.2, z.3, and-false, or-false, le-ltb (suc (suc (suc (suc q)))) P (omega arith))

-- the first subcarrier of port p in symbol s; and of six subcarriers x, if u, and the one three further, if v
abbrev pub crs_first : Cell → ℕ → ℕ → ℕ
crs_first c p s = (crs_shift c p s + c.identity) % 6

abbrev pub hits : Bool → Bool → ℕ → ℕ → Bool
hits u v x r = u && eqb r x || v && eqb r ((x + 3) % 6)

-- no reference signal in the last two symbols of a slot
pub late-unused : (c : Cell) (p s : ℕ) → slot_length c ≤ in_slot c s + 2 → crs_symbol c p s ≡ false
unfolding crs_symbol
late-unused c p s late =
    let l = in_slot c s in
    let L = slot_length c in
    let h = slot-length c in
    rw (ne_eqb l 0 (λ e. omega arith), ne_eqb (l + 3) L (λ e. omega arith), ne_eqb l 1 (λ e. omega arith)) (on-if (λ (b : Bool). b ≡ false) (ltb p 2) (λ e. refl) (λ e. refl))

module _ (c : Cell) (s : ℕ) where
  -- ports 0 and 1 use the same symbols, and so do 2 and 3, which are others
  pub not-both : crs_symbol c 0 s && crs_symbol c 2 s ≡ false
  unfolding crs_symbol
  not-both =
      let l = in_slot c s in
      let L = slot_length c in
      let big = slot-length c in
      by-test (eqb l 1)
      (λ e. let z : l ≡ 1 = eqb-true l 1 e in rw (ne_eqb l 0 (λ q. omega arith), ne_eqb (l + 3) L (λ q. omega arith)) refl)
      (λ e. rw e (and-false (eqb l 0 || eqb (l + 3) L)))

  -- and stand three apart
  three-on : crs_first c 1 s ≡ (crs_first c 0 s + 3) % 6
  unfolding crs_shift
  three-on = by-test (eqb (in_slot c s) 0) (λ e. rw e (omega arith)) (λ e. rw e (omega arith))

  three-on-2 : crs_first c 3 s ≡ (crs_first c 2 s + 3) % 6
  unfolding crs_shift
  three-on-2 = omega arith

  module _ (P k : ℕ) where
    -- the reference signals of the ports below P in each symbol
    pub first-pair : crs_symbol c 0 s ≡ true → crs_below c P s k ≡ hits (ltb 0 P) (ltb 1 P) (crs_first c 0 s) (k % 6)
    unfolding crs_below crs_of crs_symbol stands_at
    first-pair e = rw (e, rw e at not-both, three-on) (simp (and-false, or-false))

    pub second-pair : crs_symbol c 2 s ≡ true → crs_below c P s k ≡ hits (ltb 2 P) (ltb 3 P) (crs_first c 2 s) (k % 6)
    unfolding crs_below crs_of crs_symbol stands_at
    second-pair e = rw (e, rw (e, and-true) at not-both, three-on-2) (simp and-false)

    pub no-pair : crs_symbol c 0 s ≡ false → crs_symbol c 2 s ≡ false → crs_below c P s k ≡ false
    unfolding crs_below crs_of crs_symbol
    no-pair e d = rw (e, d) (simp and-false)

module _ (c : Cell) (s k : ℕ) where
  apart : (p q : ℕ) → crs_first c q s ≡ (crs_first c p s + 3) % 6 → stands_at c (crs_shift c p s) k && stands_at c (crs_shift c q s) k ≡ false
  unfolding stands_at
  apart p q h =
      by-test (eqb (k % 6) (crs_first c p s))
      (λ e. let z : k % 6 ≡ crs_first c p s = eqb-true _ _ e in rw e (ne_eqb (k % 6) (crs_first c q s) (λ d. omega arith)))
      (λ e. rw e refl)

  abbrev at : ℕ → Bool
  at p = stands_at c (crs_shift c p s) k

  ports :
      (crs_of c 0 s k ≡ eqb (pilot c s k) 0)
      × (crs_of c 1 s k ≡ eqb (pilot c s k) 1)
      × (crs_of c 2 s k ≡ eqb (pilot c s k) 2)
      × (crs_of c 3 s k ≡ eqb (pilot c s k) 3)
  unfolding crs_of crs_symbol pilot pilot_of
  ports = picks (crs_symbol c 0 s) (crs_symbol c 2 s) (at 0) (at 1) (at 2) (at 3) (not-both c s) (apart 0 1 (three-on c s)) (apart 2 3 (three-on-2 c s))

  -- at most one port's reference signal stands at a place, and pilot is that port
  pub crs-is : (p : ℕ) → p < 4 → crs_of c p s k ≡ eqb (pilot c s k) p
  crs-is zero l = ports.0
  crs-is (suc zero) l = ports.1
  crs-is (suc (suc zero)) l = ports.2
  crs-is (suc (suc (suc zero))) l = ports.3
  crs-is (suc (suc (suc (suc p)))) l = absurd (let z : ⊥ = omega arith in z)

  -- those of the first ports
  pub below-is : (n : ℕ) → n ≤ 4 → crs_below c n s k ≡ ltb (pilot c s k) n
  unfolding crs_below
  below-is n l = rw (crs-is 0 (omega arith), crs-is 1 (omega arith), crs-is 2 (omega arith), crs-is 3 (omega arith)) (below_p n l (pilot c s k))
