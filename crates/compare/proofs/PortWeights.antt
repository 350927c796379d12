-- The weight of places whose elements have three bytes that are not 0: one port sends at each with one port, two with more. Assumes
-- nothing.
use Prim.Native.Nat.{ℕ, zero, suc, ◌+◌, ◌*◌, ◌/◌, ◌%◌, ◌<◌}
use mathlib.Core.Path.{◌≡◌, refl, ap, ap₂, ◌∙◌}
use mathlib.Core.Bool.{Bool, true, false, cond, ◌&&◌, ◌||◌}
use mathlib.Core.List.{List}
use native.Mathlib.Decide.{ℕ_discrete}
use native.Mathlib.Nat.{add-suc, add-zero, suc-mul}
use native.Mathlib.Omega.{arith}
use lib.Dec.{eqb}
use lib.ListN.{length}
use Rattle.base.proofs.Rows.{at-div, at-mod}
use Rattle.precoding.specs.Places.{own_port, other_port}
use Rattle.grid.specs.Elements.{element_in}
use Rattle.grid.specs.Writing.{sends, Room}
use Rattle.compare.specs.Comparing.{weight_of, weight_in, count_below}

-- ---- how many pass a test
count_same : (f g : ℕ → Bool) (n : ℕ) → ((t : ℕ) → t < n → f t ≡ g t) → count_below f n ≡ count_below g n
unfolding count_below
count_same f g zero h = refl
count_same f g (suc n) h = rw (h n (omega arith), count_same f g n (λ t l. h t (omega arith))) refl

count_add : (f : ℕ → Bool) (n d : ℕ) → count_below f (n + d) ≡ count_below f n + count_below (λ (t : ℕ). f (n + t)) d
unfolding count_below
count_add f n zero = rw add-zero (omega arith)
count_add f n (suc d) = rw add-suc (omega (arith, count_add f n d))

-- two tests of which each number that passes a third one passes just one, and no other number any
count-two :
    (f g h : ℕ → Bool) (n : ℕ) → ((t : ℕ) → t < n → cond (f t) 1 0 + cond (g t) 1 0 ≡ cond (h t) 1 0) → count_below f n + count_below g n ≡ count_below h n
unfolding count_below
count-two f g h zero e = refl
count-two f g h (suc n) e = omega (arith, count-two f g h n (λ t l. e t (omega arith)), e n (omega arith))

-- ---- three bytes for each element that passes
count-weight :
    (D : ℕ → Bool) (g : List ℕ) (n : ℕ) → ((e : ℕ) → D e ≡ true → weight_of (element_in g e) ≡ 3) → weight_in D g n ≡ 3 * count_below D n
unfolding weight_in count_below
count-weight D g zero w = refl
count-weight D g (suc n) w = omega (arith, count-weight D g n w, pick (D n) (w n))
  where
    pick : (b : Bool) → (b ≡ true → weight_of (element_in g n) ≡ 3) → cond b (weight_of (element_in g n)) 0 ≡ 3 * cond b 1 0
    pick true k = k refl
    pick false k = refl

-- ---- ports
module _ (P T : ℕ) (A : ℕ → Bool) (port_pair : ℕ → ℕ) where
  abbrev sent : ℕ → Bool
  sent e = A (e % T) && sends P (port_pair (e % T)) (e / T)

  -- of port q
  abbrev row : ℕ → ℕ
  row q = count_below (λ (t : ℕ). A t && sends P (port_pair t) q) T

  next_row : (q : ℕ) → count_below sent (suc q * T) ≡ count_below sent (q * T) + row q
  next_row q =
      ap (count_below sent) (suc-mul q T) ∙ count_add sent (q * T) T
      ∙ ap (λ (x : ℕ). count_below sent (q * T) + x) (count_same (λ (t : ℕ). sent (q * T + t)) (λ (t : ℕ). A t && sends P (port_pair t) q) T (λ t l.
      ap₂ (λ (x y : ℕ). A x && sends P (port_pair x) y) (at-mod q T t l) (at-div q T t l)))

  -- a port that sends at every place
  row-all : (q : ℕ) → ((u : ℕ) → sends P u q ≡ true) → row q ≡ count_below A T
  row-all q h = count_same (λ (t : ℕ). A t && sends P (port_pair t) q) A T (λ t l. rw (h (port_pair t)) (with-true (A t)))
    where
      with-true : (b : Bool) → b && true ≡ b
      with-true true = refl
      with-true false = refl

  -- two ports that send in turn
  row-two : (q r : ℕ) → ((u : ℕ) → cond (sends P u q) 1 0 + cond (sends P u r) 1 0 ≡ 1) → row q + row r ≡ count_below A T
  row-two q r h =
      count-two (λ (t : ℕ). A t && sends P (port_pair t) q) (λ (t : ℕ). A t && sends P (port_pair t) r) A T (λ t l. pick (A t) (sends P (port_pair t) q) (sends P (port_pair t) r) (h (port_pair t)))
    where
      pick : (a b c : Bool) → cond b 1 0 + cond c 1 0 ≡ 1 → cond (a && b) 1 0 + cond (a && c) 1 0 ≡ cond a 1 0
      pick true b c e = e
      pick false b c e = refl

  none_below : count_below sent (0 * T) ≡ 0
  unfolding count_below
  none_below = let e : 0 * T ≡ 0 = omega arith in rw e refl

module _ (T : ℕ) (A : ℕ → Bool) (port_pair : ℕ → ℕ) where
  one-port : count_below (sent 1 T A port_pair) (1 * T) ≡ count_below A T
  unfolding sends other_port own_port
  one-port = omega (arith, next_row 1 T A port_pair 0, none_below 1 T A port_pair, row-all 1 T A port_pair 0 (λ u. refl))

  two-ports : count_below (sent 2 T A port_pair) (2 * T) ≡ 2 * count_below A T
  unfolding sends other_port own_port
  two-ports = omega (arith, next_row 2 T A port_pair 1, next_row 2 T A port_pair 0, none_below 2 T A port_pair, row-all 2 T A port_pair 0 (λ u. refl), row-all 2 T A port_pair 1 (λ u. refl))

  four-ports : count_below (sent 4 T A port_pair) (4 * T) ≡ 2 * count_below A T
  unfolding sends other_port own_port
  four-ports =
      omega (
        arith,
        next_row 4 T A port_pair 3,
        next_row 4 T A port_pair 2,
        next_row 4 T A port_pair 1,
        next_row 4 T A port_pair 0,
        none_below 4 T A port_pair,
        row-two 4 T A port_pair 0 1 (λ u. low (u % 2) (omega arith)),
        row-two 4 T A port_pair 2 3 (λ u. high (u % 2) (omega arith)),
      )
    where
      low : (m : ℕ) → m < 2 → cond (eqb 0 m || eqb 0 (m + 2)) 1 0 + cond (eqb 1 m || eqb 1 (m + 2)) 1 0 ≡ 1
      low zero l = refl
      low (suc zero) l = refl
      low (suc (suc m)) l = absurd (omega arith)

      high : (m : ℕ) → m < 2 → cond (eqb 2 m || eqb 2 (m + 2)) 1 0 + cond (eqb 3 m || eqb 3 (m + 2)) 1 0 ≡ 1
      high zero l = refl
      high (suc zero) l = refl
      high (suc (suc m)) l = absurd (omega arith)

pub port-weight :
    {P T : ℕ} {g : List ℕ} → Room P T g → 0 < T → (A : ℕ → Bool) (port_pair : ℕ → ℕ)
    → ((e : ℕ) → (A (e % T) && sends P (port_pair (e % T)) (e / T)) ≡ true → weight_of (element_in g e) ≡ 3)
    → weight_in (λ (e : ℕ). A (e % T) && sends P (port_pair (e % T)) (e / T)) g (length g / 3) ≡ cond (eqb P 1) 3 6 * count_below A T
port-weight {P = P} {T = T} {g = g} room h A port_pair w =
    ap (weight_in (sent P T A port_pair) g) size ∙ count-weight (sent P T A port_pair) g (P * T) w ∙ ports (ℕ_discrete P 1) (ℕ_discrete P 2)
  where
    size : length g / 3 ≡ P * T
    size = omega (arith, room.size)

    ports : Dec (P ≡ 1) → Dec (P ≡ 2) → 3 * count_below (sent P T A port_pair) (P * T) ≡ cond (eqb P 1) 3 6 * count_below A T
    ports (yes a) b = rw a (omega (arith, one-port T A port_pair))
    ports (no a) (yes b) = rw b (omega (arith, two-ports T A port_pair))
    ports (no a) (no b) = let e : P ≡ 4 = pick (ℕ_discrete P 3) in rw e (omega (arith, four-ports T A port_pair))
      where
        pick : Dec (P ≡ 3) → P ≡ 4
        pick (yes c) = absurd (room.not_three c)
        pick (no c) = omega (arith, room.some, room.most)
