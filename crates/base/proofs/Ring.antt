-- Numbers around a ring of h: C + a for a below h are all different, and how far n lies past C gives a back. Assumes nothing.
use Prim.Native.Nat.{ℕ, zero, suc, ◌+◌, ◌-◌, ◌%◌, ◌≤◌, ◌<◌}
use mathlib.Core.Path.{◌≡◌, refl, sym, ap, ◌∙◌}
use mathlib.Core.Logic.{◌⊎◌, inl, inr}
use mathlib.Core.Bool.{Bool, ◌&&◌}
use native.Mathlib.Omega.{arith}
use native.Mathlib.Nat.{mod-lt, mod-eq_of_lt, mod-eq-sub-mod, mod-add-mod}
use lib.Dec.{leb, ltb}
use borrow.Author.Tests.{leb-true, leb-false, ltb-true, ltb-false}
use Rattle.base.proofs.Tests.{by-test}
use Rattle.base.specs.Choice.{indicator}
use Rattle.base.specs.Counts.{cnt}
use Rattle.base.specs.Ring.{past, between, ring_below}
use Rattle.base.proofs.Counts.{cnt-none}
use Rattle.base.proofs.Columns.{more}

once : (x h : ℕ) → h ≤ x → x < h + h → x % h ≡ x - h
once x h l u = mod-eq-sub-mod l ∙ mod-eq_of_lt (omega arith)

wrap : (x h : ℕ) → x < h + h → ((x < h) × (x % h ≡ x)) ⊎ ((h ≤ x) × (x % h ≡ x - h))
wrap x h u =
    by-test (ltb x h)
    (λ e. inl (ltb-true x h e, mod-eq_of_lt (ltb-true x h e)))
    (λ e. inr (ltb-false x h e, once x h (ltb-false x h e) u))

module _ (C h : ℕ) (pos : 0 < h) where
  shifted : (a : ℕ) → (C + a) % h ≡ (C % h + a) % h
  shifted a = sym (mod-add-mod _ _ _)

  pub past_of : (a n : ℕ) → a < h → n ≡ (C + a) % h → past C h n ≡ a
  past_of a n l e = go (wrap (C % h + a) h (omega (arith, mod-lt C pos)))
    where
      m : n ≡ (C % h + a) % h
      m = e ∙ shifted a

      go : ((C % h + a < h) × ((C % h + a) % h ≡ C % h + a)) ⊎ ((h ≤ C % h + a) × ((C % h + a) % h ≡ C % h + a - h)) → past C h n ≡ a
      go (inl x) =
          let z : n ≡ C % h + a = m ∙ x.1 in
          once (n + (h - C % h)) h (omega (arith, mod-lt C pos)) (omega (arith, mod-lt C pos)) ∙ (let w : n + (h - C % h) - h ≡ a = omega (arith, mod-lt C pos) in w)
      go (inr x) =
          let z : n ≡ C % h + a - h = m ∙ x.1 in
          let w : n + (h - C % h) ≡ a = omega (arith, mod-lt C pos) in
          ap (λ (y : ℕ). y % h) w ∙ mod-eq_of_lt l

  pub of-past : (n : ℕ) → n < h → n ≡ (C + past C h n) % h
  of-past n l = go (wrap (n + (h - C % h)) h (omega (arith, mod-lt C pos)))
    where
      go : ((n + (h - C % h) < h) × (past C h n ≡ n + (h - C % h))) ⊎ ((h ≤ n + (h - C % h)) × (past C h n ≡ n + (h - C % h) - h)) → n ≡ (C + past C h n) % h
      go (inl x) =
          let w : C % h + past C h n ≡ n + h = omega (arith, mod-lt C pos) in
          sym (shifted (past C h n) ∙ ap (λ (y : ℕ). y % h) w ∙ once (n + h) h (omega arith) (omega arith) ∙ (let v : n + h - h ≡ n = omega arith in v))
      go (inr x) =
          let w : C % h + past C h n ≡ n = omega (arith, mod-lt C pos) in
          sym (shifted (past C h n) ∙ ap (λ (y : ℕ). y % h) w ∙ mod-eq_of_lt l)

  pub past-small : (n : ℕ) → past C h n < h
  past-small n = mod-lt (n + (h - C % h)) pos

  -- places a and b past C are one only if a and b are
  pub apart : (a b : ℕ) → a < h → b < h → (C + a) % h ≡ (C + b) % h → a ≡ b
  apart a b l m e = sym (past_of a ((C + a) % h) l refl) ∙ past_of b ((C + a) % h) m e

-- ---- the numbers that lie from a to a + m - 1 past C: how many of them stand below x
-- how far x lies past c, before it and from it on
abbrev Side : ℕ → ℕ → ℕ → ℕ → Type 0
Side c h x d = ((x < c) × (d ≡ x + (h - c))) ⊎ ((c ≤ x) × (d ≡ x - c))

between_in : (lo hi x : ℕ) → lo ≤ x → x < hi → between lo hi (suc x) ≡ between lo hi x + 1
between_in lo hi x l u = omega arith

between-low : (lo hi x : ℕ) → lo ≤ hi → x < lo → between lo hi (suc x) ≡ between lo hi x + 0
between-low lo hi x e u = omega arith

between-high : (lo hi x : ℕ) → lo ≤ hi → hi ≤ x → between lo hi (suc x) ≡ between lo hi x + 0
between-high lo hi x e u = omega arith

-- the two stretches of the ring: from c + a on, and what goes on at its start
module _ (c h a m x d : ℕ) (in_c : c < h) (fit : a + m ≤ h) (in-x : x < h) where
  abbrev one : ℕ → ℕ
  one y = between (c + a) (c + a + m) y

  abbrev two : ℕ → ℕ
  two y = between (c + a - h) (c + a + m - h) y

  abbrev Grows : ℕ → Type 0
  Grows n = n + (one x + two x) ≡ one (suc x) + two (suc x)

  apart_low : c + a - h ≤ c + a + m - h
  apart_low = omega arith

  grown : (n : ℕ) (p q : ℕ) → one (suc x) ≡ one x + p → two (suc x) ≡ two x + q → n ≡ p + q → Grows n
  grown n p q u v w = let r = one x in let t = two x in let r' = one (suc x) in let t' = two (suc x) in sums n p q r t r' t' u v w
    where
      sums : (n p q r t r' t' : ℕ) → r' ≡ r + p → t' ≡ t + q → n ≡ p + q → n + (r + t) ≡ r' + t'
      sums n p q r t r' t' u v w = omega arith

  inside : Side c h x d → a ≤ d → d < a + m → Grows 1
  inside (inl w) y z =
      let u = w.0 in let v = w.1 in
      grown 1 0 1 (between-low (c + a) (c + a + m) x (omega arith) (omega arith)) (between_in (c + a - h) (c + a + m - h) x (omega arith) (omega arith)) refl
  inside (inr w) y z =
      let u = w.0 in let v = w.1 in
      grown 1 1 0 (between_in (c + a) (c + a + m) x (omega arith) (omega arith)) (between-high (c + a - h) (c + a + m - h) x apart_low (omega arith)) refl

  after : Side c h x d → a + m ≤ d → Grows 0
  after (inl w) z =
      let u = w.0 in let v = w.1 in
      grown 0 0 0 (between-low (c + a) (c + a + m) x (omega arith) (omega arith)) (between-high (c + a - h) (c + a + m - h) x apart_low (omega arith)) refl
  after (inr w) z =
      let u = w.0 in let v = w.1 in
      grown 0 0 0 (between-high (c + a) (c + a + m) x (omega arith) (omega arith)) (between-high (c + a - h) (c + a + m - h) x apart_low (omega arith)) refl

  before : Side c h x d → d < a → Grows 0
  before (inl w) z =
      let u = w.0 in let v = w.1 in
      grown 0 0 0 (between-low (c + a) (c + a + m) x (omega arith) (omega arith)) (between-low (c + a - h) (c + a + m - h) x apart_low (omega arith)) refl
  before (inr w) z =
      let u = w.0 in let v = w.1 in
      grown 0 0 0 (between-low (c + a) (c + a + m) x (omega arith) (omega arith)) (between-high (c + a - h) (c + a + m - h) x apart_low (omega arith)) refl

between_none : (lo hi : ℕ) → between lo hi 0 ≡ 0
between_none lo hi = omega arith

-- all but those past the end, and those that go on at the start
all-below : (h p m : ℕ) → p < h + h → m ≤ h → p + m ≤ h + h → between p (p + m) h + between (p - h) (p + m - h) h ≡ m
all-below h p m l u v =
    by-test (ltb h (p + m))
    (λ e. let z = ltb-true h (p + m) e in
    let x : h - (p + m) ≡ 0 = omega arith in
    let y : between (p - h) (p + m - h) h ≡ p + m - h - (p - h) = whole (p - h) (p + m - h) (omega arith) (omega arith) in
    rw (x, y) (rest h p m l u z))
    (λ e. let z = ltb-false h (p + m) e in
    let x : between p (p + m) h ≡ p + m - p = whole p (p + m) (omega arith) z in
    let y : p - h ≡ 0 = omega arith in
    let w : p + m - h ≡ 0 = omega arith in
    rw (x, y, w) (none h p m))
  where
    none : (h p m : ℕ) → p + m - p + (h - 0 - (h - 0)) ≡ m
    none h p m = omega arith

    whole : (lo hi : ℕ) → lo ≤ hi → hi ≤ h → between lo hi h ≡ hi - lo
    whole lo hi a b = omega arith

    rest : (h p m : ℕ) → p < h + h → m ≤ h → h < p + m → h - p - 0 + (p + m - h - (p - h)) ≡ m
    rest h p m l u z = omega arith

abbrev pub within : ℕ → ℕ → ℕ → ℕ → ℕ → Bool
within C h a m n = leb a (past C h n) && ltb (past C h n) (a + m)

module _ (C h a m : ℕ) (pos : 0 < h) (fit : a + m ≤ h) where
  side : (x : ℕ) → x < h → Side (C % h) h x (past C h x)
  side x l = go (wrap (x + (h - C % h)) h (omega (arith, mod-lt C pos)))
    where
      go : ((x + (h - C % h) < h) × (past C h x ≡ x + (h - C % h))) ⊎ ((h ≤ x + (h - C % h)) × (past C h x ≡ x + (h - C % h) - h)) → Side (C % h) h x (past C h x)
      go (inl w) = let u = w.0 in inl (omega (arith, mod-lt C pos), w.1)
      go (inr w) = let u = w.0 in let v = w.1 in inr (omega (arith, mod-lt C pos), omega (arith, mod-lt C pos))

  one_on : (x : ℕ) → x < h → indicator (within C h a m x) + ring_below h (C % h + a) m x ≡ ring_below h (C % h + a) m (suc x)
  unfolding ring_below
  one_on x l =
      let d = past C h x in
      let in_c = mod-lt C pos in
      by-test (leb a d)
      (λ u. by-test (ltb d (a + m))
      (λ v. rw (u, v) (inside (C % h) h a m x d in_c fit l (side x l) (leb-true a d u) (ltb-true d (a + m) v)))
      (λ v. rw (u, v) (after (C % h) h a m x d in_c fit l (side x l) (ltb-false d (a + m) v))))
      (λ u. rw u (before (C % h) h a m x d in_c fit l (side x l) (leb-false a d u)))

  none_below : ring_below h (C % h + a) m 0 ≡ 0
  unfolding ring_below
  none_below = let p = C % h + a in let x = between_none p (p + m) in let y = between_none (p - h) (p + m - h) in both-none (between p (p + m) 0) (between (p - h) (p + m - h) 0) x y
    where
      both-none : (u v : ℕ) → u ≡ 0 → v ≡ 0 → u + v ≡ 0
      both-none u v e f = omega arith

  -- THE COUNT
  pub ring-count : (x : ℕ) → x ≤ h → cnt (within C h a m) x ≡ ring_below h (C % h + a) m x
  ring-count zero l = cnt-none (within C h a m) ∙ sym none_below
  ring-count (suc x) l = let z = more (within C h a m) x in let y = one_on x l in let i = indicator (within C h a m x) in let r = ring-count x (omega arith) in omega arith

  -- all of them are below the ring's end
  pub ring-all : ring_below h (C % h + a) m h ≡ m
  unfolding ring_below
  ring-all = let in_c = mod-lt C pos in all-below h (C % h + a) m (omega arith) (omega arith) (omega arith)
