-- A channel whose places are listed: the elements of its places with an index below j, with their values, and one place more. Assumes
-- nothing.
use Prim.Native.Nat.{ℕ, ◌+◌, ◌/◌, ◌%◌, ◌<◌}
use mathlib.Core.Path.{◌≡◌, refl, sym, ap, ◌∙◌}
use mathlib.Core.Bool.{Bool, true, false, ◌&&◌, ◌||◌}
use native.Mathlib.Nat.{mod-lt}
use native.Mathlib.Omega.{arith}
use lib.Dec.{eqb, ltb}
use borrow.Author.Tests.{eqb-true, eqb-false, lt-ltb, le-ltb, ltb-true, ltb-false}
use Rattle.base.proofs.Tests.{by-test}
use Rattle.base.specs.declared.Pair.{Pair}
use Rattle.base.specs.declared.Element.{Element}
use Rattle.base.specs.Counts.{Listed}
use Rattle.precoding.specs.Places.{on_port, partner_index, placed}
use Rattle.plan.proofs.Listed.{and_left}
use Rattle.grid.specs.Writing.{sends, sent_at}

-- the elements that a channel sends, those of its places with an index below j, and their values. The symbol of index j is sent on the
-- pair of ports `ports j`
abbrev pub sent_by : ℕ → ℕ → (ℕ → Bool) → (ℕ → ℕ) → (ℕ → ℕ) → ℕ → Bool
sent_by P T own index ports e = own (e % T) && sends P (ports (index (e % T))) (e / T)

abbrev pub up_to : ℕ → ℕ → (ℕ → Bool) → (ℕ → ℕ) → (ℕ → ℕ) → ℕ → ℕ → Bool
up_to P T own index ports j e = sent_by P T own index ports e && ltb (index (e % T)) j

abbrev pub value_by : ℕ → ℕ → (ℕ → ℕ) → (ℕ → ℕ) → (ℕ → Pair) → ℕ → Element
value_by P T index ports d e = placed P (ports (index (e % T))) 2 d (index (e % T)) (e / T)

-- ---- tests
off : (a : Bool) → a && false ≡ false
off true = refl
off false = refl

on : (a : Bool) → a && true ≡ a
on true = refl
on false = refl

-- a place that is not due keeps its test, whether or not it is one of the channel's
kept : (a b t u : Bool) → (a ≡ true → t ≡ u) → (a && b) && t ≡ (a && b) && u
kept true b t u h = ap (λ (x : Bool). b && x) (h refl)
kept false b t u h = refl

-- the place that is due
due : (b t u : Bool) → u ≡ true → (true && b) && u ≡ (true && b) || ((true && b) && t)
due true t u h = h
due false t u h = refl

-- an index other than j is below j + 1 just where it is below j
below_next : (x j : ℕ) → (x ≡ j → ⊥) → ltb x (j + 1) ≡ ltb x j
below_next x j n =
    by-test (ltb x j)
    (λ l. lt-ltb x (j + 1) (omega (arith, ltb-true x j l)) ∙ sym l)
    (λ l. le-ltb x (j + 1) (omega (arith, ltb-false x j l, n)) ∙ sym l)

module _ (P T : ℕ) {m : ℕ} {own : ℕ → Bool} {at index : ℕ → ℕ} (ports : ℕ → ℕ) (d : ℕ → Pair) (some : 0 < T) (L : Listed own T m at index) where
  -- no element, and all
  pub sent-none : (e : ℕ) → up_to P T own index ports 0 e ≡ false
  sent-none e = rw (le-ltb (index (e % T)) 0 (omega arith)) (off (sent_by P T own index ports e))

  pub sent-all : (e : ℕ) → up_to P T own index ports m e ≡ sent_by P T own index ports e
  sent-all e = pick (own (e % T)) refl
    where
      pick : (a : Bool) → own (e % T) ≡ a → (a && sends P (ports (index (e % T))) (e / T)) && ltb (index (e % T)) m ≡ a && sends P (ports (index (e % T))) (e / T)
      pick true q = rw (lt-ltb (index (e % T)) m (L.below (e % T) (mod-lt e some) q)) (on (sends P (ports (index (e % T))) (e / T)))
      pick false q = refl

  module _ (j : ℕ) (in-j : j < m) where
    -- place j's elements are one more
    pub grows : (e : ℕ) → up_to P T own index ports (j + 1) e ≡ sent_at P T (ports j) (at j) e || up_to P T own index ports j e
    unfolding sent_at
    grows e = by-test (eqb (e % T) (at j)) here there
      where
        here : eqb (e % T) (at j) ≡ true → up_to P T own index ports (j + 1) e ≡ (eqb (e % T) (at j) && sends P (ports j) (e / T)) || up_to P T own index ports j e
        here h =
            let t : e % T ≡ at j = eqb-true (e % T) (at j) h in
            let i : index (e % T) ≡ j = ap index t ∙ L.back j in-j in
            let o : own (e % T) ≡ true = ap own t ∙ L.owned j in-j in
            rw (h, i, o) (due (sends P (ports j) (e / T)) (ltb j j) (ltb j (j + 1)) (lt-ltb j (j + 1) (omega arith)))

        other : eqb (e % T) (at j) ≡ false → own (e % T) ≡ true → ltb (index (e % T)) (j + 1) ≡ ltb (index (e % T)) j
        other h o =
            let n : index (e % T) ≡ j → ⊥ = λ q. eqb-false (e % T) (at j) h (sym (L.again (e % T) (mod-lt e some) o) ∙ ap at q) in
            below_next (index (e % T)) j n

        there : eqb (e % T) (at j) ≡ false → up_to P T own index ports (j + 1) e ≡ (eqb (e % T) (at j) && sends P (ports j) (e / T)) || up_to P T own index ports j e
        there h = rw h (kept (own (e % T)) (sends P (ports (index (e % T))) (e / T)) (ltb (index (e % T)) (j + 1)) (ltb (index (e % T)) j) (other h))

    -- the value of place j's element
    pub value-at : (odd : ℕ) (x y : Pair) → odd ≡ j % 2 → x ≡ d j → y ≡ d (partner_index j) → (e : ℕ) → sent_at P T (ports j) (at j) e ≡ true
        → on_port P (ports j) 2 odd x y (e / T) ≡ value_by P T index ports d e
    unfolding sent_at
    value-at odd x y o p q e h =
        let t : e % T ≡ at j = eqb-true (e % T) (at j) (and_left (eqb (e % T) (at j)) (sends P (ports j) (e / T)) h) in
        let i : index (e % T) ≡ j = ap index t ∙ L.back j in-j in
        rw (i, o, p, q) refl
