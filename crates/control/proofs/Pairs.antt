-- THE LAWS OF PAIRS, whether they are written or compared: two places, each symbol beside the other; and a channel whose places are listed,
-- pair by pair in the order of their indices. Assumes nothing.
use Prim.Native.Nat.{ℕ, ◌+◌, ◌*◌, ◌/◌, ◌%◌, ◌<◌}
use mathlib.Core.Path.{◌≡◌, refl, sym, ap, ◌∙◌}
use mathlib.Core.Bool.{Bool, true, false, ◌||◌}
use mathlib.Core.List.{List}
use native.Mathlib.Omega.{arith}
use lib.Dec.{eqb, ltb}
use borrow.Author.Tests.{eqb-true, ne_eqb, ltb-true}
use Rattle.base.specs.declared.Pair.{Pair}
use Rattle.base.specs.Pairs.{Small}
use Rattle.base.specs.Counts.{Listed}
use Rattle.precoding.specs.Places.{on_port, partner_index}
use Rattle.plan.specs.declared.Cell.{Cell}
use Rattle.plan.proofs.Listed.{and_left, and_right}
use Rattle.places.specs.Places.{places_of}
use Rattle.grid.specs.Writing.{sends, sent_at, Room}
use Rattle.grid.proofs.Accumulating.{Deed, Step, Accumulates, empty}
use Rattle.control.specs.declared.PairAt.{PairAt}
use Rattle.control.specs.Pairs.{PairIn, pair_sends, pair_sent}
use Rattle.control.proofs.ListedPlaces.{sent_by, up_to, value_by, sent-none, sent-all, grows, value-at}

-- ---- tests
either : {X : Type 0} (a b : Bool) → (a ≡ true → X) → (b ≡ true → X) → a || b ≡ true → X
either true b f g h = f refl
either false b f g h = g h

or-or : (a b c : Bool) → a || (b || c) ≡ (a || b) || c
or-or true b c = refl
or-or false b c = refl

sent-place : (P T ports t e : ℕ) → sent_at P T ports t e ≡ true → e % T ≡ t
unfolding sent_at
sent-place P T ports t e h = eqb-true (e % T) t (and_left (eqb (e % T) t) (sends P ports (e / T)) h)

-- ---- two places
module _ {c : Cell} {x : PairAt} (ok : PairIn c x) where
  -- what `put_place` and `compare_place` require there
  pub first-ok : {T : ℕ} {g : List ℕ} → Room c.ports (places_of c) g → T ≡ places_of c → Room c.ports T g × (x.first_place < T) × Small 127 x.second
  first-ok room t = (rw t room, rw t ok.first-inside, ok.second)

  pub second-ok : {T : ℕ} {g : List ℕ} → Room c.ports (places_of c) g → T ≡ places_of c → Room c.ports T g × (x.second_place < T) × Small 127 x.first
  second-ok room t = (rw t room, rw t ok.second-inside, ok.first)

  value-first :
      (e : ℕ) → sent_at c.ports (places_of c) x.port_pair x.first_place e ≡ true
      → on_port c.ports x.port_pair 2 0 x.first x.second (e / places_of c) ≡ pair_sent c x e
  unfolding sent_at pair_sent
  value-first e h = rw (and_left (eqb (e % places_of c) x.first_place) (sends c.ports x.port_pair (e / places_of c)) h) refl

  value-second :
      (e : ℕ) → sent_at c.ports (places_of c) x.port_pair x.second_place e ≡ true
      → on_port c.ports x.port_pair 2 1 x.second x.first (e / places_of c) ≡ pair_sent c x e
  unfolding pair_sent
  value-second e h =
      let q = sent-place c.ports (places_of c) x.port_pair x.second_place e h in
      rw (ne_eqb (e % places_of c) x.first_place (λ z. ok.apart (sym z ∙ q))) refl

  -- THE LAW of `put_pair` and `compare_pair`, in the code's terms
  pub pair-done :
      {X : Type 0} {Done : Deed X} {Also : Step X} {none y z : X} → Accumulates Done Also none → {T : ℕ} → T ≡ places_of c
      → Done (sent_at c.ports T x.port_pair x.first_place) (λ (e : ℕ). on_port c.ports x.port_pair 2 0 x.first x.second (e / T)) y
      → Also (sent_at c.ports T x.port_pair x.second_place) (λ (e : ℕ). on_port c.ports x.port_pair 2 1 x.second x.first (e / T)) y z
      → Done (pair_sends c x) (pair_sent c x) z
  unfolding pair_sends
  pair-done A t one two =
      let τ = x.port_pair in
      A.more (λ e h k. ok.apart (sym (sent-place c.ports (places_of c) τ x.first_place e h) ∙ sent-place c.ports (places_of c) τ x.second_place e k))
      (A.same (λ e. refl) value-first (rw t at one)) (rw t at two) value-second (λ e. refl)

-- ---- a channel of listed places
-- the symbols of the indices 2n and 2n + 1 are those of the pair x, at its places and on its ports
pub record Stands (c : Cell) (at ports : ℕ → ℕ) (d : ℕ → Pair) (n : ℕ) (x : PairAt) : Type 0 where
  pub ports-one : ports (2 * n) ≡ x.port_pair
  pub ports-two : ports (2 * n + 1) ≡ x.port_pair
  pub one : at (2 * n) ≡ x.first_place
  pub two : at (2 * n + 1) ≡ x.second_place
  pub first : x.first ≡ d (2 * n)
  pub second : x.second ≡ d (2 * n + 1)

module _ (c : Cell) {m : ℕ} {own : ℕ → Bool} {at index : ℕ → ℕ} (ports : ℕ → ℕ) (d : ℕ → Pair) (some : 0 < places_of c) (L : Listed own (places_of c) m at index) where
  abbrev Below : ℕ → ℕ → Bool
  Below = up_to c.ports (places_of c) own index ports

  abbrev At : ℕ → ℕ → Bool
  At j = sent_at c.ports (places_of c) (ports j) (at j)

  -- place j is no place of those before
  index_at : (j : ℕ) → j < m → (e : ℕ) → At j e ≡ true → index (e % places_of c) ≡ j
  index_at j l e h = ap index (sent-place c.ports (places_of c) (ports j) (at j) e h) ∙ L.back j l

  below : (j e : ℕ) → Below j e ≡ true → index (e % places_of c) < j
  below j e h = ltb-true (index (e % places_of c)) j (and_right (sent_by c.ports (places_of c) own index ports e) (ltb (index (e % places_of c)) j) h)

  grown : (n : ℕ) → 2 * n + 1 < m → (e : ℕ) → Below (2 * (n + 1)) e ≡ (At (2 * n + 1) e || At (2 * n) e) || Below (2 * n) e
  grown n in-n e =
      let last : 2 * (n + 1) ≡ 2 * n + 1 + 1 = omega arith in
      ap (λ (j : ℕ). Below j e) last
      ∙ grows c.ports (places_of c) ports d some L (2 * n + 1) in-n e
      ∙ ap (λ (t : Bool). At (2 * n + 1) e || t) (grows c.ports (places_of c) ports d some L (2 * n) (omega arith) e)
      ∙ or-or (At (2 * n + 1) e) (At (2 * n) e) (Below (2 * n) e)

  module _ {n : ℕ} {x : PairAt} (in-n : 2 * n + 1 < m) (ok : PairIn c x) (z : Stands c at ports d n x) where
    abbrev First : ℕ → Bool
    First = sent_at c.ports (places_of c) x.port_pair x.first_place

    abbrev Second : ℕ → Bool
    Second = sent_at c.ports (places_of c) x.port_pair x.second_place

    first-at : (e : ℕ) → First e ≡ true → At (2 * n) e ≡ true
    first-at e h = rw (z.ports-one, z.one) h

    second_at : (e : ℕ) → Second e ≡ true → At (2 * n + 1) e ≡ true
    second_at e h = rw (z.ports-two, z.two) h

    new : (e : ℕ) → Below (2 * n) e ≡ true → Second e || First e ≡ true → ⊥
    new e h =
        either (Second e) (First e)
        (λ i. omega (arith, below (2 * n) e h, index_at (2 * n + 1) in-n e (second_at e i)))
        (λ i. omega (arith, below (2 * n) e h, index_at (2 * n) (omega arith) e (first-at e i)))

    value : (e : ℕ) → Second e || First e ≡ true → pair_sent c x e ≡ value_by c.ports (places_of c) index ports d e
    value e =
        let l : 0 ≡ 2 * n % 2 = omega arith in
        let o : 1 ≡ (2 * n + 1) % 2 = omega arith in
        let i : 2 * n + 1 ≡ partner_index (2 * n) = omega arith in
        let j : 2 * n ≡ partner_index (2 * n + 1) = omega arith in
        let u = x.first in
        let v = x.second in
        either (Second e) (First e)
        (λ h. sym (value-second ok e h) ∙ ap (λ (τ : ℕ). on_port c.ports τ 2 1 v u (e / places_of c)) (sym z.ports-two)
        ∙ value-at c.ports (places_of c) ports d some L (2 * n + 1) in-n 1 v u o z.second (z.first ∙ ap d j) e (second_at e h))
        (λ h. sym (value-first ok e h) ∙ ap (λ (τ : ℕ). on_port c.ports τ 2 0 u v (e / places_of c)) (sym z.ports-one)
        ∙ value-at c.ports (places_of c) ports d some L (2 * n) (omega arith) 0 u v l z.first (z.second ∙ ap d i) e (first-at e h))

    is : (e : ℕ) → (At (2 * n + 1) e || At (2 * n) e) || Below (2 * n) e ≡ (Second e || First e) || Below (2 * n) e
    is e = rw (z.ports-one, z.ports-two, z.one, z.two) refl

  module _ {X : Type 0} {Done : Deed X} {Also : Step X} {none : X} (A : Accumulates Done Also none) where
    pub start : Done (up_to c.ports (places_of c) own index ports 0) (value_by c.ports (places_of c) index ports d) none
    start = empty A (value_by c.ports (places_of c) index ports d) (sent-none c.ports (places_of c) ports d some L)

    pub finish :
        {y : X} → Done (up_to c.ports (places_of c) own index ports m) (value_by c.ports (places_of c) index ports d) y
        → Done (sent_by c.ports (places_of c) own index ports) (value_by c.ports (places_of c) index ports d) y
    finish r = A.same (sent-all c.ports (places_of c) ports d some L) (λ e h. refl) r

    -- the places 2n and 2n + 1 are done: those below 2n + 2 are
    pub pair-more :
        {n : ℕ} {x : PairAt} {y z : X} → 2 * n + 1 < m → PairIn c x → Stands c at ports d n x
        → Done (up_to c.ports (places_of c) own index ports (2 * n)) (value_by c.ports (places_of c) index ports d) y → Also (pair_sends c x) (pair_sent c x) y z
        → Done (up_to c.ports (places_of c) own index ports (2 * (n + 1))) (value_by c.ports (places_of c) index ports d) z
    unfolding pair_sends
    pair-more {n = n} in-n ok s r k = A.more (new in-n ok s) r k (value in-n ok s) (λ e. grown n in-n e ∙ is in-n ok s e)
