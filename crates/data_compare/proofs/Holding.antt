-- WHAT A CHANNEL HOLDS, for places in any order: the tests of all its places come to "each symbol is a constellation point, and every port with
-- a term holds what the symbols give", and then three bytes of each element that it sends are not 0. Assumes that places and indices are
-- each other's, and with two ports or four that indices go in pairs.
use Prim.Native.Nat.{ℕ, zero, suc, ◌+◌, ◌*◌, ◌/◌, ◌%◌, ◌≤◌, ◌<◌}
use mathlib.Core.Path.{◌≡◌, refl, sym, ap, ap₂, ◌∙◌}
use mathlib.Core.Bool.{Bool, true, false, cond, ◌&&◌, ◌||◌, or-true}
use mathlib.Core.Logic.{◌⊎◌, inl, inr}
use mathlib.Core.List.{List}
use native.Mathlib.Decide.{ℕ_discrete}
use native.Mathlib.Nat.{mod-lt, div-add-mod'}
use native.Mathlib.Omega.{arith}
use lib.Dec.{eqb}
use lib.IntN.{ℤ, pos, negsuc, neg_ℤ, nat_abs}
use lib.ListN.{length}
use borrow.Author.Tests.{eq-eqb, ne_eqb, eqb-true}
use Rattle.base.proofs.Tests.{by-test}
use Rattle.base.specs.declared.Element.{Element}
use Rattle.base.specs.declared.Pair.{Pair}
use Rattle.base.specs.Bytes.{byte_of, element_of, pair_of}
use Rattle.base.specs.Counts.{cnt}
use Rattle.base.proofs.Rows.{at-div, at-mod}
use Rattle.modulation.specs.Symbols.{Order}
use Rattle.modulation.specs.Marks.{is_symbol}
use Rattle.modulation.proofs.Constellation.{small, levels-nonzero}
use Rattle.precoding.specs.Matrices.{unit_byte_on}
use Rattle.precoding.specs.Places.{own_port, other_port, partner_of, partner_index, placed}
use Rattle.precoding.proofs.Ports.{unit-byte-on, on-own, on-other}
use Rattle.plan.proofs.Listed.{and_left, and_right}
use Rattle.grid.specs.Elements.{element_in}
use Rattle.grid.specs.Writing.{sends, Room}
use Rattle.compare.specs.Comparing.{Holds, weight_of, weight_in, count_below}
use Rattle.compare.proofs.Comparing.{nonzero-one}
use Rattle.compare.proofs.PortWeights.{port-weight}
use Rattle.walk.proofs.Addresses.{own_pair}
use Rattle.data_compare.specs.Places.{RightAt}

-- the places below T that pass `own` are those of the indices A, each just once
pub record Placed (own : ℕ → Bool) (T : ℕ) (A : ℕ → Type 0) (place index : ℕ → ℕ) : Type 0 where
  pub inside : (j : ℕ) → A j → place j < T
  pub owned : (j : ℕ) → A j → own (place j) ≡ true
  pub back : (j : ℕ) → A j → index (place j) ≡ j
  pub listed : (t : ℕ) → t < T → own t ≡ true → A (index t)
  pub again : (t : ℕ) → t < T → own t ≡ true → place (index t) ≡ t

-- the symbol of index j in a grid, from the port that sends it itself
abbrev pub symbol_from : ℕ → ℕ → (ℕ → ℕ) → List ℕ → ℕ → Pair
symbol_from P T place g j = pair_of (element_in g (own_port P (j / 2) * T + place j))

-- the elements that are sent, and their values with symbols d
abbrev pub sent_from : ℕ → ℕ → (ℕ → Bool) → (ℕ → ℕ) → ℕ → Bool
sent_from P T own index e = own (e % T) && sends P (index (e % T) / 2 % 2) (e / T)

abbrev pub value_from : ℕ → ℕ → (ℕ → ℕ) → ℕ → (ℕ → Pair) → ℕ → Element
value_from P T index unit d e = placed P (index (e % T) / 2 % 2) unit d (index (e % T)) (e / T)

-- ---- what stands at a place, by the symbols
record Fits (P T : ℕ) (place : ℕ → ℕ) (q u : ℕ) (g : List ℕ) (j : ℕ) : Type 0 where
  pub known : is_symbol q (symbol_from P T place g j) ≡ true
  pub own : element_in g (own_port P (j / 2 % 2) * T + place j) ≡ element_of u (symbol_from P T place g j)
  pub other :
      (P ≡ 1 → ⊥) → element_in g (other_port P (j / 2 % 2) * T + place j) ≡ element_of u (partner_of (j % 2) (symbol_from P T place g (partner_index j)))

module _ (P T : ℕ) (place : ℕ → ℕ) (q u : ℕ) (g : List ℕ) (j : ℕ) where
  -- a symbol, by the own port of index j
  symbol-is : (k : ℕ) → k / 2 % 2 ≡ j / 2 % 2 → symbol_from P T place g k ≡ pair_of (element_in g (own_port P (j / 2 % 2) * T + place k))
  symbol-is k e = ap (λ (x : ℕ). pair_of (element_in g (x * T + place k))) (own_pair P (k / 2) (j / 2 % 2) (omega arith))

  same-pair : partner_index j / 2 % 2 ≡ j / 2 % 2
  same-pair = omega arith

  right-fits : RightAt place P T q u g j → Fits P T place q u g j
  right-fits r =
      let e = symbol-is j refl in
      record {
        known = ap (is_symbol q) e ∙ r.own.known;
        own = r.own.levels ∙ ap (element_of u) (sym e);
        other = λ n. r.other n ∙ ap (λ (d : Pair). element_of u (partner_of (j % 2) d)) (sym (symbol-is (partner_index j) same-pair));
      }

  fits-right : Fits P T place q u g j → RightAt place P T q u g j
  fits-right r =
      let e = symbol-is j refl in
      record {
        own = record { levels = r.own ∙ ap (element_of u) e; known = ap (is_symbol q) (sym e) ∙ r.known };
        other = λ n. r.other n ∙ ap (λ (d : Pair). element_of u (partner_of (j % 2) d)) (symbol-is (partner_index j) same-pair);
      }

-- ---- bytes that are not 0
weight-three : (u : ℕ) (d : Pair) → (u ≡ 0 → ⊥) → (byte_of d.re ≡ 0 → ⊥) → (byte_of d.im ≡ 0 → ⊥) → weight_of (element_of u d) ≡ 3
unfolding weight_of element_of
weight-three u d n i j = rw (nonzero-one u n, nonzero-one (byte_of d.re) i, nonzero-one (byte_of d.im) j) refl

minus-some : (z : ℤ) → nat_abs z ≤ 15 → (byte_of z ≡ 0 → ⊥) → byte_of (neg_ℤ z) ≡ 0 → ⊥
minus-some (pos zero) l n e = n refl
minus-some (pos (suc n)) l k e = omega arith
minus-some (negsuc n) l k e = omega arith

partner-three : (u odd q : ℕ) (d : Pair) → (u ≡ 0 → ⊥) → Order q → is_symbol q d ≡ true → weight_of (element_of u (partner_of odd d)) ≡ 3
unfolding partner_of
partner-three u odd q d n o k =
    let s = small q d o k in
    let z = levels-nonzero q d o k in
    by-test (eqb odd 0)
    (λ e. rw e (weight-three u (record { re = neg_ℤ d.re; im = d.im }) n (minus-some d.re s.0 z.0) z.1))
    (λ e. rw e (weight-three u (record { re = d.re; im = neg_ℤ d.im }) n z.0 (minus-some d.im s.1 z.1)))

byte-some : (P unit : ℕ) → 0 < unit → unit_byte_on P unit ≡ 0 → ⊥
byte-some P unit l z = omega (arith, (unit-byte-on P unit).1 l)

count-is : (own : ℕ → Bool) (n : ℕ) → count_below own n ≡ cnt own n
unfolding count_below cnt
count-is own zero = refl
count-is own (suc n) = ap (λ (x : ℕ). x + cond (own n) 1 0) (count-is own n)

-- ---- the two ports with a term
sends-own : (P port_pair : ℕ) → sends P port_pair (own_port P port_pair) ≡ true
unfolding sends
sends-own P port_pair = rw (eq-eqb (own_port P port_pair) (own_port P port_pair) refl) refl

sends-other : (P port_pair : ℕ) → sends P port_pair (other_port P port_pair) ≡ true
unfolding sends
sends-other P port_pair = rw (eq-eqb (other_port P port_pair) (other_port P port_pair) refl) (or-true (eqb (other_port P port_pair) (own_port P port_pair)))

sends-which : (P port_pair p : ℕ) → sends P port_pair p ≡ true → (p ≡ own_port P port_pair) ⊎ ((p ≡ own_port P port_pair → ⊥) × (p ≡ other_port P port_pair))
unfolding sends
sends-which P port_pair p h = pick (ℕ_discrete p (own_port P port_pair))
  where
    second : (x y : Bool) → x ≡ false → x || y ≡ true → y ≡ true
    second x y e d = sym (ap (λ (z : Bool). z || y) e) ∙ d

    pick : Dec (p ≡ own_port P port_pair) → (p ≡ own_port P port_pair) ⊎ ((p ≡ own_port P port_pair → ⊥) × (p ≡ other_port P port_pair))
    pick (yes e) = inl e
    pick (no n) = inr (n, eqb-true p (other_port P port_pair) (second (eqb p (own_port P port_pair)) (eqb p (other_port P port_pair)) (ne_eqb p (own_port P port_pair) n) h))

other-same : (P port_pair : ℕ) → P ≡ 1 → other_port P port_pair ≡ own_port P port_pair
unfolding other_port
other-same P port_pair e = omega arith

other-apart : (P port_pair : ℕ) → 1 ≤ P → (P ≡ 1 → ⊥) → other_port P port_pair ≡ own_port P port_pair → ⊥
unfolding other_port
other-apart P port_pair l n e = omega arith

-- ---- an element that is sent
module _ {own : ℕ → Bool} {T : ℕ} {A : ℕ → Type 0} {place index : ℕ → ℕ} (l : Placed own T A place index) (P : ℕ) where
  -- the element of index j on a port
  module _ (j : ℕ) (a : A j) (port : ℕ) where
    abbrev x : ℕ
    x = port * T + place j

    place_of : x % T ≡ place j
    place_of = at-mod port T (place j) (l.inside j a)

    port-of : x / T ≡ port
    port-of = at-div port T (place j) (l.inside j a)

    sent-there : sent_from P T own index x ≡ sends P (j / 2 % 2) port
    sent-there = rw (place_of, port-of, l.owned j a, l.back j a) refl

    value_there : (unit : ℕ) (d : ℕ → Pair) → value_from P T index unit d x ≡ placed P (j / 2 % 2) unit d j port
    value_there unit d = rw (place_of, port-of, l.back j a) refl

  -- any element that is sent is one of these
  module _ (some : 0 < T) (e : ℕ) (h : sent_from P T own index e ≡ true) where
    abbrev t : ℕ
    t = e % T

    abbrev m : ℕ
    m = index t

    is-place : own t ≡ true
    is-place = and_left (own t) (sends P (m / 2 % 2) (e / T)) h

    sends-port : sends P (m / 2 % 2) (e / T) ≡ true
    sends-port = and_right (own t) (sends P (m / 2 % 2) (e / T)) h

    of-index : A m
    of-index = l.listed t (mod-lt e some) is-place

    there : (port : ℕ) → e / T ≡ port → e ≡ port * T + place m
    there port d = sym (div-add-mod' e T) ∙ ap₂ (λ (y z : ℕ). y * T + z) d (sym (l.again t (mod-lt e some) is-place))

-- ---- all of them
module _
    {P T q unit : ℕ} {g : List ℕ} {own : ℕ → Bool} {A : ℕ → Type 0} {place index : ℕ → ℕ} (room : Room P T g) (some : 0 < T) (order : Order q) (unit-some : 0 < unit)
    (l : Placed own T A place index) (pairs : (P ≡ 1 → ⊥) → (j : ℕ) → A j → A (partner_index j)) where
  abbrev U : ℕ
  U = unit_byte_on P unit

  abbrev d : ℕ → Pair
  d = symbol_from P T place g

  abbrev AllRight : Type 0
  AllRight = (j : ℕ) → A j → RightAt place P T q U g j

  -- an element that is sent, on the own port or the other one
  module _ (r : AllRight) (e : ℕ) (h : sent_from P T own index e ≡ true) where
    abbrev n : ℕ
    n = index (e % T)

    abbrev port : ℕ
    port = e / T

    n-index : A n
    n-index = of-index l P some e h

    fits-there : Fits P T place q U g n
    fits-there = right-fits P T place q U g n (r n n-index)

    abbrev Which : Type 0
    Which = (port ≡ own_port P (n / 2 % 2)) ⊎ ((port ≡ own_port P (n / 2 % 2) → ⊥) × (port ≡ other_port P (n / 2 % 2)))

    which : Which
    which = sends-which P (n / 2 % 2) port (sends-port l P some e h)

    more : (port ≡ own_port P (n / 2 % 2) → ⊥) → port ≡ other_port P (n / 2 % 2) → P ≡ 1 → ⊥
    more not_own is one = not_own (is ∙ other-same P (n / 2 % 2) one)

    on-first : port ≡ own_port P (n / 2 % 2) → element_in g e ≡ element_of U (d n)
    on-first is = ap (element_in g) (there l P some e h (own_port P (n / 2 % 2)) is) ∙ fits-there.own

    on-second : (port ≡ own_port P (n / 2 % 2) → ⊥) → port ≡ other_port P (n / 2 % 2) → element_in g e ≡ element_of U (partner_of (n % 2) (d (partner_index n)))
    on-second not_own is = ap (element_in g) (there l P some e h (other_port P (n / 2 % 2)) is) ∙ fits-there.other (more not_own is)

    right-value : element_in g e ≡ value_from P T index unit d e
    right-value = pick which
      where
        pick : Which → element_in g e ≡ placed P (n / 2 % 2) unit d n port
        pick (inl is) = on-first is ∙ sym (on-own P (n / 2 % 2) unit (n % 2) (d n) (d (partner_index n)) port is)
        pick (inr (not_own, is)) = on-second not_own is ∙ sym (on-other P (n / 2 % 2) unit (n % 2) (d n) (d (partner_index n)) port not_own is)

    right-weight : weight_of (element_in g e) ≡ 3
    right-weight = pick which
      where
        pick : Which → weight_of (element_in g e) ≡ 3
        pick (inl is) =
            let z = levels-nonzero q (d n) order fits-there.known in
            ap weight_of (on-first is) ∙ weight-three U (d n) (byte-some P unit unit-some) z.0 z.1
        pick (inr (not_own, is)) =
            let k = partner_index n in
            ap weight_of (on-second not_own is)
            ∙ partner-three U (n % 2) q (d k) (byte-some P unit unit-some) order (right-fits P T place q U g k (r k (pairs (more not_own is) n n-index))).known

  -- THE LAWS: the tests and what the channel holds are each other's, and the weight
  pub right-known : AllRight → (j : ℕ) → A j → is_symbol q (d j) ≡ true
  right-known r j a = (right-fits P T place q U g j (r j a)).known

  pub right-holds : AllRight → Holds (sent_from P T own index) (value_from P T index unit d) g
  right-holds r = record { elements = right-value r }

  pub holds-right : ((j : ℕ) → A j → is_symbol q (d j) ≡ true) → Holds (sent_from P T own index) (value_from P T index unit d) g → AllRight
  holds-right known h j a =
      fits-right P T place q U g j
      (record {
        known = known j a;
        own = h.elements (own_port P (j / 2 % 2) * T + place j) (sent-there l P j a (own_port P (j / 2 % 2)) ∙ sends-own P (j / 2 % 2))
            ∙ value_there l P j a (own_port P (j / 2 % 2)) unit d
            ∙ on-own P (j / 2 % 2) unit (j % 2) (d j) (d (partner_index j)) (own_port P (j / 2 % 2)) refl;
        other = λ n. h.elements (other_port P (j / 2 % 2) * T + place j) (sent-there l P j a (other_port P (j / 2 % 2)) ∙ sends-other P (j / 2 % 2))
            ∙ value_there l P j a (other_port P (j / 2 % 2)) unit d
            ∙ on-other P (j / 2 % 2) unit (j % 2) (d j) (d (partner_index j)) (other_port P (j / 2 % 2)) (other-apart P (j / 2 % 2) room.some n) refl;
      })

  pub right-weights : AllRight → cond (eqb P 1) 3 6 * cnt own T ≡ weight_in (sent_from P T own index) g (length g / 3)
  right-weights r =
      ap (λ (x : ℕ). cond (eqb P 1) 3 6 * x) (sym (count-is own T))
      ∙ sym (port-weight room some own (λ (t : ℕ). index t / 2 % 2) (right-weight r))
