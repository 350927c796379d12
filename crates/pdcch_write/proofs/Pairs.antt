-- THE LAWS OF A QUAD'S PAIRS: two places written as one number on one port, as two on two ports, and the two pairs of a quad. Assumes
-- nothing.
use Prim.Native.Nat.{ℕ, ◌+◌, ◌*◌, ◌/◌, ◌%◌, ◌≤◌, ◌<◌}
use mathlib.Core.Path.{◌≡◌, refl, sym, ap, ap₂, ◌∙◌, subst}
use mathlib.Core.Bool.{Bool, true, false, ◌&&◌, ◌||◌}
use mathlib.Core.List.{List}
use native.Mathlib.Nat.{zero-mul, mul-le-mul}
use native.Mathlib.Omega.{arith}
use lib.Dec.{eqb}
use lib.ListN.{length}
use Rattle.base.specs.declared.Element.{Element}
use Rattle.modulation.specs.Symbols.{modulation_symbol}
use Rattle.precoding.specs.Places.{own_port, other_port}
use Rattle.precoding.proofs.Ports.{unit-byte-on}
use Rattle.grid.specs.Writing.{Written, sends, sent_at}
use Rattle.grid.proofs.Writing.{same, over}
use Rattle.grid.proofs.Sending.{element-is, other-lt, element-fits}
use Rattle.element_pairs.specs.Numbers.{element_from, upper, TwoPut, PairPut}
use Rattle.constellation.specs.Pairs.{joint_of}
use Rattle.constellation.proofs.Numbers.{number-few, own_value, pair_values, joint-low, joint-high}
use Rattle.walk.specs.declared.PortOffsets.{PortOffsets}
use Rattle.walk.specs.Addresses.{OffsetsAt}
use Rattle.walk.proofs.Addresses.{own-few}
use Rattle.walk.proofs.Pairs.{pair-value, shuffle}
use Rattle.data_write.specs.Sent.{TableOf, entry_of, FromTable}
use Rattle.data_write.specs.Pairs.{RoundIn, RoundDone}
use Rattle.pdcch_write.specs.declared.GroupPairs.{GroupPairs}
use Rattle.pdcch_write.specs.Quads.{SingleIn, SinglePut, QuadIn, pair_sends, quad_sends, PairValued, QuadPut}

-- ---- the elements of a place, and of a pair of places
pub spread : (a b c : Bool) → a && (b || c) ≡ (a && b) || (a && c)
spread true b c = refl
spread false b c = refl

twice : (b : Bool) → b || b ≡ b
twice true = refl
twice false = refl

module _ (P T port_pair : ℕ) where
  abbrev A : ℕ
  A = own_port P port_pair * T

  abbrev B : ℕ
  B = other_port P port_pair * T

  sent-at : (x e : ℕ) → x < T → sent_at P T port_pair x e ≡ eqb (A + x) e || eqb (B + x) e
  unfolding sent_at sends
  sent-at x e l =
      spread (eqb (e % T) x) (eqb (e / T) (own_port P port_pair)) (eqb (e / T) (other_port P port_pair))
      ∙ ap₂ (λ (a b : Bool). a || b) (sym (element-is T (own_port P port_pair) x e l)) (sym (element-is T (other_port P port_pair) x e l))

  pair-sends : (p gap e : ℕ) → p + gap < T → pair_sends P T port_pair p gap e ≡ (eqb (B + p) e || eqb (B + p + gap) e) || (eqb (A + p) e || eqb (A + p + gap) e)
  unfolding pair_sends
  pair-sends p gap e l =
      let a : A + (p + gap) ≡ A + p + gap = omega arith in
      let b : B + (p + gap) ≡ B + p + gap = omega arith in
      ap₂ (λ (x y : Bool). x || y) (sent-at (p + gap) e l ∙ ap₂ (λ (x y : ℕ). eqb x e || eqb y e) a b) (sent-at p e (omega arith))
      ∙ shuffle (eqb (A + p + gap) e) (eqb (B + p + gap) e) (eqb (A + p) e) (eqb (B + p) e)

-- on one port
one-sends : (T port_pair p gap e : ℕ) → p + gap < T → pair_sends 1 T port_pair p gap e ≡ eqb p e || eqb (p + gap) e
unfolding other_port own_port
one-sends T port_pair p gap e l =
    let a : 0 * T + p ≡ p = omega (arith, zero-mul T) in
    let b : 0 * T + p + gap ≡ p + gap = omega (arith, zero-mul T) in
    pair-sends 1 T port_pair p gap e l
    ∙ twice (eqb (0 * T + p) e || eqb (0 * T + p + gap) e)
    ∙ ap₂ (λ (x y : ℕ). eqb x e || eqb y e) a b

-- ---- a pair with the symbols of the words w and x
module _
    {P T port_pair p gap w x : ℕ} {t : List ℕ} {W : ℕ → Element} (s : TableOf P 2 2 t) (l : p + gap < T)
    (h : PairValued P T port_pair p gap (modulation_symbol 2 w) (modulation_symbol 2 x) W) where
  -- on two ports
  pub pair_put :
      {at across v u : ℕ} {g k : List ℕ} → 2 ≤ P → at ≡ 3 * (own_port P port_pair * T + p) → at + across ≡ 3 * (other_port P port_pair * T + p) → FromTable t w x v u
      → PairPut gap at across v u g k → Written (pair_sends P T port_pair p gap) W g k
  pair_put many ia ib f put =
      let y = pair_values s.table (omega arith) (omega arith) (unit-byte-on P 2).0 P port_pair 2 refl many w x refl refl f.own f.other in
      let a = own_port P port_pair in
      let b = other_port P port_pair in
      over
      (same (λ e. refl) (λ e d. pair-value W gap _ _ (a * T + p) e (h.first a ∙ y.own_first) (h.second a ∙ y.own-second) d) (put.own.written (a * T + p) ia))
      (put.other.written (b * T + p) ib)
      (λ e d. pair-value W gap _ _ (b * T + p) e (h.first b ∙ y.other-first) (h.second b ∙ y.other-second) d)
      (λ e. pair-sends P T port_pair p gap e l)

-- and on one
module _
    {T port_pair p gap : ℕ} (w x : ℕ) {t : List ℕ} {W : ℕ → Element} (s : TableOf 1 2 2 t) (l : p + gap < T)
    (h : PairValued 1 T port_pair p gap (modulation_symbol 2 w) (modulation_symbol 2 x) W) where
  small : (y : ℕ) → entry_of t y < 16777216
  small y = number-few s.table (omega arith) (omega arith) (unit-byte-on 1 2).0 y

  one-first : W p ≡ element_from (joint_of (entry_of t w) (entry_of t x))
  unfolding own_port
  one-first =
      let z : p ≡ 0 * T + p = omega (arith, zero-mul T) in
      ap W z ∙ h.first 0
      ∙ own_value s.table (omega arith) (omega arith) (unit-byte-on 1 2).0 1 port_pair 2 refl w 0 (modulation_symbol 2 x) refl
      ∙ sym (joint-low (small w) (small x))

  one-second : W (p + gap) ≡ element_from (upper (joint_of (entry_of t w) (entry_of t x)))
  unfolding own_port
  one-second =
      let z : p + gap ≡ 0 * T + p + gap = omega (arith, zero-mul T) in
      ap W z ∙ h.second 0
      ∙ own_value s.table (omega arith) (omega arith) (unit-byte-on 1 2).0 1 port_pair 2 refl x 1 (modulation_symbol 2 w) refl
      ∙ sym (joint-high (small w) (small x))

  pub one-put : {g k : List ℕ} → TwoPut gap (3 * p) (joint_of (entry_of t w) (entry_of t x)) g k → Written (pair_sends 1 T port_pair p gap) W g k
  one-put put = same (λ e. sym (one-sends T port_pair p gap e l)) (λ e d. pair-value W gap _ _ p e one-first one-second d) (put.written p refl)

-- ---- on one port, from what the functions leave that are called
pub two-apart : {gap at v : ℕ} {g k : List ℕ} → gap ≡ 2 → TwoPut 2 at v g k → TwoPut gap at v g k
two-apart {at = at} {v} {g} {k} e p = subst (λ (n : ℕ). TwoPut n at v g k) (sym e) p

pub two-beside : {gap at v : ℕ} {g k : List ℕ} → SingleIn at gap g → (gap ≡ 2 → ⊥) → TwoPut 1 at v g k → TwoPut gap at v g k
two-beside {gap} {at} {v} {g} {k} h n p = let e : 1 ≡ gap = omega (arith, h.some, h.near) in subst (λ (n : ℕ). TwoPut n at v g k) e p

pub single-put :
    {x : GroupPairs} {z a b c d v w : ℕ} {t g f k : List ℕ} → a ≡ entry_of t (z / 4 / 4 / 4) → b ≡ entry_of t (z / 4 / 4) → c ≡ entry_of t (z / 4) → d ≡ entry_of t z
    → v ≡ joint_of a b → w ≡ joint_of c d → TwoPut x.gap (3 * x.first) v g f → TwoPut x.gap (3 * x.second) w f k → SinglePut x z t g k
single-put {x} {g = g} {f} {k} ea eb ec ed ev ew p q =
    record {
      middle = f;
      put = subst (λ (n : ℕ). TwoPut x.gap (3 * x.first) n g f) (ev ∙ ap₂ joint_of ea eb) p;
      put_next = subst (λ (n : ℕ). TwoPut x.gap (3 * x.second) n f k) (ew ∙ ap₂ joint_of ec ed) q;
    }

-- ---- a quad
-- what the functions for one port require
module _ {P T : ℕ} {x : GroupPairs} {t g : List ℕ} (q : QuadIn P T x t g) where
  one-fits : (p : ℕ) → p + x.gap < T → SingleIn (3 * p) x.gap g
  one-fits p l = record { some = q.some; near = q.near; fits = omega (arith, element-fits q.room 0 (p + x.gap) (omega (arith, q.room.some)) l) }

  pub single-in : (x.first < 16800) × (x.second < 16800) × SingleIn (3 * x.first) x.gap g × SingleIn (3 * x.second) x.gap g
  single-in =
      (omega (arith, q.first, q.room.fits), omega (arith, q.second, q.room.fits), one-fits x.first q.first, one-fits x.second q.second)

  -- and what those for two ports or four do, with the offsets of the ports
  module _ {o : PortOffsets} (p : OffsetsAt P T 0 o) where
    own-most : (port_pair : ℕ) → own_port P port_pair * T ≤ 16800
    own-most port_pair = omega (arith, mul-le-mul {n₁ = own_port P port_pair} {m₁ = T} {n₂ = 1} {m₂ = 16800} (own-few P port_pair) q.room.fits)

    pub offsets-few : (o.own ≤ 16800) × (o.next ≤ 16800) × (o.across ≤ 67200) × (x.first < 16800) × (x.second < 16800)
    offsets-few = (
      omega (arith, p.own, own-most 0),
      omega (arith, p.next, own-most 1),
      omega (arith, p.across 0, mul-le-mul {n₁ = other_port P 0} {m₁ = T} {n₂ = 4} {m₂ = 16800} (omega (arith, other-lt q.room 0, q.room.most)) q.room.fits),
      single-in.0,
      single-in.1,
    )

    inside : (port_pair y : ℕ) → y + x.gap < T → 3 * (other_port P port_pair * T + y) + (3 * x.gap + 2) < length g
    inside port_pair y l = omega (arith, element-fits q.room (other_port P port_pair) (y + x.gap) (other-lt q.room port_pair) l)

    pub round-in : {n : ℕ} → x.gap ≡ n → RoundIn n 2 (3 * (o.own + x.first)) (3 * (o.next + x.second)) (3 * o.across) g
    round-in e =
        record {
          few = omega arith;
          first = omega (arith, p.own, p.across 0, inside 0 x.first q.first);
          second = omega (arith, p.next, p.across 1, inside 1 x.second q.second);
        }

    quad-done : {z : ℕ} {k : List ℕ} → (P ≡ 1 → ⊥) → RoundDone x.gap z 2 t (3 * (o.own + x.first)) (3 * (o.next + x.second)) (3 * o.across) g k → QuadPut P T x z g k
    unfolding quad_sends
    quad-done n d =
        record {
          size = d.put_next.size ∙ d.put.size;
          written = λ W a b.
              over
              (pair_put q.table q.first a (omega (arith, q.room.some)) (omega (arith, p.own)) (omega (arith, p.own, p.across 0)) d.first d.put)
              (pair_put q.table q.second b (omega (arith, q.room.some)) (omega (arith, p.next)) (omega (arith, p.next, p.across 1)) d.second d.put_next)
              (λ e h. refl) (λ e. refl);
        }

    pub quad-round :
        {n z : ℕ} {k : List ℕ} → (P ≡ 1 → ⊥) → x.gap ≡ n → RoundDone n z 2 t (3 * (o.own + x.first)) (3 * (o.next + x.second)) (3 * o.across) g k
        → QuadPut P T x z g k
    quad-round {n} {z} {k} many e d =
        quad-done many (subst (λ (y : ℕ). RoundDone y z 2 t (3 * (o.own + x.first)) (3 * (o.next + x.second)) (3 * o.across) g k) (sym e) d)

  pub gap-one : (x.gap ≡ 2 → ⊥) → x.gap ≡ 1
  gap-one n = omega (arith, q.some, q.near)

quad-one : {T : ℕ} (z : ℕ) {x : GroupPairs} {t g k : List ℕ} → QuadIn 1 T x t g → SinglePut x z t g k → QuadPut 1 T x z g k
unfolding quad_sends
quad-one z q d =
    record {
      size = (d.put_next.written _ refl).size ∙ (d.put.written _ refl).size;
      written = λ W a b. over (one-put (z / 4 / 4 / 4) (z / 4 / 4) q.table q.first a d.put) (one-put (z / 4) z q.table q.second b d.put_next) (λ e h. refl) (λ e. refl);
    }

pub quad-single : {P T z : ℕ} {x : GroupPairs} {t g k : List ℕ} → P ≡ 1 → QuadIn P T x t g → SinglePut x z t g k → QuadPut P T x z g k
quad-single {T = T} {z} {x} {t} {g} {k} e q d =
    subst (λ (P : ℕ). QuadPut P T x z g k) (sym e) (quad-one z (subst (λ (P : ℕ). QuadIn P T x t g) e q) d)
