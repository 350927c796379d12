-- PAIRS OF PLACES one after another on two ports or four, and a run of them by its form. Assumes what a run needs.
use Prim.Native.Nat.{ℕ, ◌+◌, ◌*◌, ◌/◌, ◌%◌, ◌≤◌, ◌<◌}
use mathlib.Core.Path.{◌≡◌, sym, ap, ◌∙◌, subst}
use mathlib.Core.Bool.{Bool}
use mathlib.Core.List.{List}
use native.Mathlib.Nat.{mul-add, mul-zero}
use native.Mathlib.Omega.{arith}
use lib.ListN.{length}
use Rattle.base.specs.Counts.{nth}
use Rattle.base.proofs.Counts.{nth_of}
use Rattle.precoding.specs.Places.{own_port, other_port, partner_index}
use Rattle.grid.specs.Elements.{element_in}
use Rattle.element_pairs.specs.Numbers.{element_from, upper, TwoRead}
use Rattle.walk.specs.declared.PortOffsets.{PortOffsets}
use Rattle.walk.specs.declared.Run.{Run}
use Rattle.walk.specs.Runs.{PairsAt}
use Rattle.walk.specs.Addresses.{OffsetsAt, PairsIn, RunPairs, RunIn}
use Rattle.walk.proofs.Addresses.{own_pair, own-inside, other-inside, own-most, run-total, laid-pairs}
use Rattle.data_compare.specs.declared.Form.{Form}
use Rattle.data_compare.specs.declared.Sums.{Sums}
use Rattle.data_compare.specs.declared.Starts.{Starts}
use Rattle.data_compare.specs.Tests.{sums_with, told_by}
use Rattle.data_compare.specs.Places.{PairRight, RightAt, Starting, PairAt, PairsSeen, Pairs, RunSeen}
use Rattle.data_compare.proofs.Telling.{tells_none, tells_more, tells_both}
use Rattle.data_compare.proofs.Numbers.{Both, Partners, sums-right, sums_none}

pub starting :
    (P T j start step : ℕ) {r : PortOffsets} → OffsetsAt P T j r
    → Starting P T j start step (record { at = 3 * (r.own + start); next = 3 * (r.next + start + step); across = 3 * r.across })
starting P T j start step {r} p =
    let z : step * 0 ≡ 0 = mul-zero step in
    let o : j + 2 * 0 ≡ j = omega arith in
    let n : j + 2 * (0 + 1) ≡ j + 2 = omega arith in
    record {
      first = record { at_pair = rw o (omega (arith, p.own)); next-pair = rw n (omega (arith, p.next)) };
      across = λ port_pair. omega (arith, p.across port_pair);
    }

-- ---- one pair, read as two numbers
module _
    (P T port_pair s gap : ℕ) {g : List ℕ} (many : 2 ≤ P) {a b x y : ℕ} (ia : a ≡ 3 * (own_port P port_pair * T + s)) (ib : b ≡ 3 * (other_port P port_pair * T + s))
    (rx : TwoRead gap a g x) (ry : TwoRead gap b g y) where
  own-second : element_in g (own_port P port_pair * T + (s + gap)) ≡ element_from (upper x)
  own-second = let e : own_port P port_pair * T + (s + gap) ≡ own_port P port_pair * T + s + gap = omega arith in ap (element_in g) e ∙ rx.second (own_port P port_pair * T + s) ia

  other-second : element_in g (other_port P port_pair * T + (s + gap)) ≡ element_from (upper y)
  other-second = let e : other_port P port_pair * T + (s + gap) ≡ other_port P port_pair * T + s + gap = omega arith in ap (element_in g) e ∙ ry.second (other_port P port_pair * T + s) ib

  pub pair-right : {q u : ℕ} → Both q u x → Partners u x y → PairRight P T port_pair q u g s (s + gap)
  pair-right (a, b) (c, d) =
      let e = rx.first (own_port P port_pair * T + s) ia in
      let h = ry.first (other_port P port_pair * T + s) ib in (
        record { own = rw e a; other = λ n. rw (h, own-second) c },
        record { own = rw own-second b; other = λ n. rw (other-second, e) d },
      )

  pub right-pair : {q u : ℕ} → PairRight P T port_pair q u g s (s + gap) → Both q u x × Partners u x y
  right-pair (v, w) =
      let e = rx.first (own_port P port_pair * T + s) ia in
      let h = ry.first (other_port P port_pair * T + s) ib in
      let n : P ≡ 1 → ⊥ = λ z. omega arith in
      ((rw e at v.own, rw own-second at w.own), (rw (h, own-second) at (v.other n), rw (other-second, e) at (w.other n)))

-- ---- pair after pair
pub pairs_start :
    {P T gap j start step m : ℕ} {f : Form} {g : List ℕ} {p : Starts} {s : Sums} → Starting P T j start step p → s.fixed ≡ 0 → s.same ≡ 0 → s.bad ≡ 0
    → Pairs P T gap j start step m f g s p.at p.next 0
pairs_start b x y z = record { few = omega arith; round = b.first; done = record { seen = λ q u o. rw (x, y, z) tells_none } }

module _
    {P T gap j start step m : ℕ} {f : Form} {g : List ℕ} (h : PairsIn P T gap j start step m g) {p : Starts} (b : Starting P T j start step p)
    {s : Sums} {at next i : ℕ} (d : Pairs P T gap j start step m f g s at next i) (l : i < m) where
  abbrev tn : ℕ
  tn = (j + 2 * i) / 2 % 2

  other_at : at + p.across ≡ 3 * (other_port P tn * T + (start + step * i))
  other_at = omega (arith, d.round.at_pair, b.across tn)

  pub pair_fits : (at + 3 * gap + 2 < length g) × (at + p.across + 3 * gap + 2 < length g) × (at ≤ 100800)
  pair_fits = (
    omega (arith, d.round.at_pair, own-inside h tn i l),
    omega (arith, other_at, other-inside h tn i l),
    omega (arith, d.round.at_pair, own-most h tn, h.inside i l, h.room.fits),
  )

  pub pairs-on :
      {x y : ℕ} {s' : Sums} → TwoRead gap at g x → TwoRead gap (at + p.across) g y → s' ≡ sums_with f s x y
      → Pairs P T gap j start step m f g s' next (at + 6 * step) (i + 1)
  pairs-on {x} {y} {s'} rx ry es =
      let two : step * (i + 1 + 1) ≡ step * i + 2 * step = ap (λ (k : ℕ). step * k) (one-one i) ∙ mul-add step i 2 ∙ (omega arith) in
      let same : own_port P ((j + 2 * (i + 1 + 1)) / 2 % 2) * T ≡ own_port P tn * T = ap (λ (k : ℕ). k * T) (own_pair P ((j + 2 * (i + 1 + 1)) / 2 % 2) tn (omega arith)) in
      record {
        few = omega arith;
        round = record { at_pair = d.round.next-pair; next-pair = omega (arith, d.round.at_pair, same, two) };
        done = rw es
            (record {
              seen = λ q u o.
                  tells_more
                  (λ e. let z = sums-right o x y rx.few ry.few s e in (z.0, pair-right P T tn (start + step * i) gap h.many d.round.at_pair other_at rx ry z.1 z.2))
                  (λ e a. let z = right-pair P T tn (start + step * i) gap h.many d.round.at_pair other_at rx ry a in
                  sums_none o x y rx.few ry.few s e z.0 z.1)
                  (d.done.seen q u o);
            });
      }
    where
      one-one : (k : ℕ) → k + 1 + 1 ≡ k + 2
      one-one k = omega arith

pub pairs_end :
    {P T gap j start step m at next i r : ℕ} {f : Form} {g : List ℕ} {s : Sums} → Pairs P T gap j start step m f g s at next i → m ≤ i → r ≡ told_by f s
    → PairsSeen P T gap j start step m f g r
pairs_end {P} {T} {gap} {j} {start} {step} {m} {i = i} {f = f} {g = g} {s = s} d l e =
    let z : i ≡ m = omega (arith, d.few) in rw e (subst (λ (x : ℕ). PairsSeen P T gap j start step x f g (told_by f s)) z d.done)

-- ---- pair i of them is that of two indices, whose places stand as the pair does
module _
    (place : ℕ → ℕ) (T gap j start step i : ℕ) (even : j % 2 ≡ 0) (first-at : place (j + 2 * i) ≡ start + step * i)
    (second_at : place (j + 2 * i + 1) ≡ start + step * i + gap) where
  abbrev k : ℕ
  k = j + 2 * i

  next : j + (2 * i + 1) ≡ k + 1
  next = omega arith

  half : (k + 1) / 2 ≡ k / 2
  half = omega arith

  after : partner_index k ≡ k + 1
  after = omega arith

  back : partner_index (k + 1) ≡ k
  back = omega arith

  first-even : k % 2 ≡ 0
  first-even = omega arith

  second-odd : (k + 1) % 2 ≡ 1
  second-odd = omega arith

  pub pair-indices : {P q u : ℕ} {g : List ℕ} → PairAt P T gap j start step q u g i → RightAt place P T q u g (j + 2 * i) × RightAt place P T q u g (j + (2 * i + 1))
  pair-indices p = (rw (after, first-even, first-at, second_at) p.0, rw (next, back, half, second-odd, first-at, second_at) p.1)

  pub indices-pair : {P q u : ℕ} {g : List ℕ} → RightAt place P T q u g (j + 2 * i) → RightAt place P T q u g (j + (2 * i + 1)) → PairAt P T gap j start step q u g i
  indices-pair v w = (rw (after, first-even, first-at, second_at) at v, rw (next, back, half, second-odd, first-at, second_at) at w)

-- of a channel that has the places `own`
module _ {own : ℕ → Bool} {T gap j start step m : ℕ} (a : PairsAt own T j start step gap m) (i : ℕ) (l : i < m) where
  first-own : nth own T (j + 2 * i) ≡ start + step * i
  first-own = ap (nth own T) (sym (a.even i l)) ∙ nth_of own T (start + step * i) (a.first i l) (omega (arith, a.within i l))

  second-own : nth own T (j + 2 * i + 1) ≡ start + step * i + gap
  second-own = ap (nth own T) (sym (a.odd i l)) ∙ nth_of own T (start + step * i + gap) (a.second i l) (a.within i l)

-- ---- a run, by its form
pub run-seen :
    {P T gap start step m j r : ℕ} {run : Run} {f : Form} {g : List ℕ} → RunIn P T j run g → RunPairs run gap start step m
    → PairsSeen P T gap j start step m f g r → RunSeen P T j run f g r
run-seen {T = T} {gap = gap} {start = start} {step = step} {j = j} h p d =
    record {
      seen = λ own q u laid o.
          let a = laid-pairs p laid in
          rw (run-total p)
          (tells_both
          (λ i l. pair-indices (nth own T) T gap j start step i h.even (first-own a i l) (second-own a i l))
          (λ i l. indices-pair (nth own T) T gap j start step i h.even (first-own a i l) (second-own a i l))
          (d.seen q u o));
    }
