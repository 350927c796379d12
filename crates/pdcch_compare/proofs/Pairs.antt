-- A QUAD'S TWO PAIRS, on two ports or four, on one, and by the quad's entry. Assumes that the quad is inside the grid.
use Prim.Native.Nat.{ℕ, zero, suc, ◌+◌, ◌*◌, ◌/◌, ◌%◌, ◌≤◌, ◌<◌}
use mathlib.Core.Path.{◌≡◌, refl, sym, ◌∙◌}
use mathlib.Core.List.{List}
use native.Mathlib.Nat.{mul-le-mul}
use native.Mathlib.Omega.{arith}
use lib.Bits.{bit_or}
use lib.Dec.{eqb}
use lib.ListN.{length}
use Rattle.base.proofs.Tests.{by-test}
use Rattle.element_pairs.specs.Numbers.{TwoRead}
use Rattle.walk.specs.Addresses.{PairsIn}
use Rattle.plan.specs.declared.Cell.{Cell}
use Rattle.places.specs.Places.{places_of}
use Rattle.data_compare.specs.declared.Form.{Form}
use Rattle.data_compare.specs.declared.Sums.{Sums}
use Rattle.data_compare.specs.declared.Starts.{Starts}
use Rattle.data_compare.specs.Tests.{FormOf, Tells, wrong_of, sums_with, told_by}
use Rattle.data_compare.specs.Places.{PairRight, PairAt, Starting, Pairs, PairsSeen}
use Rattle.data_compare.proofs.Telling.{tells_none, tells_more}
use Rattle.data_compare.proofs.Numbers.{wrong-both, both-wrong}
use Rattle.data_compare.proofs.OnePort.{one_place, place-one}
use Rattle.data_compare.proofs.Pairs.{pairs_start, pair_fits, pairs-on, pairs_end}
use Rattle.element_pairs.proofs.Puts.{or-none, none_or}
use Rattle.pdcch.specs.Groups.{gap_of}
use Rattle.pdcch_compare.specs.Quads.{step_of, entry_place, QuadIn, EntryIn, EntrySeen}

-- ---- on two ports or four
module _
    {P T gap start step : ℕ} (f : Form) {g : List ℕ} (h : PairsIn P T gap 0 start step 2 g) {p : Starts} (b : Starting P T 0 start step p)
    {none : Sums} (zf : none.fixed ≡ 0) (zs : none.same ≡ 0) (zb : none.bad ≡ 0) where
  first : Pairs P T gap 0 start step 2 f g none p.at p.next 0
  first = pairs_start b zf zs zb

  pub first_fits : (p.at + 3 * gap + 2 < length g) × (p.at + p.across + 3 * gap + 2 < length g) × (p.at ≤ 100800)
  first_fits = pair_fits h b first (omega arith)

  module _ {x y : ℕ} {s : Sums} (rx : TwoRead gap p.at g x) (ry : TwoRead gap (p.at + p.across) g y) (es : s ≡ sums_with f none x y) where
    second : Pairs P T gap 0 start step 2 f g s p.next (p.at + 6 * step) (0 + 1)
    second = pairs-on h b first (omega arith) rx ry es

    pub second_fits : (p.next + 3 * gap + 2 < length g) × (p.next + p.across + 3 * gap + 2 < length g) × (p.next ≤ 100800)
    second_fits = pair_fits h b second (omega arith)

    pub two-seen :
        {z w r : ℕ} {s' : Sums} → TwoRead gap p.next g z → TwoRead gap (p.next + p.across) g w → s' ≡ sums_with f s z w → r ≡ told_by f s'
        → PairsSeen P T gap 0 start step 2 f g r
    two-seen rz rw' es' er = pairs_end (pairs-on h b second (omega arith) rz rw' es') (omega arith) er

-- ---- on one port
module _ (T port_pair s gap : ℕ) {g : List ℕ} {q u : ℕ} {f : Form} (o : FormOf q u f) {a x : ℕ} (ia : a ≡ 3 * s) (rx : TwoRead gap a g x) where
  one_right : wrong_of f x ≡ 0 → PairRight 1 T port_pair q u g s (s + gap)
  one_right e =
      let w = wrong-both o x e in
      (one_place s (s + gap) (rw (rx.first s ia) w.0), one_place (s + gap) s (rw (rx.second s ia) w.1))

  right-one : PairRight 1 T port_pair q u g s (s + gap) → wrong_of f x ≡ 0
  right-one (v, w) = both-wrong o x (rw (rx.first s ia) at (place-one s (s + gap) v), rw (rx.second s ia) at (place-one (s + gap) s w))

pub one-port-seen :
    {P T gap start step x y a b r : ℕ} {f : Form} {g : List ℕ} → P ≡ 1 → TwoRead gap (3 * start) g x → TwoRead gap (3 * (start + step)) g y
    → a ≡ wrong_of f x → b ≡ wrong_of f y → r ≡ bit_or a b → PairsSeen P T gap 0 start step 2 f g r
one-port-seen {P} {T} {gap} {start} {step} {x} {y} {a} {b} {r} {f} {g} one rx ry ea eb er =
    rw (one, er)
    (record {
      seen = λ q u o.
          let s : start + step * 0 ≡ start = omega arith in
          let t : start + step * 1 ≡ start + step = omega arith in
          let A = PairAt 1 T gap 0 start step q u g in
          let first : Tells a 1 A =
          tells_more {r = 0} {n = 0} {A = A} (λ e. (refl, rw s (one_right T 0 start gap o refl rx (sym ea ∙ e)))) (λ e w. ea ∙ right-one T 0 start gap o refl rx (rw s at w)) tells_none in
          tells_more {r = a} {n = 1} {A = A}
          (λ e. let z = or-none a b e in (z.0, rw t (one_right T 1 (start + step) gap o refl ry (sym eb ∙ z.1))))
          (λ e w. none_or a b e (eb ∙ right-one T 1 (start + step) gap o refl ry (rw t at w)))
          first;
    })

pub quad-fits :
    {P T start step gap : ℕ} {g : List ℕ} → QuadIn P T start step gap g
    → (3 * start + 3 * gap + 2 < length g) × (3 * (start + step) + 3 * gap + 2 < length g) × (start + step ≤ 16800)
quad-fits {P} {T} h =
    let l : 1 * T ≤ P * T = mul-le-mul {n₁ = 1} {m₁ = T} {n₂ = P} {m₂ = T} h.room.some (omega arith) in
    (omega (arith, h.inside, h.room.size), omega (arith, h.inside, h.room.size), omega (arith, h.inside, h.room.fits))

-- ---- by the quad's entry
pub pairs-in : {P T gap start step : ℕ} {g : List ℕ} → QuadIn P T start step gap g → (P ≡ 1 → ⊥) → PairsIn P T gap 0 start step 2 g
pairs-in {P} {T} {gap} {start} {step} h n =
    record {
      room = h.room;
      many = many n;
      even = refl;
      index = omega arith;
      early = omega (arith, h.inside);
      short = h.short;
      inside = λ i l. omega (arith, h.inside, reach i l);
    }
  where
    many : (P ≡ 1 → ⊥) → 2 ≤ P
    many n = omega (arith, h.room.some)

    reach : (i : ℕ) → i < 2 → step * i ≤ step
    reach zero l = omega arith
    reach (suc zero) l = omega arith
    reach (suc (suc i)) l = absurd (omega arith)

pub gap-few : (c : Cell) (four : ℕ) → (1 ≤ gap_of c four) × (gap_of c four ≤ 2)
unfolding gap_of
gap-few c four =
    by-test (eqb four 1)
    (λ e. rw e (omega arith, omega arith))
    (λ e. rw e (by-test (eqb (c.identity % 3) 1) (λ d. rw d (omega arith, omega arith)) (λ d. rw d (omega arith, omega arith))))

pub last-place : (c : Cell) (x : ℕ) → entry_place c x 3 ≡ x / 2 + step_of (x % 2) + gap_of c (x % 2)
unfolding entry_place
last-place c x = omega arith

pub entry-quad : {c : Cell} {x T gap : ℕ} {g : List ℕ} → EntryIn c x g → T ≡ places_of c → gap ≡ gap_of c (x % 2) → QuadIn c.ports T (x / 2) (step_of (x % 2)) gap g
entry-quad {c} {x} h et eg =
    rw (et, eg) (record { room = h.room; short = omega arith; inside = omega (arith, h.inside, last-place c x) })

pub entry_seen :
    {c : Cell} {x T gap r : ℕ} {f : Form} {g : List ℕ} → T ≡ places_of c → gap ≡ gap_of c (x % 2)
    → PairsSeen c.ports T gap 0 (x / 2) (step_of (x % 2)) 2 f g r → EntrySeen c x f g r
entry_seen et eg s = record { pairs = rw (et, eg) at s }
