-- THE LAWS OF PLACES ON ONE PORT: a stretch of a run's places between holes, a run by its holes, and one place or two written as one number.
-- Assumes nothing.
use Prim.Native.Nat.{ℕ, ◌+◌, ◌-◌, ◌*◌, ◌/◌, ◌≤◌, ◌<◌}
use mathlib.Core.Path.{◌≡◌, refl, sym, ap, ap₂, ◌∙◌}
use mathlib.Core.Bool.{Bool, true, false, ◌||◌}
use mathlib.Core.List.{List}
use native.Mathlib.Nat.{add-mul, one-mul, zero-mul, mul_comm, mul-le-mul}
use native.Mathlib.Omega.{arith}
use lib.Dec.{eqb}
use borrow.Author.Tests.{eqb-true}
use Rattle.base.proofs.Rows.{at-div}
use Rattle.base.specs.declared.Element.{Element}
use Rattle.precoding.specs.Places.{own_port, other_port}
use Rattle.base.specs.Counts.{cnt}
use Rattle.grid.specs.Writing.{Written}
use Rattle.grid.proofs.Writing.{same}
use Rattle.element_pairs.specs.Numbers.{element_from, upper, OnePut, TwoPut}
use Rattle.walk.specs.declared.Run.{Run}
use Rattle.walk.specs.declared.Holes.{Holes}
use Rattle.walk.specs.Runs.{run_count, place_at, Laid, PlacesAt}
use Rattle.walk.specs.Parts.{sent_part}
use Rattle.walk.specs.Forms.{HolesOf, Stretch, holed_place}
use Rattle.walk.specs.Addresses.{RunOpen, SinglesIn, HolesIn}
use Rattle.walk.proofs.Forms.{place-63}
use Rattle.walk.proofs.Runs.{within-at, six-count}
use Rattle.walk.proofs.Parts.{part-place, part_join}
use Rattle.walk.proofs.Pairs.{swap, pair-value}

-- ---- stretches
module _ {first lead each k at c : ℕ} (s : Stretch first lead each k at c) where
  -- the next c places are side by side
  pub stretch-at : (i : ℕ) → i < c → at + i ≡ holed_place first lead each (k + i)
  stretch-at i l =
      let e : k + i + (each - lead) ≡ s.holes * each + (each - c + i) = omega (arith, s.rest) in
      let d : (k + i + (each - lead)) / each ≡ s.holes = ap (λ (x : ℕ). x / each) e ∙ at-div s.holes each (each - c + i) (omega (arith, s.few)) in
      omega (arith, d, s.place)

  -- and after a hole the next stretch stands
  pub stretch-on : Stretch first lead each (k + c) (at + c + 1) each
  stretch-on =
      record {
        some = omega (arith, s.some, s.few);
        few = omega arith;
        holes = s.holes + 1;
        place = omega (arith, s.place);
        rest = omega (arith, s.rest, s.few, add-mul s.holes 1 each, one-mul each);
      }

pub stretch-lead : (first lead each : ℕ) → 0 < lead → lead ≤ each → Stretch first lead each 0 first lead
stretch-lead first lead each some few =
    record { some = some; few = few; holes = 0; place = omega arith; rest = omega (arith, zero-mul each) }

pub stretch-hole : (first lead each : ℕ) → lead ≡ 0 → 0 < each → Stretch first lead each 0 (first + 1) each
stretch-hole first lead each e some = record { some = some; few = omega arith; holes = 1; place = omega arith; rest = omega (arith, one-mul each, e) }

-- ---- places of a channel: some of them, and those of a run
pub places-as :
    {own : ℕ → Bool} {T j m n : ℕ} {e e' : ℕ → ℕ} (k : ℕ) → k + n ≤ m → ((i : ℕ) → i < n → e' i ≡ e (k + i)) → PlacesAt own T j m e
    → PlacesAt own T (j + k) n e'
places-as {own} k few here p =
    record {
      owned = λ i b. ap own (here i b) ∙ p.owned (k + i) (omega arith);
      index = λ i b. ap (cnt own) (here i b) ∙ p.index (k + i) (omega arith) ∙ (omega arith);
      within = λ i b. omega (arith, here i b, p.within (k + i) (omega arith));
    }

pub laid-places :
    {own : ℕ → Bool} {T j n : ℕ} {r : Run} {e : ℕ → ℕ} → n ≡ run_count r → ((k : ℕ) → e k ≡ r.first + place_at r.mask k) → Laid own T j r
    → PlacesAt own T j n e
laid-places {own} is here l =
    record {
      owned = λ i b. ap own (here i) ∙ l.owned i (omega (arith, is));
      index = λ i b. ap (cnt own) (here i) ∙ l.index i (omega (arith, is));
      within = λ i b. omega (arith, here i, l.within i (omega (arith, is)));
    }

-- ---- a run on one port, by its holes
pub holes-total : (r : Run) {h : Holes} → HolesOf r.mask h → r.halves ≤ 255 → (h.count * r.halves ≡ run_count r) × (h.count * r.halves ≤ 1530)
unfolding run_count
holes-total r {h} o short = (
  mul_comm h.count r.halves ∙ ap (λ (x : ℕ). r.halves * x) o.count,
  omega (arith, mul-le-mul {n₁ = h.count} {m₁ = r.halves} {n₂ = 6} {m₂ = 255} o.most short),
)

module _ {T j : ℕ} {r : Run} {grid : List ℕ} (s : RunOpen 1 T j r grid) {h : Holes} (o : HolesOf r.mask h) where
  pub holed-at : (h.each ≡ 0 → ⊥) → (k : ℕ) → holed_place r.first h.lead h.each k ≡ r.first + place_at r.mask k
  holed-at e k = ap (λ (x : ℕ). r.first + x) (sym ((o.holed e).place k))

  pub holes_in : (h.each ≡ 0 → ⊥) → HolesIn r.first h.lead h.each (h.count * r.halves) grid
  unfolding run_count
  holes_in e =
      record {
        early = (o.holed e).early;
        some = (o.holed e).some;
        from = omega (arith, s.before, s.room.fits);
        inside = λ k l.
            let a = within-at r.mask r.halves k (omega (arith, (holes-total r o s.short).0)) in
            (omega (arith, a, holed-at e k, s.inside, s.room.size), omega (arith, a, holed-at e k, s.inside, s.room.fits));
      }

  -- no hole
  pub six-at : h.each ≡ 0 → (k : ℕ) → r.first + k ≡ r.first + place_at r.mask k
  six-at e k = ap (λ (x : ℕ). r.first + x) (sym (ap (λ (m : ℕ). place_at m k) (o.whole e) ∙ place-63 k))

  pub six-total : h.each ≡ 0 → 2 * (3 * r.halves) ≡ run_count r
  six-total e = omega (arith, six-count r (o.whole e))

  pub doubles-in : SinglesIn r.first (2 * (3 * r.halves)) grid
  doubles-in = (omega (arith, s.inside, s.room.size), omega (arith, s.inside, s.room.fits))

-- ---- one place on one port, as one number
either : (b : Bool) → b || b ≡ b
either true = refl
either false = refl

module _ (own : ℕ → Bool) (T t j : ℕ) (l : t < T) (is : own t ≡ true) (at_j : cnt own t ≡ j) where
  one-part : (e : ℕ) → sent_part own 1 T j 1 e ≡ eqb t e
  unfolding other_port own_port
  one-part e = let z : 0 * T + t ≡ t = omega (arith, zero-mul T) in part-place own 1 T t j l is at_j e ∙ (rw z (either (eqb t e)))

  module _ (W : ℕ → Element) (v : ℕ) (w : W t ≡ element_from v) {a : ℕ} (ia : a ≡ 3 * t) where
    pub one_written : {g h : List ℕ} → OnePut a v g h → Written (sent_part own 1 T j 1) W g h
    one_written p = same (λ e. sym (one-part e)) (λ e d. sym w ∙ ap W (eqb-true t e d)) (p.written t ia)

-- ---- two places side by side, as one number
module _ (own : ℕ → Bool) (T t j : ℕ) (l : t + 1 < T) (first : own t ≡ true) (second : own (t + 1) ≡ true) (at_j : cnt own t ≡ j) (at_next : cnt own (t + 1) ≡ j + 1) where
  two-part : (e : ℕ) → eqb t e || eqb (t + 1) e ≡ sent_part own 1 T j 2 e
  two-part e =
      swap (eqb t e) (eqb (t + 1) e)
      ∙ sym
      (part_join own 1 T j 1 1 e
      ∙ ap₂ (λ (a b : Bool). a || b) (one-part own T (t + 1) (j + 1) l second at_next e) (one-part own T t j (omega arith) first at_j e))

  pub two-written :
      (W : ℕ → Element) (v : ℕ) → W t ≡ element_from v → W (t + 1) ≡ element_from (upper v) → {a : ℕ} → a ≡ 3 * t → {g h : List ℕ} → TwoPut 1 a v g h
      → Written (sent_part own 1 T j 2) W g h
  two-written W v w x ia p = same two-part (λ e d. pair-value W 1 _ _ t e w x d) (p.written t ia)
