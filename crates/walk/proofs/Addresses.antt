-- Where the two ports of a channel's pairs begin: laws on plain numbers. Assumes nothing.
use Prim.Native.Nat.{ℕ, ◌+◌, ◌*◌, ◌/◌, ◌%◌, ◌≤◌, ◌<◌}
use mathlib.Core.Path.{◌≡◌, sym, ap, ◌∙◌, subst}
use mathlib.Core.Bool.{Bool, true, false, cond}
use mathlib.Core.List.{List}
use native.Mathlib.Nat.{add-mul, mul-le-mul, mul-add, mul-zero}
use native.Mathlib.Omega.{arith}
use lib.Dec.{eqb}
use lib.ListN.{length}
use mir.Syntax.{w64}
use mir.Val.{Fits}
use Rattle.precoding.specs.Places.{own_port, other_port}
use Rattle.grid.specs.Writing.{Room}
use Rattle.grid.proofs.Sending.{own-lt, other-lt, element-fits}
use Rattle.walk.specs.declared.PortOffsets.{PortOffsets}
use Rattle.walk.specs.declared.Run.{Run}
use Rattle.walk.specs.Runs.{run_count, Laid, PairsAt}
use Rattle.walk.proofs.Forms.{six-pairs, left-pairs, right-pairs, apart-pairs}
use Rattle.walk.proofs.Runs.{pair_inside, pair-count, pairs_of}
use Rattle.walk.specs.Addresses.{OffsetsAt, PairsIn, PairsFit, RunPairs, RoundAt, RunIn, RunOpen}

pub own_pair : (P x y : ℕ) → x % 2 ≡ y % 2 → own_port P x ≡ own_port P y
unfolding own_port
own_pair P x y e = ap (λ (z : ℕ). cond (eqb P 4) z 0) e

pub own-few : (P port_pair : ℕ) → own_port P port_pair ≤ 1
unfolding own_port
own-few P port_pair = pick (eqb P 4)
  where
    pick : (b : Bool) → cond b (port_pair % 2) 0 ≤ 1
    pick true = omega arith
    pick false = omega arith

pub offsets-made :
    (P T j a b c : ℕ) → a ≡ own_port P (j / 2 % 2) → b ≡ own_port P (j / 2 % 2 + 1) → c ≡ P / 2
    → OffsetsAt P T j (record { own = a * T; next = b * T; across = c * T })
unfolding other_port
offsets-made P T j a b c x y z =
    let t : (j / 2 % 2 + 1) % 2 ≡ (j + 2) / 2 % 2 % 2 = omega arith in
    record {
      own = ap (λ (q : ℕ). q * T) x;
      next = ap (λ (q : ℕ). q * T) (y ∙ own_pair P (j / 2 % 2 + 1) ((j + 2) / 2 % 2) t);
      across = λ port_pair. ap (λ (q : ℕ). own_port P port_pair * T + q * T) z ∙ sym (add-mul (own_port P port_pair) (P / 2) T);
    }

-- the pair at index j + 2i
pub same-own : (P j i : ℕ) → own_port P ((j + 2 * (2 * i)) / 2 % 2) ≡ own_port P (j / 2 % 2)
same-own P j i = own_pair P ((j + 2 * (2 * i)) / 2 % 2) (j / 2 % 2) (omega arith)

pub next-own : (P j i : ℕ) → own_port P ((j + 2 * (2 * i + 1)) / 2 % 2) ≡ own_port P ((j + 2) / 2 % 2)
next-own P j i = own_pair P ((j + 2 * (2 * i + 1)) / 2 % 2) ((j + 2) / 2 % 2) (omega arith)

pub steps_on : (step x : ℕ) → step * (2 * (x + 1)) ≡ step * (2 * x) + 2 * step
steps_on step x = let e : 2 * (x + 1) ≡ 2 * x + 2 = omega arith in ap (λ (y : ℕ). step * y) e ∙ mul-add step (2 * x) 2 ∙ (omega arith)

pub step-next : (step x : ℕ) → step * (2 * x + 1) ≡ step * (2 * x) + step
step-next step x = mul-add step (2 * x) 1 ∙ (omega arith)

-- its elements are in the grid
module _ {P T gap j start step m : ℕ} {grid : List ℕ} (h : PairsIn P T gap j start step m grid) where
  pub own-inside : (port_pair i : ℕ) → i < m → 3 * (own_port P port_pair * T + (start + step * i)) + 3 * gap + 2 < length grid
  own-inside port_pair i l = omega (arith, (element-fits h.room (own_port P port_pair) (start + step * i + gap) (own-lt h.room port_pair) (h.inside i l)).2)

  pub other-inside : (port_pair i : ℕ) → i < m → 3 * (other_port P port_pair * T + (start + step * i)) + 3 * gap + 2 < length grid
  other-inside port_pair i l = omega (arith, (element-fits h.room (other_port P port_pair) (start + step * i + gap) (other-lt h.room port_pair) (h.inside i l)).2)

  pub own-most : (port_pair : ℕ) → own_port P port_pair * T ≤ 16800
  own-most port_pair = omega (arith, mul-le-mul {n₁ = own_port P port_pair} {m₁ = T} {n₂ = 1} {m₂ = 16800} (own-few P port_pair) h.room.fits)

  pub across-most : {r : PortOffsets} → OffsetsAt P T j r → r.across ≤ 67200
  across-most {r} p =
      omega
      (arith, p.across 0, mul-le-mul {n₁ = other_port P 0} {m₁ = T} {n₂ = 4} {m₂ = 16800} (omega (arith, other-lt h.room 0, h.room.most)) h.room.fits)

  -- all numbers are small
  pub offsets-small : {r : PortOffsets} → OffsetsAt P T j r → (r.own ≤ 16800) × (r.next ≤ 16800) × (r.across ≤ 67200) × (start ≤ 16800) × (step ≤ 3)
  offsets-small p =
      (omega (arith, p.own, own-most (j / 2 % 2)), omega (arith, p.next, own-most ((j + 2) / 2 % 2)), across-most p, omega (arith, h.early, h.room.fits), h.short)

pub port-fits : (a T : ℕ) → a ≤ 255 → T ≤ 16800 → Fits w64 (a * T)
port-fits a T h l = record { fits = omega (arith, mul-le-mul {n₁ = a} {m₁ = T} {n₂ = 255} {m₂ = 16800} h l) }

-- ---- a part of the pairs
pub room-later : {P T : ℕ} {f g : List ℕ} → length g ≡ length f → Room P T f → Room P T g
room-later e r = record { some = r.some; most = r.most; not_three = r.not_three; fits = r.fits; size = e ∙ r.size }

pub later-in :
    {P T gap j start step m j' start' : ℕ} {f g : List ℕ} (n k : ℕ) → length g ≡ length f → n + k ≤ m → 0 < k → j' ≡ j + 2 * n → start' ≡ start + step * n
    → PairsIn P T gap j start step m f → PairsIn P T gap j' start' step k g
later-in {step = step} n k z l s ej es h =
    record {
      room = room-later z h.room;
      many = h.many;
      even = omega (arith, h.even);
      index = omega (arith, h.index);
      early = omega (arith, h.inside n (omega arith));
      short = h.short;
      inside = λ i b. omega (arith, h.inside (n + i) (omega arith), mul-add step n i);
    }

pub fewer-in : {P T gap j start step m : ℕ} {f : List ℕ} (n : ℕ) → n ≤ m → PairsIn P T gap j start step m f → PairsIn P T gap j start step n f
fewer-in n l h =
    record {
      room = h.room;
      many = h.many;
      even = h.even;
      index = omega (arith, h.index);
      early = h.early;
      short = h.short;
      inside = λ i b. h.inside i (omega arith);
    }

-- half blocks with all six open: twice as many pairs as rounds, and one more where their number is odd
module _ (halves : ℕ) {P T j first : ℕ} {grid : List ℕ} (h : PairsIn P T 1 j first 2 (3 * halves) grid) where
  pub sixes-rounds : PairsIn P T 1 j first 2 (2 * (3 * halves / 2)) grid
  sixes-rounds = fewer-in (2 * (3 * halves / 2)) (omega arith) h

  pub sixes-last :
      {after : List ℕ} → length after ≡ length grid → 3 * halves % 2 ≡ 1 → PairsIn P T 1 (j + 4 * (3 * halves / 2)) (first + 4 * (3 * halves / 2)) 2 1 after
  sixes-last z e = later-in (2 * (3 * halves / 2)) 1 z (omega arith) (omega arith) (omega arith) (omega arith) h

pub sixes-all : (halves : ℕ) → (3 * halves % 2 ≡ 1 → ⊥) → 2 * (3 * halves / 2) ≡ 3 * halves
sixes-all halves e = omega arith

-- ---- one pair
pub one-fits :
    {P T j start : ℕ} {grid : List ℕ} {r : PortOffsets} → PairsIn P T 1 j start 2 1 grid → OffsetsAt P T j r → 3 * (r.own + start) + 3 * r.across + 5 < length grid
one-fits {j = j} h p = omega (arith, p.own, p.across (j / 2 % 2), other-inside h (j / 2 % 2) 0 (omega arith))

-- ---- rounds of two pairs
pub pairs-fit : {P T gap j start step m : ℕ} {grid : List ℕ} → PairsIn P T gap j start step m grid → PairsFit P T j start step
pairs-fit {gap = gap} {m = m} {grid} h = record { gap = gap; pairs = m; grid = grid; inside = h }

module _ {P T gap j start step n : ℕ} {grid : List ℕ} (h : PairsIn P T gap j start step (2 * n) grid) {r : PortOffsets} (p : OffsetsAt P T j r) where
  pub rounds-start : RoundAt P T j start step n (3 * (r.own + start)) (3 * (r.next + start + step)) 0
  rounds-start =
      record {
        rounds = omega arith;
        at_pair = let z : step * (2 * 0) ≡ 0 = mul-zero step in omega (arith, p.own);
        next-pair = let z : step * (2 * 0 + 1) ≡ step = omega arith in omega (arith, p.next);
      }

  module _ {at next i : ℕ} (t : RoundAt P T j start step n at next i) (l : i < n) where
    own-at : own_port P ((j + 2 * (2 * i)) / 2 % 2) * T ≡ own_port P (j / 2 % 2) * T
    own-at = ap (λ (x : ℕ). x * T) (same-own P j i)

    own-next : own_port P ((j + 2 * (2 * i + 1)) / 2 % 2) * T ≡ own_port P ((j + 2) / 2 % 2) * T
    own-next = ap (λ (x : ℕ). x * T) (next-own P j i)

    -- the four addresses
    pub at_own : at ≡ 3 * (own_port P ((j + 2 * (2 * i)) / 2 % 2) * T + (start + step * (2 * i)))
    at_own = omega (arith, t.at_pair, own-at)

    pub at_other : at + 3 * r.across ≡ 3 * (other_port P ((j + 2 * (2 * i)) / 2 % 2) * T + (start + step * (2 * i)))
    at_other = omega (arith, t.at_pair, own-at, p.across ((j + 2 * (2 * i)) / 2 % 2))

    pub next-at : next ≡ 3 * (own_port P ((j + 2 * (2 * i + 1)) / 2 % 2) * T + (start + step * (2 * i + 1)))
    next-at = omega (arith, t.next-pair, own-next)

    pub next-other : next + 3 * r.across ≡ 3 * (other_port P ((j + 2 * (2 * i + 1)) / 2 % 2) * T + (start + step * (2 * i + 1)))
    next-other = omega (arith, t.next-pair, own-next, p.across ((j + 2 * (2 * i + 1)) / 2 % 2))

    -- are inside the grid
    pub fits-at : at + 3 * r.across + 3 * gap + 2 < length grid
    fits-at = omega (arith, at_other, other-inside h ((j + 2 * (2 * i)) / 2 % 2) (2 * i) (omega arith))

    pub fits_next : next + 3 * r.across + 3 * gap + 2 < length grid
    fits_next = omega (arith, next-other, other-inside h ((j + 2 * (2 * i + 1)) / 2 % 2) (2 * i + 1) (omega arith))

    pub round-small : (at ≤ 100800) × (next ≤ 100800)
    round-small = (
      omega (arith, t.at_pair, own-most h (j / 2 % 2), h.inside (2 * i) (omega arith), h.room.fits),
      omega (arith, t.next-pair, own-most h ((j + 2) / 2 % 2), h.inside (2 * i + 1) (omega arith), h.room.fits),
    )

    -- and the next round stands
    pub rounds-on : RoundAt P T j start step n (at + 6 * step) (next + 6 * step) (i + 1)
    rounds-on =
        record {
          rounds = omega arith;
          at_pair = omega (arith, t.at_pair, steps_on step i);
          next-pair = omega (arith, t.next-pair, step-next step i, step-next step (i + 1), steps_on step i);
        }

-- ---- the pairs of a run, by its form
module _ (r : Run) where
  pub six-run : r.mask ≡ 63 → RunPairs r 1 r.first 2 (3 * r.halves)
  six-run e = record { off = 0; per = 3; paired = six-pairs e; short = omega arith; near = omega arith; count = omega arith; place = omega arith }

  pub left-run : r.mask ≡ 27 → RunPairs r 1 r.first 3 (2 * r.halves)
  left-run e = record { off = 0; per = 2; paired = left-pairs e; short = omega arith; near = omega arith; count = omega arith; place = omega arith }

  pub right-run : r.mask ≡ 54 → RunPairs r 1 (r.first + 1) 3 (2 * r.halves)
  right-run e = record { off = 1; per = 2; paired = right-pairs e; short = omega arith; near = omega arith; count = omega arith; place = omega arith }

  pub apart-run : r.mask ≡ 45 → RunPairs r 2 r.first 3 (2 * r.halves)
  apart-run e = record { off = 0; per = 2; paired = apart-pairs e; short = omega arith; near = omega arith; count = omega arith; place = omega arith }

module _ {r : Run} {gap start step m : ℕ} (p : RunPairs r gap start step m) where
  pub run-total : run_count r ≡ 2 * m
  unfolding run_count
  run-total = pair-count r.mask r.halves p.paired ∙ ap (λ (x : ℕ). 2 * x) (sym p.count)

  pub laid-pairs : {own : ℕ → Bool} {T j : ℕ} → Laid own T j r → PairsAt own T j start step gap m
  laid-pairs l = rw (p.count, p.place) (pairs_of l p.paired)

  -- a run of no half blocks at its row's end may start at the last place
  pub run_in : {P T j : ℕ} {grid : List ℕ} → RunIn P T j r grid → PairsIn P T gap j start step m grid
  run_in h =
      record {
        room = h.room;
        many = h.many;
        even = h.even;
        index = omega (arith, h.index, run-total);
        early = omega (arith, h.before, p.near, p.place);
        short = p.short;
        inside = λ i l. omega (arith, h.inside, p.place, pair_inside r.mask r.halves p.paired i (omega (arith, p.count)));
      }

pub run_small : {P T j : ℕ} {r : Run} {grid : List ℕ} → RunIn P T j r grid → (r.first + 6 * r.halves ≤ 16800) × (r.first < 16800) × (j ≤ 16800)
run_small h = (omega (arith, h.inside, h.room.fits), omega (arith, h.before, h.room.fits), omega (arith, h.index))

-- ---- a run on one port, and on two or four
module _ {P T j : ℕ} {r : Run} {grid : List ℕ} (s : RunOpen P T j r grid) where
  pub open-one : P ≡ 1 → RunOpen 1 T j r grid
  open-one e = subst (λ (x : ℕ). RunOpen x T j r grid) e s

  pub open-pairs : (P ≡ 1 → ⊥) → RunIn P T j r grid
  open-pairs n =
      let many : 2 ≤ P = several n in
      record { room = s.room; many = many; even = s.even many; before = s.before; inside = s.inside; form = s.pairs many; index = s.index }
    where
      several : (P ≡ 1 → ⊥) → 2 ≤ P
      several n = omega (arith, s.room.some)
