-- THE LAWS OF FILLING ONE PORT: one place or two more, one stretch more, and a run by its form. Assumes what a run needs.
use Prim.Native.Nat.{ℕ, ◌+◌, ◌-◌, ◌*◌, ◌/◌, ◌^◌, ◌≤◌, ◌<◌}
use mathlib.Core.Path.{◌≡◌, refl, sym, ap, ◌∙◌, subst}
use mathlib.Core.Bool.{Bool}
use mathlib.Core.List.{List}
use native.Mathlib.Omega.{arith}
use lib.ListN.{length}
use Rattle.base.specs.Counts.{cnt}
use Rattle.gold.specs.declared.Registers.{Registers}
use Rattle.codeword.specs.declared.ScrambledBits.{ScrambledBits}
use Rattle.codeword.specs.Streams.{symbols_of}
use Rattle.codeword.specs.Bits48.{Standing, CanTake, Takes}
use Rattle.codeword.proofs.Orders.{single-groups, double-groups}
use Rattle.codeword.proofs.Taking.{symbol-is}
use Rattle.grid.specs.Writing.{Written}
use Rattle.element_pairs.specs.Numbers.{element_from, upper, OnePut, TwoPut}
use Rattle.constellation.specs.Pairs.{joint_of}
use Rattle.walk.specs.declared.Run.{Run}
use Rattle.walk.specs.Addresses.{SinglesIn, HolesIn}
use Rattle.walk.specs.Runs.{run_count, place_at, PlacesAt}
use Rattle.walk.specs.Parts.{sent_part}
use Rattle.walk.specs.Forms.{Stretch}
use Rattle.walk.proofs.Pairs.{written_none, written-join}
use Rattle.walk.proofs.Singles.{one_written, two-written, places-as, laid-places}
use Rattle.areas.specs.Tables.{Smaller}
use Rattle.areas.proofs.Stretches.{stretches-start, stretch-here, stretch-in, stretches-on}
use Rattle.data_write.specs.Sent.{sent_element, TableOf, Sending, entry_of}
use Rattle.data_write.specs.Pairs.{RunFilled}
use Rattle.data_write.specs.OnePort.{PlacesDone, SingleRounds, Stretches}
use Rattle.data_write.proofs.Source.{stands_on, can-take, two-symbols, single-has, double-first, double-second}

-- ---- none yet, and all
module _ {j n : ℕ} {e : ℕ → ℕ} {q : ℕ} {t bits : List ℕ} {st : ScrambledBits} {before : List ℕ} where
  none-placed : PlacesDone j n e 0 q t bits st before st before
  none-placed =
      record {
        size = refl;
        stands = λ r s. let z : j ≡ j + 0 = omega arith in subst (λ (x : ℕ). Standing q bits r (q * x) st) z s;
        done = λ own T unit r tb s a. written_none own 1 T (sent_element own 1 T unit (symbols_of q bits r)) j before;
      }

  pub all_placed : {i : ℕ} {st' : ScrambledBits} {after : List ℕ} → i ≤ n → n ≤ i → PlacesDone j n e i q t bits st before st' after → PlacesDone j n e n q t bits st before st' after
  all_placed {i} {st'} {after} few l d = let z : i ≡ n = omega arith in subst (λ (x : ℕ). PlacesDone j n e x q t bits st before st' after) z d

pub singles-start : {j start n each q : ℕ} {t bits : List ℕ} {st : ScrambledBits} {before : List ℕ} → SingleRounds j start n each q t bits st before (3 * start) 0 st before
singles-start {j} {start} {n} {each} {q} {t} {bits} {st} {before} =
    let e : 0 ≡ each * 0 = omega arith in
    record {
      rounds = omega arith;
      place = omega arith;
      done = subst (λ (x : ℕ). PlacesDone j (each * n) (◌+◌ start) x q t bits st before st before) e none-placed;
    }

-- the byte in another form
pub singles-at :
    {j start n each q : ℕ} {t bits : List ℕ} {st : ScrambledBits} {before : List ℕ} {at at' i : ℕ} {st' : ScrambledBits} {grid : List ℕ} → at' ≡ at
    → SingleRounds j start n each q t bits st before at i st' grid → SingleRounds j start n each q t bits st before at' i st' grid
singles-at e d = record { rounds = d.rounds; place = e ∙ d.place; done = d.done }

-- ---- one place in each round
module _
    {j start n q : ℕ} {t bits : List ℕ} {st : ScrambledBits} {before : List ℕ} (h : SinglesIn start n before × (j + n ≤ 16800) × Sending q q j t bits st)
    {at i : ℕ} {st' : ScrambledBits} {grid : List ℕ}
    (d : SingleRounds j start n 1 q t bits st before at i st' grid) (l : i < n) where
  pub single-takes : CanTake q bits st'
  single-takes = can-take {j = j + 1 * i} (single-groups q h.2.order) h.2.order (omega (arith, h.1)) (d.done.stands h.2.pair h.2.standing)

  pub single-fits : (at + 2 < length grid) × (at ≤ 50400)
  single-fits = (omega (arith, d.place, h.0.0, d.done.size), omega (arith, d.place, h.0.1))

  pub singles-on :
      {z v : ℕ} {st'' : ScrambledBits} {k : List ℕ} → Takes q bits st' z st'' → v ≡ entry_of t z → length k ≡ length grid → OnePut at v grid k
      → SingleRounds j start n 1 q t bits st before (at + 3) (i + 1) st'' k
  singles-on {z} {v} {st''} {k} tk ev same p =
      record {
        rounds = omega arith;
        place = omega (arith, d.place);
        done = record { size = same ∙ d.done.size; stands = λ r g. on r g; done = λ own T unit r tb g a. all own T unit r tb g a };
      }
    where
      on : (r : Registers) → Standing q bits r (q * j) st → Standing q bits r (q * (j + 1 * (i + 1))) st''
      on r g =
          let e : q * (j + 1 * i) + 1 * q ≡ q * (j + 1 * i) + q = omega arith in
          subst (λ (c : ℕ). Standing q bits r c st'') (sym e ∙ stands_on q (j + 1 * i) 1 (j + 1 * (i + 1)) (omega arith))
          (tk.goes q r (q * (j + 1 * i)) (single-groups q h.2.order) (d.done.stands r g)).1

      all :
          (own : ℕ → Bool) (T unit : ℕ) (r : Registers) → TableOf 1 q unit t → Standing q bits r (q * j) st → PlacesAt own T j (1 * n) (◌+◌ start)
          → Written (sent_part own 1 T j (1 * (i + 1))) (sent_element own 1 T unit (symbols_of q bits r)) before k
      all own T unit r tb g a =
          let e : 1 * i + 1 ≡ 1 * (i + 1) = omega arith in
          let m : 1 * i < 1 * n = omega arith in
          let held = (tk.goes q r (q * (j + 1 * i)) (single-groups q h.2.order) (d.done.stands r g)).0 in
          subst (λ (x : ℕ). Written (sent_part own 1 T j x) (sent_element own 1 T unit (symbols_of q bits r)) before k) e
          (written-join own 1 T (sent_element own 1 T unit (symbols_of q bits r)) j (1 * i) 1 (d.done.done own T unit r tb g a)
          (one_written own T (start + 1 * i) (j + 1 * i) (a.within (1 * i) m) (a.owned (1 * i) m) (a.index (1 * i) m)
          (sent_element own 1 T unit (symbols_of q bits r)) v
          (single-has own T unit (symbols_of q bits r) tb h.2.order (start + 1 * i) (j + 1 * i) z (a.within (1 * i) m) (a.index (1 * i) m)
          (symbol-is bits r q (j + 1 * i) z held) ∙ ap element_from (sym ev))
          d.place p))

pub singles-end :
    {j start n q at i : ℕ} {t bits : List ℕ} {st : ScrambledBits} {before : List ℕ} {st' : ScrambledBits} {grid : List ℕ} → SingleRounds j start n 1 q t bits st before at i st' grid → n ≤ i
    → PlacesDone j n (◌+◌ start) n q t bits st before st' grid
singles-end {j} {start} {n} {q} {t = t} {bits} {st} {before} {st'} {grid} d l =
    let e : 1 * n ≡ n = omega arith in
    subst (λ (x : ℕ). PlacesDone j x (◌+◌ start) x q t bits st before st' grid) e (all_placed (omega (arith, d.rounds)) (omega arith) d.done)

-- ---- two
module _
    {j start n q : ℕ} {t bits : List ℕ} {st : ScrambledBits} {before : List ℕ} (h : SinglesIn start (2 * n) before × (j + 2 * n ≤ 16800) × Sending q q j t bits st)
    {at i : ℕ} {st' : ScrambledBits} {grid : List ℕ}
    (d : SingleRounds j start n 2 q t bits st before at i st' grid) (l : i < n) where
  pub double-takes : CanTake (2 * q) bits st'
  double-takes = can-take {j = j + 2 * i} (double-groups q h.2.order) h.2.order (omega (arith, h.1)) (d.done.stands h.2.pair h.2.standing)

  pub double-fits : (at + 5 < length grid) × (at ≤ 50400)
  double-fits = (omega (arith, d.place, h.0.0, d.done.size), omega (arith, d.place, h.0.1))

  pub doubles-on :
      {z v : ℕ} {st'' : ScrambledBits} {k : List ℕ} → Takes (2 * q) bits st' z st'' → v ≡ joint_of (entry_of t (z / 2 ^ q)) (entry_of t z) → length k ≡ length grid
      → TwoPut 1 at v grid k → SingleRounds j start n 2 q t bits st before (at + 6) (i + 1) st'' k
  doubles-on {z} {v} {st''} {k} tk ev same p =
      record {
        rounds = omega arith;
        place = omega (arith, d.place);
        done = record { size = same ∙ d.done.size; stands = λ r g. on r g; done = λ own T unit r tb g a. all own T unit r tb g a };
      }
    where
      on : (r : Registers) → Standing q bits r (q * j) st → Standing q bits r (q * (j + 2 * (i + 1))) st''
      on r g =
          subst (λ (c : ℕ). Standing q bits r c st'') (stands_on q (j + 2 * i) 2 (j + 2 * (i + 1)) (omega arith))
          (tk.goes q r (q * (j + 2 * i)) (double-groups q h.2.order) (d.done.stands r g)).1

      all :
          (own : ℕ → Bool) (T unit : ℕ) (r : Registers) → TableOf 1 q unit t → Standing q bits r (q * j) st → PlacesAt own T j (2 * n) (◌+◌ start)
          → Written (sent_part own 1 T j (2 * (i + 1))) (sent_element own 1 T unit (symbols_of q bits r)) before k
      all own T unit r tb g a =
          let e : 2 * i + 2 ≡ 2 * (i + 1) = omega arith in
          let x : start + (2 * i + 1) ≡ start + 2 * i + 1 = omega arith in
          let y : j + (2 * i + 1) ≡ j + 2 * i + 1 = omega arith in
          let m : 2 * i < 2 * n = omega arith in
          let m' : 2 * i + 1 < 2 * n = omega arith in
          let held = (tk.goes q r (q * (j + 2 * i)) (double-groups q h.2.order) (d.done.stands r g)).0 in
          let sy = two-symbols bits r q (j + 2 * i) z held in
          let within : start + 2 * i + 1 < T = omega (arith, a.within (2 * i + 1) m') in
          let index : cnt own (start + 2 * i + 1) ≡ j + 2 * i + 1 = ap (cnt own) (sym x) ∙ a.index (2 * i + 1) m' ∙ y in
          subst (λ (c : ℕ). Written (sent_part own 1 T j c) (sent_element own 1 T unit (symbols_of q bits r)) before k) e
          (written-join own 1 T (sent_element own 1 T unit (symbols_of q bits r)) j (2 * i) 2 (d.done.done own T unit r tb g a)
          (two-written own T (start + 2 * i) (j + 2 * i) within (a.owned (2 * i) m) (ap own (sym x) ∙ a.owned (2 * i + 1) m') (a.index (2 * i) m) index
          (sent_element own 1 T unit (symbols_of q bits r)) v
          (double-first own T unit (symbols_of q bits r) tb h.2.order (start + 2 * i) (j + 2 * i) (z / 2 ^ q) z (a.within (2 * i) m) (a.index (2 * i) m)
          sy.first ∙ ap element_from (sym ev))
          (double-second own T unit (symbols_of q bits r) tb h.2.order (start + 2 * i + 1) (j + 2 * i + 1) (z / 2 ^ q) z within index
          sy.second ∙ ap (λ (c : ℕ). element_from (upper c)) (sym ev))
          d.place p))

pub doubles-end :
    {j start n q at i : ℕ} {t bits : List ℕ} {st : ScrambledBits} {before : List ℕ} {st' : ScrambledBits} {grid : List ℕ} → SingleRounds j start n 2 q t bits st before at i st' grid → n ≤ i
    → PlacesDone j (2 * n) (◌+◌ start) (2 * n) q t bits st before st' grid
doubles-end d l = all_placed (omega (arith, d.rounds)) (omega arith) d.done

-- ---- stretches
pub holes-start :
    {j first lead each total q start c : ℕ} {t bits : List ℕ} {st : ScrambledBits} {before : List ℕ} → Stretch first lead each 0 start c
    → Stretches j first lead each total q t bits st before start c 0 st before
holes-start s = record { stretches = stretches-start s; done = none-placed }

module _
    {j first lead each total q at left k n : ℕ} {t bits : List ℕ} {st : ScrambledBits} {before : List ℕ} {st' : ScrambledBits} {grid : List ℕ} (h : HolesIn first lead each total before)
    (d : Stretches j first lead each total q t bits st before at left k st' grid) (l : k < total) (m : Smaller left (total - k) n) where
  pub holes-next : SinglesIn at n grid
  holes-next = let s = stretch-in d.stretches l m h in (omega (arith, s.0, d.done.size), s.1)

  pub holes-on :
      {st'' : ScrambledBits} {g : List ℕ} → PlacesDone (j + k) n (◌+◌ at) n q t bits st' grid st'' g
      → Stretches j first lead each total q t bits st before (at + (n + 1)) each (k + n) st'' g
  holes-on {st''} s =
      record {
        stretches = stretches-on d.stretches l m;
        done =
            record {
              size = s.size ∙ d.done.size;
              stands = λ r c.
                  let e : j + k + n ≡ j + (k + n) = omega arith in
                  subst (λ (x : ℕ). Standing q bits r (q * x) st'') e (s.stands r (d.done.stands r c));
              done = λ own T unit r tb c a.
                  written-join own 1 T (sent_element own 1 T unit (symbols_of q bits r)) j k n (d.done.done own T unit r tb c a)
                  (s.done own T unit r tb (d.done.stands r c) (places-as k (omega (arith, m.second)) (stretch-here d.stretches l m) a));
            };
      }

-- ---- a run on one port
pub single-filled :
    {T j n q next : ℕ} {run : Run} {e : ℕ → ℕ} {t bits : List ℕ} {st : ScrambledBits} {grid : List ℕ} {st' : ScrambledBits} {after : List ℕ}
    → n ≡ run_count run → ((k : ℕ) → e k ≡ run.first + place_at run.mask k)
    → next ≡ run_count run → PlacesDone j n e n q t bits st grid st' after → RunFilled q 1 T j run q t bits st grid (j + next) st' after
single-filled {T} {j} is at last d =
    record {
      next-index = ap (λ (x : ℕ). j + x) last;
      size = d.size;
      stands = λ r c. rw (← is) (d.stands r c);
      filled = λ own unit r tb c l. rw (← is) (d.done own T unit r tb c (laid-places is at l));
    }
