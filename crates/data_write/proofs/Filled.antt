-- THE LAWS OF FILLING RUNS OF PAIRS: one pair, pairs after pairs, and a run by its form. Assumes what a run needs.
use Prim.Native.Nat.{ℕ, ◌+◌, ◌*◌, ◌/◌, ◌%◌, ◌^◌}
use mathlib.Core.Path.{◌≡◌, sym, ◌∙◌, subst}
use mathlib.Core.List.{List}
use native.Mathlib.Omega.{arith}
use Rattle.gold.specs.declared.Registers.{Registers}
use Rattle.codeword.specs.declared.ScrambledBits.{ScrambledBits}
use Rattle.codeword.specs.Streams.{symbols_of}
use Rattle.codeword.specs.Bits48.{Standing, CanTake, Takes}
use Rattle.codeword.proofs.Orders.{pair-groups}
use Rattle.grid.specs.Writing.{Written}
use Rattle.element_pairs.specs.Numbers.{PairPut}
use Rattle.walk.specs.declared.PortOffsets.{PortOffsets}
use Rattle.walk.specs.declared.Run.{Run}
use Rattle.walk.specs.Runs.{PairsAt}
use Rattle.walk.specs.Parts.{sent_part}
use Rattle.walk.specs.Addresses.{OffsetsAt, PairsIn, RunPairs}
use Rattle.walk.proofs.Runs.{pairs-fewer, pairs-later}
use Rattle.walk.proofs.Pairs.{written-join}
use Rattle.walk.proofs.Addresses.{run-total, laid-pairs, sixes-all}
use Rattle.data_write.specs.Sent.{sent_element, Sending, FromTable}
use Rattle.data_write.specs.Pairs.{PairsDone, RunFilled}
use Rattle.data_write.proofs.Source.{stands_on, can-take, two-symbols}
use Rattle.data_write.proofs.Rounds.{pair-filled}

-- ---- one pair
module _
    {P T j start q : ℕ} {t bits : List ℕ} {st : ScrambledBits} {grid : List ℕ} (h : PairsIn P T 1 j start 2 1 grid) (s : Sending (2 * q) q j t bits st) {r : PortOffsets}
    (p : OffsetsAt P T j r) where
  pub one-takes : CanTake (2 * q) bits st
  one-takes = can-take {j = j} (pair-groups q s.order) s.order (omega (arith, h.index)) s.standing

  pub one-done :
      {z v u : ℕ} {st' : ScrambledBits} {after : List ℕ} → Takes (2 * q) bits st z st' → FromTable t (z / 2 ^ q) z v u
      → PairPut 1 (3 * (r.own + start)) (3 * r.across) v u grid after → PairsDone P T 1 j start 2 1 1 q t bits st grid st' after
  one-done {z} {v} {u} {st'} {after} tk x a =
      record {
        size = a.size;
        stands = λ reg g.
            subst (λ (c : ℕ). Standing (2 * q) bits reg c st') (stands_on q j 2 (j + 2 * 1) (omega arith))
            (tk.goes (2 * q) reg (q * j) (pair-groups q s.order) g).1;
        done = λ own unit reg tb g pa.
            let e : j + 2 * 0 ≡ j = omega arith in
            let held = (tk.goes (2 * q) reg (q * j) (pair-groups q s.order) g).0 in
            subst (λ (c : ℕ). Written (sent_part own P T c 2) (sent_element own P T unit (symbols_of q bits reg)) grid after) e
            (pair-filled h own tb s.order pa 0 (omega arith) (rw e (omega (arith, p.own))) (rw e (omega (arith, p.own, p.across (j / 2 % 2))))
            (rw e (two-symbols bits reg q j z held)) x a.own a.other);
      }

-- ---- pairs after pairs
pub later-sending :
    {u q j j' : ℕ} {t bits : List ℕ} {st st' : ScrambledBits} → Sending u q j t bits st → ((r : Registers) → Standing u bits r (q * j) st → Standing u bits r (q * j') st')
    → Sending u q j' t bits st'
later-sending s f =
    record { order = s.order; byte = s.byte; small = s.small; table = s.table; pair = s.pair; standing = f s.pair s.standing }

pub done-join :
    {P T gap j start step j' start' q : ℕ} {t bits : List ℕ} {st : ScrambledBits} {f : List ℕ} {st' : ScrambledBits} {g : List ℕ} {st'' : ScrambledBits} {k : List ℕ}
    (a b m : ℕ) → j' ≡ j + 2 * a → start' ≡ start + step * a → a + b ≡ m
    → PairsDone P T gap j start step a a q t bits st f st' g → PairsDone P T gap j' start' step b b q t bits st' g st'' k
    → PairsDone P T gap j start step m m q t bits st f st'' k
done-join {P} {T} {gap} {j} {start} {step} {j'} {start'} {q} {t} {bits} {st} {f} {st'} {g} {st''} {k} a b m ej es em p s =
    record {
      size = s.size ∙ p.size;
      stands = λ r c.
          let e : j' + 2 * b ≡ j + 2 * m = omega arith in
          subst (λ (x : ℕ). Standing (2 * q) bits r (q * x) st'') e (s.stands r (next r c));
      done = λ own unit r tb c pa.
          let e : 2 * a + 2 * b ≡ 2 * m = omega arith in
          subst (λ (x : ℕ). Written (sent_part own P T j x) (sent_element own P T unit (symbols_of q bits r)) f k) e
          (written-join own P T (sent_element own P T unit (symbols_of q bits r)) j (2 * a) (2 * b) (p.done own unit r tb c (pairs-fewer a (omega arith) pa))
          (subst (λ (x : ℕ). Written (sent_part own P T x (2 * b)) (sent_element own P T unit (symbols_of q bits r)) g k) ej
          (s.done own unit r tb (next r c)
          (subst (λ (x : ℕ). PairsAt own T x start' step gap b) (sym ej)
          (subst (λ (x : ℕ). PairsAt own T (j + 2 * a) x step gap b) (sym es) (pairs-later a b (omega arith) pa))))));
    }
  where
    next : (r : Registers) → Standing (2 * q) bits r (q * j) st → Standing (2 * q) bits r (q * j') st'
    next r c = subst (λ (x : ℕ). Standing (2 * q) bits r (q * x) st') (sym ej) (p.stands r c)

-- half blocks with all six open
module _
    (j first halves : ℕ) {P T q : ℕ} {t bits : List ℕ} {st : ScrambledBits} {f : List ℕ} {st' : ScrambledBits} {g : List ℕ}
    (d : PairsDone P T 1 j first 2 (2 * (3 * halves / 2)) (2 * (3 * halves / 2)) q t bits st f st' g) where
  pub sixes-sending : Sending (2 * q) q j t bits st → Sending (2 * q) q (j + 4 * (3 * halves / 2)) t bits st'
  sixes-sending s =
      let e : j + 2 * (2 * (3 * halves / 2)) ≡ j + 4 * (3 * halves / 2) = omega arith in
      later-sending s (λ r c. subst (λ (x : ℕ). Standing (2 * q) bits r (q * x) st') e (d.stands r c))

  pub sixes-odd :
      {st'' : ScrambledBits} {k : List ℕ} → 3 * halves % 2 ≡ 1 → PairsDone P T 1 (j + 4 * (3 * halves / 2)) (first + 4 * (3 * halves / 2)) 2 1 1 q t bits st' g st'' k
      → PairsDone P T 1 j first 2 (3 * halves) (3 * halves) q t bits st f st'' k
  sixes-odd e s = done-join (2 * (3 * halves / 2)) 1 (3 * halves) (omega arith) (omega arith) (omega arith) d s

  pub sixes-even : (3 * halves % 2 ≡ 1 → ⊥) → PairsDone P T 1 j first 2 (3 * halves) (3 * halves) q t bits st f st' g
  sixes-even e = subst (λ (x : ℕ). PairsDone P T 1 j first 2 x x q t bits st f st' g) (sixes-all halves e) d

-- ---- a run, by its form
pub run-done :
    {P T gap start step m j q next : ℕ} {run : Run} {t bits : List ℕ} {st : ScrambledBits} {grid : List ℕ} {st' : ScrambledBits} {after : List ℕ} → RunPairs run gap start step m → next ≡ j + 2 * m
    → PairsDone P T gap j start step m m q t bits st grid st' after → RunFilled (2 * q) P T j run q t bits st grid next st' after
run-done p on d =
    let total = run-total p in
    record {
      next-index = omega (arith, total);
      size = d.size;
      stands = λ r c. rw total (d.stands r c);
      filled = λ own unit r tb c l. rw total (d.done own unit r tb c (laid-pairs p l));
    }
