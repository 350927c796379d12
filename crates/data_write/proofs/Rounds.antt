-- THE LAWS OF FILLING PAIRS: one pair more, and two in each round. Assumes what a run of pairs needs.
use Prim.Native.Nat.{ℕ, ◌+◌, ◌*◌, ◌/◌, ◌%◌, ◌^◌, ◌≤◌, ◌<◌}
use mathlib.Core.Path.{◌≡◌, refl, sym, ap, ◌∙◌, subst}
use mathlib.Core.Bool.{Bool}
use mathlib.Core.List.{List}
use native.Mathlib.Omega.{arith}
use Rattle.gold.specs.declared.Registers.{Registers}
use Rattle.modulation.specs.Symbols.{Order}
use Rattle.codeword.specs.declared.ScrambledBits.{ScrambledBits}
use Rattle.codeword.specs.Streams.{symbols_of}
use Rattle.codeword.specs.Bits48.{Standing, CanTake, Takes}
use Rattle.codeword.proofs.Orders.{quad-groups}
use Rattle.precoding.specs.Places.{own_port, other_port}
use Rattle.grid.specs.Writing.{Written}
use Rattle.element_pairs.specs.Numbers.{TwoPut, PairPut}
use Rattle.walk.specs.Runs.{PairsAt}
use Rattle.walk.specs.Parts.{sent_part}
use Rattle.walk.specs.Addresses.{PairsIn}
use Rattle.walk.proofs.Pairs.{written_none, written-join, pair-written}
use Rattle.walk.proofs.Addresses.{at_own, at_other, next-at, next-other, rounds-start, rounds-on, round-small, fits-at, fits_next}
use Rattle.data_write.specs.Sent.{sent_element, TableOf, Sending, FromTable}
use Rattle.data_write.specs.declared.FirstRound.{FirstRound}
use Rattle.data_write.specs.Pairs.{RoundIn, RoundDone, FirstAt, PairsDone, Rounds}
use Rattle.data_write.proofs.Source.{stands_on, can-take, SymbolsAt, pair-has, first-symbols, next-symbols}

module _ {P T gap j start step m : ℕ} {before : List ℕ} (h : PairsIn P T gap j start step m before) where
  -- none yet
  pub none_done : {q : ℕ} {t bits : List ℕ} {st : ScrambledBits} → PairsDone P T gap j start step m 0 q t bits st before st before
  none_done {q} {t} {bits} {st} =
      record {
        size = refl;
        stands = λ r s. let e : j ≡ j + 2 * 0 = omega arith in subst (λ (x : ℕ). Standing (2 * q) bits r (q * x) st) e s;
        done = λ own unit r b s p. written_none own P T (sent_element own P T unit (symbols_of q bits r)) j before;
      }

  -- the elements of pair i
  pub pair-filled :
      {q unit : ℕ} {t bits g f k : List ℕ} {r : Registers} (own : ℕ → Bool) → TableOf P q unit t → Order q → PairsAt own T j start step gap m
      → (i : ℕ) {a b w x v u : ℕ} → i < m → a ≡ 3 * (own_port P ((j + 2 * i) / 2 % 2) * T + (start + step * i))
      → b ≡ 3 * (other_port P ((j + 2 * i) / 2 % 2) * T + (start + step * i)) → SymbolsAt q bits r (j + 2 * i) w x → FromTable t w x v u
      → TwoPut gap a v g f → TwoPut gap b u f k
      → Written (sent_part own P T (j + 2 * i) 2) (sent_element own P T unit (symbols_of q bits r)) g k
  pair-filled {q} {unit} {t} {bits} {g} {f} {k} {r} own s o p i {a} {b} {w} {x} l ia ib y z c d =
      let even : (j + 2 * i) % 2 ≡ 0 = omega (arith, h.even) in
      pair-written own P T (j + 2 * i) (start + step * i) gap even (p.first i l) (p.second i l) (p.even i l) (p.odd i l) (p.within i l)
      (sent_element own P T unit (symbols_of q bits r))
      (pair-has own P T unit (symbols_of q bits r) s o (j + 2 * i) even h.many (start + step * i) gap w x (p.within i l) (p.even i l) (p.odd i l)
      y.first y.second)
      ia ib (subst (λ (n : ℕ). TwoPut gap a n g f) z.own c) (subst (λ (n : ℕ). TwoPut gap b n f k) z.other d)

-- ---- a round of two pairs, from what the functions that it calls leave
pub round-made :
    {gap q at next across z own other own' other' : ℕ} {t before middle after : List ℕ} → FromTable t (z / 2 ^ q / 2 ^ q / 2 ^ q) (z / 2 ^ q / 2 ^ q) own other
    → FromTable t (z / 2 ^ q) z own' other' → PairPut gap at across own other before middle → PairPut gap next across own' other' middle after
    → RoundDone gap z q t at next across before after
round-made {own = own} {other} {own'} {other'} {middle = middle} x y a b =
    record {
      own = own;
      other = other;
      own-next = own';
      other-next = other';
      first = x;
      second = y;
      middle = middle;
      put = a;
      put_next = b;
    }

-- ---- and rounds after rounds, from a state that is the first one on
pub rounds-first :
    {P T gap j start step : ℕ} (n : ℕ) {q : ℕ} {t bits : List ℕ} {st st' : ScrambledBits} {before : List ℕ} {x : FirstRound}
    → PairsIn P T gap j start step (2 * n) before × Sending (2 * q) q j t bits st
    → FirstAt P T j start step x → st' ≡ st → Rounds P T gap j start step n q t bits st before x x.at x.next 0 st' before
rounds-first {P} {T} {gap} {j} {start} {step} n {q} {t} {bits} {st} {before = before} {x} h p e =
    subst (λ (s : ScrambledBits). Rounds P T gap j start step n q t bits st before x x.at x.next 0 s before) (sym e)
    (record { pairs = h.0; sending = h.1; first = p; round = rw (p.at, p.next) (rounds-start h.0 p.ports); done = none_done h.0 })

-- the bytes in another form
pub rounds-at :
    {P T gap j start step n q : ℕ} {t bits : List ℕ} {st : ScrambledBits} {before : List ℕ} {x : FirstRound} {at next at' next' i : ℕ} {st' : ScrambledBits}
    {grid : List ℕ} → at' ≡ at → next' ≡ next → Rounds P T gap j start step n q t bits st before x at next i st' grid
    → Rounds P T gap j start step n q t bits st before x at' next' i st' grid
rounds-at e f d =
    record {
      pairs = d.pairs;
      sending = d.sending;
      first = d.first;
      round = record { rounds = d.round.rounds; at_pair = e ∙ d.round.at_pair; next-pair = f ∙ d.round.next-pair };
      done = d.done;
    }

module _
    {P T gap j start step n q : ℕ} {t bits : List ℕ} {st : ScrambledBits} {before : List ℕ} {x : FirstRound} {at next i : ℕ} {st' : ScrambledBits} {grid : List ℕ}
    (d : Rounds P T gap j start step n q t bits st before x at next i st' grid) (l : i < n) where
  pub round-takes : CanTake (4 * q) bits st'
  round-takes =
      can-take {j = j + 2 * (2 * i)} (quad-groups q d.sending.order) d.sending.order (omega (arith, d.pairs.index)) (d.done.stands d.sending.pair d.sending.standing)

  pub round-in : RoundIn gap q at next x.across grid
  round-in =
      record {
        few = omega (arith, d.sending.order.2);
        first = omega (arith, d.done.size, d.first.across, fits-at d.pairs d.first.ports d.round l);
        second = omega (arith, d.done.size, d.first.across, fits_next d.pairs d.first.ports d.round l);
      }

  pub few_bytes : (at ≤ 100800) × (next ≤ 100800) × (n ≤ 8400)
  few_bytes = let b = round-small d.pairs d.first.ports d.round l in (b.0, b.1, omega (arith, d.pairs.index))

  filled_on :
      {z v u v' u' : ℕ} {st'' : ScrambledBits} {f k : List ℕ} → Takes (4 * q) bits st' z st'' → FromTable t (z / 2 ^ q / 2 ^ q / 2 ^ q) (z / 2 ^ q / 2 ^ q) v u
      → FromTable t (z / 2 ^ q) z v' u' → PairPut gap at x.across v u grid f → PairPut gap next x.across v' u' f k
      → Rounds P T gap j start step n q t bits st before x (at + 6 * step) (next + 6 * step) (i + 1) st'' k
  filled_on {z} {v} {u} {v'} {u'} {st''} {f} {k} tk y y' a b =
      record {
        pairs = d.pairs;
        sending = d.sending;
        first = d.first;
        round = rounds-on d.pairs d.first.ports d.round l;
        done =
            record {
              size = b.size ∙ a.size ∙ d.done.size;
              stands = λ reg g. on reg g;
              done = λ own unit reg tb g pa. all own unit reg tb g pa;
            };
      }
    where
      far : (b : ℕ) → b + x.across ≡ b + 3 * d.first.offsets.across
      far b = ap (λ (a : ℕ). b + a) d.first.across

      on : (reg : Registers) → Standing (2 * q) bits reg (q * j) st → Standing (2 * q) bits reg (q * (j + 2 * (2 * (i + 1)))) st''
      on reg g =
          subst (λ (c : ℕ). Standing (2 * q) bits reg c st'') (stands_on q (j + 2 * (2 * i)) 4 (j + 2 * (2 * (i + 1))) (omega arith))
          (tk.goes (2 * q) reg (q * (j + 2 * (2 * i))) (quad-groups q d.sending.order) (d.done.stands reg g)).1

      all :
          (own : ℕ → Bool) (unit : ℕ) (reg : Registers) → TableOf P q unit t → Standing (2 * q) bits reg (q * j) st → PairsAt own T j start step gap (2 * n)
          → Written (sent_part own P T j (2 * (2 * (i + 1)))) (sent_element own P T unit (symbols_of q bits reg)) before k
      all own unit reg tb g pa =
          let e : 2 * (2 * i) + 2 + 2 ≡ 2 * (2 * (i + 1)) = omega arith in
          let e' : j + 2 * (2 * i) + 2 ≡ j + 2 * (2 * i + 1) = omega arith in
          let e'' : j + 2 * (2 * i + 1) ≡ j + (2 * (2 * i) + 2) = omega arith in
          let held = (tk.goes (2 * q) reg (q * (j + 2 * (2 * i))) (quad-groups q d.sending.order) (d.done.stands reg g)).0 in
          let first : SymbolsAt q bits reg (j + 2 * (2 * i)) (z / 2 ^ q / 2 ^ q / 2 ^ q) (z / 2 ^ q / 2 ^ q) = first-symbols bits reg q (j + 2 * (2 * i)) z held in
          let second : SymbolsAt q bits reg (j + 2 * (2 * i + 1)) (z / 2 ^ q) z =
          subst (λ (c : ℕ). SymbolsAt q bits reg c (z / 2 ^ q) z) e' (next-symbols bits reg q (j + 2 * (2 * i)) z held) in
          subst (λ (c : ℕ). Written (sent_part own P T j c) (sent_element own P T unit (symbols_of q bits reg)) before k) e
          (written-join own P T (sent_element own P T unit (symbols_of q bits reg)) j (2 * (2 * i) + 2) 2
          (written-join own P T (sent_element own P T unit (symbols_of q bits reg)) j (2 * (2 * i)) 2 (d.done.done own unit reg tb g pa)
          (pair-filled d.pairs own tb d.sending.order pa (2 * i) (omega arith) (at_own d.pairs d.first.ports d.round l)
          (far at ∙ at_other d.pairs d.first.ports d.round l) first y a.own a.other))
          (subst (λ (c : ℕ). Written (sent_part own P T c 2) (sent_element own P T unit (symbols_of q bits reg)) f k) e''
          (pair-filled d.pairs own tb d.sending.order pa (2 * i + 1) (omega arith) (next-at d.pairs d.first.ports d.round l)
          (far next ∙ next-other d.pairs d.first.ports d.round l) second y' b.own b.other)))

  pub round-on :
      {z : ℕ} {st'' : ScrambledBits} {k : List ℕ} → Takes (4 * q) bits st' z st'' → RoundDone gap z q t at next x.across grid k
      → Rounds P T gap j start step n q t bits st before x (at + 6 * step) (next + 6 * step) (i + 1) st'' k
  round-on tk y = filled_on tk y.first y.second y.put y.put_next

pub filled-end :
    {P T gap j start step n q at next i : ℕ} {x : FirstRound} {t bits : List ℕ} {st : ScrambledBits} {before : List ℕ} {st' st'' : ScrambledBits} {grid : List ℕ}
    → Rounds P T gap j start step n q t bits st before x at next i st' grid → n ≤ i → st'' ≡ st'
    → PairsDone P T gap j start step (2 * n) (2 * n) q t bits st before st'' grid
filled-end {P} {T} {gap} {j} {start} {step} {n} {q} {i = i} {t = t} {bits} {st} {before} {st'} {grid = grid} d l f =
    let e : 2 * i ≡ 2 * n = omega (arith, d.round.rounds) in
    subst (λ (s : ScrambledBits). PairsDone P T gap j start step (2 * n) (2 * n) q t bits st before s grid) (sym f)
    (subst (λ (x : ℕ). PairsDone P T gap j start step (2 * n) x q t bits st before st' grid) e d.done)
