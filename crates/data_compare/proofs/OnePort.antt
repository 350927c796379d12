-- PLACES ON ONE PORT: side by side, stretch after stretch between holes, and a run by its form. Assumes what a run needs.
use Prim.Native.Nat.{ℕ, ◌+◌, ◌-◌, ◌*◌, ◌%◌, ◌≤◌, ◌<◌, min}
use mathlib.Core.Path.{◌≡◌, refl, sym, ap, ◌∙◌, subst}
use mathlib.Core.List.{List}
use native.Mathlib.Nat.{zero-mul}
use native.Mathlib.Omega.{arith}
use lib.Bits.{bit_or}
use Rattle.base.specs.Counts.{nth}
use Rattle.base.proofs.Counts.{nth_of}
use Rattle.precoding.specs.Places.{own_port, partner_index}
use Rattle.grid.specs.Elements.{element_in}
use Rattle.element_pairs.specs.Numbers.{element_from, upper, OneRead, TwoRead}
use Rattle.walk.specs.declared.Run.{Run}
use Rattle.walk.specs.Runs.{run_count, place_at, PlacesAt}
use Rattle.walk.specs.Forms.{Stretch}
use Rattle.walk.proofs.Singles.{laid-places}
use Rattle.areas.specs.Tables.{Smaller}
use Rattle.areas.proofs.Stretches.{stretches-start, stretch-here, stretches-on}
use Rattle.data_compare.specs.declared.Form.{Form}
use Rattle.data_compare.specs.Tests.{Tells, Own, wrong_of}
use Rattle.data_compare.specs.Places.{PlaceRight, PlacesSeen, Singles, Doubles, Stretches, RunSeen}
use Rattle.data_compare.proofs.Telling.{tells_none, tells_as, tells-or-one, tells-or, tells_both}
use Rattle.data_compare.proofs.Numbers.{wrong-one, one-wrong, wrong-both, both-wrong}

-- ---- one place more, or two
pub singles-start : {start n : ℕ} {f : Form} {g : List ℕ} → Singles start n f g 0 0
singles-start = record { few = omega arith; done = record { seen = λ q u o. tells_none } }

module _ {start n : ℕ} {f : Form} {g : List ℕ} {bad i : ℕ} (d : Singles start n f g bad i) (l : i < n) where
  pub singles-on : {x w : ℕ} → OneRead (3 * (start + i)) g x → w ≡ wrong_of f x → Singles start n f g (bit_or bad (w % 16777216)) (i + 1)
  singles-on {x} {w} r e =
      record {
        few = omega arith;
        done = record {
          seen = λ q u o.
              let z = r.element (start + i) refl in
              tells-or-one (λ s. rw z (wrong-one o x (ap (λ (v : ℕ). v % 16777216) (sym e) ∙ s))) (λ a. ap (λ (v : ℕ). v % 16777216) e ∙ one-wrong o x (rw z at a))
              (d.done.seen q u o);
        };
      }

pub all_seen : {n i bad : ℕ} {e : ℕ → ℕ} {f : Form} {g : List ℕ} → i ≤ n → n ≤ i → PlacesSeen i e f g bad → PlacesSeen n e f g bad
all_seen {n} {i} few l d = let z : n ≡ i = omega arith in rw z d

pub doubles-start : {start n : ℕ} {f : Form} {g : List ℕ} → Doubles start n f g 0 0
doubles-start = record { few = omega arith; done = λ q u o. tells_none }

module _ {start n : ℕ} {f : Form} {g : List ℕ} {bad i : ℕ} (d : Doubles start n f g bad i) (l : i < n) where
  pub doubles-on : {x w : ℕ} → TwoRead 1 (3 * (start + 2 * i)) g x → w ≡ wrong_of f x → Doubles start n f g (bit_or bad w) (i + 1)
  doubles-on {x} {w} r e =
      record {
        few = omega arith;
        done = λ q u o.
            let y = r.first (start + 2 * i) refl in
            let k : start + (2 * i + 1) ≡ start + 2 * i + 1 = omega arith in
            let z : element_in g (start + (2 * i + 1)) ≡ element_from (upper x) = ap (element_in g) k ∙ r.second (start + 2 * i) refl in
            tells-or-one (λ s. let b = wrong-both o x (sym e ∙ s) in (rw y b.0, rw z b.1)) (λ a. e ∙ both-wrong o x (rw y at a.0, rw z at a.1))
            (d.done q u o);
      }

pub doubles-end : {start n bad i : ℕ} {f : Form} {g : List ℕ} → Doubles start n f g bad i → n ≤ i → PlacesSeen (2 * n) (◌+◌ start) f g bad
doubles-end {start} {n} {bad} {i} {f} {g} d l =
    let z : i ≡ n = omega (arith, d.few) in
    record { seen = λ q u o. subst (λ (x : ℕ). Tells bad (2 * x) (λ (k : ℕ). Own q u (element_in g (start + k)))) z (tells_both (λ k b a. a) (λ k b v w. (v, w)) (d.done q u o)) }

-- ---- stretches
pub least : {a b n : ℕ} → n ≡ min a b → Smaller a b n
least e = record { first = omega arith; second = omega arith; one = λ l. omega arith }

pub holes-start : {first lead each total at left : ℕ} {f : Form} {g : List ℕ} → Stretch first lead each 0 at left → Stretches first lead each total f g 0 at left 0
holes-start s = record { stretches = stretches-start s; done = record { seen = λ q u o. tells_none } }

pub holes-on :
    {first lead each total bad at left k n r : ℕ} {f : Form} {g : List ℕ} (d : Stretches first lead each total f g bad at left k) (l : k < total)
    (m : Smaller left (total - k) n) → PlacesSeen n (◌+◌ at) f g r → Stretches first lead each total f g (bit_or bad r) (at + (n + 1)) each (k + n)
holes-on d l m s =
    let here = stretch-here d.stretches l m in
    record {
      stretches = stretches-on d.stretches l m;
      done = record { seen = λ q u o. tells-or (d.done.seen q u o) (tells_as (λ i b a. rw (here i b) at a) (λ i b a. rw (here i b) a) (s.seen q u o)) };
    }

-- ---- a run
-- on one port, what stands at a place is the symbol alone
pub one_place : {T port_pair odd q u : ℕ} {g : List ℕ} (s t : ℕ) → Own q u (element_in g s) → PlaceRight 1 T port_pair odd q u g s t
unfolding own_port
one_place {T} s t w = let e : 0 * T + s ≡ s = omega (arith, zero-mul T) in record { own = rw e w; other = λ n. absurd (n refl) }

pub place-one : {T port_pair odd q u : ℕ} {g : List ℕ} (s t : ℕ) → PlaceRight 1 T port_pair odd q u g s t → Own q u (element_in g s)
unfolding own_port
place-one {T} s t w = let e : 0 * T + s ≡ s = omega (arith, zero-mul T) in rw e at w.own

pub one_seen :
    {T j r n : ℕ} {run : Run} {f : Form} {g : List ℕ} {e : ℕ → ℕ} → n ≡ run_count run → ((k : ℕ) → e k ≡ run.first + place_at run.mask k)
    → PlacesSeen n e f g r → RunSeen 1 T j run f g r
one_seen {T} {j} {e = e} is at d =
    record {
      seen = λ own q u laid w.
          let p : PlacesAt own T j _ e = laid-places is at laid in
          let here : (k : ℕ) → k < _ → nth own T (j + k) ≡ e k = λ k l. ap (nth own T) (sym (p.index k l)) ∙ nth_of own T (e k) (p.owned k l) (p.within k l) in
          rw (← is)
          (tells_as (λ k l a. one_place (nth own T (j + k)) (nth own T (partner_index (j + k))) (rw (here k l) a))
          (λ k l a. rw (here k l) at (place-one (nth own T (j + k)) (nth own T (partner_index (j + k))) a)) (d.seen q u w));
    }
