-- The loops over a plan's HIs: those from number k on stand from position `from` on, and what is summed and what is left make the whole sums.
-- Assumes nothing.
use Rattle.std.proofs.Common.{◌≡◌, ℕ, zero, suc, ◌+◌, ◌-◌, ◌*◌, ◌/◌, ◌%◌, ◌<◌, ◌≤◌, List, ◌∷◌, length, drop, sym, ap, ◌∙◌, not-suc-le-zero, add-one, sub-one, arith}
use Rattle.base.specs.declared.Pair.{Pair}
use Rattle.base.specs.Pairs.{nil, plus}
use Rattle.base.specs.Tables.{table}
use Rattle.base.proofs.Pairs.{plus_assoc, plus_nil, nil-plus}
use Rattle.base.proofs.Tables.{table-length, table_at}
use Rattle.plan.specs.declared.Hi.{Hi}
use Rattle.plan.specs.Commands.{hi_of}
use Rattle.plan.specs.CommandLists.{his_from, next_of}
use Rattle.plan.proofs.CommandLists.{commands-next, commands-zero}
use Rattle.phich.specs.His.{hi_number}
use Rattle.phich.specs.Units.{mapping_unit, sum_at}
use Rattle.phich.specs.Recovery.{bit_in}
use Rattle.phich.specs.Loops.{HiIn, HisIn, unscrambled, own_part, quad_sum, residue, Holds, Adds, QuadSums, quad_of, bits_from}

-- the HIs from number k on
abbrev pub left : List ℕ → ℕ → ℕ → ℕ → List Hi
left plan from count k = his_from (drop from plan) (count - k)

-- ---- where the loop is
pub record At (plan : List ℕ) (at count from k : ℕ) : Type 0 where
  pub done : k ≤ count
  pub rest : (i : ℕ) → hi_number (left plan from count k) i ≡ hi_number (his_from (drop at plan) count) (k + i)

pub at-start : (plan : List ℕ) (at count : ℕ) → At plan at count at 0
at-start plan at count =
    let e : count - 0 ≡ count = omega arith in
    record { done = omega arith; rest = λ i. let z : i ≡ 0 + i = omega arith in rw e (ap (hi_number (his_from (drop at plan) count)) z) }

first : (plan : List ℕ) (from n : ℕ) → 0 < n → his_from (drop from plan) n ≡ hi_of (drop from plan) ∷ his_from (drop (next_of plan from) plan) (n - 1)
first plan from zero h = absurd (not-suc-le-zero h)
first plan from (suc n) h = rw sub-one (commands-next hi_of plan from n)

module _ {plan : List ℕ} {at count from k : ℕ} (t : At plan at count from k) (more : k < count) where
  pub split : left plan from count k ≡ hi_of (drop from plan) ∷ left plan (next_of plan from) count (k + 1)
  split =
      let e : count - k - 1 ≡ count - (k + 1) = omega arith in
      first plan from (count - k) (omega arith) ∙ ap (λ (n : ℕ). hi_of (drop from plan) ∷ his_from (drop (next_of plan from) plan) n) e

  -- the next HI
  pub here : hi_of (drop from plan) ≡ hi_number (his_from (drop at plan) count) k
  here =
      let z : k + 0 ≡ k = omega arith in
      ap (λ (xs : List Hi). hi_number xs 0) (sym split) ∙ t.rest 0 ∙ ap (hi_number (his_from (drop at plan) count)) z

  pub at_next : {next : ℕ} → next ≡ next_of plan from → At plan at count next (k + 1)
  at_next ex =
      record {
        done = omega arith;
        rest = rw ex (λ i.
            let z : k + suc i ≡ k + 1 + i = omega arith in
            ap (λ (xs : List Hi). hi_number xs (suc i)) (sym split) ∙ t.rest (suc i) ∙ ap (hi_number (his_from (drop at plan) count)) z);
      }

  -- what `add_hi` and `bit_of` require
  pub here_in : {l : ℕ} {h : Hi} → HisIn l plan at count → h ≡ hi_of (drop from plan) → HiIn l h
  here_in ok e = rw (e, here) (ok.each k more)

-- ---- the sums: k HIs are summed
pub record Summed (l : ℕ) (plan : List ℕ) (at count : ℕ) (bit : ℕ → ℕ) (s : List ℕ) (from k : ℕ) : Type 0 where
  pub where-at : At plan at count from k
  pub size : length s ≡ 200
  pub so_far : ℕ → Pair
  pub holds : (y : ℕ) → y < 100 → Holds s y (so_far y)
  pub whole : (y : ℕ) → plus (so_far y) (sum_at l unscrambled (y / 4) bit (y % 4) (left plan from count k) k) ≡ quad_sum l bit (his_from (drop at plan) count) y

pub start : (l : ℕ) (plan : List ℕ) (at count : ℕ) (bit : ℕ → ℕ) (s : List ℕ) → s ≡ table 200 (λ i. 0) → Summed l plan at count bit s at 0
unfolding quad_sum residue
start l plan at count bit s z =
    let e : count - 0 ≡ count = omega arith in
    record {
      where-at = at-start plan at count;
      size = rw z (table-length 200 (λ i. 0));
      so_far = λ y. nil;
      holds = λ y r. rw z (record { re = table_at 200 (λ i. 0) 0 (2 * y) (omega arith); im = table_at 200 (λ i. 0) 0 (2 * y + 1) (omega arith) });
      whole = λ y. rw e (nil-plus _);
    }

module _ {l : ℕ} {plan : List ℕ} {at count : ℕ} {bit : ℕ → ℕ} {s : List ℕ} {from k : ℕ} (t : Summed l plan at count bit s from k) (more : k < count) where
  adds :
      (y : ℕ) → sum_at l unscrambled (y / 4) bit (y % 4) (left plan from count k) k ≡ plus (own_part l (hi_of (drop from plan)) (bit k) y)
      (sum_at l unscrambled (y / 4) bit (y % 4) (left plan (next_of plan from) count (k + 1)) (k + 1))
  unfolding sum_at own_part
  adds y =
      ap (λ (hs : List Hi). sum_at l unscrambled (y / 4) bit (y % 4) hs k) (split t.where-at more)
      ∙ ap (λ (n : ℕ). plus (own_part l (hi_of (drop from plan)) (bit k) y) (sum_at l unscrambled (y / 4) bit (y % 4) (left plan (next_of plan from) count (k + 1)) n)) (sym (add-one k))

  pub next : {h : Hi} {b n : ℕ} {u : List ℕ} → h ≡ hi_of (drop from plan) → b ≡ bit k → n ≡ next_of plan from → Adds (own_part l h b) s u → Summed l plan at count bit u n (k + 1)
  next {h = h} {b = b} {u = u} eh eb en a =
      let own : Adds (own_part l (hi_of (drop from plan)) (bit k)) s u = rw (← eh, ← eb) a in
      record {
        where-at = at_next t.where-at more en;
        size = own.size ∙ t.size;
        so_far = λ y. plus (t.so_far y) (own_part l (hi_of (drop from plan)) (bit k) y);
        holds = λ y r. own.adds y r (t.so_far y) (t.holds y r);
        whole = λ y. rw en (plus_assoc (t.so_far y) (own_part l (hi_of (drop from plan)) (bit k) y) _ ∙ ap (plus (t.so_far y)) (sym (adds y)) ∙ t.whole y);
      }

  -- with the bits that first quads' sums give
  pub bit-here : (x : ℕ → ℕ) (first : List ℕ) {h : Hi} {b : ℕ} → h ≡ hi_of (drop from plan) → b ≡ bit_in l x h (quad_of first (mapping_unit l h)) → b
      ≡ bits_from l x (his_from (drop at plan) count) first k
  unfolding bits_from
  bit-here x first eh eb = eb ∙ ap (λ (y : Hi). bit_in l x y (quad_of first (mapping_unit l y))) (eh ∙ here t.where-at more)

pub finish : {l : ℕ} {plan : List ℕ} {at count : ℕ} {bit : ℕ → ℕ} {s : List ℕ} {from k : ℕ} → Summed l plan at count bit s from k → count ≤ k → QuadSums l bit (his_from (drop at plan) count) s
unfolding sum_at
finish {l = l} {plan = plan} {count = count} {bit = bit} {s = s} {from = from} {k = k} t h =
    record {
      size = t.size;
      sums = λ y r.
          rw (← (sym (plus_nil (t.so_far y))
          ∙ ap (λ (hs : List Hi). plus (t.so_far y) (sum_at l unscrambled (y / 4) bit (y % 4) hs k)) (sym (commands-zero hi_of (drop from plan) (count - k) (omega arith)))
          ∙ t.whole y))
          (t.holds y r);
    }
