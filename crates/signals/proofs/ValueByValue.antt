-- THE LOOPS OVER A SIGNAL'S ELEMENTS, whether they write or compare: the elements so far are done with their values. Assumes nothing.
use Prim.Native.Nat.{ℕ, ◌+◌, ◌-◌, ◌*◌, ◌/◌, ◌%◌, ◌^◌, ◌≤◌, ◌<◌}
use mathlib.Core.Path.{◌≡◌, refl, sym, ap, ◌∙◌}
use native.Mathlib.Omega.{arith}
use mathlib.Core.Logic.{◌⊎◌, inl, inr}
use mathlib.Core.Bool.{Bool, true, false, ◌||◌}
use mathlib.Core.List.{List}
use lib.Dec.{eqb}
use lib.ListN.{length, get_or}
use Rattle.base.proofs.Tests.{clash}
use borrow.Author.Tests.{eqb-true}
use Rattle.base.specs.declared.Pair.{Pair}
use Rattle.base.specs.declared.Element.{Element}
use Rattle.base.specs.Bytes.{element_of}
use Rattle.gold.specs.declared.Registers.{Registers}
use Rattle.gold.specs.Steps.{after, word_of}
use Rattle.gold.proofs.Laws.{after_none}
use Rattle.crs.specs.Crs.{word_value}
use Rattle.grid.proofs.Accumulating.{Deed, Step, Accumulates, empty}
use Rattle.signals.specs.Rows.{every_sixth, word_sent, pair_sent, on_first, on_both, first_of, last_of, on_each, EachIn, in_row}
use Rattle.signals.proofs.Stretches.{sixth-none, sixth-more, sixth-one, sixth-apart, sixth-past, one-both, on-own, row-none, row_one, row-past}
use Rattle.signals.proofs.Values.{word_value_lem, pair-value, pair-next}

-- the first i of the n values of one word
pub record WordDone {X : Type 0} (Done : Deed X) (word n first i : ℕ) (x : X) : Type 0 where
  pub most : i ≤ n
  pub done : Done (every_sixth first i) (word_sent word n first) x

-- the first m of the n values that the pair gives, a word at a time
pub record ValuesDone {X : Type 0} (Done : Deed X) (r : Registers) (n first : ℕ) (pair : Registers) (m : ℕ) (x : X) : Type 0 where
  pub most : m ≤ n
  pub stands : pair ≡ after r (2 * m)
  pub done : Done (every_sixth first m) (pair_sent r first) x

-- the first i of a row of 62 elements with values W
pub record RowDone {X : Type 0} (Done : Deed X) (W : ℕ → Element) (first i : ℕ) (x : X) : Type 0 where
  pub most : i ≤ 62
  pub done : Done (in_row first i) W x

module _ {X : Type 0} {Done : Deed X} {Also : Step X} {none : X} (A : Accumulates Done Also none) where
  -- ---- the values of one word
  pub word_first : (word n first : ℕ) → WordDone Done word n first 0 none
  word_first word n first = record { most = omega arith; done = empty A (word_sent word n first) (sixth-none first) }

  pub word-step :
      {word n first i : ℕ} {x y : X} {d : Pair} {el : Element} → WordDone Done word n first i x → i < n → d ≡ word_value (word / 2 ^ (2 * (n - 1 - i)) % 4) → el ≡ element_of 2 d
      → Also (eqb (first + 6 * i)) (λ (e : ℕ). el) x y → WordDone Done word n first (i + 1) y
  word-step {word = word} {n = n} {first = first} {i = i} h l ed ee k =
      record { most = omega arith; done = A.more (sixth-past first i) h.done k (word_value_lem word n first i ed ee) (sixth-one first i) }

  pub word-last : {word n first i : ℕ} {x : X} → WordDone Done word n first i x → n ≤ i → Done (every_sixth first n) (word_sent word n first) x
  word-last {n = n} {i = i} h l = let j : i ≡ n = omega (arith, h.most) in rw j at h.done

  -- ---- the values that the pair gives
  pub values-first : (r : Registers) (n first : ℕ) → ValuesDone Done r n first r 0 none
  values-first r n first = record { most = omega arith; stands = sym (after_none r); done = empty A (pair_sent r first) (sixth-none first) }

  pub values-step :
      {r pair next : Registers} {n first m : ℕ} {x y : X} (count word : ℕ) → ValuesDone Done r n first pair m x → m + count ≤ n → word ≡ word_of pair (2 * count)
      → Also (every_sixth (first + 6 * m) count) (word_sent word count (first + 6 * m)) x y → next ≡ after pair (2 * count) → ValuesDone Done r n first next (m + count) y
  values-step {r = r} {first = first} {m = m} count word h l ew k en =
      record {
        most = l;
        stands = pair-next r m count h.stands en;
        done = A.more (sixth-apart first m count) h.done k (pair-value r first m count word h.stands ew) (sixth-more first m count);
      }

  pub values-last :
      {r pair : Registers} {n first m : ℕ} {x : X} → ValuesDone Done r n first pair m x → n ≤ m → Done (every_sixth first n) (pair_sent r first) x × (pair ≡ after r (2 * n))
  values-last {r = r} {n = n} {m = m} h l = let j : m ≡ n = omega (arith, h.most) in (rw j at h.done, h.stands ∙ ap (λ (k : ℕ). after r (2 * k)) j)

  -- ---- a row of 62 elements
  pub row_first : (W : ℕ → Element) (first : ℕ) → RowDone Done W first 0 none
  row_first W first = record { most = omega arith; done = empty A W (row-none first) }

  pub row_step :
      {W : ℕ → Element} {first i : ℕ} {x y : X} {el : Element} → RowDone Done W first i x → i < 62 → el ≡ W (first + i) → Also (eqb (first + i)) (λ (e : ℕ). el) x y
      → RowDone Done W first (i + 1) y
  row_step {W = W} {first = first} {i = i} h l ee k =
      record { most = omega arith; done = A.more (row-past first i) h.done k (λ e t. ee ∙ ap W (eqb-true (first + i) e t)) (row_one first i) }

  pub row_last : {W : ℕ → Element} {first i : ℕ} {x : X} → RowDone Done W first i x → 62 ≤ i → Done (in_row first 62) W x
  row_last {i = i} h l = let j : i ≡ 62 = omega (arith, h.most) in rw j at h.done

-- ---- the same values on two ports: an element stands for its like on the first one, and all of the above holds
abbrev pub BothDone : ℕ → ℕ → {X : Type 0} → Deed X → Deed X
BothDone first second Done D W x = Done (on_both first second D) (on_both first second W) x

module _ (first second : ℕ) {X : Type 0} {Done : Deed X} {Also : Step X} {none : X} (A : Accumulates Done Also none) where
  pub on_both_lem : Accumulates (BothDone first second Done) (λ D W x y. Also (on_both first second D) (on_both first second W) x y) none
  on_both_lem =
      let at = on_first first second in
      record {
        nothing = λ W. A.nothing (on_both first second W);
        same = λ d v p. A.same (λ e. d (at e)) (λ e. v (at e)) p;
        more = λ a p k v d. A.more (λ e. a (at e)) p k (λ e. v (at e)) (λ e. d (at e));
      }

  -- value i, first on the one, then on the other
  pub value-both :
      {n i : ℕ} {x y : X} {el : Element} → first + 6 * n ≤ second → i < n → Done (eqb (first + 6 * i)) (λ (e : ℕ). el) x → Also (eqb (second + 6 * i)) (λ (e : ℕ). el) x y
      → Done (on_both first second (eqb (first + 6 * i))) (λ (e : ℕ). el) y
  value-both {i = i} l k d also =
      A.more (λ e h t. let a = eqb-true (first + 6 * i) e h in let b = eqb-true (second + 6 * i) e t in omega arith) d also (λ e t. refl)
      (λ e. one-both first second (first + 6 * i) (second + 6 * i) e (omega arith) (omega arith) (omega arith))

-- ---- and on each of the ports that send
pub each-less : {firsts g h : List ℕ} {n m : ℕ} → EachIn firsts n g → m ≤ n → length h ≡ length g → EachIn firsts m h
each-less r l e = record { ports = r.ports; apart = λ z. let a = r.apart z in omega arith; inside = omega (arith, r.inside) }

pub each-few : {firsts g : List ℕ} {n : ℕ} → EachIn firsts n g → length firsts ≤ 2
each-few {firsts} r = pick r.ports
  where
    pick : (length firsts ≡ 1) ⊎ (length firsts ≡ 2) → length firsts ≤ 2
    pick (inl h) = omega arith
    pick (inr h) = omega arith

-- the first k of them have value i
pub record EachDone {X : Type 0} (Done : Deed X) (firsts : List ℕ) (i : ℕ) (el : Element) (k : ℕ) (x : X) : Type 0 where
  pub none : k ≡ 0 → Done (λ (e : ℕ). false) (λ (e : ℕ). el) x
  pub one : k ≡ 1 → Done (eqb (first_of firsts + 6 * i)) (λ (e : ℕ). el) x
  pub two : k ≡ 2 → Done (on_both (first_of firsts) (get_or firsts 1 0) (eqb (first_of firsts + 6 * i))) (λ (e : ℕ). el) x

module _ (firsts : List ℕ) {X : Type 0} {Done : Deed X} {Also : Step X} {none : X} (A : Accumulates Done Also none) where
  pub on_each_lem : Accumulates (BothDone (first_of firsts) (last_of firsts) Done) (λ D W x y. Also (on_each firsts D) (on_each firsts W) x y) none
  on_each_lem = on_both_lem (first_of firsts) (last_of firsts) A

  pub each-first : (i : ℕ) (el : Element) → EachDone Done firsts i el 0 none
  each-first i el = record { none = λ z. A.nothing (λ (e : ℕ). el); one = λ z. absurd (omega arith); two = λ z. absurd (omega arith) }

  pub each-step :
      {g : List ℕ} {i k : ℕ} {x y : X} {el : Element} → EachIn firsts (i + 1) g → k < length firsts → EachDone Done firsts i el k x
      → Also (eqb (get_or firsts k 0 + 6 * i)) (λ (e : ℕ). el) x y → EachDone Done firsts i el (k + 1) y
  each-step {i = i} {k = k} {x = x} {y = y} {el = el} ready l h also =
      record {
        none = λ z. absurd (omega arith);
        one = λ z. let j : k ≡ 0 = omega arith in
            A.more (λ e f t. clash f refl) (h.none j) (rw j at also) (λ e t. refl) (λ e. sym (or_none (eqb (first_of firsts + 6 * i) e)));
        two = λ z. let j : k ≡ 1 = omega arith in both j (rw j at also);
      }
    where
      or_none : (b : Bool) → b || false ≡ b
      or_none true = refl
      or_none false = refl

      both : k ≡ 1 → Also (eqb (get_or firsts 1 0 + 6 * i)) (λ (e : ℕ). el) x y
          → Done (on_both (first_of firsts) (get_or firsts 1 0) (eqb (first_of firsts + 6 * i))) (λ (e : ℕ). el) y
      both j a = value-both (first_of firsts) (get_or firsts 1 0) A {n = i + 1} (space ready.ports) (omega arith) (h.one j) a
        where
          space : (length firsts ≡ 1) ⊎ (length firsts ≡ 2) → first_of firsts + 6 * (i + 1) ≤ get_or firsts 1 0
          space (inl one) = absurd (omega arith)
          space (inr two) = let m : length firsts - 1 ≡ 1 = omega arith in rw m at (ready.apart two)

  pub each-last :
      {g : List ℕ} {i k : ℕ} {x : X} {el : Element} → EachIn firsts (i + 1) g → length firsts ≤ k → k ≤ length firsts → EachDone Done firsts i el k x
      → Done (on_each firsts (eqb (first_of firsts + 6 * i))) (λ (e : ℕ). el) x
  each-last {i = i} {k = k} {x = x} {el = el} ready l m h = pick ready.ports
    where
      pick : (length firsts ≡ 1) ⊎ (length firsts ≡ 2) → Done (on_each firsts (eqb (first_of firsts + 6 * i))) (λ (e : ℕ). el) x
      pick (inl one) =
          let j : length firsts - 1 ≡ 0 = omega arith in
          rw j (A.same (λ e. ap (eqb (first_of firsts + 6 * i)) (sym (on-own (first_of firsts) e))) (λ e t. refl) (h.one (omega arith)))
      pick (inr two) = let j : length firsts - 1 ≡ 1 = omega arith in rw j (h.two (omega arith))

  -- one port
  pub each-one : {D : ℕ → Bool} {W : ℕ → Element} {x : X} → length firsts ≡ 1 → Done (on_each firsts D) (on_each firsts W) x → Done D W x
  each-one {D = D} {W = W} one d =
      let j : length firsts - 1 ≡ 0 = omega arith in
      A.same (λ e. ap D (on-own (first_of firsts) e)) (λ e t. ap W (on-own (first_of firsts) e)) (rw j at d)
