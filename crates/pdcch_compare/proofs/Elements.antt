-- QUAD AFTER QUAD of a control element, and element after element. Assumes nothing.
use Prim.Native.Nat.{ℕ, suc, ◌+◌, ◌*◌, ◌/◌, ◌%◌, ◌≤◌, ◌<◌}
use mathlib.Core.Path.{◌≡◌, refl, sym, ◌∙◌, subst}
use mathlib.Core.Bool.{true, false}
use mathlib.Core.List.{List}
use native.Mathlib.Omega.{arith}
use lib.Bits.{bit_or, or_zero_r}
use lib.Dec.{ltb}
use lib.ListN.{get_or, length, take, drop, length-take, length-drop}
use lib.Seq.{get_or-take}
use Rattle.std.proofs.lemmas.List.{get_or-drop}
use Rattle.base.proofs.Tests.{clash}
use Rattle.base.proofs.Counts.{cnt-none, cnt-more, cnt-most}
use Rattle.plan.specs.declared.Cell.{Cell}
use Rattle.places.specs.Places.{places_of}
use Rattle.data_compare.specs.declared.Form.{Form}
use Rattle.data_compare.specs.Tests.{FormOf, Tells}
use Rattle.data_compare.specs.Places.{RightAt, PairAt}
use Rattle.data_compare.proofs.Telling.{tells_none, tells-or-one, tells-or, tells_as, tells_both}
use Rattle.data_compare.proofs.Pairs.{pair-indices, indices-pair}
use Rattle.pdcch.specs.Block.{is_given}
use Rattle.pdcch.specs.Groups.{gap_of}
use Rattle.pdcch_compare.specs.Quads.{step_of, entry_place, table_place, TableIn, EntryIn, EntrySeen, ElementSeen, Quads, ChosenSeen, GivenSeen, Given, GivenWrong}

-- ---- one quad: the pairs of number n of the table are its four places
module _ (c : Cell) (table : List ℕ) (n : ℕ) where
  abbrev x : ℕ
  x = get_or table n 0

  abbrev gap : ℕ
  gap = gap_of c (x % 2)

  abbrev step : ℕ
  step = step_of (x % 2)

  first-at : (i : ℕ) → i < 2 → table_place c table (4 * n + 2 * i) ≡ x / 2 + step * i
  unfolding table_place entry_place
  first-at i l =
      let a : (4 * n + 2 * i) / 4 ≡ n = omega arith in
      let b : (4 * n + 2 * i) % 4 / 2 ≡ i = omega arith in
      let d : (4 * n + 2 * i) % 4 % 2 ≡ 0 = omega arith in
      rw (a, b, d) (omega arith)

  second_at : (i : ℕ) → i < 2 → table_place c table (4 * n + 2 * i + 1) ≡ x / 2 + step * i + gap
  unfolding table_place entry_place
  second_at i l =
      let a : (4 * n + 2 * i + 1) / 4 ≡ n = omega arith in
      let b : (4 * n + 2 * i + 1) % 4 / 2 ≡ i = omega arith in
      let d : (4 * n + 2 * i + 1) % 4 % 2 ≡ 1 = omega arith in
      rw (a, b, d) (omega arith)

  -- a quad begins with the first pair of ports
  port-pair : (i : ℕ) → (4 * n + 2 * i) / 2 % 2 ≡ (0 + 2 * i) / 2 % 2
  port-pair i =
      let a : (4 * n + 2 * i) / 2 ≡ n * 2 + i = omega arith in
      let b : (0 + 2 * i) / 2 ≡ i = omega arith in
      let d : (n * 2 + i) % 2 ≡ i % 2 = omega arith in
      rw (a, b) d

  quad-seen :
      {f : Form} {g : List ℕ} {r q u : ℕ} → EntrySeen c x f g r → FormOf q u f
      → Tells r 4 (λ (k : ℕ). RightAt (table_place c table) c.ports (places_of c) q u g (4 * n + k))
  quad-seen {g = g} {q = q} {u = u} s o =
      tells_both {A = PairAt c.ports (places_of c) gap (4 * n) (x / 2) step q u g}
      {B = λ (k : ℕ). RightAt (table_place c table) c.ports (places_of c) q u g (4 * n + k)}
      (λ i l. pair-indices (table_place c table) (places_of c) gap (4 * n) (x / 2) step i (omega arith) (first-at i l) (second_at i l))
      (λ i l. indices-pair (table_place c table) (places_of c) gap (4 * n) (x / 2) step i (omega arith) (first-at i l) (second_at i l))
      (tells_as (λ i l a. rw (port-pair i) a) (λ i l a. rw (port-pair i) at a) (s.pairs.seen q u o))

pub table-entry : {c : Cell} {table g : List ℕ} (e i : ℕ) {x : ℕ} → TableIn c table (9 * e + 9) g → i < 9 → x ≡ get_or table (9 * e + i) 0 → EntryIn c x g
table-entry e i h l ex = rw ex (record { room = h.room; inside = h.inside (9 * e + i) (omega arith) })

-- ---- quad after quad
-- entry i of the nine of element e, of a part of the table
pub entry_at : (e i : ℕ) (table : List ℕ) {n : ℕ} → n ≡ 9 → i < n → get_or (take n (drop (9 * e) table)) i 0 ≡ get_or table (9 * e + i) 0
entry_at e i table {n} en l = get_or-take n (drop (9 * e) table) i 0 l ∙ get_or-drop (9 * e) table i 0

pub below_nine : (e : ℕ) (table : List ℕ) {n i : ℕ} → i < length (take n (drop (9 * e) table)) → n ≡ 9 → i < 9
below_nine e table {n} l en = omega (arith, length-take n (drop (9 * e) table))

pub from-nine : (e : ℕ) (table : List ℕ) {n i : ℕ} → length (take n (drop (9 * e) table)) ≤ i → n ≡ 9 → 9 * e + 9 ≤ length table → 9 ≤ i
from-nine e table {n} l en m = omega (arith, length-take n (drop (9 * e) table), length-drop (9 * e) table)

module _ {c : Cell} {table : List ℕ} {e : ℕ} {f : Form} {g : List ℕ} where
  pub quads-start : Quads c table e f g 0 0
  quads-start = record { few = omega arith; done = record { seen = λ q u o. tells_none } }

  pub quads-on :
      {bad i x r : ℕ} → Quads c table e f g bad i → i < 9 → x ≡ get_or table (9 * e + i) 0 → EntrySeen c x f g r → Quads c table e f g (bit_or bad r) (i + 1)
  quads-on {bad} {i} {x} {r} d l ex s =
      let z : 4 * (i + 1) ≡ 4 * i + 4 = omega arith in
      let s' : EntrySeen c (get_or table (9 * e + i) 0) f g r = rw ex at s in
      record {
        few = omega arith;
        done = rw z
            (record {
              seen = λ q u o. tells-or (d.done.seen q u o) (tells_as (λ k m a. rw (on k) a) (λ k m a. rw (on k) at a) (quad-seen c table (9 * e + i) s' o));
            });
      }
    where
      on : (k : ℕ) → 36 * e + (4 * i + k) ≡ 4 * (9 * e + i) + k
      on k = omega arith

  pub quads-end : {bad i : ℕ} → Quads c table e f g bad i → 9 ≤ i → ElementSeen c table e f g 36 bad
  quads-end {bad} {i} d l = let z : i ≡ 9 = omega (arith, d.few) in subst (λ (y : ℕ). ElementSeen c table e f g (4 * y) bad) z d.done

  -- ---- the element if it is given
  pub not_chosen : {n : ℕ} → ltb 0 n ≡ false → ChosenSeen c table e n f g 0 0
  not_chosen b = record { count = rw b refl; right = λ q u o h t. clash t b; none = λ q u o h. refl }

  pub is-chosen : {n r : ℕ} → ltb 0 n ≡ true → ElementSeen c table e f g 36 r → ChosenSeen c table e n f g 1 r
  is-chosen b s = record { count = rw b refl; right = λ q u o h t. (s.seen q u o).right h; none = λ q u o h. (s.seen q u o).none (h b) }

-- ---- element after element
pub table_of : {c : Cell} {table g : List ℕ} (elements e : ℕ) → TableIn c table (9 * elements) g → e < elements → TableIn c table (9 * e + 9) g
table_of elements e h l = record { room = h.room; few = omega (arith, h.few); inside = λ q m. h.inside q (omega arith) }

module _ {c : Cell} {table from : List ℕ} {f : Form} {g : List ℕ} {elements : ℕ} where
  pub given-start : Given c table from f g elements 0 0 0
  given-start = record { few = omega arith; done = record { count = sym (cnt-none (is_given from)); seen = λ q u o. tells_none } }

  pub given-small : {given bad e : ℕ} → Given c table from f g elements given bad e → elements ≤ 88 → given ≤ 88
  given-small {e = e} d l = omega (arith, d.few, d.done.count, cnt-most (is_given from) e)

  pub given-on :
      {given bad e n r : ℕ} → Given c table from f g elements given bad e → e < elements → ChosenSeen c table e (get_or from e 0) f g n r
      → Given c table from f g elements (given + n) (bit_or bad r) (e + 1)
  given-on {given} {bad} {e} {n} {r} d l s =
      record {
        few = omega arith;
        done = record {
          count = let z : e + 1 ≡ suc e = omega arith in rw z (omega (arith, d.done.count, s.count, cnt-more (is_given from) e));
          seen = λ q u o. tells-or-one (s.right q u o) (s.none q u o) (d.done.seen q u o);
        };
      }

  -- one that is not given is passed over
  pub given-pass : {given bad e : ℕ} → Given c table from f g elements given bad e → e < elements → is_given from e ≡ false → Given c table from f g elements given bad (e + 1)
  given-pass {given} {bad} {e} d l z =
      let n : given + 0 ≡ given = omega arith in
      subst (λ (x : ℕ). Given c table from f g elements x bad (e + 1)) n
      (subst (λ (x : ℕ). Given c table from f g elements (given + 0) x (e + 1)) (or_zero_r bad) (given-on d l (not_chosen z)))

  pub given-end : {given bad e : ℕ} → Given c table from f g elements given bad e → elements ≤ e → GivenSeen c table from f g elements given bad
  given-end {given} {bad} {e} d l = let z : e ≡ elements = omega (arith, d.few) in subst (λ (y : ℕ). GivenSeen c table from f g y given bad) z d.done

pub given-wrong :
    {c : Cell} {table from : List ℕ} {f : Form} {g : List ℕ} {m given bad : ℕ} → (bad ≡ 0 → ⊥) → GivenSeen c table from f g m given bad
    → GivenWrong c table from f g m
given-wrong {given = given} {bad} n s = record { given = given; bad = bad; some = n; done = s }
