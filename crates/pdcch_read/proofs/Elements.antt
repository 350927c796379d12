-- BYTE AFTER BYTE of a control element, and element after element. Assumes that given elements have bytes of their own.
use Prim.Native.Nat.{ℕ, suc, ◌+◌, ◌-◌, ◌*◌, ◌/◌, ◌%◌, ◌≤◌, ◌<◌}
use mathlib.Core.Path.{◌≡◌, refl, sym, ap, ◌∙◌, subst}
use mathlib.Core.Bool.{true}
use mathlib.Core.List.{List}
use native.Mathlib.Decide.{ℕ_discrete}
use native.Mathlib.Omega.{arith}
use lib.Bits.{bit_xor}
use lib.ListN.{length, get_or, set, length-set}
use lib.Seq.{get_or-set_same, get_or-set_other}
use borrow.Author.Tests.{lt-ltb, ltb-true}
use Rattle.gold.specs.declared.Registers.{Registers}
use Rattle.gold.specs.Sequence.{binary}
use Rattle.gold.specs.Steps.{after, word_of}
use Rattle.gold.proofs.Laws.{after_none, after-after}
use Rattle.codeword.specs.Codewords.{scrambled}
use Rattle.codeword.specs.Streams.{outputs}
use Rattle.plan.specs.declared.Cell.{Cell}
use Rattle.places.specs.Places.{places_of}
use Rattle.section_bits.specs.Gathering.{Bits}
use Rattle.walk.proofs.Addresses.{own_pair}
use Rattle.data_read.specs.Runs.{Stands}
use Rattle.pdcch.specs.Block.{is_given}
use Rattle.pdcch_compare.specs.Quads.{entry_place, table_place}
use Rattle.pdcch_compare.proofs.Elements.{table_of}
use Rattle.pdcch_read.specs.Bytes.{entry_element, EntryRead, table_element, ElementStands, ElementIn, ElementPut, Quads, ChosenPut, GivenIn, GivenPut, Given}
use Rattle.pdcch_read.proofs.Bytes.{taken-off}

-- ---- byte after byte
-- element 4n + k of the table is that of entry n
table-element : (c : Cell) (table : List ℕ) (e n k : ℕ) → k < 4 → table_element c table (36 * e + (4 * n + k)) ≡ entry_element c (get_or table (9 * e + n) 0) k
unfolding table_place
table-element c table e n k l =
    let a : (36 * e + (4 * n + k)) / 4 ≡ 9 * e + n = omega arith in
    let b : (36 * e + (4 * n + k)) % 4 ≡ k = omega arith in
    let d : (36 * e + (4 * n + k)) / 2 ≡ (9 * e + n) * 2 + k / 2 = omega arith in
    let h : ((9 * e + n) * 2 + k / 2) % 2 ≡ k / 2 % 2 = omega arith in
    rw (a, b, d) (ap (λ (x : ℕ). x * places_of c + entry_place c (get_or table (9 * e + n) 0) k) (own_pair c.ports ((9 * e + n) * 2 + k / 2) (k / 2) h))

module _ {c : Cell} {table : List ℕ} {e : ℕ} {d g : List ℕ} {at : ℕ} {r : Registers} {before : List ℕ} where
  pub quads-start : Quads c table e d g at r before 0 r before
  quads-start =
      record {
        few = omega arith;
        done = record { size = refl; pair = sym (after_none r); bytes = λ b o i two er st l. absurd (omega arith); kept = λ m h. refl };
      }

  pub quads-room : {n : ℕ} {s : Registers} {part : List ℕ} → Quads c table e d g at r before n s part → at + 9 ≤ length before → n < 9 → at + n < length part
  quads-room q room l = omega (arith, q.done.size)

  pub quads-on :
      {n x w y : ℕ} {s t : Registers} {part : List ℕ} → Quads c table e d g at r before n s part → at + 9 ≤ length before → n < 9
      → x ≡ get_or table (9 * e + n) 0 → EntryRead c x d g w → y ≡ bit_xor w (word_of s 8) → t ≡ after s 8
      → Quads c table e d g at r before (n + 1) t (set part (at + n) y)
  quads-on {n} {x} {w} {y} {s} {t} {part} q room l ex en ey et =
      record {
        few = omega arith;
        done = record { size = length-set part (at + n) y ∙ q.done.size; pair = next; bytes = λ b o i two er st m. byte b o i two er st m (ℕ_discrete i n); kept = λ m h. stay m h };
      }
    where
      next : t ≡ after r (8 * (n + 1))
      next = let z : 8 * n + 8 ≡ 8 * (n + 1) = omega arith in et ∙ ap (λ (v : Registers). after v 8) q.done.pair ∙ after-after r (8 * n) 8 ∙ ap (after r) z

      put : (b : ℕ → ℕ) (o : Registers) → Bits b → r ≡ after o (72 * e) → ElementStands c table d g b e → y ≡ binary (scrambled b (outputs o)) (72 * e + 8 * n) 8
      put b o two er st =
          let here : s ≡ after o (72 * e + 8 * n) = q.done.pair ∙ ap (λ (v : Registers). after v (8 * n)) er ∙ after-after o (72 * e) (8 * n) in
          let z : 2 * (36 * e + 4 * n) ≡ 72 * e + 8 * n = omega arith in
          let word : w ≡ binary b (72 * e + 8 * n) 8 = en.bits b (36 * e + 4 * n) (λ k m. four b st k m) ∙ ap (λ (v : ℕ). binary b v 8) z in
          ey ∙ ap (λ (v : Registers). bit_xor w (word_of v 8)) here ∙ taken-off b o (72 * e + 8 * n) two word
        where
          four : (b : ℕ → ℕ) → ElementStands c table d g b e → (k : ℕ) → k < 4 → Stands 2 d g b (36 * e + 4 * n + k) (entry_element c x k)
          four b st k m =
              let i : 36 * e + (4 * n + k) ≡ 36 * e + 4 * n + k = omega arith in
              let p = table-element c table e n k m ∙ ap (λ (v : ℕ). entry_element c v k) (sym ex) in
              subst (λ (v : ℕ). Stands 2 d g b v (entry_element c x k)) i (subst (Stands 2 d g b (36 * e + (4 * n + k))) p (st (4 * n + k) (omega arith)))

      byte :
          (b : ℕ → ℕ) (o : Registers) (i : ℕ) → Bits b → r ≡ after o (72 * e) → ElementStands c table d g b e → i < n + 1 → Dec (i ≡ n)
          → get_or (set part (at + n) y) (at + i) 0 ≡ binary (scrambled b (outputs o)) (72 * e + 8 * i) 8
      byte b o i two er st m (yes z) = rw z (get_or-set_same part (at + n) y 0 (omega (arith, q.done.size)) ∙ put b o two er st)
      byte b o i two er st m (no z) =
          get_or-set_other part (at + n) (at + i) y 0 (λ v. z (omega arith)) ∙ q.done.bytes b o i two er st (omega arith)

      stay : (m : ℕ) → (at ≤ m → m < at + 9 → ⊥) → get_or (set part (at + n) y) m 0 ≡ get_or before m 0
      stay m h = get_or-set_other part (at + n) m y 0 (λ v. h (omega arith) (omega arith)) ∙ q.done.kept m h

  pub quads-end : {n : ℕ} {s : Registers} {part : List ℕ} → Quads c table e d g at r before n s part → 9 ≤ n → ElementPut c table e d g at r before 9 s part
  quads-end {n} {s} {part} q l = let z : n ≡ 9 = omega (arith, q.few) in subst (λ (v : ℕ). ElementPut c table e d g at r before v s part) z q.done

-- ---- the element if it is given
pub not_chosen :
    {c : Cell} {table : List ℕ} {e : ℕ} {d g : List ℕ} {n : ℕ} {r s : Registers} {before : List ℕ} → n ≡ 0 → s ≡ after r 72
    → ChosenPut c table e d g n r before s before
not_chosen z es = record { pair = es; none = λ h. refl; some = λ h. absurd (h z) }

pub is-chosen :
    {c : Cell} {table : List ℕ} {e : ℕ} {d g : List ℕ} {n : ℕ} {r s : Registers} {before part : List ℕ} → (n ≡ 0 → ⊥)
    → ElementPut c table e d g (9 * (n - 1)) r before 9 s part → ChosenPut c table e d g n r before s part
is-chosen z p = record { pair = p.pair; none = λ h. absurd (z h); some = λ h. p }

-- ---- element after element
pub element-in : {c : Cell} {elements : ℕ} {table from d g part : List ℕ} (e : ℕ) → GivenIn c elements table from d g part → e < elements → ElementIn c table e d g
element-in {elements = elements} e h l = record { table-in = table_of elements e h.table-in l; axis = h.axis }

module _ {c : Cell} {elements : ℕ} {table from d g : List ℕ} {r : Registers} {before : List ℕ} (h : GivenIn c elements table from d g before) where
  pub given-start : Given c elements table from d g r before 0 r before
  given-start =
      record {
        few = omega arith;
        pair = sym (after_none r);
        done = record { size = refl; bytes = λ b e i two l. absurd (omega arith); kept = λ m n. refl };
      }

  pub given-room : {e : ℕ} {s : Registers} {part : List ℕ} → Given c elements table from d g r before e s part → 9 * get_or from e 0 ≤ length part
  given-room {e} q = omega (arith, q.done.size, h.inside e)

  module _ {e n : ℕ} {s t : Registers} {part part' : List ℕ} (q : Given c elements table from d g r before e s part) (l : e < elements) (en : n ≡ get_or from e 0)
      (p : ChosenPut c table e d g n s part t part') where
    next-pair : t ≡ after r (72 * (e + 1))
    next-pair =
        let z : 72 * e + 72 ≡ 72 * (e + 1) = omega arith in
        p.pair ∙ ap (λ (v : Registers). after v 72) q.pair ∙ after-after r (72 * e) 72 ∙ ap (after r) z

    -- it is not given
    module _ (z : n ≡ 0) where
      same : part' ≡ part
      same = p.none z

      none_before : (x : ℕ) → x < e + 1 → is_given from x ≡ true → x < e
      none_before x m k = pick (ℕ_discrete x e)
        where
          pick : Dec (x ≡ e) → x < e
          pick (yes v) = absurd (let w = ltb-true 0 (get_or from x 0) k in omega (arith, ap (λ (i : ℕ). get_or from i 0) v))
          pick (no v) = omega arith

      without : GivenPut c table from d g r before (e + 1) part'
      without =
          rw same
          (record {
            size = q.done.size;
            bytes = λ b x i two m k. q.done.bytes b x i two (none_before x m k) k;
            kept = λ m f. q.done.kept m (λ x v. f x (omega arith));
          })

    -- it is given: its bytes are no other's
    module _ (z : n ≡ 0 → ⊥) where
      abbrev put : ElementPut c table e d g (9 * (n - 1)) s part 9 t part'
      put = p.some z

      is-given : is_given from e ≡ true
      is-given = lt-ltb 0 (get_or from e 0) (some z)
        where
          some : (n ≡ 0 → ⊥) → 0 < get_or from e 0
          some v = omega (arith, en)

      others : (x i : ℕ) → is_given from x ≡ true → (x ≡ e → ⊥) → i < 9 → 9 * (n - 1) ≤ 9 * (get_or from x 0 - 1) + i → 9 * (get_or from x 0 - 1) + i < 9 * (n - 1) + 9 → ⊥
      others x i k ne m a b =
          let v = ltb-true 0 (get_or from x 0) k in
          let w = ltb-true 0 (get_or from e 0) is-given in
          ne (h.apart.one x e k is-given (omega (arith, en)))

      byte :
          (b : ℕ → ℕ) (x i : ℕ) → Bits b → x < e + 1 → is_given from x ≡ true → ElementStands c table d g b x → i < 9 → Dec (x ≡ e)
          → get_or part' (9 * (get_or from x 0 - 1) + i) 0 ≡ binary (scrambled b (outputs r)) (72 * x + 8 * i) 8
      byte b x i two m k st li (yes v) = rw v (ap (λ (y : ℕ). get_or part' (9 * (y - 1) + i) 0) (sym en) ∙ put.bytes b r i two q.pair (subst (ElementStands c table d g b) v st) li)
      byte b x i two m k st li (no v) = put.kept (9 * (get_or from x 0 - 1) + i) (others x i k v li) ∙ q.done.bytes b x i two (omega arith) k st li

      outside : (m : ℕ) → (get_or from e 0 ≡ suc (m / 9) → ⊥) → 9 * (n - 1) ≤ m → m < 9 * (n - 1) + 9 → ⊥
      outside m f a b = let w = ltb-true 0 (get_or from e 0) is-given in f (omega (arith, en))

      with_it : GivenPut c table from d g r before (e + 1) part'
      with_it =
          record {
            size = put.size ∙ q.done.size;
            bytes = λ b x i two m k st li. byte b x i two m k st li (ℕ_discrete x e);
            kept = λ m f. put.kept m (outside m (f e (omega arith) is-given)) ∙ q.done.kept m (λ x v. f x (omega arith));
          }

    pub given-on : Given c elements table from d g r before (e + 1) t part'
    given-on = record { few = omega arith; pair = next-pair; done = pick (ℕ_discrete n 0) }
      where
        pick : Dec (n ≡ 0) → GivenPut c table from d g r before (e + 1) part'
        pick (yes z) = without z
        pick (no z) = with_it z

  pub given-end : {e : ℕ} {s : Registers} {part : List ℕ} → Given c elements table from d g r before e s part → elements ≤ e → GivenPut c table from d g r before elements part
  given-end {e} {s} {part} q l = let z : e ≡ elements = omega (arith, q.few) in subst (λ (v : ℕ). GivenPut c table from d g r before v part) z q.done
