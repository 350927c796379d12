-- What the functions ask, over plain numbers and cursors. Assumes nothing.
use Prim.Native.Nat.{ℕ, suc, ◌+◌, ◌-◌, ◌*◌, ◌/◌, ◌%◌, ◌≤◌, ◌<◌}
use mathlib.Core.Path.{◌≡◌, refl, sym, ap, ap₂, ◌∙◌, subst}
use mathlib.Core.Bool.{Bool, true, false, cond}
use native.Mathlib.Nat.{zero-mul, suc-mul, mod-lt, mod_self, mod-eq_of_lt, div-add-mod', div-lt_iff_lt-mul, mul-le-mul_right}
use native.Mathlib.Numerals.{add-one}
use native.Mathlib.Omega.{arith}
use native.Mathlib.Decide.{dec_le}
use lib.Dec.{ltb}
use borrow.Author.Tests.{lt-ltb, ltb-true, ltb-false, lt-leb}
use Rattle.base.proofs.Tests.{by-test, on-if}
use Rattle.base.proofs.Rows.{at-div}
use Rattle.base.specs.Counts.{cnt}
use Rattle.base.proofs.Counts.{Nth, cnt-none, cnt-more, cnt-own, cnt-not, cnt-le, cnt-lt}
use Rattle.interleaver.specs.Matrix.{rows_of, empty_of, column_at, place_at, kept, read_at, quad_at}
use Rattle.interleaver.specs.Cursor.{cursor_at, step_of, Stands, empty_in, next_of, read_by, AtRead, Seeks}
use Rattle.interleaver.specs.declared.Cursor.{Cursor}
use Rattle.interleaver.proofs.Columns.{column-small}
use Rattle.interleaver.proofs.Undo.{some-rows, few-empty, all-kept, read_is, read-of, quad-place, place_kept}
use Rattle.interleaver.proofs.Closed.{place-row, none-empty, closed, all-empty}

-- ---- a cursor at a read of the matrix
module _ (R : ℕ) (least : 1 ≤ R) (c : Cursor) (a : AtRead R c) where
  place_here : place_at (rows_of R) (read_by R c) ≡ c.place
  place_here =
      place-row (rows_of R) c.order (c.place / 32) (omega (arith, a.inside))
      ∙ (let e : 32 * (c.place / 32) + column_at c.order ≡ c.place = omega (arith, a.column) in e)

  -- its read is kept where its place is not empty
  here-kept : empty_of R ≤ c.place → kept (rows_of R) (empty_of R) (read_by R c) ≡ true
  here-kept l = place_kept (rows_of R) (some-rows R least) (empty_of R) (omega arith) (read_by R c) (omega (arith, place_here))

  here-dropped : c.place < empty_of R → kept (rows_of R) (empty_of R) (read_by R c) ≡ false
  unfolding kept
  here-dropped l = lt-leb (empty_of R) (place_at (rows_of R) (read_by R c)) (omega (arith, place_here))

  here_in : c.order < 32 → read_by R c < 32 * rows_of R
  here_in l = omega (arith, a.inside, mul-le-mul_right (rows_of R) l, suc-mul c.order (rows_of R))

  -- the next read
  module _ (i : ℕ) where
    next-at : (next_of c i).at ≡ i
    unfolding next_of
    next-at = on-if (λ (r : Cursor). r.at ≡ i) (ltb (c.place + 32) (c.quads + c.empty)) (λ e. refl) (λ e. refl)

    next-number : read_by R (next_of c i) ≡ suc (read_by R c)
    unfolding next_of
    next-number =
        on-if (λ (r : Cursor). read_by R r ≡ suc (read_by R c)) (ltb (c.place + 32) (c.quads + c.empty))
        (λ e. omega arith)
        (λ e. omega (arith, a.quads, a.empty, a.inside, ltb-false (c.place + 32) (c.quads + c.empty) e, column-small (c.order + 1), more))
      where
        more : (c.order + 1) * rows_of R ≡ c.order * rows_of R + rows_of R
        more = ap (λ (x : ℕ). x * rows_of R) (add-one c.order) ∙ suc-mul c.order (rows_of R)

    next-read : AtRead R (next_of c i)
    unfolding next_of
    next-read =
        on-if (AtRead R) (ltb (c.place + 32) (c.quads + c.empty))
        (λ e. record {
          quads = a.quads;
          empty = a.empty;
          inside = omega (arith, a.quads, a.empty, ltb-true (c.place + 32) (c.quads + c.empty) e);
          column = omega (arith, a.column);
        })
        (λ e. record {
          quads = a.quads;
          empty = a.empty;
          inside = omega (arith, column-small (c.order + 1));
          column = mod-eq_of_lt (column-small (c.order + 1));
        })

-- ---- seek
same-cursor : {a b : Cursor} → a.quads ≡ b.quads → a.at ≡ b.at → a.empty ≡ b.empty → a.order ≡ b.order → a.place ≡ b.place → a ≡ b
same-cursor p q r s t = λ k. record { quads = p k; at = q k; empty = r k; order = s k; place = t k }

module _ (R i : ℕ) (c : Cursor) (s : Seeks R i c) where
  some-quad : 1 ≤ R
  some-quad = omega (arith, s.inside)

  -- a quad is left, so that a column is
  seeks-order : c.order < 32
  seeks-order = go (dec_le (suc c.order) 32)
    where
      far : 32 ≤ c.order → ⊥
      far l =
          omega
          (arith, s.inside, s.before, all-kept R some-quad, cnt-le (kept (rows_of R) (empty_of R)) (32 * rows_of R) (read_by R c) (omega (arith, mul-le-mul_right (rows_of R) l)))

      go : Dec (suc c.order ≤ 32) → c.order < 32
      go (yes l) = l
      go (no l) = absurd (far (omega arith))

  pub seeks-fit : (c.place + c.empty < 8192) × (c.quads ≤ 4096) × (c.order < 32)
  seeks-fit = (omega (arith, s.few, s.read.inside, s.read.empty), omega (arith, s.few, s.read.quads), seeks-order)

  -- an empty place is passed
  pub seeks-on : c.place < c.empty → (r : Cursor) → r ≡ next_of c c.at → Seeks R i r
  seeks-on l r e = subst (Seeks R i) (sym e) passed
    where
      passed : Seeks R i (next_of c c.at)
      passed =
          record {
            few = s.few;
            inside = s.inside;
            at = next-at R some-quad c s.read c.at ∙ s.at;
            read = next-read R some-quad c s.read c.at;
            before =
                ap (cnt (kept (rows_of R) (empty_of R))) (next-number R some-quad c s.read c.at)
                ∙ cnt-not (kept (rows_of R) (empty_of R)) (read_by R c) (here-dropped R some-quad c s.read (omega (arith, s.read.empty))) ∙ s.before;
          }

  pub seeks-less : (r : Cursor) → r ≡ next_of c c.at → 32 * rows_of R - read_by R r < 32 * rows_of R - read_by R c
  seeks-less r e =
      omega
      (arith, ap (read_by R) e, next-number R some-quad c s.read c.at, here_in R some-quad c s.read seeks-order)

  -- and a quad is found
  pub seeks-end : c.empty ≤ c.place → c ≡ cursor_at R i
  unfolding cursor_at
  seeks-end l =
      same-cursor s.read.quads s.at s.read.empty
      (sym (ap (λ (t : ℕ). t / rows_of R) here ∙ at-div c.order (rows_of R) (c.place / 32) (omega (arith, s.read.inside))))
      (sym (ap (place_at (rows_of R)) here ∙ place_here R some-quad c s.read))
    where
      here : read_at R i ≡ read_by R c
      here =
          ap (read_at R) (sym s.before)
          ∙ read-of R some-quad (read_by R c) (here_in R some-quad c s.read seeks-order)
          (here-kept R some-quad c s.read (omega (arith, s.read.empty)))

  seeks-own : Seeks c.quads c.at c
  seeks-own = subst (λ (x : ℕ). Seeks x c.at c) (sym s.read.quads) (subst (λ (x : ℕ). Seeks R x c) (sym s.at) s)

-- ---- start: columns are passed one by one. left is the position less the reads passed that are kept, g whether the column that is read
-- j-th has an empty place
pub none_passed : (d m i : ℕ) → i + 0 * m ≡ i + cnt (empty_in d) 0
none_passed d m i = omega (arith, zero-mul m, cnt-none (empty_in d))

module _ (R i : ℕ) (in-i : i < R) (left j g : ℕ) (inv : left + j * rows_of R ≡ i + cnt (empty_in (empty_of R)) j) (eg : g ≡ cond (empty_in (empty_of R) j) 1 0) where
  some : 0 < rows_of R
  some = some-rows R (omega arith)

  few : empty_of R < 32
  few = few-empty R (omega arith)

  pub column-passed : rows_of R ≤ left + g → left + g - rows_of R + (j + 1) * rows_of R ≡ i + cnt (empty_in (empty_of R)) (j + 1)
  column-passed l =
      let s : (j + 1) * rows_of R ≡ j * rows_of R + rows_of R = ap (λ (x : ℕ). x * rows_of R) (add-one j) ∙ suc-mul j (rows_of R) in
      omega (arith, ap (cnt (empty_in (empty_of R))) (add-one j), cnt-more (empty_in (empty_of R)) j)

  -- the column of the position, and its row there
  pub column-found :
      R ≤ 4096 → j < 32 → left + g < rows_of R → (x : ℕ) → x ≡ column_at j
      → (c : Cursor) → c.quads ≡ R → c.at ≡ i → c.empty ≡ empty_of R → c.order ≡ j → c.place ≡ 32 * (left + g) + x
      → c ≡ cursor_at R i
  column-found most in-j l x ex c p q r u v = seeks-end R i c seeks (omega (arith, in_place))
    where
      in_place : empty_of R ≤ 32 * (left + g) + column_at j
      in_place =
          by-test (empty_in (empty_of R) j)
          (λ h. let z : g ≡ 1 = eg ∙ ap {B = ℕ} (λ (b : Bool). cond b 1 0) h in omega (arith, few))
          (λ h. omega (arith, none-empty (rows_of R) (empty_of R) some few j h))

      same_read : read_by R c ≡ j * rows_of R + (left + g)
      same_read = omega (arith, ap (λ (y : ℕ). y * rows_of R) u, column-small j)

      before : cnt (kept (rows_of R) (empty_of R)) (j * rows_of R + (left + g)) ≡ i
      before = omega (arith, closed (rows_of R) (empty_of R) some few j (left + g) l in_place, cnt-more (empty_in (empty_of R)) j)

      seeks : Seeks R i c
      seeks =
          record {
            few = most;
            inside = in-i;
            at = q;
            read =
                record {
                  quads = p;
                  empty = r;
                  inside = omega (arith, column-small j);
                  column = omega (arith, column-small j, ap column_at u);
                };
            before = ap (cnt (kept (rows_of R) (empty_of R))) same_read ∙ before;
          }

-- the last column is not passed
pub none_left : (R i left : ℕ) → i < R → left + 32 * rows_of R ≡ i + cnt (empty_in (empty_of R)) 32 → ⊥
none_left R i left in-i inv =
    let least : 1 ≤ R = omega arith in
    omega (arith, all-empty (rows_of R) (empty_of R) (some-rows R least) (few-empty R least))

-- ---- quad and step: what standing says of the fields
pub record Standing (R i : ℕ) (c : Cursor) : Type 0 where
  pub read : AtRead R c
  pub order : c.order < 32
  pub number : read_by R c ≡ read_at R i
  pub place : c.place ≡ quad_at R i + empty_of R

pub standing : (c : Cursor) → Stands c → Standing c.quads c.at c
unfolding cursor_at place_at
standing c s =
    let l : 1 ≤ c.quads = omega (arith, s.inside) in
    let m : 0 < rows_of c.quads = some-rows c.quads l in
    let j : c.order ≡ read_at c.quads c.at / rows_of c.quads = ap (λ (x : Cursor). x.order) s.whole in
    let p : c.place ≡ 32 * (read_at c.quads c.at % rows_of c.quads) + column_at (read_at c.quads c.at / rows_of c.quads) = ap (λ (x : Cursor). x.place) s.whole in
    let small = column-small (read_at c.quads c.at / rows_of c.quads) in
    let row : c.place / 32 ≡ read_at c.quads c.at % rows_of c.quads = omega (arith, small) in
    let b : read_at c.quads c.at / rows_of c.quads < 32 = (div-lt_iff_lt-mul m).1 (read_is c.quads l c.at s.inside).1 in
    record {
      read =
          record {
            quads = refl;
            empty = ap (λ (x : Cursor). x.empty) s.whole;
            inside = omega (arith, small, mod-lt (read_at c.quads c.at) m);
            column = omega (arith, small, ap column_at j);
          };
      order = omega arith;
      number = rw (j, row) (div-add-mod' (read_at c.quads c.at) (rows_of c.quads));
      place = p ∙ sym (quad-place c.quads l c.at s.inside);
    }

module _ (c : Cursor) (s : Stands c) where
  st : Standing c.quads c.at c
  st = standing c s

  one : 1 ≤ c.quads
  one = omega (arith, s.inside)

  pub stands-fit : (c.place + c.empty < 8192) × (c.quads ≤ 4096) × (c.order < 32)
  stands-fit = (omega (arith, s.few, st.read.inside, st.read.empty), s.few, st.order)

  -- from a read that is kept the count goes up by one
  module _ (d : c.at + 1 ≡ c.quads → ⊥) (p : Cursor) (e : p ≡ next_of c (c.at + 1)) where
    next-seeks : Seeks c.quads (c.at + 1) p
    next-seeks = subst (Seeks c.quads (c.at + 1)) (sym e) passed
      where
        is : Nth (kept (rows_of c.quads) (empty_of c.quads)) (32 * rows_of c.quads) c.at (read_at c.quads c.at)
        is = read_is c.quads one c.at s.inside

        passed : Seeks c.quads (c.at + 1) (next_of c (c.at + 1))
        passed =
            record {
              few = s.few;
              inside = omega (arith, s.inside);
              at = next-at c.quads one c st.read (c.at + 1);
              read = next-read c.quads one c st.read (c.at + 1);
              before =
                  ap (cnt (kept (rows_of c.quads) (empty_of c.quads))) (next-number c.quads one c st.read (c.at + 1) ∙ ap suc st.number)
                  ∙ cnt-own (kept (rows_of c.quads) (empty_of c.quads)) (read_at c.quads c.at) is.0 ∙ omega (arith, is.2);
            }

    pub next-own : Seeks p.quads p.at p
    next-own = seeks-own c.quads (c.at + 1) p next-seeks

    pub next-is : (r : Cursor) → r ≡ cursor_at p.quads p.at → r ≡ step_of c
    next-is r h =
        h ∙ ap₂ cursor_at next-seeks.read.quads next-seeks.at ∙ ap (cursor_at c.quads) (sym (mod-eq_of_lt (omega (arith, s.inside))))

  -- a row down: a place below the first row is not empty, and after the last position there is none
  module _ (l : c.place + 32 < c.quads + c.empty) where
    abbrev down : Cursor
    down = next_of c (c.at + 1)

    down-place : down.place ≡ c.place + 32
    unfolding next_of
    down-place = rw (lt-ltb (c.place + 32) (c.quads + c.empty) l) refl

    down-order : down.order ≡ c.order
    unfolding next_of
    down-order = rw (lt-ltb (c.place + 32) (c.quads + c.empty) l) refl

    down-read : AtRead c.quads down
    down-read = next-read c.quads one c st.read (c.at + 1)

    not_last : c.at + 1 ≡ c.quads → ⊥
    not_last e =
        let R = c.quads in
        let is = read_is R one c.at s.inside in
        let t : read_by R down ≡ suc (read_at R c.at) = next-number R one c st.read (c.at + 1) ∙ ap suc st.number in
        let in-t : read_by R down < 32 * rows_of R = here_in R one down down-read (omega (arith, down-order, st.order)) in
        let k : kept (rows_of R) (empty_of R) (read_by R down) ≡ true = here-kept R one down down-read (omega (arith, down-place, few-empty R one)) in
        omega (
          arith,
          all-kept R one,
          is.2,
          cnt-own (kept (rows_of R) (empty_of R)) (read_at R c.at) is.0,
          ap (cnt (kept (rows_of R) (empty_of R))) t,
          cnt-lt (kept (rows_of R) (empty_of R)) (read_by R down) (32 * rows_of R) k in-t,
        )

    pub down_is : (r : Cursor) → r ≡ next_of c (c.at + 1) → r ≡ step_of c
    down_is r e =
        next-is not_last r e r
        (seeks-end r.quads r.at r (next-own not_last r e)
        (omega (arith, ap (λ (x : Cursor). x.place) e, ap (λ (x : Cursor). x.empty) e, down-place, down-read.empty, few-empty c.quads one)))

  -- after the last position the first read is sought
  pub first-own :
      (x : ℕ) → x ≡ column_at 0
      → (r : Cursor) → r.quads ≡ c.quads → r.at ≡ 0 → r.empty ≡ c.empty → r.order ≡ 0 → r.place ≡ x
      → Seeks r.quads r.at r
  first-own x ex r p q u v w = seeks-own c.quads 0 r first
    where
      number : read_by c.quads r ≡ 0
      number = omega (arith, ap (λ (y : ℕ). y * rows_of c.quads) v, zero-mul (rows_of c.quads), column-small 0)

      first : Seeks c.quads 0 r
      first =
          record {
            few = s.few;
            inside = omega (arith, s.inside);
            at = q;
            read =
                record {
                  quads = p;
                  empty = u ∙ st.read.empty;
                  inside = omega (arith, column-small 0, one);
                  column = omega (arith, column-small 0, ap column_at v);
                };
            before = ap (cnt (kept (rows_of c.quads) (empty_of c.quads))) number ∙ cnt-none (kept (rows_of c.quads) (empty_of c.quads));
          }

  pub first-is : c.at + 1 ≡ c.quads → (r : Cursor) → r ≡ cursor_at c.quads 0 → r ≡ step_of c
  first-is d r e = e ∙ ap (cursor_at c.quads) (sym (ap (λ (x : ℕ). x % c.quads) d ∙ mod_self c.quads))
