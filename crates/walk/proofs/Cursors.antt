-- THE LAWS OF THE CURSOR over any set of half blocks for each row: its run's places are the channel's next ones, and past the last row
-- there are none left. Assumes that each row's spans are apart and in ascending order.
use Prim.Native.Nat.{ℕ, zero, suc, ◌+◌, ◌-◌, ◌*◌, ◌/◌, ◌%◌, ◌^◌, ◌≤◌, ◌<◌}
use mathlib.Core.Path.{◌≡◌, refl, sym, ap, ap₂, ◌∙◌, subst}
use mathlib.Core.Bool.{Bool, true, false, ◌&&◌, ◌||◌}
use mathlib.Core.List.{List}
use native.Mathlib.Nat.{suc-mul, zero-mul}
use native.Mathlib.Decide.{dec_le}
use native.Mathlib.Numerals.{add-one}
use native.Mathlib.Omega.{arith}
use lib.Dec.{leb, ltb}
use borrow.Author.Tests.{le-leb, lt-ltb, le-ltb, leb-true, ltb-true, ltb-false}
use Rattle.base.proofs.Tests.{by-test, both, or_right}
use Rattle.base.proofs.Rows.{at-div, at-mod, row_inside}
use Rattle.base.specs.Counts.{cnt}
use Rattle.base.proofs.Counts.{cnt-skip, cnt-none, cnt-le}
use Rattle.walk.specs.declared.Cursor.{Cursor}
use Rattle.walk.specs.declared.Row.{Row}
use Rattle.walk.specs.declared.Run.{Run}
use Rattle.walk.specs.declared.Span.{Span}
use Rattle.walk.specs.Runs.{bit_of, open_count, run_count, Laid}
use Rattle.walk.specs.Tables.{row_mask, row_first, row_end, span_from, span_to, in_spans, in_tables, Spans, cursor_start, cursor_run, cursor_next, cursor_at, CursorIn, AtIndex}
use Rattle.walk.proofs.Runs.{halves-count, owned_at, index_at, within-at}

-- ---- spans
span-in : (spans : List Span) (i n b k : ℕ) → k < n → span_from spans (i + k) ≤ b → b < span_to spans (i + k) → in_spans spans i n b ≡ true
unfolding in_spans
span-in spans i zero b k h l m = absurd (omega arith)
span-in spans i (suc n) b k h l m = pick (dec_le (suc k) n) (λ d. span-in spans i n b k d l m)
  where
    pick : Dec (suc k ≤ n) → (k < n → in_spans spans i n b ≡ true) → (leb (span_from spans (i + n)) b && ltb b (span_to spans (i + n))) || in_spans spans i n b ≡ true
    pick (yes d) more = or_right (leb (span_from spans (i + n)) b && ltb b (span_to spans (i + n))) (in_spans spans i n b) (more d)
    pick (no d) more =
        let e : n ≡ k = omega arith in
        rw e (ap (λ (x : Bool). x || in_spans spans i k b) (both (le-leb (span_from spans (i + k)) b l) (lt-ltb b (span_to spans (i + k)) m)))

span-out :
    (spans : List Span) (i n b : ℕ) → ((k : ℕ) → i ≤ k → k < i + n → span_from spans k ≤ b → b < span_to spans k → ⊥) → in_spans spans i n b ≡ false
unfolding in_spans
span-out spans i zero b h = refl
span-out spans i (suc n) b h =
    rw (here, span-out spans i n b (λ k l m. h k l (omega arith))) refl
  where
    here : leb (span_from spans (i + n)) b && ltb b (span_to spans (i + n)) ≡ false
    here =
        by-test (leb (span_from spans (i + n)) b)
        (λ x. by-test (ltb b (span_to spans (i + n)))
        (λ y. absurd (h (i + n) (omega arith) (omega arith) (leb-true _ b x) (ltb-true b _ y)))
        (λ y. rw (x, y) refl))
        (λ x. rw x refl)

module _ {W S : ℕ} {rows : List Row} {spans : List Span} (t : Spans W S rows spans) where
  abbrev own : ℕ → Bool
  own = in_tables W rows spans

  abbrev row_has : ℕ → ℕ → Bool
  row_has s b = in_spans spans (row_first rows s) (row_end rows s - row_first rows s) b

  row-own : (s k : ℕ) → k < W → own (s * W + k) ≡ row_has s (k / 6) && bit_of (row_mask rows s) (k % 6)
  unfolding in_tables
  row-own s k h = ap₂ (λ (x y : ℕ). row_has x (y / 6) && bit_of (row_mask rows x) (y % 6)) (at-div s W k h) (at-mod s W k h)

  -- a stretch of a row that no span meets
  clear :
      (s u v : ℕ) → u ≤ v → v ≤ W → ((i k : ℕ) → row_first rows s ≤ i → i < row_end rows s → u ≤ k → k < v → span_from spans i ≤ k / 6 → k / 6 < span_to spans i → ⊥)
      → cnt own (s * W + v) ≡ cnt own (s * W + u)
  clear s u v h l free =
      let e : s * W + v ≡ s * W + u + (v - u) = omega arith in
      ap (cnt own) e
      ∙ cnt-skip own (s * W + u) (v - u) (λ x m n.
      let k = x - s * W in
      let d : x ≡ s * W + k = omega arith in
      ap own d ∙ row-own s k (omega arith)
      ∙ ap (λ (z : Bool). z && bit_of (row_mask rows s) (k % 6))
      (span-out spans (row_first rows s) (row_end rows s - row_first rows s) (k / 6) (λ i y z. free i k y (omega arith) (omega arith) (omega arith))))

  -- a row is entered at its first span
  enter : (s : ℕ) → s ≤ S → cnt own (cursor_at W rows spans (record { s = s; i = row_first rows s })) ≡ cnt own (s * W)
  unfolding cursor_at
  enter s h =
      by-test (ltb (row_first rows s) (row_end rows s))
      (λ e. let l = ltb-true (row_first rows s) (row_end rows s) e in
      let m : s < S = inside l in
      rw e (clear s 0 (6 * span_from spans (row_first rows s)) (omega arith)
      (omega (arith, t.wide s (row_first rows s) m (omega arith) l, t.span s (row_first rows s) m (omega arith) l))
      (λ i k a b c d f g. early i k m a b (omega arith) f)
      ∙ ap (cnt own) (none (s * W))))
      (λ e. let l = ltb-false (row_first rows s) (row_end rows s) e in
      rw e (clear s 0 W (omega arith) (omega arith) (λ i k a b c d f g. omega arith) ∙ ap (cnt own) (none (s * W))))
    where
      none : (x : ℕ) → x + 0 ≡ x
      none x = omega arith

      inside : row_first rows s < row_end rows s → s < S
      inside l = pick (dec_le (suc s) S)
        where
          pick : Dec (suc s ≤ S) → s < S
          pick (yes d) = d
          pick (no d) = let e : S ≡ s = omega arith in absurd (omega (arith, subst (λ (x : ℕ). row_end rows x ≤ row_first rows x) e t.end))

      early : (i k : ℕ) → s < S → row_first rows s ≤ i → i < row_end rows s → k < 6 * span_from spans (row_first rows s) → span_from spans i ≤ k / 6 → ⊥
      early i k m a b c d = pick (dec_le (suc (row_first rows s)) i)
        where
          pick : Dec (suc (row_first rows s) ≤ i) → ⊥
          pick (yes x) = omega (arith, t.apart s (row_first rows s) i m (omega arith) x b, t.span s (row_first rows s) m (omega arith) (omega arith))
          pick (no x) = let e : row_first rows s ≡ i = omega arith in omega (arith, ap (span_from spans) e)

  -- span i of row s
  module _ (s i : ℕ) (row : s < S) (from : row_first rows s ≤ i) (last : i < row_end rows s) where
    abbrev here : ℕ
    here = s * W + 6 * span_from spans i

    abbrev size : ℕ
    size = span_to spans i - span_from spans i

    six : (b r : ℕ) → b < size → r < 6 → own (here + (6 * b + r)) ≡ bit_of (row_mask rows s) r
    six b r h l =
        let k = 6 * span_from spans i + (6 * b + r) in
        let e : here + (6 * b + r) ≡ s * W + k = omega arith in
        let d : k / 6 ≡ span_from spans i + b = omega arith in
        let m : k % 6 ≡ r = omega arith in
        let g : row_first rows s + (i - row_first rows s) ≡ i = omega arith in
        ap own e ∙ row-own s k (omega (arith, t.wide s i row from last))
        ∙ (rw (m, d) (ap (λ (x : Bool). x && bit_of (row_mask rows s) r)
        (span-in spans (row_first rows s) (row_end rows s - row_first rows s) (span_from spans i + b) (i - row_first rows s) (omega arith)
        (rw g (omega arith)) (rw g (omega arith)))))

    run_inside : here + 6 * size ≤ S * W
    run_inside = omega (arith, t.wide s i row from last, t.span s i row from last, row_inside s S W (6 * span_to spans i) row (t.wide s i row from last))

    passed : cnt own (s * W + 6 * span_to spans i) ≡ cnt own here + size * open_count (row_mask rows s)
    passed =
        let e : s * W + 6 * span_to spans i ≡ here + 6 * size = omega (arith, t.span s i row from last) in
        ap (cnt own) e ∙ halves-count own (row_mask rows s) here size six size (omega arith)

    pub span-laid : (j : ℕ) → cnt own here ≡ j → Laid own (S * W) j (record { first = here; halves = size; mask = row_mask rows s })
    unfolding run_count
    span-laid j e =
        record {
          before = omega (arith, t.span s i row from last, run_inside);
          inside = run_inside;
          owned = λ k h. owned_at own (row_mask rows s) here size six k h;
          index = λ k h. index_at own (row_mask rows s) here size six k h ∙ ap (λ (x : ℕ). x + k) e;
          within = λ k h. omega (arith, within-at (row_mask rows s) size k h, run_inside);
          total = omega (arith, passed, e, cnt-le own (s * W + 6 * span_to spans i) (S * W) (omega (arith, t.span s i row from last, run_inside)));
        }

    -- the spans up to it end before its end, and the next ones start later
    before : (k : ℕ) → row_first rows s ≤ k → k ≤ i → span_to spans k ≤ span_to spans i
    before k a b = pick (dec_le (suc k) i)
      where
        pick : Dec (suc k ≤ i) → span_to spans k ≤ span_to spans i
        pick (yes x) = omega (arith, t.apart s k i row a x last, t.span s i row from last)
        pick (no x) = let e : k ≡ i = omega arith in omega (arith, ap (span_to spans) e)

    later : (k : ℕ) → i + 1 ≤ k → k < row_end rows s → span_from spans (i + 1) ≤ span_from spans k
    later k a b = pick (dec_le (suc (i + 1)) k)
      where
        pick : Dec (suc (i + 1) ≤ k) → span_from spans (i + 1) ≤ span_from spans k
        pick (yes x) = omega (arith, t.apart s (i + 1) k row (omega arith) x b, t.span s (i + 1) row (omega arith) (omega arith))
        pick (no x) = let e : i + 1 ≡ k = omega arith in omega (arith, ap (span_from spans) e)

    pub span-next : cnt own (cursor_at W rows spans (record { s = s; i = i + 1 })) ≡ cnt own here + size * open_count (row_mask rows s)
    unfolding cursor_at
    span-next =
        by-test (ltb (i + 1) (row_end rows s))
        (λ e. let l = ltb-true (i + 1) (row_end rows s) e in
        rw e (clear s (6 * span_to spans i) (6 * span_from spans (i + 1))
        (omega (arith, t.apart s i (i + 1) row from (omega arith) l))
        (omega (arith, t.wide s (i + 1) row (omega arith) l, t.span s (i + 1) row (omega arith) l))
        (λ k x a b c d f g. free k x (omega arith) a b c d f g)
        ∙ passed))
        (λ e. let l = ltb-false (i + 1) (row_end rows s) e in
        rw e (clear s (6 * span_to spans i) W (t.wide s i row from last) (omega arith)
        (λ k x a b c d f g. omega (arith, before k a (omega arith)))
        ∙ passed))
      where
        free :
            (k x : ℕ) → i + 1 < row_end rows s → row_first rows s ≤ k → k < row_end rows s → 6 * span_to spans i ≤ x → x < 6 * span_from spans (i + 1)
            → span_from spans k ≤ x / 6 → x / 6 < span_to spans k → ⊥
        free k x l a b c d f g = pick (dec_le k i)
          where
            pick : Dec (k ≤ i) → ⊥
            pick (yes y) = omega (arith, before k a y)
            pick (no y) = omega (arith, later k (omega arith) b)

-- ---- the cursor
module _ {W S : ℕ} {rows : List Row} {spans : List Span} (t : Spans W S rows spans) where
  pub starts : AtIndex W S rows spans (cursor_start rows) 0
  starts =
      let e : 0 * W ≡ 0 = zero-mul W in
      record {
        row = omega arith;
        from = omega arith;
        index = enter t 0 (omega arith) ∙ ap (cnt (in_tables W rows spans)) e ∙ cnt-none (in_tables W rows spans);
      }

  module _ {c : Cursor} {j : ℕ} (k : AtIndex W S rows spans c j) where
    pub run_in : S ≤ 14 → W ≤ 1200 → c.s < S → CursorIn W rows spans c
    run_in h w l = record { row = omega arith; wide = w; span = λ m. omega (arith, t.span c.s c.i l k.from m) }

    -- its run's places are the next ones
    pub run-laid : c.s < S → Laid (in_tables W rows spans) (S * W) j (cursor_run W rows spans c)
    unfolding cursor_at run_count
    run-laid l =
        by-test (ltb c.i (row_end rows c.s))
        (λ e. let i = k.index in rw e (span-laid t c.s c.i l k.from (ltb-true c.i (row_end rows c.s) e) j (rw e at i)))
        (λ e. rw e
        (record {
          before = omega (arith, row_inside c.s S W W l (omega arith), t.some);
          inside = omega (arith, row_inside c.s S W 0 l (omega arith));
          owned = λ x h. absurd (nothing x h);
          index = λ x h. absurd (nothing x h);
          within = λ x h. absurd (nothing x h);
          total = (
              let i = rw e at k.index in
              let most = cnt-le (in_tables W rows spans) (c.s * W + W) (S * W) (row_inside c.s S W W l (omega arith)) in
              omega (arith, i, zero-mul (open_count (row_mask rows c.s)), most)
              );
        }))
      where
        nothing : (x : ℕ) → x < 0 * open_count (row_mask rows c.s) → ⊥
        nothing x h = omega (arith, zero-mul (open_count (row_mask rows c.s)))

    -- and the next cursor stands after them: where the row has no more, at the next row's first span
    new_row : {n : ℕ} → c.s < S → cnt (in_tables W rows spans) (c.s * W + W) ≡ n → AtIndex W S rows spans (record { s = c.s + 1; i = row_first rows (c.s + 1) }) n
    new_row l e =
        let f : (c.s + 1) * W ≡ c.s * W + W = ap (λ (x : ℕ). x * W) (add-one c.s) ∙ suc-mul c.s W in
        record {
          row = omega arith;
          from = omega arith;
          index = enter t (c.s + 1) (omega arith) ∙ ap (cnt (in_tables W rows spans)) f ∙ e;
        }

    pub goes_on : c.s < S → AtIndex W S rows spans (cursor_next rows c) (j + run_count (cursor_run W rows spans c))
    unfolding cursor_at run_count
    goes_on l =
        by-test (ltb c.i (row_end rows c.s))
        (λ e. let i = k.index in
        let size = span_to spans c.i - span_from spans c.i in
        let passed : cnt (in_tables W rows spans) (cursor_at W rows spans (record { s = c.s; i = c.i + 1 })) ≡ j + size * open_count (row_mask rows c.s) =
        span-next t c.s c.i l k.from (ltb-true c.i (row_end rows c.s) e) ∙ ap (λ (x : ℕ). x + size * open_count (row_mask rows c.s)) (rw e at i) in
        by-test (ltb (c.i + 1) (row_end rows c.s))
        (λ f. rw (e, f) (record { row = omega arith; from = omega (arith, k.from); index = passed }))
        (λ f. rw (e, f) (new_row l (rw f at passed))))
        (λ e. let i = k.index in
        let f : ltb (c.i + 1) (row_end rows c.s) ≡ false = le-ltb (c.i + 1) (row_end rows c.s) (omega (arith, ltb-false c.i (row_end rows c.s) e)) in
        rw (e, f) (new_row l ((rw e at i) ∙ omega (arith, zero-mul (open_count (row_mask rows c.s))))))

    -- past the last row none is left
    pub through : S ≤ c.s → j ≡ cnt (in_tables W rows spans) (S * W)
    unfolding cursor_at
    through l =
        let e : c.s ≡ S = omega (arith, k.row) in
        let i = k.index in
        sym i
        ∙ (rw (le-ltb c.i (row_end rows c.s) (omega (arith, k.from, subst (λ (x : ℕ). row_end rows x ≤ row_first rows x) (sym e) t.end)))
        (rw e (clear t S 0 W (omega arith) (omega arith) (λ x y a b u v f g. omega (arith, t.end)) ∙ (let z : S * W + 0 ≡ S * W = omega arith in ap (cnt (in_tables W rows spans)) z))))

-- the number that falls: rows left, and spans left in the row
abbrev pub measure : ℕ → Cursor → ℕ
measure S c = (S - c.s) * 256 + (255 - c.i)

pub less : (S : ℕ) (rows : List Row) (c : Cursor) {d : Cursor} → d ≡ cursor_next rows c → c.s < S → row_end rows c.s ≤ 255 → measure S d < measure S c
less S rows c n h l =
    rw n
    (by-test (ltb (c.i + 1) (row_end rows c.s))
    (λ e. let m = ltb-true (c.i + 1) (row_end rows c.s) e in rw e (omega arith))
    (λ e. rw e (omega arith)))

-- ---- the same in the code's own terms
pub row_fits : (s W x : ℕ) → s < 14 → W ≤ 1200 → x ≤ 255 → (s * W < 2 ^ 64) × (s * W + 6 * x < 2 ^ 64)
row_fits s W x h w l = let a = row_inside s 14 W 0 h (omega arith) in (omega (arith, a), omega (arith, a))

module _ (rows : List Row) (c : Cursor) {last : ℕ} (is : last ≡ row_end rows c.s) where
  pub span_run :
      (W : ℕ) (spans : List Span) {from to mask : ℕ} → c.i < last → mask ≡ row_mask rows c.s → from ≡ span_from spans c.i → to ≡ span_to spans c.i
      → ◌≡◌ {A = Run} (record { first = c.s * W + 6 * from; halves = to - from; mask = mask }) (cursor_run W rows spans c)
  span_run W spans l m f t = rw (lt-ltb c.i (row_end rows c.s) (omega arith), m, f, t) refl

  pub no_run :
      (W : ℕ) (spans : List Span) {mask : ℕ} → last ≤ c.i → mask ≡ row_mask rows c.s
      → ◌≡◌ {A = Run} (record { first = c.s * W; halves = 0; mask = mask }) (cursor_run W rows spans c)
  no_run W spans l m = let e : c.s * W + 0 ≡ c.s * W = omega arith in rw (le-ltb c.i (row_end rows c.s) (omega arith), m, e) refl

  pub span-steps : c.i + 1 < last → ◌≡◌ {A = Cursor} (record { s = c.s; i = c.i + 1 }) (cursor_next rows c)
  span-steps l = rw (lt-ltb (c.i + 1) (row_end rows c.s) (omega arith)) refl

  pub row-steps : {x : ℕ} → last ≤ c.i + 1 → x ≡ row_first rows (c.s + 1) → ◌≡◌ {A = Cursor} (record { s = c.s + 1; i = x }) (cursor_next rows c)
  row-steps l e = rw (le-ltb (c.i + 1) (row_end rows c.s) (omega arith), e) refl
