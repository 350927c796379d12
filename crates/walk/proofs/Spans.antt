-- THE LAWS OF TABLES: spans put one after another make a set of half blocks, and rows that point to such sets make the places of a channel.
-- Assumes nothing.
use Prim.Native.Nat.{ℕ, zero, suc, ◌+◌, ◌-◌, ◌*◌, ◌/◌, ◌%◌, ◌≤◌, ◌<◌}
use mathlib.Core.Path.{◌≡◌, refl, sym, ap, ap₂, ◌∙◌, subst}
use mathlib.Core.Bool.{Bool, false, ◌&&◌, ◌||◌}
use mathlib.Core.List.{List}
use native.Mathlib.Decide.{dec_le}
use native.Mathlib.Omega.{arith}
use lib.Dec.{leb, ltb}
use lib.ListN.{length, set, length-set}
use lib.Seq.{get_or-set_same, get_or-set_other}
use borrow.Author.Tests.{le-leb, lt-leb, le-ltb}
use Rattle.base.proofs.Rows.{at-div, at-mod}
use Rattle.walk.specs.Runs.{bit_of}
use Rattle.walk.specs.declared.Row.{Row}
use Rattle.walk.specs.declared.Span.{Span}
use Rattle.walk.specs.Tables.{row_at, span_at, row_mask, row_first, row_end, span_from, span_to, in_spans, in_tables, Spans}
use Rattle.walk.specs.Spans.{SpanPut, RowPut, SpanSet, RowSets}

-- ---- a span, a row
module _ (n from to : ℕ) (g : List Span) where
  abbrev put : Span
  put = record { from = from; to = to }

  pub span-put : length g ≡ 256 → n < 256 → from < to → SpanPut n from to g (n + 1) (set g n put)
  span-put size l h =
      let here : span_at (set g n put) n ≡ put = get_or-set_same g n put _ (omega arith) in
      record {
        size = length-set g n put;
        none = λ e. absurd (omega arith);
        next = λ e. refl;
        first = λ e t. (here t).from;
        last = λ e t. (here t).to;
        early = λ m s. get_or-set_other g n m put _ (λ q. omega arith);
      }

  pub span_none : to ≤ from → SpanPut n from to g n g
  span_none h =
      record { size = refl; none = λ e. refl; next = λ e. absurd (omega arith); first = λ e. absurd (omega arith); last = λ e. absurd (omega arith); early = λ m s. refl }

pub row_put :
    (s mask first end : ℕ) (g : List Row) → length g ≡ 15 → s ≤ 14
    → RowPut s mask first end g (set g s (record { mask = mask; first = first; end = end }))
row_put s mask first end g size l =
    let row : Row = record { mask = mask; first = first; end = end } in
    let here : row_at (set g s row) s ≡ row = get_or-set_same g s row _ (omega arith) in
    record {
      size = length-set g s row;
      has-mask = λ t. (here t).mask;
      has_first = λ t. (here t).first;
      has_end = λ t. (here t).end;
      early = λ m h. get_or-set_other g s m row _ (λ q. omega arith);
      late = λ m h. get_or-set_other g s m row _ (λ q. omega arith);
    }

-- whatever spans it puts end where it ends
pub put-ends : {n from to r : ℕ} {before after : List Span} → SpanPut n from to before r after → (k : ℕ) → n ≤ k → k < r → span_to after k ≡ to
put-ends {n} {from} {to} {r} {before} {after} p k a c = pick (dec_le (suc from) to)
  where
    pick : Dec (suc from ≤ to) → span_to after k ≡ to
    pick (yes l) = let z : k ≡ n = omega (arith, p.next l) in ap (span_to after) z ∙ p.last l
    pick (no l) = absurd (omega (arith, p.none (omega arith)))

pub put-few : {n from to r : ℕ} {before after : List Span} → SpanPut n from to before r after → (n ≤ r) × (r ≤ n + 1)
put-few {n} {from} {to} {r} p = pick (dec_le (suc from) to)
  where
    pick : Dec (suc from ≤ to) → (n ≤ r) × (r ≤ n + 1)
    pick (yes l) = (omega (arith, p.next l), omega (arith, p.next l))
    pick (no l) = (omega (arith, p.none (omega arith)), omega (arith, p.none (omega arith)))

-- ---- spans one after another
in-same : (a g : List Span) (i n b : ℕ) → ((m : ℕ) → m < i + n → span_at a m ≡ span_at g m) → in_spans a i n b ≡ in_spans g i n b
unfolding in_spans
in-same a g i zero b h = refl
in-same a g i (suc n) b h =
    ap₂ (λ (x : Span) (y : Bool). (leb x.from b && ltb b x.to) || y) (h (i + n) (omega arith)) (in-same a g i n b (λ m l. h m (omega arith)))

pub set-none : (spans : List Span) (i most : ℕ) → SpanSet spans i i most (λ (b : ℕ). false)
unfolding in_spans
set-none spans i most =
    record {
      ordered = omega arith;
      some = λ k a c. absurd (omega arith);
      inside = λ k a c. absurd (omega arith);
      apart = λ k m a c d. absurd (omega arith);
      same = λ b l. let z : i - i ≡ 0 = omega arith in rw z refl;
    }

pub set-as :
    {spans : List Span} {i e most : ℕ} {has has' : ℕ → Bool} → SpanSet spans i e most has → ((b : ℕ) → b < most → has b ≡ has' b) → SpanSet spans i e most has'
set-as t h = record { ordered = t.ordered; some = t.some; inside = t.inside; apart = t.apart; same = λ b l. t.same b l ∙ h b l }

module _ {spans after : List Span} {i e most n r from to : ℕ} {has : ℕ → Bool} (t : SpanSet spans i e most has) (p : SpanPut n from to spans r after) where
  -- a set of spans before it is kept
  module _ (l : e ≤ n) where
    same_from : (k : ℕ) → k < e → span_from after k ≡ span_from spans k
    same_from k h = ap (λ (x : Span). x.from) (p.early k (omega arith))

    same-to : (k : ℕ) → k < e → span_to after k ≡ span_to spans k
    same-to k h = ap (λ (x : Span). x.to) (p.early k (omega arith))

    pub set-kept : SpanSet after i e most has
    set-kept =
        record {
          ordered = t.ordered;
          some = λ k a c. omega (arith, same_from k c, same-to k c, t.some k a c);
          inside = λ k a c. omega (arith, same-to k c, t.inside k a c);
          apart = λ k m a c d. omega (arith, same-to k (omega arith), same_from m d, t.apart k m a c d);
          same = λ b h. in-same after spans i (e - i) b (λ m s. p.early m (omega (arith, t.ordered))) ∙ t.same b h;
        }

  -- and it is the next one of the set
  module _ (is : n ≡ e) (fits : to ≤ most) (past : (k : ℕ) → i ≤ k → k < e → span_to spans k ≤ from) where
    abbrev more : ℕ → Bool
    more b = (leb from b && ltb b to) || has b

    old : SpanSet after i e most has
    old = set-kept (omega arith)

    set_next : from < to → SpanSet after i (suc e) most more
    unfolding in_spans
    set_next l =
        record {
          ordered = omega (arith, t.ordered);
          some = λ k a c. some k a (dec_le (suc k) e) c;
          inside = λ k a c. inside k a (dec_le (suc k) e) c;
          apart = λ k m a c d. apart k m a c (dec_le (suc m) e) d;
          same = λ b h.
              let z : suc e - i ≡ suc (e - i) = omega (arith, t.ordered) in
              let y : i + (e - i) ≡ e = omega (arith, t.ordered) in
              rw (z, y, from_at, to_at) (ap (λ (x : Bool). (leb from b && ltb b to) || x) (old.same b h));
        }
      where
        from_at : span_from after e ≡ from
        from_at = ap (span_from after) (sym is) ∙ p.first l

        to_at : span_to after e ≡ to
        to_at = ap (span_to after) (sym is) ∙ p.last l

        some : (k : ℕ) → i ≤ k → Dec (suc k ≤ e) → k < suc e → span_from after k < span_to after k
        some k a (yes d) c = old.some k a d
        some k a (no d) c = let z : k ≡ e = omega arith in rw z (omega (arith, from_at, to_at))

        inside : (k : ℕ) → i ≤ k → Dec (suc k ≤ e) → k < suc e → span_to after k ≤ most
        inside k a (yes d) c = old.inside k a d
        inside k a (no d) c = let z : k ≡ e = omega arith in rw z (omega (arith, to_at))

        apart : (k m : ℕ) → i ≤ k → k < m → Dec (suc m ≤ e) → m < suc e → span_to after k ≤ span_from after m
        apart k m a b (yes d) c = old.apart k m a b d
        apart k m a b (no d) c = let z : m ≡ e = omega arith in rw z (omega (arith, from_at, same-to (omega arith) k (omega arith), past k a (omega arith)))

    pub set_more : SpanSet after i r most more
    set_more = pick (dec_le (suc from) to)
      where
        pick : Dec (suc from ≤ to) → SpanSet after i r most more
        pick (yes l) = let z : suc e ≡ r = omega (arith, p.next l) in subst (λ (x : ℕ). SpanSet after i x most more) z (set_next l)
        pick (no l) =
            let z : e ≡ r = omega (arith, p.none (omega arith)) in
            subst (λ (x : ℕ). SpanSet after i x most more) z (set-as old (λ b h. sym (ap (λ (x : Bool). x || has b) (empty b (dec_le from b)))))
          where
            empty : (b : ℕ) → Dec (from ≤ b) → leb from b && ltb b to ≡ false
            empty b (yes d) = rw (le-leb from b d, le-ltb b to (omega arith)) refl
            empty b (no d) = rw (lt-leb from b (omega arith)) refl

-- ---- THE TABLES of such rows: their spans, and the places that they have
module _ {rows : List Row} {spans : List Span} {S most : ℕ} {has : ℕ → ℕ → Bool} (t : RowSets rows spans S most has) (W : ℕ) (some : 0 < W) (is : W ≡ 6 * most) where
  pub sets-spans : Spans W S rows spans
  sets-spans =
      record {
        some = some;
        span = λ s i l a b. (t.row s l).some i a b;
        wide = λ s i l a b. omega (arith, (t.row s l).inside i a b);
        apart = λ s i k l a b c. (t.row s l).apart i k a b c;
        end = t.end;
      }

  pub sets-at : (s k : ℕ) → s < S → k < W → in_tables W rows spans (s * W + k) ≡ has s (k / 6) && bit_of (row_mask rows s) (k % 6)
  unfolding in_tables
  sets-at s k l h =
      ap₂ (λ (x y : ℕ). in_spans spans (row_first rows x) (row_end rows x - row_first rows x) (y / 6) && bit_of (row_mask rows x) (y % 6)) (at-div s W k h) (at-mod s W k h)
      ∙ ap (λ (x : Bool). x && bit_of (row_mask rows s) (k % 6)) ((t.row s l).same (k / 6) (omega arith))
