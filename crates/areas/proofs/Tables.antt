-- THE TABLES OF AN AREA name its places: a byte for each symbol, spans with the centre and without it, rows that point to them. Assumes what
-- the tables need.
use Prim.Native.Nat.{ℕ, suc, ◌+◌, ◌-◌, ◌*◌, ◌/◌, ◌%◌, ◌≤◌, ◌<◌, min, max}
use mathlib.Core.Path.{◌≡◌, refl, sym, ap, ◌∙◌, subst}
use mathlib.Core.Bool.{Bool, true, false, not, cond, ◌&&◌, ◌||◌, and-false, and-true}
use mathlib.Core.List.{List}
use native.Mathlib.Decide.{dec_le, ℕ_discrete}
use native.Mathlib.Omega.{arith}
use lib.Dec.{leb, ltb}
use lib.ListN.{length, get_or, set, length-set}
use lib.Seq.{get_or-set_same, get_or-set_other}
use borrow.Author.Tests.{le-leb, lt-leb, lt-ltb, le-ltb}
use Rattle.base.proofs.Tests.{both}
use Rattle.plan.specs.declared.Cell.{Cell}
use Rattle.plan.specs.declared.Frame.{Frame}
use Rattle.plan.proofs.Counts.{blocks-least, blocks-most}
use Rattle.layout.specs.Owners.{symbols, carriers}
use Rattle.counts.specs.Users.{taken as taken_row}
use Rattle.places.specs.Places.{symbol_at, carrier_at, places_of}
use Rattle.places.specs.Halves.{without}
use Rattle.places.proofs.Numbers.{place-both, carrier-inside, symbol-inside, symbols-most}
use Rattle.walk.specs.Runs.{bit_of}
use Rattle.walk.specs.declared.Row.{Row}
use Rattle.walk.specs.declared.Span.{Span}
use Rattle.walk.specs.Tables.{row_mask, row_first, row_end, in_tables}
use Rattle.walk.specs.Spans.{SpanPut, RowPut, SpanSet, RowSets}
use Rattle.walk.proofs.Forms.{single-small}
use Rattle.walk.proofs.Spans.{put-ends, put-few, set-none, set-as, set-kept, set_more, sets-spans, sets-at}
use Rattle.areas.specs.declared.Area.{Area}
use Rattle.areas.specs.declared.RowSpans.{RowSpans}
use Rattle.areas.specs.declared.SpanLists.{SpanLists}
use Rattle.areas.specs.Areas.{area_has, area_at}
use Rattle.areas.specs.Masks.{Masks, centre_out}
use Rattle.areas.specs.Tables.{RowMask, RowMasks, half_in, ListsOf, Smaller, Greater, row_spans, RowsSet, TablesIn, AreaTables}
use Rattle.areas.proofs.AreaPlaces.{leb-same, left_out, area-at}
use Rattle.areas.proofs.Masks.{left_out_lem}

-- ---- a symbol's byte
module _ {c : Cell} {P s m : ℕ} (k : Masks c P s m) (f : Frame) (leaves : Bool) where
  byte-in : leaves && taken_row c f s ≡ false → RowMask c f P leaves s m
  byte-in e =
      let z : m ≡ m % 64 = omega (arith, single-small k.single) in
      record { mask = subst (λ (x : ℕ). Masks c P s x) z k; out = lt-leb 64 m (single-small k.single) ∙ sym e }

  pub byte-out : {t : Bool} → leaves ≡ true → t ≡ true → t ≡ taken_row c f s → RowMask c f P leaves s (m + 64)
  byte-out e d is =
      let z : m ≡ (m + 64) % 64 = omega (arith, single-small k.single) in
      record { mask = subst (λ (x : ℕ). Masks c P s x) z k; out = le-leb 64 (m + 64) (omega arith) ∙ sym (both e (sym is ∙ d)) }

  pub byte-not : {t : Bool} → t ≡ false → t ≡ taken_row c f s → RowMask c f P leaves s m
  byte-not d is = byte-in (ap (λ (y : Bool). leaves && y) (sym is ∙ d) ∙ and-false leaves)

  pub byte-none : leaves ≡ false → RowMask c f P leaves s m
  byte-none e = byte-in (ap (λ (y : Bool). y && taken_row c f s) e)

pub masks-none : {c : Cell} {f : Frame} {P : ℕ} {leaves : Bool} {g : List ℕ} → length g ≡ 14 → RowMasks c f P leaves 0 g
masks-none e = record { size = e; row = λ s l. absurd (omega arith) }

pub masks-on :
    {c : Cell} {f : Frame} {P n x : ℕ} {leaves : Bool} {g : List ℕ} → RowMasks c f P leaves n g → n < 14 → RowMask c f P leaves n x
    → RowMasks c f P leaves (n + 1) (set g n x)
masks-on {c} {f} {P} {n} {x} {leaves} {g} t l k =
    record { size = length-set g n x ∙ t.size; row = λ s h. pick s h (ℕ_discrete s n) }
  where
    pick : (s : ℕ) → s < n + 1 → Dec (s ≡ n) → RowMask c f P leaves s (get_or (set g n x) s 0)
    pick s h (yes e) = rw (e, get_or-set_same g n x 0 (omega (arith, t.size))) k
    pick s h (no e) = rw (get_or-set_other g n s x 0 e) (t.row s (omega arith))

pub masks-all : {c : Cell} {f : Frame} {P n : ℕ} {leaves : Bool} {g : List ℕ} → RowMasks c f P leaves n g → 14 ≤ n → RowMasks c f P leaves 14 g
masks-all t l = record { size = t.size; row = λ s h. t.row s (omega arith) }

-- ---- the smaller of two numbers, and the greater
pub smaller-min : {a b r : ℕ} → r ≡ min a b → Smaller a b r
smaller-min e = record { first = omega arith; second = omega arith; one = λ h. omega arith }

pub greater-max : {a b r : ℕ} → r ≡ max a b → Greater a b r
greater-max e = record { first = omega arith; second = omega arith; one = λ h. omega arith }

-- ---- spans: whole, and on both sides of the centre
module _ (N from to : ℕ) where
  whole_has : (b : ℕ) → (leb from b && ltb b to) || false ≡ half_in N from to false b
  unfolding half_in centre_out
  whole_has b = or-none (leb from b && ltb b to) ∙ sym (and-true (leb from b && ltb b to))
    where
      or-none : (x : Bool) → x || false ≡ x
      or-none true = refl
      or-none false = refl

  module _ (wide : 6 ≤ N) {left right : ℕ} (l : Smaller to (N - 6) left) (r : Greater from (N + 6) right) where
    left_lt : (b : ℕ) → b < to → b + 6 < N → b < left
    left_lt b h k = pick (dec_le to left)
      where
        pick : Dec (to ≤ left) → b < left
        pick (yes e) = omega arith
        pick (no e) = omega (arith, l.one (omega arith))

    right_le : (b : ℕ) → from ≤ b → N + 6 ≤ b → right ≤ b
    right_le b h k = pick (dec_le right from)
      where
        pick : Dec (right ≤ from) → right ≤ b
        pick (yes e) = omega arith
        pick (no e) = omega (arith, r.one (omega arith))

    rest_has : (b : ℕ) → (leb right b && ltb b to) || ((leb from b && ltb b left) || false) ≡ half_in N from to true b
    unfolding half_in centre_out
    rest_has b = pick (dec_le from b) (dec_le (suc b) to) (dec_le N (b + 6)) (dec_le (suc b) (N + 6))
      where
        pick :
            Dec (from ≤ b) → Dec (suc b ≤ to) → Dec (N ≤ b + 6) → Dec (suc b ≤ N + 6)
            → (leb right b && ltb b to) || ((leb from b && ltb b left) || false) ≡ leb from b && ltb b to && not (true && (leb N (b + 6) && ltb b (N + 6)))
        pick (no x) y z w = rw (lt-leb from b (omega arith), lt-leb right b (omega (arith, r.first))) refl
        pick (yes x) (no y) z w = rw (le-leb from b x, le-ltb b to (omega arith), le-ltb b left (omega (arith, l.first)), and-false (leb right b)) refl
        pick (yes x) (yes y) (no z) w =
            rw (le-leb from b x, lt-ltb b to y, lt-leb right b (omega (arith, r.second)), lt-ltb b left (left_lt b y (omega arith)), lt-leb N (b + 6) (omega arith)) refl
        pick (yes x) (yes y) (yes z) (yes w) =
            rw (le-leb from b x, lt-ltb b to y, lt-leb right b (omega (arith, r.second)), le-ltb b left (omega (arith, l.second)), le-leb N (b + 6) z, lt-ltb b (N + 6) w) refl
        pick (yes x) (yes y) (yes z) (no w) =
            rw (le-leb from b x, lt-ltb b to y, le-leb right b (right_le b x (omega arith)), le-leb N (b + 6) z, le-ltb b (N + 6) (omega arith)) refl

    pub lists-made :
        {n p q e : ℕ} {g h i k : List Span} → to ≤ 2 * N → SpanPut n from to g p h → SpanPut p from left h q i → SpanPut q right to i e k
        → ListsOf N from to k (record { first = n; whole = p; end = e })
    lists-made {n} {p} {q} {e} {g} {h} {i} {k} few a b c =
        record {
          all = set-as (set-kept (set-kept one b (omega arith)) c (omega (arith, put-few b))) (λ x y. whole_has x);
          rest = set-as two (λ x y. rest_has x);
          few = omega (arith, put-few a, put-few b, put-few c);
        }
      where
        one : SpanSet h n p (2 * N) (λ (x : ℕ). (leb from x && ltb x to) || false)
        one = set_more (set-none g n (2 * N)) a refl few (λ x y z. absurd (omega arith))

        two : SpanSet k p e (2 * N) (λ (x : ℕ). (leb right x && ltb x to) || ((leb from x && ltb x left) || false))
        two =
            set_more (set_more (set-none h p (2 * N)) b refl (omega (arith, l.first)) (λ x y z. absurd (omega arith))) c refl few
            (λ x y z. omega (arith, put-ends b x y z, l.second, r.second))

-- ---- rows
module _ (first last : ℕ) (l : SpanLists) (s x : ℕ) where
  pub spans-early : s < first → ◌≡◌ {A = RowSpans} (record { first = 0; end = 0 }) (row_spans first last l s x)
  spans-early h = rw (lt-leb first s h) refl

  pub spans-late : last ≤ s → ◌≡◌ {A = RowSpans} (record { first = 0; end = 0 }) (row_spans first last l s x)
  spans-late h = rw (le-ltb s last h, and-false (leb first s)) refl

  module _ (h : first ≤ s) (k : s < last) where
    pub spans-whole : x < 64 → ◌≡◌ {A = RowSpans} (record { first = l.first; end = l.whole }) (row_spans first last l s x)
    spans-whole m = rw (le-leb first s h, lt-ltb s last k, lt-leb 64 x m) refl

    pub spans-rest : 64 ≤ x → ◌≡◌ {A = RowSpans} (record { first = l.whole; end = l.end }) (row_spans first last l s x)
    spans-rest m = rw (le-leb first s h, lt-ltb s last k, le-leb 64 x m) refl

  pub spans-few :
      {r : RowSpans} → r ≡ row_spans first last l s x → l.first ≤ 255 → l.whole ≤ 255 → l.end ≤ 255 → (r.first ≤ 255) × (r.end ≤ 255)
  spans-few e a b c = rw e (pick (leb first s && ltb s last) (leb 64 x))
    where
      chosen : Bool → Bool → RowSpans
      chosen in_rows out =
          cond in_rows (cond out (record { first = l.whole; end = l.end }) (record { first = l.first; end = l.whole })) (record { first = 0; end = 0 })

      pick : (in_rows out : Bool) → ((chosen in_rows out).first ≤ 255) × ((chosen in_rows out).end ≤ 255)
      pick true true = (b, c)
      pick true false = (a, b)
      pick false out = (omega arith, omega arith)

module _ (first last : ℕ) (l : SpanLists) (masks : List ℕ) where
  pub rows_none : {g h : List Row} → RowPut 14 0 0 0 g h → RowsSet first last l masks 0 h
  rows_none p =
      record {
        mask = λ s k. absurd (omega arith);
        from = λ s k. absurd (omega arith);
        to = λ s k. absurd (omega arith);
        after = omega (arith, p.has_first, p.has_end);
      }

  pub rows_on :
      {n x : ℕ} {r : RowSpans} {g h : List Row} → RowsSet first last l masks n g → n < 14 → x ≡ get_or masks n 0 → r ≡ row_spans first last l n x
      → RowPut n (x % 64) r.first r.end g h → RowsSet first last l masks (n + 1) h
  rows_on {n} {x} {r} {g} {h} t few ex er p =
      record {
        mask = λ s k. pick-mask s k (ℕ_discrete s n);
        from = λ s k. pick-from s k (ℕ_discrete s n);
        to = λ s k. pick_to s k (ℕ_discrete s n);
        after = subst (λ (y : Row). y.end ≤ y.first) (sym (p.late 14 (omega arith))) t.after;
      }
    where
      is : r ≡ row_spans first last l n (get_or masks n 0)
      is = er ∙ ap (row_spans first last l n) ex

      pick-mask : (s : ℕ) → s < n + 1 → Dec (s ≡ n) → row_mask h s ≡ get_or masks s 0 % 64
      pick-mask s k (yes e) = rw e (p.has-mask ∙ ap (λ (y : ℕ). y % 64) ex)
      pick-mask s k (no e) = ap (λ (y : Row). y.mask) (p.early s (omega arith)) ∙ t.mask s (omega arith)

      pick-from : (s : ℕ) → s < n + 1 → Dec (s ≡ n) → row_first h s ≡ (row_spans first last l s (get_or masks s 0)).first
      pick-from s k (yes e) = rw e (p.has_first ∙ ap (λ (y : RowSpans). y.first) is)
      pick-from s k (no e) = ap (λ (y : Row). y.first) (p.early s (omega arith)) ∙ t.from s (omega arith)

      pick_to : (s : ℕ) → s < n + 1 → Dec (s ≡ n) → row_end h s ≡ (row_spans first last l s (get_or masks s 0)).end
      pick_to s k (yes e) = rw e (p.has_end ∙ ap (λ (y : RowSpans). y.end) is)
      pick_to s k (no e) = ap (λ (y : Row). y.end) (p.early s (omega arith)) ∙ t.to s (omega arith)

  pub rows_all : {n : ℕ} {g : List Row} → RowsSet first last l masks n g → 14 ≤ n → RowsSet first last l masks 14 g
  rows_all t k =
      record {
        mask = λ s h. t.mask s (omega arith);
        from = λ s h. t.from s (omega arith);
        to = λ s h. t.to s (omega arith);
        after = t.after;
      }

-- ---- THE AREA'S PLACES are those of its tables
gathered : (x y z v n w : Bool) → cond (x && y) (z && v && n) false && w ≡ x && y && z && v && w && n
gathered true true true true true true = refl
gathered true true true true true false = refl
gathered true true true true false true = refl
gathered true true true true false false = refl
gathered true true true false n w = refl
gathered true true false v n w = refl
gathered true false z v n w = refl
gathered false y z v n w = refl

module _ {a : Area} {masks : List ℕ} {rows : List Row} {spans : List Span} (h : TablesIn a masks) (l : SpanLists)
    (lists : ListsOf a.cell.blocks a.from a.to spans l) (set_to : RowsSet a.first a.last l masks 14 rows) where
  abbrev N : ℕ
  N = a.cell.blocks

  abbrev S : ℕ
  S = symbols a.cell

  abbrev W : ℕ
  W = carriers a.cell

  abbrev byte_at : ℕ → ℕ
  byte_at s = get_or masks s 0

  -- the half blocks of symbol s
  abbrev has : ℕ → ℕ → Bool
  has s b = cond (leb a.first s && ltb s a.last) (half_in N a.from a.to (leb 64 (byte_at s)) b) false

  row-set : (s : ℕ) → s < 14 → SpanSet spans (row_first rows s) (row_end rows s) (2 * N) (has s)
  row-set s k = rw (set_to.from s k, set_to.to s k) (pick (leb a.first s && ltb s a.last) (leb 64 (byte_at s)))
    where
      chosen : Bool → Bool → RowSpans
      chosen in_rows out =
          cond in_rows (cond out (record { first = l.whole; end = l.end }) (record { first = l.first; end = l.whole })) (record { first = 0; end = 0 })

      pick :
          (in_rows out : Bool)
          → SpanSet spans (chosen in_rows out).first (chosen in_rows out).end (2 * N) (λ (b : ℕ). cond in_rows (half_in N a.from a.to out b) false)
      pick true true = lists.rest
      pick true false = lists.all
      pick false out = set-none spans 0 (2 * N)

  last_row : row_end rows S ≤ row_first rows S
  last_row = pick (dec_le (suc S) 14)
    where
      pick : Dec (suc S ≤ 14) → row_end rows S ≤ row_first rows S
      pick (yes k) =
          rw (set_to.from S k, set_to.to S k, le-ltb S a.last h.last_row, and-false (leb a.first S)) (omega arith)
      pick (no k) = let e : 14 ≡ S = omega (arith, symbols-most a.cell) in subst (λ (x : ℕ). row_end rows x ≤ row_first rows x) e set_to.after

  row-sets : RowSets rows spans S (2 * N) has
  row-sets = record { row = λ s k. row-set s (omega (arith, symbols-most a.cell)); end = last_row }

  some : 0 < W
  some = omega (arith, blocks-least a.cell h.cell)

  -- a place by its symbol and subcarrier
  has-area : (s k : ℕ) → s < S → has s (k / 6) && bit_of (row_mask rows s) (k % 6) ≡ area_has a s k
  unfolding half_in area_has bit_of
  has-area s k in-s =
      let m : s < 14 = omega (arith, symbols-most a.cell) in
      gathered (leb a.first s) (ltb s a.last) (leb a.from (k / 6)) (ltb (k / 6) a.to) (not (centre_out N (leb 64 (byte_at s)) (k / 6))) _
      ∙ (rw (low, high, free m, out m) refl)
    where
      free : s < 14 → bit_of (row_mask rows s) (k % 6) ≡ without a.cell a.signals s (k % 6)
      free m = ap (λ (x : ℕ). bit_of x (k % 6)) (set_to.mask s m) ∙ (h.bytes.row s m).mask.bits (k % 6) (omega arith)

      out : s < 14 → centre_out N (leb 64 (byte_at s)) (k / 6) ≡ left_out a s (k / 6)
      out m = sym (left_out_lem a s (k / 6) (leb 64 (byte_at s)) (h.bytes.row s m).out)

      low : leb a.from (k / 6) ≡ leb (6 * a.from) k
      low = leb-same a.from (k / 6) (6 * a.from) k (λ e. omega arith) (λ e. omega arith)

      high : ltb (k / 6) a.to ≡ ltb k (6 * a.to)
      high = leb-same (suc (k / 6)) a.to (suc k) (6 * a.to) (λ e. omega arith) (λ e. omega arith)

  table_at : (t : ℕ) → t < places_of a.cell → in_tables W rows spans t ≡ area_at a t
  table_at t in-t =
      let s = symbol_at a.cell t in
      let k = carrier_at a.cell t in
      let in-s = symbol-inside a.cell some t in-t in
      let in-k = carrier-inside a.cell some t in
      ap (in_tables W rows spans) (sym (place-both a.cell t))
      ∙ sets-at row-sets W some (omega arith) s k in-s in-k
      ∙ has-area s k in-s
      ∙ sym (area-at a s k in-k)
      ∙ ap (area_at a) (place-both a.cell t)

  mask-of : (s : ℕ) → s < S → Masks a.cell a.signals s (row_mask rows s)
  mask-of s k =
      let m : s < 14 = omega (arith, symbols-most a.cell) in
      subst (λ (x : ℕ). Masks a.cell a.signals s x) (sym (set_to.mask s m)) (h.bytes.row s m).mask

  pub area-tables : AreaTables a rows spans
  area-tables =
      record {
        sets = sets-spans row-sets W some (omega arith);
        places = table_at;
        single = λ s k. (mask-of s k).single;
        pairs = λ m n s k. (mask-of s k).pairs m n;
      }

-- ---- as the code makes them
module _ {a : Area} {masks : List ℕ} (h : TablesIn a masks) (blocks : ℕ) (is : blocks ≡ a.cell.blocks) where
  pub lists-in : (0 ≤ 250) × (6 ≤ blocks) × (blocks ≤ 127) × (a.to ≤ 2 * blocks)
  lists-in =
      let least = blocks-least a.cell h.cell in
      let most = blocks-most a.cell h.cell in
      (omega arith, omega (arith, is, least), omega (arith, is, most), omega (arith, is, h.halves))

  module _ {spans : List Span} {l : SpanLists} (lists : ListsOf blocks a.from a.to spans l) where
    pub rows_in : l.first ≡ 0 → (l.first ≤ 255) × (l.whole ≤ 255) × (l.end ≤ 255)
    rows_in e = (omega (arith, e), omega (arith, e, lists.few, lists.rest.ordered), omega (arith, e, lists.few))

    pub tables-made : {rows : List Row} {later : List Span} → RowsSet a.first a.last l masks 14 rows → later ≡ spans → AreaTables a rows later
    tables-made r e = rw e (area-tables h l (subst (λ (x : ℕ). ListsOf x a.from a.to spans l) is lists) r)
