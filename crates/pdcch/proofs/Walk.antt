-- The walk over the region's groups: a cursor that goes one position on at each vacant group stands at the quad of the next, so that at the end
-- the table has them all. Assumes an accepted cell and frame.
use Prim.Native.Nat.{ℕ, zero, suc, ◌+◌, ◌-◌, ◌*◌, ◌/◌, ◌%◌, ◌≤◌, ◌<◌}
use mathlib.Core.Path.{◌≡◌, refl, sym, ap, ap₂, ◌∙◌}
use mathlib.Core.Bool.{true, false, not}
use mathlib.Core.List.{List}
use native.Mathlib.Nat.{mul-le-mul, suc-mul, zero-mul, mul-le-mul_right}
use native.Mathlib.Decide.{ℕ_discrete}
use native.Mathlib.Numerals.{add-one}
use native.Mathlib.Omega.{arith}
use lib.Dec.{eqb}
use lib.ListN.{length, get_or, set, take, length-set}
use lib.Seq.{get_or-set_same, get_or-set_other, get_or-take, length-take-le}
use borrow.Author.Tests.{eqb-true, eqb-false}
use Rattle.base.specs.Counts.{cnt, nth}
use Rattle.base.proofs.Tests.{by-test}
use Rattle.base.proofs.Counts.{Nth, nth-is}
use Rattle.bitset.specs.Sets.{member}
use Rattle.interleaver.specs.Matrix.{quad_at, sent_at, sent_of}
use Rattle.interleaver.specs.Cursor.{cursor_at, step_of}
use Rattle.interleaver.specs.declared.Cursor.{Cursor}
use Rattle.interleaver.proofs.Undo.{undone, sent-once}
use Rattle.interleaver.proofs.Steps.{walk_from, walk-stands, walk-quad, walk_step}
use Rattle.plan.specs.Fields.{control_symbols, mapping_units, groups_below, region_groups}
use Rattle.plan.specs.declared.Cell.{Cell}
use Rattle.plan.specs.declared.Frame.{Frame}
use Rattle.plan.proofs.Counts.{blocks-least, blocks-most, sixths-most}
use Rattle.plan.proofs.ControlRegion.{region-least, region-most, region-other}
use Rattle.plan.proofs.ControlElements.{below-least, region-most-groups}
use Rattle.layout.specs.Owners.{carriers}
use Rattle.layout.specs.Region.{vacant_at, region_symbol, region_group, block_symbol, block_group}
use Rattle.layout.proofs.Block.{all-vacant}
use Rattle.pdcch.specs.Groups.{RegionOf, entry_of, GroupTable}
use Rattle.pdcch.specs.Walk.{TakenSet, starts_at, entry_at, free_at, StartsTo, free_before, FilledTo, PutIn, next_cursor, next_table, block_cursor, block_table, BlockIn, BlockOut, DoneTo, WalkAt}
use Rattle.pdcch.proofs.Listing.{region-in}
use Rattle.pdcch.proofs.Starts.{all-few}
use Rattle.pdcch.proofs.Blocks.{start-on, count-on, on-inside, entry-at, small_at, free-member, free-entry, free-below, free-next, taken_next, free_all, free-none}

-- ---- one group, as the code takes it
module _ (taken : List ℕ) (v : ℕ) (cursor : Cursor) (table : List ℕ) where
  abbrev Next : Cursor → List ℕ → Type 0
  Next r list = (r ≡ next_cursor taken v cursor) × (list ≡ next_table taken v cursor table)

  pub next-taken : member taken (v / 4) ≡ true → Next cursor table
  unfolding next_cursor next_table
  next-taken e = rw e (refl, refl)

  pub next-free : member taken (v / 4) ≡ false → {r : Cursor} {q : ℕ} → r ≡ step_of cursor → q ≡ quad_at cursor.quads cursor.at → Next r (set table q v)
  unfolding next_cursor next_table
  next-free e er eq = rw e (er, ap (λ (x : ℕ). set table x v) eq)

  pub quad-small : PutIn taken v cursor table → {q : ℕ} → q ≡ quad_at cursor.quads cursor.at → q < 800
  quad-small k eq = omega (arith, eq, (undone cursor.quads).inside cursor.at k.stands.inside, k.few)

-- ---- a block, group by group
module _ (taken starts : List ℕ) (base : ℕ) (c : Cursor) (table : List ℕ) where
  abbrev pub BlockTo : ℕ → Cursor → List ℕ → Type 0
  BlockTo i r list = BlockOut taken starts base i c table r list

  pub block_none : BlockTo 0 c table
  unfolding block_cursor block_table
  block_none = record { cursor = refl; filled = refl }

  pub block-put : {i n : ℕ} {r : Cursor} {list : List ℕ} → BlockIn taken starts base n c table → BlockTo i r list → i < n → PutIn taken (get_or starts i 0 + base) r list
  block-put {i = i} h k l = rw (k.cursor, k.filled) (h.group i l)

  pub block_more :
      {i : ℕ} {r q : Cursor} {list lists : List ℕ} → BlockTo i r list
      → q ≡ next_cursor taken (get_or starts i 0 + base) r → lists ≡ next_table taken (get_or starts i 0 + base) r list → BlockTo (i + 1) q lists
  unfolding block_cursor block_table
  block_more {i = i} k er el = rw (add-one i) (record { cursor = er ∙ rw k.cursor refl; filled = el ∙ rw (k.cursor, k.filled) refl })

  pub block-all : {i n : ℕ} {r : Cursor} {list : List ℕ} → BlockTo i r list → i ≡ n → BlockTo n r list
  block-all k e = rw (← e) k

-- ---- the first g of a list's entries, as a list of their own
module _ (taken starts : List ℕ) (base g : ℕ) (c : Cursor) (table : List ℕ) where
  entry-short : (i : ℕ) → i < g → get_or (take g starts) i 0 ≡ get_or starts i 0
  entry-short i l = get_or-take g starts i 0 l

  cursor-short : (i : ℕ) → i ≤ g → block_cursor taken (take g starts) base i c ≡ block_cursor taken starts base i c
  unfolding block_cursor
  cursor-short zero l = refl
  cursor-short (suc i) l =
      ap₂ (λ (v : ℕ) (r : Cursor). next_cursor taken (v + base) r) (entry-short i (omega arith)) (cursor-short i (omega arith))

  table-short : (i : ℕ) → i ≤ g → block_table taken (take g starts) base i c table ≡ block_table taken starts base i c table
  unfolding block_table
  table-short zero l = refl
  table-short (suc i) l =
      λ t. next_table taken (entry-short i (omega arith) t + base) (cursor-short i (omega arith) t) (table-short i (omega arith) t)

  pub block-short : {n : ℕ} → n ≡ g → BlockIn taken starts base g c table → BlockIn taken (take g starts) base n c table
  block-short e h =
      record {
        room = omega (arith, h.room);
        group = λ i l.
            let m : i < g = omega arith in
            rw (entry-short i m, cursor-short i (omega arith), table-short i (omega arith)) (h.group i m);
      }

  pub block-long :
      {n : ℕ} {r : Cursor} {list : List ℕ} → n ≡ g → BlockOut taken (take g starts) base n c table r list → BlockOut taken starts base g c table r list
  block-long e k =
      let o = rw e at k in
      record { cursor = o.cursor ∙ cursor-short g (omega arith); filled = o.filled ∙ table-short g (omega arith) }

-- ---- the table with one group more
module _ (c : Cell) (L R n : ℕ) (table : List ℕ) (k : FilledTo c L R n table) where
  abbrev C : ℕ
  C = c.identity

  filled_more : n < R → R ≤ 800 → {q v : ℕ} → q ≡ sent_at R C n → v ≡ entry_of c (region_symbol c L n) (region_group c L n) → FilledTo c L R (n + 1) (set table q v)
  filled_more l few {q = q} {v = v} eq ev =
      let w : length (set table q v) ≡ length table = simp length-set in
      record {
        size = w ∙ k.size;
        entry = λ m h. go m (ℕ_discrete m n) h;
      }
    where
      inside : q < length table
      inside = omega (arith, eq, (sent-once R C).inside n l, k.size)

      other : (m : ℕ) → m < n → sent_at R C m ≡ q → ⊥
      other m h e =
          let z : m ≡ n = sym ((sent-once R C).back m (omega arith)) ∙ ap (sent_of R C) (e ∙ eq) ∙ (sent-once R C).back n l in
          omega arith

      go : (m : ℕ) → Dec (m ≡ n) → m < n + 1 → get_or (set table q v) (sent_at R C m) 0 ≡ entry_of c (region_symbol c L m) (region_group c L m)
      go m (yes e) h = rw (e, ← eq) (get_or-set_same table q v 0 inside ∙ ev)
      go m (no d) h = get_or-set_other table q (sent_at R C m) v 0 (other m (omega arith)) ∙ k.entry m (omega arith)

  pub filled-as : {m : ℕ} {list : List ℕ} → n ≡ m → list ≡ table → FilledTo c L R m list
  filled-as e el = rw (← e, el) k

cursor-quads : (R at : ℕ) → (cursor_at R at).quads ≡ R
unfolding cursor_at
cursor-quads R at = refl

block-entry :
    (c : Cell) (fr : Frame) {L R : ℕ} → L ≡ control_symbols c fr → R ≡ region_groups c fr → (q : ℕ)
    → entry_of c (block_symbol c fr q) (block_group c fr q) ≡ entry_of c (region_symbol c L (sent_of R c.identity q)) (region_group c L (sent_of R c.identity q))
unfolding block_symbol block_group
block-entry c fr eL eR q = rw (eL, eR) refl

-- ---- the region of an accepted cell and frame
module _ (c : Cell) (fr : Frame) (ok : RegionOf c fr) {L R : ℕ} (eL : L ≡ control_symbols c fr) (eR : R ≡ region_groups c fr) where
  pub some-symbols : 0 < L
  some-symbols = omega (arith, region-least c fr, ok.frame.some)

  pub few-symbols : L ≤ 4
  few-symbols = omega (arith, region-most c fr, ok.frame.most)

  pub few-places : L * carriers c ≤ 3600
  few-places =
      by-test (eqb c.blocks 6)
      (λ e. let z = eqb-true c.blocks 6 e in
      let w : carriers c ≤ 72 = omega arith in
      let p : L * carriers c ≤ 4 * 72 = mul-le-mul few-symbols w in omega arith)
      (λ e. let z = region-other c fr (eqb-false c.blocks 6 e) in
      let l : L ≤ 3 = omega (arith, ok.frame.most) in
      let w : carriers c ≤ 1200 = omega (arith, blocks-most c ok.cell) in
      let p : L * carriers c ≤ 3 * 1200 = mul-le-mul l w in omega arith)

  -- symbol 0 alone has more groups than PCFICH and PHICH take
  pub some-quads : 1 ≤ R
  unfolding region_groups mapping_units
  some-quads =
      let e : suc (L - 1) ≡ L = omega (arith, some-symbols) in
      let u : c.sixths * c.blocks ≤ 12 * c.blocks = mul-le-mul_right c.blocks (sixths-most c ok.cell) in
      omega (arith, ap (groups_below c) (e ∙ eL), below-least c (L - 1), blocks-least c ok.cell)

  pub few-quads : R ≤ 800
  few-quads = omega (arith, region-most-groups c fr ok.cell ok.frame)

  all-free : cnt (vacant_at c L) (12 * c.blocks * L) ≡ R
  all-free = rw (eL, eR) (all-vacant c fr (region-in c fr ok))

  -- g groups start in a block, and their entries are listed
  module _ {g : ℕ} {starts : List ℕ} (ks : StartsTo c L (12 * L) g starts) where
    pub starts-few : g ≤ 12
    starts-few = omega (arith, ks.count, all-few c L, few-symbols)

    pub starts-short : length (take g starts) ≡ g
    starts-short = length-take-le g starts (omega (arith, ks.size, starts-few))

    pub walk_start : {cursor : Cursor} {table : List ℕ} → cursor ≡ cursor_at R (c.identity % R) → length table ≡ 800 → WalkAt c L R g 0 0 cursor table
    walk_start {cursor} e size =
        let z : 0 * g ≡ 0 = zero-mul g in
        let n : 0 ≡ free_before c L (0 * g) = sym (ap (free_before c L) z ∙ free-none c L some-symbols) in
        record {
          block = omega arith;
          added = refl;
          done = record {
            stands = walk_from R c.identity cursor e ∙ ap (λ (x : ℕ). cursor_at R ((c.identity + x) % R)) n;
            filled = record { size = size; entry = λ m h. absurd (let w : ⊥ = omega (arith, n) in w) };
          };
        }

    module _
        {taken : List ℕ} (kt : TakenSet c taken) {b base i : ℕ} (in_b : b < c.blocks) (added : base ≡ 24 * b) (in-i : i < g) {cursor : Cursor} {table : List ℕ}
        (k : DoneTo c L R (b * g + i) cursor table) where
      abbrev x : ℕ
      x = nth (starts_at c L) (12 * L) i

      is-nth : Nth (starts_at c L) (12 * L) i x
      is-nth = nth-is (starts_at c L) (12 * L) i (omega (arith, in-i, ks.count))

      -- the group's place in the order
      abbrev y : ℕ
      y = 12 * b * L + x

      in-y : y < 12 * c.blocks * L
      in-y = on-inside c L some-symbols b x in_b is-nth.1

      starts-y : starts_at c L y ≡ true
      starts-y = start-on c L some-symbols b x ∙ is-nth.0

      count-y : cnt (starts_at c L) y ≡ b * g + i
      count-y = count-on c L some-symbols b x ∙ ap₂ (λ (p q : ℕ). b * p + q) (sym ks.count) is-nth.2

      abbrev v : ℕ
      v = get_or starts i 0 + base

      value : v ≡ entry_at c L y
      value =
          omega (
            arith,
            ap (λ (j : ℕ). get_or starts j 0) (sym is-nth.2) ∙ ks.entry x is-nth.1 is-nth.0,
            entry-at c L some-symbols b x in_b is-nth.1,
            added,
          )

      pub value-fits : v < 7201
      value-fits = omega (arith, value, small_at c L some-symbols y in-y starts-y few-places)

      abbrev due : ℕ
      due = free_before c L (b * g + i)

      number-y : free_before c L (cnt (starts_at c L) y) ≡ due
      number-y = ap (free_before c L) count-y

      pub put_in : PutIn taken v cursor table
      put_in =
          let st = walk-stands R c.identity due some-quads (omega (arith, few-quads)) cursor k.stands in
          record {
            words = kt.size;
            small = omega (arith, value-fits);
            stands = st;
            few = omega (arith, few-quads, ap (λ (z : Cursor). z.quads) k.stands, cursor-quads R ((c.identity + due) % R));
            size = k.filled.size;
          }

      set_is : member taken (v / 4) ≡ not (free_at c L y)
      set_is = ap (λ (z : ℕ). member taken (z / 4)) value ∙ free-member c L some-symbols y in-y starts-y taken kt

      module _ {r : Cursor} {list : List ℕ} (er : r ≡ next_cursor taken v cursor) (el : list ≡ next_table taken v cursor table) where
        next-n : {m : ℕ} → free_before c L (suc (cnt (starts_at c L) y)) ≡ m → free_before c L (b * g + i + 1) ≡ m
        next-n e = let z : b * g + i + 1 ≡ suc (cnt (starts_at c L) y) = omega (arith, count-y) in ap (free_before c L) z ∙ e

        done_on : (m : ℕ) → free_before c L (b * g + i + 1) ≡ m → r ≡ cursor_at R ((c.identity + m) % R) → FilledTo c L R m list → DoneTo c L R (b * g + i + 1) r list
        done_on m e p q = record { stands = p ∙ ap (λ (z : ℕ). cursor_at R ((c.identity + z) % R)) (sym e); filled = filled-as c L R m list q (sym e) refl }

        -- a group that is taken changes nothing
        done-taken : free_at c L y ≡ false → DoneTo c L R (b * g + i + 1) r list
        unfolding next_cursor next_table
        done-taken e =
            let t : member taken (v / 4) ≡ true = set_is ∙ ap not e in
            let p : r ≡ cursor = er ∙ (rw t refl) in
            let q : list ≡ table = el ∙ (rw t refl) in
            done_on due (next-n (taken_next c L some-symbols y in-y starts-y e ∙ number-y)) (p ∙ k.stands) (filled-as c L R due table k.filled refl q)

        -- a vacant one has the quad that is sent n-th
        done-free : free_at c L y ≡ true → DoneTo c L R (b * g + i + 1) r list
        unfolding next_cursor next_table
        done-free e =
            let few : R ≤ 4096 = omega (arith, few-quads) in
            let t : member taken (v / 4) ≡ false = set_is ∙ ap not e in
            let p : r ≡ step_of cursor = er ∙ (rw t refl) in
            let q : list ≡ set table (quad_at cursor.quads cursor.at) v = el ∙ (rw t refl) in
            let at : quad_at cursor.quads cursor.at ≡ sent_at R c.identity due = walk-quad R c.identity due some-quads few cursor k.stands (quad_at cursor.quads cursor.at) refl in
            let z : suc due ≡ due + 1 = omega arith in
            done_on (due + 1) (next-n (free-next c L some-symbols y in-y starts-y e ∙ ap suc number-y ∙ z))
            (walk_step R c.identity due some-quads few cursor k.stands r p)
            (filled-as c L R (due + 1) (set table (quad_at cursor.quads cursor.at) v)
            (filled_more c L R due table k.filled (omega (arith, number-y, free-below c L some-symbols y in-y starts-y e, all-free)) few-quads at (value ∙ entry-y e))
            refl q)
          where
            entry-y : free_at c L y ≡ true → entry_at c L y ≡ entry_of c (region_symbol c L due) (region_group c L due)
            entry-y e = sym (ap (λ (m : ℕ). entry_of c (region_symbol c L m) (region_group c L m)) (sym number-y) ∙ free-entry c L some-symbols y in-y starts-y e)

        -- ONE GROUP MORE
        done_next : DoneTo c L R (b * g + i + 1) r list
        done_next = by-test (free_at c L y) done-free done-taken

        done-as : {j : ℕ} → b * g + i + 1 ≡ j → DoneTo c L R j r list
        done-as e = rw (← e) done_next

    -- ---- a block
    module _ {taken : List ℕ} (kt : TakenSet c taken) {b base : ℕ} {cursor : Cursor} {table : List ℕ} (k : WalkAt c L R g b base cursor table) (in_b : b < c.blocks) where
      done-block : (i : ℕ) → i ≤ g → DoneTo c L R (b * g + i) (block_cursor taken starts base i cursor) (block_table taken starts base i cursor table)
      unfolding block_cursor block_table
      done-block zero l = let z : b * g ≡ b * g + 0 = omega arith in rw (← z) k.done
      done-block (suc i) l = done-as kt in_b k.added l (done-block i (omega arith)) refl refl (omega arith)

      pub block_in : BlockIn taken starts base g cursor table
      block_in = record { room = omega (arith, starts-few); group = λ i l. put_in kt in_b k.added l (done-block i (omega arith)) }

      pub walk-next : {next : ℕ} {r : Cursor} {list : List ℕ} → next ≡ base + 24 → BlockOut taken starts base g cursor table r list → WalkAt c L R g (b + 1) next r list
      walk-next e24 o =
          let z : b + 1 ≡ suc b = omega arith in
          let e : b * g + g ≡ (b + 1) * g = sym (ap (λ (y : ℕ). y * g) z ∙ suc-mul b g) in
          record { block = omega arith; added = omega (arith, e24, k.added); done = rw (o.cursor, o.filled, ← e) (done-block g (omega arith)) }

    -- THE TABLE, after the last block
    pub walk_end : {b base : ℕ} {cursor : Cursor} {table : List ℕ} → WalkAt c L R g b base cursor table → c.blocks ≤ b → GroupTable c fr table
    walk_end {b} {base} {cursor} {table} k l = record { size = k.done.filled.size; entry = entry-is }
      where
        all : free_before c L (b * g) ≡ R
        all =
            let z : b ≡ c.blocks = omega (arith, k.block) in
            ap (free_before c L) (ap₂ ◌*◌ z ks.count) ∙ free_all c L some-symbols ∙ all-free

        entry-is : (q : ℕ) → q < region_groups c fr → get_or table q 0 ≡ entry_of c (block_symbol c fr q) (block_group c fr q)
        entry-is q h =
            let in-q : q < R = omega (arith, eR) in
            let m = sent_of R c.identity q in
            ap (λ (x : ℕ). get_or table x 0) (sym ((sent-once R c.identity).again q in-q))
            ∙ k.done.filled.entry m (omega (arith, all, (sent-once R c.identity).below q in-q)) ∙ sym (block-entry c fr eL eR q)
