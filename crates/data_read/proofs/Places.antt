-- THE LAWS OF PLACES: pairs on two ports or four, places on one port with holes and without, and a run by its form. Assumes what a run needs.
use Prim.Native.Nat.{ℕ, ◌+◌, ◌-◌, ◌*◌, ◌/◌, ◌%◌, ◌^◌, ◌≤◌, ◌<◌}
use mathlib.Core.Path.{◌≡◌, refl, sym, ap, ◌∙◌, subst}
use mathlib.Core.List.{List}
use native.Mathlib.Nat.{mul_comm, mul_assoc, mul-zero, mul-one, zero-mul}
use native.Mathlib.Decide.{ℕ_discrete}
use native.Mathlib.Omega.{arith}
use lib.ListN.{length}
use Rattle.gold.specs.Sequence.{binary}
use Rattle.codeword.proofs.Orders.{single-groups, double-groups, pair-groups, quad-groups}
use Rattle.precoding.specs.Places.{own_port}
use Rattle.constellation.specs.Axis.{word_of}
use Rattle.element_pairs.specs.Numbers.{OneRead, TwoRead}
use Rattle.section_bits.specs.declared.SectionBits.{SectionBits}
use Rattle.section_bits.specs.Gathering.{Bits, GiveIn, Gives}
use Rattle.walk.specs.declared.PortOffsets.{PortOffsets}
use Rattle.walk.specs.declared.Run.{Run}
use Rattle.walk.specs.Addresses.{OffsetsAt, PairsIn, RunPairs, RoundAt, SinglesIn, HolesIn}
use Rattle.walk.specs.Forms.{Paired, PairForm, all-six, pairs-left, pairs-right, pairs-apart, Stretch, StretchesAt, holed_place}
use Rattle.walk.specs.Runs.{run_count, place_at}
use Rattle.walk.proofs.Addresses.{run-total, sixes-all, rounds-start, at_own, next-at, fits-at, fits_next, round-small, rounds-on}
use Rattle.walk.proofs.Forms.{left-pairs, right-pairs}
use Rattle.areas.specs.Tables.{Smaller}
use Rattle.areas.proofs.Stretches.{stretches-start, stretch-here, stretch-in, stretches-on}
use Rattle.data_read.specs.Runs.{both_of, Stands, Reading, ReadOn, pair_element, run_element, BeforePairs}
use Rattle.data_read.proofs.Words.{both_bits, four-bits}
use Rattle.data_read.proofs.Gatherings.{give-in, read_none, read_same, read-later, read-give, read_join}

-- ---- two symbols as one number
two-bits :
    {q at gap v : ℕ} {d g : List ℕ} (e : ℕ → ℕ) (j m : ℕ) → TwoRead gap at g v → at ≡ 3 * e m → e (m + 1) ≡ e m + gap → (b : ℕ → ℕ)
    → Stands q d g b (j + m) (e m) → Stands q d g b (j + (m + 1)) (e (m + 1)) → both_of q d v ≡ binary b (q * (j + m)) (2 * q)
two-bits {q} {v = v} {d} e j m t at next b first second =
    let k : j + (m + 1) ≡ j + m + 1 = omega arith in
    both_bits b q (j + m) d v (first.word v (t.first (e m) at))
    (second.word _ (rw next (t.second (e m) at)) ∙ ap (λ (x : ℕ). binary b (q * x) q) k)

-- ---- pairs on two ports or four
module _ (P T j start step gap : ℕ) (even : j % 2 ≡ 0) where
  pair-first : (k : ℕ) → pair_element P T j start step gap (2 * k) ≡ own_port P ((j + 2 * k) / 2 % 2) * T + (start + step * k)
  pair-first k =
      let a : 2 * k / 2 ≡ k = omega arith in
      let c : 2 * k % 2 ≡ 0 = omega arith in
      rw (a, c, mul-zero gap) (omega arith)

  pair-second : (k : ℕ) → pair_element P T j start step gap (2 * k + 1) ≡ pair_element P T j start step gap (2 * k) + gap
  pair-second k =
      let a : (2 * k + 1) / 2 ≡ 2 * k / 2 = omega arith in
      let c : (2 * k + 1) % 2 ≡ 1 = omega arith in
      let o : 2 * k % 2 ≡ 0 = omega arith in
      let i : (j + (2 * k + 1)) / 2 ≡ (j + 2 * k) / 2 = omega arith in
      rw (a, c, o, i, mul-zero gap, mul-one gap) (omega arith)

-- whole groups of two symbols
pair-bits : (q j : ℕ) → j % 2 ≡ 0 → q * j ≡ 2 * q * (j / 2)
pair-bits q j e =
    let h : j ≡ 2 * (j / 2) = omega arith in
    ap (λ (x : ℕ). q * x) h ∙ sym (mul_assoc q 2 (j / 2)) ∙ ap (λ (x : ℕ). x * (j / 2)) (mul_comm q 2)

-- rounds of two pairs: those of i rounds are read
pub record Rounds (P T gap j start step n q : ℕ) (d g : List ℕ) (st : SectionBits) (part : List ℕ) (at next i : ℕ) (st' : SectionBits) (part' : List ℕ) : Type 0 where
  pub pairs : PairsIn P T gap j start step (2 * n) g
  pub reading : Reading q j (4 * n) d st part
  pub offsets : PortOffsets
  pub here : OffsetsAt P T j offsets
  pub round : RoundAt P T j start step n at next i
  pub read : ReadOn q j (4 * i) (pair_element P T j start step gap) d g st part st' part'

pub rounds-begin :
    {P T gap j start step q : ℕ} {d g : List ℕ} {st : SectionBits} {part : List ℕ} {r : PortOffsets} (n : ℕ) → PairsIn P T gap j start step (2 * n) g → Reading q j (4 * n) d st part
    → OffsetsAt P T j r → Rounds P T gap j start step n q d g st part (3 * (r.own + start)) (3 * (r.next + start + step)) 0 st part
rounds-begin {r = r} n h s p =
    record { pairs = h; reading = s; offsets = r; here = p; round = rounds-start h p; read = read_none s }

module _
    {P T gap j start step n q at next i : ℕ} {d g : List ℕ} {st : SectionBits} {part : List ℕ} {st' : SectionBits} {part' : List ℕ}
    (x : Rounds P T gap j start step n q d g st part at next i st' part') (l : i < n) where
  pub round-fits : (at + (3 * gap + 2) < length g) × (next + (3 * gap + 2) < length g) × (at ≤ 100800) × (next ≤ 100800) × (i < 16800)
  round-fits =
      let f = round-small x.pairs x.here x.round l in (
        omega (arith, fits-at x.pairs x.here x.round l),
        omega (arith, fits_next x.pairs x.here x.round l),
        f.0,
        f.1,
        omega (arith, x.pairs.index),
      )

  pub round-gives : {w : ℕ} → w < 2 ^ (4 * q) → GiveIn (4 * q) w st' part'
  round-gives less =
      give-in (read-later x.read x.reading 4 (omega arith)) refl (quad-groups q x.reading.table.order) ((j + 4 * i) / 2)
      (pair-bits q (j + 4 * i) (omega (arith, x.pairs.even))) less

  pub round-on :
      {u v w : ℕ} {st'' : SectionBits} {part'' : List ℕ} → TwoRead gap at g u → TwoRead gap next g v → w ≡ both_of q d u * 2 ^ (2 * q) + both_of q d v
      → Gives (4 * q) w st' part' st'' part'' → Rounds P T gap j start step n q d g st part (at + 6 * step) (next + 6 * step) (i + 1) st'' part''
  round-on {w = w} {st''} {part''} a c ew y =
      record {
        pairs = x.pairs;
        reading = x.reading;
        offsets = x.offsets;
        here = x.here;
        round = rounds-on x.pairs x.here x.round l;
        read = read-give x.read 4 (4 * (i + 1)) refl (omega arith) y bits;
      }
    where
      bits :
          (b : ℕ → ℕ) → Bits b → ((k : ℕ) → 4 * i ≤ k → k < 4 * (i + 1) → Stands q d g b (j + k) (pair_element P T j start step gap k))
          → w ≡ binary b (q * (j + 4 * i)) (4 * q)
      bits b two z =
          let h = x.pairs in
          let e = pair_element P T j start step gap in
          let k : 2 * (2 * i) ≡ 4 * i = omega arith in
          let m : 2 * (2 * i + 1) ≡ 4 * i + 2 = omega arith in
          let k' : j + (4 * i + 2) ≡ j + 4 * i + 2 = omega arith in
          let first = at_own h x.here x.round l ∙ ap (λ (y : ℕ). 3 * y) (sym (pair-first P T j start step gap h.even (2 * i)) ∙ ap e k) in
          let second = next-at h x.here x.round l ∙ ap (λ (y : ℕ). 3 * y) (sym (pair-first P T j start step gap h.even (2 * i + 1)) ∙ ap e m) in
          ew
          ∙ four-bits b q (j + 4 * i)
          (two-bits e j (4 * i) a first (subst (λ (y : ℕ). e (y + 1) ≡ e y + gap) k (pair-second P T j start step gap h.even (2 * i))) b
          (z (4 * i) (omega arith) (omega arith)) (z (4 * i + 1) (omega arith) (omega arith)))
          (two-bits e j (4 * i + 2) c second (subst (λ (y : ℕ). e (y + 1) ≡ e y + gap) m (pair-second P T j start step gap h.even (2 * i + 1))) b
          (z (4 * i + 2) (omega arith) (omega arith)) (z (4 * i + 2 + 1) (omega arith) (omega arith))
          ∙ ap (λ (y : ℕ). binary b (q * y) (2 * q)) k')

pub rounds-at :
    {P T gap j start step n q at next at' next' i : ℕ} {d g : List ℕ} {st : SectionBits} {part : List ℕ} {st' : SectionBits} {part' : List ℕ} → at ≡ at' → next ≡ next'
    → Rounds P T gap j start step n q d g st part at next i st' part' → Rounds P T gap j start step n q d g st part at' next' i st' part'
rounds-at e f x = rw (e, f) at x

-- one pair
module _
    {P T j start q : ℕ} {d g : List ℕ} {st : SectionBits} {part : List ℕ} (h : PairsIn P T 1 j start 2 1 g) (s : Reading q j 2 d st part) {r : PortOffsets} (p : OffsetsAt P T j r) where
  pub one-gives : {w : ℕ} → w < 2 ^ (2 * q) → GiveIn (2 * q) w st part
  one-gives = give-in s refl (pair-groups q s.table.order) (j / 2) (pair-bits q j h.even)

  pub one_on :
      {x w : ℕ} {st' : SectionBits} {part' : List ℕ} → TwoRead 1 (3 * (r.own + start)) g x → w ≡ both_of q d x → Gives (2 * q) w st part st' part'
      → ReadOn q j 2 (pair_element P T j start 2 1) d g st part st' part'
  one_on t ew x =
      let k : j + 0 ≡ j = omega arith in
      read-give (read_none {g = g} s) 2 2 refl refl x
      (λ b two z.
      ew ∙ two-bits (pair_element P T j start 2 1) j 0 t (omega (arith, p.own, ap (λ (y : ℕ). own_port P (y / 2 % 2) * T) k)) (pair-second P T j start 2 1 h.even 0) b
      (z 0 (omega arith) (omega arith)) (z 1 (omega arith) (omega arith)))

-- half blocks with all six open: one pair after the rounds, or none
module _
    (halves P T first : ℕ) {q j : ℕ} {d g : List ℕ} {st : SectionBits} {part : List ℕ} {st' : SectionBits} {part' : List ℕ}
    (o : ReadOn q j (4 * (3 * halves / 2)) (pair_element P T j first 2 1) d g st part st' part') where
  pub sixes-reading : 3 * halves % 2 ≡ 1 → Reading q j (6 * halves) d st part → Reading q (j + 4 * (3 * halves / 2)) 2 d st' part'
  sixes-reading e h = read-later o h 2 (omega arith)

  pub sixes-odd :
      {st'' : SectionBits} {part'' : List ℕ} → 3 * halves % 2 ≡ 1
      → ReadOn q (j + 4 * (3 * halves / 2)) 2 (pair_element P T (j + 4 * (3 * halves / 2)) (first + 4 * (3 * halves / 2)) 2 1) d g st' part' st'' part''
      → ReadOn q j (6 * halves) (pair_element P T j first 2 1) d g st part st'' part''
  sixes-odd e x =
      let n : ℕ = 3 * halves / 2 in
      read_join o (omega arith) x
      (λ i l.
      let a : (4 * n + i) / 2 ≡ 2 * n + i / 2 = omega arith in
      let c : (4 * n + i) % 2 ≡ i % 2 = omega arith in
      let k : j + 4 * n + i ≡ j + (4 * n + i) = omega arith in
      rw (a, c, k) (omega arith))

  pub sixes-even : (3 * halves % 2 ≡ 1 → ⊥) → ReadOn q j (6 * halves) (pair_element P T j first 2 1) d g st part st' part'
  sixes-even e =
      let k : 4 * (3 * halves / 2) ≡ 6 * halves = omega (arith, sixes-all halves e) in
      subst (λ (x : ℕ). ReadOn q j x (pair_element P T j first 2 1) d g st part st' part') k o

-- ---- side by side on one port, one or two in each round
module _ (start : ℕ) {j q n : ℕ} {d g : List ℕ} {st : SectionBits} {part : List ℕ} (s : Reading q j n d st part) where
  module _ {i : ℕ} {st' : SectionBits} {part' : List ℕ} (o : ReadOn q j i (◌+◌ start) d g st part st' part') (l : i < n) where
    pub single-gives : {w : ℕ} → w < 2 ^ q → GiveIn q w st' part'
    single-gives = give-in (read-later o s 1 (omega arith)) (omega arith) (single-groups q s.table.order) (j + i) refl

    pub single-on :
        {x w : ℕ} {st'' : SectionBits} {part'' : List ℕ} → OneRead (3 * (start + i)) g x → w ≡ word_of d x → Gives q w st' part' st'' part''
        → ReadOn q j (i + 1) (◌+◌ start) d g st part st'' part''
    single-on {x} t ew y =
        read-give o 1 (i + 1) (omega arith) refl y (λ b two z. ew ∙ (z i (omega arith) (omega arith)).word x (t.element (start + i) refl))

module _ (start n : ℕ) {j q : ℕ} {d g : List ℕ} {st : SectionBits} {part : List ℕ} (s : Reading q j (2 * n) d st part) where
  module _ {i : ℕ} {st' : SectionBits} {part' : List ℕ} (o : ReadOn q j (2 * i) (◌+◌ start) d g st part st' part') (l : i < n) where
    pub double-gives : {w : ℕ} → w < 2 ^ (2 * q) → GiveIn (2 * q) w st' part'
    double-gives = give-in (read-later o s 2 (omega arith)) refl (double-groups q s.table.order) (j + 2 * i) refl

    pub double-on :
        {x w : ℕ} {st'' : SectionBits} {part'' : List ℕ} → TwoRead 1 (3 * (start + 2 * i)) g x → w ≡ both_of q d x → Gives (2 * q) w st' part' st'' part''
        → ReadOn q j (2 * (i + 1)) (◌+◌ start) d g st part st'' part''
    double-on t ew y =
        read-give o 2 (2 * (i + 1)) refl (omega arith) y
        (λ b two z.
        ew ∙ two-bits (◌+◌ start) j (2 * i) t refl (omega arith) b (z (2 * i) (omega arith) (omega arith)) (z (2 * i + 1) (omega arith) (omega arith)))

-- all n are read
pub all_read :
    {q j : ℕ} {e : ℕ → ℕ} {d g : List ℕ} {st : SectionBits} {part : List ℕ} {st' : SectionBits} {part' : List ℕ} {i n : ℕ} → i ≤ n → n ≤ i
    → ReadOn q j i e d g st part st' part' → ReadOn q j n e d g st part st' part'
all_read {q} {j} {e} {d} {g} {st} {part} {st'} {part'} {i} {n} few l o =
    let k : i ≡ n = omega arith in subst (λ (x : ℕ). ReadOn q j x e d g st part st' part') k o

-- ---- stretches between holes
pub record Stretches (q j first lead each total : ℕ) (d g : List ℕ) (st : SectionBits) (part : List ℕ) (at left k : ℕ) (st' : SectionBits) (part' : List ℕ) : Type 0 where
  pub holes : HolesIn first lead each total g
  pub index : j + total ≤ 16800
  pub reading : Reading q j total d st part
  pub stretches : StretchesAt first lead each total at left k
  pub read : ReadOn q j k (holed_place first lead each) d g st part st' part'

pub holes-start :
    {q j first lead each total at left : ℕ} {d g : List ℕ} {st : SectionBits} {part : List ℕ} → HolesIn first lead each total g → j + total ≤ 16800 → Reading q j total d st part
    → Stretch first lead each 0 at left → Stretches q j first lead each total d g st part at left 0 st part
holes-start h i s x = record { holes = h; index = i; reading = s; stretches = stretches-start x; read = read_none s }

module _
    {q j first lead each total at left k n : ℕ} {d g : List ℕ} {st : SectionBits} {part : List ℕ} {st' : SectionBits} {part' : List ℕ}
    (x : Stretches q j first lead each total d g st part at left k st' part')
    (l : k < total) (m : Smaller left (total - k) n) where
  pub holes-next : SinglesIn at n g × Reading q (j + k) n d st' part'
  holes-next = (stretch-in x.stretches l m x.holes, read-later x.read x.reading n (omega (arith, m.second)))

  pub holes-on :
      {st'' : SectionBits} {part'' : List ℕ} → ReadOn q (j + k) n (◌+◌ at) d g st' part' st'' part''
      → Stretches q j first lead each total d g st part (at + (n + 1)) each (k + n) st'' part''
  holes-on o =
      record {
        holes = x.holes;
        index = x.index;
        reading = x.reading;
        stretches = stretches-on x.stretches l m;
        read = read_join x.read refl o (stretch-here x.stretches l m);
      }

-- ---- a run by its form
module _ (P T j : ℕ) {run : Run} {gap start step m : ℕ} (p : RunPairs run gap start step m) where
  paired-element : (i : ℕ) → pair_element P T j start step gap i ≡ run_element P T j run i
  paired-element i = ap (λ (x : ℕ). own_port P ((j + i) / 2 % 2) * T + x) (pick (ℕ_discrete (i % 2) 0))
    where
      pick : Dec (i % 2 ≡ 0) → start + step * (i / 2) + gap * (i % 2) ≡ run.first + place_at run.mask i
      pick (yes z) =
          let k : i ≡ 2 * (i / 2) = omega arith in
          omega (arith, p.place, p.paired.even (i / 2), ap (place_at run.mask) k, ap (λ (x : ℕ). gap * x) z, mul-zero gap)
      pick (no z) =
          let k : i ≡ 2 * (i / 2) + 1 = omega arith in
          let o : i % 2 ≡ 1 = omega arith in
          omega (arith, p.place, p.paired.odd (i / 2), ap (place_at run.mask) k, ap (λ (x : ℕ). gap * x) o, mul-one gap)

  pub paired-read :
      {q n : ℕ} {d g : List ℕ} {st : SectionBits} {part : List ℕ} {st' : SectionBits} {part' : List ℕ} → 2 * m ≡ n → ReadOn q j n (pair_element P T j start step gap) d g st part st' part'
      → ReadOn q j (run_count run) (run_element P T j run) d g st part st' part'
  paired-read is o = rw (run-total p ∙ is) (read_same (λ i l. paired-element i) o)

-- two pairs side by side, and before them a hole or not
pairs-beside : {mask off : ℕ} → PairForm mask → (mask ≡ 63 → ⊥) → (mask ≡ 45 → ⊥) → BeforePairs mask off → Paired mask off 3 1 2 × (off ≤ 1)
pairs-beside all-six a b o = absurd (a refl)
pairs-beside pairs-left a b o = let z = o.left (λ e. omega arith) in (rw z (left-pairs refl), omega arith)
pairs-beside pairs-right a b o = let z = o.right refl in (rw z (right-pairs refl), omega arith)
pairs-beside pairs-apart a b o = absurd (b refl)

pub beside-run :
    (run : Run) {off : ℕ} → PairForm run.mask → (run.mask ≡ 63 → ⊥) → (run.mask ≡ 45 → ⊥) → BeforePairs run.mask off
    → RunPairs run 1 (run.first + off) 3 (2 * run.halves)
beside-run run {off} f a b o =
    let p = pairs-beside f a b o in
    record { off = off; per = 2; paired = p.0; short = omega arith; near = p.1; count = omega arith; place = refl }

-- on one port
pub single-read :
    (T : ℕ) (run : Run) {q j n : ℕ} {d g : List ℕ} {st : SectionBits} {part : List ℕ} {st' : SectionBits} {part' : List ℕ} {e : ℕ → ℕ}
    → n ≡ run_count run → ((k : ℕ) → e k ≡ run.first + place_at run.mask k)
    → ReadOn q j n e d g st part st' part' → ReadOn q j (run_count run) (run_element 1 T j run) d g st part st' part'
unfolding own_port
single-read T run is here x = rw (← is) (read_same (λ i l. omega (arith, here i, zero-mul T)) x)

pub one-read :
    (T : ℕ) (run : Run) {P q j : ℕ} {d g : List ℕ} {st : SectionBits} {part : List ℕ} {st' : SectionBits} {part' : List ℕ}
    → P ≡ 1 → ReadOn q j (run_count run) (run_element 1 T j run) d g st part st' part'
    → ReadOn q j (run_count run) (run_element P T j run) d g st part st' part'
one-read T run e x = rw e x
