-- The counts of the nine kinds, all but the users' as constants of the cell and the frame. Assumes that the plan check answers with the
-- plan; idle's, that every place has one owner.
use Rattle.std.specs.Prelude.{if◌then◌else◌, Ok as accepted}
use Prim.Native.Nat.{ℕ, zero, suc, ◌+◌, ◌-◌, ◌*◌, ◌%◌, ◌≤◌, ◌<◌, min}
use mathlib.Core.Path.{◌≡◌, refl, sym, ap, ◌∙◌}
use mathlib.Core.Logic.{◌⊎◌, inl, inr}
use mathlib.Core.Bool.{Bool, true, false, not, ◌&&◌, ◌||◌, and-false, or-false}
use mathlib.Core.List.{List}
use native.Mathlib.Nat.{mul_comm, suc-mul, zero-mul, zero-add}
use native.Mathlib.Omega.{arith}
use lib.Dec.{T, leb, ltb, eqb, eqb→eq}
use lib.ListN.{length}
use borrow.Author.Tests.{lt-leb, eqb-true}
use Rattle.base.proofs.Tests.{by-test, clash, both, same_test}
use Rattle.base.specs.Tables.{table}
use Rattle.base.proofs.Computed.{all_below, below_at}
use Rattle.plan.specs.Lists.{Among}
use Rattle.plan.specs.Fields.{mapping_units, port_counts}
use Rattle.plan.specs.Check.{check_of}
use Rattle.plan.specs.CommandLists.{users_of}
use Rattle.plan.specs.declared.Plan.{Plan}
use Rattle.plan.proofs.Listed.{and_right}
use Rattle.plan.proofs.Valid.{valid}
use Rattle.plan.proofs.Counts.{blocks-least}
use Rattle.base.specs.Choice.{indicator}
use Rattle.plan.specs.declared.Cell.{Cell}
use Rattle.plan.specs.declared.Frame.{Frame}
use Rattle.layout.specs.Rules.{slot_length, in_slot, crs_symbol, crs_shift, stands_at, crs_of, crs, crs_below, crs_of_four, crs_any}
use Rattle.layout.specs.Rules.{marked, middle, centre, used, pss, sss, in_sync_area, held_by_sync, in_pbch_area, held_by_pbch, held}
use Rattle.layout.specs.Owners.{symbols, carriers, fixed_rule, above, owns, owners}
use Rattle.layout.specs.declared.Mark.TheVariants.{Primary, Secondary}
use Rattle.layout.specs.declared.Owner.{Owner}
use Rattle.layout.specs.declared.Owner.TheVariants.{Crs, Sync, Pbch, Pcfich, Phich, User as UserOf, Held, Idle}
use Rattle.base.specs.Sums.{sum_to, sum_of}
use Rattle.counts.specs.Counts.{count_of, kind_of, kind_count}
use Rattle.counts.specs.Users.{signals}
use Rattle.counts.specs.Kinds.{crs_elements, sync_elements, pbch_elements, holes, held_elements}
use Rattle.counts.proofs.Logic.{agree, agreed, implies, follows, every_way, by-table}
use Rattle.base.proofs.Sums.{six, by-six, sum_same, sum-none, sum-const, sum-add, sum-times, list-append}
use Rattle.counts.proofs.Halves.{within, in-range, lowered, parted, away}
use Rattle.layout.proofs.Fixed.{used-centre}
use Rattle.counts.proofs.AddUp.{kinds-add-up}
use Rattle.counts.proofs.FixedCounts.{open_row, pcfich-count, phich-count, pbch-count}

-- ---- CRS: one of six subcarriers for each port in each of its symbols
abbrev hit : Bool → ℕ → Bool
hit g x = eqb (six (λ r. indicator (g && eqb r x)) 0) (indicator g)

one-of-six : T (all_below (λ x. every_way 1 (λ g. hit g x)) 6)
one-of-six = tt

regroup : (a b d : Bool) → a && (b && d) ≡ a && b && d
regroup a b d = agreed _ _ (by-table 3 (λ a b d. agree (a && (b && d)) (a && b && d)) tt a b d)

abbrev sends : Cell → ℕ → ℕ → Bool
sends c q s = ltb q c.ports && crs_symbol c q s

crs-row : (c : Cell) (q s : ℕ) → sum_to (carriers c) (λ k. indicator (crs c q s k)) ≡ indicator (sends c q s) * (2 * c.blocks)
unfolding crs crs_of stands_at
crs-row c q s =
    let N = c.blocks in
    let z : carriers c ≡ 6 * (2 * N) = omega arith in
    let x = (crs_shift c q s + c.identity) % 6 in
    rw z
    (by-six (2 * N) _ (λ b r. indicator (sends c q s && eqb r x))
    (λ b r k m l e.
    let y : k % 6 ≡ r = omega arith in
    rw y (ap indicator (regroup (ltb q c.ports) (crs_symbol c q s) (eqb r x))))
    ∙ sum-const (2 * N) (indicator (sends c q s)) _
    (λ b m. eqb→eq _ _ (by-table 1 (λ g. hit g x) (below_at (λ x. every_way 1 (λ g. hit g x)) 6 one-of-six x (omega arith)) (sends c q s)))
    ∙ mul_comm (2 * N) (indicator (sends c q s)))

-- how many symbols a port uses
port-symbols : (c : Cell) (q : ℕ) → sum_to (symbols c) (λ s. indicator (sends c q s)) ≡ indicator (ltb q c.ports) * (if ltb q 2 then 4 else 2)
unfolding slot_length sum_to crs_symbol in_slot
port-symbols c q =
    by-test (ltb q c.ports)
    (λ x. by-test (ltb q 2)
    (λ y. by-test (eqb c.prefix 1) (λ z. rw (x, y, z) refl) (λ z. rw (x, y, z) refl))
    (λ y. by-test (eqb c.prefix 1) (λ z. rw (x, y, z) refl) (λ z. rw (x, y, z) refl)))
    (λ x. rw x (sum-none (symbols c) _ (λ s l. refl) ∙ sym (zero-mul (if ltb q 2 then 4 else 2))))

-- ---- the centre and what the marks use of it
used-62 : (c : Cell) → 6 ≤ c.blocks → sum_to (carriers c) (λ k. indicator (used c k)) ≡ 62
unfolding middle
used-62 c l =
    let N = c.blocks in
    let z : min (12 * N) (6 * N + 31) - (6 * N - 31) ≡ 62 = omega arith in
    sum_same (12 * N) _ (λ k. indicator (within (6 * N - 31) (6 * N + 31) k)) (λ k m. ap indicator (lowered (6 * N) 31 (6 * N + 31) k)) ∙ in-range (6 * N - 31) (6 * N + 31) (12 * N) ∙ z

centre-72 : (c : Cell) → 6 ≤ c.blocks → sum_to (carriers c) (λ k. indicator (centre c k)) ≡ 72
unfolding middle
centre-72 c l =
    let N = c.blocks in
    let z : min (12 * N) (6 * N + 36) - (6 * N - 36) ≡ 72 = omega arith in
    sum_same (12 * N) _ (λ k. indicator (within (6 * N - 36) (6 * N + 36) k)) (λ k m. ap indicator (lowered (6 * N) 36 (6 * N + 36) k)) ∙ in-range (6 * N - 36) (6 * N + 36) (12 * N) ∙ z

both-tests : (c : Cell) (k : ℕ) → centre c k && used c k ≡ used c k
both-tests c k = same_test _ _ (λ h. and_right (centre c k) (used c k) h) (λ h. both (used-centre c k h) h)

edges-10 : (c : Cell) → 6 ≤ c.blocks → sum_to (carriers c) (λ k. indicator (centre c k && not (used c k))) ≡ 10
edges-10 c l =
    let W = carriers c in
    let z : sum_to W (λ k. indicator (centre c k && not (used c k))) + sum_to W (λ k. indicator (centre c k && used c k)) ≡ 72 =
    sum-add W _ _ ∙ sum_same W _ (λ k. indicator (centre c k)) (λ k m. parted (centre c k) (used c k)) ∙ centre-72 c l in
    let y : sum_to W (λ k. indicator (centre c k && used c k)) ≡ 62 = sum_same W _ (λ k. indicator (used c k)) (λ k m. ap indicator (both-tests c k)) ∙ used-62 c l in
    omega arith

-- a mark in one symbol
mark-rows : (c : Cell) (t : ℕ → Bool) (m : Bool) → 6 ≤ c.blocks → sum_to (symbols c) (λ s. indicator (t s)) ≡ indicator m
    → sum_to (symbols c) (λ s. sum_to (carriers c) (λ k. indicator (t s && used c k))) ≡ indicator m * 62
mark-rows c t m l e =
    sum_same (symbols c) _ (λ s. indicator (t s) * 62)
    (λ s i. by-test (t s) (λ x. rw x (used-62 c l)) (λ x. rw x (sum-none (carriers c) _ (λ k j. refl))))
    ∙ sum-times (symbols c) 62 (λ s. indicator (t s)) ∙ ap (λ (x : ℕ). x * 62) e

-- in one symbol of a slot's last two
mark-once : (c : Cell) (d : ℕ) (m : Bool) → (d ≡ 1) ⊎ (d ≡ 2) → sum_to (symbols c) (λ s. indicator (m && eqb (s + d) (slot_length c))) ≡ indicator m
unfolding slot_length sum_to
mark-once c d true (inl h) = by-test (eqb c.prefix 1) (λ x. rw (h, x) refl) (λ x. rw (h, x) refl)
mark-once c d true (inr h) = by-test (eqb c.prefix 1) (λ x. rw (h, x) refl) (λ x. rw (h, x) refl)
mark-once c d false h = sum-none (symbols c) _ (λ s l. refl)

times-62 : (m : Bool) → indicator m * 62 ≡ (if m then 62 else 0)
times-62 true = refl
times-62 false = refl

-- ---- held
any-four : (a b d e p q r t : Bool) → a && p || b && q || d && r || e && t ≡ true → p || q || r || t ≡ true
any-four a b d e p q r t h = follows _ _ (by-table 8 (λ a b d e p q r t. implies (a && p || b && q || d && r || e && t) (p || q || r || t)) tt a b d e p q r t) h

three-parts : (g a b : Bool) → (a ≡ true → b ≡ true) → indicator (g && b && not a) + indicator (g && not b) ≡ indicator (g && not a)
three-parts false a b h = refl
three-parts true true true h = refl
three-parts true true false h = clash (h refl) refl
three-parts true false true h = refl
three-parts true false false h = refl

module _ (c : Cell) (f : Frame) (wide : 6 ≤ c.blocks) (ports : Among c.ports port_counts) where
  abbrev each : ℕ → ℕ → ℕ
  each P s = 12 * (6 - signals c P s)

  abbrev marks : ℕ → Bool
  marks s = marked f && (eqb (s + 1) (slot_length c) || eqb (s + 2) (slot_length c))

  abbrev area : ℕ → Bool
  area s = eqb f.subframe 0 && leb (slot_length c) s && ltb s (slot_length c + 4)

  abbrev held_part : ℕ → ℕ
  held_part s = (if marks s then 10 else 0) + (if area s then each c.ports s - each 4 s else 0)

  module _ (s : ℕ) where
    skipped : (k : ℕ) → crs_any c s k ≡ true → crs_of_four c s k ≡ true
    unfolding crs_below
    skipped k h = any-four (ltb 0 c.ports) (ltb 1 c.ports) (ltb 2 c.ports) (ltb 3 c.ports) (crs_of c 0 s k) (crs_of c 1 s k) (crs_of c 2 s k) (crs_of c 3 s k) h

    holes-row : sum_to (carriers c) (λ k. indicator (centre c k && crs_of_four c s k && not (crs_any c s k))) ≡ each c.ports s - each 4 s
    holes-row =
        away _ _ _
        (ap (λ (x : ℕ). sum_to (carriers c) (λ k. indicator (centre c k && crs_of_four c s k && not (crs_any c s k))) + x) (sym (open_row c 4 s wide))
        ∙ sum-add (carriers c) _ _
        ∙ sum_same (carriers c) _ (λ k. indicator (centre c k && not (crs_any c s k))) (λ k m. three-parts (centre c k) (crs_any c s k) (crs_of_four c s k) (skipped k))
        ∙ open_row c c.ports s wide)

    before : marks s ≡ true → area s ≡ false
    before h =
        let L = slot_length c in
        let l : s < L = early (and_right (marked f) (eqb (s + 1) L || eqb (s + 2) L) h) in
        rw (lt-leb L s l, and-false) refl
      where
        early : eqb (s + 1) (slot_length c) || eqb (s + 2) (slot_length c) ≡ true → s < slot_length c
        early e = by-test (eqb (s + 1) (slot_length c))
            (λ x. let z : s + 1 ≡ slot_length c = eqb-true _ _ x in omega arith)
            (λ x. let z : s + 2 ≡ slot_length c = eqb-true _ _ (rw x at e) in omega arith)

    held-row : sum_to (carriers c) (λ k. indicator (held c f s k)) ≡ held_part s
    unfolding held in_sync_area held_by_sync held_by_pbch in_pbch_area
    held-row =
        by-test (marks s)
        (λ x. rw (x, before x)
        (sum_same (carriers c) _ (λ k. indicator (centre c k && not (used c k))) (λ k m. ap indicator (or-false (centre c k && not (used c k)))) ∙ edges-10 c wide))
        (λ x. by-test (area s)
        (λ y. rw (x, y) (holes-row ∙ sym (zero-add (each c.ports s - each 4 s))))
        (λ y. rw (x, y) (sum-none (carriers c) _ (λ k m. refl))))

  held_rows : sum_to (symbols c) held_part ≡ held_elements c f
  unfolding slot_length sum_to signals crs_symbol in_slot marked held_elements holes
  held_rows = by-ports ports
    where
      by-ports : Among c.ports port_counts → sum_to (symbols c) held_part ≡ held_elements c f
      by-ports (inl p) =
          by-test (eqb c.prefix 1)
          (λ x. by-test (eqb f.subframe 0) (λ y. simp (x, y, p)) (λ y. by-test (eqb f.subframe 5) (λ z. simp (x, y, z, p)) (λ z. simp (x, y, z, p))))
          (λ x. by-test (eqb f.subframe 0) (λ y. simp (x, y, p)) (λ y. by-test (eqb f.subframe 5) (λ z. simp (x, y, z, p)) (λ z. simp (x, y, z, p))))
      by-ports (inr (inl p)) =
          by-test (eqb c.prefix 1)
          (λ x. by-test (eqb f.subframe 0) (λ y. simp (x, y, p)) (λ y. by-test (eqb f.subframe 5) (λ z. simp (x, y, z, p)) (λ z. simp (x, y, z, p))))
          (λ x. by-test (eqb f.subframe 0) (λ y. simp (x, y, p)) (λ y. by-test (eqb f.subframe 5) (λ z. simp (x, y, z, p)) (λ z. simp (x, y, z, p))))
      by-ports (inr (inr (inl p))) =
          by-test (eqb c.prefix 1)
          (λ x. by-test (eqb f.subframe 0) (λ y. simp (x, y, p)) (λ y. by-test (eqb f.subframe 5) (λ z. simp (x, y, z, p)) (λ z. simp (x, y, z, p))))
          (λ x. by-test (eqb f.subframe 0) (λ y. simp (x, y, p)) (λ y. by-test (eqb f.subframe 5) (λ z. simp (x, y, z, p)) (λ z. simp (x, y, z, p))))
      by-ports (inr (inr (inr x3))) = elim x3 [ ]

-- ---- the kinds
module _ (F : Owner → ℕ) where
  table-const : (n : ℕ) (g : ℕ → Owner) (v : ℕ) → ((i : ℕ) → i < n → F (g i) ≡ v) → sum_of (table n g) F ≡ n * v
  unfolding sum_of table
  table-const zero g v h = sym (zero-mul v)
  table-const (suc n) g v h = rw (h 0 (omega arith), table-const n (λ i. g (suc i)) v (λ i l. h (suc i) (omega arith)), suc-mul) (omega arith)

rest_of : (a b t : ℕ) → a + b ≡ t → b ≡ t - a
rest_of a b t e = omega arith

module _ (w : List ℕ) (p : Plan) where
  abbrev part : ℕ → Owner → ℕ
  part j o = if eqb (kind_of o) j then count_of w p o else 0

  abbrev units : ℕ → ℕ
  units j = sum_of (table (mapping_units p.cell) Phich) (part j)

  abbrev users : ℕ → ℕ
  users j = sum_of (table (length (users_of w p)) UserOf) (part j)

  parts : (j : ℕ)
      → kind_count w p j
      ≡ part j Idle + (part j (Crs 0) + (part j (Crs 1) + (part j (Crs 2) + (part j (Crs 3) + (part j (Sync Primary) + (part j (Sync Secondary)
      + (part j Pbch + (part j Pcfich + (part j Held + (units j + users j))))))))))
  unfolding kind_count owners above sum_of
  parts j = rw (list-append (table (mapping_units p.cell) Phich) (table (length (users_of w p)) UserOf) (part j)) refl

  none : (j : ℕ) → eqb 5 j ≡ false → eqb 6 j ≡ false → units j + users j ≡ 0
  none j x y =
      omega (
        arith,
        table-const (part j) (mapping_units p.cell) Phich 0 (λ i l. rw x refl),
        table-const (part j) (length (users_of w p)) UserOf 0 (λ i l. rw y refl),
      )

  module _ (e : check_of w ≡ accepted p) where
    abbrev N : ℕ
    N = p.cell.blocks

    wide : 6 ≤ N
    wide = blocks-least p.cell (valid w p e).cell

    port-count : (q : ℕ) → count_of w p (Crs q) ≡ indicator (ltb q p.cell.ports) * (if ltb q 2 then 4 else 2) * (2 * N)
    unfolding count_of owns fixed_rule
    port-count q =
        sum_same (symbols p.cell) _ (λ s. indicator (sends p.cell q s) * (2 * N)) (λ s l. crs-row p.cell q s)
        ∙ sum-times (symbols p.cell) (2 * N) (λ s. indicator (sends p.cell q s))
        ∙ ap (λ (x : ℕ). x * (2 * N)) (port-symbols p.cell q)

    pub crs-kind : kind_count w p 0 ≡ crs_elements p.cell
    unfolding crs_elements
    crs-kind = by-ports (valid w p e).cell.ports
      where
        four-ports : kind_count w p 0 ≡ count_of w p (Crs 0) + (count_of w p (Crs 1) + (count_of w p (Crs 2) + count_of w p (Crs 3)))
        four-ports = omega (arith, parts 0, none 0 refl refl)

        by-ports : Among p.cell.ports port_counts → kind_count w p 0 ≡ (if eqb p.cell.ports 1 then 8 else if eqb p.cell.ports 2 then 16 else 24) * N
        by-ports (inl z) = four-ports ∙ rw (port-count 0, port-count 1, port-count 2, port-count 3, z) (omega arith)
        by-ports (inr (inl z)) = four-ports ∙ rw (port-count 0, port-count 1, port-count 2, port-count 3, z) (omega arith)
        by-ports (inr (inr (inl z))) = four-ports ∙ rw (port-count 0, port-count 1, port-count 2, port-count 3, z) (omega arith)
        by-ports (inr (inr (inr x3))) = elim x3 [ ]

    primary : count_of w p (Sync Primary) ≡ sync_elements p.frame
    unfolding count_of owns fixed_rule pss sync_elements
    primary =
        let m = marked p.frame in
        mark-rows p.cell (λ s. m && eqb (s + 1) (slot_length p.cell)) m wide (mark-once p.cell 1 m (inl refl)) ∙ times-62 m

    secondary : count_of w p (Sync Secondary) ≡ sync_elements p.frame
    unfolding count_of owns fixed_rule sss sync_elements
    secondary =
        let m = marked p.frame in
        mark-rows p.cell (λ s. m && eqb (s + 2) (slot_length p.cell)) m wide (mark-once p.cell 2 m (inr refl)) ∙ times-62 m

    held-count : count_of w p Held ≡ held_elements p.cell p.frame
    unfolding count_of owns fixed_rule
    held-count =
        let a = (valid w p e).cell.ports in
        sum_same (symbols p.cell) _ _ (λ s l. held-row p.cell p.frame wide a s) ∙ held_rows p.cell p.frame wide a

    pub pss-kind : kind_count w p 1 ≡ sync_elements p.frame
    pss-kind = omega (arith, parts 1, none 1 refl refl, primary)

    pub sss-kind : kind_count w p 2 ≡ sync_elements p.frame
    sss-kind = omega (arith, parts 2, none 2 refl refl, secondary)

    pub pbch-kind : kind_count w p 3 ≡ pbch_elements p.cell p.frame
    unfolding pbch_elements
    pbch-kind = (let z : kind_count w p 3 ≡ count_of w p Pbch = omega (arith, parts 3, none 3 refl refl) in z) ∙ pbch-count w p e

    pub pcfich-kind : kind_count w p 4 ≡ 16
    pcfich-kind = omega (arith, parts 4, none 4 refl refl, pcfich-count w p e)

    pub phich-kind : kind_count w p 5 ≡ 12 * mapping_units p.cell
    phich-kind =
        omega (
          arith,
          parts 5,
          table-const (part 5) (mapping_units p.cell) Phich 12 (λ i l. phich-count w p e i l),
          table-const (part 5) (length (users_of w p)) UserOf 0 (λ i l. refl),
        )

    pub held-kind : kind_count w p 7 ≡ held_elements p.cell p.frame
    held-kind = omega (arith, parts 7, none 7 refl refl, held-count)

    -- idle's places are the rest
    pub idle-kind : kind_count w p 8 ≡ carriers p.cell * symbols p.cell - sum_to 8 (kind_count w p)
    unfolding sum_to
    idle-kind = rest_of (sum_to 8 (kind_count w p)) (kind_count w p 8) (carriers p.cell * symbols p.cell) (kinds-add-up w p e)
