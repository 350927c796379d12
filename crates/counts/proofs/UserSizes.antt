-- A user's count is even with two or four ports, and at least 24 a block; all users together have at most the places of the grid, so at most
-- 16,800. Assumes nothing but that the plan check answers with the plan.
use Prim.Native.Nat.{ℕ, ◌+◌, ◌-◌, ◌*◌, ◌%◌, ◌≤◌, ◌<◌, min, max}
use mathlib.Core.Path.{◌≡◌, refl, sym, ◌∙◌}
use mathlib.Core.Logic.{◌⊎◌, inl, inr}
use mathlib.Core.Bool.{Bool, true, false, ◌&&◌, ◌||◌, and-false}
use mathlib.Core.List.{List, [], ◌∷◌}
use native.Mathlib.Nat.{mul-le-mul_right, mul-le-mul_left, mul-add, mul-one, mul-zero, le_trans}
use native.Mathlib.Omega.{arith}
use lib.Dec.{leb, ltb, eqb}
use lib.ListN.{length, get_or}
use borrow.Author.Tests.{eq-eqb, ne_eqb, le-leb, lt-ltb, le-ltb, leb-true, ltb-true, ltb-false, eqb-false}
use Rattle.std.specs.declared.result.Result.TheVariants.{Ok as accepted}
use Rattle.base.proofs.Tests.{by-test, or_left, or_right, is_false, on-if}
use Rattle.plan.specs.Lists.{Every, Apart}
use Rattle.plan.specs.Check.{check_of}
use Rattle.plan.specs.CommandLists.{users_of}
use Rattle.plan.specs.Valid.{UserIn, Disjoint}
use Rattle.plan.specs.declared.Cell.{Cell}
use Rattle.plan.specs.declared.Frame.{Frame}
use Rattle.plan.specs.declared.User.{User}
use Rattle.plan.specs.declared.Plan.{Plan}
use Rattle.plan.proofs.Listed.{and_left, and_right, every-at}
use Rattle.plan.proofs.Valid.{valid}
use Rattle.plan.proofs.Counts.{blocks-most}
use Rattle.base.specs.Choice.{indicator}
use Rattle.layout.specs.Rules.{slot_length, in_slot, marked}
use Rattle.plan.specs.Fields.{control_symbols}
use Rattle.layout.specs.Owners.{symbols, carriers}
use Rattle.layout.proofs.Pilot.{slot-length, slot-short, late-unused}
use Rattle.plan.proofs.ControlRegion.{region-six}
use Rattle.layout.proofs.ControlRegion.{region-before-sync}
use Rattle.layout.specs.declared.Owner.TheVariants.{User as UserOf}
use Rattle.base.specs.Sums.{sum_to, sum_of}
use Rattle.counts.specs.Counts.{count_of}
use Rattle.counts.specs.Users.{signals, taken, halves, row_elements, user_elements, all_elements, users_elements}
use Rattle.base.proofs.Sums.{sum-none, sum-even, sum-most, sum-parts, swap}
use Rattle.counts.proofs.Signals.{signals-pair, signals-other}
use Rattle.counts.proofs.Halves.{within, in-range, halves-most}
use Rattle.counts.proofs.UserElements.{user-elements}

-- ---- even
even-times : (x h : ℕ) → (x ≡ 0) ⊎ (x ≡ 2) → (6 - x) * h % 2 ≡ 0
even-times x h (inl e) = rw e (omega arith)
even-times x h (inr e) = rw e (omega arith)

row-even : (c : Cell) (f : Frame) (first count s : ℕ) → (c.ports ≡ 2) ⊎ (c.ports ≡ 4) → row_elements c f first count s % 2 ≡ 0
unfolding row_elements
row-even c f first count s two =
    on-if (λ (x : ℕ). x % 2 ≡ 0) (ltb s (control_symbols c f)) (λ e. refl)
    (λ e. even-times _ _ (signals-pair c c.ports s two))

pub elements-even : (c : Cell) (f : Frame) (first count : ℕ) → (c.ports ≡ 2) ⊎ (c.ports ≡ 4) → user_elements c f first count % 2 ≡ 0
unfolding user_elements
elements-even c f first count two = sum-even (symbols c) _ (λ s l. row-even c f first count s two)

-- ---- never fewer than 24 a block: the last two symbols of slot 1 lie after the control region and PBCH and have no reference signal, and
-- the marks are in slot 0
module _ (c : Cell) (f : Frame) (s : ℕ) (last : symbols c ≤ s + 2) where
  last-free : taken c f s ≡ false
  unfolding taken
  last-free =
      let L = slot_length c in
      let h = slot-length c in
      rw (ne_eqb (s + 1) L (λ e. omega arith), ne_eqb (s + 2) L (λ e. omega arith), le-ltb s (L + 4) (omega arith)) (simp and-false)

  last-unused : signals c c.ports s ≡ 0
  unfolding in_slot
  last-unused =
      let h = slot-length c in
      let z : slot_length c ≤ in_slot c s + 2 = rw (le-ltb s (slot_length c) (omega arith)) (omega arith) in
      sym (signals-other c c.ports s (late-unused c 0 s z) (late-unused c 2 s z))

  last_row : (first count : ℕ) → f.cfi ≤ 3 → row_elements c f first count s ≡ 12 * count
  unfolding row_elements halves
  last_row first count l =
      rw (le-ltb s (control_symbols c f) (omega (arith, region-before-sync c f l, slot-length c)), last-free, last-unused) (omega arith)

pub elements-least : (c : Cell) (f : Frame) (first count : ℕ) → f.cfi ≤ 3 → 24 * count ≤ user_elements c f first count
unfolding user_elements sum_to
elements-least c f first count l =
    let n = symbols c - 2 in
    let h = slot-length c in
    let z : symbols c ≡ n + 2 = omega arith in
    rw (z, sum-parts n 2 (row_elements c f first count))
    (omega (arith, last_row c f (n + 0) (omega arith) first count l, last_row c f (n + 1) (omega arith) first count l))

-- no more at six blocks with the extended prefix, f = 0 and CFI 3: after the region of four symbols those of SSS, PSS and PBCH leave nothing
module _ (c : Cell) (f : Frame) (six : c.blocks ≡ 6) (extended : c.prefix ≡ 1) (broadcast : f.subframe ≡ 0) (longest : f.cfi ≡ 3) where
  short-slot : slot_length c ≡ 6
  short-slot = slot-short c (eq-eqb c.prefix 1 extended)

  four-symbols : control_symbols c f ≡ 4
  four-symbols = omega (arith, region-six c f six)

  all-taken : (s : ℕ) → 4 ≤ s → s < 10 → taken c f s ≡ true
  unfolding taken marked
  all-taken s l m =
      let x = eqb (s + 1) 6 || eqb (s + 2) 6 in
      let y = leb 6 s && ltb s 10 in
      rw (short-slot, eq-eqb f.subframe 0 broadcast) (by-test (ltb s 6) (λ e. or_left x y (mark (ltb-true s 6 e))) (λ e. or_right x y (area (ltb-false s 6 e))))
    where
      mark : s < 6 → eqb (s + 1) 6 || eqb (s + 2) 6 ≡ true
      mark n = by-test (eqb (s + 1) 6) (λ e. rw e refl) (λ e. let z : (s + 1 ≡ 6) → ⊥ = eqb-false (s + 1) 6 e in rw (e, eq-eqb (s + 2) 6 (omega arith)) refl)

      area : 6 ≤ s → leb 6 s && ltb s 10 ≡ true
      area n = rw (le-leb 6 s n, lt-ltb s 10 m) refl

  none_left : (first count s : ℕ) → first + count ≤ 6 → s < 10 → row_elements c f first count s ≡ 0
  unfolding row_elements halves
  none_left first count s l m =
      by-test (ltb s 4)
      (λ e. let z : s < 4 = ltb-true s 4 e in rw (lt-ltb s (control_symbols c f) (omega (arith, four-symbols))) refl)
      (λ e. let z : 4 ≤ s = ltb-false s 4 e in
      let none : 2 * count - (min (2 * (first + count)) (c.blocks + 6) - max (2 * first) (c.blocks - 6)) ≡ 0 = omega arith in
      rw (le-ltb s (control_symbols c f) (omega (arith, four-symbols)), all-taken s z m, none) (mul-zero (6 - signals c c.ports s)))

  pub elements-six : (first count : ℕ) → first + count ≤ 6 → user_elements c f first count ≡ 24 * count
  unfolding user_elements sum_to
  elements-six first count l =
      let z : symbols c ≡ 10 + 2 = omega (arith, short-slot) in
      let none : sum_to 10 (row_elements c f first count) ≡ 0 = sum-none 10 (row_elements c f first count) (λ s m. none_left first count s l m) in
      let row : (s : ℕ) → symbols c ≤ s + 2 → row_elements c f first count s ≡ 12 * count = λ s m. last_row c f s m first count (omega arith) in
      rw (z, sum-parts 10 2 (row_elements c f first count)) (omega (arith, none, row 10 (omega (arith, short-slot)), row 11 (omega (arith, short-slot))))

-- ---- at most its blocks'
most-times : (x h n : ℕ) → h ≤ 2 * n → (6 - x) * h ≤ 12 * n
most-times x h n l = omega (arith, mul-le-mul_right h (let z : 6 - x ≤ 6 = omega arith in z))

pub row-most : (c : Cell) (f : Frame) (first count s : ℕ) → row_elements c f first count s ≤ 12 * count
unfolding row_elements
row-most c f first count s =
    on-if (λ (x : ℕ). x ≤ 12 * count) (ltb s (control_symbols c f)) (λ e. omega arith)
    (λ e. most-times _ _ count (halves-most c first count (taken c f s)))

pub elements-most : (c : Cell) (f : Frame) (first count : ℕ) → user_elements c f first count ≤ symbols c * (12 * count)
unfolding user_elements
elements-most c f first count = sum-most (symbols c) (12 * count) _ (λ s l. row-most c f first count s)

-- ---- the users' blocks together
abbrev has_block : User → ℕ → Bool
has_block u b = within u.first (u.first + u.count) b

none_other : (u : User) (us : List User) (b : ℕ) → has_block u b ≡ true → Every (Disjoint u) us → sum_of us (λ v. indicator (has_block v b)) ≡ 0
unfolding sum_of
none_other u [] b e h = refl
none_other u (v ∷ us) b e h =
    let n : has_block v b ≡ false =
    is_false (has_block v b)
    (λ x. h.0.blocks b
    (leb-true _ _ (and_left (leb u.first b) (ltb b (u.first + u.count)) e), ltb-true _ _ (and_right (leb u.first b) (ltb b (u.first + u.count)) e))
    (leb-true _ _ (and_left (leb v.first b) (ltb b (v.first + v.count)) x), ltb-true _ _ (and_right (leb v.first b) (ltb b (v.first + v.count)) x))) in
    rw (n, none_other u us b e h.1) refl

at_most_one : (us : List User) (b : ℕ) → Apart Disjoint us → sum_of us (λ v. indicator (has_block v b)) ≤ 1
unfolding sum_of
at_most_one [] b h = omega arith
at_most_one (u ∷ us) b h =
    by-test (has_block u b)
    (λ e. rw (e, none_other u us b e h.0) (omega arith))
    (λ e. rw e (omega (arith, at_most_one us b h.1)))

counted : (c : Cell) (us : List User) → Every (UserIn c) us → sum_of us (λ u. u.count) ≡ sum_of us (λ u. sum_to c.blocks (λ b. indicator (has_block u b)))
unfolding sum_of
counted c [] h = refl
counted c (u ∷ us) h =
    let z : u.count ≡ min c.blocks (u.first + u.count) - u.first = omega (arith, h.0.last) in
    let x : u.count ≡ sum_to c.blocks (λ b. indicator (has_block u b)) = z ∙ sym (in-range u.first (u.first + u.count) c.blocks) in
    rw (← x, ← counted c us h.1) refl

blocks-within : (c : Cell) (us : List User) → Every (UserIn c) us → Apart Disjoint us → sum_of us (λ u. u.count) ≤ c.blocks
blocks-within c us h a =
    let m = sum-most c.blocks 1 (λ b. sum_of us (λ u. indicator (has_block u b))) (λ b l. at_most_one us b a) in
    omega (arith, counted c us h, swap c.blocks us (λ u b. indicator (has_block u b)), mul-one c.blocks)

by_blocks : (c : Cell) (f : Frame) (us : List User) → sum_of us (λ u. user_elements c f u.first u.count) ≤ symbols c * (12 * sum_of us (λ u. u.count))
unfolding sum_of
by_blocks c f [] = omega arith
by_blocks c f (u ∷ us) =
    let n = sum_of us (λ u. u.count) in
    let z : 12 * (u.count + n) ≡ 12 * u.count + 12 * n = omega arith in
    rw (z, mul-add) (omega (arith, elements-most c f u.first u.count, by_blocks c f us))

module _ (w : List ℕ) (p : Plan) (e : check_of w ≡ accepted p) where
  -- all users together have at most the grid's places, and at most 16,800
  pub users-most : users_elements w p ≤ symbols p.cell * carriers p.cell
  unfolding all_elements
  users-most =
      let v = valid w p e in
      let z : 12 * sum_of (users_of w p) (λ u. u.count) ≤ 12 * p.cell.blocks = omega (arith, blocks-within p.cell (users_of w p) v.users v.apart) in
      le_trans (by_blocks p.cell p.frame (users_of w p)) (mul-le-mul_left (symbols p.cell) z)

  pub users-few : users_elements w p ≤ 16800
  users-few =
      let v = valid w p e in
      let h = slot-length p.cell in
      let b = blocks-most p.cell v.cell in
      let z : symbols p.cell * carriers p.cell ≤ 14 * carriers p.cell = mul-le-mul_right (carriers p.cell) (let y : symbols p.cell ≤ 14 = omega arith in y) in
      le_trans users-most (le_trans z (let y : 14 * (12 * p.cell.blocks) ≤ 16800 = omega arith in y))

  module _ (d : User) (i : ℕ) (l : i < length (users_of w p)) where
    -- with two or four ports a user's element count is even, so that its symbols make pairs
    pub user-even : (p.cell.ports ≡ 2) ⊎ (p.cell.ports ≡ 4) → count_of w p (UserOf i) % 2 ≡ 0
    user-even two = rw (user-elements w p e d i l) (elements-even p.cell p.frame _ _ two)

    pub user-least : 24 * (get_or (users_of w p) i d).count ≤ count_of w p (UserOf i)
    user-least = rw (user-elements w p e d i l) (elements-least p.cell p.frame _ _ (valid w p e).frame.most)

    pub user-some : 1 ≤ count_of w p (UserOf i)
    user-some = omega (arith, user-least, (every-at (UserIn p.cell) d (users_of w p) i (valid w p e).users l).some)
