-- The code's ways to the owner of a place, by the tests that it makes in turn. Assumes nothing.
use Rattle.std.specs.Prelude.{if◌then◌else◌}
use Prim.Native.Nat.{ℕ, zero, suc, ◌+◌, ◌-◌, ◌*◌, ◌/◌, ◌%◌, ◌≤◌, ◌<◌}
use mathlib.Core.Path.{◌≡◌, refl, sym, ap, ◌∙◌}
use mathlib.Core.Bool.{Bool, true, false, ◌&&◌, or-true}
use mathlib.Core.List.{List, [], ◌∷◌}
use native.Mathlib.Omega.{arith}
use native.Mathlib.Nat.{not-suc-le-zero, mod-lt, mul-le-mul, mul-le-mul_right, mul-div_cancel, div-le_self}
use native.Mathlib.Numerals.{sub-one}
use lib.Dec.{leb, ltb, eqb}
use lib.ListN.{drop}
use borrow.Author.Tests.{eq-eqb, ne_eqb, lt-ltb, le-ltb, le-leb, lt-leb, ltb-true, leb-true, eqb-true, not-true}
use types.Run.{OneOf}
use denote.Enum.Declared.{tag_of}
use Rattle.plan.specs.Lists.{one_of}
use Rattle.plan.specs.Commands.{user_of}
use Rattle.plan.specs.Fields.{control_symbols, mapping_units, group_size, symbol_groups}
use Rattle.plan.specs.CommandLists.{next_of, users_from, users_of, commands_from}
use Rattle.plan.specs.declared.Cell.{Cell}
use Rattle.plan.specs.declared.Frame.{Frame}
use Rattle.plan.specs.declared.User.{User}
use Rattle.plan.specs.declared.Plan.{Plan}
use Rattle.plan.proofs.OneOf.{not_in}
use Rattle.plan.proofs.Listed.{and_left, and_right}
use Rattle.plan.proofs.CommandLists.{commands-next}
use Rattle.base.proofs.Tests.{by-test, same_test}
use Rattle.layout.specs.Rules.{slot_length, slot_of, in_slot, crs_shift, middle, centre, used, marked, in_sync_area, in_pbch_area}
use Rattle.layout.specs.Rules.{element_group, in_group, format_group, is_format, format_has, quad_symbol, is_left, groups_left, start_number}
use Rattle.layout.specs.Owners.{blocks_have}
use Rattle.layout.specs.Chain.{pilot, below_of, number, quad_in, unit_at, number_at, group_at, control_at, fixed_at, first_as, user_from, is_idle, owner_at}
use Rattle.layout.specs.declared.Mark.TheVariants.{Primary, Secondary}
use Rattle.layout.specs.declared.Owner.{Owner}
use Rattle.layout.specs.declared.Owner.TheVariants.{Crs, Sync, Pbch, Pcfich, Phich, User as UserOf, Held, Idle}
use Rattle.layout.specs.contracts.Owner.{the_type}
use Rattle.layout.proofs.Pilot.{slot-length}
use Rattle.layout.proofs.GroupShape.{else-six}
use Rattle.layout.proofs.Groups.{is-format, below, number_is, left-first, all_left, number-later, left-later, left-most, left-some}

-- ---- a symbol in its slot of L symbols
module _ (c : Cell) (s L : ℕ) (eL : L ≡ slot_length c) where
  pub slot-first : s < L → s ≡ in_slot c s
  unfolding in_slot
  slot-first l = rw (← eL, lt-ltb s L l) refl

  pub slot-second : L ≤ s → s - L ≡ in_slot c s
  unfolding in_slot
  slot-second l = rw (← eL, le-ltb s L l) refl

-- the shift of a reference signal, by the code's tests
pub shift_is :
    (c : Cell) (q s : ℕ) → q < 4
    → crs_shift c q s ≡ (if ltb q 2 then (if eqb (in_slot c s) 0 then 3 * q else 3 * (1 - q)) else if ltb s (slot_length c) then 3 * (q - 2) else 3 * (q - 1))
unfolding crs_shift slot_of
shift_is c zero s h = refl
shift_is c (suc zero) s h = refl
shift_is c (suc (suc zero)) s h = by-test (ltb s (slot_length c)) (λ e. rw e refl) (λ e. rw e refl)
shift_is c (suc (suc (suc zero))) s h = by-test (ltb s (slot_length c)) (λ e. rw e refl) (λ e. rw e refl)
shift_is c (suc (suc (suc (suc q)))) s h = absurd (omega arith)

-- the third symbol from the slot's end
pub third-is : (c : Cell) (l : ℕ) → eqb l (slot_length c - 3) ≡ eqb (l + 3) (slot_length c)
third-is c l =
    let L = slot_length c in
    let big = slot-length c in
    same_test (eqb l (L - 3)) (eqb (l + 3) L)
    (λ e. let z : l ≡ L - 3 = eqb-true _ _ e in eq-eqb (l + 3) L (omega arith))
    (λ e. let z : l + 3 ≡ L = eqb-true _ _ e in eq-eqb l (L - 3) (omega arith))

-- ---- the centre, and the areas of the marks and of PBCH there
module _ (c : Cell) (d k : ℕ) where
  pub middle-high : 6 * c.blocks ≤ k + d → ltb k (6 * c.blocks + d) ≡ middle c d k
  unfolding middle
  middle-high l = rw (le-leb (6 * c.blocks) (k + d) l) refl

  pub middle-low : k + d < 6 * c.blocks → false ≡ middle c d k
  unfolding middle
  middle-low l = rw (lt-leb (6 * c.blocks) (k + d) l) refl

module _ (c : Cell) (f : Frame) (s k L : ℕ) (eL : L ≡ slot_length c) where
  module _ (m : Bool) (em : m ≡ marked f) where
    pub sync-last : m ≡ true → s + 1 ≡ L → (r : Bool) → r ≡ centre c k → r ≡ in_sync_area c f s k
    unfolding in_sync_area
    sync-last t e r er = rw (← em, t, ← eL, eq-eqb (s + 1) L e) er

    pub sync-earlier : m ≡ true → s + 2 ≡ L → (r : Bool) → r ≡ centre c k → r ≡ in_sync_area c f s k
    unfolding in_sync_area
    sync-earlier t e r er = rw (← em, t, ← eL, eq-eqb (s + 2) L e, or-true (eqb (s + 1) L)) er

    pub sync-no : m ≡ true → ((s + 1 ≡ L) → ⊥) → ((s + 2 ≡ L) → ⊥) → false ≡ in_sync_area c f s k
    unfolding in_sync_area
    sync-no t e d = rw (← em, t, ← eL, ne_eqb (s + 1) L e, ne_eqb (s + 2) L d) refl

    pub sync-unmarked : m ≡ false → false ≡ in_sync_area c f s k
    unfolding in_sync_area
    sync-unmarked t = rw (← em, t) refl

  module _ (e : f.subframe ≡ 0) where
    pub area-early : s < L → false ≡ in_pbch_area c f s k
    unfolding in_pbch_area
    area-early l = rw (eq-eqb f.subframe 0 e, ← eL, lt-leb L s l) refl

    pub area_in : L ≤ s → s < L + 4 → (r : Bool) → r ≡ centre c k → r ≡ in_pbch_area c f s k
    unfolding in_pbch_area
    area_in l u r er = rw (eq-eqb f.subframe 0 e, ← eL, le-leb L s l, lt-ltb s (L + 4) u) er

    pub area-late : L ≤ s → L + 4 ≤ s → false ≡ in_pbch_area c f s k
    unfolding in_pbch_area
    area-late l u = rw (eq-eqb f.subframe 0 e, ← eL, le-leb L s l, le-ltb s (L + 4) u) refl

pub area-frame : (c : Cell) (f : Frame) (s k : ℕ) → ((f.subframe ≡ 0) → ⊥) → false ≡ in_pbch_area c f s k
unfolding in_pbch_area
area-frame c f s k e = rw (ne_eqb f.subframe 0 e) refl

-- ---- groups and units
-- what `groups_left` promises
module _ (c : Cell) (big : 6 ≤ c.blocks) (small : c.blocks < 256) (s : ℕ) {n : ℕ} (en : n ≡ c.blocks) where
  abbrev Left : ℕ → Type 0
  Left r = (r ≡ groups_left c s) × (0 < r) × (r < 1024)

  bounded : (r : ℕ) → r ≡ groups_left c s → Left r
  bounded r e = (e, omega (arith, left-some c big s), omega (arith, left-most c big s))

  pub left-at-first : s ≡ 0 → Left (2 * n - 4)
  left-at-first e = bounded (2 * n - 4) (let x : 2 * n - 4 ≡ 2 * c.blocks - 4 = omega arith in x ∙ sym (left-first c big) ∙ ap (groups_left c) (sym e))

  module _ (later : s ≡ 0 → ⊥) {z : ℕ} (ez : z ≡ group_size c s) where
    all_of : (g x : ℕ) → group_size c s ≡ x → g ≡ 12 * c.blocks / x → Left g
    unfolding symbol_groups
    all_of g x ex eg = bounded g (eg ∙ ap (λ (y : ℕ). 12 * c.blocks / y) (sym ex) ∙ sym (left-later c s (omega arith)))

    pub left-of-fours : z ≡ 4 → Left (3 * n)
    left-of-fours e = all_of (3 * n) 4 (sym ez ∙ e) (omega arith)

    pub left-of-sixes : (z ≡ 4 → ⊥) → Left (2 * n)
    left-of-sixes e = all_of (2 * n) 6 (else-six c s (λ d. e (ez ∙ d))) (omega arith)

-- the start's number
pub start_first : (c : Cell) → 6 ≤ c.blocks → (s : ℕ) → s ≡ 0 → c.identity < 65536 → (c.identity ≡ start_number c s) × (c.identity < 67108864)
unfolding start_number
start_first c big s e l = (sym (ap (λ (s : ℕ). c.identity * groups_left c s / groups_left c 0) e ∙ mul-div_cancel c.identity {n = groups_left c 0} (left-some c big 0)), omega arith)

module _ (c : Cell) (s : ℕ) {h : ℕ} (eh : h ≡ groups_left c s) (few : h < 1024) (C : c.identity < 65536) where
  pub start-product : c.identity * h ≤ 65535 * 1023
  start-product = mul-le-mul {n₁ = c.identity} {m₁ = h} {n₂ = 65535} {m₂ = 1023} (omega arith) (omega arith)

  pub start_is : {h₀ : ℕ} → h₀ ≡ groups_left c 0 → (c.identity * h / h₀ ≡ start_number c s) × (c.identity * h / h₀ < 67108864)
  unfolding start_number
  start_is {h₀ = h₀} e₀ = (rw (eh, e₀) refl, omega (arith, start-product, div-le_self (c.identity * h) h₀))

-- a quad's test: M the number of units, h that of the groups left, t the symbol of quad i
module _ (c : Cell) (s d i : ℕ) {t : ℕ} (et : t ≡ quad_symbol c i) where
  pub quad-elsewhere : (t ≡ s → ⊥) → false ≡ quad_in c s d i
  unfolding quad_in
  quad-elsewhere n = rw (← et, ne_eqb t s n) refl

  pub quad-here : t ≡ s → {h M : ℕ} → h ≡ groups_left c s → M ≡ mapping_units c → (r : Bool) → r ≡ leb (i * h / 3) d && ltb d (i * h / 3 + M) → r ≡ quad_in c s d i
  unfolding quad_in
  quad-here e eh eM r er = er ∙ rw (← et, eq-eqb t s e, ← eh, ← eM) refl

pub units-few : (c : Cell) → c.sixths < 256 → c.blocks < 256 → mapping_units c < 2048
unfolding mapping_units
units-few c l m = omega (arith, mul-le-mul {n₁ = c.sixths} {m₁ = c.blocks} {n₂ = 255} {m₂ = 255} (omega arith) (omega arith))

-- the walk over the quads, from the third down
module _ (c : Cell) (s d : ℕ) where
  pub unit-none : {n : ℕ} → n ≡ 0 → Idle ≡ unit_at c s d n
  unfolding unit_at
  unit-none e = rw e refl

  module _ {h : ℕ} (eh : h ≡ groups_left c s) where
    pub unit-found : (n : ℕ) → 0 < n → {r : Bool} → r ≡ quad_in c s d (n - 1) → r ≡ true → Phich (d - (n - 1) * h / 3) ≡ unit_at c s d n
    unfolding unit_at
    unit-found zero l er t = absurd (not-suc-le-zero l)
    unit-found (suc i) l er t = rw (sub-one, sym (rw sub-one at er) ∙ t, eh) refl

    -- it has a byte's number, and stands after the quad's first number
    pub unit-byte : (i : ℕ) {r : Bool} → r ≡ quad_in c s d i → r ≡ true → c.sixths ≤ 12 → c.blocks < 256 → (i * h / 3 ≤ d) × (d - i * h / 3 < 256)
    unfolding quad_in mapping_units
    unit-byte i er t few small =
        let a = i * groups_left c s / 3 in
        let M = (c.sixths * c.blocks + 47) / 48 in
        let b = leb a d && ltb d (a + M) in
        let e : b ≡ true = and_right (eqb (quad_symbol c i) s) b (sym er ∙ t) in
        let x : a ≤ d = leb-true a d (and_left (leb a d) (ltb d (a + M)) e) in
        let y : d < a + M = ltb-true d (a + M) (and_right (leb a d) (ltb d (a + M)) e) in
        rw eh (x, omega (arith, mul-le-mul_right c.blocks few))

  pub unit-passed : (n : ℕ) → 0 < n → {r : Bool} → r ≡ quad_in c s d (n - 1) → r ≡ false → unit_at c s d n ≡ unit_at c s d (n - 1)
  unfolding unit_at
  unit-passed zero l er t = absurd (not-suc-le-zero l)
  unit-passed (suc i) l er t = rw (sub-one, sym (rw sub-one at er) ∙ t) refl

pub number-from : (c : Cell) (s n : ℕ) {h b : ℕ} → h ≡ groups_left c s → b ≡ start_number c s → (r : Owner) → r ≡ unit_at c s ((n + (h - b % h)) % h) 3 → r ≡ number_at c s n
unfolding number_at
number-from c s n eh eb r er = er ∙ rw (← eh, ← eb) refl

-- a group of a later symbol, one of PCFICH, and any other of symbol 0
pub group-later : (c : Cell) (s t : ℕ) → 0 < s → (r : Owner) → r ≡ number_at c s t → r ≡ group_at c s t
unfolding group_at is_left
group-later c s t l r er = er ∙ rw (not-true (format_has c s t) (all_left c s l t), number-later c s l t) refl

module _ (c : Cell) (s t : ℕ) (first : s ≡ 0) where
  format-at : is_format c t ≡ format_has c s t
  unfolding format_has
  format-at = rw (eq-eqb s 0 first) refl

  pub group-format : (i : ℕ) → i < 4 → t ≡ format_group c i → Pcfich ≡ group_at c s t
  unfolding group_at
  group-format i l e = rw (← format-at, is-format c t i l e) refl

  module _ {x y z w : ℕ} (ex : x ≡ format_group c 0) (ey : y ≡ format_group c 1) (ez : z ≡ format_group c 2) (ew : w ≡ format_group c 3) where
    module _ (big : 6 ≤ c.blocks) {b : ℕ} (eb : b ≡ below_of x y z w t) where
      counted : b ≡ below c t
      unfolding below
      counted = rw (← ex, ← ey, ← ez, ← ew) eb

      pub counted-le : b ≤ t
      counted-le = omega (arith, counted, number_is c big t)

      pub numbered : t - b ≡ number c s t
      numbered = (let q : t - b ≡ number c 0 t = omega (arith, counted, number_is c big t) in q) ∙ ap (λ (s : ℕ). number c s t) (sym first)

      module _ (nx : (t ≡ x) → ⊥) (ny : (t ≡ y) → ⊥) (nz : (t ≡ z) → ⊥) (nw : (t ≡ w) → ⊥) where
        no-format : is_format c t ≡ false
        unfolding is_format
        no-format = rw (← ex, ← ey, ← ez, ← ew, ne_eqb t x nx, ne_eqb t y ny, ne_eqb t z nz, ne_eqb t w nw) refl

        pub group-unit : (r : Owner) → r ≡ number_at c s (t - b) → r ≡ group_at c s t
        unfolding group_at
        group-unit r er = er ∙ rw (← format-at, no-format, numbered) refl

-- every place is a group's of four subcarriers; one of six skips k mod 3 = C mod 3
module _ (c : Cell) (s k : ℕ) {z : ℕ} (ez : z ≡ group_size c s) where
  pub control-four : z ≡ 4 → (r : Owner) → r ≡ group_at c s (k / 4) → r ≡ control_at c s k
  unfolding control_at in_group element_group
  control-four e r er = er ∙ rw (← ez, e) refl

  module _ (n : z ≡ 4 → ⊥) where
    six : group_size c s ≡ 6
    six = else-six c s (λ d. n (ez ∙ d))

    pub control-skipped : k % 3 ≡ c.identity % 3 → Idle ≡ control_at c s k
    unfolding control_at in_group
    control-skipped d = rw (six, eq-eqb (k % 3) (c.identity % 3) d) refl

    pub control-kept : (k % 3 ≡ c.identity % 3 → ⊥) → (r : Owner) → r ≡ group_at c s (k / 6) → r ≡ control_at c s k
    unfolding control_at in_group element_group
    control-kept d r er = er ∙ rw (six, ne_eqb (k % 3) (c.identity % 3) d) refl

-- ---- the owner above the users: q is the port that the place has a reference signal of
module _ (c : Cell) (f : Frame) (s k q : ℕ) (eq : q ≡ pilot c s k) where
  pub fix-crs : q < c.ports → Crs q ≡ fixed_at c f s k
  unfolding fixed_at
  fix-crs l = rw (← eq, lt-ltb q c.ports l) refl

  module _ (nq : c.ports ≤ q) where
    pub fix-control : s < 3 → (r : Owner) → r ≡ control_at c s k → r ≡ fixed_at c f s k
    unfolding fixed_at
    fix-control l r er = er ∙ rw (← eq, le-ltb q c.ports nq, lt-ltb s 3 l) refl

    module _ (ns : 3 ≤ s) (y : Bool) (ey : y ≡ in_sync_area c f s k) where
      module _ (ty : y ≡ true) (u : Bool) (eu : u ≡ used c k) where
        module _ (L : ℕ) (eL : L ≡ slot_length c) where
          pub fix-primary : u ≡ true → s + 1 ≡ L → Sync Primary ≡ fixed_at c f s k
          unfolding fixed_at
          fix-primary t e = rw (← eL, ← eq, le-ltb q c.ports nq, le-ltb s 3 ns, ← ey, ty, ← eu, t, eq-eqb (s + 1) L e) refl

          pub fix-secondary : u ≡ true → ((s + 1 ≡ L) → ⊥) → Sync Secondary ≡ fixed_at c f s k
          unfolding fixed_at
          fix-secondary t e = rw (← eL, ← eq, le-ltb q c.ports nq, le-ltb s 3 ns, ← ey, ty, ← eu, t, ne_eqb (s + 1) L e) refl

        pub fix-held : u ≡ false → Held ≡ fixed_at c f s k
        unfolding fixed_at
        fix-held t = rw (← eq, le-ltb q c.ports nq, le-ltb s 3 ns, ← ey, ty, ← eu, t) refl

      module _ (fy : y ≡ false) (b : Bool) (eb : b ≡ in_pbch_area c f s k) where
        pub fix-hole : b ≡ true → q < 4 → Held ≡ fixed_at c f s k
        unfolding fixed_at
        fix-hole t l = rw (← eq, le-ltb q c.ports nq, le-ltb s 3 ns, ← ey, fy, ← eb, t, lt-ltb q 4 l) refl

        pub fix-pbch : b ≡ true → 4 ≤ q → Pbch ≡ fixed_at c f s k
        unfolding fixed_at
        fix-pbch t l = rw (← eq, le-ltb q c.ports nq, le-ltb s 3 ns, ← ey, fy, ← eb, t, le-ltb q 4 l) refl

        pub fix-idle : b ≡ false → Idle ≡ fixed_at c f s k
        unfolding fixed_at
        fix-idle t = rw (← eq, le-ltb q c.ports nq, le-ltb s 3 ns, ← ey, fy, ← eb, t) refl

-- ---- a range's test, and numbers that fit
pub in_both : (a b d : ℕ) (r : Bool) → r ≡ leb a d && ltb d b → r ≡ true → (a ≤ d) × (d < b)
in_both a b d r e t =
    let h : leb a d && ltb d b ≡ true = sym e ∙ t in
    (leb-true _ _ (and_left (leb a d) (ltb d b) h), ltb-true _ _ (and_right (leb a d) (ltb d b) h))

pub far-rest : (b h : ℕ) → 0 < h → b % h ≤ h
far-rest b h l = omega (arith, mod-lt b {m = h} l)

pub far-fits : (t h r : ℕ) → t < 1024 → h < 1024 → t + (h - r) < 18446744073709551616
far-fits t h r l m = omega arith

-- ---- the users from a position on: u is the one there, r its test
module _ (w : List ℕ) (at k i : ℕ) where
  module _ (u : User) (eu : u ≡ user_of (drop at w)) (r : Bool) (er : (n : ℕ) → r ≡ blocks_have u n k) where
    pub user-found : (m : ℕ) → 0 < m → r ≡ true → (n : ℕ) → UserOf i ≡ user_from i (users_from (drop at w) m) n k
    unfolding user_from first_as
    user-found zero l t n = absurd (not-suc-le-zero l)
    user-found (suc m) l t n = rw (commands-next user_of w at m, ← eu, ← er n, t) refl

    pub user-passed : (m left : ℕ) → left + 1 ≡ m → r ≡ false → (to : ℕ) → to ≡ next_of w at → (j : ℕ) → j ≡ i + 1
        → (n : ℕ) → user_from j (users_from (drop to w) left) n k ≡ user_from i (users_from (drop at w) m) n k
    unfolding user_from first_as
    user-passed zero left l t to et j ej n = absurd (let z : ⊥ = omega arith in z)
    user-passed (suc m) left l t to et j ej n = let e : left ≡ m = omega arith in rw (e, ej, commands-next user_of w at m, ← eu, ← er n, t, ← et) refl

  pub user-end : (m : ℕ) → m ≡ 0 → (n : ℕ) → Idle ≡ user_from i (users_from (drop at w) m) n k
  unfolding user_from first_as commands_from
  user-end m e n = rw e refl

-- ---- the last step: the fixed owner, or nothing fixed
tag-not-idle : (o : Owner) → OneOf (0 ∷ 1 ∷ 2 ∷ 3 ∷ 4 ∷ 5 ∷ 6 ∷ []) (tag_of the_type o) → is_idle o ≡ false
unfolding is_idle one_of
tag-not-idle (Crs q) h = refl
tag-not-idle (Sync m) h = refl
tag-not-idle Pbch h = refl
tag-not-idle Pcfich h = refl
tag-not-idle (Phich m) h = refl
tag-not-idle (UserOf i) h = refl
tag-not-idle Held h = refl
tag-not-idle Idle h = absurd (not_in (0 ∷ 1 ∷ 2 ∷ 3 ∷ 4 ∷ 5 ∷ 6 ∷ []) 7 h refl)

module _ (w : List ℕ) (p : Plan) (s k : ℕ) (o : Owner) (eo : o ≡ fixed_at p.cell p.frame s k) where
  pub end-fixed : OneOf (0 ∷ 1 ∷ 2 ∷ 3 ∷ 4 ∷ 5 ∷ 6 ∷ []) (tag_of the_type o) → o ≡ owner_at w p s k
  unfolding owner_at
  end-fixed h = rw (← eo, tag-not-idle o h) refl

  module _ (e : o ≡ Idle) (region : ℕ) (er : region ≡ control_symbols p.cell p.frame) where
    pub end-control : s < region → Idle ≡ owner_at w p s k
    unfolding owner_at is_idle
    end-control l = rw (← eo, e, ← er, lt-ltb s region l) refl

    pub end-user : region ≤ s → (r : Owner) → ((n : ℕ) → r ≡ user_from 0 (users_from (drop p.users.at w) p.users.count) n k) → r ≡ owner_at w p s k
    unfolding owner_at is_idle users_of
    end-user l r h = h (slot_of p.cell s) ∙ rw (← eo, e, ← er, le-ltb s region l) refl
