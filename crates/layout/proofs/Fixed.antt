-- The owners above the users: a rule that holds is the owner that fixed_at names, and what fixed_at names has a rule that holds.
-- Assumes an accepted cell and a subcarrier of its grid.
use Rattle.std.specs.Prelude.{if◌then◌else◌}
use Prim.Native.Nat.{ℕ, ◌+◌, ◌*◌, ◌/◌, ◌≤◌, ◌<◌}
use mathlib.Core.Path.{◌≡◌, refl, sym, ap, ◌∙◌}
use mathlib.Core.Logic.{◌⊎◌, inl, inr}
use mathlib.Core.Bool.{Bool, true, false, not, ◌&&◌, ◌||◌, and-false}
use native.Mathlib.Omega.{arith}
use lib.Dec.{leb, ltb, eqb}
use borrow.Author.Tests.{eq-eqb, ne_eqb, lt-ltb, le-ltb, le-leb, eqb-true, ltb-true, ltb-false, leb-true, not-true}
use Rattle.base.proofs.Tests.{clash, both, or_cases, or_left, or_right, is-not, on-if}
use Rattle.layout.specs.Rules.{
  slot_length,
  in_slot,
  crs_of,
  crs,
  crs_of_four,
  crs_any,
  marked,
  middle,
  centre,
  used,
  pss,
  sss,
  in_sync_area,
  held_by_sync,
  in_pbch_area,
  pbch,
  held_by_pbch,
  held,
}
use Rattle.layout.specs.Rules.{element_group, in_group, is_format, format_has, pcfich, quad_symbol, is_left, groups_left, quad_number, quad_group, phich}
use Rattle.layout.specs.Owners.{fixed_rule}
use Rattle.layout.specs.Chain.{pilot, number, group_at, control_at, fixed_at, is_idle}
use Rattle.plan.specs.Fields.{mapping_units, symbol_groups}
use Rattle.plan.specs.Valid.{CellIn}
use Rattle.plan.proofs.Counts.{blocks-least, ports-most, sixths-most}
use Rattle.plan.specs.declared.Cell.{Cell}
use Rattle.plan.specs.declared.Frame.{Frame}
use Rattle.layout.specs.declared.Mark.{Mark}
use Rattle.layout.specs.declared.Mark.TheVariants.{Primary, Secondary}
use Rattle.layout.specs.declared.Owner.{Owner}
use Rattle.layout.specs.declared.Owner.TheVariants.{Crs, Sync, Pbch, Pcfich, Phich, User as UserOf, Held, Idle}
use Rattle.plan.proofs.Listed.{and_left, and_right}
use Rattle.layout.proofs.Pilot.{slot-length, late-unused, crs-is, below-is}
use Rattle.layout.proofs.Groups.{number_small}
use Rattle.layout.proofs.GroupShape.{group-clear, group-below, quad-low}
use Rattle.layout.proofs.Units.{units-fit, unit_left, unit-number, group-of-number, quad-unit, phich-parts, Takes, number-taken, number-sound}

-- no reference signal in the last two symbols of a slot
pilot-late : (c : Cell) (s k : ℕ) → s < slot_length c → slot_length c ≤ s + 2 → pilot c s k ≡ 4
unfolding pilot in_slot
pilot-late c s k l m =
    let z : slot_length c ≤ in_slot c s + 2 = rw (lt-ltb s (slot_length c) l) m in
    rw (late-unused c 0 s z, late-unused c 2 s z) refl

-- what the marks use lies in the centre
pub used-centre : (c : Cell) (k : ℕ) → used c k ≡ true → centre c k ≡ true
unfolding middle
used-centre c k e =
    let N = c.blocks in
    let a : 6 * N ≤ k + 31 = leb-true _ _ (and_left (leb (6 * N) (k + 31)) (ltb k (6 * N + 31)) e) in
    let b : k < 6 * N + 31 = ltb-true _ _ (and_right (leb (6 * N) (k + 31)) (ltb k (6 * N + 31)) e) in
    both (le-leb (6 * N) (k + 36) (omega arith)) (lt-ltb k (6 * N + 36) (omega arith))

-- what a cell and a subcarrier have to satisfy
pub record Fit (c : Cell) (k : ℕ) : Type 0 where
  pub cell : CellIn c
  pub inside : k < 12 * c.blocks

module _ (c : Cell) (f : Frame) (s k : ℕ) (fit : Fit c k) where
  abbrev L : ℕ
  L = slot_length c

  abbrev C : ℕ
  C = c.identity

  abbrev N : ℕ
  N = c.blocks

  abbrev q : ℕ
  q = pilot c s k

  h6 : 6 ≤ slot_length c
  h6 = (slot-length c).0

  wide : 6 ≤ c.blocks
  wide = blocks-least c fit.cell

  few-ports : c.ports ≤ 4
  few-ports = ports-most c fit.cell

  units : (t : ℕ) → mapping_units c ≤ groups_left c t / 3
  units = units-fit c (sixths-most c fit.cell) wide

  abbrev At : Owner → Type 0
  At o = fixed_at c f s k ≡ o

  at-crs : (p : ℕ) → crs c p s k ≡ true → At (Crs p)
  unfolding crs fixed_at
  at-crs p e =
      let l : p < c.ports = ltb-true _ _ (and_left (ltb p c.ports) (crs_of c p s k) e) in
      let z : q ≡ p = eqb-true _ _ (sym (crs-is c s k p (omega (arith, few-ports))) ∙ and_right (ltb p c.ports) (crs_of c p s k) e) in
      rw (z, lt-ltb p c.ports l) refl

  -- in the two symbols of the synchronisation marks
  module _ (l : s < L) (u : L ≤ s + 2) where
    in-sync : marked f ≡ true → (eqb (s + 1) L || eqb (s + 2) L) ≡ true → centre c k ≡ true
        → fixed_at c f s k ≡ (if used c k then Sync (if eqb (s + 1) L then Primary else Secondary) else Held)
    unfolding fixed_at in_sync_area
    in-sync m e w = rw (pilot-late c s k l u, le-ltb 4 c.ports few-ports, le-ltb s 3 (omega (arith, h6)), m, e, w) refl

  at-pss : pss c f s k ≡ true → At (Sync Primary)
  unfolding pss
  at-pss e =
      let me : marked f && eqb (s + 1) L ≡ true = and_left _ (used c k) e in
      let m = and_left (marked f) (eqb (s + 1) L) me in
      let t = and_right (marked f) (eqb (s + 1) L) me in
      let w = and_right (marked f && eqb (s + 1) L) (used c k) e in
      let z : s + 1 ≡ L = eqb-true _ _ t in
      in-sync (omega arith) (omega arith) m (or_left _ _ t) (used-centre c k w) ∙ rw (w, t) refl

  at-sss : sss c f s k ≡ true → At (Sync Secondary)
  unfolding sss
  at-sss e =
      let me : marked f && eqb (s + 2) L ≡ true = and_left _ (used c k) e in
      let m = and_left (marked f) (eqb (s + 2) L) me in
      let t = and_right (marked f) (eqb (s + 2) L) me in
      let w = and_right (marked f && eqb (s + 2) L) (used c k) e in
      let z : s + 2 ≡ L = eqb-true _ _ t in
      in-sync (omega arith) (omega arith) m (or_right (eqb (s + 1) L) _ t) (used-centre c k w) ∙ rw (w, ne_eqb (s + 1) L (λ x. omega arith)) refl

  at-held-sync : held_by_sync c f s k ≡ true → At Held
  unfolding held_by_sync in_sync_area
  at-held-sync e =
      let m = marked f in
      let y = eqb (s + 1) L || eqb (s + 2) L in
      let e₁ : m && y && centre c k ≡ true = and_left (m && y && centre c k) (not (used c k)) e in
      let e₂ : m && y ≡ true = and_left (m && y) (centre c k) e₁ in
      let w : used c k ≡ false = not-true _ (and_right (m && y && centre c k) (not (used c k)) e) in
      let t : y ≡ true = and_right m y e₂ in
      let n = symbols (or_cases (eqb (s + 1) L) (eqb (s + 2) L) t) in
      in-sync n.0 n.1 (and_left m y e₂) t (and_right (m && y) (centre c k) e₁) ∙ rw w refl
    where
      symbols : (eqb (s + 1) L ≡ true) ⊎ (eqb (s + 2) L ≡ true) → (s < L) × (L ≤ s + 2)
      symbols (inl x) = let z : s + 1 ≡ L = eqb-true _ _ x in (omega arith, omega arith)
      symbols (inr x) = let z : s + 2 ≡ L = eqb-true _ _ x in (omega arith, omega arith)

  area-second : in_pbch_area c f s k ≡ true → L ≤ s
  unfolding in_pbch_area
  area-second e =
      let a = eqb f.subframe 0 in
      let e₁ : a && leb L s && ltb s (L + 4) ≡ true = and_left (a && leb L s && ltb s (L + 4)) (centre c k) e in
      let e₂ : a && leb L s ≡ true = and_left (a && leb L s) (ltb s (L + 4)) e₁ in
      leb-true _ _ (and_right a (leb L s) e₂)

  -- in PBCH's area, where no port of the cell has its reference signal
  in-pbch : in_pbch_area c f s k ≡ true → ltb q c.ports ≡ false → fixed_at c f s k ≡ (if ltb q 4 then Held else Pbch)
  unfolding fixed_at in_sync_area
  in-pbch e w =
      let l : L ≤ s = area-second e in
      rw (w, le-ltb s 3 (omega (arith, h6)), ne_eqb (s + 1) L (λ z. omega arith), ne_eqb (s + 2) L (λ z. omega arith), and-false (marked f), e) refl

  at-pbch : pbch c f s k ≡ true → At Pbch
  unfolding pbch
  at-pbch e =
      let w : ltb q 4 ≡ false = sym (below-is c s k 4 (omega arith)) ∙ not-true _ (and_right (in_pbch_area c f s k) (not (crs_of_four c s k)) e) in
      let z : 4 ≤ q = ltb-false _ _ w in
      in-pbch (and_left (in_pbch_area c f s k) (not (crs_of_four c s k)) e) (le-ltb q c.ports (omega (arith, few-ports))) ∙ rw w refl

  at-held-pbch : held_by_pbch c f s k ≡ true → At Held
  unfolding held_by_pbch
  at-held-pbch e =
      let a = in_pbch_area c f s k in
      let b = crs_of_four c s k in
      let e₁ : a && b ≡ true = and_left (a && b) (not (crs_any c s k)) e in
      let w : ltb q c.ports ≡ false = sym (below-is c s k c.ports few-ports) ∙ not-true _ (and_right (a && b) (not (crs_any c s k)) e) in
      let v : ltb q 4 ≡ true = sym (below-is c s k 4 (omega arith)) ∙ and_right a b e₁ in
      in-pbch (and_left a b e₁) w ∙ rw v refl

  at_held : held c f s k ≡ true → At Held
  unfolding held
  at_held e = go (or_cases _ _ e)
    where
      go : (held_by_sync c f s k ≡ true) ⊎ (held_by_pbch c f s k ≡ true) → At Held
      go (inl w) = at-held-sync w
      go (inr w) = at-held-pbch w

  -- a place of a group of the first three symbols
  abbrev g : ℕ
  g = element_group c s k

  abbrev kept : Bool
  kept = in_group c s k

  in_group_lem : element_group c s k < symbol_groups c s
  in_group_lem = group-below c s k fit.inside

  in-quad : s < 3 → kept ≡ true → fixed_at c f s k ≡ group_at c s g
  unfolding fixed_at control_at
  in-quad l e =
      let v : ltb q c.ports ≡ false = sym (below-is c s k c.ports few-ports) ∙ group-clear c fit.cell s k (omega arith) e in
      rw (v, lt-ltb s 3 l, e) refl

  at-pcfich : pcfich c s k ≡ true → At Pcfich
  unfolding pcfich format_has group_at
  at-pcfich e =
      let has = eqb s 0 && is_format c g in
      let z : s ≡ 0 = eqb-true s 0 (and_left (eqb s 0) (is_format c g) (and_right kept has e)) in
      in-quad (omega arith) (and_left kept has e) ∙ rw (and_right kept has e) refl

  at-phich : (m : ℕ) → phich c m s k ≡ true → At (Phich m)
  unfolding group_at is_left
  at-phich m e =
      let x = phich-parts c m s k e in
      let i = x.2.0 in
      let es : s ≡ quad_symbol c i = x.2.2 in
      let eg : g ≡ quad_group c m i = x.2.3 in
      let left : not (format_has c s g) ≡ true = ap (λ (t : ℕ). is_left c t g) es ∙ ap (is_left c (quad_symbol c i)) eg ∙ unit_left c wide m i in
      let n : number c s g ≡ quad_number c m i = ap (λ (t : ℕ). number c t g) es ∙ ap (number c (quad_symbol c i)) eg ∙ unit-number c wide m i in
      in-quad (omega (arith, quad-low c i, x.2.1)) x.1
      ∙ rw (not-true (format_has c s g) left) (number-taken c wide units s (number c s g) m x.0 (i, x.2.1, sym es, n))

  -- a rule that holds is the owner's that fixed_at names
  pub fixed-at : (o : Owner) → fixed_rule c f o s k ≡ true → fixed_at c f s k ≡ o
  unfolding fixed_rule
  fixed-at (Crs p) e = at-crs p e
  fixed-at (Sync Primary) e = at-pss e
  fixed-at (Sync Secondary) e = at-sss e
  fixed-at Pbch e = at-pbch e
  fixed-at Pcfich e = at-pcfich e
  fixed-at (Phich m) e = at-phich m e
  fixed-at (UserOf i) e = clash e refl
  fixed-at Held e = at_held e
  fixed-at Idle e = clash e refl

  -- what fixed_at names, unless it is idle, has a rule that holds
  abbrev Ok : Owner → Type 0
  Ok o = is_idle o ≡ false → fixed_rule c f o s k ≡ true

  ok-idle : Ok Idle
  unfolding is_idle
  ok-idle e = clash refl e

  ok-crs : ltb q c.ports ≡ true → Ok (Crs q)
  unfolding fixed_rule crs
  ok-crs e i =
      let l : q < c.ports = ltb-true _ _ e in
      both e (crs-is c s k q (omega (arith, few-ports)) ∙ eq-eqb q q refl)

  module _ (e : kept ≡ true) where
    ok-pcfich : format_has c s g ≡ true → Ok Pcfich
    unfolding fixed_rule pcfich
    ok-pcfich h i = both e h

    ok-phich : format_has c s g ≡ false → (m : ℕ) → m < mapping_units c → Takes c m s (number c s g) → Ok (Phich m)
    unfolding fixed_rule phich is_left
    ok-phich h m l (i, u, es, en) d =
        let left = ap (λ (t : ℕ). is_left c t g) es ∙ is-not (format_has c s g) h in
        let t : g ≡ quad_group c m i = group-of-number c wide m i g (omega (arith, in_group_lem, ap (symbol_groups c) es)) left (ap (λ (t : ℕ). number c t g) es ∙ en) in
        both (both (lt-ltb m (mapping_units c) l) e) (quad-unit c m s g (i, u, sym es, t))

    ok-group : Ok (group_at c s g)
    unfolding group_at is_left
    ok-group =
        on-if Ok (format_has c s g) ok-pcfich
        (λ h. number-sound c wide units s (number c s g) Ok ok-idle (number_small c wide s g in_group_lem (is-not (format_has c s g) h)) (ok-phich h))

  ok-control : ltb s 3 ≡ true → Ok (control_at c s k)
  unfolding control_at
  ok-control l = on-if Ok kept ok-group (λ e. ok-idle)

  module _ (a : in_sync_area c f s k ≡ true) where
    area : (marked f ≡ true) × (eqb (s + 1) L || eqb (s + 2) L ≡ true) × (centre c k ≡ true)
    unfolding in_sync_area
    area =
        let m = marked f in
        let y = eqb (s + 1) L || eqb (s + 2) L in
        let e : m && y ≡ true = and_left (m && y) (centre c k) a in
        (and_left m y e, and_right m y e, and_right (m && y) (centre c k) a)

    ok-primary : used c k ≡ true → eqb (s + 1) L ≡ true → Ok (Sync Primary)
    unfolding fixed_rule pss
    ok-primary u e i = both (both area.0 e) u

    ok-secondary : used c k ≡ true → eqb (s + 1) L ≡ false → Ok (Sync Secondary)
    unfolding fixed_rule sss
    ok-secondary u e i = both (both area.0 (rw e at area.1)) u

    ok-held-sync : used c k ≡ false → Ok Held
    unfolding fixed_rule held held_by_sync
    ok-held-sync u i = or_left _ _ (both a (is-not _ u))

    ok-sync : Ok (if used c k then Sync (if eqb (s + 1) L then Primary else Secondary) else Held)
    ok-sync = on-if Ok (used c k) (λ u. on-if (λ (m : Mark). Ok (Sync m)) (eqb (s + 1) L) (ok-primary u) (ok-secondary u)) ok-held-sync

  module _ (a : in_pbch_area c f s k ≡ true) (w : ltb q c.ports ≡ false) where
    ok-held-pbch : ltb q 4 ≡ true → Ok Held
    unfolding fixed_rule held held_by_pbch
    ok-held-pbch u i = or_right (held_by_sync c f s k) _ (both (both a (below-is c s k 4 (omega arith) ∙ u)) (is-not _ (below-is c s k c.ports few-ports ∙ w)))

    ok-pbch : ltb q 4 ≡ false → Ok Pbch
    unfolding fixed_rule pbch
    ok-pbch u i = both a (is-not _ (below-is c s k 4 (omega arith) ∙ u))

  pub fixed-ok : is_idle (fixed_at c f s k) ≡ false → fixed_rule c f (fixed_at c f s k) s k ≡ true
  unfolding fixed_at
  fixed-ok =
      on-if Ok (ltb q c.ports) ok-crs
      (λ w. on-if Ok (ltb s 3) ok-control
      (λ z. on-if Ok (in_sync_area c f s k) ok-sync
      (λ n. on-if Ok (in_pbch_area c f s k)
      (λ a. on-if Ok (ltb q 4) (ok-held-pbch a w) (ok-pbch a w))
      (λ e. ok-idle))))
