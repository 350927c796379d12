-- The first cause of a command: by the tests that the code makes, and what a command without a cause has passed. Assumes nothing.
use Prim.Native.Nat.{ℕ, ◌+◌, ◌≤◌, ◌<◌}
use mathlib.Core.Path.{◌≡◌, refl, sym, ap, ◌∙◌}
use mathlib.Core.Bool.{Bool, true, false, not, ◌&&◌}
use mathlib.Core.Logic.{inl, inr}
use mathlib.Core.List.{List, [], ◌∷◌}
use native.Mathlib.Nat.{not-suc-le-zero}
use native.Mathlib.Omega.{arith}
use types.Run.{OneOf}
use denote.Enum.Declared.{tag_of}
use lib.Dec.{leb, ltb}
use lib.ListN.{length, drop, get_or, length-drop, drop_of_length-le}
use borrow.Author.Tests.{lt-ltb, ltb-true, le-leb, leb-true}
use Rattle.std.specs.declared.result.Result.{Result}
use Rattle.std.specs.declared.result.Result.TheVariants.{Ok, Err}
use Rattle.base.proofs.Tests.{both}
use Rattle.bitset.specs.Sets.{member, meet}
use Rattle.plan.specs.Lists.{one_of, none_of, Every}
use Rattle.plan.specs.Commands.{command_of}
use Rattle.plan.specs.Fields.{widths, port_counts, sixth_counts, orders, phich_fits, phich_groups, sequences_of, same_pair, clash}
use Rattle.plan.specs.Finding.{demand, cell_cause, frame_cause, hi_cause, same_rnti, shares_block, user_cause}
use Rattle.plan.specs.Loops.{broken_for, late_for, late_cause, pair_of, PairsUsed, blocks_of, UsersUsed}
use Rattle.plan.specs.Valid.{CellIn, FrameIn, HiIn, UserIn}
use Rattle.plan.specs.declared.Cell.{Cell}
use Rattle.plan.specs.declared.Frame.{Frame}
use Rattle.plan.specs.declared.Hi.{Hi}
use Rattle.plan.specs.declared.User.{User}
use Rattle.plan.specs.declared.Command.{Command}
use Rattle.plan.specs.declared.Command.TheVariants.{Cell as cell, Cellx as cellx, Frame as frame, Hi as hi, User as user, End as end, Broken as broken}
use Rattle.plan.specs.declared.Cause.{Cause}
use Rattle.plan.specs.declared.Cause.TheVariants.{Unknown, CutOff, NoEnd, OutOfOrder, AfterEnd}
use Rattle.plan.specs.declared.Cause.TheVariants.{Identity, Blocks, Prefix, Ports, Sixths, Duration, FrameNumber, Subframe, Cfi, Region}
use Rattle.plan.specs.declared.Cause.TheVariants.{Group, Sequence, PairUsed, Rnti, Modulation, Count, LastBlock, RntiUsed, BlockUsed}
use Rattle.plan.specs.contracts.Command.{the_type}
use Rattle.plan.specs.contracts.Cause.{the_type as causes}
use Rattle.plan.proofs.OneOf.{not_in, among}
use Rattle.plan.proofs.Listed.{and_left, and_right, none_or}

-- no cause: the test held, and there is none after it
pub passed : (t : Bool) (k : Cause) (r : Result Unit Cause) → (Ok tt) ≡ demand t k r → (t ≡ true) × ((Ok tt) ≡ r)
passed true k r e = (refl, e)
passed false k r e = (cc, cc)

-- a test that was demanded, and held; and one that failed, where r is the error that is handed on
pub held : (t : Bool) (k : Cause) {r : Result Unit Cause} {u : Unit {0}} → r ≡ demand t k (Ok tt) → r ≡ Ok u → t ≡ true
held t k e q = (passed t k (Ok tt) (sym q ∙ e)).0

pub failed : (t : Bool) (k : Cause) {e : Cause} {r : Result Unit Cause} → r ≡ demand (not t) k (Ok tt) → r ≡ Err e → t ≡ true
failed true k q d = refl
failed false k q d = absurd (never (sym q ∙ d))
  where
    never : {e : Cause} → ◌≡◌ {A = Result Unit Cause} (Ok tt) (Err e) → ⊥
    never x = let z : ◌≡◌ {A = ℕ} 0 1 = cc in omega arith

-- ---- CELL and CELLX
pub cell_in : (c : Cell) → (Ok tt) ≡ cell_cause c → CellIn c
unfolding cell_cause
cell_in c e =
    let t₁ = passed (leb c.identity 503) Identity _ e in
    let t₂ = passed (one_of c.blocks widths) Blocks _ t₁.1 in
    let t₃ = passed (leb c.prefix 1) Prefix _ t₂.1 in
    let t₄ = passed (one_of c.ports port_counts) Ports _ t₃.1 in
    let t₅ = passed (one_of c.sixths sixth_counts) Sixths _ t₄.1 in
    let t₆ = passed (leb c.duration 1) Duration _ t₅.1 in
    record {
      identity = leb-true _ _ t₁.0;
      blocks = among widths c.blocks t₂.0;
      prefix = leb-true _ _ t₃.0;
      ports = among port_counts c.ports t₄.0;
      sixths = among sixth_counts c.sixths t₅.0;
      duration = leb-true _ _ t₆.0;
    }

-- ---- FRAME
-- its fields, and the control region by the cell
pub frame-in : (c : Cell) (f : Frame) → (Ok tt) ≡ frame_cause c f → FrameIn f × (phich_fits c f ≡ true)
unfolding frame_cause
frame-in c f e =
    let t₁ = passed (leb f.number 1023) FrameNumber _ e in
    let t₂ = passed (leb f.subframe 9) Subframe _ t₁.1 in
    let t₃ = passed (leb 1 f.cfi && leb f.cfi 3) Cfi _ t₂.1 in
    let fields : FrameIn f =
    record {
      number = leb-true _ _ t₁.0;
      subframe = leb-true _ _ t₂.0;
      some = leb-true _ _ (and_left _ _ t₃.0);
      most = leb-true _ _ (and_right (leb 1 f.cfi) _ t₃.0);
    } in
    (fields, (passed (phich_fits c f) Region _ t₃.1).0)

-- ---- HI
module _ (c : Cell) (h : Hi) {g : ℕ} (eg : g ≡ phich_groups c) (k : h.group < g) {q : ℕ} (eq : q ≡ sequences_of c) (l : h.sequence < q) where
  pub hi-range : HiIn c h
  hi-range = record { group = omega arith; sequence = omega arith }

  pub hi-tests : (pairs : List ℕ) {n : ℕ} → n ≡ pair_of h → {p : Bool} → p ≡ member pairs n → {r : Result Unit Cause} → r ≡ demand (not p) PairUsed (Ok tt) →
      (hs : List Hi) → PairsUsed c pairs hs → r ≡ hi_cause c hs h
  unfolding hi_cause
  hi-tests pairs en ep er hs s = rw (← eg, lt-ltb _ _ k, ← eq, lt-ltb _ _ l, s.at h hi-range, er, ep, en) refl

pub hi-passed : (c : Cell) (hs : List Hi) (h : Hi) → (Ok tt) ≡ hi_cause c hs h → HiIn c h × (none_of (same_pair h) hs ≡ true)
unfolding hi_cause
hi-passed c hs h e =
    let t₁ = passed (ltb h.group (phich_groups c)) Group _ e in
    let t₂ = passed (ltb h.sequence (sequences_of c)) Sequence _ t₁.1 in
    (record { group = ltb-true _ _ t₁.0; sequence = ltb-true _ _ t₂.0 }, (passed (none_of (same_pair h) hs) PairUsed _ t₂.1).0)

-- ---- USER. A clash is an RNTI or a block in common: no clash is neither
pub none-clash : (u : User) (us : List User) → none_of (clash u) us ≡ none_of (same_rnti u) us && none_of (shares_block u) us
unfolding clash same_rnti shares_block
none-clash u us = none_or (same_rnti u) (shares_block u) us

module _ (c : Cell) (u : User) where
  user-made : leb 1 u.rnti && leb u.rnti 65535 ≡ true → one_of u.order orders ≡ true → leb 1 u.count ≡ true → leb (u.first + u.count) c.blocks ≡ true → UserIn c u
  user-made t₁ t₂ t₃ t₄ =
      record {
        rnti = leb-true _ _ (and_left _ _ t₁);
        rnti-most = leb-true _ _ (and_right (leb 1 u.rnti) _ t₁);
        order = among orders u.order t₂;
        some = leb-true _ _ t₃;
        last = leb-true _ _ t₄;
      }

  pub user-passed : (us : List User) → (Ok tt) ≡ user_cause c us u → UserIn c u × (none_of (clash u) us ≡ true)
  unfolding user_cause
  user-passed us e =
      let t₁ = passed (leb 1 u.rnti && leb u.rnti 65535) Rnti _ e in
      let t₂ = passed (one_of u.order orders) Modulation _ t₁.1 in
      let t₃ = passed (leb 1 u.count) Count _ t₂.1 in
      let t₄ = passed (leb (u.first + u.count) c.blocks) LastBlock _ t₃.1 in
      let t₅ = passed (none_of (same_rnti u) us) RntiUsed _ t₄.1 in
      let t₆ = passed (none_of (shares_block u) us) BlockUsed _ t₅.1 in
      (user-made t₁.0 t₂.0 t₃.0 t₄.0, none-clash u us ∙ both t₅.0 t₆.0)

  module _ (h : 1 ≤ u.rnti) (m : u.rnti ≤ 65535) {o : Bool} (eo : o ≡ one_of u.order orders) (t : o ≡ true) (k : 1 ≤ u.count) (l : u.first + u.count ≤ c.blocks)
      (rntis blocks : List ℕ) {p : Bool} (ep : p ≡ one_of u.rnti rntis) (us : List User) (s : UsersUsed c rntis blocks us) where
    user-new : demand (not p) RntiUsed (demand (not (meet blocks (blocks_of u))) BlockUsed (Ok tt)) ≡ user_cause c us u
    unfolding user_cause
    user-new =
        let i = user-made (both (le-leb _ _ h) (le-leb _ _ m)) (sym eo ∙ t) (le-leb _ _ k) (le-leb _ _ l) in
        rw (ep, le-leb _ _ h, le-leb _ _ m, ← eo, t, le-leb _ _ k, le-leb _ _ l, s.of-rntis.at u i, s.of_blocks.at u i) refl

    pub user-rnti-used : p ≡ true → Err RntiUsed ≡ user_cause c us u
    user-rnti-used f = rw f at user-new

    pub user-tests : not p ≡ true → {own : List ℕ} → own ≡ blocks_of u → {q : Bool} → q ≡ meet blocks own →
        {r : Result Unit Cause} → r ≡ demand (not q) BlockUsed (Ok tt) → r ≡ user_cause c us u
    user-tests f en eq er = rw (er, eq, en) (rw f at user-new)

-- ---- a command that is not due
late-there : (l : List ℕ) → 0 < length l → (x : Command) → command_of l ≡ x → late_for l x ≡ late_cause l
unfolding late_cause
late-there [] h x e = absurd (not-suc-le-zero h)
late-there (b ∷ l) h x e = rw (← e) refl

module _ (w : List ℕ) (at : ℕ) where
  pub late-gone : length w ≤ at → NoEnd ≡ late_cause (drop at w)
  unfolding late_cause
  late-gone h = rw (drop_of_length-le w h) refl

  module _ (h : at < length w) {x : Command} (e : command_of (drop at w) ≡ x) where
    pub late-broken : x ≡ broken → {k : Cause} → k ≡ broken_for (drop at w) → k ≡ late_cause (drop at w)
    late-broken q ek = ek ∙ late-there (drop at w) (omega (arith, length-drop at w)) broken (e ∙ q)

    pub late-order : OneOf (0 ∷ 1 ∷ 2 ∷ 3 ∷ 4 ∷ 5 ∷ []) (tag_of the_type x) → OutOfOrder ≡ late_cause (drop at w)
    unfolding one_of
    late-order o = by x o ∙ late-there (drop at w) (omega (arith, length-drop at w)) x e
      where
        by : (x : Command) → OneOf (0 ∷ 1 ∷ 2 ∷ 3 ∷ 4 ∷ 5 ∷ []) (tag_of the_type x) → OutOfOrder ≡ late_for (drop at w) x
        by (cell y) o = refl
        by (cellx y) o = refl
        by (frame y) o = refl
        by (hi y) o = refl
        by (user y) o = refl
        by end o = refl
        by broken o = absurd (not_in (0 ∷ 1 ∷ 2 ∷ 3 ∷ 4 ∷ 5 ∷ []) 6 o refl)

-- ---- what a function gives for each cause of some, by their numbers in the list of all causes
abbrev all : List Cause
all =
    Unknown ∷ CutOff ∷ NoEnd ∷ OutOfOrder ∷ AfterEnd ∷ Identity ∷ Blocks ∷ Prefix ∷ Ports ∷ Sixths ∷ Duration ∷ FrameNumber ∷ Subframe ∷ Cfi
    ∷ Region ∷ Group ∷ Sequence ∷ PairUsed ∷ Rnti ∷ Modulation ∷ Count ∷ LastBlock ∷ RntiUsed ∷ BlockUsed ∷ []

abbrev numbered : ℕ → Cause
numbered k = get_or all k BlockUsed

listed : (c : Cause) → numbered (tag_of causes c) ≡ c
listed Unknown = refl
listed CutOff = refl
listed NoEnd = refl
listed OutOfOrder = refl
listed AfterEnd = refl
listed Identity = refl
listed Blocks = refl
listed Prefix = refl
listed Ports = refl
listed Sixths = refl
listed Duration = refl
listed FrameNumber = refl
listed Subframe = refl
listed Cfi = refl
listed Region = refl
listed Group = refl
listed Sequence = refl
listed PairUsed = refl
listed Rnti = refl
listed Modulation = refl
listed Count = refl
listed LastBlock = refl
listed RntiUsed = refl
listed BlockUsed = refl

pub cause-among : {A : Type 0} (f : Cause → A) (c : Cause) (a : A) (ks : List ℕ) → Every (λ (k : ℕ). a ≡ f (numbered k)) ks → OneOf ks (tag_of causes c) → a ≡ f c
cause-among f c a ks t o = by ks t o ∙ ap f (listed c)
  where
    by : (ks : List ℕ) → Every (λ (k : ℕ). a ≡ f (numbered k)) ks → OneOf ks (tag_of causes c) → a ≡ f (numbered (tag_of causes c))
    by [] t o = absurd o
    by (k ∷ []) t o = rw o t.0
    by (k ∷ l ∷ ks) t (inl e) = rw e t.0
    by (k ∷ l ∷ ks) t (inr h) = by (l ∷ ks) t.1 h
