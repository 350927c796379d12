-- Bytes, sizes and commands at a position of the plan, by the tests that the code makes. Assumes nothing.
use Prim.Native.Nat.{ℕ, ◌+◌, ◌-◌, ◌*◌, ◌≤◌, ◌<◌}
use mathlib.Core.Path.{◌≡◌, refl, sym, ap, ◌∙◌}
use mathlib.Core.Bool.{Bool, true, false, ◌&&◌, false≢true}
use mathlib.Core.List.{List}
use native.Mathlib.Omega.{arith}
use lib.Dec.{leb, eqb}
use lib.ListN.{length, drop, get_or, length-drop, drop_of_length-le, get_or-eq_default}
use lib.Seq.{get_or-drop, drop-drop, drop-length}
use borrow.Author.Tests.{eq-eqb, ne_eqb, eqb-true, le-leb, lt-leb, leb-true, leb-false}
use Rattle.base.proofs.Tests.{both}
use Rattle.plan.specs.Commands.{byte, cell_with, cell_of, cellx_of, frame_of, hi_of, user_of, Entry, entries, entry_in, entry_for, size_of, command_of}
use Rattle.plan.specs.CommandLists.{next_of}
use Rattle.plan.specs.Loops.{stands_at}
use Rattle.plan.specs.declared.Cell.{Cell}
use Rattle.plan.specs.declared.Frame.{Frame}
use Rattle.plan.specs.declared.Hi.{Hi}
use Rattle.plan.specs.declared.User.{User}
use Rattle.plan.specs.declared.Command.TheVariants.{Cell as cell, Cellx as cellx, Frame as frame, Hi as hi, User as user, End as end, Broken as broken}
use Rattle.plan.proofs.Listed.{choose, and_left, and_right}
use Rattle.plan.proofs.Entries.{told}

-- ---- a byte
module _ (w : List ℕ) (at i : ℕ) where
  pub byte-gone : length w ≤ at → 0 ≡ byte (drop at w) i
  byte-gone h = rw (drop_of_length-le w h) refl

  pub byte-over : length w - at ≤ i → 0 ≡ byte (drop at w) i
  byte-over h = sym (get_or-eq_default (drop at w) 0 (omega (arith, length-drop at w)))

  pub byte-there : get_or w (at + i) 0 ≡ byte (drop at w) i
  byte-there = sym (get_or-drop at w i 0)

-- ---- the operands, from bytes that were read one by one
module _ (l : List ℕ) (a b d : ℕ) (ed : d ≡ a * 256 + b) (ea : a ≡ byte l 1) (eb : b ≡ byte l 2) where
  pub cell-made : (n p q s k : ℕ) → n ≡ byte l 3 → p ≡ byte l 4 → q ≡ byte l 5 → s ≡ byte l 6 →
      record { identity = d; blocks = n; prefix = p; ports = q; sixths = s; duration = k } ≡ cell_with k l
  unfolding cell_with
  cell-made n p q s k en ep eq es = rw (ed, ea, eb, en, ep, eq, es) refl

  pub frame_made : (n p : ℕ) → n ≡ byte l 3 → p ≡ byte l 4 → record { number = d; subframe = n; cfi = p } ≡ frame_of l
  unfolding frame_of
  frame_made n p en ep = rw (ed, ea, eb, en, ep) refl

  pub user-made : (n p q : ℕ) → n ≡ byte l 3 → p ≡ byte l 4 → q ≡ byte l 5 → record { rnti = d; order = n; first = p; count = q } ≡ user_of l
  unfolding user_of
  user-made n p q en ep eq = rw (ed, ea, eb, en, ep, eq) refl

pub cellx-made : (l : List ℕ) (k : ℕ) {c : Cell} → k ≡ byte l 7 → c ≡ cell_with k l → c ≡ cellx_of l
unfolding cellx_of
cellx-made l k ek ec = ec ∙ ap (λ (d : ℕ). cell_with d l) ek

pub hi-made : (l : List ℕ) (a b : ℕ) → a ≡ byte l 1 → b ≡ byte l 2 → record { group = a; sequence = b } ≡ hi_of l
unfolding hi_of
hi-made l a b ea eb = rw (ea, eb) refl

-- ---- a size
module _ (b : ℕ) where
  pub size-cell : b ≡ 0x10 → 7 ≡ (entry_for b).size
  unfolding entry_in entries
  size-cell e = rw e refl

  pub size-cellx : b ≡ 0x12 → 8 ≡ (entry_for b).size
  unfolding entry_in entries
  size-cellx e = rw e refl

  pub size-frame : b ≡ 0x11 → 5 ≡ (entry_for b).size
  unfolding entry_in entries
  size-frame e = rw e refl

  pub size-hi : b ≡ 0x20 → 3 ≡ (entry_for b).size
  unfolding entry_in entries
  size-hi e = rw e refl

  pub size-user : b ≡ 0x30 → 6 ≡ (entry_for b).size
  unfolding entry_in entries
  size-user e = rw e refl

  -- END's, and that of an unknown command
  pub size-other : (b ≡ 0x10 → ⊥) → (b ≡ 0x12 → ⊥) → (b ≡ 0x11 → ⊥) → (b ≡ 0x20 → ⊥) → (b ≡ 0x30 → ⊥) → 1 ≡ (entry_for b).size
  unfolding entry_in entries
  size-other n₀ nₓ n₁ n₂ n₃ =
      rw (ne_eqb b 0x10 n₀, ne_eqb b 0x12 nₓ, ne_eqb b 0x11 n₁, ne_eqb b 0x20 n₂, ne_eqb b 0x30 n₃)
      (choose (λ (e : Entry). 1 ≡ e.size) (eqb b 0x00) _ _ (λ t. refl) (λ t. refl))

-- b is the byte at a position, and k the size that it says
module _ (l : List ℕ) (b k : ℕ) (eb : b ≡ byte l 0) (ek : k ≡ (entry_for b).size) where
  pub size_is : k ≡ size_of l
  unfolding size_of
  size_is = ek ∙ ap (λ (x : ℕ). (entry_for x).size) eb

  read-of : k ≤ length l → (entry_for b).read l ≡ command_of l
  unfolding command_of
  read-of h = rw (← size_is, le-leb k (length l) h, ← eb) refl

  pub cut_of : length l < k → broken ≡ command_of l
  unfolding command_of
  cut_of h = rw (← size_is, lt-leb k (length l) h) refl

-- ---- the position after a command
module _ (w : List ℕ) (at : ℕ) where
  abbrev here : List ℕ
  here = drop at w

  pub next-in : (k : ℕ) → k ≡ size_of here → at + k ≤ length w → at + k ≡ next_of w at
  unfolding next_of
  next-in k e h = rw (← e, le-leb (at + k) (length w) h) refl

  pub next-out : (k : ℕ) → k ≡ size_of here → length w < at + k → length w ≡ next_of w at
  unfolding next_of
  next-out k e h = rw (← e, lt-leb (at + k) (length w) h) refl

  pub drop-next : drop (next_of w at) w ≡ drop (size_of here) here
  unfolding next_of
  drop-next =
      choose (λ (n : ℕ). drop n w ≡ drop (size_of here) here) (leb (at + size_of here) (length w)) (at + size_of here) (length w)
      (λ t. sym (drop-drop (size_of here) at w))
      (λ t.
      let past : length w ≤ at + size_of here = omega (arith, leb-false (at + size_of here) (length w) t) in
      drop-length w ∙ sym (drop-drop (size_of here) at w ∙ drop_of_length-le w past))

-- ---- the command at a position
pub gone : (w : List ℕ) (at : ℕ) → length w ≤ at → broken ≡ command_of (drop at w)
unfolding command_of size_of entry_in entries
gone w at h = rw (drop_of_length-le w h) refl

module _ (w : List ℕ) (at b k : ℕ) (eb : b ≡ byte (drop at w) 0) (ek : k ≡ (entry_for b).size) where
  pub cut : length w - at < k → broken ≡ command_of (drop at w)
  cut h = cut_of (drop at w) b k eb ek (omega (arith, length-drop at w))

  module _ (h : k ≤ length w - at) where
    whole : (entry_for b).read (drop at w) ≡ command_of (drop at w)
    whole = read-of (drop at w) b k eb ek (omega (arith, length-drop at w))

    pub read_cell : b ≡ 0x10 → (x : Cell) → x ≡ cell_of (drop at w) → cell x ≡ command_of (drop at w)
    unfolding entry_in entries
    read_cell e x q = ap cell q ∙ rw e at whole

    pub read-cellx : b ≡ 0x12 → (x : Cell) → x ≡ cellx_of (drop at w) → cellx x ≡ command_of (drop at w)
    unfolding entry_in entries
    read-cellx e x q = ap cellx q ∙ rw e at whole

    pub read-frame : b ≡ 0x11 → (x : Frame) → x ≡ frame_of (drop at w) → frame x ≡ command_of (drop at w)
    unfolding entry_in entries
    read-frame e x q = ap frame q ∙ rw e at whole

    pub read-hi : b ≡ 0x20 → (x : Hi) → x ≡ hi_of (drop at w) → hi x ≡ command_of (drop at w)
    unfolding entry_in entries
    read-hi e x q = ap hi q ∙ rw e at whole

    pub read-user : b ≡ 0x30 → (x : User) → x ≡ user_of (drop at w) → user x ≡ command_of (drop at w)
    unfolding entry_in entries
    read-user e x q = ap user q ∙ rw e at whole

    pub read-end : b ≡ 0x00 → end ≡ command_of (drop at w)
    unfolding entry_in entries
    read-end e = rw e at whole

    pub unknown : (b ≡ 0x10 → ⊥) → (b ≡ 0x12 → ⊥) → (b ≡ 0x11 → ⊥) → (b ≡ 0x20 → ⊥) → (b ≡ 0x30 → ⊥) → (b ≡ 0x00 → ⊥) → broken ≡ command_of (drop at w)
    unfolding entry_in entries
    unknown n₀ nₓ n₁ n₂ n₃ n₄ =
        rw (ne_eqb b 0x10 n₀, ne_eqb b 0x12 nₓ, ne_eqb b 0x11 n₁, ne_eqb b 0x20 n₂, ne_eqb b 0x30 n₃, ne_eqb b 0x00 n₄) at whole

-- ---- a command by its byte, where it is whole
pub stands-made : (w : List ℕ) (at code : ℕ) {k b : ℕ} → k ≡ (entry_for code).size → b ≡ byte (drop at w) 0 → leb k (length w - at) && eqb b code ≡ stands_at code (drop at w)
unfolding stands_at
stands-made w at code ek eb = rw (ek, eb, length-drop at w) refl

module _ (l : List ℕ) where
  stands-is : (code : ℕ) → stands_at code l ≡ true → (entry_for code).read l ≡ command_of l
  unfolding stands_at
  stands-is code t =
      read-of l code (entry_for code).size (sym (eqb-true (byte l 0) code (and_right (leb (entry_for code).size (length l)) _ t))) refl
      (leb-true (entry_for code).size (length l) (and_left _ (eqb (byte l 0) code) t))

  pub stands-hi : {b : Bool} → b ≡ stands_at 0x20 l → b ≡ true → {h : Hi} → h ≡ hi_of l → command_of l ≡ hi h
  unfolding entries entry_in
  stands-hi e t eh = sym (stands-is 0x20 (sym e ∙ t)) ∙ ap hi (sym eh)

  pub stands-user : {b : Bool} → b ≡ stands_at 0x30 l → b ≡ true → {u : User} → u ≡ user_of l → command_of l ≡ user u
  unfolding entries entry_in
  stands-user e t eu = sym (stands-is 0x30 (sym e ∙ t)) ∙ ap user (sym eu)

  pub no-hi-stands : stands_at 0x20 l ≡ false → (h : Hi) → command_of l ≡ hi h → ⊥
  unfolding stands_at entries entry_in
  no-hi-stands f h e =
      let t = told l (hi h) e in
      false≢true (sym f ∙ both (le-leb 3 (length l) t.2) (eq-eqb (byte l 0) 0x20 t.3))

  pub no-user-stands : stands_at 0x30 l ≡ false → (u : User) → command_of l ≡ user u → ⊥
  unfolding stands_at entries entry_in
  no-user-stands f u e =
      let t = told l (user u) e in
      false≢true (sym f ∙ both (le-leb 6 (length l) (omega (arith, t.1, t.2))) (eq-eqb (byte l 0) 0x30 t.3))
