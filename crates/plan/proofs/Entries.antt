-- The table of commands, what the command that is read says of its bytes, and the list of a plan's commands. Assumes nothing.
use Prim.Native.Nat.{ℕ, zero, suc, pred, ◌≤◌, ◌<◌}
use mathlib.Core.Path.{◌≡◌, refl, ap, ◌∙◌, subst}
use mathlib.Core.List.{List, [], ◌∷◌}
use native.Mathlib.Nat.{not-suc-le-zero}
use native.Mathlib.Omega.{arith}
use lib.Dec.{leb, eqb}
use lib.ListN.{length, drop}
use borrow.Author.Tests.{leb-true, eqb-true}
use Rattle.plan.specs.Lists.{Every}
use Rattle.plan.specs.Commands.{byte, cell_of, cellx_of, frame_of, hi_of, user_of, Entry, entries, entry_in, entry_for, size_of, command_of, commands_after, commands}
use Rattle.plan.proofs.Listed.{choose}
use Rattle.plan.specs.declared.Command.{Command}
use Rattle.plan.specs.declared.Command.TheVariants.{Cell as cell, Cellx as cellx, Frame as frame, Hi as hi, User as user, End as end, Broken as broken}

-- what holds of each entry at its own byte, and of an unknown one, holds of the entry of a byte
in-entries : (F : Entry → Type 0) (b : ℕ) → F (entry_in [] b) → (es : List Entry) → Every (λ (e : Entry). b ≡ e.code → F e) es → F (entry_in es b)
unfolding entry_in
in-entries F b none [] h = none
in-entries F b none (e ∷ es) h = choose F (eqb b e.code) e (entry_in es b) (λ t. h.0 (eqb-true b e.code t)) (λ t. in-entries F b none es h.1)

pub size-some : (l : List ℕ) → 1 ≤ size_of l
unfolding size_of entries entry_in
size-some l =
    in-entries (λ (e : Entry). 1 ≤ e.size) (byte l 0) (omega arith) entries
    ((λ c. omega arith), ((λ c. omega arith), ((λ c. omega arith), ((λ c. omega arith), ((λ c. omega arith), ((λ c. omega arith), tt))))))

-- what a command of size k says of the bytes that it was read from
abbrev pub Told : List ℕ → ℕ → Command → Type 0
Told l k (cell c) = (c ≡ cell_of l) × (k ≡ 7) × (7 ≤ length l)
Told l k (cellx c) = (c ≡ cellx_of l) × (k ≡ 8) × (8 ≤ length l)
Told l k (frame f) = (f ≡ frame_of l) × (k ≡ 5) × (5 ≤ length l)
Told l k (hi h) = (h ≡ hi_of l) × (k ≡ 3) × (3 ≤ length l) × (byte l 0 ≡ 0x20)
Told l k (user u) = (u ≡ user_of l) × (6 ≤ k) × (k ≤ length l) × (byte l 0 ≡ 0x30)
Told l k end = (byte l 0 ≡ 0) × (k ≡ 1) × (1 ≤ length l)
Told l k broken = Unit {0}

entry-told : (l : List ℕ) → (entry_for (byte l 0)).size ≤ length l → Told l (entry_for (byte l 0)).size ((entry_for (byte l 0)).read l)
unfolding entries entry_in
entry-told l =
    in-entries (λ (e : Entry). e.size ≤ length l → Told l e.size (e.read l)) (byte l 0) (λ w. tt) entries (
      (λ c w. (refl, refl, w)),
      (
        (λ c w. (refl, refl, w)),
        (
          (λ c w. (refl, refl, w)),
          (
            (λ c w. (refl, refl, w, c)),
            (
              (λ c w. (refl, omega arith, w, c)),
              (
                (λ c w. (c, refl, w)),
                tt,
              ),
            ),
          ),
        ),
      ),
    )

known : (l : List ℕ) → Told l (size_of l) (command_of l)
unfolding size_of command_of
known l =
    choose (Told l (entry_for (byte l 0)).size) (leb (size_of l) (length l)) ((entry_for (byte l 0)).read l) broken
    (λ t. entry-told l (leb-true _ _ t)) (λ t. tt)

pub told : (l : List ℕ) (x : Command) → command_of l ≡ x → Told l (size_of l) x
told l x e = subst (λ (y : Command). Told l (size_of l) y) e (known l)

-- ---- the list of commands, one at a time
skip : (k : ℕ) (l : List ℕ) → commands_after k l ≡ commands (drop k l)
unfolding commands_after
skip zero [] = refl
skip (suc k) [] = refl
skip zero (b ∷ l) = refl
skip (suc k) (b ∷ l) = skip k l

pub next : (l : List ℕ) → 0 < length l → commands l ≡ command_of l ∷ commands (drop (size_of l) l)
unfolding commands_after
next [] h = absurd (not-suc-le-zero h)
next (b ∷ l) h =
    let z : suc (pred (size_of (b ∷ l))) ≡ size_of (b ∷ l) = omega (arith, size-some (b ∷ l)) in
    ap (λ (cs : List Command). command_of (b ∷ l) ∷ cs)
    (skip (pred (size_of (b ∷ l))) l ∙ ap (λ (n : ℕ). commands (drop n (b ∷ l))) z)
