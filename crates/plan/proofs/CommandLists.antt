-- Commands of one kind in a row: how many, the first, and one more at the end. Assumes nothing.
use Prim.Native.Nat.{ℕ, zero, suc, ◌+◌}
use mathlib.Core.Path.{◌≡◌, refl, sym, ap}
use mathlib.Core.List.{List, [], ◌∷◌, ◌++◌}
use native.Mathlib.Numerals.{add-one}
use lib.ListN.{length, drop}
use Rattle.plan.specs.Commands.{size_of}
use Rattle.plan.specs.CommandLists.{commands_from, past, next_of}
use Rattle.plan.proofs.Reading.{drop-next}

module _ {A : Type 0} (read : List ℕ → A) where
  pub commands-length : (l : List ℕ) (n : ℕ) → length (commands_from read l n) ≡ n
  unfolding commands_from
  commands-length l zero = refl
  commands-length l (suc n) = ap suc (commands-length (drop (size_of l) l) n)

  pub commands-none : (l l' : List ℕ) (n : ℕ) → n ≡ 0 → commands_from read l n ≡ commands_from read l' n
  unfolding commands_from
  commands-none l l' n e = rw e refl

  pub commands-zero : (l : List ℕ) (n : ℕ) → n ≡ 0 → commands_from read l n ≡ []
  unfolding commands_from
  commands-zero l n e = rw e refl

  snoc : (n : ℕ) (l : List ℕ) → commands_from read l (suc n) ≡ commands_from read l n ++ (read (past l n) ∷ [])
  unfolding commands_from past
  snoc zero l = refl
  snoc (suc n) l = ap (λ (t : List A). read l ∷ t) (snoc n (drop (size_of l) l))

  -- one more command, read after the others
  pub commands-more : (n : ℕ) (l : List ℕ) → commands_from read l (n + 1) ≡ commands_from read l n ++ (read (past l n) ∷ [])
  commands-more n l = rw add-one (snoc n l)

  -- the command at a position, and the others from the next position on
  pub commands-next : (w : List ℕ) (at n : ℕ) → commands_from read (drop at w) (suc n) ≡ read (drop at w) ∷ commands_from read (drop (next_of w at) w) n
  unfolding commands_from
  commands-next w at n = ap (λ (l : List ℕ). read (drop at w) ∷ commands_from read l n) (sym (drop-next w at))

pub past-suc : (n : ℕ) (l : List ℕ) → past l (suc n) ≡ drop (size_of (past l n)) (past l n)
unfolding past
past-suc zero l = refl
past-suc (suc n) l = past-suc n (drop (size_of l) l)

pub past_more : (n : ℕ) (l : List ℕ) → past l (n + 1) ≡ drop (size_of (past l n)) (past l n)
past_more n l = rw add-one (past-suc n l)

pub past-none : (n : ℕ) (l : List ℕ) → n ≡ 0 → past l n ≡ l
unfolding past
past-none n l e = rw e refl
