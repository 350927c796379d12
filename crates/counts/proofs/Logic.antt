-- Tests and their parts, and a rule of tests by its truth table. Assumes nothing.
use Prim.Native.Nat.{ℕ, zero, suc}
use mathlib.Core.Path.{◌≡◌, refl}
use mathlib.Core.Bool.{Bool, true, false, not, ◌&&◌}
use lib.Dec.{T}
use Rattle.base.proofs.Tests.{clash}
use lib.Ieee.Fits.{and_l, and_r}

-- ---- truth tables: a rule of n tests that antt computes at all their answers holds at any
abbrev pub Rule : ℕ → Type 0
Rule zero = Bool
Rule (suc n) = Bool → Rule n

abbrev pub every_way : (n : ℕ) → Rule n → Bool
every_way zero t = t
every_way (suc n) f = every_way n (f true) && every_way n (f false)

abbrev pub Holds : (n : ℕ) → Rule n → Type 0
Holds zero t = T t
Holds (suc n) f = (b : Bool) → Holds n (f b)

at-answer : (f : Bool → Bool) (b : Bool) → T (f true && f false) → T (f b)
at-answer f true t = and_l (f true) (f false) t
at-answer f false t = and_r (f true) (f false) t

pub by-table : (n : ℕ) (f : Rule n) → T (every_way n f) → Holds n f
by-table zero t h = h
by-table (suc n) f h = λ b. by-table n (f b) (at-answer (λ a. every_way n (f a)) b h)

-- both answers are the same
abbrev pub agree : Bool → Bool → Bool
agree true b = b
agree false b = not b

pub agreed : (a b : Bool) → T (agree a b) → a ≡ b
agreed true true h = refl
agreed true false h = absurd h
agreed false true h = absurd h
agreed false false h = refl

abbrev pub implies : Bool → Bool → Bool
implies true b = b
implies false b = true

pub follows : (a b : Bool) → T (implies a b) → a ≡ true → b ≡ true
follows true true h e = refl
follows true false h e = absurd h
follows false b h e = clash e refl
