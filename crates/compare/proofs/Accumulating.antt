-- Comparing is an instance of what loops over a grid's elements share: the state is the answer so far. Assumes nothing.
use Prim.Native.Nat.{ℕ}
use mathlib.Core.Path.{◌≡◌}
use mathlib.Core.Bool.{Bool}
use mathlib.Core.List.{List}
use Rattle.base.specs.declared.Element.{Element}
use Rattle.grid.proofs.Accumulating.{Deed, Accumulates}
use Rattle.std.specs.Prelude.{Option, Some}
use Rattle.compare.specs.Comparing.{Compared, both_of}
use Rattle.compare.proofs.Comparing.{none, same, over}

abbrev pub ComparedIn : List ℕ → Deed (Option ℕ)
ComparedIn g D W seen = Compared D W g seen

-- a comparison of further elements, and the answer of both
pub record AlsoCompared (g : List ℕ) (D : ℕ → Bool) (W : ℕ → Element) (seen next : Option ℕ) : Type 0 where
  pub part : Option ℕ
  pub compared : Compared D W g part
  pub both : next ≡ both_of seen part

pub also : {g : List ℕ} {D : ℕ → Bool} {W : ℕ → Element} {seen part next : Option ℕ} → Compared D W g part → next ≡ both_of seen part → AlsoCompared g D W seen next
also {part = part} c b = record { part = part; compared = c; both = b }

pub comparing : (g : List ℕ) → Accumulates (ComparedIn g) (AlsoCompared g) (Some 0)
comparing g = record { nothing = λ W. none W g; same = λ d v c. same d v c; more = λ a c k v d. rw k.both (over a c k.compared v d) }
