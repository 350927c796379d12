-- For the inner contracts and loops only: the bits in which elements differ from the values that are due there.
use Rattle.std.specs.Prelude.{ℕ, ◌≡◌, Bool, List}
use Rattle.base.specs.declared.Element.{Element}
use Rattle.compare.specs.Comparing.{Holds}

-- there is none just when the elements that pass the test D hold the values W
pub record Differing (D : ℕ → Bool) (W : ℕ → Element) (g : List ℕ) (bits : ℕ) : Type 0 where
  pub none : bits ≡ 0 → Holds D W g
  pub same : Holds D W g → bits ≡ 0
