-- For the inner contracts and loops only: elements of a grid compared with the values that are due there, and the bytes that are not 0,
-- by whose number all other elements are silent (document 01, Grid: "0 is silent, I = J = 0").
use Rattle.std.specs.Prelude.{ℕ, zero, suc, ◌+◌, ◌/◌, ◌≤◌, ◌≡◌, Bool, true, cond, ◌&&◌, List, [], ◌∷◌, eqb, length, Option, Some, None}
use Rattle.base.specs.declared.Element.{Element}
use Rattle.grid.specs.Elements.{element_in}

-- the elements that pass the test D hold the values W
pub record Holds (D : ℕ → Bool) (W : ℕ → Element) (g : List ℕ) : Type 0 where
  pub elements : (e : ℕ) → D e ≡ true → element_in g e ≡ W e

-- 1 for a byte that is not 0
unfoldable pub nonzero : ℕ → ℕ
nonzero b = cond (eqb b 0) 0 1

-- how many bytes of a list are not 0
unfoldable pub nonzeros : List ℕ → ℕ
nonzeros [] = 0
nonzeros (b ∷ bs) = nonzero b + nonzeros bs

-- of an element
unfoldable pub weight_of : Element → ℕ
weight_of el = nonzero el.byte + nonzero el.i + nonzero el.j

-- of those elements below n that pass the test
unfoldable pub weight_in : (ℕ → Bool) → List ℕ → ℕ → ℕ
weight_in D g zero = 0
weight_in D g (suc n) = weight_in D g n + cond (D n) (weight_of (element_in g n)) 0

-- THE ANSWER of a comparison. `Some n`: the elements hold the values, and n of their bytes are not 0. `None`: they do not.
abbrev pub Found : (ℕ → Bool) → (ℕ → Element) → List ℕ → Option ℕ → Type 0
Found D W g (Some n) = Holds D W g × (n ≡ weight_in D g (length g / 3))
Found D W g None = Holds D W g → ⊥

pub record Compared (D : ℕ → Bool) (W : ℕ → Element) (g : List ℕ) (seen : Option ℕ) : Type 0 where
  pub found : Found D W g seen

-- one element beside its value
abbrev pub same_element : Element → Element → Bool
same_element a b = eqb a.byte b.byte && eqb a.i b.i && eqb a.j b.j

unfoldable pub seen_of : Element → Element → Option ℕ
seen_of a b = cond (same_element a b) (Some (weight_of a)) None

-- two comparisons of elements apart
abbrev pub both_of : Option ℕ → Option ℕ → Option ℕ
both_of (Some m) (Some n) = Some (m + n)
both_of (Some m) None = None
both_of None s = None

-- a number of bytes that a grid may have
abbrev pub Few : Option ℕ → Type 0
Few (Some n) = n ≤ 4294967296
Few None = Unit {0}

-- how many of 0, 1, .., n - 1 pass the test
unfoldable pub count_below : (ℕ → Bool) → ℕ → ℕ
count_below own zero = 0
count_below own (suc n) = count_below own n + cond (own n) 1 0
