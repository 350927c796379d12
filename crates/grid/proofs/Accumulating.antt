-- WHAT LOOPS OVER A GRID'S ELEMENTS SHARE, whether they write or compare: nothing done, the same done otherwise said, and further elements.
-- The instance of writing stands here, that of comparing in `compare`. Assumes nothing.
use Prim.Native.Nat.{ℕ}
use mathlib.Core.Path.{◌≡◌, refl, sym}
use mathlib.Core.Bool.{Bool, true, false, ◌||◌}
use mathlib.Core.List.{List}
use Rattle.base.specs.declared.Element.{Element}
use Rattle.grid.specs.Writing.{Written}
use Rattle.grid.proofs.Writing.{none, same, over}

-- `Done D W x`: in the state x the elements that pass the test D are done, with the values W
abbrev pub Deed : Type 0 → Type 1
Deed X = (ℕ → Bool) → (ℕ → Element) → X → Type 0

-- `Also D W x y`: from the state x to the state y they are done besides
abbrev pub Step : Type 0 → Type 1
Step X = (ℕ → Bool) → (ℕ → Element) → X → X → Type 0

pub record Accumulates {X : Type 0} (Done : Deed X) (Also : Step X) (first : X) : Type 0 where
  pub nothing : (W : ℕ → Element) → Done (λ (e : ℕ). false) W first
  pub same :
      {D D' : ℕ → Bool} {W W' : ℕ → Element} {x : X} → ((e : ℕ) → D e ≡ D' e) → ((e : ℕ) → D e ≡ true → W e ≡ W' e) → Done D W x → Done D' W' x
  -- elements apart from those before, with the values that are due
  pub more :
      {D₁ D₂ D : ℕ → Bool} {W W₂ : ℕ → Element} {x y : X} → ((e : ℕ) → D₁ e ≡ true → D₂ e ≡ true → ⊥) → Done D₁ W x → Also D₂ W₂ x y
      → ((e : ℕ) → D₂ e ≡ true → W₂ e ≡ W e) → ((e : ℕ) → D e ≡ D₂ e || D₁ e) → Done D W y

module _ {X : Type 0} {Done : Deed X} {Also : Step X} {first : X} (A : Accumulates Done Also first) where
  -- no element passes the test
  pub empty : {D : ℕ → Bool} (W : ℕ → Element) → ((e : ℕ) → D e ≡ false) → Done D W first
  empty W h = A.same (λ e. sym (h e)) (λ e l. refl) (A.nothing W)

-- ---- writing: the state is the grid
abbrev pub WrittenIn : List ℕ → Deed (List ℕ)
WrittenIn g₀ D W g = Written D W g₀ g

pub writing : (g₀ : List ℕ) → Accumulates (WrittenIn g₀) Written g₀
writing g₀ = record { nothing = λ W. none W g₀; same = λ d v r. same d v r; more = λ a r s v d. over r s v d }
