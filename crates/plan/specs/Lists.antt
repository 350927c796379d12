-- What the promises cite: tests and facts of the elements of a list. Nothing here is about plans.
use Rattle.std.specs.Prelude.{ℕ, ◌≡◌, ◌⊎◌, Bool, true, false, not, ◌&&◌, ◌||◌, List, [], ◌∷◌, eqb}

-- x is one of the numbers: as a test, and as a fact
unfoldable pub one_of : ℕ → List ℕ → Bool
one_of x [] = false
one_of x (y ∷ ys) = eqb x y || one_of x ys

abbrev pub Among : ℕ → List ℕ → Type 0
Among x [] = ⊥
Among x (y ∷ ys) = (x ≡ y) ⊎ Among x ys

-- no element passes the test
unfoldable pub none_of : {A : Type 0} → (A → Bool) → List A → Bool
none_of f [] = true
none_of f (a ∷ rest) = not (f a) && none_of f rest

-- P holds of each element
abbrev pub Every : {A : Type 0} → (A → Type 0) → List A → Type 0
Every P [] = Unit {0}
Every P (a ∷ rest) = P a × Every P rest

-- R holds of each element and each later one
abbrev pub Apart : {A : Type 0} → (A → A → Type 0) → List A → Type 0
Apart R [] = Unit {0}
Apart R (a ∷ rest) = Every (R a) rest × Apart R rest
