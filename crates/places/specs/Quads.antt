-- What the promises cite: the four places of a control group, and the order in which quads fill their groups. Document 01, Owners: "a
-- group's four places"; t is a group of symbol s, k a subcarrier.
use Rattle.std.specs.Prelude.{ℕ, ◌+◌, ◌*◌, ◌/◌, ◌%◌, ◌<◌, ◌≡◌, Bool, ◌&&◌, eqb}
use Rattle.base.specs.Counts.{cnt, nth, which}
use Rattle.plan.specs.declared.Cell.{Cell}
use Rattle.layout.specs.Rules.{element_group, in_group}
use Rattle.layout.specs.Owners.{carriers}

-- k is one of the four places of group t
unfoldable pub group_has : Cell → ℕ → ℕ → ℕ → Bool
group_has c s t k = in_group c s k && eqb (element_group c s k) t

-- the subcarrier of its j-th place, in ascending k (36.211 6.2.4), and which of its group's places k is
unfoldable pub quad_place : Cell → ℕ → ℕ → ℕ → ℕ
quad_place c s t j = nth (group_has c s t) (carriers c) j

unfoldable pub quad_index : Cell → ℕ → ℕ → ℕ
quad_index c s k = cnt (group_has c s (element_group c s k)) k

-- a channel of n quads, quad i in group `group i` of symbol `symbol i`: the subcarrier of its index j, which is 4 × quad + position in the
-- group, there; and the index of (s, k)
unfoldable pub quads_place : Cell → (ℕ → ℕ) → (ℕ → ℕ) → ℕ → ℕ
quads_place c symbol group j = quad_place c (symbol (j / 4)) (group (j / 4)) (j % 4)

unfoldable pub quads_index : Cell → ℕ → (ℕ → ℕ) → (ℕ → ℕ) → ℕ → ℕ → ℕ
quads_index c n symbol group s k = 4 * which (λ (i : ℕ). eqb s (symbol i) && eqb (element_group c s k) (group i)) n + quad_index c s k

-- (s, k) is a place of one of its quads
abbrev pub InQuads : Cell → ℕ → (ℕ → ℕ) → (ℕ → ℕ) → ℕ → ℕ → Type 0
InQuads c n symbol group s k = (i : ℕ) × (j : ℕ) × (i < n) × (j < 4) × (s ≡ symbol i) × (k ≡ quad_place c s (group i) j)
