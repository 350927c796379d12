-- For inner contracts, laws, and read's equation, which `Reads` determines. Document 01, Plan and payload: HIs by their number, and pairs used once.
use Rattle.std.specs.Prelude.{ℕ, List, [], ◌∷◌, ◌≢◌, slice_index_or}
use Rattle.plan.specs.declared.Hi.{Hi}

-- HI number n, the first being number 0
abbrev pub hi_number : List Hi → ℕ → Hi
hi_number hs n = slice_index_or hs n (record { group = 0; sequence = 0 })

-- refusal 5, "pair used before": h is none of hs, and no pair of hs is used twice
unfoldable pub Fresh : Hi → List Hi → Type 0
Fresh h [] = Unit {0}
Fresh h (x ∷ hs) = (h ≢ x) × Fresh h hs

unfoldable pub Distinct : List Hi → Type 0
Distinct [] = Unit {0}
Distinct (h ∷ hs) = Fresh h hs × Distinct hs
