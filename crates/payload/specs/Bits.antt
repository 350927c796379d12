-- What the promises cite: the bits of each owner, as positions in the payload. Document 01, Four questions: "PBCH's bits are its
-- section when f = 0, a unit's are given above, a user's are the Q × G of its section; spare bits are nobody's."
use Rattle.std.specs.Prelude.{if◌then◌else◌, ℕ, ◌+◌, List, [], ◌∷◌, ◌++◌, eqb, length}
use Rattle.base.specs.Choice.{indicator}
use Rattle.plan.specs.CommandLists.{his_of}
use Rattle.plan.specs.declared.Hi.{Hi}
use Rattle.plan.specs.declared.Plan.{Plan}
use Rattle.phich.specs.Spreading.{spread_length}
use Rattle.phich.specs.Units.{mapping_unit}
use Rattle.layout.specs.declared.Owner.{Owner}
use Rattle.layout.specs.declared.Owner.TheVariants.{Crs, Sync, Pbch, Pcfich, Phich, User as UserOf, Held, Idle}
use Rattle.base.specs.Sums.{sum_of}
use Rattle.payload.specs.Sections.{section_bits}
use Rattle.payload.specs.Payload.{heads, sections}

-- "one bit per HI in plan order": the positions of the HIs' bits, the n-th that of HI n
unfoldable pub hi_bits : List ℕ → Plan → List ℕ
hi_bits w p = section_bits (sections w p) 1

-- "A unit's bits are those of the HIs of its groups": of the positions bs, one for each of the HIs hs, those of unit m; l is N_SF
unfoldable pub mapping_unit_bits : ℕ → ℕ → List Hi → List ℕ → List ℕ
mapping_unit_bits l m [] bs = []
mapping_unit_bits l m (h ∷ hs) [] = []
mapping_unit_bits l m (h ∷ hs) (b ∷ bs) = if eqb (mapping_unit l h) m then b ∷ mapping_unit_bits l m hs bs else mapping_unit_bits l m hs bs

-- THE BITS OF AN OWNER
unfoldable pub owner_bits : List ℕ → Plan → Owner → List ℕ
owner_bits w p Pbch = section_bits (sections w p) 0
owner_bits w p (Phich m) = mapping_unit_bits (spread_length p.cell) m (his_of w p) (hi_bits w p)
owner_bits w p (UserOf i) = section_bits (sections w p) (length (heads p) + i)
owner_bits w p (Crs q) = []
owner_bits w p (Sync m) = []
owner_bits w p Pcfich = []
owner_bits w p Held = []
owner_bits w p Idle = []

-- ---- how the theorem counts
-- how often position b stands in a list
unfoldable pub occurs : ℕ → List ℕ → ℕ
occurs b xs = sum_of xs (λ (x : ℕ). indicator (eqb x b))

-- the bits of all these owners, one owner's after the other's
unfoldable pub bits_of_all : (Owner → List ℕ) → List Owner → List ℕ
bits_of_all bits [] = []
bits_of_all bits (o ∷ os) = bits o ++ bits_of_all bits os
