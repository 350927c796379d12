-- What the promises cite: every place by one number, and the places of each owner in the order in which its values fill them.
-- Document 01, Grid and Owners. w is a plan's bytes, p the plan that the plan check answers with.
use Rattle.std.specs.Prelude.{ℕ, ◌+◌, ◌*◌, ◌/◌, ◌%◌, Bool, List}
use Rattle.plan.specs.declared.Cell.{Cell}
use Rattle.plan.specs.declared.Plan.{Plan}
use Rattle.layout.specs.Rules.{format_group, quad_symbol, quad_group}
use Rattle.layout.specs.Owners.{symbols, carriers, owns}
use Rattle.layout.specs.declared.Owner.{Owner}
use Rattle.layout.specs.declared.Owner.TheVariants.{Crs, Sync, Pbch, Pcfich, Phich, User as UserOf, Held, Idle}
use Rattle.counts.specs.Counts.{count_of}
use Rattle.base.specs.Counts.{cnt, nth, Listed}
use Rattle.places.specs.Quads.{quads_place, quads_index}

-- document 01's place (s, k) as a number: an element on port p is at ((p×S+s)×12N+k)×3. In ascending numbers k goes first, then s
abbrev pub place_number : Cell → ℕ → ℕ → ℕ
place_number c s k = s * carriers c + k

abbrev pub symbol_at : Cell → ℕ → ℕ
symbol_at c t = t / carriers c

abbrev pub carrier_at : Cell → ℕ → ℕ
carrier_at c t = t % carriers c

abbrev pub places_of : Cell → ℕ
places_of c = symbols c * carriers c

-- the owner's rule at place number t
unfoldable pub owns_at : List ℕ → Plan → Owner → ℕ → Bool
owns_at w p o t = owns w p o (symbol_at p.cell t) (carrier_at p.cell t)

-- the order of an owner's places: "k first, then s", or by quads, n of them, quad i in group `group i` of symbol `symbol i`
pub data FillingOrder : Type 0 where
  ascending : FillingOrder
  quads : ℕ → (ℕ → ℕ) → (ℕ → ℕ) → FillingOrder

unfoldable pub place_order : Cell → Owner → FillingOrder
place_order c (Crs q) = ascending
place_order c (Sync m) = ascending
place_order c Pbch = ascending
place_order c Pcfich = quads 4 (λ (i : ℕ). 0) (format_group c)
place_order c (Phich m) = quads 3 (quad_symbol c) (quad_group c m)
place_order c (UserOf i) = ascending
place_order c Held = ascending
place_order c Idle = ascending

unfoldable pub place_by : Cell → (ℕ → Bool) → FillingOrder → ℕ → ℕ
place_by c own ascending j = nth own (places_of c) j
place_by c own (quads n symbol group) j = place_number c (symbol (j / 4)) (quads_place c symbol group j)

unfoldable pub index_by : Cell → (ℕ → Bool) → FillingOrder → ℕ → ℕ
index_by c own ascending t = cnt own t
index_by c own (quads n symbol group) t = quads_index c n symbol group (symbol_at c t) (carrier_at c t)

-- THE PLACE of the owner's index j, and the index of its place t
unfoldable pub place_of : List ℕ → Plan → Owner → ℕ → ℕ
place_of w p o j = place_by p.cell (owns_at w p o) (place_order p.cell o) j

unfoldable pub index_of : List ℕ → Plan → Owner → ℕ → ℕ
index_of w p o t = index_by p.cell (owns_at w p o) (place_order p.cell o) t

-- the two undo each other on the owner's places and on the indices below its count. proofs/Listing.antt: so for every owner of an
-- accepted plan
abbrev pub PlacesListed : List ℕ → Plan → Owner → Type 0
PlacesListed w p o = Listed (owns_at w p o) (places_of p.cell) (count_of w p o) (place_of w p o) (index_of w p o)
