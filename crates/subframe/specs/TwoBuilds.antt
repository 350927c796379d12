-- What the promises cite: DEMAND 3 (docs/APPROVAL.md), the regulator's second question: can one owner's data change what is sent for
-- another? Its owners and elements are document 01's: "the format indicator is PCFICH, the broadcast channel PBCH, an acknowledgement unit
-- a PHICH unit". w is a plan's bytes and p the plan that the plan check answers with; A and B are two payloads; g and h are two grids:
-- proofs/TwoBuilds.antt has them as the grids of A and B, and build/proofs/Apart.antt as what two calls of build leave.
use Rattle.std.specs.Prelude.{ℕ, ◌+◌, ◌*◌, ◌<◌, ◌≡◌, ◌↔◌, true, List, length, get_or}
use Rattle.base.specs.Bits.{bit_at}
use Rattle.plan.specs.Lists.{Every}
use Rattle.plan.specs.Fields.{mapping_units}
use Rattle.plan.specs.CommandLists.{users_of}
use Rattle.plan.specs.declared.Plan.{Plan}
use Rattle.layout.specs.Owners.{GridPlace, symbols, carriers, owns}
use Rattle.layout.specs.declared.Mark.TheVariants.{Primary, Secondary}
use Rattle.layout.specs.declared.Owner.{Owner}
use Rattle.layout.specs.declared.Owner.TheVariants.{Crs, Sync, Pbch, Pcfich, Phich, User as UserOf, Held, Idle}
use Rattle.payload.specs.Bits.{owner_bits}
use Rattle.subframe.specs.Grid.{grid_of}

-- "An owner's elements are the three bytes at each of its places, on each of the P ports": g and h hold the same bytes at all of them.
-- "An element on port p is three bytes at ((p×S+s)×12N+k)×3"
abbrev pub SameBytes : List ℕ → Plan → Owner → List ℕ → List ℕ → Type 0
SameBytes w p o g h =
    (port s k b : ℕ) → port < p.cell.ports → GridPlace p.cell s k → owns w p o s k ≡ true → b < 3
    → let at = ((port * symbols p.cell + s) * carriers p.cell + k) * 3 + b in get_or g at 0 ≡ get_or h at 0

-- A and B agree in all of the owner's bits
abbrev pub SameBits : List ℕ → Plan → Owner → List ℕ → List ℕ → Type 0
SameBits w p o A B = Every (λ (b : ℕ). bit_at A b ≡ bit_at B b) (owner_bits w p o)

-- the demand's sentences, one after the other
pub record TwoBuilds (w : List ℕ) (p : Plan) (A B g h : List ℕ) : Type 0 where
  -- "Build A into one and B into the other; each then holds the elements that 36.211 and document 01 give for its payload." (`grid_of` has
  -- them all, so the lengths too)
  pub first : g ≡ grid_of w p A
  pub second : h ≡ grid_of w p B
  -- "Document 01 gives each element exactly one owner."
  pub owner : (s k : ℕ) → GridPlace p.cell s k → (o : Owner) × (owns w p o s k ≡ true) × ((other : Owner) → owns w p other s k ≡ true → other ≡ o)
  -- "At every element of the reference signals, the synchronisation and the format indicator, and at every held or idle one, the two
  -- grids hold the same bytes, on all ports."
  pub crs : (q : ℕ) → SameBytes w p (Crs q) g h
  pub pss : SameBytes w p (Sync Primary) g h
  pub sss : SameBytes w p (Sync Secondary) g h
  pub pcfich : SameBytes w p Pcfich g h
  pub held : SameBytes w p Held g h
  pub idle : SameBytes w p Idle g h
  -- "For the broadcast channel, each acknowledgement unit and each user, the two grids hold the same bytes at all of that owner's
  -- elements, on all ports, exactly when A and B agree in all of that owner's bits."
  pub pbch : SameBytes w p Pbch g h ↔ SameBits w p Pbch A B
  pub unit : (m : ℕ) → m < mapping_units p.cell → SameBytes w p (Phich m) g h ↔ SameBits w p (Phich m) A B
  pub user : (i : ℕ) → i < length (users_of w p) → SameBytes w p (UserOf i) g h ↔ SameBits w p (UserOf i) A B
