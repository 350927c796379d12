-- An owner's bytes in two grids of one plan are the same just where its elements are. Assumes nothing beyond the plan check's answer.
use Prim.Native.Nat.{ℕ, ◌+◌, ◌*◌, ◌<◌}
use mathlib.Core.Path.{◌≡◌, sym, ap, ◌∙◌}
use mathlib.Core.Logic.{◌↔◌}
use mathlib.Core.Bool.{true}
use mathlib.Core.List.{List}
use borrow.Author.Tests.{ltb-true}
use lib.Dec.{ltb}
use lib.ListN.{length, get_or}
use Rattle.std.specs.declared.result.Result.TheVariants.{Ok as accepted}
use Rattle.base.specs.declared.Element.{Element}
use Rattle.base.specs.Bytes.{byte_in}
use Rattle.plan.specs.Fields.{mapping_units}
use Rattle.plan.specs.Check.{check_of}
use Rattle.plan.specs.CommandLists.{users_of}
use Rattle.plan.specs.declared.Plan.{Plan}
use Rattle.plan.proofs.Listed.{and_left}
use Rattle.layout.specs.Rules.{slot_of, phich}
use Rattle.layout.specs.Owners.{GridPlace, symbols, carriers, fixed_rule, user_rule, owns, owner_of}
use Rattle.layout.specs.declared.Owner.{Owner}
use Rattle.layout.specs.declared.Owner.TheVariants.{Phich, User as UserOf}
use Rattle.layout.proofs.OneOwner.{owner-is, owner_of_lem}
use Rattle.layout.proofs.Partition.{has-index}
use Rattle.counts.specs.Counts.{count_of}
use Rattle.places.specs.Places.{place_number, symbol_at, carrier_at, owns_at, place_of, index_of}
use Rattle.places.proofs.Numbers.{place-both, symbol-inside, carrier-inside}
use Rattle.places.proofs.Listing.{some-carriers, listed}
use Rattle.subframe.specs.Elements.{element_for, element_at}
use Rattle.subframe.specs.Grid.{grid_of}
use Rattle.subframe.specs.TwoBuilds.{SameBytes}
use Rattle.subframe.proofs.Bytes.{element-same, byte_at}

-- the payloads A and B give the owner the same elements
abbrev pub SameElements : List ℕ → Plan → Owner → List ℕ → List ℕ → Type 0
SameElements w p o A B =
    (port s k : ℕ) → port < p.cell.ports → GridPlace p.cell s k → owns w p o s k ≡ true
    → element_for w p A o port s k ≡ element_for w p B o port s k

-- a unit or a user that has a place is one of the plan's
module _ (w : List ℕ) (p : Plan) where
  pub unit-owner : (m s k : ℕ) → owns w p (Phich m) s k ≡ true → m < mapping_units p.cell
  unfolding owns fixed_rule phich
  unit-owner m s k h = ltb-true m (mapping_units p.cell) (and_left (ltb m (mapping_units p.cell)) _ (and_left _ _ h))

  pub user-owner : (i s k : ℕ) → owns w p (UserOf i) s k ≡ true → i < length (users_of w p)
  unfolding owns user_rule
  user-owner i s k h = has-index (slot_of p.cell s) k (users_of w p) i (and_left _ _ (and_left _ _ h))

module _ (w : List ℕ) (p : Plan) (ok : check_of w ≡ accepted p) (o : Owner) where
  -- at an owner's place stand the owner's element and its bytes
  module _ (payload : List ℕ) (port s k : ℕ) (place : GridPlace p.cell s k) (own : owns w p o s k ≡ true) where
    pub owner_here : owner_of w p s k ≡ o
    owner_here = owner_of_lem w p ok s k place.0 place.1 ∙ (owner-is w p ok s k place.0 place.1 o).0 own

    pub owned-element : element_at w p payload port s k ≡ element_for w p payload o port s k
    unfolding element_at
    owned-element = ap (λ (x : Owner). element_for w p payload x port s k) owner_here

    pub owned-byte :
        port < p.cell.ports → (b : ℕ) → b < 3
        → get_or (grid_of w p payload) (((port * symbols p.cell + s) * carriers p.cell + k) * 3 + b) 0 ≡ byte_in (element_for w p payload o port s k) b
    owned-byte in-port b l = byte_at w p payload port s k b in-port place.0 place.1 l ∙ ap (λ (x : Element). byte_in x b) owned-element

  -- the place of the owner's index j: it lies in the grid, is the owner's, and has that index
  module _ (j : ℕ) (l : j < count_of w p o) where
    pub index-place : GridPlace p.cell (symbol_at p.cell (place_of w p o j)) (carrier_at p.cell (place_of w p o j))
    index-place =
        let some = some-carriers w p ok in
        (symbol-inside p.cell some (place_of w p o j) ((listed w p ok o).inside j l), carrier-inside p.cell some (place_of w p o j))

    pub index-owned : owns w p o (symbol_at p.cell (place_of w p o j)) (carrier_at p.cell (place_of w p o j)) ≡ true
    unfolding owns_at
    index-owned = (listed w p ok o).owned j l

    pub index_back : index_of w p o (place_number p.cell (symbol_at p.cell (place_of w p o j)) (carrier_at p.cell (place_of w p o j))) ≡ j
    index_back = ap (index_of w p o) (place-both p.cell (place_of w p o j)) ∙ (listed w p ok o).back j l

  -- THE LAW
  pub same_bytes : (A B : List ℕ) → SameBytes w p o (grid_of w p A) (grid_of w p B) ↔ SameElements w p o A B
  same_bytes A B = (
    (λ h port s k in-port place own. element-same (λ b l. sym (owned-byte A port s k place own in-port b l) ∙ h port s k b in-port place own l ∙ owned-byte B port s k place own in-port b l)),
    (λ h port s k b in-port place own l. owned-byte A port s k place own in-port b l ∙ ap (λ (x : Element). byte_in x b) (h port s k in-port place own)
        ∙ sym (owned-byte B port s k place own in-port b l)),
  )
