-- A grid that was built gives back the symbol of an owner's place: it stands on the place's own port. Assumes nothing beyond the plan
-- check's answer.
use Prim.Native.Nat.{ℕ, zero, suc, ◌+◌, ◌*◌, ◌%◌, ◌<◌}
use mathlib.Core.Path.{◌≡◌, sym, ap, ◌∙◌}
use mathlib.Core.Bool.{cond}
use mathlib.Core.List.{List}
use native.Mathlib.Omega.{arith}
use lib.Dec.{eqb}
use lib.ListN.{get_or}
use Rattle.std.specs.declared.result.Result.TheVariants.{Ok as accepted}
use Rattle.base.specs.declared.Pair.{Pair}
use Rattle.base.specs.declared.Element.{Element}
use Rattle.base.specs.Bytes.{pair_of, byte_in}
use Rattle.base.specs.Pairs.{Small}
use Rattle.precoding.specs.Places.{own_port, on_port}
use Rattle.precoding.proofs.Ports.{read}
use Rattle.plan.specs.Check.{check_of}
use Rattle.plan.specs.declared.Plan.{Plan}
use Rattle.layout.specs.Owners.{symbols, carriers}
use Rattle.layout.specs.declared.Owner.{Owner}
use Rattle.counts.specs.Counts.{count_of}
use Rattle.places.specs.Places.{symbol_at, carrier_at, places_of, place_of}
use Rattle.places.proofs.Numbers.{place-both}
use Rattle.subframe.specs.Elements.{element_for}
use Rattle.subframe.specs.Grid.{grid_of}
use Rattle.subframe.proofs.Bytes.{element-same, number_is}
use Rattle.subframe.proofs.Owned.{owned-byte, index-place, index-owned}
use Rattle.grid.specs.Elements.{element_in}
use Rattle.recovery.specs.Recovery.{symbol_in}

-- ---- an element from its three bytes
module _ (g : List ℕ) (e : ℕ) (x : Element) (h : (b : ℕ) → b < 3 → get_or g (e * 3 + b) 0 ≡ byte_in x b) where
  byte-in : (b : ℕ) → b < 3 → byte_in (element_in g e) b ≡ byte_in x b
  unfolding element_in
  byte-in zero l = let z : 3 * e ≡ e * 3 + 0 = omega arith in ap (λ (n : ℕ). get_or g n 0) z ∙ h 0 l
  byte-in (suc zero) l = let z : 3 * e + 1 ≡ e * 3 + 1 = omega arith in ap (λ (n : ℕ). get_or g n 0) z ∙ h 1 l
  byte-in (suc (suc zero)) l = let z : 3 * e + 2 ≡ e * 3 + 2 = omega arith in ap (λ (n : ℕ). get_or g n 0) z ∙ h 2 l
  byte-in (suc (suc (suc b))) l = absurd (omega arith)

  pub element-in : element_in g e ≡ x
  element-in = element-same byte-in

-- ---- the own port goes by the parity of the pair of ports
pub own_pair : (P port_pair : ℕ) → own_port P (port_pair % 2) ≡ own_port P port_pair
unfolding own_port
own_pair P port_pair = let e : port_pair % 2 % 2 ≡ port_pair % 2 = omega arith in ap (λ (t : ℕ). cond (eqb P 4) t 0) e

pub own_read : (P port_pair u odd : ℕ) (d e : Pair) → Small 127 d → pair_of (on_port P (port_pair % 2) u odd d e (own_port P port_pair)) ≡ d
own_read P port_pair u odd d e s =
    ap (λ (q : ℕ). pair_of (on_port P (port_pair % 2) u odd d e q)) (sym (own_pair P port_pair)) ∙ read P (port_pair % 2) u odd d e s

-- ---- THE LAW: at an owner's j-th place the grid has the owner's element
module _ (w : List ℕ) (p : Plan) (ok : check_of w ≡ accepted p) (o : Owner) (A : List ℕ) (port_pair j : ℕ) (l : j < count_of w p o) where
  pub symbol-in :
      own_port p.cell.ports port_pair < p.cell.ports
      → symbol_in w p (grid_of w p A) o port_pair j
      ≡ pair_of (element_for w p A o (own_port p.cell.ports port_pair) (symbol_at p.cell (place_of w p o j)) (carrier_at p.cell (place_of w p o j)))
  unfolding symbol_in
  symbol-in in-port =
      let q : ℕ = own_port p.cell.ports port_pair in
      let t : ℕ = place_of w p o j in
      let s : ℕ = symbol_at p.cell t in
      let k : ℕ = carrier_at p.cell t in
      let e : ℕ = (q * symbols p.cell + s) * carriers p.cell + k in
      let at : e ≡ q * places_of p.cell + t =
      number_is q (symbols p.cell) s (carriers p.cell) k ∙ ap (λ (n : ℕ). q * places_of p.cell + n) (place-both p.cell t) in
      ap pair_of
      (ap (element_in (grid_of w p A)) (sym at)
      ∙ element-in (grid_of w p A) e (element_for w p A o q s k)
      (owned-byte w p ok o A q s k (index-place w p ok o j l) (index-owned w p ok o j l) in-port))
