-- The elements of an accepted plan's grid by their numbers: an element's port and place, and its value by the place's owner. Assumes
-- nothing beyond the plan check's answer.
use Prim.Native.Nat.{ℕ, ◌*◌, ◌/◌, ◌%◌, ◌<◌}
use mathlib.Core.Path.{◌≡◌, sym, ◌∙◌}
use mathlib.Core.Bool.{true}
use mathlib.Core.List.{List}
use native.Mathlib.Nat.{mod-lt, div-lt_iff_lt-mul}
use native.Mathlib.Omega.{arith}
use borrow.Author.Tests.{eqb-true}
use lib.Dec.{eqb}
use Rattle.std.specs.declared.result.Result.TheVariants.{Ok as accepted}
use Rattle.base.specs.declared.Pair.{Pair}
use Rattle.precoding.specs.Layers.{Occurs}
use Rattle.precoding.specs.Matrices.{precoded}
use Rattle.precoding.specs.Places.{own_port, other_port, placed}
use Rattle.precoding.proofs.Diversity.{by_place, same-elements}
use Rattle.plan.specs.Check.{check_of}
use Rattle.plan.specs.declared.Plan.{Plan}
use Rattle.layout.specs.Owners.{GridPlace}
use Rattle.layout.specs.declared.Owner.{Owner}
use Rattle.counts.specs.Counts.{count_of}
use Rattle.places.specs.Places.{place_number, symbol_at, carrier_at, places_of, owns_at, index_of}
use Rattle.places.proofs.Numbers.{place-both, carrier-inside, symbol-inside, first-row}
use Rattle.places.proofs.Listing.{listed, some-carriers}
use Rattle.grid.specs.Writing.{sends, Room}
use Rattle.grid.proofs.Sending.{own-lt, other-lt}
use Rattle.subframe.specs.Elements.{element_for}
use Rattle.subframe.specs.Grid.{element_numbered}
use Rattle.subframe.proofs.Owned.{owned-element}
use Rattle.schedule.proofs.Some.{or_cases}

-- a port with a term is one of the grid's
pub sends-port : {P T : ℕ} {g : List ℕ} → Room P T g → (port_pair q : ℕ) → sends P port_pair q ≡ true → q < P
unfolding sends
sends-port {P = P} room port_pair q h =
    or_cases (eqb q (own_port P port_pair)) (eqb q (other_port P port_pair)) h
    (λ e. rw (eqb-true q (own_port P port_pair) e) (own-lt room port_pair))
    (λ e. rw (eqb-true q (other_port P port_pair) e) (other-lt room port_pair))

-- symbols that agree give the same element
pub placed-is :
    {P M : ℕ} → Occurs P M → (u : ℕ) (d d' : ℕ → Pair) → ((n : ℕ) → n < M → d n ≡ d' n) → (j q : ℕ) → j < M → q < P
    → placed P (j / 2 % 2) u d j q ≡ precoded P M u d' j q
placed-is {P = P} {M = M} c u d d' same j q l k = sym (by_place c u d j q l k) ∙ same-elements P M u d d' same j q

module _ (w : List ℕ) (p : Plan) (ok : check_of w ≡ accepted p) where
  abbrev T : ℕ
  T = places_of p.cell

  pub some-places : 0 < places_of p.cell
  some-places = omega (arith, first-row p.cell, some-carriers w p ok)

  pub place-lt : (e : ℕ) → e % places_of p.cell < places_of p.cell
  place-lt e = mod-lt e some-places

  pub port-lt : (e : ℕ) → e < p.cell.ports * places_of p.cell → e / places_of p.cell < p.cell.ports
  port-lt e l = (div-lt_iff_lt-mul some-places).1 l

  pub place_in : (e : ℕ) → GridPlace p.cell (symbol_at p.cell (e % T)) (carrier_at p.cell (e % T))
  place_in e = (symbol-inside p.cell (some-carriers w p ok) (e % T) (place-lt e), carrier-inside p.cell (some-carriers w p ok) (e % T))

  pub numbered :
      (payload : List ℕ) (o : Owner) (e : ℕ) → owns_at w p o (e % T) ≡ true
      → element_numbered w p payload e ≡ element_for w p payload o (e / T) (symbol_at p.cell (e % T)) (carrier_at p.cell (e % T))
  unfolding element_numbered owns_at
  numbered payload o e h = owned-element w p ok o payload (e / T) (symbol_at p.cell (e % T)) (carrier_at p.cell (e % T)) (place_in e) h

  -- the place of an element as a number, and its index
  pub place-number : (e : ℕ) → place_number p.cell (symbol_at p.cell (e % T)) (carrier_at p.cell (e % T)) ≡ e % T
  place-number e = place-both p.cell (e % T)

  pub index-lt : (o : Owner) (e : ℕ) → owns_at w p o (e % T) ≡ true → index_of w p o (e % T) < count_of w p o
  index-lt o e h = (listed w p ok o).below (e % T) (place-lt e) h
