-- For the inner contracts and loops only: which elements of the grid an owner sends, and one of several tests.
use Rattle.std.specs.Prelude.{ℕ, zero, suc, ◌+◌, ◌/◌, ◌%◌, Bool, false, ◌&&◌, ◌||◌, List, eqb}
use Rattle.plan.specs.declared.Plan.{Plan}
use Rattle.layout.specs.declared.Owner.{Owner}
use Rattle.layout.specs.declared.Owner.TheVariants.{Crs, Sync, Pbch, Pcfich, Phich, User as UserOf, Held, Idle}
use Rattle.places.specs.Places.{places_of, owns_at, index_of}
use Rattle.grid.specs.Writing.{sends}

-- one of f 0, .., f (n - 1) holds
unfoldable pub some_below : (ℕ → Bool) → ℕ → Bool
some_below f zero = false
some_below f (suc n) = f n || some_below f n

-- port q has a term at an owner's place t
unfoldable pub active : List ℕ → Plan → Owner → ℕ → ℕ → Bool
active w p (Crs r) t q = eqb q r
active w p (Sync m) t q = eqb q 0
active w p Pbch t q = sends p.cell.ports (index_of w p Pbch t / 2 % 2) q
active w p Pcfich t q = sends p.cell.ports (index_of w p Pcfich t / 2 % 2) q
active w p (Phich m) t q = sends p.cell.ports ((index_of w p (Phich m) t / 4 + m) % 2) q
active w p (UserOf i) t q = sends p.cell.ports (index_of w p (UserOf i) t / 2 % 2) q
active w p Held t q = false
active w p Idle t q = false

-- the elements of an owner on the ports with a term
unfoldable pub owner_sends : List ℕ → Plan → Owner → ℕ → Bool
owner_sends w p o e = owns_at w p o (e % places_of p.cell) && active w p o (e % places_of p.cell) (e / places_of p.cell)
