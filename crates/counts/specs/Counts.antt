-- What the promises cite: how many places each owner has, and each kind of owner. w is a plan's bytes, p the plan that the plan check
-- answers with.
use Rattle.std.specs.Prelude.{if◌then◌else◌, ℕ, List, eqb}
use Rattle.plan.specs.declared.Plan.{Plan}
use Rattle.base.specs.Choice.{indicator}
use Rattle.layout.specs.Owners.{symbols, carriers, owns, owners}
use Rattle.layout.specs.declared.Mark.TheVariants.{Primary, Secondary}
use Rattle.layout.specs.declared.Owner.{Owner}
use Rattle.layout.specs.declared.Owner.TheVariants.{Crs, Sync, Pbch, Pcfich, Phich, User as UserOf, Held, Idle}
use Rattle.base.specs.Sums.{sum_to, sum_of}

-- document 01's element count, a user's G: "its element count (a user's G) is the number of its places, ports not multiplied": the
-- places (s, k), s < S and k < 12N, at which the owner's rule holds
unfoldable pub count_of : List ℕ → Plan → Owner → ℕ
count_of w p o = sum_to (symbols p.cell) (λ s. sum_to (carriers p.cell) (λ k. indicator (owns w p o s k)))

-- the lines of document 01's gridcount: 0 CRS, 1 PSS, 2 SSS, 3 PBCH, 4 PCFICH, 5 PHICH, 6 PDSCH, 7 held, 8 idle
abbrev pub kind_of : Owner → ℕ
kind_of (Crs q) = 0
kind_of (Sync Primary) = 1
kind_of (Sync Secondary) = 2
kind_of Pbch = 3
kind_of Pcfich = 4
kind_of (Phich m) = 5
kind_of (UserOf i) = 6
kind_of Held = 7
kind_of Idle = 8

abbrev pub kinds : ℕ
kinds = 9

-- "one line per owner kind, name and element count": the counts of the kind's owners together
unfoldable pub kind_count : List ℕ → Plan → ℕ → ℕ
kind_count w p j = sum_of (owners w p) (λ o. if eqb (kind_of o) j then count_of w p o else 0)
