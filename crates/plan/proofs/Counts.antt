-- For the crates above: the ranges of an accepted cell, and how many HIs and USERs an accepted plan has at most. Assumes nothing.
use Prim.Native.Nat.{ℕ, ◌+◌, ◌*◌, ◌≤◌, ◌<◌}
use mathlib.Core.Path.{◌≡◌}
use mathlib.Core.Bool.{Bool, true, false, cond}
use mathlib.Core.List.{List}
use native.Mathlib.Nat.{mul-le-mul}
use native.Mathlib.Omega.{arith}
use lib.Dec.{leb, leb→le, eqb}
use lib.ListN.{length}
use Rattle.std.specs.declared.result.Result.TheVariants.{Ok as accepted}
use Rattle.plan.specs.Lists.{Every, Apart}
use Rattle.plan.specs.Fields.{widths, port_counts, sixth_counts, mapping_units, phich_groups, sequences_of}
use Rattle.plan.specs.Check.{check_of}
use Rattle.plan.specs.CommandLists.{his_of, users_of}
use Rattle.plan.specs.Valid.{CellIn, HiIn, UserIn, OtherPair, Disjoint}
use Rattle.plan.specs.declared.Cell.{Cell}
use Rattle.plan.specs.declared.Hi.{Hi}
use Rattle.plan.specs.declared.User.{User}
use Rattle.plan.specs.declared.Plan.{Plan}
use Rattle.plan.proofs.OneOf.{among-holds}
use Rattle.plan.proofs.Listed.{choose, every-imp, apart-imp}
use Rattle.plan.proofs.Few.{Keys, few}
use Rattle.plan.proofs.Valid.{valid}

-- ---- ranges of a cell
module _ (c : Cell) (h : CellIn c) where
  pub blocks-least : 6 ≤ c.blocks
  blocks-least = leb→le 6 c.blocks (among-holds (λ (n : ℕ). leb 6 n) widths c.blocks tt h.blocks)

  pub blocks-most : c.blocks ≤ 100
  blocks-most = leb→le c.blocks 100 (among-holds (λ (n : ℕ). leb n 100) widths c.blocks tt h.blocks)

  pub ports-least : 1 ≤ c.ports
  ports-least = leb→le 1 c.ports (among-holds (λ (n : ℕ). leb 1 n) port_counts c.ports tt h.ports)

  pub ports-most : c.ports ≤ 4
  ports-most = leb→le c.ports 4 (among-holds (λ (n : ℕ). leb n 4) port_counts c.ports tt h.ports)

  pub sixths-least : 1 ≤ c.sixths
  sixths-least = leb→le 1 c.sixths (among-holds (λ (n : ℕ). leb 1 n) sixth_counts c.sixths tt h.sixths)

  pub sixths-most : c.sixths ≤ 12
  sixths-most = leb→le c.sixths 12 (among-holds (λ (n : ℕ). leb n 12) sixth_counts c.sixths tt h.sixths)

  pub units-most : mapping_units c ≤ 25
  unfolding mapping_units
  units-most =
      let product : c.sixths * c.blocks ≤ 12 * 100 = mul-le-mul sixths-most blocks-most in
      omega arith

  pub units-least : 1 ≤ mapping_units c
  unfolding mapping_units
  units-least =
      let product : 1 * 6 ≤ c.sixths * c.blocks = mul-le-mul sixths-least blocks-least in
      omega arith

  pub groups-most : phich_groups c ≤ 50
  unfolding phich_groups
  groups-most = choose (λ (n : ℕ). n ≤ 50) (eqb c.prefix 1) (2 * mapping_units c) (mapping_units c) (λ t. omega (arith, units-most)) (λ t. omega (arith, units-most))

  pub sequences-most : sequences_of c ≤ 8
  unfolding sequences_of
  sequences-most = choose (λ (n : ℕ). n ≤ 8) (eqb c.prefix 1) 4 8 (λ t. omega arith) (λ t. omega arith)

  -- the pairs (group, sequence)
  pub pairs-most : phich_groups c * sequences_of c ≤ 200
  unfolding phich_groups sequences_of
  pairs-most = by (eqb c.prefix 1)
    where
      by : (t : Bool) → cond t (2 * mapping_units c) (mapping_units c) * cond t 4 8 ≤ 200
      by true = omega (arith, units-most)
      by false = omega (arith, units-most)

-- ---- different pairs have different numbers group x q + sequence, where q is 4 or 8
abbrev numbered : ℕ → Hi → ℕ
numbered q h = h.group * q + h.sequence

record Numbers (q : ℕ) : Type 0 where
  below : (g : ℕ) (h : Hi) → h.group < g → h.sequence < q → numbered q h < g * q
  other : (h e : Hi) → h.sequence < q → e.sequence < q → OtherPair h e → Keys (numbered q) h e

numbers-4 : Numbers 4
numbers-4 =
    record {
      below = λ g h l k. omega arith;
      other = λ h e l k d z. d (omega arith) (omega arith);
    }

numbers-8 : Numbers 8
numbers-8 =
    record {
      below = λ g h l k. omega arith;
      other = λ h e l k d z. d (omega arith) (omega arith);
    }

numbers : (c : Cell) → Numbers (sequences_of c)
unfolding sequences_of
numbers c = choose Numbers (eqb c.prefix 1) 4 8 (λ t. numbers-4) (λ t. numbers-8)

-- different users have different first blocks
pub few-users : (c : Cell) (us : List User) → Every (UserIn c) us → Apart Disjoint us → length us ≤ c.blocks
few-users c us all apart =
    few (λ (u : User). u.first) c.blocks us
    (every-imp (UserIn c) (λ (u : User). u.first < c.blocks) (λ u i. omega (arith, i.some, i.last)) us all)
    (apart-imp (UserIn c) Disjoint (Keys (λ (u : User). u.first)) (λ u t i j d z. d.blocks u.first (omega (arith, i.some)) (omega (arith, j.some))) us all apart)

module _ (w : List ℕ) (p : Plan) (r : check_of w ≡ accepted p) where
  pub his-few : p.his.count ≤ phich_groups p.cell * sequences_of p.cell
  his-few =
      let v = valid w p r in
      let q = sequences_of p.cell in
      let all : Every (λ (h : Hi). numbered q h < phich_groups p.cell * q) (his_of w p) =
      every-imp (HiIn p.cell) (λ (h : Hi). numbered q h < phich_groups p.cell * q) (λ h i. (numbers p.cell).below (phich_groups p.cell) h i.group i.sequence) (his_of w p) v.his in
      let apart : Apart (Keys (numbered q)) (his_of w p) =
      apart-imp (HiIn p.cell) OtherPair (Keys (numbered q)) (λ h e i j d. (numbers p.cell).other h e i.sequence j.sequence d) (his_of w p) v.his v.pairs in
      omega (arith, few (numbered q) (phich_groups p.cell * q) (his_of w p) all apart, v.his-count)

  pub his-most : p.his.count ≤ 200
  his-most = omega (arith, his-few, pairs-most p.cell (valid w p r).cell)

  pub users-few : p.users.count ≤ p.cell.blocks
  users-few =
      let v = valid w p r in
      omega (arith, few-users p.cell (users_of w p) v.users v.apart, v.users-count)

  pub users-most : p.users.count ≤ 100
  users-most = omega (arith, users-few, blocks-most p.cell (valid w p r).cell)
