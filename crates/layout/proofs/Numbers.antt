-- Owners of a plan, those that have a place, have different numbers, so that a number names one owner and one kind of owners. Assumes
-- the plan check's answer.
use Rattle.std.specs.Prelude.{if◌then◌else◌, Ok as accepted}
use Prim.Native.Nat.{ℕ, ◌+◌, ◌-◌, ◌<◌}
use mathlib.Core.Path.{◌≡◌, refl, sym, ap, ◌∙◌}
use mathlib.Core.Bool.{Bool, true, ◌&&◌}
use mathlib.Core.List.{List}
use native.Mathlib.Omega.{arith}
use lib.Dec.{ltb}
use borrow.Author.Tests.{ltb-true, lt-ltb, le-ltb}
use Rattle.plan.specs.Check.{check_of}
use Rattle.plan.specs.Fields.{mapping_units}
use Rattle.plan.specs.CommandLists.{users_of}
use Rattle.plan.specs.declared.Plan.{Plan}
use Rattle.plan.proofs.Listed.{and_left}
use Rattle.plan.proofs.Valid.{valid}
use Rattle.plan.proofs.Counts.{units-most, users-most}
use Rattle.layout.specs.Rules.{crs, crs_of, phich}
use Rattle.layout.specs.Owners.{owner_number, user_rule, owns}
use Rattle.layout.specs.declared.Mark.TheVariants.{Primary, Secondary}
use Rattle.layout.specs.declared.Owner.{Owner}
use Rattle.layout.specs.declared.Owner.TheVariants.{Crs, Sync, Pbch, Pcfich, Phich, User as UserOf, Held, Idle}
use Rattle.layout.proofs.Few.{ports-most}
use Rattle.layout.proofs.Partition.{has-index}

-- the owner that has a number
abbrev numbered : ℕ → Owner
numbered n =
    if ltb n 16 then Crs n
    else if ltb n 17 then Sync Primary
    else if ltb n 18 then Sync Secondary
    else if ltb n 33 then Pbch
    else if ltb n 34 then Pcfich
    else if ltb n 128 then Phich (n - 64)
    else if ltb n 512 then UserOf (n - 256)
    else if ltb n 513 then Held
    else Idle

first_of : (a b d : Bool) → a && b && d ≡ true → a ≡ true
first_of a b d e = and_left a b (and_left (a && b) d e)

crs-back : (q : ℕ) → q < 16 → numbered q ≡ Crs q
crs-back q l = rw (lt-ltb q 16 l) refl

unit-back : (m : ℕ) → m < 64 → numbered (64 + m) ≡ Phich m
unit-back m l =
    let z : 64 + m - 64 ≡ m = omega arith in
    rw (
      le-ltb (64 + m) 16 (omega arith),
      le-ltb (64 + m) 17 (omega arith),
      le-ltb (64 + m) 18 (omega arith),
      le-ltb (64 + m) 33 (omega arith),
      le-ltb (64 + m) 34 (omega arith),
      lt-ltb (64 + m) 128 (omega arith),
      z,
    ) refl

user-back : (i : ℕ) → i < 256 → numbered (256 + i) ≡ UserOf i
user-back i l =
    let z : 256 + i - 256 ≡ i = omega arith in
    rw (
      le-ltb (256 + i) 16 (omega arith),
      le-ltb (256 + i) 17 (omega arith),
      le-ltb (256 + i) 18 (omega arith),
      le-ltb (256 + i) 33 (omega arith),
      le-ltb (256 + i) 34 (omega arith),
      le-ltb (256 + i) 128 (omega arith),
      lt-ltb (256 + i) 512 (omega arith),
      z,
    ) refl

module _ (w : List ℕ) (p : Plan) (ok : check_of w ≡ accepted p) where
  -- an owner that has a place is found by its number
  number-back : (o : Owner) (s k : ℕ) → owns w p o s k ≡ true → numbered (owner_number o) ≡ o
  unfolding owns crs phich user_rule
  number-back (Crs q) s k e =
      let l : q < p.cell.ports = ltb-true q p.cell.ports (and_left (ltb q p.cell.ports) (crs_of p.cell q s k) e) in
      crs-back q (omega (arith, ports-most w p ok))
  number-back (Sync Primary) s k e = refl
  number-back (Sync Secondary) s k e = refl
  number-back Pbch s k e = refl
  number-back Pcfich s k e = refl
  number-back (Phich m) s k e =
      unit-back m (omega (arith, ltb-true m (mapping_units p.cell) (first_of _ _ _ e), units-most p.cell (valid w p ok).cell))
  number-back (UserOf i) s k e =
      user-back i (omega (arith, has-index _ k (users_of w p) i (first_of _ _ _ e), (valid w p ok).users-count, users-most w p ok))
  number-back Held s k e = refl
  number-back Idle s k e = refl

  pub numbers-differ :
      (o other : Owner) (s k t l : ℕ) → owns w p o s k ≡ true → owns w p other t l ≡ true → owner_number o ≡ owner_number other → o ≡ other
  numbers-differ o other s k t l e e' same = sym (number-back o s k e) ∙ ap numbered same ∙ number-back other t l e'
