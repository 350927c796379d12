-- The counts of the nine kinds. Assumes nothing.
use mathlib.Core.Path.{◌∙◌}
use native.Mathlib.Nat.{mul_comm}
use native.Mathlib.Omega.{arith}
use Rattle.plan.proofs.Counts.{units-most}
use Rattle.plan.proofs.Valid.{valid}
use Rattle.counts.proofs.KindWays.{owned-most, owned-few, nine}
use Rattle.counts.proofs.kind_counts.Goals as goal

pub overflow_mul-phich : goal.overflow_mul-phich
overflow_mul-phich c =
    omega (arith, c.units-phich.ensures, units-most c.args.p.cell (valid c.args.plan.now c.args.p c.requires).cell)

pub overflow_add-owned : goal.overflow_add-owned
overflow_add-owned c =
    omega (
      arith,
      owned-few c.args.plan.now c.args.p c.requires _ _ _ _ _ _ c.crs_count-crs.ensures c.sync_count-sync.ensures
          c.pbch_count-pbch.ensures c.units-phich.ensures c.users_count-users.ensures c.held_count-held.ensures,
    )

pub overflow_add-owned-2 : goal.overflow_add-owned-2
overflow_add-owned-2 c =
    omega (
      arith,
      owned-few c.args.plan.now c.args.p c.requires _ _ _ _ _ _ c.crs_count-crs.ensures c.sync_count-sync.ensures
          c.pbch_count-pbch.ensures c.units-phich.ensures c.users_count-users.ensures c.held_count-held.ensures,
    )

pub overflow_add-owned-3 : goal.overflow_add-owned-3
overflow_add-owned-3 c =
    omega (
      arith,
      owned-few c.args.plan.now c.args.p c.requires _ _ _ _ _ _ c.crs_count-crs.ensures c.sync_count-sync.ensures
          c.pbch_count-pbch.ensures c.units-phich.ensures c.users_count-users.ensures c.held_count-held.ensures,
    )

pub overflow_add-owned-4 : goal.overflow_add-owned-4
overflow_add-owned-4 c =
    omega (
      arith,
      owned-few c.args.plan.now c.args.p c.requires _ _ _ _ _ _ c.crs_count-crs.ensures c.sync_count-sync.ensures
          c.pbch_count-pbch.ensures c.units-phich.ensures c.users_count-users.ensures c.held_count-held.ensures,
    )

pub overflow_add-owned-5 : goal.overflow_add-owned-5
overflow_add-owned-5 c =
    omega (
      arith,
      owned-few c.args.plan.now c.args.p c.requires _ _ _ _ _ _ c.crs_count-crs.ensures c.sync_count-sync.ensures
          c.pbch_count-pbch.ensures c.units-phich.ensures c.users_count-users.ensures c.held_count-held.ensures,
    )

pub overflow_add-owned-6 : goal.overflow_add-owned-6
overflow_add-owned-6 c =
    omega (
      arith,
      owned-few c.args.plan.now c.args.p c.requires _ _ _ _ _ _ c.crs_count-crs.ensures c.sync_count-sync.ensures
          c.pbch_count-pbch.ensures c.units-phich.ensures c.users_count-users.ensures c.held_count-held.ensures,
    )

pub overflow_add-owned-7 : goal.overflow_add-owned-7
overflow_add-owned-7 c =
    omega (
      arith,
      owned-few c.args.plan.now c.args.p c.requires _ _ _ _ _ _ c.crs_count-crs.ensures c.sync_count-sync.ensures
          c.pbch_count-pbch.ensures c.units-phich.ensures c.users_count-users.ensures c.held_count-held.ensures,
    )

pub overflow_sub-idle : goal.overflow_sub-idle
overflow_sub-idle c =
    omega (
      arith,
      c.places.ensures ∙ mul_comm _ _,
      owned-most c.args.plan.now c.args.p c.requires _ _ _ _ _ _ c.crs_count-crs.ensures
          c.sync_count-sync.ensures c.pbch_count-pbch.ensures c.units-phich.ensures c.users_count-users.ensures c.held_count-held.ensures,
    )

pub returns : goal.returns
returns c =
    nine c.args.plan.now c.args.p c.requires _ _ _ _ _ _ c.crs_count-crs.ensures c.sync_count-sync.ensures
    c.pbch_count-pbch.ensures c.units-phich.ensures c.users_count-users.ensures c.held_count-held.ensures _ (c.places.ensures ∙ mul_comm _ _)
