-- `plan::shared_by` meets its contract: what each cause names. Assumes nothing.
use borrow.Enum.Refused.{opened}
use mathlib.Core.Path.{refl, sym, ap}
use mathlib.Core.List.{[], ◌∷◌}
use Rattle.plan.specs.Finding.{shared_by}
use Rattle.plan.specs.declared.Shared.TheVariants.{Nothing}
use Rattle.plan.proofs.CauseLaws.{cause-among}
use Rattle.plan.proofs.shared_by.Goals as goal

pub returns-in-PairUsed : goal.returns-in-PairUsed
returns-in-PairUsed c = ap shared_by (sym c.in-PairUsed.is)

pub returns-in-RntiUsed : goal.returns-in-RntiUsed
returns-in-RntiUsed c = ap shared_by (sym c.in-RntiUsed.is)

pub returns-in-BlockUsed : goal.returns-in-BlockUsed
returns-in-BlockUsed c = ap shared_by (sym c.in-BlockUsed.is)

pub returns-in_default : goal.returns-in_default
returns-in_default c = cause-among shared_by c.args.c Nothing (0 ∷ 1 ∷ 2 ∷ 3 ∷ 4 ∷ 5 ∷ 6 ∷ 7 ∷ 8 ∷ 9 ∷ 10 ∷ 11 ∷ 12 ∷ 13 ∷ 14 ∷ 15 ∷ 16 ∷ 18 ∷ 19 ∷ 20 ∷ 21 ∷ [])
    (refl, (refl, (refl, (refl, (refl, (refl, (refl, (refl, (refl, (refl, (refl, (refl, (refl, (refl, (refl, (refl, (refl, (refl, (refl, (refl, (refl, tt)))))))))))))))))))))
    (opened c.in_default.in_default-own.keys4)
