-- `pdcch_compare::two_pairs` meets its contract: the sums of one pair, and of both. Assumes nothing.
use native.Mathlib.Omega.{arith}
use Rattle.walk.proofs.Addresses.{pairs-fit}
use Rattle.pdcch_compare.proofs.Pairs.{first_fits, second_fits, two-seen}
use Rattle.pdcch_compare.proofs.two_pairs.Goals as goal

pub of-p-requires : goal.of-p-requires
of-p-requires c = pairs-fit c.requires

pub pair_at-x-requires : goal.pair_at-x-requires
pair_at-x-requires c =
    (first_fits c.args.f c.requires c.of-p.ensures c.default-none.ensures.0 c.default-none.ensures.1.0 c.default-none.ensures.1.1).0

pub overflow_add-at : goal.overflow_add-at
overflow_add-at c =
    omega (arith, first_fits c.args.f c.requires c.of-p.ensures c.default-none.ensures.0 c.default-none.ensures.1.0 c.default-none.ensures.1.1)

pub pair_at-y-requires : goal.pair_at-y-requires
pair_at-y-requires c =
    (first_fits c.args.f c.requires c.of-p.ensures c.default-none.ensures.0 c.default-none.ensures.1.0 c.default-none.ensures.1.1).1

pub pair_at-z-requires : goal.pair_at-z-requires
pair_at-z-requires c =
    (second_fits c.args.f c.requires c.of-p.ensures c.default-none.ensures.0 c.default-none.ensures.1.0 c.default-none.ensures.1.1 c.pair_at-x.ensures c.pair_at-y.ensures c.with_pair-one.ensures).0

pub overflow_add-next : goal.overflow_add-next
overflow_add-next c =
    let fits =
    second_fits c.args.f c.requires c.of-p.ensures c.default-none.ensures.0 c.default-none.ensures.1.0 c.default-none.ensures.1.1 c.pair_at-x.ensures c.pair_at-y.ensures
    c.with_pair-one.ensures in
    omega (arith, fits)

pub pair_at-w-requires : goal.pair_at-w-requires
pair_at-w-requires c =
    (second_fits c.args.f c.requires c.of-p.ensures c.default-none.ensures.0 c.default-none.ensures.1.0 c.default-none.ensures.1.1 c.pair_at-x.ensures c.pair_at-y.ensures c.with_pair-one.ensures).1

pub returns : goal.returns
returns c =
    two-seen c.args.f c.requires c.of-p.ensures c.default-none.ensures.0 c.default-none.ensures.1.0 c.default-none.ensures.1.1 c.pair_at-x.ensures c.pair_at-y.ensures c.with_pair-one.ensures
    c.pair_at-z.ensures c.pair_at-w.ensures c.with_pair.ensures c.told.ensures
