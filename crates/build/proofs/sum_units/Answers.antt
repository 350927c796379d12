-- `build::sum_units` meets its contract: from the HIs' section. Assumes nothing.
use Rattle.build.proofs.Turns.{his-ready, heads-in, sums-made}
use Rattle.build.proofs.sum_units.Goals as goal

pub slice_bounds-quad_sums-count : goal.slice_bounds-quad_sums-count
slice_bounds-quad_sums-count c =
    (heads-in c.args.plan.now c.args.p c.args.payload.now c.requires.0 c.requires.1 c.pbch_bits.ensures c.section_bytes-start.ensures
    c.users_start-end.ensures).0

pub slice_bounds-quad_sums-start : goal.slice_bounds-quad_sums-start
slice_bounds-quad_sums-start c =
    (heads-in c.args.plan.now c.args.p c.args.payload.now c.requires.0 c.requires.1 c.pbch_bits.ensures c.section_bytes-start.ensures
    c.users_start-end.ensures).0

pub slice_bounds-quad_sums-end : goal.slice_bounds-quad_sums-end
slice_bounds-quad_sums-end c =
    (heads-in c.args.plan.now c.args.p c.args.payload.now c.requires.0 c.requires.1 c.pbch_bits.ensures c.section_bytes-start.ensures
    c.users_start-end.ensures).1

pub quad_sums-requires : goal.quad_sums-requires
quad_sums-requires c =
    (his-ready c.args.plan.now c.args.p c.args.payload.now c.requires.0 c.requires.1 c.spread_length-l.ensures, c.requires.2)

pub returns : goal.returns
returns c =
    sums-made c.args.plan.now c.args.p c.args.payload.now c.requires.0 c.requires.1 c.pbch_bits.ensures c.section_bytes-start.ensures
    c.users_start-end.ensures c.spread_length-l.ensures c.quad_sums.ensures
