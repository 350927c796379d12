-- `gridbuild::grid_in` lends a part of the buffer: no plan's grid is longer. Assumes nothing.
use Rattle.gridbuild.proofs.Largest.{grid-part-length}
use Rattle.gridbuild.proofs.grid_in.Goals as goal

pub slice_bounds-grid-end : goal.slice_bounds-grid-end
slice_bounds-grid-end c = grid-part-length _ c.grid_length.result c.grid_length.ensures _ c.in_ok-n.was c.args.buffer.now c.requires
