-- `gridread::payload_in` lends a part of the buffer: no plan has a longer payload. Assumes nothing.
use Rattle.gridread.proofs.Longest.{payload-part-length}
use Rattle.gridread.proofs.payload_in.Goals as goal

pub slice_bounds-payload-end : goal.slice_bounds-payload-end
slice_bounds-payload-end c = payload-part-length _ c.payload_length.result c.payload_length.ensures _ c.in_ok-n.was c.args.buffer.now c.requires
