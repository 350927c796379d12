-- For the inner contracts only: the counts of the kinds above the users, as constants. proofs/KindCounts.antt: they are the kinds' counts.
use Rattle.std.specs.Prelude.{if◌then◌else◌, ℕ, ◌+◌, ◌*◌, eqb}
use Rattle.plan.specs.declared.Cell.{Cell}
use Rattle.plan.specs.declared.Frame.{Frame}
use Rattle.layout.specs.Rules.{marked}

-- ports 0 and 1 have 2N reference signals in two symbols of each slot, ports 2 and 3 in one
unfoldable pub crs_elements : Cell → ℕ
crs_elements c = (if eqb c.ports 1 then 8 else if eqb c.ports 2 then 16 else 24) * c.blocks

unfoldable pub sync_elements : Frame → ℕ
sync_elements f = if marked f then 62 else 0

unfoldable pub pbch_elements : Cell → Frame → ℕ
pbch_elements c f = if eqb f.subframe 0 then (if eqb c.prefix 1 then 216 else 240) else 0

-- the places of absent ports' reference signals in PBCH's symbols: port 1's are in symbol 0 of the slot, with the extended prefix
-- also in symbol 3; ports 2's and 3's in symbol 1
unfoldable pub holes : Cell → ℕ
holes c = if eqb c.ports 1 then (if eqb c.prefix 1 then 48 else 36) else if eqb c.ports 2 then 24 else 0

-- ten at the edges of each mark
unfoldable pub held_elements : Cell → Frame → ℕ
held_elements c f = if eqb f.subframe 0 then 20 + holes c else if eqb f.subframe 5 then 20 else 0
