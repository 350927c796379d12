-- `bitset::ones` meets its contract: some bits, or all. Assumes nothing.
use mathlib.Core.Path.{ap, ◌∙◌}
use Rattle.bitset.specs.Sets.{ones_of}
use Rattle.bitset.proofs.Sets.{ones-part, ones-all}
use Rattle.bitset.proofs.ones.Goals as goal

pub returns-then-k-lt64 : goal.returns-then-k-lt64
returns-then-k-lt64 c = ones-part _ c.if-k-lt64.true ∙ ap ones_of c.saturating_sub-k.ensures

pub returns-else-k-lt64 : goal.returns-else-k-lt64
returns-else-k-lt64 c = ones-all _ c.if-k-lt64.false ∙ ap ones_of c.saturating_sub-k.ensures
