-- `schedule::section_of` meets its contract: a case for each channel. Assumes nothing.
use mathlib.Core.Path.{sym, ap, ◌∙◌}
use Prim.Native.Nat.{ℕ, ◌+◌}
use Rattle.payload.proofs.Lengths.{bits_are}
use Rattle.payload.specs.Sections.{section_bytes}
use Rattle.counts.proofs.Shapes.{shape-in}
use Rattle.schedule.specs.Schedule.{section_of}
use Rattle.schedule.specs.declared.Section.{Section}
use Rattle.schedule.proofs.section_of.Goals as goal

pub user_bits-requires : goal.user_bits-requires
user_bits-requires c = shape-in c.args.p.cell c.args.p.frame _ c.requires.0

pub returns-in-User : goal.returns-in-User
unfolding section_of
returns-in-User c =
    ap {B = Section} (λ (n : ℕ). record { start = c.args.start; end = c.args.start + n })
    (c.section_bytes-in-User.ensures ∙ ap section_bytes (bits_are c.args.p.cell c.args.p.frame _ _ _ c.requires.0 c.user_bits.ensures))
    ∙ sym (ap (section_of c.args.p c.args.start) c.in-User.is)
