-- `sync::sign_bit` meets its contract. Assumes nothing.
use Prim.Native.Nat.{ℕ, ◌/◌, ◌%◌, ◌^◌}
use mathlib.Core.Path.{ap, ◌∙◌}
use Rattle.sync.proofs.Signals.{bit-even, bit-odd}
use Rattle.sync.proofs.sign_bit.Goals as goal
use Rattle.sync.proofs.sign_bit.Goals.{then-i-eq0, else-i-eq0}

pub returns : goal.returns
returns c =
    elim c.if-i-eq0.branch [
      | then-i-eq0 w ↦ ap (λ (x : ℕ). x / 2 ^ (c.args.i / 2) % 2) w.w-is ∙ bit-even c.args.s c.args.i w.if-i-eq0.true
      | else-i-eq0 w ↦ ap (λ (x : ℕ). x / 2 ^ (c.args.i / 2) % 2) w.w-is ∙ bit-odd c.args.s c.args.i w.if-i-eq0.false
    ]
