-- `crs::value` meets its contract. Assumes nothing.
use Prim.Native.Nat.{ℕ, ◌/◌, ◌%◌}
use Rattle.base.proofs.Fits.{level-held}
use mathlib.Core.Path.{◌≡◌, ap, ◌∙◌}
use native.Mathlib.Omega.{arith}
use lib.IntN.{pos}
use Rattle.base.specs.Signs.{flip}
use Rattle.crs.specs.Crs.{word_value}
use Rattle.base.proofs.Pairs.{pair-of}
use Rattle.crs.proofs.value.Goals as goal

pub returns : goal.returns
unfolding word_value
returns c = let w = c.args.word in
    let first : w / 2 % 2 ≡ w / 2 = omega (arith, c.requires) in
    pair-of (level-held (w / 2 % 2) c.level_of.ensures ∙ ap (λ (b : ℕ). flip b (pos 1)) first) (level-held (w % 2) c.level_of-2.ensures)
