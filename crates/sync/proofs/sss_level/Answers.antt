-- `sync::sss_level` meets its contract: the level of the sign's bit. Assumes nothing.
use Prim.Native.Nat.{ℕ, ◌%◌}
use native.Mathlib.Omega.{arith}
use mathlib.Core.Path.{◌≡◌, ap, ◌∙◌}
use lib.IntN.{pos}
use Rattle.base.specs.Signs.{flip}
use Rattle.base.proofs.Fits.{level-held}
use Rattle.base.specs.Digits.{dig}
use Rattle.sync.specs.Inner.{bit_in, level_in}
use Rattle.sync.proofs.sss_level.Goals as goal

pub returns : goal.returns
unfolding level_in bit_in dig
returns c = let b = c.sign_bit.result in
    let bit : b % 2 ≡ bit_in c.args.s c.args.i = omega (arith, c.sign_bit.ensures) in
    level-held (b % 2) c.level_of.ensures ∙ ap (λ (x : ℕ). flip x (pos 1)) bit
