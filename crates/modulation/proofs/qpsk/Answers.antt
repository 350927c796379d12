-- `modulation::qpsk` meets its contract: the recursion of levels gives each bit's level. Assumes nothing.
use Prim.Native.Nat.{ℕ, ◌/◌, ◌%◌}
use mathlib.Core.Path.{◌≡◌, ap, ◌∙◌}
use native.Mathlib.Omega.{arith}
use lib.IntN.{pos}
use Rattle.base.specs.Signs.{flip}
use Rattle.base.specs.Digits.{dig}
use Rattle.base.proofs.Fits.{level-held}
use Rattle.base.proofs.Pairs.{pair-of}
use Rattle.modulation.specs.Symbols.{bits_of, evens, odds, level, modulation_symbol}
use Rattle.modulation.proofs.qpsk.Goals as goal

pub returns : goal.returns
unfolding modulation_symbol bits_of evens odds level dig
returns c = let w = c.args.w in
    let low : w % 2 ≡ w / 1 % 2 = omega arith in
    pair-of (level-held (w / 2 % 2) c.level_of.ensures) (level-held (w % 2) c.level_of-2.ensures ∙ ap (λ (b : ℕ). flip b (pos 1)) low)
