-- `codeword::bits48` meets its contract: the first six of eight bytes, the last word, or one byte. Assumes nothing.
use native.Mathlib.Omega.{arith}
use Prim.Native.Nat.{◌*◌, ◌+◌}
use Rattle.codeword.proofs.Words.{word_fits, reads-eight, reads-last, reads-one}
use Rattle.codeword.proofs.bits48.Goals as goal

pub overflow_mul-result : goal.overflow_mul-result
overflow_mul-result c = let s = c.args in
    omega (arith, word_fits s.bits.now (8 * s.at) 32 _ c.bits32-a.ensures)

pub overflow_add-result : goal.overflow_add-result
overflow_add-result c = let s = c.args in
    omega
    (arith, word_fits s.bits.now (8 * s.at) 32 _ c.bits32-a.ensures, word_fits s.bits.now (8 * (s.at + 4)) 32 _ c.bits32-b.ensures)

pub returns-then-at-bits : goal.returns-then-at-bits
returns-then-at-bits c = let s = c.args in
    reads-eight s.bits.now s.at s.last _ _ c.bits32-a.ensures c.bits32-b.ensures

pub returns-then-at-bits-2 : goal.returns-then-at-bits-2
returns-then-at-bits-2 c = let s = c.args in
    reads-last s.bits.now s.at s.last (omega arith) (omega arith)

pub returns : goal.returns
returns c = let s = c.args in
    reads-one s.bits.now s.at s.last _ (omega arith) c.byte_at.ensures
