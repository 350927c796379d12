-- For the inner contracts and loops only: two elements as one number, and a pair of places on its two ports as two numbers.
use Rattle.std.specs.Prelude.{ℕ, ◌+◌, ◌*◌, ◌%◌, ◌≤◌, ◌<◌, ◌≡◌, nat_abs}
use Rattle.std.specs.Int.Bits.{bit_xor}
use Rattle.base.specs.declared.Pair.{Pair}
use Rattle.precoding.specs.Places.{own_port, other_port, on_port}
use Rattle.element_pairs.specs.Numbers.{element_from, upper}

abbrev pub joint_of : ℕ → ℕ → ℕ
joint_of a b = a + b * 16777216

-- 254 in byte 1, I of the first element, and in byte 5, J of the second: minus an odd level has all bits but the lowest exchanged
abbrev pub minus_bits : ℕ
minus_bits = 279275953520128

abbrev pub partners_of : ℕ → ℕ → ℕ
partners_of a b = bit_xor (joint_of b a) minus_bits

-- levels that a byte holds, and so does minus each; both odd
pub record OddLevels (d : Pair) : Type 0 where
  pub small-re : nat_abs d.re ≤ 127
  pub small-im : nat_abs d.im ≤ 127
  pub odd-re : nat_abs d.re % 2 ≡ 1
  pub odd-im : nat_abs d.im % 2 ≡ 1

-- the elements of two places with the symbols d and e: v on the own port, w on the other, and neither has other bits
pub record PairValues (P port_pair unit : ℕ) (d e : Pair) (v w : ℕ) : Type 0 where
  pub own_first : on_port P port_pair unit 0 d e (own_port P port_pair) ≡ element_from v
  pub own-second : on_port P port_pair unit 1 e d (own_port P port_pair) ≡ element_from (upper v)
  pub other-first : on_port P port_pair unit 0 d e (other_port P port_pair) ≡ element_from w
  pub other-second : on_port P port_pair unit 1 e d (other_port P port_pair) ≡ element_from (upper w)
  pub own-few : v < 281474976710656
  pub other-few : w < 281474976710656
