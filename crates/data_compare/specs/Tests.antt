-- For the inner contracts and loops only: the tests of elements as numbers, one or two to a number, and what they tell.
use Rattle.std.specs.Prelude.{ℕ, ◌-◌, ◌/◌, ◌%◌, ◌^◌, ◌<◌, ◌≡◌, true}
use Rattle.std.specs.Int.Bits.{bit_and, bit_or, bit_xor}
use Rattle.base.specs.declared.Element.{Element}
use Rattle.base.specs.Bytes.{element_of, pair_of}
use Rattle.modulation.specs.Symbols.{Order}
use Rattle.modulation.specs.Marks.{is_symbol}
use Rattle.constellation.specs.Entries.{three_bytes}
use Rattle.constellation.specs.Pairs.{joint_of, partners_of}
use Rattle.data_compare.specs.declared.Form.{Form}
use Rattle.data_compare.specs.declared.Sums.{Sums}

-- r is 0 just when A holds at 0, 1, .., n - 1
pub record Tells (r n : ℕ) (A : ℕ → Type 0) : Type 0 where
  pub right : r ≡ 0 → (i : ℕ) → i < n → A i
  pub none : ((i : ℕ) → i < n → A i) → r ≡ 0

-- the element is its own levels in the unit whose byte is b, and some q bits have these levels
pub record Own (q b : ℕ) (e : Element) : Type 0 where
  pub levels : e ≡ element_of b (pair_of e)
  pub known : is_symbol q (pair_of e) ≡ true

-- THE FORM of the elements of q bits in a unit whose byte is b, twice: bits q / 2 to 7 of a level are alike, bit 0 is 1
abbrev pub twice : ℕ → ℕ
twice x = joint_of x x

pub record FormOf (q b : ℕ) (f : Form) : Type 0 where
  pub order : Order q
  pub small : b < 256
  pub same : f.same ≡ twice (three_bytes 0 (128 - 2 ^ (q / 2)) (128 - 2 ^ (q / 2)))
  pub fixed : f.fixed ≡ twice (three_bytes b 1 1)
  pub fixes : f.fixes ≡ twice (three_bytes 255 1 1)

-- the bits in which two elements are not of a form
abbrev pub wrong_of : Form → ℕ → ℕ
wrong_of f x = bit_or (bit_and (bit_xor x (x / 2)) f.same) (bit_and (bit_xor x f.fixed) f.fixes)

-- sums of pairs, with one pair more, and what they tell
abbrev pub no_sums : Sums
no_sums = record { fixed = 0; same = 0; bad = 0 }

abbrev pub sums_with : Form → Sums → ℕ → ℕ → Sums
sums_with f s x y =
    record {
      fixed = bit_or s.fixed (bit_xor x f.fixed);
      same = bit_or s.same (bit_xor x (x / 2));
      bad = bit_or s.bad (bit_xor y (partners_of (x % 16777216) (x / 16777216)));
    }

abbrev pub told_by : Form → Sums → ℕ
told_by f s = bit_or (bit_or s.bad (bit_and s.same f.same)) (bit_and s.fixed f.fixes)
