-- For the inner contracts and loops only: elements as numbers.
use Rattle.std.specs.Prelude.{ℕ, ◌+◌, ◌*◌, ◌/◌, ◌%◌, ◌^◌, ◌≤◌, ◌<◌, ◌≡◌, cond, ◌||◌, List, eqb, length, get_or}
use Rattle.base.specs.declared.Element.{Element}
use Rattle.grid.specs.Elements.{element_in}
use Rattle.grid.specs.Writing.{Written}

-- byte k of a number, lowest first
unfoldable pub digit : ℕ → ℕ → ℕ
digit v k = v / 256 ^ k % 256

-- the element of its three lowest bytes, and the one 24 bits on
unfoldable pub element_from : ℕ → Element
element_from v = record { byte = v % 256; i = v / 256 % 256; j = v / 65536 % 256 }

abbrev pub upper : ℕ → ℕ
upper v = v / 16777216

-- n bytes from `at` on are a number's lowest, and the others are kept
pub record Put (at n v : ℕ) (before after : List ℕ) : Type 0 where
  pub size : length after ≡ length before
  pub here : (k : ℕ) → k < n → get_or after (at + k) 0 ≡ digit v k
  pub early : (m : ℕ) → m < at → get_or after m 0 ≡ get_or before m 0
  pub late : (m : ℕ) → at + n ≤ m → get_or after m 0 ≡ get_or before m 0

-- the element at a byte is that of a number
pub record OnePut (at v : ℕ) (before after : List ℕ) : Type 0 where
  pub written : (e : ℕ) → at ≡ 3 * e → Written (eqb e) (λ (x : ℕ). element_from v) before after

-- and the element `gap` further is the upper one
pub record TwoPut (gap at v : ℕ) (before after : List ℕ) : Type 0 where
  pub written :
      (e : ℕ) → at ≡ 3 * e
      → Written (λ (x : ℕ). eqb e x || eqb (e + gap) x) (λ (x : ℕ). cond (eqb e x) (element_from v) (element_from (upper v))) before after

-- a number of two bytes that is read
pub record HalfRead (at : ℕ) (g : List ℕ) (v : ℕ) : Type 0 where
  pub low : get_or g at 0 < 256
  pub high : get_or g (at + 1) 0 < 256
  pub is : v ≡ get_or g at 0 + get_or g (at + 1) 0 * 256

-- a number that is read: its element is the grid's, and it has no other bits
pub record OneRead (at : ℕ) (g : List ℕ) (v : ℕ) : Type 0 where
  pub element : (e : ℕ) → at ≡ 3 * e → element_in g e ≡ element_from v
  pub few : v < 16777216

pub record TwoRead (gap at : ℕ) (g : List ℕ) (v : ℕ) : Type 0 where
  pub first : (e : ℕ) → at ≡ 3 * e → element_in g e ≡ element_from v
  pub second : (e : ℕ) → at ≡ 3 * e → element_in g (e + gap) ≡ element_from (upper v)
  pub few : v < 281474976710656

-- two elements on each of two ports
pub record PairPut (gap at across v w : ℕ) (before after : List ℕ) : Type 0 where
  pub size : length after ≡ length before
  pub middle : List ℕ
  pub own : TwoPut gap at v before middle
  pub other : TwoPut gap (at + across) w middle after
