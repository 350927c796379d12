-- The laws for callers: of a channel's symbols by its bits, and of the stream as it goes. Assumes nothing.
use mathlib.Core.Path.{◌≡◌, refl, sym, ap, ap₂, ◌∙◌}
use Prim.Native.Nat.{ℕ, zero, suc, ◌+◌, ◌-◌, ◌*◌, ◌/◌, ◌%◌, ◌^◌, ◌≤◌, ◌<◌}
use native.Mathlib.Nat.{zero-add}
use native.Mathlib.Omega.{arith}
use lib.Bits.{bit_xor, differ, xor_step}
use Rattle.base.specs.Digits.{dig}
use Rattle.base.specs.Pairs.{Small}
use Rattle.gold.specs.declared.Registers.{Registers}
use Rattle.gold.specs.Sequence.{c, binary, pair_at}
use Rattle.gold.specs.Steps.{after, output_of}
use Rattle.gold.proofs.Binary.{binary-same, binary-lt, binary-digit}
use Rattle.gold.proofs.Laws.{pair-after, pair-output, output-lt}
use Rattle.modulation.specs.Symbols.{Order, modulation_symbol}
use Rattle.modulation.proofs.Symbols.{symbol-injective, symbol-small}
use Rattle.codeword.specs.Codewords.{scrambled, data_symbol}
use Rattle.codeword.specs.Streams.{outputs}

-- ---- scrambled bits
pub scrambled-lt : (b x : ℕ → ℕ) (i : ℕ) → scrambled b x i < 2
unfolding scrambled
scrambled-lt b x i = omega arith

-- a bit comes back from its scrambled one
pub unscrambled : (b b' x : ℕ → ℕ) (i : ℕ) → b i < 2 → b' i < 2 → scrambled b x i ≡ scrambled b' x i → b i ≡ b' i
unfolding scrambled
unscrambled b b' x i h h' e = omega arith

-- ---- symbols by their bits
-- the same bits, the same symbol
pub symbols-same : (Q : ℕ) (b b' x : ℕ → ℕ) (j : ℕ) → ((i : ℕ) → i < Q * j + Q → b i ≡ b' i) → data_symbol Q b x j ≡ data_symbol Q b' x j
unfolding data_symbol scrambled
symbols-same Q b b' x j same =
    ap (λ (w : ℕ). modulation_symbol Q w)
    (binary-same (scrambled b x) (scrambled b' x) (Q * j) (Q * j) Q
    (λ i less. ap (λ (v : ℕ). (v + x (Q * j + i)) % 2) (same (Q * j + i) (omega arith))))

-- and from the symbol its bits
pub symbol-bits :
    (Q : ℕ) (b b' x : ℕ → ℕ) (j : ℕ) → ((i : ℕ) → b i < 2) → ((i : ℕ) → b' i < 2) → ((i : ℕ) → x i < 2) → data_symbol Q b x j ≡ data_symbol Q b' x j → (i : ℕ) → i < Q → b (Q * j + i)
    ≡ b' (Q * j + i)
unfolding data_symbol
symbol-bits Q b b' x j two two' twox e i less =
    let s = scrambled b x in
    let s' = scrambled b' x in
    let lt = scrambled-lt b x in
    let lt' = scrambled-lt b' x in
    let w : binary s (Q * j) Q ≡ binary s' (Q * j) Q =
    symbol-injective Q (binary s (Q * j) Q) (binary s' (Q * j) Q) (binary-lt s lt (Q * j) Q) (binary-lt s' lt' (Q * j) Q) e in
    let p : Q - suc i + suc i ≡ Q = omega arith in
    unscrambled b b' x (Q * j + i) (two (Q * j + i)) (two' (Q * j + i))
    (sym (binary-digit s lt (Q * j) Q i (Q - suc i) p)
    ∙ ap (λ (v : ℕ). dig v (Q - suc i)) w
    ∙ binary-digit s' lt' (Q * j) Q i (Q - suc i) p)

-- the levels of an order's symbols
pub symbol-within : (m q : ℕ) → q ≤ 2 * m → (b x : ℕ → ℕ) (j : ℕ) → Small (2 ^ m - 1) (data_symbol q b x j)
unfolding data_symbol
symbol-within m q l b x j = symbol-small m q (binary (scrambled b x) (q * j) q) l

pub order-symbol : (q : ℕ) → Order q → (b x : ℕ → ℕ) (j : ℕ) → Small 15 (data_symbol q b x j)
order-symbol q o b x j = symbol-within 4 q o.2 b x j

-- ---- the bits that a pair gives
pub outputs-lt : (r : Registers) (i : ℕ) → outputs r i < 2
unfolding outputs
outputs-lt r i = output-lt (after r i)

-- the pair that stands at c(k) gives c(k), c(k + 1), ..
pub output-of : (ci k i : ℕ) → outputs (pair_at ci k) i ≡ c ci (k + i)
unfolding outputs
output-of ci k i = ap output_of (pair-after ci k i) ∙ pair-output ci (k + i)

pub outputs-are : (ci k : ℕ) → outputs (pair_at ci k) ≡ (λ (i : ℕ). c ci (k + i))
outputs-are ci k = λ t i. output-of ci k i t

-- of a pair that stands at c(0)
pub outputs-start : (ci : ℕ) → outputs (pair_at ci 0) ≡ c ci
outputs-start ci = outputs-are ci 0 ∙ (λ i n. c ci (zero-add n i))

-- ---- the scrambled word
differ-sum : (a b : ℕ) → a < 2 → b < 2 → differ a b ≡ (a + b) % 2
differ-sum zero b h k = omega arith
differ-sum (suc zero) zero h k = omega arith
differ-sum (suc zero) (suc zero) h k = omega arith
differ-sum (suc zero) (suc (suc b)) h k = absurd (omega arith)
differ-sum (suc (suc a)) b h k = absurd (omega arith)

xor-more : (m n a b : ℕ) → a < 2 → b < 2 → bit_xor (m * 2 + a) (n * 2 + b) ≡ bit_xor m n * 2 + (a + b) % 2
xor-more m n a b h k =
    xor_step (m * 2 + a) (n * 2 + b)
    ∙ ap₂ (λ (u v : ℕ). u * 2 + v) (ap₂ bit_xor (half m a h) (half n b k)) (ap₂ differ (last m a h) (last n b k) ∙ differ-sum a b h k)
  where
    half : (m a : ℕ) → a < 2 → (m * 2 + a) / 2 ≡ m
    half m a h = omega arith

    last : (m a : ℕ) → a < 2 → (m * 2 + a) % 2 ≡ a
    last m a h = omega arith

-- the word of scrambled bits is the exclusive or of two words
pub word-scrambled : (b x : ℕ → ℕ) → ((i : ℕ) → b i < 2) → ((i : ℕ) → x i < 2) → (k n : ℕ) → binary (scrambled b x) k n ≡ bit_xor (binary b k n) (binary x k n)
unfolding binary scrambled
word-scrambled b x hb hx k zero = refl
word-scrambled b x hb hx k (suc n) =
    ap (λ (w : ℕ). w * 2 + (b (k + n) + x (k + n)) % 2) (word-scrambled b x hb hx k n)
    ∙ sym (xor-more (binary b k n) (binary x k n) (b (k + n)) (x (k + n)) (hb (k + n)) (hx (k + n)))
