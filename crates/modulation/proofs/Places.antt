-- The even and the odd places of a list, and the two woven together again. Assumes nothing.
use Prim.Native.Nat.{ℕ, ◌+◌, ◌/◌, ◌≤◌}
use mathlib.Core.Path.{◌≡◌, refl, ap, ◌∙◌}
use mathlib.Core.List.{List, [], ◌∷◌}
use native.Mathlib.Omega.{arith}
use lib.ListN.{length}
use Rattle.modulation.specs.Symbols.{evens, odds}
use Rattle.modulation.specs.Demapping.{woven}
use Rattle.modulation.proofs.Levels.{Bits}

pub evens-cons : (b : ℕ) (bs : List ℕ) → evens (b ∷ bs) ≡ b ∷ odds bs
unfolding evens odds
evens-cons b [] = refl
evens-cons b (c ∷ cs) = refl

pub evens-bits : (bs : List ℕ) → Bits bs → Bits (evens bs)
unfolding evens Bits
evens-bits [] ok = tt
evens-bits (a ∷ []) ok = (ok.0, tt)
evens-bits (a ∷ b ∷ bs) ok = (ok.0, evens-bits bs ok.1.1)

pub odds-bits : (bs : List ℕ) → Bits bs → Bits (odds bs)
unfolding odds Bits
odds-bits [] ok = tt
odds-bits (b ∷ bs) ok = evens-bits bs ok.1

pub evens-length : (bs : List ℕ) → length (evens bs) ≡ (length bs + 1) / 2
unfolding evens
evens-length [] = omega arith
evens-length (a ∷ []) = omega arith
evens-length (a ∷ b ∷ bs) = omega (arith, evens-length bs)

pub odds-length : (bs : List ℕ) → length (odds bs) ≡ length bs / 2
unfolding odds
odds-length [] = omega arith
odds-length (b ∷ bs) = omega (arith, evens-length bs)

-- apart and together
pub rejoined : (bs : List ℕ) → woven (evens bs) (odds bs) ≡ bs
unfolding evens odds woven
rejoined [] = refl
rejoined (a ∷ []) = refl
rejoined (a ∷ b ∷ bs) =
    ap (λ (ys : List ℕ). woven (a ∷ evens bs) ys) (evens-cons b bs) ∙ ap (λ (xs : List ℕ). a ∷ b ∷ xs) (rejoined bs)

-- together and apart, where the first list is as long as the second or longer by one
pub record Apart (xs ys : List ℕ) : Type 0 where
  pub even : evens (woven xs ys) ≡ xs
  pub odd : odds (woven xs ys) ≡ ys
  pub count : length (woven xs ys) ≡ length xs + length ys

pub apart : (xs ys : List ℕ) → length ys ≤ length xs → length xs ≤ length ys + 1 → Apart xs ys
unfolding evens odds woven
apart [] [] h k = record { even = refl; odd = refl; count = omega arith }
apart [] (y ∷ ys) h k = absurd (omega arith)
apart (x ∷ []) [] h k = record { even = refl; odd = refl; count = omega arith }
apart (x ∷ z ∷ xs) [] h k = absurd (omega arith)
apart (x ∷ xs) (y ∷ ys) h k =
    let r = apart xs ys (omega arith) (omega arith) in
    record {
      even = ap (λ (l : List ℕ). x ∷ l) r.even;
      odd = evens-cons y (woven xs ys) ∙ ap (λ (l : List ℕ). y ∷ l) r.odd;
      count = omega (arith, r.count);
    }

pub woven-bits : (xs ys : List ℕ) → Bits xs → Bits ys → Bits (woven xs ys)
unfolding woven Bits
woven-bits [] ys f g = tt
woven-bits (x ∷ xs) [] f g = (f.0, tt)
woven-bits (x ∷ xs) (y ∷ ys) f g = (f.0, (g.0, woven-bits xs ys f.1 g.1))
