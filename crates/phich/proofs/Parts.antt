-- One HI's part at a place: by its group's places, as a flipped wave, and that it is at most 1 either way. Assumes nothing.
use Rattle.std.proofs.Common.{◌≡◌, ℕ, zero, suc, ◌+◌, ◌-◌, ◌*◌, ◌/◌, ◌%◌, ◌<◌, ◌≤◌, Bool, true, false, cond, ◌&&◌, T, eqb, ltb}
use Rattle.std.proofs.Common.{leb, List, [], ◌∷◌, get_or, nat_abs, sym, refl, ap, ◌∙◌, subst, ap₂, arith, ltb→lt, leb→le, le-ltb, lt-ltb, eq-eqb, ne_eqb, le-leb}
use borrow.Author.Tests.{lt-leb}
use lib.Ieee.Fits.{and_l, and_r}
use Rattle.base.specs.declared.Pair.{Pair}
use Rattle.base.specs.Pairs.{nil, flipped, Small}
use Rattle.base.proofs.Computed.{every, every-at}
use Rattle.base.proofs.Fits.{abs-add, abs-minus}
use Rattle.base.proofs.Pairs.{flipped-nil, flipped-small}
use Rattle.phich.specs.declared.SignPair.{SignPair}
use Rattle.plan.specs.declared.Hi.{Hi}
use Rattle.phich.specs.Spreading.{Length, «±0», normal, extended, sequences, sign_at, plain_chip, chip_at}
use Rattle.phich.specs.Loops.{Sequence}
use Rattle.phich.specs.Units.{first_place, has, chip_number, part_at}
use Rattle.phich.proofs.Lengths.{chip-mod, place-mod}

-- ---- by the group's places
has-not : (l : ℕ) (c : ℕ → ℕ) (h : Hi) (b i : ℕ) → has l h i ≡ false → part_at l c h b i ≡ nil
unfolding part_at
has-not l c h b i e = ap (λ (t : Bool). cond t (chip_at l c h.sequence b (chip_number l h i)) nil) e

has-so : (l : ℕ) (c : ℕ → ℕ) (h : Hi) (b i : ℕ) → has l h i ≡ true → part_at l c h b i ≡ chip_at l c h.sequence b (chip_number l h i)
unfolding part_at
has-so l c h b i e = ap (λ (t : Bool). cond t (chip_at l c h.sequence b (chip_number l h i)) nil) e

module _ (l : ℕ) (c : ℕ → ℕ) (h : Hi) (b i : ℕ) where
  pub part-below : i % 4 < first_place l h → part_at l c h b i ≡ nil
  unfolding has
  part-below k = has-not l c h b i (ap (λ (t : Bool). t && ltb (i % 4) (first_place l h + l)) (lt-leb (first_place l h) (i % 4) k))

  pub part-above : first_place l h ≤ i % 4 → l ≤ i % 4 - first_place l h → part_at l c h b i ≡ nil
  unfolding has
  part-above j k = has-not l c h b i (ap₂ (λ (t u : Bool). t && u) (le-leb (first_place l h) (i % 4) j) (le-ltb (i % 4) (first_place l h + l) (omega arith)))

  pub part_in : first_place l h ≤ i % 4 → i % 4 - first_place l h < l → part_at l c h b i ≡ flipped (c (chip_number l h i)) (flipped b (plain_chip (sign_at l h.sequence (i % 4 - first_place l h))))
  unfolding has chip_at
  part_in j k =
      has-so l c h b i (ap₂ (λ (t u : Bool). t && u) (le-leb (first_place l h) (i % 4) j) (lt-ltb (i % 4) (first_place l h + l) (omega arith)))
      ∙ ap (λ (n : ℕ). flipped (c (chip_number l h i)) (flipped b (plain_chip (sign_at l h.sequence n)))) (chip-mod l (i / 4) (i % 4 - first_place l h) k)

-- ---- the same scrambling bit for each group: a wave, without bit and scrambling, and its flips
-- sequence q from the first place f on, at place i
unfoldable pub wave_at : ℕ → ℕ → ℕ → ℕ → Pair
wave_at l f q i = cond (leb f (i % 4) && ltb (i % 4) (f + l)) (plain_chip (sign_at l q (i % 4 - f))) nil

inside : (f t l : ℕ) → leb f t && ltb t (f + l) ≡ true → (f ≤ t) × (t < f + l)
inside f t l e =
    let y : T (leb f t && ltb t (f + l)) = subst T (sym e) tt in
    (leb→le f t (and_l (leb f t) (ltb t (f + l)) y), ltb→lt t (f + l) (and_r (leb f t) (ltb t (f + l)) y))

pub part-wave : (l : ℕ) → Length l → (c : ℕ → ℕ) (h : Hi) (b i : ℕ) → part_at l c h b i ≡ flipped (c (i / 4 * l + i % 4 % l)) (flipped b (wave_at l (first_place l h) h.sequence i))
unfolding part_at has wave_at chip_at first_place
part-wave l ok c h b i = pick (leb (first_place l h) (i % 4) && ltb (i % 4) (first_place l h + l)) refl
  where
    pick :
        (t : Bool) → (leb (first_place l h) (i % 4) && ltb (i % 4) (first_place l h + l)) ≡ t → cond t (chip_at l c h.sequence b (chip_number l h i)) nil ≡ flipped
        (c (i / 4 * l + i % 4 % l)) (flipped b (cond t (plain_chip (sign_at l h.sequence (i % 4 - first_place l h))) nil))
    pick true s =
        let w = inside (first_place l h) (i % 4) l s in
        let m : i % 4 - first_place l h ≡ i % 4 % l = place-mod l ok h.group (i % 4) (omega arith) w.0 w.1 in
        ap₂ (λ (x y : ℕ). flipped (c (i / 4 * l + x)) (flipped b (plain_chip (sign_at l h.sequence y)))) m (chip-mod l (i / 4) (i % 4 - first_place l h) (omega arith))
    pick false s = sym (ap (flipped (c (i / 4 * l + i % 4 % l))) (flipped-nil b) ∙ flipped-nil (c (i / 4 * l + i % 4 % l)))

-- ---- sizes: every entry of a table is 1, -1, j or -j, by one test over the tables
abbrev unit : SignPair → Bool
unit w = leb (nat_abs w.re + nat_abs w.im) 1

rows : (l : ℕ) → T (every (every unit) (sequences l))
unfolding sequences normal extended
rows l = pick (eqb l 4)
  where
    pick : (t : Bool) → T (every (every unit) (cond t normal extended))
    pick true = tt
    pick false = tt

entry : (l q t : ℕ) → nat_abs (sign_at l q t).re + nat_abs (sign_at l q t).im ≤ 1
unfolding sign_at
entry l q t =
    leb→le _ 1 (every-at unit «±0» tt (get_or (sequences l) q []) (every-at (every unit) [] tt (sequences l) (rows l) q) t)

-- ---- the entries of a sequence as the code takes them
pub normal-row : (l q : ℕ) → l ≡ 4 → Sequence l q (get_or normal q [])
unfolding sign_at sequences
normal-row l q e = record { entries = λ t k. rw (eq-eqb l 4 e) refl }

abbrev twice : List SignPair → List SignPair
twice row = get_or row 0 «±0» ∷ get_or row 1 «±0» ∷ get_or row 0 «±0» ∷ get_or row 1 «±0» ∷ []

pub extended_row : (l q : ℕ) → Length l → (l ≡ 4 → ⊥) → Sequence l q (twice (get_or extended q []))
unfolding sign_at sequences
extended_row l q ok n = record { entries = at }
  where
    at : (t : ℕ) → t < l → get_or (twice (get_or extended q [])) t «±0» ≡ sign_at l q t
    at zero k = rw (ne_eqb l 4 n) refl
    at (suc zero) k = rw (ne_eqb l 4 n) refl
    at (suc (suc t)) k = absurd (omega (arith, n))

module _ {l q n : ℕ} {row : List SignPair} (s : Sequence l q row) (k : n < l) where
  pub row-entry : nat_abs (get_or row n «±0»).re + nat_abs (get_or row n «±0»).im ≤ 1
  row-entry = rw (s.entries n k) (entry l q n)

  pub row-chip : {p : Pair} → p ≡ plain_chip (get_or row n «±0») → p ≡ plain_chip (sign_at l q n)
  row-chip e = e ∙ ap plain_chip (s.entries n k)

pub chip-small : (l q t : ℕ) → Small 1 (plain_chip (sign_at l q t))
chip-small l q t =
    let w = sign_at l q t in
    (omega (arith, entry l q t, abs-minus w.re w.im), omega (arith, entry l q t, abs-add w.re w.im))

-- none is -128, so its signs can be flipped
pub chip-flips : (l q t : ℕ) {p : Pair} → p ≡ plain_chip (sign_at l q t) → Small 127 p
chip-flips l q t e = let s = chip-small l q t in rw e (omega (arith, s.0), omega (arith, s.1))

pub part_small : (l : ℕ) (c : ℕ → ℕ) (h : Hi) (b i : ℕ) → Small 1 (part_at l c h b i)
unfolding part_at chip_at
part_small l c h b i = pick (has l h i)
  where
    pick : (t : Bool) → Small 1 (cond t (chip_at l c h.sequence b (chip_number l h i)) nil)
    pick true = flipped-small (c (chip_number l h i)) 1 _ (flipped-small b 1 _ (chip-small l h.sequence ((chip_number l h i) % l)))
    pick false = (omega arith, omega arith)
