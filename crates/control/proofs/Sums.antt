-- What `unit_sums` and the functions over a unit's sums are handed, and that the sums by the word's bits are those by the pair's. Assumes nothing.
use Prim.Native.Nat.{ℕ, ◌*◌, ◌%◌, ◌≤◌}
use mathlib.Core.Path.{◌≡◌, refl, sym, ap, ◌∙◌, subst}
use mathlib.Core.List.{List}
use native.Mathlib.Omega.{arith}
use lib.ListN.{get_or}
use borrow.Author.Tests.{eq-eqb, ne_eqb}
use Rattle.base.specs.declared.Pair.{Pair}
use Rattle.base.specs.Pairs.{nil, flipped, Small}
use Rattle.base.proofs.Pairs.{flipped-small}
use Rattle.base.proofs.Tables.{table_at}
use Rattle.gold.specs.declared.Registers.{Registers}
use Rattle.gold.specs.Steps.{after, word_of}
use Rattle.codeword.specs.Streams.{outputs}
use Rattle.phich.specs.Spreading.{Length, word_bit, spread_length}
use Rattle.phich.specs.Loops.{chip_of, levels_at, Levels, scrambled_sums}
use Rattle.phich.proofs.Units.{length-ok}
use Rattle.phich.proofs.Scrambled.{scrambled-chips}
use Rattle.plan.specs.declared.Cell.{Cell}
use Rattle.grid.proofs.Accumulating.{Deed, Step, Accumulates}
use Rattle.control.specs.Control.{phich_sends, unit_sent, phich_sent}
use Rattle.control.specs.Filling.{PhichIn, UnitIn}
use Rattle.control.proofs.Words.{word-bits}

-- ---- the length of the spreading sequences
pub length_two : (c : Cell) → c.prefix ≡ 1 → 2 ≡ spread_length c
unfolding spread_length
length_two c e = rw (eq-eqb c.prefix 1 e) refl

pub length-four : (c : Cell) → (c.prefix ≡ 1 → ⊥) → 4 ≡ spread_length c
unfolding spread_length
length-four c e = rw (ne_eqb c.prefix 1 e) refl

pub length_most : (c : Cell) {l : ℕ} → l ≡ spread_length c → l ≤ 4
length_most c e = omega (arith, (length-ok c).1)

-- and the pair after three sequences of it
pub after-three : (c : Cell) (r : Registers) {l : ℕ} {s : Registers} → l ≡ spread_length c → s ≡ after r (3 * l) → s ≡ after r (3 * spread_length c)
after-three c r is e = e ∙ ap (λ (l : ℕ). after r (3 * l)) is

module _ {c : Cell} {m : ℕ} {part grid : List ℕ} (ok : PhichIn c m part grid) {l : ℕ} (is : l ≡ spread_length c) where
  -- what `unit_sums` requires
  pub part-ready : Length l × Levels 127 part
  part-ready =
      rw is
      (length-ok c, record { size = ok.levels.size; small = λ i r. let s = ok.levels.small i r in (omega (arith, s.0), omega (arith, s.1)) })

  module _ (w : ℕ) {sums : List Pair} (e : sums ≡ scrambled_sums l (word_bit w) part) where
    pub unit-ready : UnitIn c m sums
    unfolding scrambled_sums
    unit-ready =
        record {
          cell = ok.cell;
          unit = ok.unit;
          small = λ i r.
              subst (λ (p : Pair). Small 8 p) (sym (ap (λ (s : List Pair). get_or s i nil) e ∙ table_at 12 (λ (j : ℕ). flipped (word_bit w (chip_of l j)) (levels_at part (j % 4))) nil i r))
              (flipped-small (word_bit w (chip_of l i)) 8 (levels_at part (i % 4)) (ok.levels.small (i % 4) (omega arith)));
        }

    -- the sums by the word's bits are those by the pair's
    by-pair : (r : Registers) → w ≡ word_of r 12 → sums ≡ scrambled_sums (spread_length c) (outputs r) part
    by-pair r h = e ∙ ap (λ (x : ℕ). scrambled_sums x (word_bit w) part) is ∙ scrambled-chips (spread_length c) (length-ok c) (word_bit w) (outputs r) (word-bits r w h) part

    -- what is written or compared by the one is by the other
    pub unit-done :
        (r : Registers) → w ≡ word_of r 12 → {X : Type 0} {Done : Deed X} {Also : Step X} {none x : X} → Accumulates Done Also none
        → Done (phich_sends c m) (unit_sent c m sums) x → Done (phich_sends c m) (phich_sent c m r part) x
    unfolding phich_sent
    unit-done r h A v = rw (by-pair r h) at v
