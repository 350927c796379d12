-- THE BITS OF A CONSTELLATION POINT: by the order's table they are those that recovery takes. Assumes the table.
use Prim.Native.Nat.{ℕ, ◌+◌, ◌-◌, ◌*◌, ◌/◌, ◌%◌, ◌^◌, ◌<◌}
use mathlib.Core.Path.{◌≡◌, refl, sym, ap, ap₂, ◌∙◌}
use mathlib.Core.Bool.{true}
use mathlib.Core.List.{List}
use native.Mathlib.Nat.{mul_comm, mod-eq_of_lt}
use native.Mathlib.Omega.{arith}
use lib.ListN.{get_or}
use Rattle.base.specs.declared.Pair.{Pair}
use Rattle.base.specs.Bytes.{pair_of}
use Rattle.base.specs.Digits.{dig}
use Rattle.base.proofs.Bytes.{level-back}
use Rattle.base.proofs.Rows.{at-div, at-mod}
use Rattle.gold.specs.Sequence.{binary}
use Rattle.gold.proofs.Window.{spelled}
use Rattle.modulation.specs.Symbols.{Order}
use Rattle.modulation.specs.Demapping.{demap_of}
use Rattle.modulation.specs.Marks.{mark_of, is_symbol}
use Rattle.modulation.proofs.Constellation.{known-each}
use Rattle.modulation.proofs.Marks.{bits-told}
use Rattle.modulation.proofs.Symbols.{demap-only}
use Rattle.grid.specs.Elements.{element_in}
use Rattle.recovery.specs.Recovery.{word_of}
use Rattle.element_pairs.specs.Numbers.{element_from}
use Rattle.constellation.specs.Axis.{Axis, word_of as table_word}
use Rattle.constellation.specs.Entries.{element_number}
use Rattle.constellation.proofs.Axes.{word_back}
use Rattle.data_read.specs.Runs.{symbol_bit, Stands}

-- the levels' five lowest bits are in an element's number
low-i : (v : ℕ) → v / 256 % 32 ≡ v % 16777216 / 256 % 32
low-i v = omega arith

low-j : (v : ℕ) → v / 65536 % 32 ≡ v % 16777216 / 65536 % 32
low-j v = omega arith

whole : (v : ℕ) → v % 16777216 ≡ v % 256 + 256 * (v / 256 % 256) + 65536 * (v / 65536 % 256)
whole v = omega arith

module _ {q : ℕ} {d : List ℕ} (o : Order q) (t : Axis q d) where
  word-known : (v : ℕ) → is_symbol q (pair_of (element_from v)) ≡ true → (table_word d v ≡ word_of (demap_of q (pair_of (element_from v)))) × (word_of (demap_of q (pair_of (element_from v))) < 2 ^ q)
  unfolding pair_of element_from element_number
  word-known v s =
      let p = pair_of (element_from v) in
      let k = known-each q (element_from v) s in
      let b = bits-told q o.0 p.re p.im k.0 k.1 (mark_of (q / 2) p.re) (mark_of (q / 2) p.im) refl refl in
      let w : ℕ = 2 * mark_of (q / 2) p.re + mark_of (q / 2) p.im in
      let f = demap-only q p w b.0 in
      let i = level-back (v / 256 % 256) (omega arith) in
      let j = level-back (v / 65536 % 256) (omega arith) in
      let n : v % 16777216 ≡ element_number (v % 256) p = rw (i, j) (whole v) in
      let e : word_of (demap_of q p) ≡ w = ap word_of b.0 in (
        ap₂ (λ (s t : ℕ). 2 * get_or d s 0 + get_or d t 0) (low-i v) (low-j v)
            ∙ word_back t o.0 (omega (arith, o.2)) (v % 256) w (v % 16777216) (omega arith) (n ∙ ap (element_number (v % 256)) (sym f.0))
            ∙ mod-eq_of_lt b.1 ∙ sym e,
        rw e b.1,
      )

  -- symbol j's, of symbols one after the other
  sent_word : (symbol : ℕ → Pair) (j : ℕ) → word_of (demap_of q (symbol j)) < 2 ^ q → binary (symbol_bit q symbol) (q * j) q ≡ word_of (demap_of q (symbol j))
  sent_word symbol j l =
      let z = word_of (demap_of q (symbol j)) in
      sym (spelled (symbol_bit q symbol) (q * j) q z
      (λ i m e.
      let n : q - 1 - i ≡ m = omega arith in
      ap (dig z) (sym n)
      ∙ sym (ap₂ (λ (x y : ℕ). dig (word_of (demap_of q (symbol x))) (q - 1 - y))
      (ap (λ (y : ℕ). (y + i) / q) (mul_comm q j) ∙ at-div j q i (omega arith))
      (ap (λ (y : ℕ). (y + i) % q) (mul_comm q j) ∙ at-mod j q i (omega arith)))))
      ∙ mod-eq_of_lt l

  -- where symbol j is that of element e, and one of the order
  pub known-stands : {g : List ℕ} {e : ℕ} (symbol : ℕ → Pair) (j : ℕ) → symbol j ≡ pair_of (element_in g e) → is_symbol q (symbol j) ≡ true → Stands q d g (symbol_bit q symbol) j e
  known-stands symbol j is k =
      record {
        word = λ v en.
            let s : symbol j ≡ pair_of (element_from v) = is ∙ ap pair_of en in
            let w = word-known v (ap (is_symbol q) (sym s) ∙ k) in
            w.0 ∙ sym (ap (λ (p : Pair). word_of (demap_of q p)) s) ∙ sym (sent_word symbol j (rw s w.1));
      }
