-- What is added at the places of quads, held as bytes: nothing, one thing after another, and a pair of levels at one place. Assumes nothing.
use Rattle.std.proofs.Common.{◌≡◌, ℕ, ◌+◌, ◌*◌, ◌%◌, ◌^◌, ◌<◌, ◌≤◌, cond, eqb, List, length, get_or, set}
use Rattle.std.proofs.Common.{ℤ, ◌+ℤ◌, nat_abs, sym, refl, ap, ◌∙◌, ap₂, arith, length-set, get_or-set_other, get_or-set_same, eq-eqb, ne_eqb}
use native.Mathlib.Decide.{ℕ_discrete}
use Rattle.base.specs.declared.Pair.{Pair}
use Rattle.base.specs.Bytes.{byte_of}
use Rattle.base.specs.Pairs.{nil, plus, Small}
use Rattle.base.proofs.Pairs.{plus_assoc, plus_nil}
use Rattle.phich.specs.Loops.{residue, only, Holds, Adds}
use Rattle.phich.proofs.Residues.{residue-add, byte-residue}

pub adds_none : (s : List ℕ) → Adds (λ y. nil) s s
adds_none s = record { size = refl; adds = λ y r d h. rw (plus_nil d) h }

pub adds_then : {f g : ℕ → Pair} {s t u : List ℕ} → Adds f s t → Adds g t u → Adds (λ y. plus (f y) (g y)) s u
adds_then {f = f} {g = g} a b =
    record {
      size = b.size ∙ a.size;
      adds = λ y r d h. rw (← plus_assoc d (f y) (g y)) (b.adds y r (plus d (f y)) (a.adds y r d h));
    }

pub adds_same : {f g : ℕ → Pair} {s t : List ℕ} → ((y : ℕ) → f y ≡ g y) → Adds f s t → Adds g s t
adds_same e a = record { size = a.size; adds = λ y r d h. rw (← e y) (a.adds y r d h) }

-- ---- the two bytes of place y, set
module _ (s : List ℕ) (y a b : ℕ) (inside : 2 * y + 1 < length s) where
  pub set-even : get_or (set (set s (2 * y) a) (2 * y + 1) b) (2 * y) 0 ≡ a
  set-even = get_or-set_other (set s (2 * y) a) (2 * y + 1) (2 * y) b 0 (λ e. omega arith) ∙ get_or-set_same s (2 * y) a 0 (omega arith)

  pub set-odd : get_or (set (set s (2 * y) a) (2 * y + 1) b) (2 * y + 1) 0 ≡ b
  set-odd = get_or-set_same (set s (2 * y) a) (2 * y + 1) b 0 (omega (arith, length-set s (2 * y) a))

  pub set-others : (z : ℕ) → (z ≡ y → ⊥) → (get_or (set (set s (2 * y) a) (2 * y + 1) b) (2 * z) 0 ≡ get_or s (2 * z) 0) ×
      (get_or (set (set s (2 * y) a) (2 * y + 1) b) (2 * z + 1) 0 ≡ get_or s (2 * z + 1) 0)
  set-others z n = (other (2 * z) (λ e. n (omega arith)) (λ e. omega arith), other (2 * z + 1) (λ e. omega arith) (λ e. n (omega arith)))
    where
      other : (x : ℕ) → (x ≡ 2 * y → ⊥) → (x ≡ 2 * y + 1 → ⊥) → get_or (set (set s (2 * y) a) (2 * y + 1) b) x 0 ≡ get_or s x 0
      other x n m = get_or-set_other (set s (2 * y) a) (2 * y + 1) x b 0 m ∙ get_or-set_other s (2 * y) x a 0 n

-- ---- one byte of a sum
byte-sum : (x z : ℤ) (b r : ℕ) → nat_abs z ≤ 127 → r ≡ byte_of z → b ≡ residue x → (b + r) % 2 ^ 8 ≡ residue (x +ℤ z)
byte-sum x z b r h e f = ap₂ (λ (u v : ℕ). (u + v) % 256) f (e ∙ byte-residue z h) ∙ sym (residue-add x z)

module _ (s : List ℕ) (y : ℕ) (d : Pair) (size : length s ≡ 200) (in-y : y < 100) (small : Small 127 d) {re im a b : ℕ} (ere : re ≡ byte_of d.re) (eim : im ≡ byte_of d.im)
    (ea : a ≡ (get_or s (2 * y) 0 + re) % 2 ^ 8) (eb : b ≡ (get_or (set s (2 * y) a) (2 * y + 1) 0 + im) % 2 ^ 8) where
  new : List ℕ
  new = set (set s (2 * y) a) (2 * y + 1) b

  beside : get_or (set s (2 * y) a) (2 * y + 1) 0 ≡ get_or s (2 * y + 1) 0
  beside = get_or-set_other s (2 * y) (2 * y + 1) a 0 (λ e. omega arith)

  held : (z : ℕ) (x : Pair) → Holds s z x → Dec (z ≡ y) → Holds new z (plus x (cond (eqb z y) d nil))
  unfolding new
  held z x h (yes e) =
      rw (eq-eqb z y e)
      (record {
        re =
            ap (λ (k : ℕ). get_or new (2 * k) 0) e ∙ set-even s y a b (omega arith) ∙ ea ∙ byte-sum x.re d.re (get_or s (2 * y) 0) re small.0 ere
            (ap (λ (k : ℕ). get_or s (2 * k) 0) (sym e) ∙ h.re);
        im =
            ap (λ (k : ℕ). get_or new (2 * k + 1) 0) e ∙ set-odd s y a b (omega arith) ∙ eb ∙ byte-sum x.im d.im _ im small.1 eim
            (beside ∙ ap (λ (k : ℕ). get_or s (2 * k + 1) 0) (sym e) ∙ h.im);
      })
  held z x h (no n) =
      rw (ne_eqb z y n, plus_nil x)
      (record {
        re = (set-others s y a b (omega arith) z n).0 ∙ h.re;
        im = (set-others s y a b (omega arith) z n).1 ∙ h.im;
      })

  -- THE LAW of `add_at`
  pub put-adds : Adds (only y d) s (set (set s (2 * y) a) (2 * y + 1) b)
  unfolding new only
  put-adds = record { size = length-set (set s (2 * y) a) (2 * y + 1) b ∙ length-set s (2 * y) a; adds = λ z r x h. held z x h (ℕ_discrete z y) }
