-- THE LAWS OF NUMBERS IN A GRID: a byte, bytes after bytes, one element, two elements; and two numbers with the same elements. Assumes
-- nothing.
use Prim.Native.Nat.{ℕ, zero, suc, ◌+◌, ◌-◌, ◌*◌, ◌/◌, ◌%◌, ◌^◌, ◌≤◌, ◌<◌}
use mathlib.Core.Path.{◌≡◌, refl, sym, ap, ap₂, ◌∙◌, subst}
use mathlib.Core.Bool.{cond, ◌||◌}
use mathlib.Core.List.{List}
use native.Mathlib.Nat.{mod-mod}
use native.Mathlib.Decide.{dec_le, ℕ_discrete}
use native.Mathlib.Omega.{arith}
use borrow.Author.Tests.{eq-eqb, ne_eqb}
use lib.Bits.{bit_or, bit_xor, or_add_and, xor_add_and, and_le_l, and_le_r, or_zero_l, xor_self}
use lib.Dec.{eqb}
use lib.ListN.{length, get_or, set, length-set}
use lib.Pow.{field, mod-pow-add, mod-mod-pow}
use lib.Seq.{get_or-set_same, get_or-set_other}
use Rattle.base.specs.declared.Element.{Element}
use Rattle.base.specs.Bytes.{byte_in}
use Rattle.grid.specs.Elements.{element_in}
use Rattle.element_pairs.specs.Numbers.{digit, element_from, upper, Put, OnePut, TwoPut, HalfRead, OneRead, TwoRead}

-- ---- bytes
pub put_one : (at v x : ℕ) (g : List ℕ) → at < length g → x ≡ digit v 0 → Put at 1 v g (set g at x)
put_one at v x g h e =
    record {
      size = length-set g at x;
      here = λ k l. let z : at + k ≡ at = omega arith in let d : k ≡ 0 = omega arith in rw (z, d) (get_or-set_same g at x 0 h ∙ e);
      early = λ m l. get_or-set_other g at m x 0 (λ q. omega arith);
      late = λ m l. get_or-set_other g at m x 0 (λ q. omega arith);
    }

pub put-more :
    {at n m u v w : ℕ} {g h k : List ℕ} → Put at n v g h → Put (at + n) m w h k → ((i : ℕ) → i < n → digit v i ≡ digit u i)
    → ((i : ℕ) → i < m → digit w i ≡ digit u (n + i)) → Put at (n + m) u g k
put-more {at} {n} {m} {u} {v} {w} {g} {h} {k} p q a b =
    record {
      size = q.size ∙ p.size;
      here = λ i l. pick i l (dec_le n i);
      early = λ i l. q.early i (omega arith) ∙ p.early i l;
      late = λ i l. q.late i (omega arith) ∙ p.late i (omega arith);
    }
  where
    pick : (i : ℕ) → i < n + m → Dec (n ≤ i) → get_or k (at + i) 0 ≡ digit u i
    pick i l (yes d) =
        let x = i - n in
        let e : at + i ≡ at + n + x = omega arith in
        let f : n + x ≡ i = omega arith in
        ap (λ (y : ℕ). get_or k y 0) e ∙ q.here x (omega arith) ∙ b x (omega arith) ∙ ap (digit u) f
    pick i l (no d) = q.early (at + i) (omega arith) ∙ p.here i (omega arith) ∙ a i (omega arith)

-- two bytes
pub two_bytes : (at v : ℕ) (g : List ℕ) → at + 1 < length g → Put at 2 v g (set (set g at (v % 256)) (at + 1) (v / 256 % 256))
unfolding digit
two_bytes at v g h =
    put-more (put_one at v (v % 256) g (omega arith) (omega arith))
    (put_one (at + 1) (v / 256) (v / 256 % 256) (set g at (v % 256)) (omega (arith, length-set g at (v % 256))) (omega arith))
    (λ i l. refl) (λ i l. let z : i ≡ 0 = omega arith in rw z (omega arith))

-- what holds at 0 and 1, or at 0 to 3
below_two : (A : ℕ → Type 0) → A 0 → A 1 → (i : ℕ) → i < 2 → A i
below_two A a b zero l = a
below_two A a b (suc zero) l = b
below_two A a b (suc (suc i)) l = absurd (omega arith)

below-four : (A : ℕ → Type 0) → A 0 → A 1 → A 2 → A 3 → (i : ℕ) → i < 4 → A i
below-four A a b c d zero l = a
below-four A a b c d (suc i) l = tail i (omega arith)
  where
    tail : (i : ℕ) → i < 3 → A (suc i)
    tail zero l = b
    tail (suc i) l = below_two (λ (k : ℕ). A (suc (suc k))) c d i (omega arith)

pub four_bytes : {at v : ℕ} {g h k : List ℕ} → Put at 2 v g h → Put (at + 2) 2 (v / 65536) h k → Put at 4 v g k
unfolding digit
four_bytes {at} {v} p q =
    put-more {u = v} p q (λ i l. refl)
    (below_two (λ (i : ℕ). v / 65536 / 256 ^ i % 256 ≡ v / 256 ^ (2 + i) % 256) (omega arith) (omega arith))

pub three-bytes :
    {at v : ℕ} {g h : List ℕ} → at + 2 < length g → Put at 2 v g h → Put at 3 v g (set h (at + 2) (v / 65536 % 256))
unfolding digit
three-bytes {at} {v} {g} {h} l p =
    put-more p (put_one (at + 2) (v / 65536) (v / 65536 % 256) h (omega (arith, p.size)) (omega arith))
    (λ i l. refl) (λ i l. let z : i ≡ 0 = omega arith in rw z (omega arith))

pub six-bytes : {at v : ℕ} {g h k : List ℕ} → Put at 4 (v % 4294967296) g h → Put (at + 4) 2 (v / 4294967296 % 65536) h k → Put at 6 v g k
unfolding digit
six-bytes {at} {v} p q =
    put-more {u = v} p q
    (below-four (λ (i : ℕ). v % 4294967296 / 256 ^ i % 256 ≡ v / 256 ^ i % 256)
    (omega arith) (omega (arith, field v 24 8)) (omega (arith, field v 16 16)) (omega (arith, field v 8 24)))
    (below_two (λ (i : ℕ). v / 4294967296 % 65536 / 256 ^ i % 256 ≡ v / 256 ^ (4 + i) % 256) (omega arith) (omega (arith, field (v / 4294967296) 8 8)))

-- ---- elements
first-bytes : (v b : ℕ) → b < 3 → digit v b ≡ byte_in (element_from v) b
unfolding digit element_from
first-bytes v zero l = omega arith
first-bytes v (suc zero) l = refl
first-bytes v (suc (suc zero)) l = refl
first-bytes v (suc (suc (suc b))) l = absurd (omega arith)

upper-bytes : (v b : ℕ) → b < 3 → digit v (3 + b) ≡ byte_in (element_from (upper v)) b
unfolding digit element_from
upper-bytes v zero l = omega arith
upper-bytes v (suc zero) l = omega arith
upper-bytes v (suc (suc zero)) l = omega arith
upper-bytes v (suc (suc (suc b))) l = absurd (omega arith)

cut : (v : ℕ) → element_from (v % 16777216) ≡ element_from v
unfolding element_from
cut v =
    let a : v % 16777216 % 256 ≡ v % 256 = omega arith in
    let b : v % 16777216 / 256 % 256 ≡ v / 256 % 256 = ap (λ (x : ℕ). x % 256) (field v 16 8) ∙ mod-mod-pow (v / 256) 8 8 in
    let c : v % 16777216 / 65536 % 256 ≡ v / 65536 % 256 = ap (λ (x : ℕ). x % 256) (field v 8 16) ∙ mod-mod (v / 65536) 256 in
    rw (a, b, c) refl

pub one-put : {at v : ℕ} {g h : List ℕ} → Put at 3 (v % 16777216) g h → OnePut at v g h
one-put {at} {v} {g} {h} p = record { written = λ e is. record { size = p.size; bytes = λ x b l. pick e is x b l (ℕ_discrete e x) } }
  where
    pick : (e : ℕ) → at ≡ 3 * e → (x b : ℕ) → b < 3 → Dec (e ≡ x) → get_or h (3 * x + b) 0 ≡ cond (eqb e x) (byte_in (element_from v) b) (get_or g (3 * x + b) 0)
    pick e is x b l (yes q) =
        let z : 3 * x + b ≡ at + b = omega arith in
        rw (eq-eqb e x q, z) (p.here b l ∙ first-bytes (v % 16777216) b l ∙ ap (λ (y : Element). byte_in y b) (cut v))
    pick e is x b l (no q) = rw (ne_eqb e x q) (side (dec_le x e))
      where
        side : Dec (x ≤ e) → get_or h (3 * x + b) 0 ≡ get_or g (3 * x + b) 0
        side (yes s) = p.early (3 * x + b) (omega arith)
        side (no s) = p.late (3 * x + b) (omega arith)

-- two elements, by what holds of each byte
two-put :
    {gap at v : ℕ} {g h : List ℕ} → 0 < gap → length h ≡ length g → ((b : ℕ) → b < 3 → get_or h (at + b) 0 ≡ byte_in (element_from v) b)
    → ((b : ℕ) → b < 3 → get_or h (at + 3 * gap + b) 0 ≡ byte_in (element_from (upper v)) b)
    → ((m : ℕ) → (at ≤ m → m < at + 3 → ⊥) → (at + 3 * gap ≤ m → m < at + 3 * gap + 3 → ⊥) → get_or h m 0 ≡ get_or g m 0) → TwoPut gap at v g h
two-put {gap} {at} {v} {g} {h} some size one two other =
    record { written = λ e is. record { size = size; bytes = λ x b l. pick e is x b l (ℕ_discrete e x) (ℕ_discrete (e + gap) x) } }
  where
    pick :
        (e : ℕ) → at ≡ 3 * e → (x b : ℕ) → b < 3 → Dec (e ≡ x) → Dec (e + gap ≡ x)
        → get_or h (3 * x + b) 0 ≡ cond (eqb e x || eqb (e + gap) x) (byte_in (cond (eqb e x) (element_from v) (element_from (upper v))) b) (get_or g (3 * x + b) 0)
    pick e is x b l (yes q) d = let z : 3 * x + b ≡ at + b = omega arith in rw (eq-eqb e x q, z) (one b l)
    pick e is x b l (no q) (yes d) =
        let z : 3 * x + b ≡ at + 3 * gap + b = omega arith in rw (ne_eqb e x q, eq-eqb (e + gap) x d, z) (two b l)
    pick e is x b l (no q) (no d) =
        rw (ne_eqb e x q, ne_eqb (e + gap) x d)
        (other (3 * x + b) (λ s t. q (omega arith)) (λ s t. d (omega arith)))

pub two-beside : {at v : ℕ} {g h : List ℕ} → Put at 6 v g h → TwoPut 1 at v g h
two-beside {at} {v} {g} {h} p =
    two-put (omega arith) p.size (λ b l. p.here b (omega arith) ∙ first-bytes v b l)
    (λ b l. let z : at + 3 * 1 + b ≡ at + (3 + b) = omega arith in rw z (p.here (3 + b) (omega arith) ∙ upper-bytes v b l))
    (λ m s t. pick m s t (dec_le at m))
  where
    pick : (m : ℕ) → (at ≤ m → m < at + 3 → ⊥) → (at + 3 * 1 ≤ m → m < at + 3 * 1 + 3 → ⊥) → Dec (at ≤ m) → get_or h m 0 ≡ get_or g m 0
    pick m s t (yes d) = pick' (dec_le (at + 3) m) (dec_le (at + 6) m)
      where
        pick' : Dec (at + 3 ≤ m) → Dec (at + 6 ≤ m) → get_or h m 0 ≡ get_or g m 0
        pick' (yes x) (yes y) = p.late m y
        pick' (yes x) (no y) = absurd (t (omega arith) (omega arith))
        pick' (no x) y = absurd (s d (omega arith))
    pick m s t (no d) = p.early m (omega arith)

pub two-apart :
    {gap at v : ℕ} {g h k : List ℕ} → 0 < gap → Put at 3 (v % 16777216) g h → Put (at + 3 * gap) 3 (v / 16777216 % 16777216) h k → TwoPut gap at v g k
two-apart {gap} {at} {v} {g} {h} {k} some p q =
    two-put some (q.size ∙ p.size)
    (λ b l. q.early (at + b) (omega arith) ∙ p.here b l ∙ first-bytes (v % 16777216) b l ∙ ap (λ (y : Element). byte_in y b) (cut v))
    (λ b l. q.here b l ∙ first-bytes (v / 16777216 % 16777216) b l ∙ ap (λ (y : Element). byte_in y b) (cut (v / 16777216)))
    (λ m s t. second m t (dec_le (at + 3 * gap) m) (dec_le (at + 3 * gap + 3) m) ∙ first m s (dec_le at m) (dec_le (at + 3) m))
  where
    first : (m : ℕ) → (at ≤ m → m < at + 3 → ⊥) → Dec (at ≤ m) → Dec (at + 3 ≤ m) → get_or h m 0 ≡ get_or g m 0
    first m s (yes x) (yes y) = p.late m y
    first m s (yes x) (no y) = absurd (s x (omega arith))
    first m s (no x) y = p.early m (omega arith)

    second : (m : ℕ) → (at + 3 * gap ≤ m → m < at + 3 * gap + 3 → ⊥) → Dec (at + 3 * gap ≤ m) → Dec (at + 3 * gap + 3 ≤ m) → get_or k m 0 ≡ get_or h m 0
    second m s (yes x) (yes y) = q.late m (omega arith)
    second m s (yes x) (no y) = absurd (s (omega arith) (omega arith))
    second m s (no x) y = q.early m (omega arith)

-- ---- numbers that are read
pub one-read : {at : ℕ} {g : List ℕ} {v c : ℕ} → HalfRead at g v → c ≡ get_or g (at + 2) 0 → c < 256 → OneRead at g (v + c * 65536)
unfolding element_in element_from
one-read {at} {g} {v} {c} h z n =
    record {
      element = λ e is.
          let f : get_or g (3 * e) 0 ≡ (v + c * 65536) % 256 = ap (λ (k : ℕ). get_or g k 0) (sym is) ∙ (omega arith) in
          let i : get_or g (3 * e + 1) 0 ≡ (v + c * 65536) / 256 % 256 = ap (λ (k : ℕ). get_or g (k + 1) 0) (sym is) ∙ (omega arith) in
          let j : get_or g (3 * e + 2) 0 ≡ (v + c * 65536) / 65536 % 256 = ap (λ (k : ℕ). get_or g (k + 2) 0) (sym is) ∙ (omega arith) in
          rw (f, i, j) refl;
      few = omega arith;
    }

pub two-read :
    {gap at : ℕ} {g : List ℕ} {a b : ℕ} → OneRead at g a → OneRead (at + 3 * gap) g b → TwoRead gap at g (a + b * 16777216)
two-read {gap} {at} {g} {a} {b} p q =
    record {
      first = λ e is. p.element e is ∙ low;
      second = λ e is. q.element (e + gap) (omega arith) ∙ (let z : b ≡ upper (a + b * 16777216) = omega (arith, p.few) in ap element_from z);
      few = omega (arith, p.few, q.few);
    }
  where
    low : element_from a ≡ element_from (a + b * 16777216)
    low = (let z : a ≡ (a + b * 16777216) % 16777216 = omega (arith, p.few) in ap element_from z) ∙ cut (a + b * 16777216)

-- side by side, by their six bytes in twos
pub six-read :
    {at : ℕ} {g : List ℕ} {a b c : ℕ} → HalfRead at g a → HalfRead (at + 2) g b → HalfRead (at + 4) g c
    → TwoRead 1 at g (a + b * 65536 + c * 4294967296)
six-read {at} {g} {a} {b} {c} p q r =
    let third = byte (at + 2 + 1) (at + 3) (omega arith) in
    let fourth = byte (at + 3 + 1) (at + 4) (omega arith) in
    let fifth = byte (at + 4 + 1) (at + 3 + 2) (omega arith) in
    let middle : HalfRead (at + 3) g (get_or g (at + 3) 0 + get_or g (at + 3 + 1) 0 * 256) = record { low = omega (arith, q.high); high = omega (arith, r.low); is = refl } in
    let e : a + get_or g (at + 2) 0 * 65536 + (get_or g (at + 3) 0 + get_or g (at + 3 + 1) 0 * 256 + get_or g (at + 3 + 2) 0 * 65536) * 16777216
    ≡ a + b * 65536 + c * 4294967296 = omega (arith, q.is, r.is) in
    subst (TwoRead 1 at g) e (two-read {gap = 1} (one-read p refl q.low) (one-read middle refl (omega (arith, r.high))))
  where
    byte : (x y : ℕ) → x ≡ y → get_or g x 0 ≡ get_or g y 0
    byte x y e = ap (λ (k : ℕ). get_or g k 0) e

-- ---- numbers with the same elements are the same
pub low-three : (v : ℕ) → v % 16777216 ≡ (v / 65536 % 256 * 256 + v / 256 % 256) * 256 + v % 256
low-three v =
    let e : v / 256 / 256 ≡ v / 65536 = omega arith in
    mod-pow-add v 16 8 ∙ ap (λ (x : ℕ). x * 256 + v % 256) (mod-pow-add (v / 256) 8 8 ∙ ap (λ (x : ℕ). x % 256 * 256 + v / 256 % 256) e)

same_low : (v w : ℕ) → element_from v ≡ element_from w → v % 16777216 ≡ w % 16777216
unfolding element_from
same_low v w e =
    let a : v % 256 ≡ w % 256 = ap (λ (x : Element). x.byte) e in
    let b : v / 256 % 256 ≡ w / 256 % 256 = ap (λ (x : Element). x.i) e in
    let c : v / 65536 % 256 ≡ w / 65536 % 256 = ap (λ (x : Element). x.j) e in
    low-three v ∙ (rw (a, b, c) (sym (low-three w)))

pub same-one : {v w : ℕ} → v < 16777216 → w < 16777216 → element_from v ≡ element_from w → v ≡ w
same-one {v} {w} l m e = omega (arith, same_low v w e)

pub same-two : {v w : ℕ} → v < 281474976710656 → w < 281474976710656 → element_from v ≡ element_from w → element_from (upper v) ≡ element_from (upper w) → v ≡ w
same-two {v} {w} l m e f = omega (arith, same_low v w e, same_low (upper v) (upper w) f)

-- ---- bits that differ
pub or-none : (a b : ℕ) → bit_or a b ≡ 0 → (a ≡ 0) × (b ≡ 0)
or-none a b e =
    let h = or_add_and a b in
    let l = and_le_l a b in
    let r = and_le_r a b in (omega (arith, h, l, r, e), omega (arith, h, l, r, e))

pub none_or : (a b : ℕ) → a ≡ 0 → b ≡ 0 → bit_or a b ≡ 0
none_or a b x y = ap₂ (λ (c d : ℕ). bit_or c d) x y ∙ or_zero_l 0

pub xor-none : (a b : ℕ) → bit_xor a b ≡ 0 → a ≡ b
xor-none a b e = let h = xor_add_and a b in let l = and_le_l a b in let r = and_le_r a b in omega (arith, h, l, r, e)

-- one element beside a number
module _ (e v : ℕ) {x : ℕ} {g : List ℕ} (p : OneRead (3 * e) g x) where
  pub none-same : bit_xor x v ≡ 0 → element_in g e ≡ element_from v
  none-same z = p.element e refl ∙ ap element_from (xor-none x v z)

  pub same_none : v < 16777216 → element_in g e ≡ element_from v → bit_xor x v ≡ 0
  same_none l q = ap (λ (k : ℕ). bit_xor k v) (same-one p.few l (sym (p.element e refl) ∙ q)) ∙ xor_self v
