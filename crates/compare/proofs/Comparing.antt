-- THE LAWS OF COMPARING: nothing compared, the same otherwise said, comparisons of elements apart, and one element; and all bytes of a
-- grid that are not 0 in the elements compared, just when the others are silent. Assumes nothing.
use Prim.Native.Nat.{ℕ, zero, suc, ◌+◌, ◌*◌, ◌/◌, ◌%◌, ◌≤◌, ◌<◌}
use mathlib.Core.Path.{◌≡◌, refl, sym, ap, ap₂, ◌∙◌, subst}
use mathlib.Core.Bool.{Bool, true, false, cond, not, ◌&&◌, ◌||◌}
use mathlib.Core.List.{List, [], ◌∷◌}
use native.Mathlib.Decide.{ℕ_discrete}
use native.Mathlib.Nat.{mul-le-mul}
use native.Mathlib.Omega.{arith}
use borrow.Author.Tests.{eqb-true, eq-eqb, ne_eqb, not-true}
use lib.Dec.{eqb}
use lib.ListN.{length, get_or}
use Rattle.base.proofs.Tests.{by-test, clash, or_left, or_right}
use Rattle.base.specs.declared.Element.{Element}
use Rattle.base.specs.Bytes.{silent}
use Rattle.base.proofs.Bytes.{element-is}
use Rattle.grid.specs.Elements.{element_in}
use Rattle.grid.specs.Writing.{Room}
use Rattle.std.specs.Prelude.{Option, Some, None}
use Rattle.compare.specs.Comparing.{Holds, nonzero, nonzeros, weight_of, weight_in, Compared, same_element, seen_of, both_of, Few}

-- ---- bytes that are not 0
pub nonzero-one : (b : ℕ) → (b ≡ 0 → ⊥) → nonzero b ≡ 1
unfolding nonzero
nonzero-one b n = rw (ne_eqb b 0 n) refl

pub nonzero-none : (b : ℕ) → b ≡ 0 → nonzero b ≡ 0
unfolding nonzero
nonzero-none b e = rw (eq-eqb b 0 e) refl

pub nonzero-le : (b : ℕ) → nonzero b ≤ 1
unfolding nonzero
nonzero-le b = by-test (eqb b 0) (λ e. rw e (omega arith)) (λ e. rw e (omega arith))

nonzero-zero : (b : ℕ) → nonzero b ≡ 0 → b ≡ 0
unfolding nonzero
nonzero-zero b h = by-test (eqb b 0) (λ e. eqb-true b 0 e) (λ e. absurd (let z : ◌≡◌ {A = ℕ} 1 0 = subst (λ (t : Bool). ◌≡◌ {A = ℕ} (cond t 0 1) 0) e h in omega arith))

weight-le : (el : Element) → weight_of el ≤ 3
unfolding weight_of
weight-le el = omega (arith, nonzero-le el.byte, nonzero-le el.i, nonzero-le el.j)

weight-silent : (g : List ℕ) (e : ℕ) → weight_of (element_in g e) ≡ 0 → element_in g e ≡ silent
unfolding weight_of element_in silent
weight-silent g e h =
    let a : get_or g (3 * e) 0 ≡ 0 = nonzero-zero (get_or g (3 * e) 0) (omega arith) in
    let b : get_or g (3 * e + 1) 0 ≡ 0 = nonzero-zero (get_or g (3 * e + 1) 0) (omega arith) in
    let c : get_or g (3 * e + 2) 0 ≡ 0 = nonzero-zero (get_or g (3 * e + 2) 0) (omega arith) in
    rw (a, b, c) refl

silent-weight : weight_of silent ≡ 0
unfolding weight_of silent nonzero
silent-weight = refl

-- ---- the weight of the elements that pass a test
module _ (g : List ℕ) where
  -- the same test on the elements below n
  pub weight-same : (D D' : ℕ → Bool) (n : ℕ) → ((e : ℕ) → e < n → D e ≡ D' e) → weight_in D g n ≡ weight_in D' g n
  unfolding weight_in
  weight-same D D' zero d = refl
  weight-same D D' (suc n) d = rw (d n (omega arith), weight-same D D' n (λ e l. d e (omega arith))) refl

  -- two tests that no element passes both
  pub weight-or :
      (D₁ D₂ : ℕ → Bool) (n : ℕ) → ((e : ℕ) → e < n → D₁ e ≡ true → D₂ e ≡ true → ⊥)
      → weight_in (λ (e : ℕ). D₂ e || D₁ e) g n ≡ weight_in D₁ g n + weight_in D₂ g n
  unfolding weight_in
  weight-or D₁ D₂ zero a = refl
  weight-or D₁ D₂ (suc n) a = omega (arith, weight-or D₁ D₂ n (λ e l. a e (omega arith)), pick (D₁ n) (D₂ n) (a n (omega arith)))
    where
      pick : (b c : Bool) → (b ≡ true → c ≡ true → ⊥) → cond (c || b) (weight_of (element_in g n)) 0 ≡ cond b (weight_of (element_in g n)) 0 + cond c (weight_of (element_in g n)) 0
      pick true true k = absurd (k refl refl)
      pick true false k = omega arith
      pick false true k = omega arith
      pick false false k = refl

  pub weight-most : (D : ℕ → Bool) (n : ℕ) → weight_in D g n ≤ 3 * n
  unfolding weight_in
  weight-most D zero = omega arith
  weight-most D (suc n) = omega (arith, weight-most D n, pick (D n))
    where
      pick : (b : Bool) → cond b (weight_of (element_in g n)) 0 ≤ 3
      pick true = weight-le (element_in g n)
      pick false = omega arith

  -- no weight
  pub weight-none : (D : ℕ → Bool) (n : ℕ) → ((e : ℕ) → e < n → D e ≡ true → weight_of (element_in g e) ≡ 0) → weight_in D g n ≡ 0
  unfolding weight_in
  weight-none D zero z = refl
  weight-none D (suc n) z = omega (arith, weight-none D n (λ e l. z e (omega arith)), pick (D n) (z n (omega arith)))
    where
      pick : (b : Bool) → (b ≡ true → weight_of (element_in g n) ≡ 0) → cond b (weight_of (element_in g n)) 0 ≡ 0
      pick true k = k refl
      pick false k = refl

  each_none : (D : ℕ → Bool) (n : ℕ) → weight_in D g n ≡ 0 → (e : ℕ) → e < n → D e ≡ true → weight_of (element_in g e) ≡ 0
  unfolding weight_in
  each_none D zero z e l h = absurd (omega arith)
  each_none D (suc n) z e l h = pick (ℕ_discrete e n) (λ k. each_none D n (omega arith) e k h)
    where
      at : D n ≡ true → weight_of (element_in g n) ≡ 0
      at k = let s : weight_in D g n + weight_of (element_in g n) ≡ 0 = subst (λ (b : Bool). weight_in D g n + cond b (weight_of (element_in g n)) 0 ≡ 0) k z in omega arith

      pick : Dec (e ≡ n) → (e < n → weight_of (element_in g e) ≡ 0) → weight_of (element_in g e) ≡ 0
      pick (yes q) k = subst (λ (x : ℕ). D x ≡ true → weight_of (element_in g x) ≡ 0) (sym q) at h
      pick (no q) k = k (omega arith)

  -- one element
  weight-past : (e n : ℕ) → n ≤ e → weight_in (eqb e) g n ≡ 0
  weight-past e n l = weight-none (eqb e) n (λ x k h. absurd (let q = eqb-true e x h in omega arith))

  pub weight-one : (e n : ℕ) → e < n → weight_in (eqb e) g n ≡ weight_of (element_in g e)
  unfolding weight_in
  weight-one e zero l = absurd (omega arith)
  weight-one e (suc n) l = pick (ℕ_discrete e n) (weight-one e n)
    where
      pick : Dec (e ≡ n) → (e < n → weight_in (eqb e) g n ≡ weight_of (element_in g e)) → weight_in (eqb e) g n + cond (eqb e n) (weight_of (element_in g n)) 0 ≡ weight_of (element_in g e)
      pick (yes q) k = rw (eq-eqb e n q) (omega (arith, weight-past e n (omega arith), ap (λ (x : ℕ). weight_of (element_in g x)) q))
      pick (no q) k = rw (ne_eqb e n q) (omega (arith, k (omega arith)))

-- ---- comparisons
pub none : (W : ℕ → Element) (g : List ℕ) → Compared (λ (e : ℕ). false) W g (Some 0)
none W g = record { found = (record { elements = λ e h. clash h refl }, sym (weight-none g (λ (e : ℕ). false) (length g / 3) (λ e l h. clash h refl))) }

pub holds_of : {D : ℕ → Bool} {W : ℕ → Element} {g : List ℕ} {n : ℕ} → Holds D W g → n ≡ weight_in D g (length g / 3) → Compared D W g (Some n)
holds_of h e = record { found = (h, e) }

pub differs : {D : ℕ → Bool} {W : ℕ → Element} {g : List ℕ} → (Holds D W g → ⊥) → Compared D W g None
differs h = record { found = h }

-- fewer elements hold their values too
pub holds-less :
    {D D' : ℕ → Bool} {W W' : ℕ → Element} {g : List ℕ} → ((e : ℕ) → D' e ≡ true → D e ≡ true) → ((e : ℕ) → D' e ≡ true → W e ≡ W' e)
    → Holds D W g → Holds D' W' g
holds-less d v h = record { elements = λ e k. h.elements e (d e k) ∙ v e k }

pub same :
    {D D' : ℕ → Bool} {W W' : ℕ → Element} {g : List ℕ} {r : Option ℕ} → ((e : ℕ) → D e ≡ D' e) → ((e : ℕ) → D e ≡ true → W e ≡ W' e)
    → Compared D W g r → Compared D' W' g r
same {D = D} {D' = D'} {g = g} {r = Some n} d v c =
    holds_of (holds-less (λ e k. d e ∙ k) (λ e k. v e (d e ∙ k)) c.found.0) (c.found.1 ∙ weight-same g D D' (length g / 3) (λ e l. d e))
same {r = None} d v c = differs (λ h. c.found (holds-less (λ e k. sym (d e) ∙ k) (λ e k. sym (v e k)) h))

-- elements that hold their values, and others
module _ (D₁ D₂ : ℕ → Bool) {D : ℕ → Bool} {W W₂ : ℕ → Element} {g : List ℕ}
    (v : (e : ℕ) → D₂ e ≡ true → W₂ e ≡ W e) (d : (e : ℕ) → D e ≡ D₂ e || D₁ e) where
  pub holds-both : Holds D₁ W g → Holds D₂ W₂ g → Holds D W g
  holds-both a b = record { elements = λ e h. part e (D₂ e) refl (sym (d e) ∙ h) }
    where
      part : (e : ℕ) (t : Bool) → D₂ e ≡ t → t || D₁ e ≡ true → element_in g e ≡ W e
      part e true q h = b.elements e q ∙ v e q
      part e false q h = a.elements e h

  pub holds-old : Holds D W g → Holds D₁ W g
  holds-old = holds-less (λ e q. d e ∙ or_right (D₂ e) (D₁ e) q) (λ e q. refl)

  pub holds-new : Holds D W g → Holds D₂ W₂ g
  holds-new = holds-less (λ e q. d e ∙ or_left (D₂ e) (D₁ e) q) (λ e q. sym (v e q))

-- comparisons of elements apart
module _ {D₁ D₂ D : ℕ → Bool} {W W₂ : ℕ → Element} {g : List ℕ} where
  pub over :
      {r s : Option ℕ} → ((e : ℕ) → D₁ e ≡ true → D₂ e ≡ true → ⊥) → Compared D₁ W g r → Compared D₂ W₂ g s → ((e : ℕ) → D₂ e ≡ true → W₂ e ≡ W e)
      → ((e : ℕ) → D e ≡ D₂ e || D₁ e) → Compared D W g (both_of r s)
  over {r = Some m} {s = Some n} a c k v d =
      holds_of (holds-both D₁ D₂ v d c.found.0 k.found.0)
      (ap₂ (λ (x y : ℕ). x + y) c.found.1 k.found.1 ∙ sym (weight-or g D₁ D₂ (length g / 3) (λ e l. a e))
      ∙ weight-same g (λ (e : ℕ). D₂ e || D₁ e) D (length g / 3) (λ e l. sym (d e)))
  over {r = Some m} {s = None} a c k v d = differs (λ h. k.found (holds-new D₁ D₂ v d h))
  over {r = None} {s = s} a c k v d = differs (λ h. c.found (holds-old D₁ D₂ v d h))

-- elements of which some differ
pub part-differs :
    {D D₂ : ℕ → Bool} {W W₂ : ℕ → Element} {g : List ℕ} → ((e : ℕ) → D₂ e ≡ true → D e ≡ true) → ((e : ℕ) → D₂ e ≡ true → W₂ e ≡ W e)
    → Compared D₂ W₂ g None → Compared D W g None
part-differs d v c = differs (λ h. c.found (holds-less d (λ e t. sym (v e t)) h))

-- ---- the number is small
pub seen-three : (a b : Element) {n : ℕ} → Some n ≡ seen_of a b → n ≤ 3
unfolding seen_of
seen-three a b {n = n} e = pick (same_element a b) e
  where
    pick : (t : Bool) → Some n ≡ cond t (Some (weight_of a)) None → n ≤ 3
    pick true q = let k : n ≡ weight_of a = cc in omega (arith, weight-le a)
    pick false q = absurd (cc)

pub few-length : {D : ℕ → Bool} {W : ℕ → Element} {g : List ℕ} {r : Option ℕ} → length g ≤ 201600 → Compared D W g r → Few r
few-length {D = D} {g = g} {r = Some n} l c = omega (arith, c.found.1, weight-most g D (length g / 3))
few-length {r = None} l c = tt

pub widest : {P T : ℕ} {g : List ℕ} → Room P T g → length g ≤ 201600
widest {P} {T} r = omega (arith, r.size, mul-le-mul {n₁ = P} {m₁ = T} {n₂ = 4} {m₂ = 16800} r.most r.fits)

pub few : {P T : ℕ} {D : ℕ → Bool} {W : ℕ → Element} {g : List ℕ} {r : Option ℕ} → Room P T g → Compared D W g r → Few r
few room c = few-length (widest room) c

pub both-few : {D D' : ℕ → Bool} {W W' : ℕ → Element} {g : List ℕ} {r s : Option ℕ} → length g ≤ 201600 → Compared D W g r → Compared D' W' g s → Few r × Few s
both-few l a b = (few-length l a, few-length l b)

-- ---- one element
-- the three bytes agree
and_left : (a b : Bool) → a && b ≡ true → a ≡ true
and_left true b h = refl
and_left false b h = clash h refl

pub and_right : (a b : Bool) → a && b ≡ true → b ≡ true
and_right true b h = h
and_right false b h = clash h refl

pub same-element : (a b : Element) → same_element a b ≡ true → a ≡ b
same-element a b h =
    let x = eqb-true a.byte b.byte (and_left (eqb a.byte b.byte) (eqb a.i b.i) (and_left (eqb a.byte b.byte && eqb a.i b.i) (eqb a.j b.j) h)) in
    let y = eqb-true a.i b.i (and_right (eqb a.byte b.byte) (eqb a.i b.i) (and_left (eqb a.byte b.byte && eqb a.i b.i) (eqb a.j b.j) h)) in
    let z = eqb-true a.j b.j (and_right (eqb a.byte b.byte && eqb a.i b.i) (eqb a.j b.j) h) in
    element-is x y z

pub element-same : (a b : Element) → a ≡ b → same_element a b ≡ true
element-same a b h = rw (eq-eqb a.byte b.byte (ap (λ (x : Element). x.byte) h), eq-eqb a.i b.i (ap (λ (x : Element). x.i) h), eq-eqb a.j b.j (ap (λ (x : Element). x.j) h)) refl

pub look-compared : (g : List ℕ) (e : ℕ) (el : Element) → 3 * e + 2 < length g → Compared (eqb e) (λ (x : ℕ). el) g (seen_of (element_in g e) el)
unfolding seen_of
look-compared g e el l = pick (same_element (element_in g e) el) refl
  where
    pick : (b : Bool) → same_element (element_in g e) el ≡ b → Compared (eqb e) (λ (x : ℕ). el) g (cond b (Some (weight_of (element_in g e))) None)
    pick true h =
        holds_of (record { elements = λ x k. ap (λ (y : ℕ). element_in g y) (sym (eqb-true e x k)) ∙ same-element (element_in g e) el h })
        (sym (weight-one g e (length g / 3) (omega arith)))
    pick false h = differs (λ k. clash (element-same (element_in g e) el (k.elements e (eq-eqb e e refl))) h)

pub looked : (g : List ℕ) (e : ℕ) (el : Element) {seen : Option ℕ} → 3 * e + 2 < length g → seen ≡ seen_of (element_in g e) el → Compared (eqb e) (λ (x : ℕ). el) g seen
looked g e el l q = rw q (look-compared g e el l)

-- ---- all bytes of a grid
-- of the first n bytes
abbrev up_to : List ℕ → ℕ → ℕ
up_to g zero = 0
up_to g (suc n) = up_to g n + nonzero (get_or g n 0)

up-cons : (b : ℕ) (bs : List ℕ) (n : ℕ) → up_to (b ∷ bs) (suc n) ≡ nonzero b + up_to bs n
up-cons b bs zero = omega arith
up-cons b bs (suc n) = omega (arith, up-cons b bs n)

up-all : (g : List ℕ) → up_to g (length g) ≡ nonzeros g
unfolding nonzeros
up-all [] = refl
up-all (b ∷ bs) = up-cons b bs (length bs) ∙ ap (λ (x : ℕ). nonzero b + x) (up-all bs)

up-three : (g : List ℕ) (n : ℕ) → weight_in (λ (e : ℕ). true) g n ≡ up_to g (3 * n)
unfolding weight_in weight_of element_in
up-three g zero = refl
up-three g (suc n) =
    let e : 3 * suc n ≡ suc (suc (suc (3 * n))) = omega arith in
    let e₁ : 3 * n + 1 ≡ suc (3 * n) = omega arith in
    let e₂ : 3 * n + 2 ≡ suc (suc (3 * n)) = omega arith in
    rw (e, e₁, e₂) (omega (arith, up-three g n))

pub weight-all : (g : List ℕ) → length g % 3 ≡ 0 → weight_in (λ (e : ℕ). true) g (length g / 3) ≡ nonzeros g
weight-all g h = let e : 3 * (length g / 3) ≡ length g = omega arith in up-three g (length g / 3) ∙ ap (up_to g) e ∙ up-all g

-- the elements that pass and those that don't
weight-rest : (D : ℕ → Bool) (g : List ℕ) (n : ℕ) → weight_in (λ (e : ℕ). true) g n ≡ weight_in D g n + weight_in (λ (e : ℕ). not (D e)) g n
weight-rest D g n =
    weight-same g (λ (e : ℕ). true) (λ (e : ℕ). not (D e) || D e) n (λ e l. one (D e))
    ∙ weight-or g D (λ (e : ℕ). not (D e)) n (λ e l. apart (D e))
  where
    one : (b : Bool) → true ≡ not b || b
    one true = refl
    one false = refl

    apart : (b : Bool) → b ≡ true → not b ≡ true → ⊥
    apart true h k = clash k refl
    apart false h k = clash h refl

pub rest-silent :
    (D : ℕ → Bool) (g : List ℕ) → length g % 3 ≡ 0 → weight_in D g (length g / 3) ≡ nonzeros g
    → (e : ℕ) → e < length g / 3 → D e ≡ false → element_in g e ≡ silent
rest-silent D g m h e l k =
    weight-silent g e
    (each_none g (λ (x : ℕ). not (D x)) (length g / 3) (omega (arith, h, weight-all g m, weight-rest D g (length g / 3))) e l (ap not k))

pub silent-rest :
    (D : ℕ → Bool) (g : List ℕ) → length g % 3 ≡ 0 → ((e : ℕ) → e < length g / 3 → D e ≡ false → element_in g e ≡ silent)
    → weight_in D g (length g / 3) ≡ nonzeros g
silent-rest D g m h =
    let z = weight-none g (λ (x : ℕ). not (D x)) (length g / 3) (λ e l k. ap weight_of (h e l (not-true (D e) k)) ∙ silent-weight) in
    omega (arith, z, weight-all g m, weight-rest D g (length g / 3))
