-- A place's elements on the ports with a term, one comparison for each of the two. Assumes nothing.
use Prim.Native.Nat.{ℕ, ◌+◌, ◌*◌, ◌/◌, ◌%◌, ◌<◌}
use mathlib.Core.Path.{◌≡◌, refl, sym, ap, ap₂, ◌∙◌, subst}
use mathlib.Core.Bool.{Bool, true, false, ◌&&◌, ◌||◌}
use mathlib.Core.List.{List}
use native.Mathlib.Omega.{arith}
use borrow.Author.Tests.{eqb-true}
use lib.Dec.{eqb}
use Rattle.base.specs.declared.Pair.{Pair}
use Rattle.base.specs.declared.Element.{Element}
use Rattle.base.specs.Bytes.{element_of}
use Rattle.precoding.specs.Matrices.{unit_byte_on}
use Rattle.precoding.specs.Places.{own_port, other_port, partner_of, on_port}
use Rattle.precoding.proofs.Ports.{on-own, on-other}
use Rattle.grid.specs.Elements.{element_in}
use Rattle.grid.specs.Writing.{sends, sent_at, Room}
use Rattle.grid.proofs.Sending.{element-is, own-lt, other-lt, element-fits}
use Rattle.std.specs.Prelude.{Option}
use Rattle.compare.specs.Comparing.{Compared, seen_of, both_of}
use Rattle.compare.proofs.Comparing.{same, over, look-compared, and_right}

one_of_two : (a b c : Bool) → a && (b || c) ≡ (a && c) || (a && b)
one_of_two true true true = refl
one_of_two true true false = refl
one_of_two true false true = refl
one_of_two true false false = refl
one_of_two false b c = refl

twice : (b : Bool) → b ≡ b || b
twice true = refl
twice false = refl

module _ {P T : ℕ} {g : List ℕ} (room : Room P T g) where
  -- one element by its port and place
  looked : {q t : ℕ} {x : Element} {r : Option ℕ} → q < P → t < T → r ≡ seen_of (element_in g (q * T + t)) x → Compared (eqb (q * T + t)) (λ (z : ℕ). x) g r
  looked {q = q} {t = t} {x = x} h l e = rw e (look-compared g (q * T + t) x (element-fits room q t h l).2)

  pub own-looked :
      (port_pair t : ℕ) {q : ℕ} {x : Element} {r : Option ℕ} → t < T → q ≡ own_port P port_pair → r ≡ seen_of (element_in g (q * T + t)) x
      → Compared (eqb (own_port P port_pair * T + t)) (λ (z : ℕ). x) g r
  own-looked port_pair t {x = x} {r = r} l o e = looked (own-lt room port_pair) l (subst (λ (k : ℕ). r ≡ seen_of (element_in g (k * T + t)) x) o e)

  pub other-looked :
      (port_pair t : ℕ) {q : ℕ} {x : Element} {r : Option ℕ} → t < T → q ≡ other_port P port_pair → r ≡ seen_of (element_in g (q * T + t)) x
      → Compared (eqb (other_port P port_pair * T + t)) (λ (z : ℕ). x) g r
  other-looked port_pair t {x = x} {r = r} l o e = looked (other-lt room port_pair) l (subst (λ (k : ℕ). r ≡ seen_of (element_in g (k * T + t)) x) o e)

  other-apart : (port_pair : ℕ) → (P ≡ 1 → ⊥) → other_port P port_pair ≡ own_port P port_pair → ⊥
  unfolding other_port
  other-apart port_pair n q = omega (arith, room.some)

  other-same : (port_pair : ℕ) → P ≡ 1 → other_port P port_pair ≡ own_port P port_pair
  unfolding other_port
  other-same port_pair e = omega arith

  module _ (port_pair u odd t : ℕ) {v : ℕ} (d e : Pair) (l : t < T) (byte : v ≡ unit_byte_on P u) where
    abbrev Value : ℕ → Element
    Value x = on_port P port_pair u odd d e (x / T)

    port-of : (q x : ℕ) → eqb (q * T + t) x ≡ true → x / T ≡ q
    port-of q x h = eqb-true (x / T) q (and_right (eqb (x % T) t) (eqb (x / T) q) (sym (element-is T q t x l) ∙ h))

    own_value : {el : Element} → el ≡ element_of v d → (x : ℕ) → eqb (own_port P port_pair * T + t) x ≡ true → el ≡ Value x
    own_value q x h = q ∙ ap (λ (m : ℕ). element_of m d) byte ∙ sym (on-own P port_pair u odd d e (x / T) (port-of (own_port P port_pair) x h))

    other-value :
        (P ≡ 1 → ⊥) → {f : Pair} {el : Element} → f ≡ partner_of odd e → el ≡ element_of v f
        → (x : ℕ) → eqb (other_port P port_pair * T + t) x ≡ true → el ≡ Value x
    other-value n p q x h =
        let k = port-of (other_port P port_pair) x h in
        q ∙ ap₂ (λ (m : ℕ) (y : Pair). element_of m y) byte p
        ∙ sym (on-other P port_pair u odd d e (x / T) (λ o. other-apart port_pair n (sym k ∙ o)) k)

    pub one-look :
        {el : Element} {r : Option ℕ} → P ≡ 1 → el ≡ element_of v d
        → Compared (eqb (own_port P port_pair * T + t)) (λ (z : ℕ). el) g r
        → Compared (sent_at P T port_pair t) (λ (z : ℕ). on_port P port_pair u odd d e (z / T)) g r
    unfolding sent_at sends
    one-look n el r =
        same
        (λ x. element-is T (own_port P port_pair) t x l
        ∙ ap (λ (b : Bool). eqb (x % T) t && b) (twice (eqb (x / T) (own_port P port_pair)) ∙ ap (λ (q : ℕ). eqb (x / T) (own_port P port_pair) || eqb (x / T) q) (sym (other-same port_pair n))))
        (own_value el) r

    pub two-looks :
        {f : Pair} {el el₂ : Element} {r s both : Option ℕ} → (P ≡ 1 → ⊥) → f ≡ partner_of odd e → el ≡ element_of v d → el₂ ≡ element_of v f
        → Compared (eqb (own_port P port_pair * T + t)) (λ (z : ℕ). el) g r → Compared (eqb (other_port P port_pair * T + t)) (λ (z : ℕ). el₂) g s → both ≡ both_of r s
        → Compared (sent_at P T port_pair t) (λ (z : ℕ). on_port P port_pair u odd d e (z / T)) g both
    unfolding sent_at sends
    two-looks n p el el₂ r s b =
        rw b
        (over
        (λ x h k. other-apart port_pair n (sym (port-of (other_port P port_pair) x k) ∙ port-of (own_port P port_pair) x h))
        (same (λ x. refl) (own_value el) r) s (other-value n p el₂)
        (λ x. one_of_two (eqb (x % T) t) (eqb (x / T) (own_port P port_pair)) (eqb (x / T) (other_port P port_pair))
        ∙ ap₂ (λ (a c : Bool). a || c) (sym (element-is T (other_port P port_pair) t x l)) (sym (element-is T (own_port P port_pair) t x l))))
