-- gridcount's answer by the cases of the code. Assumes nothing.
use Prim.Native.Nat.{ℕ, ◌+◌, ◌-◌, ◌*◌, ◌≤◌, ◌<◌}
use mathlib.Core.Path.{◌≡◌, refl, sym, subst, ap, ap₂, ◌∙◌}
use mathlib.Core.Bool.{Bool, true, false}
use mathlib.Core.List.{List}
use native.Mathlib.Omega.{arith}
use lib.ListN.{length, get_or, take, drop, length-drop}
use lib.Seq.{take_all}
use borrow.Author.Tests.{eq-eqb, ne_eqb, lt-ltb, le-ltb}
use Rattle.std.specs.declared.option.Option.{Option}
use Rattle.std.specs.declared.option.Option.TheVariants.{Some, None}
use Rattle.std.specs.declared.result.Result.{Result}
use Rattle.std.specs.declared.result.Result.TheVariants.{Ok, Err}
use Rattle.base.specs.Tables.{table}
use Rattle.plan.specs.Check.{check_of}
use Rattle.plan.specs.declared.Plan.{Plan}
use Rattle.plan.specs.declared.Refusal.{Refusal}
use Rattle.plan.specs.declared.Refusal.TheVariants.{Unreadable, PayloadLength, SpareBit}
use Rattle.counts.specs.Counts.{kinds, kind_count}
use Rattle.payload.specs.Payload.{payload_length, spare_clear}
use Rattle.counted.specs.Framing.{PlanEnd}
use Rattle.counted.specs.Gridcount.{accepted_with, counted_of, plan_end, gridcount_of}

module _ (w : List ℕ) (p : Plan) (payload : List ℕ) (n : ℕ) (e : n ≡ payload_length w p) where
  pub wrong-length : (length payload ≡ n → ⊥) → Err PayloadLength ≡ accepted_with w p payload
  unfolding accepted_with
  wrong-length h = rw (ne_eqb (length payload) (payload_length w p) (λ q. h (q ∙ sym e)))

  module _ (h : length payload ≡ n) (b : Bool) (eb : b ≡ spare_clear w p payload) where
    pub spare-set : b ≡ false → Err SpareBit ≡ accepted_with w p payload
    unfolding accepted_with
    spare-set f = rw (eq-eqb (length payload) (payload_length w p) (h ∙ e), ← eb, f)

    pub taken : b ≡ true → (counts : List ℕ) → counts ≡ table kinds (kind_count w p) → Ok counts ≡ accepted_with w p payload
    unfolding accepted_with
    taken t counts ec = ap Ok ec ∙ rw (eq-eqb (length payload) (payload_length w p) (h ∙ e), ← eb, t)

-- the plan check's answer, by its cases
pub plan-is : (w payload : List ℕ) (p : Plan) {a : Result Plan Refusal} → a ≡ check_of w → a ≡ Ok p → accepted_with w p payload ≡ counted_of w payload
unfolding counted_of
plan-is w payload p e f = rw (sym e ∙ f)

pub plan-refused : (w payload : List ℕ) (r : Refusal) {a : Result Plan Refusal} → a ≡ check_of w → a ≡ Err r → Err r ≡ counted_of w payload
unfolding counted_of
plan-refused w payload r e f = rw (sym e ∙ f)

-- ---- the input's framing
pub no_length : (x : List ℕ) → length x < 2 → PlanEnd x None
no_length x h = rw (lt-ltb (length x) 2 h) refl

module _ (x : List ℕ) (a b : ℕ) (ea : a ≡ get_or x 0 0) (eb : b ≡ get_or x 1 0) (two : 2 ≤ length x) where
  end_is : 2 + (a * 256 + b) ≡ plan_end x
  end_is = ap₂ (λ (m n : ℕ). 2 + (m * 256 + n)) ea eb

  pub plan-short : length x < 2 + (a * 256 + b) → PlanEnd x None
  plan-short h =
      let l : length x < plan_end x = rw end_is at h in
      rw (le-ltb (length x) 2 two, lt-ltb (length x) (plan_end x) l) refl

  pub plan-whole : 2 + (a * 256 + b) ≤ length x → PlanEnd x (Some (2 + (a * 256 + b)))
  plan-whole h = (end_is, h)

pub cut_off : (x : List ℕ) {r : Option ℕ} → PlanEnd x r → r ≡ None → Err Unreadable ≡ gridcount_of x
unfolding gridcount_of
cut_off x {r} p e = let q : PlanEnd x None = subst (PlanEnd x) e p in rw q refl

module _ (x : List ℕ) (end : ℕ) {r : Option ℕ} (p : PlanEnd x r) (e : r ≡ Some end) where
  ends : (end ≡ plan_end x) × (end ≤ length x)
  ends = subst (PlanEnd x) e p

  pub end-least : 2 ≤ end
  end-least = omega (arith, ends.0)

  pub end-most : end ≤ length x
  end-most = ends.1

  pub framed : counted_of (take (end - 2) (drop 2 x)) (take (length x - end) (drop end x)) ≡ gridcount_of x
  unfolding gridcount_of
  framed =
      let l : plan_end x ≤ length x = omega (arith, ends.0, ends.1) in
      ap (counted_of (take (end - 2) (drop 2 x))) (take_all (length x - end) (drop end x) (omega (arith, length-drop end x)))
      ∙ ap (λ (k : ℕ). counted_of (take (k - 2) (drop 2 x)) (drop k x)) ends.0
      ∙ rw (le-ltb (length x) 2 (omega (arith, ends.1, end-least)), le-ltb (length x) (plan_end x) l)
