-- ONE TURN AFTER THE OTHER, for writing and comparing alike: what accumulates element by element (grid/proofs/Accumulating) does so over the
-- turns of a schedule, since no element is sent in two of them. Assumes nothing.
use Prim.Native.Nat.{ℕ, ◌+◌, ◌≤◌, ◌<◌}
use mathlib.Core.Path.{◌≡◌, refl, sym, subst}
use mathlib.Core.Bool.{Bool, true}
use mathlib.Core.List.{List}
use native.Mathlib.Omega.{arith}
use Rattle.std.specs.declared.result.Result.TheVariants.{Ok as accepted}
use Rattle.base.specs.declared.Element.{Element}
use Rattle.plan.specs.Check.{check_of}
use Rattle.plan.specs.declared.Plan.{Plan}
use Rattle.places.specs.Places.{places_of}
use Rattle.grid.specs.Writing.{Room}
use Rattle.grid.proofs.Accumulating.{Deed, Step, Accumulates}
use Rattle.schedule.specs.Senders.{some_below}
use Rattle.schedule.specs.Schedule.{channel_count, channel_at, sends_of, sent_below, all_send}
use Rattle.schedule.proofs.Some.{some-none, some_more, some_is}
use Rattle.schedule.proofs.Owners.{apart}

module _ {X : Type 0} {Done : Deed X} {Also : Step X} {first : X} (a : Accumulates Done Also first) (E : ℕ → Element) where
  -- ---- over tests by their numbers
  module _ (f : ℕ → ℕ → Bool) where
    some-nothing : Done (λ (e : ℕ). some_below (λ (i : ℕ). f i e) 0) E first
    some-nothing = a.same (λ e. sym (some-none (λ (i : ℕ). f i e))) (λ e h. refl) (a.nothing E)

    some-step :
        (n : ℕ) {x y : X} → ((i e : ℕ) → i < n → f i e ≡ true → f n e ≡ true → ⊥) → Done (λ (e : ℕ). some_below (λ (i : ℕ). f i e) n) E x
        → Also (f n) E x y → Done (λ (e : ℕ). some_below (λ (i : ℕ). f i e) (n + 1)) E y
    some-step n two so s =
        a.more (λ e h k. let i = some_is (λ (x : ℕ). f x e) n h in two i.0 e i.1 i.2 k) so s (λ e k. refl)
        (λ e. some_more (λ (i : ℕ). f i e) n)

  -- ---- over the turns
  module _ (w : List ℕ) (p : Plan) where
    pub turn-none : Done (sent_below w p 0) E first
    unfolding sent_below
    turn-none = some-nothing (λ (i e : ℕ). sends_of p (channel_at w p i) e)

    pub turn_more :
        check_of w ≡ accepted p → {g : List ℕ} → Room p.cell.ports (places_of p.cell) g
        → (n : ℕ) {x y : X} → n < channel_count p → Done (sent_below w p n) E x → Also (sends_of p (channel_at w p n)) E x y
        → Done (sent_below w p (n + 1)) E y
    unfolding sent_below
    turn_more ok room n l so s =
        some-step (λ (i e : ℕ). sends_of p (channel_at w p i) e) n (λ i e k. apart w p ok room i n e k l) so s

    pub turn-all : (n : ℕ) {x : X} → n ≤ channel_count p → channel_count p ≤ n → Done (sent_below w p n) E x → Done (all_send w p) E x
    unfolding all_send
    turn-all n {x} l m so = let e : n ≡ channel_count p = omega arith in subst (λ (k : ℕ). Done (sent_below w p k) E x) e so
