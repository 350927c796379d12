-- What two commands have in common, and the loop that looks for the first that has it. Assumes nothing.
use Prim.Native.Nat.{ℕ, zero, suc, ◌+◌, ◌-◌, ◌≤◌, ◌<◌}
use mathlib.Core.Path.{◌≡◌, refl, ◌∙◌}
use mathlib.Core.Bool.{Bool, true, false, ◌&&◌, and-false}
use mathlib.Core.List.{List}
use native.Mathlib.Omega.{arith}
use lib.Dec.{eqb}
use lib.ListN.{drop}
use Rattle.std.specs.declared.option.Option.TheVariants.{None, Some}
use Rattle.plan.specs.Commands.{byte, hi_of, user_of}
use Rattle.plan.specs.Fields.{same_pair}
use Rattle.plan.specs.Finding.{same_rnti, shares_block, in_common, clashes, first_from, earlier_of}
use Rattle.plan.specs.CommandLists.{next_of}
use Rattle.plan.specs.declared.Hi.{Hi}
use Rattle.plan.specs.declared.User.{User}
use Rattle.plan.specs.declared.Shared.{Shared}
use Rattle.plan.specs.declared.Shared.TheVariants.{Nothing as Alone, Pair, Rnti, Block}

-- ---- two commands, the bytes l and e from each on
module _ (l e : List ℕ) {r : Bool} where
  module _ {s : Shared} {h g : Hi} (eh : h ≡ hi_of l) (eg : g ≡ hi_of e) where
    pub common-pair : s ≡ Pair → r ≡ same_pair h g → r ≡ in_common s l e
    common-pair es er = rw (er, eh, eg, es) refl

  module _ {s : Shared} {u v : User} (eu : u ≡ user_of l) (ev : v ≡ user_of e) where
    pub common-rnti : s ≡ Rnti → r ≡ same_rnti u v → r ≡ in_common s l e
    common-rnti es er = rw (er, eu, ev, es) refl

    pub common-block : s ≡ Block → r ≡ shares_block u v → r ≡ in_common s l e
    common-block es er = rw (er, eu, ev, es) refl

  pub clash-test : (s : Shared) {code b : ℕ} → code ≡ byte l 0 → b ≡ byte e 0 → r ≡ in_common s l e → eqb b code && r ≡ clashes s l e
  unfolding clashes
  clash-test s ec eb er = rw (ec, eb, er) refl

-- ---- nothing in common: no command clashes
pub clash-nothing : (w : List ℕ) (n at : ℕ) {s : Shared} → s ≡ Alone → None ≡ earlier_of w n at s
unfolding clashes first_from earlier_of
clash-nothing w n at e = rw e (by 1 0 (n - 1))
  where
    by : (m before k : ℕ) → None ≡ first_from (clashes Alone (drop at w)) w m before k
    by m before zero = refl
    by m before (suc k) = rw (and-false (eqb (byte (drop before w) 0) (byte (drop at w) 0))) (by (m + 1) (next_of w before) k)

-- ---- the loop: number m, at byte before, is looked at next, and n is the refused command's
module _ (w : List ℕ) (n at : ℕ) (s : Shared) (m before : ℕ) where
  abbrev t : List ℕ → Bool
  t = clashes s (drop at w)

  abbrev pub Looking : Type 0
  Looking = first_from (clashes s (drop at w)) w m before (n - m) ≡ earlier_of w n at s

  -- the loop has looked at every command before number n
  pub clash-none : n ≤ m → Looking → None ≡ earlier_of w n at s
  unfolding first_from
  clash-none h g = by (n - m) (omega arith) ∙ g
    where
      by : (k : ℕ) → k ≡ 0 → None ≡ first_from t w m before k
      by k e = rw e refl

  module _ (h : m < n) (g : Looking) {b : Bool} (eb : b ≡ clashes s (drop at w) (drop before w)) where
    pub clash-here : b ≡ true → Some (record { command = m; offset = before }) ≡ earlier_of w n at s
    unfolding first_from
    clash-here q = by (n - m) (n - (m + 1)) (omega arith) ∙ g
      where
        by : (k k' : ℕ) → k ≡ suc k' → Some (record { command = m; offset = before }) ≡ first_from t w m before k
        by k k' e = rw (e, ← eb, q) refl

    pub clash-later : b ≡ false → {to : ℕ} → to ≡ next_of w before → first_from (clashes s (drop at w)) w (m + 1) to (n - (m + 1)) ≡ earlier_of w n at s
    unfolding first_from
    clash-later q et = rw et (by (n - m) (n - (m + 1)) (omega arith)) ∙ g
      where
        by : (k k' : ℕ) → k ≡ suc k' → first_from t w (m + 1) (next_of w before) k' ≡ first_from t w m before k
        by k k' e = rw (e, ← eb, q) refl
