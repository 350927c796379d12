-- The users' kind: its count is the sum of the users' counts, and the loop over the USER commands adds them up. Assumes nothing but that
-- the plan check answers with the plan.
use Rattle.std.specs.Prelude.{if◌then◌else◌, Ok as accepted}
use Prim.Native.Nat.{ℕ, zero, suc, ◌+◌, ◌-◌, ◌≤◌, ◌<◌}
use mathlib.Core.Path.{◌≡◌, refl, sym, ap, ◌∙◌}
use mathlib.Core.List.{List, [], ◌∷◌}
use native.Mathlib.Nat.{not-suc-le-zero, add_assoc}
use native.Mathlib.Numerals.{sub-one}
use native.Mathlib.Omega.{arith}
use lib.Dec.{eqb}
use lib.ListN.{length, get_or, drop}
use Rattle.base.specs.Tables.{table}
use Rattle.plan.specs.Commands.{user_of}
use Rattle.plan.specs.Check.{check_of}
use Rattle.plan.specs.CommandLists.{next_of, users_from, users_of}
use Rattle.plan.specs.declared.Cell.{Cell}
use Rattle.plan.specs.declared.Frame.{Frame}
use Rattle.plan.specs.declared.User.{User}
use Rattle.plan.specs.declared.Plan.{Plan}
use Rattle.plan.proofs.CommandLists.{commands-next, commands-zero}
use Rattle.layout.specs.Owners.{above, owners}
use Rattle.layout.specs.declared.Owner.{Owner}
use Rattle.layout.specs.declared.Owner.TheVariants.{Phich, User as UserOf}
use Rattle.base.specs.Sums.{sum_of}
use Rattle.counts.specs.Counts.{count_of, kind_of, kind_count}
use Rattle.counts.specs.Users.{user_elements, all_elements, users_elements}
use Rattle.base.proofs.Sums.{list-append}
use Rattle.counts.proofs.UserElements.{user-elements}

abbrev nobody : User
nobody = record { rnti = 0; order = 0; first = 0; count = 0 }

-- a part for each user
user-parts : (f : Owner → ℕ) (g : User → ℕ) (us : List User) (o : ℕ → Owner) → ((i : ℕ) → i < length us → f (o i) ≡ g (get_or us i nobody)) → sum_of (table (length us) o) f ≡ sum_of us g
unfolding sum_of table
user-parts f g [] o h = refl
user-parts f g (u ∷ us) o h = rw (h 0 (omega arith), user-parts f g us (λ i. o (suc i)) (λ i l. h (suc i) (omega arith))) refl

module _ (w : List ℕ) (p : Plan) where
  abbrev part : Owner → ℕ
  part o = if eqb (kind_of o) 6 then count_of w p o else 0

  units-none : (n : ℕ) (g : ℕ → ℕ) → sum_of (table n (λ i. Phich (g i))) part ≡ 0
  unfolding sum_of table
  units-none zero g = refl
  units-none (suc n) g = rw (units-none n (λ i. g (suc i))) refl

  above-none : sum_of (above p.cell) part ≡ 0
  unfolding sum_of above
  above-none = rw (units-none _ (λ i. i)) refl

  -- PDSCH's elements are the users' together
  pub users-kind : check_of w ≡ accepted p → kind_count w p 6 ≡ users_elements w p
  unfolding kind_count owners sum_of all_elements
  users-kind e =
      omega (
        arith,
        list-append (above p.cell) (table (length (users_of w p)) UserOf) part,
        above-none,
        user-parts part (λ u. user_elements p.cell p.frame u.first u.count) (users_of w p) UserOf (λ i l. user-elements w p e nobody i l),
      )

-- ---- the loop: the USER at a position, and the others from the next position on
module _ (c : Cell) (f : Frame) (w : List ℕ) (at : ℕ) where
  abbrev Left : ℕ → ℕ → ℕ
  Left from n = all_elements c f (users_from (drop from w) n)

  next-user : (n r to : ℕ) (u : User) → u ≡ user_of (drop at w) → r ≡ user_elements c f u.first u.count → to ≡ next_of w at → Left at (suc n) ≡ r + Left to n
  unfolding all_elements sum_of
  next-user n r to u eu er et = rw (commands-next user_of w at n, er, eu, et) refl

  pub user-step :
      (total n m r to : ℕ) (u : User) → 0 < m → u ≡ user_of (drop at w) → r ≡ user_elements c f u.first u.count → to ≡ next_of w at → n + Left at m ≡ total → n + r + Left to
      (m - 1) ≡ total
  user-step total n zero r to u l eu er et e = absurd (not-suc-le-zero l)
  user-step total n (suc m) r to u l eu er et e = rw sub-one (add_assoc n r (Left to m) ∙ ap (λ (x : ℕ). n + x) (sym (next-user m r to u eu er et)) ∙ e)

  pub user-within : (total n m r to : ℕ) (u : User) → 0 < m → u ≡ user_of (drop at w) → r ≡ user_elements c f u.first u.count → to ≡ next_of w at → n + Left at m ≡ total → n + r ≤ total
  user-within total n m r to u l eu er et e = omega (arith, user-step total n m r to u l eu er et e)

  pub no-user-left : (total n m : ℕ) → m ≤ 0 → n + Left at m ≡ total → n ≡ total
  unfolding all_elements sum_of
  no-user-left total n m l e =
      let z : Left at m ≡ 0 = ap (all_elements c f) (commands-zero user_of (drop at w) m (omega arith)) in
      omega arith

pub all-users : (w : List ℕ) (p : Plan) → 0 + all_elements p.cell p.frame (users_from (drop p.users.at w) p.users.count) ≡ users_elements w p
unfolding users_of
all-users w p = omega arith
