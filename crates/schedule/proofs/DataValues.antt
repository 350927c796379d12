-- PBCH and the users: what their areas send is the subframe's. Assumes nothing beyond the plan check's
-- answer and that the slice has the owner's bits.
use Prim.Native.Nat.{ℕ, ◌+◌, ◌*◌, ◌/◌, ◌%◌, ◌<◌}
use mathlib.Core.Path.{◌≡◌, sym, ap, ◌∙◌}
use mathlib.Core.Bool.{true}
use mathlib.Core.List.{List}
use native.Mathlib.Nat.{add_comm}
use native.Mathlib.Omega.{arith}
use lib.ListN.{length}
use Rattle.std.specs.declared.result.Result.TheVariants.{Ok as accepted}
use Rattle.base.specs.Bits.{bit_at}
use Rattle.gold.specs.Sequence.{c, pair_at}
use Rattle.modulation.specs.Symbols.{unit_of}
use Rattle.precoding.specs.Matrices.{precoded}
use Rattle.precoding.specs.Places.{placed}
use Rattle.codeword.specs.Codewords.{data_symbol}
use Rattle.codeword.specs.Streams.{outputs, symbols_of}
use Rattle.codeword.proofs.Laws.{output-of, outputs-start}
use Rattle.plan.specs.Check.{check_of}
use Rattle.plan.specs.CommandLists.{users_of, nth_user}
use Rattle.plan.specs.declared.User.{User}
use Rattle.plan.specs.declared.Plan.{Plan}
use Rattle.layout.specs.declared.Owner.TheVariants.{Pbch, User as UserOf}
use Rattle.counts.specs.Counts.{count_of}
use Rattle.places.specs.Places.{places_of, owns_at, index_of}
use Rattle.grid.specs.Writing.{sends, Room}
use Rattle.subframe.specs.Elements.{element_for, owner_bit, pbch_first, pbch_symbol, user_init, user_symbol}
use Rattle.subframe.specs.Grid.{element_numbered}
use Rattle.subframe.proofs.Occurs.{pbch-occurs, user-occurs}
use Rattle.subframe.proofs.OwnerBits.{symbols-of-bits}
use Rattle.areas.specs.Areas.{area_index, area_sends, area_element, pbch_area, user_area}
use Rattle.areas.proofs.AreaOwners.{pbch-index, user-index}
use Rattle.schedule.specs.Senders.{active, owner_sends}
use Rattle.schedule.proofs.Some.{and-true}
use Rattle.schedule.proofs.Numbered.{sends-port, placed-is, place-lt, numbered, place-number, index-lt}
use Rattle.schedule.proofs.Senders.{pbch-area, user-area}

-- what the pair of a c_init gives
from-bit : (ci k : ℕ) → outputs (pair_at ci k) ≡ (λ (i : ℕ). c ci (i + k))
from-bit ci k = λ i n. (output-of ci k n ∙ ap (c ci) (add_comm k n)) i

module _ (w : List ℕ) (p : Plan) (ok : check_of w ≡ accepted p) (payload bits : List ℕ) {grid : List ℕ} (room : Room p.cell.ports (places_of p.cell) grid) where
  abbrev T : ℕ
  T = places_of p.cell

  -- ---- PBCH
  module _ (zero-th : p.frame.subframe ≡ 0) where
    module _ (same : (n : ℕ) → n < 2 * count_of w p Pbch → bit_at bits n ≡ owner_bit w p payload Pbch n) where
      pbch-symbols : (j : ℕ) → j < count_of w p Pbch → symbols_of 2 bits (pair_at p.cell.identity (pbch_first p.cell p.frame)) j ≡ pbch_symbol w p payload j
      unfolding symbols_of pbch_symbol
      pbch-symbols j l =
          ap (λ (x : ℕ → ℕ). data_symbol 2 (bit_at bits) x j) (from-bit p.cell.identity (pbch_first p.cell p.frame))
          ∙ symbols-of-bits 2 (count_of w p Pbch) (bit_at bits) (owner_bit w p payload Pbch) (λ (i : ℕ). c p.cell.identity (i + pbch_first p.cell p.frame)) same j l

      pub pbch-value :
          (e : ℕ) → area_sends (pbch_area p.cell p.frame) e ≡ true
          → area_element (pbch_area p.cell p.frame) 2 2 bits (pair_at p.cell.identity (pbch_first p.cell p.frame)) e ≡ element_numbered w p payload e
      unfolding area_element owner_sends active element_for
      pbch-value e h =
          let t = e % T in
          let o = and-true (owns_at w p Pbch t) (sends p.cell.ports (index_of w p Pbch t / 2 % 2) (e / T)) (sym (pbch-area w p ok zero-th e) ∙ h) in
          ap (λ (j : ℕ). placed p.cell.ports (j / 2 % 2) 2 (symbols_of 2 bits (pair_at p.cell.identity (pbch_first p.cell p.frame))) j (e / T)) (pbch-index w p ok zero-th t)
          ∙ placed-is (pbch-occurs w p ok) 2 (symbols_of 2 bits (pair_at p.cell.identity (pbch_first p.cell p.frame))) (pbch_symbol w p payload) pbch-symbols
          (index_of w p Pbch t) (e / T) (index-lt w p ok Pbch e o.0) (sends-port room (index_of w p Pbch t / 2 % 2) (e / T) o.1)
          ∙ ap (λ (x : ℕ). precoded p.cell.ports (count_of w p Pbch) 2 (pbch_symbol w p payload) (index_of w p Pbch x) (e / T)) (sym (place-number w p ok e))
          ∙ sym (numbered w p ok payload Pbch e o.0)

  -- ---- a user
  module _ (i : ℕ) (in-i : i < length (users_of w p)) where
    abbrev u : User
    u = nth_user w p i

    index_is : (t : ℕ) → t < places_of p.cell → area_index (user_area p.cell p.frame (nth_user w p i)) t ≡ index_of w p (UserOf i) t
    unfolding nth_user
    index_is t l = user-index w p ok i in-i _ t (omega arith)

    module _ (same : (n : ℕ) → n < u.order * count_of w p (UserOf i) → bit_at bits n ≡ owner_bit w p payload (UserOf i) n) where
      user-symbols : (j : ℕ) → j < count_of w p (UserOf i) → symbols_of u.order bits (pair_at (user_init p.cell p.frame u) 0) j ≡ user_symbol w p payload i j
      unfolding symbols_of user_symbol
      user-symbols j l =
          ap (λ (x : ℕ → ℕ). data_symbol u.order (bit_at bits) x j) (outputs-start (user_init p.cell p.frame u))
          ∙ symbols-of-bits u.order (count_of w p (UserOf i)) (bit_at bits) (owner_bit w p payload (UserOf i)) (c (user_init p.cell p.frame u)) same j l

      pub user-value :
          (e : ℕ) → area_sends (user_area p.cell p.frame (nth_user w p i)) e ≡ true
          → area_element (user_area p.cell p.frame u) u.order (unit_of u.order) bits (pair_at (user_init p.cell p.frame u) 0) e ≡ element_numbered w p payload e
      unfolding area_element owner_sends active element_for
      user-value e h =
          let t = e % T in
          let o = and-true (owns_at w p (UserOf i) t) (sends p.cell.ports (index_of w p (UserOf i) t / 2 % 2) (e / T)) (sym (user-area w p ok i in-i e) ∙ h) in
          ap (λ (j : ℕ). placed p.cell.ports (j / 2 % 2) (unit_of u.order) (symbols_of u.order bits (pair_at (user_init p.cell p.frame u) 0)) j (e / T)) (index_is t (place-lt w p ok e))
          ∙ placed-is (user-occurs w p ok i in-i) (unit_of u.order) (symbols_of u.order bits (pair_at (user_init p.cell p.frame u) 0)) (user_symbol w p payload i)
          user-symbols (index_of w p (UserOf i) t) (e / T) (index-lt w p ok (UserOf i) e o.0) (sends-port room (index_of w p (UserOf i) t / 2 % 2) (e / T) o.1)
          ∙ ap (λ (x : ℕ). precoded p.cell.ports (count_of w p (UserOf i)) (unit_of u.order) (user_symbol w p payload i) (index_of w p (UserOf i) x) (e / T)) (sym (place-number w p ok e))
          ∙ sym (numbered w p ok payload (UserOf i) e o.0)
