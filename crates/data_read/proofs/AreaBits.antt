-- THE BITS OF AN AREA are recovery's: PBCH's and the users'. Assumes nothing beyond the plan check's answer.
use Prim.Native.Nat.{ℕ, ◌+◌, ◌-◌, ◌*◌, ◌/◌, ◌%◌, ◌<◌}
use mathlib.Core.Path.{◌≡◌, sym, ap, ap₂, ◌∙◌}
use mathlib.Core.List.{List}
use native.Mathlib.Nat.{add_comm}
use lib.ListN.{length, get_or}
use Rattle.std.specs.declared.result.Result.TheVariants.{Ok as accepted}
use Rattle.base.specs.Bytes.{pair_of}
use Rattle.base.specs.Digits.{dig}
use Rattle.gold.specs.Sequence.{c, pair_at}
use Rattle.modulation.specs.Demapping.{demap_of}
use Rattle.codeword.proofs.Laws.{output-of, outputs-start}
use Rattle.precoding.specs.Places.{own_port}
use Rattle.plan.specs.Check.{check_of}
use Rattle.plan.specs.CommandLists.{users_of, nth_user}
use Rattle.plan.specs.declared.User.{User}
use Rattle.plan.specs.declared.Plan.{Plan}
use Rattle.layout.specs.declared.Owner.TheVariants.{Pbch, User as UserOf}
use Rattle.places.specs.Places.{places_of, owns_at, place_of, place_by, place_order}
use Rattle.base.proofs.Counts.{nth-same}
use Rattle.grid.specs.Elements.{element_in}
use Rattle.payload.specs.Payload.{pbch_bit_count, user_bit_count}
use Rattle.subframe.specs.Elements.{pbch_first, user_init}
use Rattle.subframe.proofs.OwnerBits.{pbch-size}
use Rattle.recovery.specs.Recovery.{word_of, symbol_in, data_bit, pbch_bit, user_bit, section_of}
use Rattle.recovery.proofs.Channels.{pbch-length}
use Rattle.areas.specs.Areas.{area_at, area_count, pbch_area, user_area}
use Rattle.areas.proofs.AreaOwners.{pbch-place, user-place, pbch-count, user-count}
use Rattle.data_compare.specs.Symbols.{area_place, area_symbol}
use Rattle.data_read.specs.Reading.{area_bit}

module _ (w : List ℕ) (p : Plan) (ok : check_of w ≡ accepted p) where
  pub pbch-bits :
      p.frame.subframe ≡ 0 → (g : List ℕ) (i : ℕ)
      → area_bit (pbch_area p.cell p.frame) 2 g (pair_at p.cell.identity (pbch_first p.cell p.frame)) i ≡ pbch_bit w p g i
  unfolding area_bit area_symbol area_place pbch_bit data_bit symbol_in place_of place_by place_order
  pbch-bits z g i =
      ap₂ (λ (t x : ℕ). (dig (word_of (demap_of 2 (pair_of (element_in g (own_port p.cell.ports (i / 2 / 2) * places_of p.cell + t))))) (2 - 1 - i % 2) + x) % 2)
      (nth-same (area_at (pbch_area p.cell p.frame)) (owns_at w p Pbch) (places_of p.cell) (λ t l. pbch-place w p ok z t) (i / 2))
      (output-of p.cell.identity (pbch_first p.cell p.frame) i ∙ ap (c p.cell.identity) (add_comm (pbch_first p.cell p.frame) i))

  module _ (i : ℕ) (in-i : i < length (users_of w p)) (d : User) where
    abbrev u : User
    u = get_or (users_of w p) i d

    pub user-bits :
        (g : List ℕ) (n : ℕ)
        → area_bit (user_area p.cell p.frame u) u.order g (pair_at (user_init p.cell p.frame u) 0) n ≡ user_bit w p g i u n
    unfolding area_bit area_symbol area_place user_bit data_bit symbol_in place_of place_by place_order
    user-bits g n =
        ap₂ (λ (t x : ℕ). (dig (word_of (demap_of u.order (pair_of (element_in g (own_port p.cell.ports (n / u.order / 2) * places_of p.cell + t))))) (u.order - 1 - n % u.order) + x) % 2)
        (nth-same (area_at (user_area p.cell p.frame u)) (owns_at w p (UserOf i)) (places_of p.cell) (λ t l. user-place w p ok i in-i d t l) (n / u.order))
        (ap (λ (x : ℕ → ℕ). x n) (outputs-start (user_init p.cell p.frame u)))

  -- ---- the sections
  pub pbch-section :
      p.frame.subframe ≡ 0 → (g : List ℕ)
      → section_of (area_bit (pbch_area p.cell p.frame) 2 g (pair_at p.cell.identity (pbch_first p.cell p.frame))) (2 * area_count (pbch_area p.cell p.frame))
      ≡ section_of (pbch_bit w p g) (pbch_bit_count p.cell p.frame)
  pbch-section z g =
      ap₂ section_of (λ t i. pbch-bits z g i t) (ap (λ (n : ℕ). 2 * n) (pbch-count w p ok z) ∙ sym (pbch-size w p ok) ∙ pbch-length w p ok)

  pub user-section :
      (i : ℕ) → i < length (users_of w p) → (g : List ℕ)
      → section_of (area_bit (user_area p.cell p.frame (nth_user w p i)) (nth_user w p i).order g (pair_at (user_init p.cell p.frame (nth_user w p i)) 0))
      ((nth_user w p i).order * area_count (user_area p.cell p.frame (nth_user w p i)))
      ≡ section_of (user_bit w p g i (nth_user w p i)) (user_bit_count w p i)
  unfolding nth_user user_bit_count
  user-section i in-i g =
      ap₂ section_of (λ t n. user-bits i in-i (record { rnti = 0; order = 0; first = 0; count = 0 }) g n t)
      (ap (λ (n : ℕ). (nth_user w p i).order * n) (user-count w p ok i in-i (record { rnti = 0; order = 0; first = 0; count = 0 })))
