-- THE AREAS of PBCH and of the users, compared: what an area's comparison answers is what the payload in the grid is due. Assumes nothing
-- beyond the plan check's answer.
use Prim.Native.Nat.{ℕ, ◌+◌, ◌*◌, ◌/◌, ◌%◌, ◌≤◌, ◌<◌}
use mathlib.Core.Path.{◌≡◌, refl, sym, ap, ◌∙◌}
use mathlib.Core.Bool.{true}
use mathlib.Core.List.{List}
use native.Mathlib.Omega.{arith}
use lib.ListN.{length}
use Rattle.base.specs.declared.Pair.{Pair}
use Rattle.base.specs.Bytes.{pair_of}
use Rattle.gold.specs.Sequence.{c}
use Rattle.modulation.specs.Marks.{is_symbol}
use Rattle.modulation.specs.Symbols.{unit_of}
use Rattle.codeword.specs.Codewords.{data_symbol}
use Rattle.precoding.specs.Places.{own_port, placed}
use Rattle.plan.specs.Check.{check_of}
use Rattle.plan.specs.CommandLists.{users_of, nth_user}
use Rattle.plan.specs.declared.Plan.{Plan}
use Rattle.plan.specs.declared.User.{User}
use Rattle.layout.specs.declared.Owner.{Owner}
use Rattle.layout.specs.declared.Owner.TheVariants.{Pbch, User as UserOf}
use Rattle.counts.specs.Counts.{count_of}
use Rattle.places.specs.Places.{places_of, owns_at, place_of, place_by, place_order, index_of}
use Rattle.base.proofs.Counts.{nth-same}
use Rattle.grid.specs.Elements.{element_in}
use Rattle.grid.specs.Writing.{sends, Room}
use Rattle.std.specs.Prelude.{Option, Some, None, Ok as accepted}
use Rattle.compare.specs.Comparing.{Holds, Compared}
use Rattle.compare.proofs.Comparing.{weight-same, holds_of, differs}
use Rattle.payload.specs.Payload.{user_bit_count}
use Rattle.subframe.specs.Elements.{owner_bit, pbch_first, pbch_symbol, user_init, user_symbol, element_for}
use Rattle.subframe.proofs.DataBuilds.{Sends}
use Rattle.subframe.proofs.Occurs.{pbch-occurs, user-occurs}
use Rattle.subframe.proofs.OwnerBits.{pbch-size, user-order}
use Rattle.recovery.specs.Recovery.{symbol_in, data_bit, pbch_bit, user_bit, payload_in}
use Rattle.recovery.proofs.Channels.{pbch-length}
use Rattle.recovery.proofs.Payload.{pbch-bit, user-bit}
use Rattle.areas.specs.declared.Area.{Area}
use Rattle.areas.specs.Areas.{area_at, area_count, area_index, area_sends, pbch_area, user_area}
use Rattle.areas.proofs.AreaOwners.{pbch-place, pbch-index, user-place, user-index, pbch-count, user-count as area-count}
use Rattle.data_compare.specs.Symbols.{area_place, area_symbol, area_sent, AreaHolds, AreaCompared}
use Rattle.schedule.specs.Senders.{active, owner_sends}
use Rattle.schedule.proofs.Senders.{pbch-area, user-area}
use Rattle.schedule.proofs.Numbered.{place-lt}
use Rattle.verify.specs.Made.{element_due}
use Rattle.verify.proofs.Again.{sent_by, to-due, due-known, from-due}

-- ---- an area whose places are an owner's
module _
    (w : List ℕ) (p : Plan) (g : List ℕ) (o : Owner) (a : Area) (Q u : ℕ)
    (count : area_count a ≡ count_of w p o)
    (symbols : (j : ℕ) → area_symbol a g j ≡ symbol_in w p g o (j / 2) j)
    (sending : (e : ℕ) → area_sends a e ≡ owner_sends w p o e)
    (sent : (d : ℕ → Pair) (e : ℕ) → area_sent a u d e ≡ sent_by w p o u d e)
  where
    abbrev S : ℕ → Pair
    S j = symbol_in w p g o (j / 2) j

    sent_is : (e : ℕ) → area_sent a u (area_symbol a g) e ≡ sent_by w p o u S e
    sent_is e = ap (λ (d : ℕ → Pair). area_sent a u d e) (λ t j. symbols j t) ∙ sent S e

    known-to : ((j : ℕ) → j < area_count a → is_symbol Q (area_symbol a g j) ≡ true) → (j : ℕ) → j < count_of w p o → is_symbol Q (S j) ≡ true
    known-to h j l = rw (← symbols j) (h j (rw count l))

    known_from : ((j : ℕ) → j < count_of w p o → is_symbol Q (S j) ≡ true) → (j : ℕ) → j < area_count a → is_symbol Q (area_symbol a g j) ≡ true
    known_from h j l = rw (symbols j) (h j (rw (← count) l))

    module _
        (to : ((j : ℕ) → j < count_of w p o → is_symbol Q (S j) ≡ true) → Holds (owner_sends w p o) (sent_by w p o u S) g → Holds (owner_sends w p o) (element_due w p g) g)
        (known : Holds (owner_sends w p o) (element_due w p g) g → (j : ℕ) → j < count_of w p o → is_symbol Q (S j) ≡ true)
        (from : Holds (owner_sends w p o) (element_due w p g) g → Holds (owner_sends w p o) (sent_by w p o u S) g)
      where
        area-to : AreaHolds a Q u g → Holds (owner_sends w p o) (element_due w p g) g
        area-to h =
            to (known-to h.known) (record { elements = λ e k. h.holds.elements e (sending e ∙ k) ∙ sent_is e })

        area-from : Holds (owner_sends w p o) (element_due w p g) g → AreaHolds a Q u g
        area-from h =
            record {
              known = known_from (known h);
              holds = record { elements = λ e k. (from h).elements e (sym (sending e) ∙ k) ∙ sym (sent_is e) };
            }

        area-compared : (r : Option ℕ) → AreaCompared a Q u g r → Compared (owner_sends w p o) (element_due w p g) g r
        unfolding AreaCompared
        area-compared (Some n) h =
            holds_of (area-to h.0) (h.1 ∙ weight-same g (area_sends a) (owner_sends w p o) (length g / 3) (λ e l. sending e))
        area-compared None h = differs (λ k. h (area-from k))

module _ (w : List ℕ) (p : Plan) (ok : check_of w ≡ accepted p) (g : List ℕ) (room : Room p.cell.ports (places_of p.cell) g) where
  abbrev P : ℕ
  P = p.cell.ports

  abbrev T : ℕ
  T = places_of p.cell

  abbrev A : List ℕ
  A = payload_in w p g

  -- ---- PBCH
  abbrev pbch_scrambling : ℕ → ℕ
  pbch_scrambling i = c p.cell.identity (i + pbch_first p.cell p.frame)

  pbch-bits : (i : ℕ) → i < 2 * count_of w p Pbch → owner_bit w p A Pbch i ≡ data_bit w p g Pbch 2 pbch_scrambling i
  unfolding pbch_bit
  pbch-bits i l = pbch-bit w p g i (omega (arith, pbch-length w p ok, pbch-size w p ok))

  pbch-pairs : (t q : ℕ) → active w p Pbch t q ≡ sends P (index_of w p Pbch t / 2 % 2) q
  unfolding active
  pbch-pairs t q = refl

  pbch-sent : Sends w p Pbch 2 (data_symbol 2 (owner_bit w p A Pbch) pbch_scrambling) A
  unfolding element_for pbch_symbol
  pbch-sent port s k = refl

  module _ (zero-th : p.frame.subframe ≡ 0) where
    abbrev pbch : Area
    pbch = pbch_area p.cell p.frame

    pbch-symbols : (j : ℕ) → area_symbol pbch g j ≡ symbol_in w p g Pbch (j / 2) j
    unfolding area_symbol area_place symbol_in place_of place_by place_order
    pbch-symbols j =
        ap (λ (t : ℕ). pair_of (element_in g (own_port P (j / 2) * T + t)))
        (nth-same (area_at pbch) (owns_at w p Pbch) T (λ t l. pbch-place w p ok zero-th t) j)

    pbch-area-sent : (d : ℕ → Pair) (e : ℕ) → area_sent pbch 2 d e ≡ sent_by w p Pbch 2 d e
    unfolding area_sent
    pbch-area-sent d e = ap (λ (j : ℕ). placed P (j / 2 % 2) 2 d j (e / T)) (pbch-index w p ok zero-th (e % T))

    pub pbch-known : Holds (owner_sends w p Pbch) (element_due w p g) g → (j : ℕ) → j < area_count (pbch_area p.cell p.frame) → is_symbol 2 (area_symbol (pbch_area p.cell p.frame) g j) ≡ true
    pbch-known h =
        known_from w p g Pbch pbch 2 2 (pbch-count w p ok zero-th) pbch-symbols (λ e. pbch-area w p ok zero-th e) pbch-area-sent
        (due-known w p ok g room Pbch 2 2 pbch_scrambling (omega arith) (pbch-occurs w p ok) pbch-sent pbch-bits pbch-pairs h)

    pub pbch-seen : (r : Option ℕ) → AreaCompared (pbch_area p.cell p.frame) 2 2 g r → Compared (owner_sends w p Pbch) (element_due w p g) g r
    pbch-seen =
        area-compared w p g Pbch pbch 2 2 (pbch-count w p ok zero-th) pbch-symbols (λ e. pbch-area w p ok zero-th e) pbch-area-sent
        (to-due w p ok g room Pbch 2 2 pbch_scrambling (omega arith) (pbch-occurs w p ok) pbch-sent pbch-bits pbch-pairs)
        (due-known w p ok g room Pbch 2 2 pbch_scrambling (omega arith) (pbch-occurs w p ok) pbch-sent pbch-bits pbch-pairs)
        (from-due w p ok g room Pbch 2 2 pbch_scrambling (omega arith) (pbch-occurs w p ok) pbch-sent pbch-bits pbch-pairs)

  -- ---- a user
  module _ (i : ℕ) (in-i : i < length (users_of w p)) where
    abbrev u : User
    u = nth_user w p i

    abbrev Q : ℕ
    Q = (nth_user w p i).order

    abbrev area : Area
    area = user_area p.cell p.frame (nth_user w p i)

    abbrev scrambling : ℕ → ℕ
    scrambling = c (user_init p.cell p.frame u)

    user-bits : (n : ℕ) → n < Q * count_of w p (UserOf i) → owner_bit w p A (UserOf i) n ≡ data_bit w p g (UserOf i) Q scrambling n
    unfolding user_bit_count user_bit
    user-bits n l = user-bit w p g i in-i n l

    user-pairs : (t q : ℕ) → active w p (UserOf i) t q ≡ sends P (index_of w p (UserOf i) t / 2 % 2) q
    unfolding active
    user-pairs t q = refl

    user-sent : Sends w p (UserOf i) (unit_of Q) (data_symbol Q (owner_bit w p A (UserOf i)) scrambling) A
    unfolding element_for user_symbol
    user-sent port s k = refl

    place_is : (t : ℕ) → t < T → area_at area t ≡ owns_at w p (UserOf i) t
    unfolding nth_user
    place_is t l = user-place w p ok i in-i _ t l

    index_is : (t : ℕ) → t ≤ T → area_index area t ≡ index_of w p (UserOf i) t
    unfolding nth_user
    index_is t l = user-index w p ok i in-i _ t l

    pub user-count : area_count (user_area p.cell p.frame (nth_user w p i)) ≡ count_of w p (UserOf i)
    unfolding nth_user
    user-count = area-count w p ok i in-i _

    user-symbols : (j : ℕ) → area_symbol area g j ≡ symbol_in w p g (UserOf i) (j / 2) j
    unfolding area_symbol area_place symbol_in place_of place_by place_order
    user-symbols j =
        ap (λ (t : ℕ). pair_of (element_in g (own_port P (j / 2) * T + t))) (nth-same (area_at area) (owns_at w p (UserOf i)) T place_is j)

    user-area-sent : (d : ℕ → Pair) (e : ℕ) → area_sent area (unit_of Q) d e ≡ sent_by w p (UserOf i) (unit_of Q) d e
    unfolding area_sent
    user-area-sent d e =
        ap (λ (j : ℕ). placed P (j / 2 % 2) (unit_of Q) d j (e / T)) (index_is (e % T) (omega (arith, place-lt w p ok e)))

    pub user-known :
        Holds (owner_sends w p (UserOf i)) (element_due w p g) g → (j : ℕ) → j < area_count (user_area p.cell p.frame (nth_user w p i))
        → is_symbol (nth_user w p i).order (area_symbol (user_area p.cell p.frame (nth_user w p i)) g j) ≡ true
    user-known h =
        known_from w p g (UserOf i) area Q (unit_of Q) user-count user-symbols (λ e. user-area w p ok i in-i e) user-area-sent
        (due-known w p ok g room (UserOf i) Q (unit_of Q) scrambling (user-order w p ok i in-i) (user-occurs w p ok i in-i) user-sent user-bits user-pairs h)

    pub user-seen :
        (r : Option ℕ) → AreaCompared (user_area p.cell p.frame (nth_user w p i)) (nth_user w p i).order (unit_of (nth_user w p i).order) g r
        → Compared (owner_sends w p (UserOf i)) (element_due w p g) g r
    user-seen =
        area-compared w p g (UserOf i) area Q (unit_of Q) user-count user-symbols (λ e. user-area w p ok i in-i e) user-area-sent
        (to-due w p ok g room (UserOf i) Q (unit_of Q) scrambling (user-order w p ok i in-i) (user-occurs w p ok i in-i) user-sent user-bits user-pairs)
        (due-known w p ok g room (UserOf i) Q (unit_of Q) scrambling (user-order w p ok i in-i) (user-occurs w p ok i in-i) user-sent user-bits user-pairs)
        (from-due w p ok g room (UserOf i) Q (unit_of Q) scrambling (user-order w p ok i in-i) (user-occurs w p ok i in-i) user-sent user-bits user-pairs)
