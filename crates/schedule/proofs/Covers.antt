-- THE ELEMENTS OF NO TURN ARE SILENT: every owner but held and idle has its turn, so an element that no turn sends belongs to an owner that
-- sends nothing there. Assumes nothing beyond the plan check's answer.
use Prim.Native.Nat.{ℕ, ◌+◌, ◌-◌, ◌*◌, ◌/◌, ◌%◌, ◌<◌}
use mathlib.Core.Path.{◌≡◌, refl, sym, ap, ◌∙◌}
use mathlib.Core.Bool.{Bool, true, false, ◌&&◌}
use mathlib.Core.List.{List}
use native.Mathlib.Decide.{ℕ_discrete}
use native.Mathlib.Omega.{arith}
use borrow.Author.Tests.{ne_eqb}
use lib.Dec.{eqb}
use Rattle.std.specs.declared.result.Result.TheVariants.{Ok as accepted}
use Rattle.base.proofs.Tests.{clash, both}
use Rattle.base.specs.declared.Pair.{Pair}
use Rattle.base.specs.Bytes.{silent}
use Rattle.modulation.specs.Symbols.{unit_of}
use Rattle.precoding.specs.Layers.{Occurs}
use Rattle.precoding.specs.Matrices.{precoded}
use Rattle.precoding.specs.Phich.{phich_precoded}
use Rattle.precoding.specs.Places.{partner_index}
use Rattle.precoding.proofs.Diversity.{by_place, phich-by-place}
use Rattle.plan.specs.Check.{check_of}
use Rattle.plan.specs.CommandLists.{nth_user}
use Rattle.plan.specs.declared.Plan.{Plan}
use Rattle.plan.proofs.Valid.{valid}
use Rattle.layout.specs.Rules.{crs, crs_of, marked, pss, sss, pbch, in_pbch_area}
use Rattle.layout.specs.Owners.{owns, fixed_rule}
use Rattle.layout.specs.declared.Mark.TheVariants.{Primary, Secondary}
use Rattle.layout.specs.declared.Owner.{Owner}
use Rattle.layout.specs.declared.Owner.TheVariants.{Crs, Sync, Pbch, Pcfich, Phich, User as UserOf, Held, Idle}
use Rattle.layout.proofs.OneOwner.{one-owner}
use Rattle.counts.specs.Counts.{count_of}
use Rattle.counts.proofs.FixedCounts.{phich-count, pcfich-count}
use Rattle.places.specs.Places.{place_number, symbol_at, carrier_at, places_of, owns_at, index_of}
use Rattle.grid.specs.Writing.{sends}
use Rattle.grid.proofs.Sending.{silent-port}
use Rattle.subframe.specs.Elements.{element_for, crs_element, pss_element, sss_element, pbch_symbol, pcfich_symbol, phich_sum, user_symbol}
use Rattle.subframe.specs.Grid.{element_numbered}
use Rattle.subframe.proofs.Owned.{unit-owner, user-owner}
use Rattle.subframe.proofs.Occurs.{even-occurs, pbch-occurs, user-occurs}
use Rattle.signals.proofs.SignalOwners.{crs-covers, pss-sends, sss-sends}
use Rattle.schedule.specs.Senders.{active, owner_sends}
use Rattle.schedule.specs.Schedule.{signal_turns, users_first, channel_count, channel_at, TurnOf, present_in, elements_of, sends_of, sent_below, all_send}
use Rattle.schedule.specs.declared.Channel.{Channel}
use Rattle.schedule.specs.declared.Channel.TheVariants as channel
use Rattle.schedule.proofs.Some.{and-true, none-at}
use Rattle.schedule.proofs.Turns.{turn-lt, channel-is}
use Rattle.schedule.proofs.Senders.{pbch-sends, pcfich-sends, unit-sends, user-sends}
use Rattle.schedule.proofs.Numbered.{port-lt, place_in, numbered, place-number, index-lt}

-- a port without a term
quiet-data : {P M : ℕ} → Occurs P M → (u : ℕ) (d : ℕ → Pair) (j q : ℕ) → j < M → q < P → sends P (j / 2 % 2) q ≡ false → precoded P M u d j q ≡ silent
quiet-data {P = P} c u d j q l k h = by_place c u d j q l k ∙ silent-port P (j / 2 % 2) u (j % 2) (d j) (d (partner_index j)) q h

quiet-unit : {P : ℕ} → Occurs P 12 → (m u : ℕ) (d : ℕ → Pair) (j q : ℕ) → j < 12 → q < P → sends P ((j / 4 + m) % 2) q ≡ false → phich_precoded P m u d (j / 4) (j % 4) q ≡ silent
quiet-unit {P = P} c m u d j q l k h =
    let n : ℕ = 4 * (j / 4) + j % 4 in
    phich-by-place c m u d (j / 4) (j % 4) q (omega arith) (omega arith) k
    ∙ silent-port P ((j / 4 + m) % 2) u (n % 2) (d n) (d (partner_index n)) q h

and-false : (a b : Bool) → a && b ≡ false → a ≡ true → b ≡ false
and-false true b h e = h
and-false false b h e = clash e refl

module _ (w : List ℕ) (p : Plan) (ok : check_of w ≡ accepted p) (payload : List ℕ) (e : ℕ) (in_e : e < p.cell.ports * places_of p.cell) where
  abbrev T : ℕ
  T = places_of p.cell

  abbrev t : ℕ
  t = e % places_of p.cell

  abbrev s : ℕ
  s = symbol_at p.cell (e % places_of p.cell)

  abbrev k : ℕ
  k = carrier_at p.cell (e % places_of p.cell)

  abbrev q : ℕ
  q = e / places_of p.cell

  q-lt : e / places_of p.cell < p.cell.ports
  q-lt = port-lt w p ok e in_e

  index_at : (o : Owner) → index_of w p o (place_number p.cell s k) ≡ index_of w p o t
  index_at o = ap (index_of w p o) (place-number w p ok e)

  -- ---- by owner
  module _ (none : all_send w p e ≡ false) where
    -- the turn of an owner sends nothing here
    not-sent : (n : ℕ) (ch : Channel) → TurnOf w p n ch → sends_of p ch e ≡ false
    unfolding all_send sent_below
    not-sent n ch t =
        ap (λ (c : Channel). sends_of p c e) (sym (channel-is w p n ch t)) ∙ none-at (λ (i : ℕ). sends_of p (channel_at w p i) e) (channel_count p) none n (turn-lt w p n ch t)

    quiet-crs : (r : ℕ) → owns w p (Crs r) s k ≡ true → crs_element p.cell p.frame r q s k ≡ silent
    unfolding crs_element owns fixed_rule crs crs_of sends_of present_in elements_of TurnOf
    quiet-crs r h = pick (ℕ_discrete q r)
      where
        pick : Dec (q ≡ r) → crs_element p.cell p.frame r q s k ≡ silent
        pick (no n) = rw (ne_eqb q r n) refl
        pick (yes y) =
            let d = crs-covers w p (valid w p ok).cell r e h y in
            clash (both d.0 d.1) (not-sent s (channel.Crs s) ((place_in w p ok e).0, refl))

    quiet-pss : owns w p (Sync Primary) s k ≡ true → pss_element p.cell q k ≡ silent
    unfolding pss_element owns fixed_rule pss sends_of present_in elements_of TurnOf
    quiet-pss h = pick (ℕ_discrete q 0)
      where
        m : marked p.frame ≡ true
        m = (and-true _ _ (and-true _ _ h).0).0

        pick : Dec (q ≡ 0) → pss_element p.cell q k ≡ silent
        pick (no n) = rw (ne_eqb q 0 n) refl
        pick (yes y) = clash (both m ((pss-sends w p e m).1 (h, y))) (not-sent (signal_turns p.cell) (channel.Sync Primary) refl)

    quiet-sss : owns w p (Sync Secondary) s k ≡ true → sss_element p.cell p.frame q k ≡ silent
    unfolding sss_element owns fixed_rule sss sends_of present_in elements_of TurnOf
    quiet-sss h = pick (ℕ_discrete q 0)
      where
        m : marked p.frame ≡ true
        m = (and-true _ _ (and-true _ _ h).0).0

        pick : Dec (q ≡ 0) → sss_element p.cell p.frame q k ≡ silent
        pick (no n) = rw (ne_eqb q 0 n) refl
        pick (yes y) = clash (both m ((sss-sends w p e m).1 (h, y))) (not-sent (signal_turns p.cell + 1) (channel.Sync Secondary) refl)

    inactive : (o : Owner) → owner_sends w p o e ≡ false → owns w p o s k ≡ true → active w p o t q ≡ false
    unfolding owner_sends owns_at
    inactive o h own = and-false _ _ h own

    pbch-zero : owns w p Pbch s k ≡ true → eqb p.frame.subframe 0 ≡ true
    unfolding owns fixed_rule pbch in_pbch_area
    pbch-zero h = (and-true _ _ (and-true _ _ (and-true _ _ (and-true _ _ h).0).0).0).0

    quiet-pbch : owns w p Pbch s k ≡ true → element_for w p payload Pbch q s k ≡ silent
    unfolding element_for active owns_at TurnOf present_in
    quiet-pbch h =
        let a = inactive Pbch (sym (pbch-sends w p ok (pbch-zero h) e) ∙ not-sent (signal_turns p.cell + 2) channel.Pbch refl) h in
        ap (λ (j : ℕ). precoded p.cell.ports (count_of w p Pbch) 2 (pbch_symbol w p payload) j q) (index_at Pbch)
        ∙ quiet-data (pbch-occurs w p ok) 2 (pbch_symbol w p payload) (index_of w p Pbch t) q (index-lt w p ok Pbch e h) q-lt a

    quiet-pcfich : owns w p Pcfich s k ≡ true → element_for w p payload Pcfich q s k ≡ silent
    unfolding element_for active owns_at TurnOf
    quiet-pcfich h =
        let l = index-lt w p ok Pcfich e h in
        let a = inactive Pcfich (sym (pcfich-sends w p ok e) ∙ not-sent (signal_turns p.cell + 3) channel.Pcfich refl) h in
        ap (λ (j : ℕ). precoded p.cell.ports 16 2 (pcfich_symbol p.cell p.frame) j q) (index_at Pcfich)
        ∙ quiet-data (even-occurs w p ok 16 refl) 2 (pcfich_symbol p.cell p.frame) (index_of w p Pcfich t) q (omega (arith, l, pcfich-count w p ok)) q-lt a

    quiet-phich : (m : ℕ) → owns w p (Phich m) s k ≡ true → element_for w p payload (Phich m) q s k ≡ silent
    unfolding element_for active owns_at TurnOf
    quiet-phich m h =
        let l = index-lt w p ok (Phich m) e h in
        let a = inactive (Phich m) (sym (unit-sends w p ok m e) ∙ not-sent (signal_turns p.cell + 4 + m) (channel.Phich m) (unit-owner w p m s k h, refl)) h in
        ap (λ (j : ℕ). phich_precoded p.cell.ports m 2 (phich_sum w p payload m) (j / 4) (j % 4) q) (index_at (Phich m))
        ∙ quiet-unit (even-occurs w p ok 12 refl) m 2 (phich_sum w p payload m) (index_of w p (Phich m) t) q (omega (arith, l, phich-count w p ok m (unit-owner w p m s k h))) q-lt a

    quiet-user : (i : ℕ) → owns w p (UserOf i) s k ≡ true → element_for w p payload (UserOf i) q s k ≡ silent
    unfolding element_for active owns_at TurnOf channel_count
    quiet-user i h =
        let l = user-owner w p i s k h in
        let n = users_first p + i in
        let d : i ≡ n - users_first p = omega arith in
        let y : TurnOf w p n (channel.User (nth_user w p i)) = (omega arith, omega (arith, l, (valid w p ok).users-count), ap (nth_user w p) d) in
        let a = inactive (UserOf i) (sym (user-sends w p ok i l (nth_user w p i) refl e) ∙ not-sent n (channel.User (nth_user w p i)) y) h in
        ap (λ (j : ℕ). precoded p.cell.ports (count_of w p (UserOf i)) (unit_of (nth_user w p i).order) (user_symbol w p payload i) j q) (index_at (UserOf i))
        ∙ quiet-data (user-occurs w p ok i l) (unit_of (nth_user w p i).order) (user_symbol w p payload i) (index_of w p (UserOf i) t) q (index-lt w p ok (UserOf i) e h) q-lt a

    by-owner : (o : Owner) → owns w p o s k ≡ true → element_for w p payload o q s k ≡ silent
    unfolding element_for
    by-owner (Crs r) h = quiet-crs r h
    by-owner (Sync Primary) h = quiet-pss h
    by-owner (Sync Secondary) h = quiet-sss h
    by-owner Pbch h = quiet-pbch h
    by-owner Pcfich h = quiet-pcfich h
    by-owner (Phich m) h = quiet-phich m h
    by-owner (UserOf i) h = quiet-user i h
    by-owner Held h = refl
    by-owner Idle h = refl

    pub covers : element_numbered w p payload e ≡ silent
    unfolding owns_at
    covers =
        let place = place_in w p ok e in
        let o = one-owner w p ok s k place.0 place.1 in
        numbered w p ok payload o.0 e o.1 ∙ by-owner o.0 o.1
