-- Every element of the grid is silence, a phase, or a pair of levels in one of the units, within its limit. Assumes nothing beyond the plan check's answer.
use Prim.Native.Nat.{ℕ, ◌+◌, ◌*◌, ◌/◌, ◌%◌, ◌-◌, ◌^◌, ◌≤◌, ◌<◌}
use mathlib.Core.Path.{◌≡◌, refl}
use mathlib.Core.Bool.{Bool, true, false, cond}
use mathlib.Core.List.{List}
use native.Mathlib.Nat.{mod-lt}
use native.Mathlib.Omega.{arith}
use lib.Dec.{eqb, ltb}
use lib.IntN.{ℤ, pos, neg_ℤ, nat_abs}
use lib.ListN.{get_or}
use borrow.Author.Tests.{ltb-true}
use Rattle.std.specs.declared.result.Result.TheVariants.{Ok as accepted}
use Rattle.base.specs.declared.Pair.{Pair}
use Rattle.base.specs.declared.Element.{Element}
use Rattle.base.specs.Bytes.{unit_byte, element_of, silent}
use Rattle.base.specs.Signs.{flip}
use Rattle.base.specs.Pairs.{nil, Small}
use Rattle.base.proofs.Fits.{abs_neg, flip-abs}
use Rattle.base.proofs.Tests.{on-if}
use Rattle.gold.specs.Sequence.{c}
use Rattle.modulation.specs.Symbols.{Order, unit_in, unit_of}
use Rattle.modulation.proofs.Orders.{by_order}
use Rattle.codeword.specs.Codewords.{data_symbol}
use Rattle.codeword.proofs.Laws.{symbol-within}
use Rattle.precoding.specs.Layers.{appended, layer}
use Rattle.precoding.specs.Matrices.{MatrixRow, no_term, itself, conjugate, minus_conjugate, sent, matrix_of, unit_on, unit_byte_on, precoded_by, precoded}
use Rattle.precoding.specs.Phich.{phich_matrix, phich_precoded}
use Rattle.crs.specs.Crs.{crs_init, in_widest, crs_value}
use Rattle.sample.specs.declared.UnitRow.{UnitRow}
use Rattle.std.specs.declared.option.Option.TheVariants.{Some}
use Rattle.sample.specs.Units.{scale_of}
use Rattle.sync.specs.Pss.{pss_phase}
use Rattle.sync.specs.Sss.{sss_bit, sss_level}
use Rattle.plan.specs.Check.{check_of}
use Rattle.plan.specs.CommandLists.{nth_user}
use Rattle.plan.specs.declared.Cell.{Cell}
use Rattle.plan.specs.declared.Frame.{Frame}
use Rattle.plan.specs.declared.Plan.{Plan}
use Rattle.layout.specs.Owners.{GridPlace, carriers, owns}
use Rattle.layout.specs.declared.Mark.TheVariants.{Primary, Secondary}
use Rattle.layout.specs.declared.Owner.{Owner}
use Rattle.layout.specs.declared.Owner.TheVariants.{Crs, Sync, Pbch, Pcfich, Phich, User as UserOf, Held, Idle}
use Rattle.layout.proofs.OneOwner.{one-owner}
use Rattle.counts.specs.Counts.{count_of}
use Rattle.places.specs.Places.{symbol_at, carrier_at, places_of}
use Rattle.places.proofs.Numbers.{symbol-inside, carrier-inside, first-row}
use Rattle.places.proofs.Listing.{some-carriers}
use Rattle.subframe.specs.Elements.{crs_element, pss_element, sss_element, pbch_symbol, pcfich_symbol, user_symbol, element_for, element_at}
use Rattle.subframe.specs.Grid.{element_numbered}
use Rattle.subframe.proofs.Acknowledged.{sums-small}
use Rattle.subframe.proofs.Owned.{user-owner, owned-element}
use Rattle.subframe.proofs.OwnerBits.{user-order}

-- "0 is silent, I = J = 0"; "Unit 63 means phase −2πI/63, I 0..62, J = 0"; or levels up to the limit of a row of the table of units
pub data Valued : Element → Type 0 where
  silence : Valued silent
  phase : (i : ℕ) → i < 63 → Valued (record { byte = 63; i = i; j = 0 })
  levels : (b : ℕ) (row : UnitRow) (d : Pair) → scale_of b ≡ Some row → Small row.limit d → Valued (element_of b d)

negated : (n : ℕ) (z : ℤ) → nat_abs z ≤ n → nat_abs (neg_ℤ z) ≤ n
negated n z h = omega (arith, abs_neg z)

sign : (b : ℕ) → nat_abs (flip b (pos 1)) ≤ 8
sign b = omega (arith, flip-abs b (pos 1))

-- ---- what precoding sends of symbols within the limit of their unit on the ports
sent-valued : (b : ℕ) (row : UnitRow) (r : MatrixRow) (x : ℕ → Pair) → scale_of b ≡ Some row → ((v : ℕ) → Small row.limit (x v)) → Valued (sent b r x)
unfolding sent
sent-valued b row no_term x e h = silence
sent-valued b row (itself v) x e h = levels b row (x v) e (h v)
sent-valued b row (conjugate v) x e h = levels b row (record { re = (x v).re; im = neg_ℤ (x v).im }) e ((h v).0, negated row.limit (x v).im (h v).1)
sent-valued b row (minus_conjugate v) x e h = levels b row (record { re = neg_ℤ (x v).re; im = (x v).im }) e (negated row.limit (x v).re (h v).0, (h v).1)

-- levels of at most k are within the limit of the unit u on P ports
record Within (P u k : ℕ) : Type 0 where
  pub row : UnitRow
  pub known : scale_of (unit_byte_on P u) ≡ Some row
  pub limit : k ≤ row.limit

module _ (P M u k : ℕ) (d : ℕ → Pair) (a : Within P u k) (h : (n : ℕ) → n < M → Small k (d n)) where
  layer-small : (v i : ℕ) → Small a.row.limit (layer P M d v i)
  unfolding layer appended
  layer-small v i = pick (ltb (P * i + v) M) refl
    where
      pick : (b : Bool) → ltb (P * i + v) M ≡ b → Small a.row.limit (cond b (d (P * i + v)) nil)
      pick true e = let s = h (P * i + v) (ltb-true (P * i + v) M e) in (omega (arith, s.0, a.limit), omega (arith, s.1, a.limit))
      pick false e = (omega arith, omega arith)

  by-valued : (W : List MatrixRow) (j port : ℕ) → Valued (precoded_by W P M u d j port)
  unfolding precoded_by
  by-valued W j port =
      sent-valued (unit_byte_on P u) a.row (get_or W (P * (j % P) + port) no_term) (λ (v : ℕ). layer P M d v (j / P)) a.known (λ v. layer-small v (j / P))

-- ---- "Units 2, 10, 42" and 170, with one port as they are, else doubled
doubled : (P u k : ℕ) (r s : UnitRow) → scale_of (unit_byte u) ≡ Some r → scale_of (unit_byte (2 * u)) ≡ Some s → k ≤ r.limit → k ≤ s.limit → Within P u k
unfolding unit_byte_on unit_on
doubled P u k r s e f l m = record { row = cond (eqb P 1) r s; known = pick (eqb P 1); limit = most (eqb P 1) }
  where
    pick : (t : Bool) → scale_of (unit_byte (cond t u (2 * u))) ≡ Some (cond t r s)
    pick true = e
    pick false = f

    most : (t : Bool) → k ≤ (cond t r s).limit
    most true = l
    most false = m

two-unit : (P : ℕ) → Within P 2 8
unfolding scale_of
two-unit P = doubled P 2 8 _ _ refl refl (omega arith) (omega arith)

-- the largest level of q bits is 2 ^ (q / 2) - 1
order-unit : (P q : ℕ) → Order q → Within P (unit_of q) (2 ^ (q / 2) - 1)
unfolding unit_of unit_in scale_of
order-unit P =
    by_order (λ (q : ℕ). Within P (unit_of q) (2 ^ (q / 2) - 1)) (doubled P 2 1 _ _ refl refl (omega arith) (omega arith)) (doubled P 10 3 _ _ refl refl (omega arith) (omega arith))
    (doubled P 42 7 _ _ refl refl (omega arith) (omega arith)) (doubled P 170 15 _ _ refl refl (omega arith) (omega arith))

qpsk-small : (b x : ℕ → ℕ) (j : ℕ) → Small 8 (data_symbol 2 b x j)
qpsk-small b x j = let h = symbol-within 1 2 (omega arith) b x j in (omega (arith, h.0), omega (arith, h.1))

-- ---- the signals
crs-small : (prefix C N n l m : ℕ) → Small 8 (crs_value prefix C N n l m)
unfolding crs_value
crs-small prefix C N n l m = (sign (c (crs_init prefix C n l) (2 * in_widest N m)), sign (c (crs_init prefix C n l) (2 * in_widest N m + 1)))

sss-small : (C f i : ℕ) → nat_abs (sss_level C f i) ≤ 8
unfolding sss_level
sss-small C f i = sign (sss_bit C f i)

module _ (cell : Cell) (frame : Frame) (port : ℕ) where
  crs-valued : (q s k : ℕ) → Valued (crs_element cell frame q port s k)
  unfolding crs_element scale_of
  crs-valued q s k = on-if Valued (eqb port q) (λ e. levels 2 _ _ refl (crs-small _ _ _ _ _ _)) (λ e. silence)

  pss-valued : (k : ℕ) → Valued (pss_element cell port k)
  unfolding pss_element pss_phase
  pss-valued k = on-if Valued (eqb port 0) (λ e. phase _ (mod-lt _ (omega arith))) (λ e. silence)

  sss-valued : (k : ℕ) → Valued (sss_element cell frame port k)
  unfolding sss_element scale_of
  sss-valued k = on-if Valued (eqb port 0) (λ e. levels 1 _ _ refl (sss-small _ _ _, omega arith)) (λ e. silence)

-- ---- owner by owner
module _ (w : List ℕ) (p : Plan) (ok : check_of w ≡ accepted p) (payload : List ℕ) where
  owner-valued : (o : Owner) (port s k : ℕ) → owns w p o s k ≡ true → Valued (element_for w p payload o port s k)
  unfolding element_for precoded phich_precoded pbch_symbol pcfich_symbol user_symbol
  owner-valued (Crs q) port s k h = crs-valued p.cell p.frame port q s k
  owner-valued (Sync Primary) port s k h = pss-valued p.cell p.frame port k
  owner-valued (Sync Secondary) port s k h = sss-valued p.cell p.frame port k
  owner-valued Pbch port s k h =
      by-valued p.cell.ports (count_of w p Pbch) 2 8 _ (two-unit p.cell.ports) (λ n l. qpsk-small _ _ n) (matrix_of p.cell.ports) _ port
  owner-valued Pcfich port s k h =
      by-valued p.cell.ports 16 2 8 _ (two-unit p.cell.ports) (λ n l. qpsk-small _ _ n) (matrix_of p.cell.ports) _ port
  owner-valued (Phich m) port s k h =
      by-valued p.cell.ports 12 2 8 _ (two-unit p.cell.ports) (λ n l. sums-small w p ok payload m n l) (phich_matrix p.cell.ports m _) _ port
  owner-valued (UserOf i) port s k h =
      let o = user-order w p ok i (user-owner w p i s k h) in
      by-valued p.cell.ports (count_of w p (UserOf i)) (unit_of (nth_user w p i).order) _ _ (order-unit p.cell.ports (nth_user w p i).order o)
      (λ n l. symbol-within ((nth_user w p i).order / 2) (nth_user w p i).order (omega (arith, o.0)) _ _ n) (matrix_of p.cell.ports) _ port
  owner-valued Held port s k h = silence
  owner-valued Idle port s k h = silence

  -- THE LAW, by place and by the element's number
  pub element-valued : (port s k : ℕ) → GridPlace p.cell s k → Valued (element_at w p payload port s k)
  element-valued port s k place =
      let owner = one-owner w p ok s k place.0 place.1 in
      rw (owned-element w p ok owner.0 payload port s k place owner.1) (owner-valued owner.0 port s k owner.1)

  pub every_element : (e : ℕ) → Valued (element_numbered w p payload e)
  unfolding element_numbered
  every_element e =
      let some : 0 < carriers p.cell = some-carriers w p ok in
      let some-places : 0 < places_of p.cell = omega (arith, first-row p.cell) in
      let t : ℕ = e % places_of p.cell in
      element-valued (e / places_of p.cell) (symbol_at p.cell t) (carrier_at p.cell t)
      (symbol-inside p.cell some t (mod-lt e some-places), carrier-inside p.cell some t)
