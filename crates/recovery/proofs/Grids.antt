-- A grid depends on the payload only by its bits, so a grid is some accepted payload's just where it is that of the payload that is read
-- from it. Assumes nothing beyond the plan check's answer.
use Prim.Native.Nat.{ℕ, ◌+◌, ◌*◌, ◌/◌, ◌%◌, ◌<◌}
use mathlib.Core.Path.{◌≡◌, refl, sym, ap, ◌∙◌}
use mathlib.Core.Logic.{◌↔◌, inl, inr}
use mathlib.Core.Bool.{true}
use mathlib.Core.List.{List, [], ◌∷◌}
use native.Mathlib.Nat.{div-add-mod', div-lt_iff_lt-mul, mod-lt}
use native.Mathlib.Omega.{arith}
use lib.ListN.{get_or}
use lib.Seq.{ext_get_or}
use Rattle.std.specs.declared.result.Result.TheVariants.{Ok as accepted-plan}
use Rattle.base.specs.Bits.{bit_at}
use Rattle.plan.specs.Lists.{Among, Every}
use Rattle.plan.specs.Check.{check_of}
use Rattle.plan.specs.declared.Plan.{Plan}
use Rattle.layout.specs.Owners.{symbols, carriers, owns}
use Rattle.layout.specs.declared.Mark.TheVariants.{Primary, Secondary}
use Rattle.layout.specs.declared.Owner.{Owner}
use Rattle.layout.specs.declared.Owner.TheVariants.{Crs, Sync, Pbch, Pcfich, Phich, User as UserOf, Held, Idle}
use Rattle.layout.proofs.OneOwner.{one-owner}
use Rattle.places.specs.Places.{symbol_at, carrier_at, places_of}
use Rattle.places.proofs.Numbers.{place-both, symbol-inside, carrier-inside, first-row}
use Rattle.places.proofs.Listing.{some-carriers}
use Rattle.payload.specs.Payload.{grid_length, payload_length, AcceptedPayload}
use Rattle.payload.specs.Bits.{owner_bits}
use Rattle.payload.proofs.EveryBit.{inside}
use Rattle.subframe.specs.Grid.{grid_of}
use Rattle.subframe.specs.TwoBuilds.{SameBytes, SameBits}
use Rattle.subframe.proofs.Owned.{unit-owner, user-owner}
use Rattle.subframe.proofs.Bytes.{number_is, length-by-port, grid-size}
use Rattle.subframe.proofs.FixedBuilds.{crs-builds, pss-builds, sss-builds, pcfich-builds, held-builds, idle-builds}
use Rattle.subframe.proofs.DataBuilds.{pbch-builds, user-builds}
use Rattle.subframe.proofs.UnitBuilds.{unit-builds}
use Rattle.recovery.specs.Recovery.{payload_in}
use Rattle.recovery.proofs.Payload.{accepted}
use Rattle.recovery.proofs.Recovered.{same-bits-recovered}

among-every : (P : ℕ → Type 0) (xs : List ℕ) → ((b : ℕ) → Among b xs → P b) → Every P xs
among-every P [] h = tt
among-every P (x ∷ xs) h = (h x (inl refl), among-every P xs (λ b a. h b (inr a)))

module _ (w : List ℕ) (p : Plan) (ok : check_of w ≡ accepted-plan p) where
  module _ (A B : List ℕ) (same : (b : ℕ) → b < 8 * payload_length w p → bit_at A b ≡ bit_at B b) where
    bits_of : (o : Owner) → SameBits w p o A B
    bits_of o = among-every (λ (b : ℕ). bit_at A b ≡ bit_at B b) (owner_bits w p o) (λ b a. same b (inside w p ok b o a))

    -- ---- owner by owner
    owner-bytes : (o : Owner) (s k : ℕ) → owns w p o s k ≡ true → SameBytes w p o (grid_of w p A) (grid_of w p B)
    owner-bytes (Crs q) s k h = crs-builds w p ok A B q
    owner-bytes (Sync Primary) s k h = pss-builds w p ok A B
    owner-bytes (Sync Secondary) s k h = sss-builds w p ok A B
    owner-bytes Pbch s k h = (pbch-builds w p ok A B).1 (bits_of Pbch)
    owner-bytes Pcfich s k h = pcfich-builds w p ok A B
    owner-bytes (Phich m) s k h = (unit-builds w p ok A B m (unit-owner w p m s k h)).1 (bits_of (Phich m))
    owner-bytes (UserOf i) s k h = (user-builds w p ok A B i (user-owner w p i s k h)).1 (bits_of (UserOf i))
    owner-bytes Held s k h = held-builds w p ok A B
    owner-bytes Idle s k h = idle-builds w p ok A B

    -- ---- byte i is byte i % 3 of the element i / 3, which is a place's on a port
    byte-same : (i : ℕ) → i < grid_length p → get_or (grid_of w p A) i 0 ≡ get_or (grid_of w p B) i 0
    byte-same i l =
        let T : ℕ = places_of p.cell in
        let e : ℕ = i / 3 in
        let port : ℕ = e / T in
        let t : ℕ = e % T in
        let s : ℕ = symbol_at p.cell t in
        let k : ℕ = carrier_at p.cell t in
        let some : 0 < carriers p.cell = some-carriers w p ok in
        let some-places : 0 < T = omega (arith, first-row p.cell) in
        let in-grid : e < p.cell.ports * T = omega (arith, length-by-port p) in
        let in-port : port < p.cell.ports = (div-lt_iff_lt-mul some-places).1 in-grid in
        let in-t : t < T = mod-lt e some-places in
        let in-s : s < symbols p.cell = symbol-inside p.cell some t in-t in
        let in-k : k < carriers p.cell = carrier-inside p.cell some t in
        let number : (port * symbols p.cell + s) * carriers p.cell + k ≡ e =
        number_is port (symbols p.cell) s (carriers p.cell) k ∙ ap (λ (n : ℕ). port * T + n) (place-both p.cell t) ∙ div-add-mod' e T in
        let three : e * 3 + i % 3 ≡ i = omega arith in
        let at : ((port * symbols p.cell + s) * carriers p.cell + k) * 3 + i % 3 ≡ i = ap (λ (n : ℕ). n * 3 + i % 3) number ∙ three in
        let owner = one-owner w p ok s k in-s in-k in
        ap (λ (n : ℕ). get_or (grid_of w p A) n 0) (sym at)
        ∙ owner-bytes owner.0 s k owner.1 port s k (i % 3) in-port (in-s, in-k) owner.1 (omega arith)
        ∙ ap (λ (n : ℕ). get_or (grid_of w p B) n 0) at

    -- THE LAW
    pub grid-of-bits : grid_of w p A ≡ grid_of w p B
    grid-of-bits =
        ext_get_or 0 (grid_of w p A) (grid_of w p B) (grid-size w p A ∙ sym (grid-size w p B)) (λ i l. byte-same i (omega (arith, grid-size w p A)))

  -- THE THEOREM: some accepted payload makes the grid exactly when the payload that is read from it does
  pub exact : (g : List ℕ) → ((A : List ℕ) × AcceptedPayload w p A × (grid_of w p A ≡ g)) ↔ (grid_of w p (payload_in w p g) ≡ g)
  exact g = (
    (λ h.
        ap (λ (x : List ℕ). grid_of w p (payload_in w p x)) (sym h.2)
        ∙ grid-of-bits (payload_in w p (grid_of w p h.0)) h.0 (same-bits-recovered w p ok h.0 h.1)
        ∙ h.2),
    (λ e. (payload_in w p g, accepted w p g, e)),
  )
