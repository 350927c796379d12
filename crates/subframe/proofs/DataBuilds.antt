-- Two builds of one plan hold the same bytes at all of PBCH's elements exactly when the payloads agree in its bits, and so for each user.
-- Assumes nothing beyond the plan check's answer.
use Prim.Native.Nat.{ℕ, ◌+◌, ◌*◌, ◌<◌}
use mathlib.Core.Path.{◌≡◌, refl, sym, ap, ◌∙◌}
use mathlib.Core.Logic.{◌↔◌}
use mathlib.Core.List.{List}
use native.Mathlib.Omega.{arith}
use lib.ListN.{length}
use Rattle.std.specs.declared.result.Result.TheVariants.{Ok as accepted}
use Rattle.base.specs.declared.Pair.{Pair}
use Rattle.base.specs.Pairs.{Small}
use Rattle.gold.specs.Sequence.{c}
use Rattle.gold.proofs.Laws.{c_lt}
use Rattle.modulation.specs.Symbols.{Order, unit_of}
use Rattle.codeword.specs.Codewords.{data_symbol}
use Rattle.codeword.proofs.Laws.{order-symbol}
use Rattle.precoding.specs.Layers.{Occurs}
use Rattle.precoding.specs.Matrices.{precoded}
use Rattle.precoding.proofs.Diversity.{same-elements, same-symbols}
use Rattle.plan.specs.Check.{check_of}
use Rattle.plan.specs.CommandLists.{users_of, nth_user}
use Rattle.plan.specs.declared.Plan.{Plan}
use Rattle.layout.specs.declared.Owner.{Owner}
use Rattle.layout.specs.declared.Owner.TheVariants.{Pbch, User as UserOf}
use Rattle.counts.specs.Counts.{count_of}
use Rattle.places.specs.Places.{place_number, symbol_at, carrier_at, place_of, index_of}
use Rattle.payload.specs.Bits.{owner_bits}
use Rattle.subframe.specs.Elements.{owner_bit, pbch_first, pbch_symbol, user_init, user_symbol, element_for}
use Rattle.subframe.specs.Grid.{grid_of}
use Rattle.subframe.specs.TwoBuilds.{SameBytes, SameBits}
use Rattle.subframe.proofs.Owned.{SameElements, index-place, index-owned, index_back, same_bytes}
use Rattle.subframe.proofs.Occurs.{pbch-occurs, user-occurs}
use Rattle.subframe.proofs.OwnerBits.{bits-same, bit-two, symbols-of-bits, bits-of-symbols, pbch-size, user-order, user-size}

-- the owner's elements are those of the symbols d, in the unit u
abbrev pub Sends : List ℕ → Plan → Owner → ℕ → (ℕ → Pair) → List ℕ → Type 0
Sends w p o u d payload =
    (port s k : ℕ)
    → element_for w p payload o port s k ≡ precoded p.cell.ports (count_of w p o) u d (index_of w p o (place_number p.cell s k)) port

-- ---- a channel's elements and its symbols determine each other
module _ (w : List ℕ) (p : Plan) (ok : check_of w ≡ accepted p) (o : Owner) (u : ℕ) (A B : List ℕ) (d d' : ℕ → Pair) (sends : Sends w p o u d A) (sends' : Sends w p o u d' B) where
  elements-of-symbols : ((j : ℕ) → j < count_of w p o → d j ≡ d' j) → SameElements w p o A B
  elements-of-symbols h port s k in-port place own =
      sends port s k
      ∙ same-elements p.cell.ports (count_of w p o) u d d' h (index_of w p o (place_number p.cell s k)) port
      ∙ sym (sends' port s k)

  symbols-of-elements :
      Occurs p.cell.ports (count_of w p o) → ((j : ℕ) → Small 127 (d j)) → ((j : ℕ) → Small 127 (d' j))
      → SameElements w p o A B → (j : ℕ) → j < count_of w p o → d j ≡ d' j
  symbols-of-elements occurs small small' h j l =
      let s : ℕ = symbol_at p.cell (place_of w p o j) in
      let k : ℕ = carrier_at p.cell (place_of w p o j) in
      let back : index_of w p o (place_number p.cell s k) ≡ j = index_back w p ok o j l in
      same-symbols occurs u d d' j l (small j) (small' j)
      (λ port q.
      sym (sends port s k ∙ ap (λ (n : ℕ). precoded p.cell.ports (count_of w p o) u d n port) back)
      ∙ h port s k q (index-place w p ok o j l) (index-owned w p ok o j l)
      ∙ (sends' port s k ∙ ap (λ (n : ℕ). precoded p.cell.ports (count_of w p o) u d' n port) back))

-- ---- a channel of scrambled bits, Q to a symbol
module _
    (w : List ℕ) (p : Plan) (ok : check_of w ≡ accepted p) (o : Owner) (Q u : ℕ) (x : ℕ → ℕ)
    (order : Order Q)
    (two : (i : ℕ) → x i < 2)
    (size : length (owner_bits w p o) ≡ Q * count_of w p o)
    (occurs : Occurs p.cell.ports (count_of w p o))
    (sends : (payload : List ℕ) → Sends w p o u (data_symbol Q (owner_bit w p payload o) x) payload)
  where
    small : (b : ℕ → ℕ) (j : ℕ) → Small 127 (data_symbol Q b x j)
    small b j = let h = order-symbol Q order b x j in (omega arith, omega arith)

    module _ (A B : List ℕ) where
      elements-to-bits : SameElements w p o A B → SameBits w p o A B
      elements-to-bits h =
          (bits-same w p o A B).1
          (λ i l. bits-of-symbols Q (count_of w p o) (owner_bit w p A o) (owner_bit w p B o) x (omega arith) (bit-two w p o A) (bit-two w p o B) two
          (symbols-of-elements w p ok o u A B (data_symbol Q (owner_bit w p A o) x) (data_symbol Q (owner_bit w p B o) x) (sends A) (sends B) occurs
          (small (owner_bit w p A o)) (small (owner_bit w p B o)) h)
          i (omega arith))

      bits-to-elements : SameBits w p o A B → SameElements w p o A B
      bits-to-elements h =
          elements-of-symbols w p ok o u A B (data_symbol Q (owner_bit w p A o) x) (data_symbol Q (owner_bit w p B o) x) (sends A) (sends B)
          (symbols-of-bits Q (count_of w p o) (owner_bit w p A o) (owner_bit w p B o) x (λ n l. (bits-same w p o A B).0 h n (omega arith)))

      data-builds : SameBytes w p o (grid_of w p A) (grid_of w p B) ↔ SameBits w p o A B
      data-builds = (
        (λ h. elements-to-bits ((same_bytes w p ok o A B).0 h)),
        (λ h. (same_bytes w p ok o A B).1 (bits-to-elements h)),
      )

-- ---- PBCH and the users
abbrev pbch_scrambling : Plan → ℕ → ℕ
pbch_scrambling p i = c p.cell.identity (i + pbch_first p.cell p.frame)

abbrev user_scrambling : List ℕ → Plan → ℕ → ℕ → ℕ
user_scrambling w p i n = c (user_init p.cell p.frame (nth_user w p i)) n

pbch-sends : (w : List ℕ) (p : Plan) (payload : List ℕ) → Sends w p Pbch 2 (data_symbol 2 (owner_bit w p payload Pbch) (pbch_scrambling p)) payload
unfolding element_for pbch_symbol
pbch-sends w p payload port s k = refl

user-sends :
    (w : List ℕ) (p : Plan) (i : ℕ) (payload : List ℕ)
    → Sends w p (UserOf i) (unit_of (nth_user w p i).order) (data_symbol (nth_user w p i).order (owner_bit w p payload (UserOf i)) (user_scrambling w p i)) payload
unfolding element_for user_symbol
user-sends w p i payload port s k = refl

module _ (w : List ℕ) (p : Plan) (ok : check_of w ≡ accepted p) (A B : List ℕ) where
  pub pbch-builds : SameBytes w p Pbch (grid_of w p A) (grid_of w p B) ↔ SameBits w p Pbch A B
  pbch-builds =
      data-builds w p ok Pbch 2 2 (pbch_scrambling p) (omega arith) (λ i. c_lt p.cell.identity (i + pbch_first p.cell p.frame))
      (pbch-size w p ok) (pbch-occurs w p ok) (pbch-sends w p) A B

  pub user-builds :
      (i : ℕ) → i < length (users_of w p)
      → SameBytes w p (UserOf i) (grid_of w p A) (grid_of w p B) ↔ SameBits w p (UserOf i) A B
  user-builds i l =
      data-builds w p ok (UserOf i) (nth_user w p i).order (unit_of (nth_user w p i).order) (user_scrambling w p i)
      (user-order w p ok i l) (λ n. c_lt (user_init p.cell p.frame (nth_user w p i)) n)
      (user-size w p i l) (user-occurs w p ok i l) (user-sends w p i) A B
