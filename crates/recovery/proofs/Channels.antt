-- The bits of PBCH and of each user, read from the grid that was built, are the payload's. Assumes nothing beyond the plan check's
-- answer.
use Prim.Native.Nat.{ℕ, suc, ◌+◌, ◌-◌, ◌*◌, ◌/◌, ◌%◌, ◌<◌}
use mathlib.Core.Path.{◌≡◌, refl, ap, ◌∙◌}
use mathlib.Core.List.{List}
use native.Mathlib.Nat.{mul_comm, div-add-mod, div-lt_iff_lt-mul, mod-lt}
use native.Mathlib.Omega.{arith}
use lib.ListN.{length}
use Rattle.std.specs.declared.result.Result.TheVariants.{Ok as accepted}
use Rattle.base.specs.declared.Pair.{Pair}
use Rattle.base.specs.Bytes.{pair_of}
use Rattle.base.specs.Digits.{dig}
use Rattle.base.specs.Pairs.{Small}
use Rattle.gold.specs.Sequence.{c, binary}
use Rattle.gold.proofs.Binary.{binary-lt, binary-digit}
use Rattle.modulation.specs.Demapping.{Demapped, Word, demap_of}
use Rattle.modulation.specs.Symbols.{Order, unit_of, modulation_symbol as word_symbol}
use Rattle.modulation.proofs.Symbols.{demap-back}
use Rattle.codeword.specs.Codewords.{scrambled, data_symbol}
use Rattle.codeword.proofs.Laws.{scrambled-lt, order-symbol}
use Rattle.precoding.specs.Layers.{Occurs}
use Rattle.precoding.specs.Matrices.{precoded}
use Rattle.precoding.specs.Places.{own_port, partner_index}
use Rattle.precoding.proofs.Ports.{own-inside}
use Rattle.precoding.proofs.Diversity.{by_place}
use Rattle.plan.specs.Check.{check_of}
use Rattle.plan.specs.CommandLists.{users_of, nth_user}
use Rattle.plan.specs.declared.Plan.{Plan}
use Rattle.layout.specs.declared.Owner.{Owner}
use Rattle.layout.specs.declared.Owner.TheVariants.{Pbch, User as UserOf}
use Rattle.counts.specs.Counts.{count_of}
use Rattle.places.specs.Places.{symbol_at, carrier_at, place_of}
use Rattle.payload.specs.Sections.{start_of, section_bits}
use Rattle.payload.specs.Payload.{pbch_bit_count, user_bit_count, heads, sections}
use Rattle.payload.specs.Bits.{owner_bits}
use Rattle.payload.proofs.Sections.{span-length}
use Rattle.subframe.specs.Elements.{owner_bit, pbch_first, pbch_symbol, user_init, user_symbol, element_for}
use Rattle.subframe.specs.Grid.{grid_of}
use Rattle.subframe.proofs.DataBuilds.{Sends}
use Rattle.subframe.proofs.Owned.{index_back}
use Rattle.subframe.proofs.Occurs.{pbch-occurs, user-occurs}
use Rattle.subframe.proofs.OwnerBits.{bit-two, pbch-size, user-order}
use Rattle.recovery.specs.Recovery.{symbol_in, word_of, data_bit, pbch_bit, user_bit}
use Rattle.recovery.proofs.Symbols.{own_read, symbol-in}

-- ---- a scrambled bit from its symbol
unscrambled : (b x : ℕ → ℕ) (i : ℕ) → b i < 2 → (scrambled b x i + x i) % 2 ≡ b i
unfolding scrambled
unscrambled b x i two = omega arith

bit-back :
    (Q : ℕ) (b x : ℕ → ℕ) → 0 < Q → (i : ℕ) → b i < 2
    → (dig (word_of (demap_of Q (data_symbol Q b x (i / Q)))) (Q - 1 - i % Q) + x i) % 2 ≡ b i
unfolding data_symbol
bit-back Q b x some i two =
    let s : ℕ → ℕ = scrambled b x in
    let v : ℕ = binary s (Q * (i / Q)) Q in
    let r : i % Q < Q = mod-lt i some in
    let e : Q - 1 - i % Q + suc (i % Q) ≡ Q = omega arith in
    let d : demap_of Q (word_symbol Q v) ≡ Word v = demap-back Q v (binary-lt s (scrambled-lt b x) (Q * (i / Q)) Q) in
    ap (λ (n : ℕ). (n + x i) % 2)
    (ap (λ (m : Demapped). dig (word_of m) (Q - 1 - i % Q)) d
    ∙ binary-digit s (scrambled-lt b x) (Q * (i / Q)) Q (i % Q) (Q - 1 - i % Q) e
    ∙ ap s (div-add-mod i Q))
    ∙ unscrambled b x i two

-- ---- a channel of scrambled bits, Q to a symbol
module _
    (w : List ℕ) (p : Plan) (ok : check_of w ≡ accepted p) (A : List ℕ) (o : Owner) (Q u : ℕ) (x : ℕ → ℕ)
    (order : Order Q)
    (occurs : Occurs p.cell.ports (count_of w p o))
    (sends : Sends w p o u (data_symbol Q (owner_bit w p A o) x) A)
  where
    symbol-back : (j : ℕ) → j < count_of w p o → symbol_in w p (grid_of w p A) o (j / 2) j ≡ data_symbol Q (owner_bit w p A o) x j
    symbol-back j l =
        let d : ℕ → Pair = data_symbol Q (owner_bit w p A o) x in
        let q : ℕ = own_port p.cell.ports (j / 2) in
        let s : ℕ = symbol_at p.cell (place_of w p o j) in
        let k : ℕ = carrier_at p.cell (place_of w p o j) in
        let in-port : q < p.cell.ports = own-inside (j / 2) occurs in
        let h : Small 15 (d j) = order-symbol Q order (owner_bit w p A o) x j in
        symbol-in w p ok o A (j / 2) j l in-port
        ∙ ap pair_of
        (sends q s k
        ∙ ap (λ (n : ℕ). precoded p.cell.ports (count_of w p o) u d n q) (index_back w p ok o j l)
        ∙ by_place occurs u d j q l in-port)
        ∙ own_read p.cell.ports (j / 2) u (j % 2) (d j) (d (partner_index j)) (omega arith, omega arith)

    data-back : (i : ℕ) → i < Q * count_of w p o → data_bit w p (grid_of w p A) o Q x i ≡ owner_bit w p A o i
    unfolding data_bit
    data-back i l =
        let some : 0 < Q = omega arith in
        let k : i / Q < count_of w p o = (div-lt_iff_lt-mul some).1 (omega (arith, mul_comm Q (count_of w p o))) in
        ap (λ (y : Pair). (dig (word_of (demap_of Q y)) (Q - 1 - i % Q) + x i) % 2) (symbol-back (i / Q) k)
        ∙ bit-back Q (owner_bit w p A o) x some i (bit-two w p o A i)

-- ---- how many bits
module _ (w : List ℕ) (p : Plan) (ok : check_of w ≡ accepted p) where
  pub pbch-length : length (owner_bits w p Pbch) ≡ pbch_bit_count p.cell p.frame
  unfolding owner_bits section_bits sections heads
  pbch-length = span-length (8 * start_of (sections w p) 0) (pbch_bit_count p.cell p.frame)

  pbch-fits : (i : ℕ) → i < pbch_bit_count p.cell p.frame → i < 2 * count_of w p Pbch
  pbch-fits i l = omega (arith, pbch-length, pbch-size w p ok)

-- ---- THE LAWS
module _ (w : List ℕ) (p : Plan) (ok : check_of w ≡ accepted p) where
  pub pbch-recovered : (A : List ℕ) (i : ℕ) → i < pbch_bit_count p.cell p.frame → pbch_bit w p (grid_of w p A) i ≡ owner_bit w p A Pbch i
  unfolding pbch_bit element_for pbch_symbol
  pbch-recovered A i l =
      data-back w p ok A Pbch 2 2 (λ (n : ℕ). c p.cell.identity (n + pbch_first p.cell p.frame)) (omega arith) (pbch-occurs w p ok)
      (λ port s k. refl) i (pbch-fits w p ok i l)

  pub user-recovered :
      (i : ℕ) → i < length (users_of w p) → (A : List ℕ) (n : ℕ) → n < user_bit_count w p i
      → user_bit w p (grid_of w p A) i (nth_user w p i) n ≡ owner_bit w p A (UserOf i) n
  unfolding user_bit_count user_bit element_for user_symbol
  user-recovered i in-i A n l =
      data-back w p ok A (UserOf i) (nth_user w p i).order (unit_of (nth_user w p i).order) (c (user_init p.cell p.frame (nth_user w p i)))
      (user-order w p ok i in-i) (user-occurs w p ok i in-i) (λ port s k. refl) n l
