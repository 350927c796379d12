-- A CHANNEL'S SYMBOLS MADE AGAIN: a symbol that some bits have is the one that its own bits make; and a grid that holds the elements of
-- the payload in it has such symbols. PBCH and the users alike. Assumes nothing beyond the plan check's answer.
use Prim.Native.Nat.{ℕ, ◌+◌, ◌-◌, ◌*◌, ◌/◌, ◌%◌, ◌^◌, ◌<◌}
use mathlib.Core.Path.{◌≡◌, refl, sym, ap, ◌∙◌}
use mathlib.Core.Bool.{true}
use mathlib.Core.List.{List}
use native.Mathlib.Nat.{mul_comm, mul-suc, mul-le-mul_left}
use native.Mathlib.Omega.{arith}
use borrow.Author.Tests.{eq-eqb}
use lib.Dec.{eqb}
use Rattle.std.specs.declared.result.Result.TheVariants.{Ok as accepted}
use Rattle.base.specs.declared.Pair.{Pair}
use Rattle.base.specs.declared.Element.{Element}
use Rattle.base.specs.Bytes.{pair_of}
use Rattle.base.specs.Digits.{dig, dig-two}
use Rattle.base.specs.Pairs.{Small}
use Rattle.base.proofs.Rows.{at-div, at-mod}
use Rattle.gold.specs.Sequence.{binary}
use Rattle.gold.proofs.Binary.{binary-lt, binary-digit}
use Rattle.modulation.specs.Demapping.{Demapped, Word, demap_of}
use Rattle.modulation.specs.Marks.{is_symbol}
use Rattle.modulation.specs.Symbols.{Order, modulation_symbol}
use Rattle.modulation.proofs.Constellation.{symbol-known, word-of}
use Rattle.codeword.specs.Codewords.{scrambled, data_symbol}
use Rattle.codeword.proofs.Laws.{scrambled-lt, order-symbol}
use Rattle.precoding.specs.Layers.{Occurs}
use Rattle.precoding.specs.Matrices.{precoded}
use Rattle.precoding.specs.Places.{own_port, partner_index, placed}
use Rattle.plan.specs.Check.{check_of}
use Rattle.plan.specs.declared.Plan.{Plan}
use Rattle.layout.specs.declared.Owner.{Owner}
use Rattle.counts.specs.Counts.{count_of}
use Rattle.places.specs.Places.{places_of, owns_at, place_of, index_of}
use Rattle.places.proofs.Listing.{listed}
use Rattle.grid.specs.Writing.{sends, Room}
use Rattle.compare.specs.Comparing.{Holds}
use Rattle.subframe.specs.Elements.{owner_bit}
use Rattle.subframe.proofs.DataBuilds.{Sends}
use Rattle.recovery.specs.Recovery.{word_of, symbol_in, data_bit, payload_in}
use Rattle.recovery.proofs.Digits.{digits_same}
use Rattle.recovery.proofs.Symbols.{own_pair, own_read}
use Rattle.schedule.specs.Senders.{active, owner_sends}
use Rattle.schedule.proofs.Some.{and-true}
use Rattle.schedule.proofs.Numbered.{sends-port, placed-is, numbered, place-number, index-lt}
use Rattle.verify.specs.Made.{element_due}

-- ---- a word's bits with the scrambling taken off, scrambled again
twice : (d y : ℕ) → d < 2 → ((d + y) % 2 + y) % 2 ≡ d
twice d y l = omega arith

word-again :
    (Q : ℕ) (b x : ℕ → ℕ) (k v : ℕ) → v < 2 ^ Q → ((i : ℕ) → i < Q → b (k + i) ≡ (dig v (Q - 1 - i) + x (k + i)) % 2)
    → binary (scrambled b x) k Q ≡ v
unfolding scrambled
word-again Q b x k v small bits =
    digits_same Q (binary (scrambled b x) k Q) v (binary-lt (scrambled b x) (scrambled-lt b x) k Q) small
    (λ n l.
    let i : ℕ = Q - 1 - n in
    let back : Q - 1 - i ≡ n = omega arith in
    binary-digit (scrambled b x) (scrambled-lt b x) k Q i n (omega arith)
    ∙ ap (λ (y : ℕ). (y + x (k + i)) % 2) (bits i (omega arith))
    ∙ twice (dig v (Q - 1 - i)) (x (k + i)) (dig-two v (Q - 1 - i))
    ∙ ap (dig v) back)

-- ---- the elements of an owner's places with symbols d
abbrev pub sent_by : List ℕ → Plan → Owner → ℕ → (ℕ → Pair) → ℕ → Element
sent_by w p o u d e =
    let j = index_of w p o (e % places_of p.cell) in placed p.cell.ports (j / 2 % 2) u d j (e / places_of p.cell)

module _
    (w : List ℕ) (p : Plan) (ok : check_of w ≡ accepted p) (g : List ℕ)
    (room : Room p.cell.ports (places_of p.cell) g)
    (o : Owner) (Q u : ℕ) (x : ℕ → ℕ)
    (order : Order Q)
    (occurs : Occurs p.cell.ports (count_of w p o))
    (sent : Sends w p o u (data_symbol Q (owner_bit w p (payload_in w p g) o) x) (payload_in w p g))
    (bits : (i : ℕ) → i < Q * count_of w p o → owner_bit w p (payload_in w p g) o i ≡ data_bit w p g o Q x i)
    (pairs : (t q : ℕ) → active w p o t q ≡ sends p.cell.ports (index_of w p o t / 2 % 2) q)
  where
    abbrev P : ℕ
    P = p.cell.ports

    abbrev T : ℕ
    T = places_of p.cell

    abbrev M : ℕ
    M = count_of w p o

    -- the symbols of the payload in the grid, and those in the grid
    abbrev d : ℕ → Pair
    d = data_symbol Q (owner_bit w p (payload_in w p g) o) x

    abbrev S : ℕ → Pair
    S j = symbol_in w p g o (j / 2) j

    -- ---- a symbol that some bits have is made again
    bit-again :
        (j v i : ℕ) → j < M → i < Q → demap_of Q (S j) ≡ Word v
        → owner_bit w p (payload_in w p g) o (Q * j + i) ≡ (dig v (Q - 1 - i) + x (Q * j + i)) % 2
    unfolding data_bit
    bit-again j v i l r e =
        let k : Q * j ≡ j * Q = mul_comm Q j in
        let whole : (Q * j + i) / Q ≡ j = ap (λ (n : ℕ). (n + i) / Q) k ∙ at-div j Q i r in
        let rest : (Q * j + i) % Q ≡ i = ap (λ (n : ℕ). (n + i) % Q) k ∙ at-mod j Q i r in
        bits (Q * j + i) (omega (arith, mul-suc Q j, mul-le-mul_left Q l))
        ∙ ap (λ (n : ℕ). (dig (word_of (demap_of Q (S n))) (Q - 1 - (Q * j + i) % Q) + x (Q * j + i)) % 2) whole
        ∙ ap (λ (n : ℕ). (dig (word_of (demap_of Q (S j))) (Q - 1 - n) + x (Q * j + i)) % 2) rest
        ∙ ap (λ (m : Demapped). (dig (word_of m) (Q - 1 - i) + x (Q * j + i)) % 2) e

    symbol-again : (j : ℕ) → j < M → is_symbol Q (S j) ≡ true → d j ≡ S j
    unfolding data_symbol
    symbol-again j l known =
        let v = word-of Q (S j) order known in
        ap (modulation_symbol Q) (word-again Q (owner_bit w p (payload_in w p g) o) x (Q * j) v.0 v.2 (λ i r. bit-again j v.0 i l r v.1)) ∙ v.3

    -- ---- an element that is sent: its owner, its port
    parts : (e : ℕ) → owner_sends w p o e ≡ true → (owns_at w p o (e % T) ≡ true) × (e / T < P)
    unfolding owner_sends
    parts e h =
        let a = and-true (owns_at w p o (e % T)) (active w p o (e % T) (e / T)) h in
        (a.0, sends-port room (index_of w p o (e % T) / 2 % 2) (e / T) (sym (pairs (e % T) (e / T)) ∙ a.1))

    -- it is the one of the payload's symbols, and of any that are the same
    sent-due : (d' : ℕ → Pair) → ((j : ℕ) → j < M → d' j ≡ d j) → (e : ℕ) → owner_sends w p o e ≡ true → sent_by w p o u d' e ≡ element_due w p g e
    sent-due d' same e h =
        let a = parts e h in
        let j : ℕ = index_of w p o (e % T) in
        placed-is occurs u d' d same j (e / T) (index-lt w p ok o e a.0) a.1
        ∙ ap (λ (t : ℕ). precoded P M u d (index_of w p o t) (e / T)) (sym (place-number w p ok e))
        ∙ sym (sent (e / T) _ _)
        ∙ sym (numbered w p ok (payload_in w p g) o e a.0)

    -- ---- the symbol of index j stands on its own port
    module _ (j : ℕ) (l : j < M) where
      abbrev at : ℕ
      at = own_port P (j / 2) * T + place_of w p o j

      at-port : at / T ≡ own_port P (j / 2)
      at-port = at-div (own_port P (j / 2)) T (place_of w p o j) ((listed w p ok o).inside j l)

      at_place : at % T ≡ place_of w p o j
      at_place = at-mod (own_port P (j / 2)) T (place_of w p o j) ((listed w p ok o).inside j l)

      at-index : index_of w p o (at % T) ≡ j
      at-index = ap (index_of w p o) at_place ∙ (listed w p ok o).back j l

      at-sent : owner_sends w p o at ≡ true
      unfolding owner_sends sends
      at-sent =
          let own : owns_at w p o (at % T) ≡ true = ap (owns_at w p o) at_place ∙ (listed w p ok o).owned j l in
          let port : eqb (at / T) (own_port P (index_of w p o (at % T) / 2 % 2)) ≡ true =
          eq-eqb _ _ (at-port ∙ sym (own_pair P (j / 2)) ∙ ap (λ (n : ℕ). own_port P (n / 2 % 2)) (sym at-index)) in
          rw (own, pairs (at % T) (at / T), port) refl

      read : Holds (owner_sends w p o) (element_due w p g) g → S j ≡ d j
      unfolding symbol_in
      read h =
          let small : Small 15 (d j) = order-symbol Q order (owner_bit w p (payload_in w p g) o) x j in
          ap pair_of
          (h.elements at at-sent
          ∙ sym (sent-due d (λ n r. refl) at at-sent)
          ∙ ap (λ (n : ℕ). placed P (n / 2 % 2) u d n (at / T)) at-index
          ∙ ap (placed P (j / 2 % 2) u d j) at-port)
          ∙ own_read P (j / 2) u (j % 2) (d j) (d (partner_index j)) (omega arith, omega arith)

    -- ---- THE LAWS: the grid holds what its own symbols give, and some bits have these, just where it holds the payload's elements
    pub to-due : ((j : ℕ) → j < M → is_symbol Q (S j) ≡ true) → Holds (owner_sends w p o) (sent_by w p o u S) g → Holds (owner_sends w p o) (element_due w p g) g
    to-due known h = record { elements = λ e k. h.elements e k ∙ sent-due S (λ j l. sym (symbol-again j l (known j l))) e k }

    pub due-known : Holds (owner_sends w p o) (element_due w p g) g → (j : ℕ) → j < M → is_symbol Q (S j) ≡ true
    unfolding data_symbol
    due-known h j l = rw (read j l h) (symbol-known Q (binary (scrambled (owner_bit w p (payload_in w p g) o) x) (Q * j) Q) order)

    pub from-due : Holds (owner_sends w p o) (element_due w p g) g → Holds (owner_sends w p o) (sent_by w p o u S) g
    from-due h = record { elements = λ e k. h.elements e k ∙ sym (sent-due S (λ j l. read j l h) e k) }
