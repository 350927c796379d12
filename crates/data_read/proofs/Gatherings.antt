-- THE LAWS OF READING: symbols one after the other, from any elements. Assumes what reading needs.
use Prim.Native.Nat.{ℕ, ◌+◌, ◌-◌, ◌*◌, ◌/◌, ◌^◌, ◌≤◌, ◌<◌}
use mathlib.Core.Path.{◌≡◌, refl, sym, ap, ◌∙◌, subst}
use mathlib.Core.List.{List}
use native.Mathlib.Nat.{mul-add, mul_comm, mul-zero, mul-le-mul_left}
use native.Mathlib.Decide.{dec_le}
use native.Mathlib.Omega.{arith}
use Rattle.gold.specs.Sequence.{binary}
use Rattle.codeword.specs.Bits48.{Groups}
use Rattle.codeword.proofs.Taking.{few-left}
use Rattle.section_bits.specs.declared.SectionBits.{SectionBits}
use Rattle.section_bits.specs.Gathering.{Bits, bits_in, State, GiveIn, Gives}
use Rattle.data_read.specs.Runs.{Stands, Reading, ReadOn}

-- the bits of c symbols after those of a
pub bits-on : (q a c b : ℕ) → a + c ≡ b → q * a + c * q ≡ q * b
bits-on q a c b e = ap (λ (x : ℕ). q * a + x) (mul_comm c q) ∙ sym (mul-add q a c) ∙ ap (λ (x : ℕ). q * x) e

-- where whole groups of u bits are taken in, the word has room for n
room_in : {u n : ℕ} {st : SectionBits} → Groups u n → State st → (k : ℕ) → bits_in st ≡ u * k → st.held + n ≤ 64
room_in {u} {n} {st} g s k e = pick (dec_le u (48 - st.held))
  where
    sum : u * k + (48 - st.held) ≡ 48 * (st.at / 6 + 1)
    sum = omega (arith, s.few, s.whole)

    pick : Dec (u ≤ 48 - st.held) → st.held + n ≤ 64
    pick (yes l) = omega (arith, g.size, g.few, s.few, mul-add u g.before 1)
    pick (no l) = absurd (omega (arith, few-left u g.words k (st.at / 6) (48 - st.held) 0 g.divides sum (omega arith), s.few, mul-zero u))

-- what `give` needs for c symbols
pub give-in :
    {q j c n u v : ℕ} {d : List ℕ} {st : SectionBits} {part : List ℕ} → Reading q j c d st part → n ≡ c * q → Groups u n → (k : ℕ) → q * j ≡ u * k → v < 2 ^ n → GiveIn n v st part
give-in {q} {j} {c} h en g k ek less =
    record {
      state = h.state;
      fits = room_in g h.state k (h.stands ∙ ek);
      most = g.most;
      value = less;
      room = omega (arith, h.stands, h.room, bits-on q j c (j + c) refl);
    }

pub read-fewer : {q j n m : ℕ} {d : List ℕ} {st : SectionBits} {part : List ℕ} → Reading q j n d st part → m ≤ n → Reading q j m d st part
read-fewer {q} {j} {n} {m} h l =
    let k : q * (j + m) ≤ q * (j + n) = mul-le-mul_left q (omega arith) in
    record { table = h.table; state = h.state; stands = h.stands; room = omega (arith, h.room) }

module _ {q j : ℕ} {e : ℕ → ℕ} {d g : List ℕ} {st : SectionBits} {part : List ℕ} where
  pub read_none : {n : ℕ} → Reading q j n d st part → ReadOn q j 0 e d g st part st part
  read_none h =
      let z : j ≡ j + 0 = omega arith in
      record { state = h.state; size = refl; stands = h.stands ∙ ap (λ (x : ℕ). q * x) z; gathers = λ b r two s k. k }

  pub read_same : {n : ℕ} {f : ℕ → ℕ} {st' : SectionBits} {part' : List ℕ} → ((i : ℕ) → i < n → e i ≡ f i) → ReadOn q j n e d g st part st' part' → ReadOn q j n f d g st part st' part'
  read_same same o =
      record {
        state = o.state;
        size = o.size;
        stands = o.stands;
        gathers = λ b r two s k. o.gathers b r two (λ i l. subst (Stands q d g b (j + i)) (sym (same i l)) (s i l)) k;
      }

  module _ {m : ℕ} {st' : SectionBits} {part' : List ℕ} (o : ReadOn q j m e d g st part st' part') where
    -- c more may be read
    pub read-later : {n : ℕ} → Reading q j n d st part → (c : ℕ) → m + c ≤ n → Reading q (j + m) c d st' part'
    read-later {n} h c l =
        let k : q * (j + m + c) ≤ q * (j + n) = mul-le-mul_left q (omega arith) in
        record { table = h.table; state = o.state; stands = o.stands; room = omega (arith, h.room, o.size) }

    -- c more are given
    pub read-give :
        {n v : ℕ} {st'' : SectionBits} {part'' : List ℕ} (c to : ℕ) → n ≡ c * q → to ≡ m + c → Gives n v st' part' st'' part''
        → ((b : ℕ → ℕ) → Bits b → ((k : ℕ) → m ≤ k → k < to → Stands q d g b (j + k) (e k)) → v ≡ binary b (q * (j + m)) n)
        → ReadOn q j to e d g st part st'' part''
    read-give {n} {v} c to en et x is =
        record {
          state = x.state;
          size = x.size ∙ o.size;
          stands = omega (arith, x.taken, o.stands, bits-on q (j + m) c (j + to) (omega arith));
          gathers = λ b r two s k.
              x.gathers b r two (is b two (λ i h l. s i l) ∙ ap (λ (i : ℕ). binary b i n) (sym o.stands))
              (o.gathers b r two (λ i l. s i (omega arith)) k);
        }

    -- c more are read
    pub read_join :
        {c to : ℕ} {f : ℕ → ℕ} {st'' : SectionBits} {part'' : List ℕ} → to ≡ m + c → ReadOn q (j + m) c f d g st' part' st'' part'' → ((i : ℕ) → i < c → f i ≡ e (m + i))
        → ReadOn q j to e d g st part st'' part''
    read_join {c} {to} {f} et x same =
        record {
          state = x.state;
          size = x.size ∙ o.size;
          stands = x.stands ∙ ap (λ (i : ℕ). q * i) (omega arith);
          gathers = λ b r two s k.
              x.gathers b r two
              (λ i l. let a : j + (m + i) ≡ j + m + i = omega arith in
              subst (Stands q d g b (j + m + i)) (sym (same i l)) (subst (λ (y : ℕ). Stands q d g b y (e (m + i))) a (s (m + i) (omega arith))))
              (o.gathers b r two (λ i l. s i (omega arith)) k);
        }
