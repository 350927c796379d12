-- An owner's bits by their number among them, how many PBCH and a user have, and the symbols that they make. Assumes nothing beyond the
-- plan check's answer.
use Rattle.std.specs.Prelude.{if◌then◌else◌, Ok as accepted}
use Prim.Native.Nat.{ℕ, suc, ◌+◌, ◌*◌, ◌/◌, ◌%◌, ◌<◌, suc-le-suc}
use mathlib.Core.Path.{◌≡◌, refl, sym, ap, ◌∙◌}
use mathlib.Core.Logic.{◌↔◌}
use mathlib.Core.Bool.{Bool, true, false}
use mathlib.Core.List.{List, [], ◌∷◌}
use native.Mathlib.Nat.{zero-lt-suc, mul-suc, mul_comm, mul-le-mul_left, div-add-mod, div-lt_iff_lt-mul, mod-lt}
use native.Mathlib.Omega.{arith}
use lib.Dec.{eqb, leb, eqb→eq, leb→le}
use lib.ListN.{length, get_or}
use Rattle.base.specs.Bits.{bit_at}
use Rattle.modulation.specs.Symbols.{Order}
use Rattle.codeword.specs.Codewords.{data_symbol}
use Rattle.codeword.proofs.Laws.{symbols-same, symbol-bits}
use Rattle.plan.specs.Lists.{Among, Every}
use Rattle.plan.specs.Fields.{orders}
use Rattle.plan.specs.Check.{check_of}
use Rattle.plan.specs.CommandLists.{users_of, nth_user}
use Rattle.plan.specs.Valid.{UserIn}
use Rattle.plan.specs.declared.Plan.{Plan}
use Rattle.plan.proofs.Listed.{every-at}
use Rattle.plan.proofs.OneOf.{among-holds}
use Rattle.plan.proofs.Valid.{valid}
use Rattle.layout.specs.declared.Owner.{Owner}
use Rattle.layout.specs.declared.Owner.TheVariants.{Pbch, User as UserOf}
use Rattle.counts.proofs.FixedCounts.{pbch-count}
use Rattle.counts.specs.Counts.{count_of}
use Rattle.payload.specs.Sections.{start_of, span, section_bits}
use Rattle.payload.specs.Payload.{pbch_bit_count, user_bit_count, heads, sections}
use Rattle.payload.specs.Bits.{owner_bits}
use Rattle.payload.proofs.Sections.{span-length, user_start, user-bits-at}
use Rattle.subframe.specs.Elements.{owner_bit}
use Rattle.subframe.specs.TwoBuilds.{SameBits}

-- ---- by their numbers
pub at_every : {A : Type 0} (P : A → Type 0) (d : A) (xs : List A) → ((i : ℕ) → i < length xs → P (get_or xs i d)) → Every P xs
at_every P d [] h = tt
at_every P d (a ∷ xs) h = (h 0 (zero-lt-suc (length xs)), at_every P d xs (λ i l. h (suc i) (suc-le-suc l)))

module _ (w : List ℕ) (p : Plan) (o : Owner) where
  pub bits-same :
      (A B : List ℕ)
      → SameBits w p o A B ↔ ((i : ℕ) → i < length (owner_bits w p o) → owner_bit w p A o i ≡ owner_bit w p B o i)
  unfolding owner_bit
  bits-same A B = (
    (λ h i l. every-at (λ (b : ℕ). bit_at A b ≡ bit_at B b) 0 (owner_bits w p o) i h l),
    (λ h. at_every (λ (b : ℕ). bit_at A b ≡ bit_at B b) 0 (owner_bits w p o) h),
  )

  pub bit-two : (payload : List ℕ) (i : ℕ) → owner_bit w p payload o i < 2
  unfolding owner_bit bit_at
  bit-two payload i = omega arith

-- ---- Q bits to a symbol: Q × M bits and M symbols determine each other
module _ (Q M : ℕ) (b b' x : ℕ → ℕ) where
  pub symbols-of-bits : ((n : ℕ) → n < Q * M → b n ≡ b' n) → (j : ℕ) → j < M → data_symbol Q b x j ≡ data_symbol Q b' x j
  symbols-of-bits h j l = symbols-same Q b b' x j (λ i k. h i (omega (arith, mul-suc Q j, mul-le-mul_left Q l)))

  pub bits-of-symbols :
      0 < Q → ((i : ℕ) → b i < 2) → ((i : ℕ) → b' i < 2) → ((i : ℕ) → x i < 2)
      → ((j : ℕ) → j < M → data_symbol Q b x j ≡ data_symbol Q b' x j) → (n : ℕ) → n < Q * M → b n ≡ b' n
  bits-of-symbols some two two' twox h n l =
      let e : Q * (n / Q) + n % Q ≡ n = div-add-mod n Q in
      let k : n / Q < M = (div-lt_iff_lt-mul some).1 (omega (arith, mul_comm Q M)) in
      ap b (sym e) ∙ symbol-bits Q b b' x (n / Q) two two' twox (h (n / Q) k) (n % Q) (mod-lt n some) ∙ ap b' e

-- ---- how many PBCH and a user have
pbch-twice : (a b : Bool) → (if a then (if b then 432 else 480) else 0) ≡ 2 * (if a then (if b then 216 else 240) else 0)
pbch-twice true true = refl
pbch-twice true false = refl
pbch-twice false b = refl

-- a user's order is a modulation's
pub order-of : (q : ℕ) → Among q orders → Order q
order-of q h = (
  eqb→eq (q % 2) 0 (among-holds (λ (n : ℕ). eqb (n % 2) 0) orders q tt h),
  leb→le 2 q (among-holds (λ (n : ℕ). leb 2 n) orders q tt h),
  leb→le q 8 (among-holds (λ (n : ℕ). leb n 8) orders q tt h),
)

module _ (w : List ℕ) (p : Plan) where
  pub user-size : (i : ℕ) → i < length (users_of w p) → length (owner_bits w p (UserOf i)) ≡ (nth_user w p i).order * count_of w p (UserOf i)
  unfolding user_bit_count
  user-size i l = ap length (user-bits-at w p i l) ∙ span-length (8 * user_start w p i) (user_bit_count w p i)

  pbch-span : owner_bits w p Pbch ≡ span (8 * start_of (sections w p) 0) (pbch_bit_count p.cell p.frame)
  unfolding owner_bits section_bits sections heads
  pbch-span = refl

module _ (w : List ℕ) (p : Plan) (ok : check_of w ≡ accepted p) where
  -- PBCH has two bits to a place
  pub pbch-both : pbch_bit_count p.cell p.frame ≡ 2 * count_of w p Pbch
  unfolding pbch_bit_count
  pbch-both = pbch-twice (eqb p.frame.subframe 0) (eqb p.cell.prefix 1) ∙ ap (λ (n : ℕ). 2 * n) (sym (pbch-count w p ok))

  pub pbch-size : length (owner_bits w p Pbch) ≡ 2 * count_of w p Pbch
  pbch-size = ap length (pbch-span w p) ∙ span-length (8 * start_of (sections w p) 0) (pbch_bit_count p.cell p.frame) ∙ pbch-both

  pub user-order : (i : ℕ) → i < length (users_of w p) → Order (nth_user w p i).order
  unfolding nth_user
  user-order i l = order-of (nth_user w p i).order (every-at (UserIn p.cell) (record { rnti = 0; order = 0; first = 0; count = 0 }) (users_of w p) i (valid w p ok).users l).order
