-- Sections that follow each other, for any list of them: where each starts, and that their bits and the spare bits fill the bytes.
-- Then a plan's: the users' starts as a running sum, and an accepted plan's as the code computes them. Assumes nothing.
use Prim.Native.Nat.{ℕ, zero, suc, ◌+◌, ◌-◌, ◌*◌, ◌<◌}
use mathlib.Core.Path.{◌≡◌, refl, sym, ap, ap₂, ◌∙◌}
use mathlib.Core.List.{List, [], ◌∷◌, ◌++◌, append_assoc}
use native.Mathlib.Nat.{not-suc-le-zero, le_of_suc-le-suc}
use native.Mathlib.Omega.{arith}
use lib.ListN.{length, take, get_or, length-append}
use lib.Seq.{take-append-add, get_or-append-add, take-length}
use Rattle.std.specs.declared.result.Result.TheVariants.{Ok as accepted}
use Rattle.base.specs.Tables.{table}
use Rattle.base.proofs.Tables.{table_at, table-length}
use Rattle.plan.specs.Check.{check_of}
use Rattle.plan.specs.CommandLists.{users_of, nth_user}
use Rattle.plan.specs.declared.Cell.{Cell}
use Rattle.plan.specs.declared.Frame.{Frame}
use Rattle.plan.specs.declared.User.{User}
use Rattle.plan.specs.declared.Plan.{Plan}
use Rattle.layout.specs.declared.Owner.TheVariants.{User as UserOf}
use Rattle.base.specs.Sums.{sum_to}
use Rattle.base.proofs.Sums.{sum_same}
use Rattle.counts.proofs.UserElements.{user-elements}
use Rattle.payload.specs.Sections.{section_bytes, bytes_of, start_of, span, section_bits, spare_at, spares_from}
use Rattle.payload.specs.Payload.{user_bit_count, heads, sections, payload_length, users_start}
use Rattle.payload.specs.Bits.{occurs, hi_bits, owner_bits}
use Rattle.payload.specs.Loops.{computed_bit_count, computed_sections}
use Rattle.payload.proofs.Sums.{sum_first, occurs-nil, occurs-append, occurs-span, within, within-split, within_none}

-- ---- positions one after the other
pub span-length : (a n : ℕ) → length (span a n) ≡ n
unfolding span
span-length a n = table-length n (λ (j : ℕ). a + j)

pub span-at : (a n i : ℕ) → i < n → get_or (span a n) i 0 ≡ a + i
unfolding span
span-at a n i h = table_at n (λ (j : ℕ). a + j) 0 i h

-- ---- sections one after the other
pub bytes-append : (xs ys : List ℕ) → bytes_of (xs ++ ys) ≡ bytes_of xs + bytes_of ys
unfolding bytes_of
bytes-append [] ys = omega arith
bytes-append (x ∷ xs) ys = omega (arith, bytes-append xs ys)

pub start-append : (xs ys : List ℕ) (i : ℕ) → start_of (xs ++ ys) (length xs + i) ≡ bytes_of xs + start_of ys i
unfolding start_of
start-append xs ys i = ap bytes_of (take-append-add xs ys i) ∙ bytes-append xs (take i ys)

-- a section starts where the one before ends
pub start-next : (ns : List ℕ) (i : ℕ) → i < length ns → start_of ns (suc i) ≡ start_of ns i + section_bytes (get_or ns i 0)
unfolding start_of bytes_of
start-next [] i h = absurd (not-suc-le-zero h)
start-next (n ∷ ns) zero h = omega arith
start-next (n ∷ ns) (suc i) h = omega (arith, start-next ns i (le_of_suc-le-suc h))

pub start-end : (ns : List ℕ) → start_of ns (length ns) ≡ bytes_of ns
unfolding start_of
start-end ns = ap bytes_of (take-length ns)

pub spares-append : (at : ℕ) (xs ys : List ℕ) → spares_from at (xs ++ ys) ≡ spares_from at xs ++ spares_from (at + bytes_of xs) ys
unfolding spares_from bytes_of
spares-append at [] ys = let e : at ≡ at + 0 = omega arith in ap (λ (k : ℕ). spares_from k ys) e
spares-append at (x ∷ xs) ys =
    let e : at + section_bytes x + bytes_of xs ≡ at + (section_bytes x + bytes_of xs) = omega arith in
    ap (λ (l : List ℕ). spare_at at x ++ l) (spares-append (at + section_bytes x) xs ys ∙ ap (λ (k : ℕ). spares_from (at + section_bytes x) xs ++ spares_from k ys) e)
    ∙ sym (append_assoc (spare_at at x) (spares_from (at + section_bytes x) xs) (spares_from (at + (section_bytes x + bytes_of xs)) ys))

-- ---- how often position b stands in the bits of the sections, the first of which starts at a byte
unfoldable pub fills : ℕ → List ℕ → ℕ → ℕ
fills at [] b = 0
fills at (n ∷ ns) b = within (8 * at) n b + fills (at + section_bytes n) ns b

-- THE LAW OF SECTIONS: with the spare bits, once in each of the bytes' bits
pub cover : (at : ℕ) (ns : List ℕ) (b : ℕ) → occurs b (spares_from at ns) + fills at ns b ≡ within (8 * at) (8 * bytes_of ns) b
unfolding spares_from spare_at fills bytes_of
cover at [] b = omega (arith, occurs-nil b, within_none (8 * at) b)
cover at (n ∷ ns) b =
    let s : ℕ = section_bytes n in
    let e : n + (8 * s - n) ≡ 8 * s = omega arith in
    let d : 8 * at + 8 * s ≡ 8 * (at + s) = omega arith in
    let t : 8 * s + 8 * bytes_of ns ≡ 8 * (s + bytes_of ns) = omega arith in
    omega (
      arith,
      occurs-append b (span (8 * at + n) (8 * s - n)) (spares_from (at + s) ns),
      occurs-span (8 * at + n) (8 * s - n) b,
      cover (at + s) ns b,
      within-split (8 * at) n (8 * s - n) b,
      ap (λ (k : ℕ). within (8 * at) k b) e,
      within-split (8 * at) (8 * s) (8 * bytes_of ns) b,
      ap (λ (k : ℕ). within k (8 * bytes_of ns) b) d,
      ap (λ (k : ℕ). within (8 * at) k b) t,
    )

-- the same as a sum over the sections' numbers
pub sections-sum : (at : ℕ) (ns : List ℕ) (b : ℕ) → sum_to (length ns) (λ i. within (8 * (at + start_of ns i)) (get_or ns i 0) b) ≡ fills at ns b
unfolding fills start_of bytes_of sum_to
sections-sum at [] b = refl
sections-sum at (n ∷ ns) b =
    let s : ℕ = section_bytes n in
    let e : at + 0 ≡ at = omega arith in
    sum_first (length ns) (λ i. within (8 * (at + start_of (n ∷ ns) i)) (get_or (n ∷ ns) i 0) b)
    ∙ ap₂ (λ (x y : ℕ). x + y)
    (ap (λ (k : ℕ). within (8 * k) n b) e)
    (sum_same (length ns) (λ i. within (8 * (at + (s + start_of ns i))) (get_or ns i 0) b) (λ i. within (8 * (at + s + start_of ns i)) (get_or ns i 0) b)
    (λ i l. let d : at + (s + start_of ns i) ≡ at + s + start_of ns i = omega arith in ap (λ (k : ℕ). within (8 * k) (get_or ns i 0) b) d)
    ∙ sections-sum (at + s) ns b)

-- ---- a plan's sections
module _ (w : List ℕ) (p : Plan) where
  -- the HIs' positions
  pub hi-length : length (hi_bits w p) ≡ p.his.count
  unfolding hi_bits section_bits sections heads
  hi-length = span-length (8 * start_of (sections w p) 1) p.his.count

  pub hi_at : (n : ℕ) → n < p.his.count → get_or (hi_bits w p) n 0 ≡ 8 * start_of (sections w p) 1 + n
  unfolding hi_bits section_bits sections heads
  hi_at n l = span-at (8 * start_of (sections w p) 1) p.his.count n l

  -- the users' sections
  abbrev pub Users : List ℕ
  Users = table (length (users_of w p)) (user_bit_count w p)

  pub users-length : length Users ≡ length (users_of w p)
  users-length = table-length (length (users_of w p)) (user_bit_count w p)

  pub length-is : payload_length w p ≡ users_start p + bytes_of Users
  unfolding payload_length sections users_start
  length-is = bytes-append (heads p) Users

  -- the byte at which user i's section starts, which is where the payload ends for the number after the last user's
  abbrev pub user_start : ℕ → ℕ
  user_start i = start_of (sections w p) (length (heads p) + i)

  pub user-start : (i : ℕ) → user_start i ≡ users_start p + start_of Users i
  unfolding sections users_start
  user-start i = start-append (heads p) Users i

  pub user-start-first : user_start 0 ≡ users_start p
  unfolding start_of bytes_of
  user-start-first = omega (arith, user-start 0)

  pub user-start-end : user_start (length (users_of w p)) ≡ payload_length w p
  user-start-end =
      user-start (length (users_of w p))
      ∙ ap (λ (i : ℕ). users_start p + start_of Users i) (sym users-length)
      ∙ ap (λ (k : ℕ). users_start p + k) (start-end Users)
      ∙ sym length-is

  module _ (i : ℕ) (l : i < length (users_of w p)) where
    pub user-number : length (heads p) + i < length (sections w p)
    unfolding sections
    user-number = omega (arith, length-append (heads p) Users, users-length)

    pub user-start-next : user_start (suc i) ≡ user_start i + section_bytes (user_bit_count w p i)
    user-start-next =
        omega (
          arith,
          user-start i,
          user-start (suc i),
          start-next Users i (omega (arith, users-length)),
          table_at (length (users_of w p)) (user_bit_count w p) 0 i l,
        )

    pub user-bits-at : owner_bits w p (UserOf i) ≡ span (8 * user_start i) (user_bit_count w p i)
    unfolding owner_bits section_bits sections
    user-bits-at =
        ap (λ (n : ℕ). span (8 * user_start i) n) (get_or-append-add (heads p) Users i 0 ∙ table_at (length (users_of w p)) (user_bit_count w p) 0 i l)

-- ---- THE LAW OF THE CODE'S SECTIONS: what it computes by the formula of a user's count is what the count of the user's places gives
computed-each :
    (c : Cell) (f : Frame) (d : User) (us : List User) (bits : ℕ → ℕ) → ((i : ℕ) → i < length us → bits i ≡ computed_bit_count c f (get_or us i d))
    → table (length us) bits ≡ computed_sections c f us
unfolding table computed_sections
computed-each c f d [] bits h = refl
computed-each c f d (u ∷ us) bits h =
    ap₂ (λ (n : ℕ) (ns : List ℕ). n ∷ ns) (h 0 (omega arith)) (computed-each c f d us (λ i. bits (suc i)) (λ i l. h (suc i) (omega arith)))

module _ (w : List ℕ) (p : Plan) (ok : check_of w ≡ accepted p) where
  pub bits-computed : (i : ℕ) → i < length (users_of w p) → user_bit_count w p i ≡ computed_bit_count p.cell p.frame (nth_user w p i)
  unfolding user_bit_count computed_bit_count nth_user
  bits-computed i l = ap (λ (n : ℕ). (nth_user w p i).order * n) (user-elements w p ok _ i l)

  pub users-computed : Users w p ≡ computed_sections p.cell p.frame (users_of w p)
  unfolding nth_user
  users-computed = computed-each p.cell p.frame _ (users_of w p) (user_bit_count w p) bits-computed

  pub sections-computed : sections w p ≡ heads p ++ computed_sections p.cell p.frame (users_of w p)
  unfolding sections
  sections-computed = ap (λ (ns : List ℕ). heads p ++ ns) users-computed
