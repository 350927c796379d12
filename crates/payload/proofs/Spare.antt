-- The spare bits, as the code looks at them: the lowest bits of a section's last byte. Assumes nothing.
use Prim.Native.Nat.{ℕ, zero, suc, ◌+◌, ◌-◌, ◌*◌, ◌/◌, ◌%◌, ◌^◌, ◌≤◌, ◌<◌}
use mathlib.Core.Path.{◌≡◌, refl, sym, ap, ap₂, ◌∙◌}
use mathlib.Core.Bool.{Bool, true, false, not, ◌&&◌}
use mathlib.Core.List.{List, [], ◌∷◌, ◌++◌}
use native.Mathlib.Nat.{mod-one}
use native.Mathlib.Omega.{arith}
use lib.Dec.{eqb, eqb→eq}
use lib.ListN.{length, drop, get_or}
use lib.Pow.{pow_pos, mod-pow-add}
use borrow.Author.Tests.{eq-eqb, ne_eqb}
use Rattle.std.specs.declared.result.Result.TheVariants.{Ok as accepted}
use Rattle.base.specs.Bits.{bit_at}
use Rattle.base.specs.Tables.{table}
use Rattle.base.proofs.Computed.{below_at}
use Rattle.base.proofs.Tables.{table_same}
use Rattle.plan.specs.Lists.{none_of}
use Rattle.plan.specs.Commands.{user_of}
use Rattle.plan.specs.Check.{check_of}
use Rattle.plan.specs.CommandLists.{next_of, users_from, users_of}
use Rattle.plan.specs.declared.Cell.{Cell}
use Rattle.plan.specs.declared.Frame.{Frame}
use Rattle.plan.specs.declared.User.{User}
use Rattle.plan.specs.declared.Plan.{Plan}
use Rattle.plan.proofs.CommandLists.{commands-zero}
use Rattle.payload.specs.Sections.{section_bytes, bytes_of, span, spare_at, spares_from}
use Rattle.payload.specs.Payload.{pbch_bit_count, heads, payload_length, users_start, spare_bits, none_set, spare_clear}
use Rattle.payload.specs.Loops.{computed_bit_count, computed_sections}
use Rattle.payload.proofs.Sections.{length-is, users-computed, sections-computed, spares-append}
use Rattle.payload.proofs.Lengths.{next-user, bytes_next}

-- ---- the k lowest bits of a byte, the most significant of them first
span-first : (a n : ℕ) → span a (suc n) ≡ a ∷ span (a + 1) n
unfolding span table
span-first a n =
    let e : a + 0 ≡ a = omega arith in
    ap₂ (λ (x : ℕ) (l : List ℕ). x ∷ l) e (table_same n (λ j. a + suc j) (λ j. a + 1 + j) (λ j. omega arith))

-- one bit more: d is bit k, m the k bits below it
more-low : (d m q : ℕ) → d < 2 → 0 < q → not (eqb d 1) && eqb m 0 ≡ eqb (d * q + m) 0
more-low zero m q h l = let e : 0 * q + m ≡ m = omega arith in rw e refl
more-low (suc zero) m q h l = sym (ne_eqb (1 * q + m) 0 (λ e. omega arith))
more-low (suc (suc d)) m q h l = absurd (omega arith)

low-more : (v k : ℕ) → v % 2 ^ suc k ≡ (v / 2 ^ k % 2) * 2 ^ k + v % 2 ^ k
low-more v k = let e : suc k ≡ 1 + k = omega arith in ap (λ (n : ℕ). v % 2 ^ n) e ∙ mod-pow-add v 1 k

bit-of : (s : List ℕ) (last k : ℕ) → k < 8 → bit_at s (8 * last + (7 - k)) ≡ get_or s last 0 / 2 ^ k % 2
unfolding bit_at
bit-of s last k h =
    let i : (8 * last + (7 - k)) / 8 ≡ last = omega arith in
    let j : 7 - (8 * last + (7 - k)) % 8 ≡ k = omega arith in
    ap₂ (λ (x y : ℕ). get_or s x 0 / 2 ^ y % 2) i j

low_clear : (s : List ℕ) (last k : ℕ) → k ≤ 8 → none_set s (span (8 * last + (8 - k)) k) ≡ eqb (get_or s last 0 % 2 ^ k) 0
unfolding none_set none_of span table
low_clear s last zero h = sym (eq-eqb (get_or s last 0 % 1) 0 (mod-one (get_or s last 0)))
low_clear s last (suc k) h =
    let v : ℕ = get_or s last 0 in
    let e : 8 - suc k ≡ 7 - k = omega arith in
    let d : 8 * last + (8 - suc k) + 1 ≡ 8 * last + (8 - k) = omega arith in
    ap (none_set s) (span-first (8 * last + (8 - suc k)) k)
    ∙ ap₂ (λ (x : ℕ) (y : Bool). not (eqb x 1) && y)
    (ap (λ (n : ℕ). bit_at s (8 * last + n)) e ∙ bit-of s last k (omega arith))
    (ap (λ (n : ℕ). none_set s (span n k)) d ∙ low_clear s last k (omega arith))
    ∙ more-low (v / 2 ^ k % 2) (v % 2 ^ k) (2 ^ k) (omega arith) (pow_pos k)
    ∙ sym (ap (λ (n : ℕ). eqb n 0) (low-more v k))

-- ---- a section
shifted : (used : ℕ) → used < 8 → 256 / 2 ^ used ≡ 2 ^ (8 - used)
shifted used h = eqb→eq (256 / 2 ^ used) (2 ^ (8 - used)) (below_at (λ u. eqb (256 / 2 ^ u) (2 ^ (8 - u))) 8 tt used h)

pub shifted-some : (used : ℕ) → used < 8 → 0 < 256 / 2 ^ used
shifted-some used h = rw (shifted used h) (pow_pos (8 - used))

module _ (s : List ℕ) (at n : ℕ) where
  pub whole-clear : n % 8 ≡ 0 → true ≡ none_set s (spare_at at n)
  unfolding none_set none_of spare_at span table
  whole-clear e = let z : 8 * section_bytes n - n ≡ 0 = omega arith in rw z refl

  pub last-clear : (n % 8 ≡ 0 → ⊥) → eqb (get_or s (at + n / 8) 0 % (256 / 2 ^ (n % 8))) 0 ≡ none_set s (spare_at at n)
  unfolding spare_at
  last-clear ne =
      let u : ℕ = n % 8 in
      let a : 8 * (at + n / 8) + (8 - (8 - u)) ≡ 8 * at + n = omega arith in
      let k : 8 - u ≡ 8 * section_bytes n - n = omega arith in
      ap (λ (q : ℕ). eqb (get_or s (at + n / 8) 0 % q) 0) (shifted u (omega arith))
      ∙ sym (low_clear s (at + n / 8) (8 - u) (omega arith))
      ∙ ap₂ (λ (x y : ℕ). none_set s (span x y)) a k

none-append : (s xs ys : List ℕ) → none_set s (xs ++ ys) ≡ none_set s xs && none_set s ys
unfolding none_set none_of
none-append s [] ys = refl
none-append s (x ∷ xs) ys = ap (λ (t : Bool). not (eqb (bit_at s x) 1) && t) (none-append s xs ys) ∙ sym (and_assoc (not (eqb (bit_at s x) 1)) (none_set s xs) (none_set s ys))
  where
    and_assoc : (a b d : Bool) → (a && b) && d ≡ a && (b && d)
    and_assoc true b d = refl
    and_assoc false b d = refl

-- one section, and those after it
spares-clear : (s : List ℕ) (at n : ℕ) (ns : List ℕ) → none_set s (spares_from at (n ∷ ns)) ≡ none_set s (spare_at at n) && none_set s (spares_from (at + section_bytes n) ns)
unfolding spares_from
spares-clear s at n ns = none-append s (spare_at at n) (spares_from (at + section_bytes n) ns)

spares-none : (s : List ℕ) (at : ℕ) → none_set s (spares_from at []) ≡ true
unfolding none_set none_of spares_from
spares-none s at = refl

-- ---- the loop of users_clear
pub record Clearing (w : List ℕ) (c : Cell) (f : Frame) (start count : ℕ) (s : List ℕ) (first byte at left : ℕ) : Type 0 where
  pub room : byte + bytes_of (computed_sections c f (users_from (drop at w) left)) ≤ length s
  pub same : none_set s (spares_from byte (computed_sections c f (users_from (drop at w) left))) ≡ none_set s (spares_from first (computed_sections c f (users_from (drop start w) count)))

module _ {w : List ℕ} {c : Cell} {f : Frame} {start count : ℕ} {s : List ℕ} {first byte at left : ℕ} (g : Clearing w c f start count s first byte at left) where
  pub clearing-end : left ≤ 0 → true ≡ none_set s (spares_from first (computed_sections c f (users_from (drop start w) count)))
  unfolding computed_sections
  clearing-end h =
      sym (ap (λ (l : List User). none_set s (spares_from byte (computed_sections c f l))) (commands-zero user_of (drop at w) left (omega arith)) ∙ spares-none s byte) ∙ g.same

  module _ (h : 0 < left) (u : User) (e : u ≡ user_of (drop at w)) where
    abbrev All : List User
    All = users_from (drop at w) left

    module _ (n : ℕ) (en : n ≡ computed_bit_count c f u) where
      pub clearing-room : byte + section_bytes n ≤ length s
      clearing-room =
          let z = bytes_next c f u All (users_from (drop (next_of w at) w) (left - 1)) (next-user w at left u h e (next_of w at) refl) in
          rw en (omega (arith, z, g.room))

      split :
          (to : ℕ) → to ≡ next_of w at
          → none_set s (spares_from byte (computed_sections c f All))
          ≡ none_set s (spare_at byte n) && none_set s (spares_from (byte + section_bytes n) (computed_sections c f (users_from (drop to w) (left - 1))))
      unfolding computed_sections
      split to q =
          rw en
          (ap (λ (l : List User). none_set s (spares_from byte (computed_sections c f l))) (next-user w at left u h e to q)
          ∙ spares-clear s byte (computed_bit_count c f u) (computed_sections c f (users_from (drop to w) (left - 1))))

      pub clearing-set : (t : Bool) → t ≡ none_set s (spare_at byte n) → t ≡ false → false ≡ none_set s (spares_from first (computed_sections c f (users_from (drop start w) count)))
      clearing-set t et q = sym (split (next_of w at) refl ∙ rw (← et, q) refl) ∙ g.same

      pub clearing-next :
          (t : Bool) → t ≡ none_set s (spare_at byte n) → t ≡ true → (k : ℕ) → k ≡ section_bytes n → (to : ℕ) → to ≡ next_of w at → Clearing w c f start count s first (byte + k) to
          (left - 1)
      clearing-next t et q k ek to qt =
          let rest = users_from (drop to w) (left - 1) in
          let z : All ≡ u ∷ rest = next-user w at left u h e to qt in
          record {
            room = rw (ek, en) (omega (arith, bytes_next c f u All rest z, g.room));
            same = rw ek (sym (split to qt ∙ rw (← et, q) refl) ∙ g.same);
          }

-- ---- the sections before the users', and all of a plan's
two-clear : (s : List ℕ) (a b : ℕ) → none_set s (spares_from 0 (a ∷ b ∷ [])) ≡ none_set s (spare_at 0 a) && none_set s (spare_at (section_bytes a) b)
two-clear s a b =
    let e : 0 + section_bytes a ≡ section_bytes a = omega arith in
    spares-clear s 0 a (b ∷ [])
    ∙ ap (λ (t : Bool). none_set s (spare_at 0 a) && t)
    (spares-clear s (0 + section_bytes a) b [] ∙ ap₂ (λ (x y : Bool). x && y) (ap (λ (k : ℕ). none_set s (spare_at k b)) e) (spares-none s (0 + section_bytes a + section_bytes b))
    ∙ and-true (none_set s (spare_at (section_bytes a) b)))
  where
    and-true : (t : Bool) → t && true ≡ t
    and-true true = refl
    and-true false = refl

module _ (p : Plan) (s : List ℕ) (h : users_start p ≤ length s) (a : ℕ) (ea : a ≡ pbch_bit_count p.cell p.frame) where
  pub first-room : 0 + section_bytes a ≤ length s
  unfolding users_start heads bytes_of
  first-room = rw ea (omega arith)

  pub second-room : (k : ℕ) → k ≡ section_bytes a → k + section_bytes p.his.count ≤ length s
  unfolding users_start heads bytes_of
  second-room k ek = rw (ek, ea) (omega arith)

  module _ (t : Bool) (et : t ≡ none_set s (spare_at 0 a)) where
    pub first-set : t ≡ false → false ≡ none_set s (spares_from 0 (heads p))
    unfolding heads
    first-set q = sym (rw (← ea) (two-clear s a p.his.count ∙ rw (← et, q) refl))

    pub second-clear : t ≡ true → (k : ℕ) → k ≡ section_bytes a → (r : Bool) → r ≡ none_set s (spare_at k p.his.count) → r ≡ none_set s (spares_from 0 (heads p))
    unfolding heads
    second-clear q k ek r er = er ∙ sym (rw (← ea) (two-clear s a p.his.count ∙ rw (← et, q, ek) refl))

module _ (w : List ℕ) (p : Plan) (ok : check_of w ≡ accepted p) (s : List ℕ) (h : length s ≡ payload_length w p) where
  abbrev Sections : List ℕ
  Sections = computed_sections p.cell p.frame (users_from (drop p.users.at w) p.users.count)

  pub heads-room : users_start p ≤ length s
  heads-room = omega (arith, length-is w p)

  pub users-room : (k : ℕ) → k ≡ users_start p → k + bytes_of Sections ≤ length s
  unfolding users_of
  users-room k ek = omega (arith, length-is w p, ap bytes_of (users-computed w p ok))

  all-clear : spare_clear w p s ≡ none_set s (spares_from 0 (heads p)) && none_set s (spares_from (users_start p) Sections)
  unfolding spare_clear spare_bits users_start users_of
  all-clear =
      let e : 0 + bytes_of (heads p) ≡ bytes_of (heads p) = omega arith in
      ap (λ (ns : List ℕ). none_set s (spares_from 0 ns)) (sections-computed w p ok)
      ∙ ap (none_set s) (spares-append 0 (heads p) Sections)
      ∙ none-append s (spares_from 0 (heads p)) (spares_from (0 + bytes_of (heads p)) Sections)
      ∙ ap (λ (k : ℕ). none_set s (spares_from 0 (heads p)) && none_set s (spares_from k Sections)) e

  module _ (t : Bool) (et : t ≡ none_set s (spares_from 0 (heads p))) where
    pub heads-set : t ≡ false → false ≡ spare_clear w p s
    heads-set q = sym (all-clear ∙ rw (← et, q) refl)

    pub users-rest : t ≡ true → (k : ℕ) → k ≡ users_start p → (r : Bool) → r ≡ none_set s (spares_from k Sections) → r ≡ spare_clear w p s
    users-rest q k ek r er = er ∙ sym (all-clear ∙ rw (← et, q, ek) refl)
