-- The lengths, as the code finds them. Assumes nothing.
use Prim.Native.Nat.{ℕ, zero, suc, ◌+◌, ◌-◌, ◌*◌, ◌/◌, ◌≤◌, ◌<◌}
use mathlib.Core.Path.{◌≡◌, refl, sym, ap, ◌∙◌}
use mathlib.Core.List.{List, [], ◌∷◌}
use native.Mathlib.Nat.{mul-le-mul, not-suc-le-zero}
use native.Mathlib.Numerals.{sub-one}
use native.Mathlib.Omega.{arith}
use lib.Dec.{eqb, leb, leb→le}
use lib.ListN.{length, drop}
use borrow.Author.Tests.{ne_eqb}
use Rattle.std.specs.declared.result.Result.TheVariants.{Ok as accepted}
use Rattle.plan.specs.Lists.{Every}
use Rattle.plan.specs.Fields.{orders}
use Rattle.plan.specs.Commands.{user_of}
use Rattle.plan.specs.Check.{check_of}
use Rattle.plan.specs.CommandLists.{next_of, users_from, users_of}
use Rattle.plan.specs.Valid.{UserIn, Valid}
use Rattle.plan.specs.declared.Cell.{Cell}
use Rattle.plan.specs.declared.Frame.{Frame}
use Rattle.plan.specs.declared.User.{User}
use Rattle.plan.specs.declared.Plan.{Plan}
use Rattle.plan.proofs.OneOf.{among-holds}
use Rattle.plan.proofs.Valid.{valid}
use Rattle.plan.proofs.CommandLists.{commands-next, commands-zero}
use Rattle.base.proofs.Tests.{by-test, on-if}
use Rattle.layout.specs.Owners.{symbols}
use Rattle.counts.specs.Kinds.{pbch_elements}
use Rattle.base.specs.Sums.{sum_of}
use Rattle.counts.specs.Users.{user_elements, all_elements}
use Rattle.counts.specs.declared.Shape.{Shape}
use Rattle.counts.specs.Shape.{shape_of, count_by, ShapeIn}
use Rattle.counts.proofs.Shapes.{count-is, count_most}
use Rattle.counts.proofs.UserSizes.{users-few}
use Rattle.payload.specs.Sections.{section_bytes, bytes_of}
use Rattle.payload.specs.Payload.{pbch_bit_count, heads, payload_length, users_start, grid_length}
use Rattle.payload.specs.Loops.{computed_bit_count, computed_sections}
use Rattle.payload.proofs.Sections.{length-is, users-computed}

-- ---- PBCH, the grid
module _ (c : Cell) (f : Frame) where
  pub pbch-none : (f.subframe ≡ 0 → ⊥) → 0 ≡ pbch_bit_count c f
  unfolding pbch_bit_count
  pbch-none n = rw (ne_eqb f.subframe 0 n) refl

  pub pbch-most : pbch_bit_count c f ≤ 480
  unfolding pbch_bit_count
  pbch-most =
      on-if (λ (n : ℕ). n ≤ 480) (eqb f.subframe 0)
      (λ e. on-if (λ (n : ℕ). n ≤ 480) (eqb c.prefix 1) (λ d. omega arith) (λ d. omega arith))
      (λ e. omega arith)

  -- two bits for each place
  pub pbch-twice : 2 * pbch_elements c f ≡ pbch_bit_count c f
  unfolding pbch_bit_count pbch_elements
  pbch-twice = by-test (eqb f.subframe 0) (λ e. by-test (eqb c.prefix 1) (λ d. rw (e, d) refl) (λ d. rw (e, d) refl)) (λ e. rw e refl)

pub rows-most : (n s : ℕ) → n < 256 → s ≤ 14 → 36 * n * s ≤ 128520
rows-most n s h k = mul-le-mul {n₂ = 9180} {m₂ = 14} (omega arith) k

pub grid-most : (n s q : ℕ) → n < 256 → s ≤ 14 → q < 256 → 36 * n * s * q ≤ 32772600
grid-most n s q h k l = mul-le-mul {n₂ = 128520} {m₂ = 255} (rows-most n s h k) (omega arith)

pub grid-is : (p : Plan) (n s q : ℕ) → n ≡ p.cell.blocks → s ≡ symbols p.cell → q ≡ p.cell.ports → 36 * n * s * q ≡ grid_length p
unfolding grid_length
grid-is p n s q en es eq = rw (en, es, eq) refl

-- ---- a user's bits
order-most : (c : Cell) (u : User) → UserIn c u → u.order ≤ 8
order-most c u h = leb→le u.order 8 (among-holds (λ n. leb n 8) orders u.order tt h.order)

pub bits_most : (c : Cell) (f : Frame) (u : User) → UserIn c u → computed_bit_count c f u ≤ 8 * user_elements c f u.first u.count
unfolding computed_bit_count
bits_most c f u h = mul-le-mul {n₂ = 8} {m₂ = user_elements c f u.first u.count} (order-most c u h) (omega arith)

-- an order and a count in blocks are bytes, so that the product does not wrap
pub bits_fit : (c : Cell) (x : Shape) (u : User) → ShapeIn x → u.order ≤ 255 → u.count ≤ 255 → u.order * count_by c x u ≤ 10924200
bits_fit c x u h o n = mul-le-mul {n₂ = 255} {m₂ = 42840} o (count_most c x h u n)

pub bits-found : (c : Cell) (x : Shape) (u : User) (o g : ℕ) → o ≡ u.order → g ≡ count_by c x u → o * g ≡ u.order * count_by c x u
bits-found c x u o g eo eg = rw (eo, eg) refl

-- they are the bits by the count over the symbols
pub bits_are : (c : Cell) (f : Frame) (u : User) (x : Shape) (n : ℕ) → x ≡ shape_of c f → n ≡ u.order * count_by c x u → n ≡ computed_bit_count c f u
unfolding computed_bit_count
bits_are c f u x n e en = en ∙ ap (λ (g : ℕ). u.order * g) (count-is c f u x e)

bytes_most : (c : Cell) (f : Frame) (us : List User) → Every (UserIn c) us → bytes_of (computed_sections c f us) ≤ 8 * all_elements c f us
unfolding computed_sections bytes_of all_elements sum_of
bytes_most c f [] h = omega arith
bytes_most c f (u ∷ us) h = omega (arith, bits_most c f u h.0, bytes_most c f us h.1)

-- ---- the users in turn
pub next-user : (w : List ℕ) (at n : ℕ) (u : User) → 0 < n → u ≡ user_of (drop at w) → (to : ℕ) → to ≡ next_of w at → users_from (drop at w) n ≡ u ∷ users_from (drop to w) (n - 1)
next-user w at zero u h e to q = absurd (not-suc-le-zero h)
next-user w at (suc n) u h e to q = rw (sub-one, e, q) (commands-next user_of w at n)

pub bytes_next :
    (c : Cell) (f : Frame) (u : User) (us rest : List User) → us ≡ u ∷ rest
    → bytes_of (computed_sections c f us) ≡ section_bytes (computed_bit_count c f u) + bytes_of (computed_sections c f rest)
unfolding computed_sections bytes_of
bytes_next c f u us rest e = ap (λ (l : List User). bytes_of (computed_sections c f l)) e

pub bytes-none : (w : List ℕ) (c : Cell) (f : Frame) (at n : ℕ) → n ≤ 0 → bytes_of (computed_sections c f (users_from (drop at w) n)) ≡ 0
unfolding computed_sections bytes_of
bytes-none w c f at n h = rw (commands-zero user_of (drop at w) n (omega arith)) refl

-- ---- the start of the users' sections, and all sections
module _ (p : Plan) (a : ℕ) (ea : a ≡ pbch_bit_count p.cell p.frame) where
  pub start_is : (x y : ℕ) → x ≡ section_bytes a → y ≡ section_bytes p.his.count → x + y ≡ users_start p
  unfolding users_start heads bytes_of
  start_is x y ex ey = rw (← ea) (omega arith)

start-most : (w : List ℕ) (p : Plan) → Valid w p → users_start p ≤ 61 + length w / 24
unfolding users_start heads bytes_of
start-most w p v = omega (arith, pbch-most p.cell p.frame, v.users-at, v.inside)

module _ (w : List ℕ) (p : Plan) (e : check_of w ≡ accepted p) where
  -- the users of an accepted plan have at most 16,800 elements together, of at most eight bits, so that no length wraps
  pub users-fit : bytes_of (computed_sections p.cell p.frame (users_from (drop p.users.at w) p.users.count)) ≤ 134400
  unfolding users_of
  users-fit = omega (arith, bytes_most p.cell p.frame (users_of w p) (valid w p e).users, users-few w p e)

  module _ (a b : ℕ) (ea : a ≡ users_start p) (eb : b ≡ bytes_of (computed_sections p.cell p.frame (users_from (drop p.users.at w) p.users.count))) where
    pub length-room : a + b ≤ 134461 + length w / 24
    length-room = omega (arith, start-most w p (valid w p e), users-fit)

    pub length_found : a + b ≡ payload_length w p
    unfolding users_of
    length_found = rw (ea, eb) (sym (length-is w p ∙ ap (λ (ns : List ℕ). users_start p + bytes_of ns) (users-computed w p e)))

-- ---- the loop of users_length: so many bytes for the users before position at, and left users from there on
pub record Going (w : List ℕ) (c : Cell) (f : Frame) (start count bytes at left : ℕ) : Type 0 where
  pub so_far : bytes + bytes_of (computed_sections c f (users_from (drop at w) left)) ≡ bytes_of (computed_sections c f (users_from (drop start w) count))
  pub most : bytes_of (computed_sections c f (users_from (drop start w) count)) ≤ 134400

module _ {w : List ℕ} {c : Cell} {f : Frame} {start count bytes at left : ℕ} (g : Going w c f start count bytes at left) where
  pub going_end : left ≤ 0 → bytes ≡ bytes_of (computed_sections c f (users_from (drop start w) count))
  going_end h = omega (arith, g.so_far, bytes-none w c f at left h)

  module _ (h : 0 < left) (u : User) (e : u ≡ user_of (drop at w)) where
    module _ (s : ℕ) (es : s ≡ section_bytes (computed_bit_count c f u)) where
      pub going-room : bytes + s ≤ 134400
      going-room =
          omega (
            arith,
            g.so_far,
            g.most,
            bytes_next c f u (users_from (drop at w) left) (users_from (drop (next_of w at) w) (left - 1)) (next-user w at left u h e (next_of w at) refl),
          )

      pub going_next : (to : ℕ) → to ≡ next_of w at → Going w c f start count (bytes + s) to (left - 1)
      going_next to q =
          let all = users_from (drop at w) left in
          let rest = users_from (drop to w) (left - 1) in
          let z : all ≡ u ∷ rest = next-user w at left u h e to q in
          record {
            so_far = omega (arith, g.so_far, bytes_next c f u all rest z);
            most = g.most;
          }
