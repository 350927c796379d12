-- THE THEOREM OF A PAYLOAD'S BITS: in an accepted plan's payload every bit is spare or is one owner's, and never both. Assumes
-- nothing but the plan check's answer.
use Prim.Native.Nat.{ℕ, ◌+◌, ◌*◌, ◌≤◌, ◌<◌}
use mathlib.Core.Path.{◌≡◌, refl, sym, ap, ap₂, ◌∙◌}
use mathlib.Core.Logic.{◌⊎◌, inl, inr}
use mathlib.Core.Bool.{Bool, true, false}
use mathlib.Core.List.{List, [], ◌∷◌, ◌++◌, Memᴰ}
use native.Mathlib.Omega.{arith}
use lib.Dec.{ltb}
use lib.ListN.{length, get_or}
use lib.Seq.{get_or-append-add}
use borrow.Author.Tests.{ltb-true, ltb-false}
use Rattle.std.specs.declared.result.Result.TheVariants.{Ok as accepted}
use Rattle.base.specs.Tables.{table}
use Rattle.base.specs.Bits.{bit_at}
use Rattle.plan.specs.Lists.{Among, Every}
use Rattle.plan.specs.Fields.{mapping_units}
use Rattle.plan.specs.Check.{check_of}
use Rattle.plan.specs.CommandLists.{his_of, users_of}
use Rattle.plan.specs.Valid.{Valid}
use Rattle.plan.specs.declared.Plan.{Plan}
use Rattle.plan.proofs.Valid.{valid}
use Rattle.layout.specs.Owners.{above, owners}
use Rattle.layout.specs.declared.Mark.{Mark}
use Rattle.layout.specs.declared.Mark.TheVariants.{Primary, Secondary}
use Rattle.layout.specs.declared.Owner.{Owner}
use Rattle.layout.specs.declared.Owner.TheVariants.{Crs, Sync, Pbch, Pcfich, Phich, User as UserOf, Held, Idle}
use Rattle.base.specs.Sums.{sum_to, sum_of}
use Rattle.base.proofs.Sums.{sum_same, list-append}
use Rattle.payload.specs.Sections.{section_bytes, bytes_of, start_of, section_bits, spares_from}
use Rattle.payload.specs.Payload.{pbch_bit_count, heads, sections, payload_length, spare_bits, AcceptedPayload}
use Rattle.payload.specs.Bits.{occurs, hi_bits, owner_bits, bits_of_all}
use Rattle.payload.proofs.Sums.{sum-table, occurs-nil, occurs-append, occurs-span, within, within_in, within-above, among-occurs, occurs-among, every-among, list-member, list-find, list-one}
use Rattle.payload.proofs.Sections.{start-append, fills, cover, sections-sum, hi-length, Users, users-length}
use Rattle.payload.proofs.Units.{units-sum}
use Rattle.payload.proofs.Bearers.{listed}

-- ---- counting over the owners of a plan
occurs-all : (b : ℕ) (bits : Owner → List ℕ) (os : List Owner) → occurs b (bits_of_all bits os) ≡ sum_of os (λ (o : Owner). occurs b (bits o))
unfolding bits_of_all sum_of
occurs-all b bits [] = occurs-nil b
occurs-all b bits (o ∷ os) = occurs-append b (bits o) (bits_of_all bits os) ∙ ap (λ (n : ℕ). occurs b (bits o) + n) (occurs-all b bits os)

section-occurs : (b : ℕ) (ns : List ℕ) (i : ℕ) → occurs b (section_bits ns i) ≡ within (8 * start_of ns i) (get_or ns i 0) b
unfolding section_bits
section-occurs b ns i = occurs-span (8 * start_of ns i) (get_or ns i 0) b

module _ (w : List ℕ) (p : Plan) where
  -- a count that only PBCH, the units and the users have
  owners-sum :
      (B : Owner → ℕ) → B Idle ≡ 0 → ((q : ℕ) → B (Crs q) ≡ 0) → ((m : Mark) → B (Sync m) ≡ 0) → B Pcfich ≡ 0 → B Held ≡ 0
      → sum_of (owners w p) B ≡ B Pbch + (sum_to (mapping_units p.cell) (λ m. B (Phich m)) + sum_to (length (users_of w p)) (λ i. B (UserOf i)))
  unfolding owners above sum_of
  owners-sum B idle crs sync pcfich held =
      omega (
        arith,
        crs 0,
        crs 1,
        crs 2,
        crs 3,
        sync Primary,
        sync Secondary,
        list-append (table (mapping_units p.cell) Phich) (table (length (users_of w p)) UserOf) B,
        sum-table B (mapping_units p.cell) Phich,
        sum-table B (length (users_of w p)) UserOf,
      )

  module _ (b : ℕ) where
    abbrev B : Owner → ℕ
    B o = occurs b (owner_bits w p o)

    nobody : (o : Owner) → owner_bits w p o ≡ [] → B o ≡ 0
    nobody o e = ap (occurs b) e ∙ occurs-nil b

    pbch-occurs : B Pbch ≡ within 0 (pbch_bit_count p.cell p.frame) b
    unfolding owner_bits sections heads start_of bytes_of
    pbch-occurs = section-occurs b (sections w p) 0

    users-occur : sum_to (length (users_of w p)) (λ i. B (UserOf i)) ≡ fills (bytes_of (heads p)) (Users w p) b
    unfolding owner_bits sections
    users-occur =
        let F : ℕ → ℕ = λ i. within (8 * (bytes_of (heads p) + start_of (Users w p) i)) (get_or (Users w p) i 0) b in
        sum_same (length (users_of w p)) (λ i. B (UserOf i)) F
        (λ i l.
        section-occurs b (sections w p) (length (heads p) + i)
        ∙ ap₂ (λ (s n : ℕ). within (8 * s) n b) (start-append (heads p) (Users w p) i) (get_or-append-add (heads p) (Users w p) i 0))
        ∙ ap (λ (n : ℕ). sum_to n F) (sym (users-length w p))
        ∙ sections-sum (bytes_of (heads p)) (Users w p) b

    units-occur : Valid w p → sum_to (mapping_units p.cell) (λ m. B (Phich m)) ≡ within (8 * section_bytes (pbch_bit_count p.cell p.frame)) p.his.count b
    unfolding owner_bits hi_bits sections heads start_of bytes_of
    units-occur v =
        let e : 8 * (section_bytes (pbch_bit_count p.cell p.frame) + 0) ≡ 8 * section_bytes (pbch_bit_count p.cell p.frame) = omega arith in
        units-sum p.cell b (his_of w p) (hi_bits w p) (v.his-count ∙ sym (hi-length w p)) v.his
        ∙ section-occurs b (sections w p) 1
        ∙ ap (λ (a : ℕ). within a p.his.count b) e

    heads-fill :
        fills 0 (sections w p) b
        ≡ within 0 (pbch_bit_count p.cell p.frame) b + (within (8 * section_bytes (pbch_bit_count p.cell p.frame)) p.his.count b + fills (bytes_of (heads p)) (Users w p) b)
    unfolding sections heads fills bytes_of
    heads-fill =
        let s : ℕ = section_bytes (pbch_bit_count p.cell p.frame) in
        let n : ℕ = section_bytes p.his.count in
        let e : 0 + s ≡ s = omega arith in
        let d : 0 + s + n ≡ s + (n + 0) = omega arith in
        ap₂ (λ (x y : ℕ). within 0 (pbch_bit_count p.cell p.frame) b + (within (8 * x) p.his.count b + fills y (Users w p) b)) e d

    all-occur : Valid w p → occurs b (spare_bits w p ++ bits_of_all (owner_bits w p) (owners w p)) ≡ within 0 (8 * payload_length w p) b
    unfolding spare_bits payload_length owner_bits
    all-occur v =
        omega (
          arith,
          occurs-append b (spares_from 0 (sections w p)) (bits_of_all (owner_bits w p) (owners w p)),
          occurs-all b (owner_bits w p) (owners w p),
          owners-sum (λ (o : Owner). occurs b (owner_bits w p o)) (nobody Idle refl) (λ q. nobody (Crs q) refl) (λ m. nobody (Sync m) refl) (nobody Pcfich refl) (nobody Held refl),
          pbch-occurs,
          units-occur v,
          users-occur,
          heads-fill,
          cover 0 (sections w p) b,
        )

-- ---- THE THEOREM
module _ (w : List ℕ) (p : Plan) (plan : check_of w ≡ accepted p) where
  abbrev pub Spare : ℕ → Type 0
  Spare b = Among b (spare_bits w p)

  -- bit b is one of owner o's
  abbrev pub Owns : Owner → ℕ → Type 0
  Owns o b = Among b (owner_bits w p o)

  -- it is the bit of one of the plan's owners
  abbrev pub Someone : ℕ → Type 0
  Someone b = (o : Owner) × Memᴰ o (owners w p) × Owns o b

  -- among the spare bits and the bits of all owners, each bit of the payload stands exactly once, and nothing else does
  pub exactly-once : (b : ℕ) → b < 8 * payload_length w p → occurs b (spare_bits w p ++ bits_of_all (owner_bits w p) (owners w p)) ≡ 1
  exactly-once b h = all-occur w p b (valid w p plan) ∙ within_in 0 (8 * payload_length w p) b (omega arith) (omega arith)

  pub never-beyond : (b : ℕ) → 8 * payload_length w p ≤ b → occurs b (spare_bits w p ++ bits_of_all (owner_bits w p) (owners w p)) ≡ 0
  never-beyond b h = all-occur w p b (valid w p plan) ∙ within-above 0 (8 * payload_length w p) b (omega arith)

  -- an owner that has a bit is one of the plan's
  pub owner-listed : (b : ℕ) (o : Owner) → Owns o b → Memᴰ o (owners w p)
  owner-listed b o h = listed w p (valid w p plan) o b h

  abbrev Occurs : ℕ → Owner → ℕ
  Occurs b o = occurs b (owner_bits w p o)

  total : (b : ℕ) → occurs b (spare_bits w p) + sum_of (owners w p) (Occurs b) ≡ occurs b (spare_bits w p ++ bits_of_all (owner_bits w p) (owners w p))
  total b = sym (occurs-append b (spare_bits w p) (bits_of_all (owner_bits w p) (owners w p)) ∙ ap (λ (n : ℕ). occurs b (spare_bits w p) + n) (occurs-all b (owner_bits w p) (owners w p)))

  once : (b : ℕ) → occurs b (spare_bits w p) + sum_of (owners w p) (Occurs b) ≤ 1
  once b = pick (ltb b (8 * payload_length w p)) refl
    where
      pick : (t : Bool) → ltb b (8 * payload_length w p) ≡ t → occurs b (spare_bits w p) + sum_of (owners w p) (Occurs b) ≤ 1
      pick true e = omega (arith, total b, exactly-once b (ltb-true b (8 * payload_length w p) e))
      pick false e = omega (arith, total b, never-beyond b (ltb-false b (8 * payload_length w p) e))

  owned : (b : ℕ) (o : Owner) → Owns o b → (1 ≤ Occurs b o) × (Occurs b o ≤ sum_of (owners w p) (Occurs b))
  owned b o h = (among-occurs b (owner_bits w p o) h, list-member (Occurs b) o (owners w p) (owner-listed b o h))

  -- so each bit of the payload is spare or some owner's
  pub spare-or-owned : (b : ℕ) → b < 8 * payload_length w p → Spare b ⊎ Someone b
  spare-or-owned b h = pick (ltb 0 (occurs b (spare_bits w p))) refl
    where
      pick : (t : Bool) → ltb 0 (occurs b (spare_bits w p)) ≡ t → Spare b ⊎ Someone b
      pick true e = inl (occurs-among b (spare_bits w p) (omega (arith, ltb-true 0 (occurs b (spare_bits w p)) e)))
      pick false e =
          let found = list-find (Occurs b) (owners w p) (omega (arith, total b, exactly-once b h, ltb-false 0 (occurs b (spare_bits w p)) e)) in
          inr (found.0, found.1, occurs-among b (owner_bits w p found.0) found.2)

  -- never both
  pub spare-not-owned : (b : ℕ) (o : Owner) → Spare b → Owns o b → ⊥
  spare-not-owned b o s h = omega (arith, once b, among-occurs b (spare_bits w p) s, (owned b o h).0, (owned b o h).1)

  -- and never two owners'
  pub bit-owner : (b : ℕ) (o q : Owner) → Owns o b → Owns q b → o ≡ q
  bit-owner b o q h k =
      list-one (Occurs b) o q (owners w p) (omega (arith, once b)) (owned b o h).0 (owned b q k).0 (owner-listed b o h) (owner-listed b q k)

  -- an owner's list has no position twice, and none beyond the payload
  pub none-twice : (b : ℕ) (o : Owner) → occurs b (owner_bits w p o) ≤ 1
  none-twice b o = pick (ltb 0 (occurs b (owner_bits w p o))) refl
    where
      pick : (t : Bool) → ltb 0 (occurs b (owner_bits w p o)) ≡ t → occurs b (owner_bits w p o) ≤ 1
      pick true e =
          let h : Owns o b = occurs-among b (owner_bits w p o) (omega (arith, ltb-true 0 (occurs b (owner_bits w p o)) e)) in
          omega (arith, once b, (owned b o h).1)
      pick false e = omega (arith, ltb-false 0 (occurs b (owner_bits w p o)) e)

  pub inside : (b : ℕ) (o : Owner) → Owns o b → b < 8 * payload_length w p
  inside b o h = pick (ltb b (8 * payload_length w p)) refl
    where
      pick : (t : Bool) → ltb b (8 * payload_length w p) ≡ t → b < 8 * payload_length w p
      pick true e = ltb-true b (8 * payload_length w p) e
      pick false e = absurd (omega (arith, total b, never-beyond b (ltb-false b (8 * payload_length w p) e), (owned b o h).0, (owned b o h).1))

  -- two accepted payloads that agree in every owner's bits agree in every bit
  pub same_bits :
      (x y : List ℕ) → AcceptedPayload w p x → AcceptedPayload w p y → ((o : Owner) → Every (λ (b : ℕ). bit_at x b ≡ bit_at y b) (owner_bits w p o)) → (b : ℕ) → b < 8 * payload_length
      w p → bit_at x b ≡ bit_at y b
  same_bits x y ax ay h b l = pick (spare-or-owned b l)
    where
      pick : Spare b ⊎ Someone b → bit_at x b ≡ bit_at y b
      pick (inl s) = every-among (λ (n : ℕ). bit_at x n ≡ 0) (spare_bits w p) ax.spare b s ∙ sym (every-among (λ (n : ℕ). bit_at y n ≡ 0) (spare_bits w p) ay.spare b s)
      pick (inr o) = every-among (λ (n : ℕ). bit_at x n ≡ bit_at y n) (owner_bits w p o.0) (h o.0) b o.2
