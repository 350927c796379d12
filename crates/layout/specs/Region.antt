-- For laws and inner contracts, and ahead of the promises of document 02, #101: the groups of the control region that neither PCFICH nor
-- PHICH has, by one number in the order of TS 36.211 6.8.5. c is the cell, L the number of control symbols, s one of them, t a group of it.
use Rattle.std.specs.Prelude.{ℕ, ◌+◌, ◌*◌, ◌/◌, ◌%◌, Bool, not, ◌&&◌, eqb, ltb}
use Rattle.base.specs.Counts.{cnt, nth, some_of}
use Rattle.interleaver.specs.Matrix.{sent_at, sent_of}
use Rattle.plan.specs.Fields.{mapping_units, control_symbols, group_size, symbol_groups, region_groups}
use Rattle.plan.specs.declared.Cell.{Cell}
use Rattle.plan.specs.declared.Frame.{Frame}
use Rattle.layout.specs.Rules.{is_left, mapping_unit_has}

-- "With R groups left in the control symbols (s < CFI) after PCFICH and PHICH": one of these
unfoldable pub is_vacant : Cell → ℕ → ℕ → Bool
is_vacant c s t = ltb t (symbol_groups c s) && is_left c s t && not (some_of (λ (m : ℕ). mapping_unit_has c m s t) (mapping_units c))

-- "mapped as in 36.211 6.8.5", steps 1 to 10: k' goes up from 0, for each k' the symbol l' from 0 to L − 1, and m' counts the groups so far
-- that have (k', l') as their lowest subcarrier and are vacant. x is k' × L + l'
unfoldable pub vacant_at : Cell → ℕ → ℕ → Bool
vacant_at c L x = eqb (x / L % group_size c (x % L)) 0 && is_vacant c (x % L) (x / L / group_size c (x % L))

-- the number m' of group t of symbol s, and the symbol and the group of number n
unfoldable pub region_number : Cell → ℕ → ℕ → ℕ → ℕ
region_number c L s t = cnt (vacant_at c L) (t * group_size c s * L + s)

unfoldable pub region_place : Cell → ℕ → ℕ → ℕ
region_place c L n = nth (vacant_at c L) (12 * c.blocks * L) n

unfoldable pub region_symbol : Cell → ℕ → ℕ → ℕ
region_symbol c L n = region_place c L n % L

unfoldable pub region_group : Cell → ℕ → ℕ → ℕ
region_group c L n = region_place c L n / L / group_size c (region_symbol c L n)

-- "Element e fills bits 72e to 72e+71 of one block of 8R bits", eight bits a quad; "The quads are rearranged by the sub-block interleaver ..,
-- shifted by C and mapped": the quad of the block that group t of symbol s takes
unfoldable pub group_quad : Cell → Frame → ℕ → ℕ → ℕ
group_quad c f s t = sent_at (region_groups c f) c.identity (region_number c (control_symbols c f) s t)

-- and the other way round, the symbol and the group of quad q. proofs/Block.antt: the two undo each other
unfoldable pub block_symbol : Cell → Frame → ℕ → ℕ
block_symbol c f q = region_symbol c (control_symbols c f) (sent_of (region_groups c f) c.identity q)

unfoldable pub block_group : Cell → Frame → ℕ → ℕ
block_group c f q = region_group c (control_symbols c f) (sent_of (region_groups c f) c.identity q)
