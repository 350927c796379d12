-- The witness: document 01's example is accepted, has the counts that it prints, and 564 zero bytes are a payload accepted under it.
-- Assumes nothing.
use Prim.Native.Nat.{ℕ}
use mathlib.Core.Path.{◌≡◌, refl, sym, ap, ◌∙◌}
use mathlib.Core.List.{List, [], ◌∷◌, ◌++◌}
use lib.ListN.{length, get_or}
use borrow.Author.Tests.{eq-eqb}
use Rattle.std.specs.declared.result.Result.TheVariants.{Ok as accepted}
use Rattle.base.specs.Tables.{table}
use Rattle.plan.specs.Lists.{one_of, none_of}
use Rattle.plan.specs.Commands.{cell_with, cell_of, frame_of, hi_of, user_of, entries, entry_in, size_of, command_of, commands_after}
use Rattle.plan.specs.Fields.{control_symbols, cell_ok, frame_ok, phich_fits, mapping_units, phich_groups, sequences_of, hi_ok, same_pair, user_ok, clash}
use Rattle.plan.specs.Check.{begin, hi_fault, user_fault, fault, state_after, plan_of, run, check_of}
use Rattle.plan.specs.declared.Plan.{Plan}
use Rattle.plan.specs.CommandLists.{commands_from, users_of}
use Rattle.base.specs.Bits.{bit_at}
use Rattle.layout.specs.Rules.{slot_length, in_slot, crs_symbol, marked}
use Rattle.base.specs.Sums.{sum_to, sum_of}
use Rattle.counts.specs.Counts.{kinds, kind_count}
use Rattle.counts.specs.Users.{signals, taken, halves, row_elements, user_elements, all_elements, users_elements}
use Rattle.counts.specs.Kinds.{crs_elements, sync_elements, pbch_elements, holes, held_elements}
use Rattle.counts.proofs.AllUsers.{users-kind}
use Rattle.counts.proofs.KindWays.{nine}
use Rattle.payload.specs.Sections.{bytes_of, span, spare_at, spares_from}
use Rattle.payload.specs.Payload.{pbch_bit_count, heads, sections, payload_length, grid_length, spare_bits, AcceptedPayload}
use Rattle.payload.specs.Loops.{computed_bit_count, computed_sections}
use Rattle.payload.proofs.Sections.{sections-computed}
use Rattle.payload.proofs.Refusals.{payload-clear}
use Rattle.counted.specs.Gridcount.{accepted_with, counted_of, gridcount_of}
use Rattle.known.specs.Example.{example, example_plan, broadcast, broadcast_plan, zeros, example_counts, broadcast_counts, Example}

example-plan : check_of example ≡ accepted example_plan
unfolding one_of none_of cell_with cell_of frame_of hi_of user_of entries entry_in size_of command_of commands_after cell_ok frame_ok phich_fits
    mapping_units phich_groups sequences_of hi_ok same_pair user_ok clash
    begin hi_fault user_fault fault state_after plan_of run check_of
example-plan = refl

broadcast-plan : check_of broadcast ≡ accepted broadcast_plan
unfolding one_of none_of cell_with cell_of frame_of hi_of user_of entries entry_in size_of command_of commands_after cell_ok frame_ok phich_fits
    mapping_units phich_groups sequences_of hi_ok same_pair user_ok clash
    begin hi_fault user_fault fault state_after plan_of run check_of
broadcast-plan = refl

-- ---- the counts
example-users : users_elements example example_plan ≡ 2250
unfolding users_of commands_from user_of size_of entry_in entries all_elements sum_of user_elements row_elements signals taken halves sum_to slot_length in_slot crs_symbol marked control_symbols
example-users = refl

example-counts : table kinds (kind_count example example_plan) ≡ example_counts
unfolding crs_elements sync_elements pbch_elements holes held_elements mapping_units slot_length marked
example-counts =
    sym (nine example example_plan example-plan 120 0 0 1 2250 0 refl refl refl refl (sym (users-kind example example_plan example-plan ∙ example-users)) refl 2520 refl)

broadcast-users : users_elements broadcast broadcast_plan ≡ 1830
unfolding users_of commands_from user_of size_of entry_in entries all_elements sum_of user_elements row_elements signals taken halves sum_to slot_length in_slot crs_symbol marked control_symbols
broadcast-users = refl

broadcast-counts : table kinds (kind_count broadcast broadcast_plan) ≡ broadcast_counts
unfolding crs_elements sync_elements pbch_elements holes held_elements mapping_units slot_length marked
broadcast-counts =
    sym (nine broadcast broadcast_plan broadcast-plan 120 62 240 1 1830 56 refl refl refl refl (sym (users-kind broadcast broadcast_plan broadcast-plan ∙ broadcast-users)) refl 2520 refl)

-- ---- the payload: PBCH has no bit, the HI one, the user 2 × 2250
example-sections : sections example example_plan ≡ 0 ∷ 1 ∷ 4500 ∷ []
unfolding heads pbch_bit_count computed_sections computed_bit_count users_of commands_from user_of size_of entry_in entries user_elements row_elements signals taken
    halves sum_to slot_length in_slot crs_symbol marked control_symbols
example-sections = sections-computed example example_plan example-plan

example-payload : AcceptedPayload example example_plan (zeros 564)
unfolding payload_length spare_bits bytes_of spares_from spare_at span table bit_at
example-payload = record { size = rw example-sections refl; spare = rw example-sections (refl, (refl, (refl, (refl, (refl, (refl, (refl, (refl, (refl, (refl, (refl, tt))))))))))) }

-- PBCH has 480 bits, the user 2 × 1830
broadcast-sections : sections broadcast broadcast_plan ≡ 480 ∷ 0 ∷ 3660 ∷ []
unfolding heads pbch_bit_count computed_sections computed_bit_count users_of commands_from user_of size_of entry_in entries user_elements row_elements signals taken
    halves sum_to slot_length in_slot crs_symbol marked control_symbols
broadcast-sections = sections-computed broadcast broadcast_plan broadcast-plan

broadcast-payload : AcceptedPayload broadcast broadcast_plan (zeros 518)
unfolding payload_length spare_bits bytes_of spares_from spare_at span table bit_at
broadcast-payload = record { size = rw broadcast-sections refl; spare = rw broadcast-sections (refl, (refl, (refl, (refl, tt)))) }

other-payload : AcceptedPayload broadcast broadcast_plan (128 ∷ zeros 517)
unfolding payload_length spare_bits bytes_of spares_from spare_at span table bit_at
other-payload = record { size = rw broadcast-sections refl; spare = rw broadcast-sections (refl, (refl, (refl, (refl, tt)))) }

grid-bytes : grid_length example_plan ≡ 7560
unfolding grid_length slot_length
grid-bytes = refl

-- ---- what gridcount prints: the input's parts are the plan and the payload
example-input : gridcount_of (0 ∷ 0x16 ∷ (example ++ zeros 564)) ≡ counted_of example (zeros 564)
unfolding gridcount_of table
example-input = refl

broadcast-input : gridcount_of (0 ∷ 0x13 ∷ (broadcast ++ zeros 518)) ≡ counted_of broadcast (zeros 518)
unfolding gridcount_of table
broadcast-input = refl

counted : (w : List ℕ) (p : Plan) (payload counts : List ℕ) → check_of w ≡ accepted p → AcceptedPayload w p payload → table kinds (kind_count w p) ≡ counts
    → counted_of w payload ≡ accepted counts
unfolding counted_of accepted_with
counted w p payload counts ok a e = rw (ok, eq-eqb (length payload) (payload_length w p) a.size, payload-clear w p payload a, e) refl

pub the-example : Example
unfolding table
the-example =
    record {
      plan = example-plan;
      counts = example-counts;
      payload = example-payload;
      grid = grid-bytes;
      lines = example-input ∙ counted example example_plan (zeros 564) example_counts example-plan example-payload example-counts;
      broadcast-plan = broadcast-plan;
      broadcast-lines = broadcast-input ∙ counted broadcast broadcast_plan (zeros 518) broadcast_counts broadcast-plan broadcast-payload broadcast-counts;
      broadcast-pdsch = ap (λ (counts : List ℕ). get_or counts 6 0) broadcast-counts;
      broadcast-held = ap (λ (counts : List ℕ). get_or counts 7 0) broadcast-counts;
      broadcast-payload = broadcast-payload;
      other-payload = other-payload;
    }
