-- The witness of document 02's #102: a plan of six blocks is accepted, with its counts and two payloads. Assumes nothing.
use Prim.Native.Nat.{ℕ}
use mathlib.Core.Path.{◌≡◌, refl, sym, ◌∙◌}
use mathlib.Core.List.{List, [], ◌∷◌}
use Rattle.std.specs.declared.result.Result.TheVariants.{Ok as accepted}
use Rattle.base.specs.Tables.{table}
use Rattle.plan.specs.Lists.{one_of, none_of}
use Rattle.plan.specs.Commands.{cell_with, cell_of, frame_of, hi_of, user_of, entries, entry_in, size_of, command_of, commands_after}
use Rattle.plan.specs.Fields.{control_symbols, cell_ok, frame_ok, phich_fits, mapping_units, phich_groups, sequences_of, hi_ok, same_pair, user_ok, clash}
use Rattle.plan.specs.Check.{begin, hi_fault, user_fault, fault, state_after, plan_of, run, check_of, verdict_of}
use Rattle.plan.specs.CommandLists.{commands_from, users_of}
use Rattle.base.specs.Bits.{bit_at}
use Rattle.layout.specs.Rules.{slot_length, in_slot, crs_symbol, marked}
use Rattle.base.specs.Sums.{sum_to, sum_of}
use Rattle.counts.specs.Counts.{kinds, kind_count}
use Rattle.counts.specs.Users.{signals, taken, halves, row_elements, user_elements, all_elements, users_elements}
use Rattle.counts.specs.Kinds.{crs_elements, sync_elements, pbch_elements, holes, held_elements}
use Rattle.counts.proofs.AllUsers.{users-kind}
use Rattle.counts.proofs.KindWays.{nine}
use Rattle.payload.specs.Sections.{bytes_of, span, spare_at, spares_from}
use Rattle.payload.specs.Payload.{pbch_bit_count, heads, sections, payload_length, spare_bits, AcceptedPayload}
use Rattle.payload.specs.Loops.{computed_bit_count, computed_sections}
use Rattle.payload.proofs.Sections.{sections-computed}
use Rattle.known.specs.Example.{zeros}
use Rattle.known.specs.SixBlocks.{narrow_with, narrow_plan, narrow_counts, SixBlocks}

abbrev narrow : List ℕ
narrow = narrow_with 6

narrow-checked : (check_of narrow ≡ accepted narrow_plan) × (verdict_of (check_of (narrow_with 5)) ≡ 3) × (verdict_of (check_of (narrow_with 7)) ≡ 3)
unfolding one_of none_of cell_with cell_of frame_of hi_of user_of entries entry_in size_of command_of commands_after cell_ok frame_ok phich_fits
    mapping_units phich_groups sequences_of hi_ok same_pair user_ok clash
    begin hi_fault user_fault fault state_after plan_of run check_of
narrow-checked = (refl, refl, refl)

narrow-users : users_elements narrow narrow_plan ≡ 144
unfolding users_of commands_from user_of size_of entry_in entries all_elements sum_of user_elements row_elements signals taken halves sum_to slot_length in_slot crs_symbol marked control_symbols
narrow-users = refl

narrow-counts : table kinds (kind_count narrow narrow_plan) ≡ narrow_counts
unfolding crs_elements sync_elements pbch_elements holes held_elements mapping_units slot_length marked
narrow-counts =
    sym (nine narrow narrow_plan narrow-checked.0 48 62 216 2 144 68 refl refl refl refl (sym (users-kind narrow narrow_plan narrow-checked.0 ∙ narrow-users)) refl 864 refl)

-- PBCH has 432 bits, the user 2 × 144
narrow-sections : sections narrow narrow_plan ≡ 432 ∷ 0 ∷ 288 ∷ []
unfolding heads pbch_bit_count computed_sections computed_bit_count users_of commands_from user_of size_of entry_in entries user_elements row_elements signals taken
    halves sum_to slot_length in_slot crs_symbol marked control_symbols
narrow-sections = sections-computed narrow narrow_plan narrow-checked.0

narrow-payload : AcceptedPayload narrow narrow_plan (zeros 90)
unfolding payload_length spare_bits bytes_of spares_from spare_at span table bit_at
narrow-payload = record { size = rw narrow-sections refl; spare = rw narrow-sections tt }

other-payload : AcceptedPayload narrow narrow_plan (128 ∷ zeros 89)
unfolding payload_length spare_bits bytes_of spares_from spare_at span table bit_at
other-payload = record { size = rw narrow-sections refl; spare = rw narrow-sections tt }

pub six-blocks : SixBlocks
six-blocks =
    record {
      plan = narrow-checked.0;
      counts = narrow-counts;
      payload = narrow-payload;
      other-payload = other-payload;
      narrower = narrow-checked.1;
      wider = narrow-checked.2;
    }
