-- The witness of document 02's #108: a plan with the extended PHICH duration is accepted, with its counts, two payloads and the groups of its
-- unit, worked out by hand from the paper. Assumes nothing.
use mathlib.Core.Path.{◌≡◌, refl, sym, ◌∙◌}
use mathlib.Core.List.{[], ◌∷◌}
use Rattle.std.specs.declared.result.Result.TheVariants.{Ok as accepted}
use Rattle.base.specs.Tables.{table}
use Rattle.base.specs.Bits.{bit_at}
use Rattle.base.specs.Counts.{cnt, nth}
use Rattle.plan.specs.Lists.{one_of, none_of}
use Rattle.plan.specs.Commands.{cell_with, cellx_of, frame_of, hi_of, entries, entry_in, size_of, command_of, commands_after}
use Rattle.plan.specs.Fields.{cell_ok, frame_ok, control_symbols, phich_fits, mapping_units, phich_groups, sequences_of, hi_ok, same_pair, group_size, symbol_groups}
use Rattle.plan.specs.Check.{begin, hi_fault, fault, state_after, plan_of, run, check_of}
use Rattle.plan.specs.CommandLists.{commands_from, users_of}
use Rattle.layout.specs.Rules.{
  slot_length,
  marked,
  format_group,
  is_format,
  format_has,
  quad_symbol,
  is_left,
  groups_left,
  start_number,
  quad_number,
  quad_group,
}
use Rattle.base.specs.Sums.{sum_of}
use Rattle.counts.specs.Counts.{kinds, kind_count}
use Rattle.counts.specs.Users.{all_elements, users_elements}
use Rattle.counts.specs.Kinds.{crs_elements, sync_elements, pbch_elements, holes, held_elements}
use Rattle.counts.proofs.AllUsers.{users-kind}
use Rattle.counts.proofs.KindWays.{nine}
use Rattle.payload.specs.Sections.{bytes_of, span, spare_at, spares_from}
use Rattle.payload.specs.Payload.{pbch_bit_count, heads, sections, payload_length, spare_bits, AcceptedPayload}
use Rattle.payload.specs.Loops.{computed_bit_count, computed_sections}
use Rattle.payload.proofs.Sections.{sections-computed}
use Rattle.known.specs.Extended.{extended_example, extended_plan, extended_counts, Extended}

plan : check_of extended_example ≡ accepted extended_plan
unfolding one_of none_of cell_with cellx_of frame_of hi_of entries entry_in size_of command_of commands_after cell_ok frame_ok control_symbols phich_fits mapping_units phich_groups sequences_of
    hi_ok same_pair begin hi_fault fault state_after plan_of run check_of
plan = refl

no-users : users_elements extended_example extended_plan ≡ 0
unfolding users_of commands_from all_elements sum_of
no-users = refl

counts : table kinds (kind_count extended_example extended_plan) ≡ extended_counts
unfolding crs_elements sync_elements pbch_elements holes held_elements mapping_units slot_length marked
counts = sym (nine extended_example extended_plan plan 144 0 0 1 0 0 refl refl refl refl (sym (users-kind extended_example extended_plan plan ∙ no-users)) refl 1008 refl)

-- no bit of PBCH, one of the HI
bits : sections extended_example extended_plan ≡ 0 ∷ 1 ∷ []
unfolding heads pbch_bit_count computed_sections computed_bit_count users_of commands_from
bits = sections-computed extended_example extended_plan plan

payload : AcceptedPayload extended_example extended_plan (0 ∷ [])
unfolding payload_length spare_bits bytes_of spares_from spare_at span table bit_at
payload = record { size = rw bits refl; spare = rw bits (refl, (refl, (refl, (refl, (refl, (refl, (refl, tt))))))) }

other-payload : AcceptedPayload extended_example extended_plan (128 ∷ [])
unfolding payload_length spare_bits bytes_of spares_from spare_at span table bit_at
other-payload = record { size = rw bits refl; spare = rw bits (refl, (refl, (refl, (refl, (refl, (refl, (refl, tt))))))) }

pub extended-duration : Extended
unfolding table group_size symbol_groups format_group is_format format_has quad_symbol is_left groups_left start_number quad_number quad_group cnt nth
extended-duration =
    record {
      plan = plan;
      counts = counts;
      payload = payload;
      other-payload = other-payload;
      left = refl;
      left-of-two = refl;
      quad-symbols = refl;
      groups = refl;
      groups-of-two = refl;
    }
