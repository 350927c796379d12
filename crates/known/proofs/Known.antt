-- The known elements of document 01 hold of the definitions, jointly. Assumes nothing.
use mathlib.Core.Path.{refl}
use Rattle.base.specs.Digits.{dig}
use Rattle.base.specs.Tables.{table}
use Rattle.plan.specs.Fields.{group_size, symbol_groups}
use Rattle.layout.specs.Rules.{format_group, is_format, format_has, quad_symbol, is_left, groups_left, start_number, quad_number, quad_group}
use Rattle.base.specs.Counts.{cnt, nth}
use Rattle.modulation.specs.Symbols.{bits_of, evens, odds, level, modulation_symbol}
use Rattle.sync.specs.Pss.{pss_root, pss_t, pss_phase}
use Rattle.sync.specs.Sss.{q_prime, q_of, e_of, m0_of, m1_of}
use Rattle.known.specs.Entries.{Agree, entries}

pub known-elements : Agree entries
unfolding table group_size symbol_groups format_group is_format format_has quad_symbol is_left groups_left start_number quad_number quad_group cnt nth q_prime q_of e_of m0_of m1_of
    pss_root pss_t pss_phase bits_of evens odds level modulation_symbol dig
known-elements = (refl, (refl, (refl, (refl, (refl, (refl, (refl, (refl, tt))))))))
