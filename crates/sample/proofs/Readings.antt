-- Elements at the edges of the rules of documents 01 and 02, computed. Assumes nothing.
use Rattle.std.specs.Prelude.{Some, None}
use mathlib.Core.Path.{◌≡◌, refl}
use mathlib.Core.Bool.{true, false, ◌||◌}
use lib.Dec.{T, eqb}
use lib.IntN.{pos}
use lib.Ieee.{fin, mul, of_int, of_bits}
use Rattle.sample.specs.declared.Sample.TheVariants.{Silence, Phase, At}
use Rattle.base.proofs.Computed.{every}
use Rattle.sample.specs.declared.UnitRow.{UnitRow}
use Rattle.sample.specs.Units.{unit_rows, scale_of}
use Rattle.sample.specs.Refusal.{no_element}
use Rattle.sample.specs.Answer.{sample_of}

-- (1, 8, -8): every unit has levels up to 8 at least
eight : sample_of 1 8 248 ≡ Some (At (record { re = fin false 1 (pos 3); im = fin true 1 (pos 3) }))
unfolding scale_of mul of_int of_bits
eight = refl

nine : sample_of 1 9 0 ≡ None
unfolding scale_of
nine = refl

-- 15 and -15 of unit 170, and of 340, whose byte is 255; in no other unit 9; 16 in none
fifteen : (no_element 170 15 241 ≡ false) × (no_element 255 15 241 ≡ false)
unfolding scale_of
fifteen = (refl, refl)

nine-elsewhere : T (every (λ (r : UnitRow). eqb r.unit 170 || eqb r.unit 340 || no_element r.byte 9 0) unit_rows)
unfolding scale_of
nine-elsewhere = tt

sixteen : T (every (λ (r : UnitRow). no_element r.byte 16 0) unit_rows)
unfolding scale_of
sixteen = tt

-- (2, 0, 0) is a pair of +0, and not silence
zeros : sample_of 2 0 0 ≡ Some (At (record { re = fin false 0 (pos 0); im = fin false 0 (pos 0) }))
unfolding scale_of mul of_int of_bits
zeros = refl

silence : sample_of 0 0 0 ≡ Some Silence
unfolding scale_of
silence = refl

valued : sample_of 0 0 1 ≡ None
valued = refl

last-phase : sample_of 63 62 0 ≡ Some (Phase 62)
unfolding scale_of
last-phase = refl

past-phase : sample_of 63 63 0 ≡ None
past-phase = refl

other-unit : sample_of 3 0 0 ≡ None
unfolding scale_of
other-unit = refl
