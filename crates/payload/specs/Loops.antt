-- For the inner contracts and loops only: the users' sections as the code computes them, which are an accepted plan's (proofs/Sections.antt).
use Rattle.std.specs.Prelude.{ℕ, ◌*◌, List, [], ◌∷◌}
use Rattle.plan.specs.declared.Cell.{Cell}
use Rattle.plan.specs.declared.Frame.{Frame}
use Rattle.plan.specs.declared.User.{User}
use Rattle.counts.specs.Users.{user_elements}

-- a user's bits by the formula of its element count, and the sections of users one after the other
unfoldable pub computed_bit_count : Cell → Frame → User → ℕ
computed_bit_count c f u = u.order * user_elements c f u.first u.count

unfoldable pub computed_sections : Cell → Frame → List User → List ℕ
computed_sections c f [] = []
computed_sections c f (u ∷ us) = computed_bit_count c f u ∷ computed_sections c f us
