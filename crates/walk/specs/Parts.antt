-- For the inner contracts and loops only: the elements that a channel of the places `own` sends on P ports with T places each, and those of
-- its places from one index to another. The index of a place is the number of own places below it.
use Rattle.std.specs.Prelude.{ℕ, ◌+◌, ◌/◌, ◌%◌, Bool, ◌&&◌, leb, ltb}
use Rattle.base.specs.Counts.{cnt}
use Rattle.grid.specs.Writing.{sends}

-- those of its places, on the ports with a term
unfoldable pub own_sends : (ℕ → Bool) → ℕ → ℕ → ℕ → Bool
own_sends own P T e = own (e % T) && sends P (cnt own (e % T) / 2 % 2) (e / T)

-- THE PART of the indices j to j + n - 1
unfoldable pub sent_part : (ℕ → Bool) → ℕ → ℕ → ℕ → ℕ → ℕ → Bool
sent_part own P T j n e = own_sends own P T e && (leb j (cnt own (e % T)) && ltb (cnt own (e % T)) (j + n))
