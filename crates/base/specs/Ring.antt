-- What the promises cite: numbers around a ring. Nothing here is about grids.
use Rattle.std.specs.Prelude.{ℕ, ◌+◌, ◌-◌, ◌%◌}

-- how far n lies past a around a ring of h numbers
abbrev pub past : ℕ → ℕ → ℕ → ℕ
past a h n = (n + (h - a % h)) % h

-- how many numbers from lo to hi - 1 stand below x
abbrev pub between : ℕ → ℕ → ℕ → ℕ
between lo hi x = x - lo - (x - hi)

-- of a ring of h numbers, how many of the m from p on stand below x, where p may be past the ring's end: they go on at its start
unfoldable pub ring_below : ℕ → ℕ → ℕ → ℕ → ℕ
ring_below h p m x = between p (p + m) x + between (p - h) (p + m - h) x
