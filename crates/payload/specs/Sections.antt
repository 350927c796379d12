-- What the promises cite: sections that follow each other. Document 01, Plan and payload: "Payload sections follow each other, each
-- starting on a byte and filled most significant bit first: ..". A section is given by its number of bits. One of no bits has no byte,
-- so an absent section is one of 0 bits. A bit is given by its position, which is `bit_at`'s: 8 × byte, and 0 for the most significant.
use Rattle.std.specs.Prelude.{ℕ, ◌+◌, ◌-◌, ◌*◌, ◌/◌, List, [], ◌∷◌, ◌++◌, take, get_or}
use Rattle.base.specs.Tables.{table}

-- the bytes of a section of n bits
abbrev pub section_bytes : ℕ → ℕ
section_bytes n = (n + 7) / 8

-- the bytes of all of them
unfoldable pub bytes_of : List ℕ → ℕ
bytes_of [] = 0
bytes_of (n ∷ ns) = section_bytes n + bytes_of ns

-- the byte at which section i starts: the bytes of the sections before it
unfoldable pub start_of : List ℕ → ℕ → ℕ
start_of ns i = bytes_of (take i ns)

-- the n positions from a on
unfoldable pub span : ℕ → ℕ → List ℕ
span a n = table n (λ (j : ℕ). a + j)

-- the bits of section i
unfoldable pub section_bits : List ℕ → ℕ → List ℕ
section_bits ns i = span (8 * start_of ns i) (get_or ns i 0)

-- document 01's spare bits: those of a section's bytes beyond its bits. Of a section of n bits that starts at a byte, and of all
-- sections where the first one starts there
unfoldable pub spare_at : ℕ → ℕ → List ℕ
spare_at at n = span (8 * at + n) (8 * section_bytes n - n)

unfoldable pub spares_from : ℕ → List ℕ → List ℕ
spares_from at [] = []
spares_from at (n ∷ ns) = spare_at at n ++ spares_from (at + section_bytes n) ns
