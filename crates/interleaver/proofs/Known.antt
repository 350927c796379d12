-- Known values: the column permutation pattern as published (36.212 table 5.1.4-2), and the order of 14 quads (one row) and of 40 (two
-- rows), worked out from the text by tests/vectors. The laws hold of any order of the columns; these hold the definitions to the published
-- one. Assumes nothing.
use mathlib.Core.Path.{◌≡◌, refl}
use mathlib.Core.List.{[], ◌∷◌}
use Rattle.base.specs.Counts.{cnt, nth}
use Rattle.base.specs.Tables.{table}
use Rattle.interleaver.specs.Matrix.{reversed, column_at, place_at, kept, read_at, quad_at}

pub pattern :
    table 32 column_at
    ≡ 1 ∷ 17 ∷ 9 ∷ 25 ∷ 5 ∷ 21 ∷ 13 ∷ 29 ∷ 3 ∷ 19 ∷ 11 ∷ 27 ∷ 7 ∷ 23 ∷ 15 ∷ 31
    ∷ 0 ∷ 16 ∷ 8 ∷ 24 ∷ 4 ∷ 20 ∷ 12 ∷ 28 ∷ 2 ∷ 18 ∷ 10 ∷ 26 ∷ 6 ∷ 22 ∷ 14 ∷ 30 ∷ []
unfolding table column_at reversed
pattern = refl

pub order-14 : table 14 (quad_at 14) ≡ 7 ∷ 3 ∷ 11 ∷ 1 ∷ 9 ∷ 5 ∷ 13 ∷ 6 ∷ 2 ∷ 10 ∷ 0 ∷ 8 ∷ 4 ∷ 12 ∷ []
unfolding table quad_at read_at kept place_at column_at reversed cnt nth
order-14 = refl

pub order-40 :
    table 40 (quad_at 40)
    ≡ 9 ∷ 25 ∷ 17 ∷ 1 ∷ 33 ∷ 13 ∷ 29 ∷ 21 ∷ 5 ∷ 37 ∷ 11 ∷ 27 ∷ 19 ∷ 3 ∷ 35 ∷ 15 ∷ 31 ∷ 23 ∷ 7 ∷ 39
    ∷ 8 ∷ 24 ∷ 16 ∷ 0 ∷ 32 ∷ 12 ∷ 28 ∷ 20 ∷ 4 ∷ 36 ∷ 10 ∷ 26 ∷ 18 ∷ 2 ∷ 34 ∷ 14 ∷ 30 ∷ 22 ∷ 6 ∷ 38 ∷ []
unfolding table quad_at read_at kept place_at column_at reversed cnt nth
order-40 = refl
