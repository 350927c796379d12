-- For the inner contracts only: the groups of PCFICH that stand below a group left, found without a list of groups.
use Rattle.std.specs.Prelude.{ℕ, ◌+◌, ltb}
use Rattle.base.specs.Choice.{indicator}
use Rattle.layout.specs.Chain.{below_of}

-- 1 where at most n of the other groups stand below t
abbrev pub step_of : ℕ → ℕ → ℕ → ℕ → ℕ → ℕ → ℕ
step_of a b c d n t = indicator (ltb t (n + 1 + below_of a b c d t))

-- the group left with number n: n and those of PCFICH's groups a, b, c, d that stand below it
abbrev pub left_of : ℕ → ℕ → ℕ → ℕ → ℕ → ℕ
left_of a b c d n = n + (step_of a b c d n a + step_of a b c d n b + step_of a b c d n c + step_of a b c d n d)
