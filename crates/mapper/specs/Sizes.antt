-- For the inner contracts only: which numbers an i64 holds.
use Rattle.std.specs.Prelude.{ℕ, ◌<◌, ◌^◌, Result, Ok, Err}
use Rattle.plan.specs.declared.Refusal.{Refusal}

abbrev pub Small : Result ℕ Refusal → Type 0
Small (Ok n) = n < 2 ^ 63
Small (Err r) = Unit {0}
