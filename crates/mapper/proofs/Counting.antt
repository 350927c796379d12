-- The elements of a kind, from the table of all kinds. Assumes nothing.
use Prim.Native.Nat.{ℕ, ◌≤◌, ◌<◌}
use mathlib.Core.Path.{◌≡◌, refl, ap, ◌∙◌}
use mathlib.Core.List.{List}
use lib.ListN.{get_or}
use borrow.Author.Tests.{lt-ltb, le-ltb}
use Rattle.base.specs.Tables.{table}
use Rattle.base.proofs.Tables.{table_at}
use Rattle.plan.specs.declared.Plan.{Plan}
use Rattle.counts.specs.Counts.{kinds, kind_count}
use Rattle.mapper.specs.Calls.{kind_elements}

module _ (w : List ℕ) (p : Plan) (kind : ℕ) where
  pub kind_at : (counts : List ℕ) → counts ≡ table kinds (kind_count w p) → kind < kinds → get_or counts kind 0 ≡ kind_elements w kind p
  kind_at counts e h = rw (lt-ltb kind kinds h) (ap (λ (xs : List ℕ). get_or xs kind 0) e ∙ table_at kinds (kind_count w p) 0 kind h)

  pub kind-beyond : kinds ≤ kind → 0 ≡ kind_elements w kind p
  kind-beyond h = rw (le-ltb kind kinds h) refl
