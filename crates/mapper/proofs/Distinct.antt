-- Different answers have different numbers: an equation between the numbers of an answer and the input determines the answer. Assumes nothing.
use Prim.Native.Nat.{ℕ, ◌-◌}
use mathlib.Core.Path.{◌≡◌, refl, sym, ap, ◌∙◌}
use mathlib.Core.Bool.{cond}
use mathlib.Core.List.{List, [], ◌∷◌}
use lib.ListN.{get_or}
use Rattle.std.specs.declared.result.Result.{Result}
use Rattle.std.specs.declared.result.Result.TheVariants.{Ok, Err}
use Rattle.plan.specs.Answers.{Answer}
use Rattle.plan.specs.Check.{refusal_number, number_answer}
use Rattle.plan.specs.declared.Refusal.{Refusal}
use Rattle.plan.specs.declared.Refusal.TheVariants.{
  Unreadable,
  Order,
  CellField,
  FrameField,
  HiField,
  UserField,
  Used,
  Outside,
  NoElement,
  GridLength,
  PayloadLength,
  SpareBit,
  NoPayload,
  ShortRegion,
}

-- refusals 1 to 13
all : List Refusal
all =
    Unreadable ∷ Order ∷ CellField ∷ FrameField ∷ HiField ∷ UserField ∷ Used ∷ Outside ∷ NoElement ∷ GridLength ∷ PayloadLength ∷ SpareBit
    ∷ NoPayload ∷ []

-- the refusal of a number: 18 is the one beyond the list
abbrev refusal_at : ℕ → Refusal
refusal_at n = get_or all (n - 1) ShortRegion

found : (r : Refusal) → refusal_at (refusal_number r) ≡ r
unfolding all
found Unreadable = refl
found Order = refl
found CellField = refl
found FrameField = refl
found HiField = refl
found UserField = refl
found Used = refl
found Outside = refl
found NoElement = refl
found GridLength = refl
found PayloadLength = refl
found SpareBit = refl
found NoPayload = refl
found ShortRegion = refl

undone : Answer → Result ℕ Refusal
undone a = cond a.refusal (Err (refusal_at a.value)) (Ok a.value)

undo : (x : Result ℕ Refusal) → undone (number_answer x) ≡ x
unfolding undone
undo (Ok n) = refl
undo (Err r) = ap Err (found r)

-- of a call that answers with a count or a length
pub number-once : (x y : Result ℕ Refusal) → number_answer x ≡ number_answer y → x ≡ y
number-once x y e = sym (undo x) ∙ ap undone e ∙ undo y
