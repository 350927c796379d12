-- Every element of a grid that build leaves is one that the sample call takes. Assumes nothing but what it names.
use Prim.Native.Nat.{ℕ, ◌+◌, ◌*◌, ◌<◌}
use mathlib.Core.Path.{◌≡◌, refl, ap, ◌∙◌}
use mathlib.Core.Bool.{false}
use mathlib.Core.List.{List}
use native.Mathlib.Omega.{arith}
use borrow.Author.Tests.{le-leb}
use lib.IntN.{nat_abs}
use lib.ListN.{length, get_or}
use Rattle.std.specs.declared.result.Result.TheVariants.{Ok as accepted}
use Rattle.base.specs.declared.Pair.{Pair}
use Rattle.base.specs.declared.Element.{Element}
use Rattle.base.specs.Bytes.{byte_in, element_of, pair_of, silent}
use Rattle.base.proofs.Bytes.{element-back}
use Rattle.plan.specs.Answers.{given}
use Rattle.plan.specs.Check.{check_of}
use Rattle.plan.specs.declared.Plan.{Plan}
use Rattle.layout.specs.Owners.{GridPlace, symbols, carriers}
use Rattle.sample.specs.Units.{scale_of}
use Rattle.sample.specs.Refusal.{no_element}
use Rattle.sample.proofs.Elements.{limit-few, row-elements}
use Rattle.sample.specs.Answer.{meaning_of, sample_of}
use Rattle.std.specs.declared.option.Option.TheVariants.{Some}
use Rattle.subframe.specs.Grid.{grid_of, element_numbered}
use Rattle.subframe.proofs.Bytes.{length-by-port, byte-of, byte_at, grid-size}
use Rattle.mapper.proofs.EveryElement.{Valued, silence, phase, levels, element-valued, every_element}
use Rattle.build.specs.Build.{built_of, grid_after}
use Rattle.build.proofs.Answers.{built-under}
use Rattle.build.proofs.Apart.{left_is}

-- the three bytes from a position on are an element: none of refusal 9's faults
abbrev pub ElementFrom : List ℕ → ℕ → Type 0
ElementFrom g at = no_element (get_or g at 0) (get_or g (at + 1) 0) (get_or g (at + 2) 0) ≡ false

-- a value of the grid is an element
taken : (x : Element) → Valued x → no_element x.byte x.i x.j ≡ false
unfolding silent element_of pair_of scale_of
taken x silence = refl
taken x (phase i l) = rw (le-leb i 62 (omega arith)) refl
taken x (levels b row d e h) =
    let few = limit-few b row e in
    let back : pair_of (element_of b d) ≡ d = element-back b d (omega (arith, h.0, few), omega (arith, h.1, few)) in
    row-elements b row e (element_of b d).i (element_of b d).j
    (omega (arith, h.0, ap (λ (y : Pair). nat_abs y.re) back)) (omega (arith, h.1, ap (λ (y : Pair). nat_abs y.im) back))

-- the same of its three bytes
from_bytes : (g : List ℕ) (at : ℕ) (x : Element) → Valued x → ((b : ℕ) → b < 3 → get_or g (at + b) 0 ≡ byte_in x b) → ElementFrom g at
from_bytes g at x v h =
    let first : get_or g at 0 ≡ x.byte = ap (λ (n : ℕ). get_or g n 0) (let e : at ≡ at + 0 = omega arith in e) ∙ h 0 (omega arith) in
    rw (first, h 1 (omega arith), h 2 (omega arith)) (taken x v)

-- "An element on port p is three bytes at ((p×S+s)×12N+k)×3": of any payload under an accepted plan, these are an element
pub grid-elements : (w : List ℕ) (p : Plan) → check_of w ≡ accepted p → (payload : List ℕ) (port s k : ℕ) → port < p.cell.ports → GridPlace p.cell s k
    → ElementFrom (grid_of w p payload) (((port * symbols p.cell + s) * carriers p.cell + k) * 3)
grid-elements w p ok payload port s k in-port place =
    from_bytes (grid_of w p payload) _ _ (element-valued w p ok payload port s k place) (λ b l. byte_at w p payload port s k b in-port place.0 place.1 l)

-- "9 (sample call only) three bytes that are no element: other unit, silent with a value, phase outside 0..62 or J ≠ 0, or a level beyond ±8.", ±15 in two units:
-- every three bytes of the grid that a call of build leaves, where it is not refused, are an element
module _ (w payload grid : List ℕ) (n : ℕ) (built : built_of w payload grid ≡ given n) (e : ℕ) (inside : 3 * e < length (grid_after w payload grid)) where
  pub built-elements : ElementFrom (grid_after w payload grid) (3 * e)
  built-elements =
      let p : Plan = (built-under w payload grid n built).0 in
      let had = (built-under w payload grid n built).1 in
      let left : grid_after w payload grid ≡ grid_of w p payload = left_is w p had.0 payload grid had.2 had.1 in
      let size = ap length left ∙ grid-size w p payload ∙ length-by-port p in
      let at : 3 * e ≡ e * 3 = omega arith in
      rw (left, at) (from_bytes (grid_of w p payload) (e * 3) (element_numbered w p payload e) (every_element w p had.0 payload e)
      (λ b l. byte-of w p payload e b (omega arith) l))

  -- so the sample call answers with what it means
  pub built-samples :
      let g = grid_after w payload grid in
      sample_of (get_or g (3 * e) 0) (get_or g (3 * e + 1) 0) (get_or g (3 * e + 2) 0) ≡ Some (meaning_of (get_or g (3 * e) 0) (get_or g (3 * e + 1) 0) (get_or g (3 * e + 2) 0))
  built-samples = rw built-elements refl
