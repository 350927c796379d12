-- `base::element_of` meets its contract. Assumes nothing.
use Prim.Native.Nat.{ℕ}
use mathlib.Core.Path.{ap, ap₂, ◌∙◌}
use mir.Syntax.{w8}
use mir.Facts.{to_z-of_z}
use Rattle.base.specs.declared.Pair.{Pair}
use Rattle.base.specs.Bytes.{byte_of, element_of}
use Rattle.base.proofs.element_of.Goals as goal

pub returns : goal.returns
unfolding element_of
returns c = let d : Pair = c.args.d in
    ap₂ (λ (x y : ℕ). record { byte = c.args.byte; i = x; j = y })
    (c.byte_of.ensures ∙ ap byte_of (to_z-of_z {w = w8} {z = d.re} (record { sfits = c.struct_told-1.given.0.1 })))
    (c.byte_of-2.ensures ∙ ap byte_of (to_z-of_z {w = w8} {z = d.im} (record { sfits = c.struct_told-2-1.given.1.0.1 })))
