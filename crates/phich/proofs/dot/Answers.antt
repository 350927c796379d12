-- `phich::dot` meets its contract: two products of a sign and a level, and their sum. Assumes nothing.
use Rattle.std.proofs.Common.{◌≡◌, ℤ, ◌+ℤ◌, nat_abs, ap, ◌∙◌, ap₂, arith, to_z-of_z, w8, w16}
use Rattle.base.specs.declared.Pair.{Pair}
use Rattle.base.specs.Signs.{by as by_sign}
use Rattle.base.proofs.Fits.{abs-add, bounded}
use Rattle.phich.specs.Recovery.{dot as dot_of}
use Rattle.phich.proofs.Signed.{sum_fits, sum_is}
use Rattle.phich.proofs.dot.Goals as goal

pub overflow_add-result : goal.overflow_add-result
overflow_add-result c = let x = c.by in let y = c.by-2 in sum_fits w16 x.result y.result (omega (arith, x.ensures.1, y.ensures.1))

pub returns : goal.returns
returns c = let x = c.by in
    let y = c.by-2 in
    let s : Pair = c.args.s in
    let p : Pair = c.args.p in
    let sre = to_z-of_z {w = w8} {z = s.re} (record { sfits = c.struct_told-1.given.0.1 }) in
    let sim = to_z-of_z {w = w8} {z = s.im} (record { sfits = c.struct_told-3-1.given.1.0.1 }) in
    let pre = to_z-of_z {w = w8} {z = p.re} (record { sfits = c.struct_told-2-1.given.0.1 }) in
    let pim = to_z-of_z {w = w8} {z = p.im} (record { sfits = c.struct_told-4-1.given.1.0.1 }) in
    let e : x.result +ℤ y.result ≡ dot_of s p = ap₂ (λ (u v : ℤ). u +ℤ v) (x.ensures.0 ∙ ap₂ by_sign sre pre) (y.ensures.0 ∙ ap₂ by_sign sim pim) in
    bounded 256 {x = dot_of s p}
    (sum_is w16 x.result y.result (omega (arith, x.ensures.1, y.ensures.1)) ∙ e)
    (omega (arith, abs-add x.result y.result, ap nat_abs e, x.ensures.1, y.ensures.1))
