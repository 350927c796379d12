-- `phich::add_at` meets its contract: two bytes of one place. Assumes nothing.
use Rattle.std.proofs.Common.{refl, ap, ◌∙◌, arith, to_z-of_z, w8}
use Rattle.base.specs.declared.Pair.{Pair}
use Rattle.base.specs.Bytes.{byte_of}
use Rattle.base.proofs.Fits.{fits-abs}
use Rattle.phich.proofs.Adding.{put-adds}
use Rattle.phich.proofs.add_at.Goals as goal

pub returns : goal.returns
returns c = let s = c.args in
    let d : Pair = s.d in
    let small = c.requires in
    put-adds s.sums.now s.y d small.0 small.1 small.2
    (c.byte_of.ensures ∙ ap byte_of (to_z-of_z {w = w8} {z = d.re}
    (fits-abs w8 d.re (omega arith))))
    (c.byte_of-2.ensures ∙ ap byte_of (to_z-of_z {w = w8} {z = d.im} (fits-abs w8 d.im (omega arith))))
    refl refl
