-- Where the own ports of a pair and of the next one begin. Assumes that a port has at most 16,800 places.
use native.Mathlib.Omega.{arith}
use Rattle.walk.proofs.Addresses.{own-few, offsets-made, port-fits}
use mathlib.Core.Path.{◌∙◌}
use Prim.Native.Nat.{◌+◌, ◌/◌, ◌%◌}
use Rattle.walk.proofs.port_offsets.Goals as goal

pub overflow_mul-result : goal.overflow_mul-result
overflow_mul-result c =
    port-fits c.from.result c.args.places
    (omega (arith, c.from.ensures, c.own_port.ensures, own-few c.args.ports (c.args.j / 2 % 2))) c.requires

pub overflow_mul-result-2 : goal.overflow_mul-result-2
overflow_mul-result-2 c =
    port-fits c.from-2.result c.args.places
    (omega (arith, c.from-2.ensures, c.own_port-2.ensures, own-few c.args.ports (c.args.j / 2 % 2 + 1))) c.requires

pub overflow_mul-result-3 : goal.overflow_mul-result-3
overflow_mul-result-3 c =
    port-fits c.from-3.result c.args.places (omega (arith, c.from-3.ensures, c.ranges.ports)) c.requires

pub returns : goal.returns
returns c =
    offsets-made c.args.ports c.args.places c.args.j c.from.result c.from-2.result c.from-3.result
    (c.from.ensures ∙ c.own_port.ensures) (c.from-2.ensures ∙ c.own_port-2.ensures) c.from-3.ensures
