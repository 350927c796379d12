-- A span, if it has half blocks.
use mathlib.Core.Path.{refl}
use native.Mathlib.Omega.{arith}
use Rattle.walk.proofs.Spans.{span-put, span_none}
use Rattle.walk.proofs.Tables.put_span.Goals as goal

pub returns-then-from-to : goal.returns-then-from-to
returns-then-from-to c = (span-put c.args.n c.args.from c.args.to c.args.self.now.spans (omega arith) c.requires.0 c.if-from-to.true, refl)

pub returns : goal.returns
returns c = (span_none c.args.n c.args.from c.args.to c.args.self.now.spans (omega (arith, c.if-from-to.false)), refl)
