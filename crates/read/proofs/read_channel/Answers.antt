-- `read::read_channel` meets its contract: PBCH, a user, or a channel with nothing to read. Assumes nothing.
use borrow.Enum.Refused.{opened}
use mathlib.Core.Path.{ap, subst}
use mathlib.Core.Bool.{not}
use native.Mathlib.Omega.{arith}
use Prim.Native.Nat.{ℕ}
use Rattle.constellation.specs.Axis.{Axis}
use Rattle.build.proofs.Orders.{some-same}
use Rattle.read.proofs.Channels.{absent-after, pbch-needs, pbch-after, user-needs, user-reads, user-after, kept-after}
use Rattle.read.proofs.read_channel.Goals as goal

pub returns-then-not-present : goal.returns-then-not-present
returns-then-not-present c =
    (c.requires.axis, absent-after c.requires c.present.ensures (ap not c.if-not-present.true))

pub read_pbch-requires : goal.read_pbch-requires
read_pbch-requires c =
    pbch-needs c.requires c.present.ensures (ap not c.if-not-present.false) c.in-Pbch.is

pub axis_for-requires : goal.axis_for-requires
axis_for-requires c =
    let o = (user-needs c.requires c.present.ensures (ap not c.if-not-present.false) c.in-User.is).section.area.order in
    (c.requires.axis, omega (arith, o))

pub started-requires : goal.started-requires
started-requires c =
    (user-needs c.requires c.present.ensures (ap not c.if-not-present.false) c.in-User.is).begins

pub read_area-requires : goal.read_area-requires
read_area-requires c =
    user-reads c.requires c.present.ensures (ap not c.if-not-present.false) c.in-User.is _ c.user_area-area.ensures c.axis_for.ensures

pub returns-in-Pbch : goal.returns-in-Pbch
returns-in-Pbch c =
    (c.requires.axis, pbch-after c.requires c.present.ensures (ap not c.if-not-present.false) c.in-Pbch.is c.read_pbch.ensures)

pub returns-in-User : goal.returns-in-User
returns-in-User c = (
  (c.axis_for.ensures.size, λ q e. subst (λ (k : ℕ). Axis k c.axis_for.new.d) (some-same e) c.axis_for.ensures),
  user-after c.requires c.present.ensures (ap not c.if-not-present.false) c.in-User.is
      _ c.user_area-area.ensures _ c.started.ensures c.read_area.ensures,
)

pub returns-in_default : goal.returns-in_default
returns-in_default c =
    (c.requires.axis, kept-after c.requires c.present.ensures (ap not c.if-not-present.false) (opened c.in_default.in_default-own.keys3))
