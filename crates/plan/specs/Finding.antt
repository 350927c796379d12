-- What `explain` promises: why a plan is refused. Document 01, Refusals: "From the input, first fault from left to right, in a command by
-- number: ..". Of the commands the first that has a fault is named, by its number from 1 and its position in the plan, and of that command
-- the first of its fields that has the fault, in the order in which the papers list the fields; where that is a pair, an RNTI or a block used
-- before, the first command that uses it.
use Rattle.std.specs.Prelude.{ℕ, zero, suc, ◌+◌, ◌-◌, ◌≤◌, ◌<◌, ◌≡◌, Bool, true, false, not, cond, ◌&&◌, List, [], ◌∷◌, leb, ltb, eqb, drop}
use Rattle.std.specs.Prelude.{Option, Some, None, Result, Ok, Ok as accepted, Err, Err as refused}
use Rattle.plan.specs.Lists.{one_of, none_of}
use Rattle.plan.specs.Commands.{byte, hi_of, user_of, Entry, entries, size_of, commands}
use Rattle.plan.specs.Fields.{widths, port_counts, sixth_counts, orders, phich_groups, sequences_of, same_pair, phich_fits}
use Rattle.plan.specs.Check.{State, begin, due, state_after, plan_of}
use Rattle.plan.specs.CommandLists.{past, next_of}
use Rattle.plan.specs.declared.Cell.{Cell}
use Rattle.plan.specs.declared.Frame.{Frame}
use Rattle.plan.specs.declared.Hi.{Hi}
use Rattle.plan.specs.declared.User.{User}
use Rattle.plan.specs.declared.Command.{Command}
use Rattle.plan.specs.declared.Command.TheVariants.{Cell as cell, Cellx as cellx, Frame as frame, Hi as hi, User as user, End as end, Broken as broken}
use Rattle.plan.specs.declared.Refusal.{Refusal}
use Rattle.plan.specs.declared.Refusal.TheVariants.{Unreadable, Order, CellField, FrameField, HiField, UserField, Used, ShortRegion}
use Rattle.plan.specs.declared.Cause.{Cause}
use Rattle.plan.specs.declared.Cause.TheVariants.{Unknown, CutOff, NoEnd, OutOfOrder, AfterEnd}
use Rattle.plan.specs.declared.Cause.TheVariants.{Identity, Blocks, Prefix, Ports, Sixths, Duration, FrameNumber, Subframe, Cfi, Region}
use Rattle.plan.specs.declared.Cause.TheVariants.{Group, Sequence, PairUsed, Rnti, Modulation, Count, LastBlock, RntiUsed, BlockUsed}
use Rattle.plan.specs.declared.Stop.{Stop}
use Rattle.plan.specs.declared.Shared.{Shared}
use Rattle.plan.specs.declared.Shared.TheVariants.{Nothing as nothing, Pair, Rnti as rnti, Block}
use Rattle.plan.specs.declared.Numbered.{Numbered}
use Rattle.plan.specs.declared.Finding.{Finding}
use Rattle.plan.specs.declared.Plan.{Plan}

-- the refusal that a cause belongs to
abbrev pub cause_refusal : Cause → Refusal
cause_refusal Unknown = Unreadable
cause_refusal CutOff = Unreadable
cause_refusal NoEnd = Unreadable
cause_refusal OutOfOrder = Order
cause_refusal AfterEnd = Order
cause_refusal Identity = CellField
cause_refusal Blocks = CellField
cause_refusal Prefix = CellField
cause_refusal Ports = CellField
cause_refusal Sixths = CellField
cause_refusal Duration = CellField
cause_refusal FrameNumber = FrameField
cause_refusal Subframe = FrameField
cause_refusal Cfi = FrameField
cause_refusal Region = ShortRegion
cause_refusal Group = HiField
cause_refusal Sequence = HiField
cause_refusal PairUsed = HiField
cause_refusal Rnti = UserField
cause_refusal Modulation = UserField
cause_refusal Count = UserField
cause_refusal LastBlock = UserField
cause_refusal RntiUsed = Used
cause_refusal BlockUsed = Used

-- `demand t c r`: cause c unless t holds, and then r
abbrev pub demand : Bool → Cause → Result Unit Cause → Result Unit Cause
demand true c r = r
demand false c r = Err c

-- CELL's or CELLX's fields in their order
unfoldable pub cell_cause : Cell → Result Unit Cause
cell_cause c =
    demand (leb c.identity 503) Identity
    (demand (one_of c.blocks widths) Blocks
    (demand (leb c.prefix 1) Prefix
    (demand (one_of c.ports port_counts) Ports
    (demand (one_of c.sixths sixth_counts) Sixths
    (demand (leb c.duration 1) Duration (Ok tt))))))

-- FRAME's fields in their order, then 18 by the cell
unfoldable pub frame_cause : Cell → Frame → Result Unit Cause
frame_cause c f =
    demand (leb f.number 1023) FrameNumber
    (demand (leb f.subframe 9) Subframe
    (demand (leb 1 f.cfi && leb f.cfi 3) Cfi
    (demand (phich_fits c f) Region (Ok tt))))

-- "5 HI group or sequence beyond the count, or pair used before", by the HIs before
unfoldable pub hi_cause : Cell → List Hi → Hi → Result Unit Cause
hi_cause c his h =
    demand (ltb h.group (phich_groups c)) Group
    (demand (ltb h.sequence (sequences_of c)) Sequence
    (demand (none_of (same_pair h) his) PairUsed (Ok tt)))

-- "7 RNTI or block used before": the two apart
unfoldable pub same_rnti : User → User → Bool
same_rnti u v = eqb u.rnti v.rnti

unfoldable pub shares_block : User → User → Bool
shares_block u v = ltb u.first (v.first + v.count) && ltb v.first (u.first + u.count)

-- USER's fields in their order, then 7 by the USERs before: the RNTI's
-- use is named before a block's
unfoldable pub user_cause : Cell → List User → User → Result Unit Cause
user_cause c users u =
    demand (leb 1 u.rnti && leb u.rnti 65535) Rnti
    (demand (one_of u.order orders) Modulation
    (demand (leb 1 u.count) Count
    (demand (leb (u.first + u.count) c.blocks) LastBlock
    (demand (none_of (same_rnti u) users) RntiUsed
    (demand (none_of (shares_block u) users) BlockUsed (Ok tt))))))

-- the bytes of all commands
abbrev pub codes : List Entry → List ℕ
codes [] = []
codes (e ∷ es) = e.code ∷ codes es

abbrev pub command_bytes : List ℕ
command_bytes = codes entries

-- "1 unknown command, or the plan ends before its operands": the bytes l begin with a command that cannot be read
unfoldable pub broken_cause : List ℕ → Result Unit Cause
broken_cause l = demand (one_of (byte l 0) command_bytes) Unknown (Err CutOff)

-- "Order: CELL, FRAME, any HIs, any USERs, END", CELLX in CELL's place. A command that cannot be read is out of order only after END
unfoldable pub in_order : ℕ → Command → Bool
in_order stage (cell c) = eqb stage 0
in_order stage (cellx c) = eqb stage 0
in_order stage (frame f) = eqb stage 1
in_order stage (hi h) = eqb stage 2
in_order stage (user u) = due stage
in_order stage end = due stage
in_order stage broken = true

-- the first cause within a command that stands in its order; l are the plan's bytes from the command on
unfoldable pub field_cause : Cell → List Hi → List User → List ℕ → Command → Result Unit Cause
field_cause c his users l (cell x) = cell_cause x
field_cause c his users l (cellx x) = cell_cause x
field_cause c his users l (frame f) = frame_cause c f
field_cause c his users l (hi h) = hi_cause c his h
field_cause c his users l (user u) = user_cause c users u
field_cause c his users l end = (Ok tt)
field_cause c his users l broken = broken_cause l

-- the first cause of a command at a stage of the plan (specs/Check.antt): "2 out of order, or any byte after END, known command
-- or not", and then its fields
unfoldable pub cause_at : ℕ → Cell → List Hi → List User → List ℕ → Command → Result Unit Cause
cause_at stage c his users l x =
    demand (not (eqb stage 4)) AfterEnd
    (demand (in_order stage x) OutOfOrder (field_cause c his users l x))

abbrev pub cause_of : State → List ℕ → Command → Result Unit Cause
cause_of st l x = cause_at st.stage st.cell st.his st.users l x

-- command number n, at byte at, is refused for the cause c
abbrev pub found_at : ℕ → ℕ → Cause → Stop
found_at n at c = record { command = n; offset = at; cause = c }

abbrev pub refused_at : ℕ → ℕ → Cause → Result Plan Stop
refused_at n at c = refused (found_at n at c)

-- the rest is looked at only where the command has no cause
abbrev pub stop_at : Result Unit Cause → ℕ → ℕ → Result Plan Stop → Result Plan Stop
stop_at (Err c) n at rest = refused_at n at c
stop_at (Ok tt) n at rest = rest

-- command number n of the plan w stands at byte at; "the plan ends .. before END" is a fault of the command that is missing there
unfoldable pub walk_from : List ℕ → State → ℕ → ℕ → List Command → Result Plan Stop
walk_from w st n at [] = cond (eqb st.stage 4) (accepted (plan_of st)) (refused_at n at NoEnd)
walk_from w st n at (x ∷ xs) = stop_at (cause_of st (drop at w) x) n at (walk_from w (state_after st x) (n + 1) (at + size_of (drop at w)) xs)

unfoldable pub walk_of : List ℕ → Result Plan Stop
walk_of w = walk_from w begin 1 0 (commands w)

-- ---- the earlier command: "pair used before", "RNTI or block used before". What a cause says that the command has in common with it
abbrev pub shared_by : Cause → Shared
shared_by Unknown = nothing
shared_by CutOff = nothing
shared_by NoEnd = nothing
shared_by OutOfOrder = nothing
shared_by AfterEnd = nothing
shared_by Identity = nothing
shared_by Blocks = nothing
shared_by Prefix = nothing
shared_by Ports = nothing
shared_by Sixths = nothing
shared_by Duration = nothing
shared_by FrameNumber = nothing
shared_by Subframe = nothing
shared_by Cfi = nothing
shared_by Region = nothing
shared_by Group = nothing
shared_by Sequence = nothing
shared_by PairUsed = Pair
shared_by Rnti = nothing
shared_by Modulation = nothing
shared_by Count = nothing
shared_by LastBlock = nothing
shared_by RntiUsed = rnti
shared_by BlockUsed = Block

-- the bytes l and e begin with two HIs, or two USERs, that have it in common
abbrev pub in_common : Shared → List ℕ → List ℕ → Bool
in_common nothing l e = false
in_common Pair l e = same_pair (hi_of l) (hi_of e)
in_common rnti l e = same_rnti (user_of l) (user_of e)
in_common Block l e = shares_block (user_of l) (user_of e)

-- a command of the same kind that has it in common
unfoldable pub clashes : Shared → List ℕ → List ℕ → Bool
clashes s l e = eqb (byte e 0) (byte l 0) && in_common s l e

-- the first of k commands of the plan w that passes the test; the first of the k is number n and stands at byte at
unfoldable pub first_from : (List ℕ → Bool) → List ℕ → ℕ → ℕ → ℕ → Option Numbered
first_from t w n at zero = None
first_from t w n at (suc k) = cond (t (drop at w)) (Some (record { command = n; offset = at })) (first_from t w (n + 1) (next_of w at) k)

-- the first of the commands before number n, which stands at byte at
unfoldable pub earlier_of : List ℕ → ℕ → ℕ → Shared → Option Numbered
earlier_of w n at s = first_from (clashes s (drop at w)) w 1 0 (n - 1)

-- ---- THE EXPLANATION of the plan w
abbrev pub finding_at : List ℕ → Stop → Finding
finding_at w s =
    record {
      refusal = cause_refusal s.cause;
      command = s.command;
      offset = s.offset;
      cause = s.cause;
      earlier = earlier_of w s.command s.offset (shared_by s.cause);
    }

abbrev pub explained_by : List ℕ → Result Plan Stop → Result Plan Finding
explained_by w (accepted p) = accepted p
explained_by w (refused s) = refused (finding_at w s)

unfoldable pub finding_of : List ℕ → Result Plan Finding
finding_of w = explained_by w (walk_of w)

-- ---- what proofs/Verdict.antt and proofs/Earliest.antt conclude. The plan check's answer: the plan, or the refusal alone
abbrev pub walk_answer : Result Plan Stop → Result Plan Refusal
walk_answer (accepted p) = accepted p
walk_answer (refused s) = refused (cause_refusal s.cause)

abbrev pub answer_of : Result Plan Finding → Result Plan Refusal
answer_of (accepted p) = accepted p
answer_of (refused f) = refused f.refusal

-- a refused explanation names the refusal of its cause, and the offset is where the command of that number stands in the plan w: after as
-- many commands as the number says less one
abbrev pub Named : List ℕ → Result Plan Finding → Type 0
Named w (accepted p) = Unit {0}
Named w (refused f) = (f.refusal ≡ cause_refusal f.cause) × (drop f.offset w ≡ past w (f.command - 1))

-- e is the first command of the plan w that f's command clashes with: it stands before, at its byte, and none before it clashes
pub record FirstClash (w : List ℕ) (f : Finding) (e : Numbered) : Type 0 where
  pub some : 1 ≤ e.command
  pub before : e.command < f.command
  pub place : drop e.offset w ≡ past w (e.command - 1)
  pub clash : clashes (shared_by f.cause) (drop f.offset w) (drop e.offset w) ≡ true
  pub first : (m : ℕ) → m < e.command - 1 → clashes (shared_by f.cause) (drop f.offset w) (past w m) ≡ false

-- there is one wherever the cause says that a pair, an RNTI or a block was used before
abbrev pub EarlierIs : List ℕ → Finding → Option Numbered → Type 0
EarlierIs w f None = shared_by f.cause ≡ nothing
EarlierIs w f (Some e) = FirstClash w f e

abbrev pub EarlierNamed : List ℕ → Result Plan Finding → Type 0
EarlierNamed w (accepted p) = Unit {0}
EarlierNamed w (refused f) = EarlierIs w f f.earlier
