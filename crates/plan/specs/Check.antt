-- What the promises cite: the plan check. Document 01, Refusals: "From the input, first fault from left to right, in a command
-- by number: ..".
use Rattle.std.specs.Prelude.{ℕ, ◌+◌, ◌*◌, Bool, true, false, not, cond, ◌||◌, List, [], ◌∷◌, ◌++◌, length, eqb, Option, None, Some, Result, Ok, Ok as accepted, Err, Err as refused}
use Rattle.plan.specs.Answers.{Answer, given, refused_by}
use Rattle.plan.specs.Lists.{none_of}
use Rattle.plan.specs.Commands.{cell_of, frame_of, commands}
use Rattle.plan.specs.Fields.{cell_ok, frame_ok, phich_fits, hi_ok, same_pair, user_ok, clash}
use Rattle.plan.specs.declared.Cell.{Cell}
use Rattle.plan.specs.declared.Frame.{Frame}
use Rattle.plan.specs.declared.Hi.{Hi}
use Rattle.plan.specs.declared.User.{User}
use Rattle.plan.specs.declared.CommandList.{CommandList}
use Rattle.plan.specs.declared.Plan.{Plan}
use Rattle.plan.specs.declared.Command.{Command}
use Rattle.plan.specs.declared.Command.TheVariants.{Cell as cell, Cellx as cellx, Frame as frame, Hi as hi, User as user, End as end, Broken as broken}
use Rattle.plan.specs.declared.Refusal.{Refusal}
use Rattle.plan.specs.declared.Refusal.TheVariants.{Unreadable, Order, CellField, FrameField, HiField, UserField, Used, ShortRegion}
use Rattle.plan.specs.declared.Refusal.TheVariants.{Outside, NoElement, GridLength, PayloadLength, SpareBit, NoPayload}

-- the numbers of documents 01 and 02: "1 unknown command, or the plan ends before its operands or before END; 2 out of order, or any byte
-- after END, known command or not; 3 CELL field; 4 FRAME field; 5 HI group or sequence beyond the count, or pair used before;
-- 6 USER field; 7 RNTI or block used before"; and of the calls above the plan check: "8 element query with k, s or port outside the
-- grid. 9 (sample call only) three bytes that are no element", "10 grid not 36×N×S×P bytes; 11 payload length wrong; 12 a spare bit
-- set (build only); 13 grid made by no payload (read only)"; document 02, #108: "18, at FRAME after 4"
abbrev pub refusal_number : Refusal → ℕ
refusal_number Unreadable = 1
refusal_number Order = 2
refusal_number CellField = 3
refusal_number FrameField = 4
refusal_number HiField = 5
refusal_number UserField = 6
refusal_number Used = 7
refusal_number Outside = 8
refusal_number NoElement = 9
refusal_number GridLength = 10
refusal_number PayloadLength = 11
refusal_number SpareBit = 12
refusal_number NoPayload = 13
refusal_number ShortRegion = 18

-- what the commands so far have given. stage 0: none, 1: CELL or CELLX, 2: FRAME and any HIs, 3: a USER, 4: END.
-- start: how many bytes CELL or CELLX and FRAME have, so where the HIs begin
pub record State : Type 0 where
  pub stage : ℕ
  pub cell : Cell
  pub frame : Frame
  pub start : ℕ
  pub his : List Hi
  pub users : List User

unfoldable pub begin : State
begin = record { stage = 0; cell = cell_of []; frame = frame_of []; start = 0; his = []; users = [] }

-- `need t r f`: refusal r unless t holds, and then f
abbrev pub need : Bool → Refusal → Option Refusal → Option Refusal
need true r f = f
need false r f = Some r

-- 5, by the HIs before; 6 and 7, by the USERs before
unfoldable pub hi_fault : Cell → List Hi → Hi → Option Refusal
hi_fault c his h = need (hi_ok c h) HiField (need (none_of (same_pair h) his) HiField None)

unfoldable pub user_fault : Cell → List User → User → Option Refusal
user_fault c users u = need (user_ok c u) UserField (need (none_of (clash u) users) Used None)

-- "Order: CELL, FRAME, any HIs, any USERs, END", where CELLX "stands in its place" (#108): a USER or END is due
abbrev pub due : ℕ → Bool
due stage = eqb stage 2 || eqb stage 3

-- the first fault of a command, by number; after END every one is out of order, a broken one too
unfoldable pub fault : State → Command → Option Refusal
fault st (cell c) = need (eqb st.stage 0) Order (need (cell_ok c) CellField None)
fault st (cellx c) = need (eqb st.stage 0) Order (need (cell_ok c) CellField None)
fault st (frame f) = need (eqb st.stage 1) Order (need (frame_ok f) FrameField (need (phich_fits st.cell f) ShortRegion None))
fault st (hi h) = need (eqb st.stage 2) Order (hi_fault st.cell st.his h)
fault st (user u) = need (due st.stage) Order (user_fault st.cell st.users u)
fault st end = need (due st.stage) Order None
fault st broken = need (not (eqb st.stage 4)) Order (Some Unreadable)

-- the state after a command that has no fault
unfoldable pub state_after : State → Command → State
state_after st (cell c) = record { stage = 1; cell = c; frame = st.frame; start = st.start + 7; his = st.his; users = st.users }
state_after st (cellx c) = record { stage = 1; cell = c; frame = st.frame; start = st.start + 8; his = st.his; users = st.users }
state_after st (frame f) = record { stage = 2; cell = st.cell; frame = f; start = st.start + 5; his = st.his; users = st.users }
state_after st (hi h) = record { stage = 2; cell = st.cell; frame = st.frame; start = st.start; his = st.his ++ (h ∷ []); users = st.users }
state_after st (user u) = record { stage = 3; cell = st.cell; frame = st.frame; start = st.start; his = st.his; users = st.users ++ (u ∷ []) }
state_after st end = record { stage = 4; cell = st.cell; frame = st.frame; start = st.start; his = st.his; users = st.users }
state_after st broken = st

-- the plan of a state: an HI is 3 bytes
unfoldable pub plan_of : State → Plan
plan_of st =
    let his : CommandList = record { at = st.start; count = length st.his } in
    let users : CommandList = record { at = his.at + 3 * his.count; count = length st.users } in
    record { cell = st.cell; frame = st.frame; his = his; users = users }

-- the rest is looked at only where there is no fault
abbrev pub unless : Option Refusal → Result Plan Refusal → Result Plan Refusal
unless (Some r) rest = refused r
unless None rest = rest

-- "the plan ends .. before END" is a fault at its end
unfoldable pub run : State → List Command → Result Plan Refusal
run st [] = cond (eqb st.stage 4) (accepted (plan_of st)) (refused Unreadable)
run st (x ∷ xs) = unless (fault st x) (run (state_after st x) xs)

unfoldable pub check_of : List ℕ → Result Plan Refusal
check_of w = run begin (commands w)

-- a refusal by its number
abbrev pub refused_as : Refusal → Answer
refused_as r = refused_by (refusal_number r)

-- the answer of a call that gives a count or a length
abbrev pub number_answer : Result ℕ Refusal → Answer
number_answer (Ok n) = given n
number_answer (Err r) = refused_as r

-- a call's answer to an accepted plan; the plan's refusal comes before every other check
abbrev pub unless_refused : {A : Type 0} → (Refusal → A) → (Plan → A) → Result Plan Refusal → A
unless_refused refusal answer (accepted p) = answer p
unless_refused refusal answer (refused r) = refusal r

-- a check's refusal; a plan has none, and nobody asks for it
abbrev pub refusal_of : Result Plan Refusal → Refusal
refusal_of (accepted p) = Unreadable
refusal_of (refused r) = r

-- the answer as a number: 0, or the refusal's
abbrev pub verdict_of : Result Plan Refusal → ℕ
verdict_of (accepted p) = 0
verdict_of (refused r) = refusal_number r
