-- For the inner contracts and loops only: the states that the code goes through, and the explanation from there on; what was used before, by tables.
use Rattle.std.specs.Prelude.{ℕ, ◌+◌, ◌*◌, ◌≤◌, ◌≡◌, Bool, cond, not, ◌&&◌, List, [], ◌∷◌, leb, eqb, length, drop, Result, Err, Err as refused, Ok}
use Rattle.bitset.specs.Sets.{member, run_of, meet}
use Rattle.plan.specs.Lists.{one_of, none_of}
use Rattle.plan.specs.Commands.{byte, entry_for, command_of, commands}
use Rattle.plan.specs.Fields.{same_pair}
use Rattle.plan.specs.Check.{State, begin}
use Rattle.plan.specs.Finding.{cell_cause, same_rnti, shares_block, command_bytes, stop_at, walk_from}
use Rattle.plan.specs.CommandLists.{past, his_from, users_from}
use Rattle.plan.specs.Valid.{HiIn, UserIn}
use Rattle.plan.specs.declared.Cell.{Cell}
use Rattle.plan.specs.declared.Frame.{Frame}
use Rattle.plan.specs.declared.Hi.{Hi}
use Rattle.plan.specs.declared.User.{User}
use Rattle.plan.specs.declared.Plan.{Plan}
use Rattle.plan.specs.declared.Command.{Command}
use Rattle.plan.specs.declared.Command.TheVariants.{Cell as cell, Cellx as cellx, Frame as frame, Hi as hi, User as user, End as end, Broken as broken}
use Rattle.plan.specs.declared.Cause.{Cause}
use Rattle.plan.specs.declared.Cause.TheVariants.{Unknown, CutOff, NoEnd, OutOfOrder}
use Rattle.plan.specs.declared.Stop.{Stop}

-- after CELL or CELLX, where FRAME stands at position at
unfoldable pub celled : Cell → ℕ → State
celled c at = record { stage = 1; cell = c; frame = begin.frame; start = at; his = []; users = [] }

-- after CELL or CELLX, FRAME, n HIs from position start of the plan w on and m USERs from position mid on
unfoldable pub body_state : List ℕ → Cell → Frame → ℕ → ℕ → ℕ → ℕ → State
body_state w c f start n mid m =
    record {
      stage = cond (eqb m 0) 2 3;
      cell = c;
      frame = f;
      start = start;
      his = his_from (drop start w) n;
      users = users_from (drop mid w) m;
    }

-- the explanation from command number n on, which stands at position at; CELL or CELLX and FRAME are commands 1 and 2
abbrev pub rest_from : List ℕ → State → ℕ → ℕ → Result Plan Stop
rest_from w st n at = walk_from w st n at (commands (drop at w))

-- the same from the first command on, the cell c, with the next one at position at
abbrev pub cell_rest : List ℕ → Cell → ℕ → Result Plan Stop
cell_rest w c at = stop_at (cell_cause c) 1 0 (rest_from w (celled c at) 2 at)

abbrev pub body_rest : List ℕ → Cell → Frame → ℕ → ℕ → ℕ → ℕ → ℕ → Result Plan Stop
body_rest w c f start n mid m at = rest_from w (body_state w c f start n mid m) (n + m + 3) at

abbrev pub plan_rest : List ℕ → Plan → ℕ → Result Plan Stop
plan_rest w p at = body_rest w p.cell p.frame p.his.at p.his.count p.users.at p.users.count at

-- the cause of a command that is not due, before END: the bytes l begin with it, or have ended
abbrev pub broken_for : List ℕ → Cause
broken_for l = cond (one_of (byte l 0) command_bytes) CutOff Unknown

abbrev pub late_for : List ℕ → Command → Cause
late_for l (cell c) = OutOfOrder
late_for l (cellx c) = OutOfOrder
late_for l (frame f) = OutOfOrder
late_for l (hi h) = OutOfOrder
late_for l (user u) = OutOfOrder
late_for l end = OutOfOrder
late_for l broken = broken_for l

unfoldable pub late_cause : List ℕ → Cause
late_cause [] = NoEnd
late_cause (b ∷ l) = late_for (b ∷ l) (command_of (b ∷ l))

-- the command with the byte code is whole at the front of the bytes l
unfoldable pub stands_at : ℕ → List ℕ → Bool
stands_at code l = leb (entry_for code).size (length l) && eqb (byte l 0) code

-- ---- used before: for each q in D, `used q` says whether one of xs has what q asks for. One law for pairs, RNTIs and blocks
pub record UsedBefore {Q A : Type 0} (D : Q → Type 0) (asks : Q → A → Bool) (used : Q → Bool) (xs : List A) : Type 0 where
  pub at : (q : Q) → D q → none_of (asks q) xs ≡ not (used q)

-- an HI's pair as one number: a sequence is below 8. The set has the pairs of the HIs hs
abbrev pub pair_of : Hi → ℕ
pair_of h = h.group * 8 + h.sequence

abbrev pub PairsUsed : Cell → List ℕ → List Hi → Type 0
PairsUsed c pairs hs = UsedBefore (HiIn c) same_pair (λ (h : Hi). member pairs (pair_of h)) hs

-- a user's blocks as a set. The table and the set have the RNTIs and the blocks of the users us
abbrev pub blocks_of : User → List ℕ
blocks_of u = run_of u.first u.count

pub record UsersUsed (c : Cell) (rntis blocks : List ℕ) (us : List User) : Type 0 where
  pub of-rntis : UsedBefore (UserIn c) same_rnti (λ (u : User). one_of u.rnti rntis) us
  pub of_blocks : UsedBefore (UserIn c) shares_block (λ (u : User). meet blocks (blocks_of u)) us

-- n HIs from position start on, up to position mid: no HI follows
pub record HisPast (w : List ℕ) (start n mid : ℕ) : Type 0 where
  pub his-end : drop mid w ≡ past (drop start w) n
  pub room : mid ≤ length w
  pub no-hi : (h : Hi) → command_of (drop mid w) ≡ hi h → ⊥

abbrev pub HisRead : List ℕ → Cell → ℕ → Result ℕ Stop → Type 0
HisRead w c start (Ok n) =
    let mid = start + 3 * n in
    HisPast w start n mid × ((f : Frame) → body_rest w c f start n mid 0 mid ≡ body_rest w c f start 0 start 0 start)
HisRead w c start (Err g) = (f : Frame) → refused g ≡ body_rest w c f start 0 start 0 start

-- after the HIs and the USERs of p, where no USER follows, nor an HI that would be in its place
pub record EndDue (w : List ℕ) (p : Plan) (at : ℕ) : Type 0 where
  pub mid_at : p.users.at ≡ p.his.at + 3 * p.his.count
  pub behind : p.users.at + 6 * p.users.count ≤ at
  pub room : at ≤ length w
  pub no-hi : p.users.count ≡ 0 → (h : Hi) → command_of (drop at w) ≡ hi h → ⊥
  pub no-user : (u : User) → command_of (drop at w) ≡ user u → ⊥
