-- For laws: what holds of an accepted plan. proofs/Valid.antt concludes it from the plan check's answer alone.
use Rattle.std.specs.Prelude.{ℕ, ◌+◌, ◌*◌, ◌≤◌, ◌<◌, ◌≡◌, List, [], ◌∷◌, length, drop}
use Rattle.plan.specs.Lists.{Among, Every, Apart}
use Rattle.plan.specs.Fields.{widths, port_counts, sixth_counts, orders, control_symbols, phich_groups, sequences_of}
use Rattle.plan.specs.CommandLists.{past, his_of, users_of}
use Rattle.plan.specs.declared.Cell.{Cell}
use Rattle.plan.specs.declared.Frame.{Frame}
use Rattle.plan.specs.declared.Hi.{Hi}
use Rattle.plan.specs.declared.User.{User}
use Rattle.plan.specs.declared.Plan.{Plan}

pub record CellIn (c : Cell) : Type 0 where
  pub identity : c.identity ≤ 503
  pub blocks : Among c.blocks widths
  pub prefix : c.prefix ≤ 1
  pub ports : Among c.ports port_counts
  pub sixths : Among c.sixths sixth_counts
  pub duration : c.duration ≤ 1

pub record FrameIn (f : Frame) : Type 0 where
  pub number : f.number ≤ 1023
  pub subframe : f.subframe ≤ 9
  pub some : 1 ≤ f.cfi
  pub most : f.cfi ≤ 3

pub record HiIn (c : Cell) (h : Hi) : Type 0 where
  pub group : h.group < phich_groups c
  pub sequence : h.sequence < sequences_of c

pub record UserIn (c : Cell) (u : User) : Type 0 where
  pub rnti : 1 ≤ u.rnti
  pub rnti-most : u.rnti ≤ 65535
  pub order : Among u.order orders
  pub some : 1 ≤ u.count
  pub last : u.first + u.count ≤ c.blocks

-- the pairs (group, sequence) of two HIs are different
abbrev pub OtherPair : Hi → Hi → Type 0
OtherPair h e = h.group ≡ e.group → h.sequence ≡ e.sequence → ⊥

-- block b is one of the user's
abbrev pub Has : User → ℕ → Type 0
Has u b = (u.first ≤ b) × (b < u.first + u.count)

-- two users have neither an RNTI nor a block in common
pub record Disjoint (u v : User) : Type 0 where
  pub rntis : u.rnti ≡ v.rnti → ⊥
  pub blocks : (b : ℕ) → Has u b → Has v b → ⊥

pub record Valid (w : List ℕ) (p : Plan) : Type 0 where
  pub cell : CellIn p.cell
  pub frame : FrameIn p.frame
  -- the control region has the three symbols of the extended PHICH duration
  pub region : p.cell.duration ≡ 1 → 3 ≤ control_symbols p.cell p.frame
  pub his : Every (HiIn p.cell) (his_of w p)
  pub pairs : Apart OtherPair (his_of w p)
  pub users : Every (UserIn p.cell) (users_of w p)
  pub apart : Apart Disjoint (users_of w p)
  pub his-count : length (his_of w p) ≡ p.his.count
  pub users-count : length (users_of w p) ≡ p.users.count
  -- the USERs follow the HIs, and END stands after them as the last byte
  pub users-at : p.users.at ≡ p.his.at + 3 * p.his.count
  pub inside : p.users.at + 6 * p.users.count < length w
  pub ends : past (drop p.users.at w) p.users.count ≡ 0 ∷ []
