-- What the promises cite: a plan's bytes as a list of commands. Document 01, Plan and payload: "A plan is commands of one
-- byte with fixed operands, big-endian; ..".
use Rattle.std.specs.Prelude.{ℕ, zero, suc, pred, ◌+◌, ◌*◌, cond, List, [], ◌∷◌, length, get_or, leb, eqb}
use Rattle.plan.specs.declared.Cell.{Cell}
use Rattle.plan.specs.declared.Frame.{Frame}
use Rattle.plan.specs.declared.Hi.{Hi}
use Rattle.plan.specs.declared.User.{User}
use Rattle.plan.specs.declared.Command.{Command}
use Rattle.plan.specs.declared.Command.TheVariants.{Cell as cell, Cellx as cellx, Frame as frame, Hi as hi, User as user, End as end, Broken as broken}

-- byte i of the command that the bytes l begin with, counted from its command byte, and the u16 of bytes i and i + 1
abbrev pub byte : List ℕ → ℕ → ℕ
byte l i = get_or l i 0

abbrev pub word : List ℕ → ℕ → ℕ
word l i = byte l i * 256 + byte l (i + 1)

-- "10 CELL: identity C u16 ..; blocks N u8 ..; prefix u8 ..; ports P u8 ..; g u8 .., which is N_g in sixths"; with a PHICH duration d
unfoldable pub cell_with : ℕ → List ℕ → Cell
cell_with d l = record { identity = word l 1; blocks = byte l 3; prefix = byte l 4; ports = byte l 5; sixths = byte l 6; duration = d }

-- CELL's duration is normal; "Command 12 CELLX has the operands of CELL and a duration u8 (0 normal, 1 extended)" (document 02, #108)
unfoldable pub cell_of : List ℕ → Cell
cell_of l = cell_with 0 l

unfoldable pub cellx_of : List ℕ → Cell
cellx_of l = cell_with (byte l 7) l

-- "11 FRAME: frame F u16 ..; subframe f u8 ..; CFI u8 .."
unfoldable pub frame_of : List ℕ → Frame
frame_of l = record { number = word l 1; subframe = byte l 3; cfi = byte l 4 }

-- "20 HI: group u8; sequence u8"
unfoldable pub hi_of : List ℕ → Hi
hi_of l = record { group = byte l 1; sequence = byte l 2 }

-- "30 USER: RNTI u16 ..; modulation Q u8 ..; first block u8; count u8, .."
unfoldable pub user_of : List ℕ → User
user_of l = record { rnti = word l 1; order = byte l 3; first = byte l 4; count = byte l 5 }

-- a command's byte, its size in bytes with that one, and its reading
pub record Entry : Type 0 where
  pub code : ℕ
  pub size : ℕ
  pub read : List ℕ → Command

unfoldable pub entries : List Entry
entries =
    record { code = 0x10; size = 7; read = λ l. cell (cell_of l) }
    ∷ record { code = 0x12; size = 8; read = λ l. cellx (cellx_of l) }
    ∷ record { code = 0x11; size = 5; read = λ l. frame (frame_of l) }
    ∷ record { code = 0x20; size = 3; read = λ l. hi (hi_of l) }
    ∷ record { code = 0x30; size = 6; read = λ l. user (user_of l) }
    ∷ record { code = 0x00; size = 1; read = λ l. end }
    ∷ []

-- the entry of the byte b; an unknown command is one byte
unfoldable pub entry_in : List Entry → ℕ → Entry
entry_in [] b = record { code = b; size = 1; read = λ l. broken }
entry_in (e ∷ es) b = cond (eqb b e.code) e (entry_in es b)

abbrev pub entry_for : ℕ → Entry
entry_for b = entry_in entries b

-- the size of the command that the bytes l begin with, and that command: broken where it is unknown or l ends before its operands
unfoldable pub size_of : List ℕ → ℕ
size_of l = (entry_for (byte l 0)).size

unfoldable pub command_of : List ℕ → Command
command_of l = cond (leb (size_of l) (length l)) ((entry_for (byte l 0)).read l) broken

-- all commands of a plan, in order; k counts the operand bytes that the command before has read
unfoldable pub commands_after : ℕ → List ℕ → List Command
commands_after k [] = []
commands_after zero (b ∷ l) = command_of (b ∷ l) ∷ commands_after (pred (size_of (b ∷ l))) l
commands_after (suc k) (b ∷ l) = commands_after k l

abbrev pub commands : List ℕ → List Command
commands l = commands_after 0 l
