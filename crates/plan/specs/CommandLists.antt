-- What the promises cite: the HIs and the USERs of a plan, where its bytes have them.
use Rattle.std.specs.Prelude.{ℕ, zero, suc, ◌+◌, cond, List, [], ◌∷◌, leb, length, drop, get_or}
use Rattle.plan.specs.Commands.{hi_of, user_of, size_of}
use Rattle.plan.specs.declared.Hi.{Hi}
use Rattle.plan.specs.declared.User.{User}
use Rattle.plan.specs.declared.Plan.{Plan}

-- n commands in a row, read from the bytes l, and the bytes after them; each command is as long as its own bytes say
unfoldable pub commands_from : {A : Type 0} → (List ℕ → A) → List ℕ → ℕ → List A
commands_from read l zero = []
commands_from read l (suc n) = read l ∷ commands_from read (drop (size_of l) l) n

unfoldable pub past : List ℕ → ℕ → List ℕ
past l zero = l
past l (suc n) = past (drop (size_of l) l) n

-- the position after the command at a position of the plan w, at most w's end
unfoldable pub next_of : List ℕ → ℕ → ℕ
next_of w at = let next = at + size_of (drop at w) in cond (leb next (length w)) next (length w)

abbrev pub his_from : List ℕ → ℕ → List Hi
his_from l n = commands_from hi_of l n

abbrev pub users_from : List ℕ → ℕ → List User
users_from l n = commands_from user_of l n

-- THE HIs AND THE USERS of the accepted plan p with the bytes w, in their order
unfoldable pub his_of : List ℕ → Plan → List Hi
his_of w p = his_from (drop p.his.at w) p.his.count

unfoldable pub users_of : List ℕ → Plan → List User
users_of w p = users_from (drop p.users.at w) p.users.count

-- the i-th of the users, from 0 on
unfoldable pub nth_user : List ℕ → Plan → ℕ → User
nth_user w p i = get_or (users_of w p) i (record { rnti = 0; order = 0; first = 0; count = 0 })
