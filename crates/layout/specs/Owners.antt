-- What the promises cite: the rule of every owner, all owners of a plan, and the owner of a place. Document 01, Owners: "An owner is
-- a reference signal with its port, a synchronisation mark (primary, secondary), PBCH, PCFICH, a PHICH unit, a user, held, or idle
-- (the rest)." w is a plan's bytes, p the plan that the plan check answers with.
use Rattle.std.specs.Prelude.{ℕ, ◌+◌, ◌*◌, ◌<◌, Bool, false, ◌&&◌, List, ◌∷◌, ◌++◌, leb, ltb, length}
use Rattle.base.specs.Tables.{table}
use Rattle.plan.specs.Lists.{none_of}
use Rattle.plan.specs.Fields.{control_symbols, mapping_units}
use Rattle.plan.specs.CommandLists.{users_of}
use Rattle.plan.specs.declared.Cell.{Cell}
use Rattle.plan.specs.declared.Frame.{Frame}
use Rattle.plan.specs.declared.User.{User}
use Rattle.plan.specs.declared.Plan.{Plan}
use Rattle.base.specs.Choice.{first_of, passes_at}
use Rattle.layout.specs.Rules.{slot_length, slot_of, crs, pss, sss, pbch, held, pcfich, phich}
use Rattle.layout.specs.declared.Mark.TheVariants.{Primary, Secondary}
use Rattle.layout.specs.declared.Owner.{Owner}
use Rattle.layout.specs.declared.Owner.TheVariants.{Crs, Sync, Pbch, Pcfich, Phich, User as UserOf, Held, Idle}

-- an owner's number: a reference signal's port; 16 PSS, 17 SSS, 32 PBCH, 33 PCFICH, 64 + unit, 256 + user, 512 held, 513 idle
abbrev pub owner_number : Owner → ℕ
owner_number (Crs q) = q
owner_number (Sync Primary) = 16
owner_number (Sync Secondary) = 17
owner_number Pbch = 32
owner_number Pcfich = 33
owner_number (Phich m) = 64 + m
owner_number (UserOf i) = 256 + i
owner_number Held = 512
owner_number Idle = 513

-- S and 12N, and document 01's place: "A place is a pair (s, k) of the grid"
abbrev pub symbols : Cell → ℕ
symbols c = 2 * slot_length c

abbrev pub carriers : Cell → ℕ
carriers c = 12 * c.blocks

abbrev pub GridPlace : Cell → ℕ → ℕ → Type 0
GridPlace c s k = (s < symbols c) × (k < carriers c)

-- THE RULES, each owner's by its own sentence: "Each owner's places are those that its own rule gives, idle's the rest". `user i` is the
-- rule of user i and `others` the rest, both below
abbrev pub rule : Cell → Frame → (ℕ → ℕ → ℕ → Bool) → (ℕ → ℕ → Bool) → Owner → ℕ → ℕ → Bool
rule c f user others (Crs q) s k = crs c q s k
rule c f user others (Sync Primary) s k = pss c f s k
rule c f user others (Sync Secondary) s k = sss c f s k
rule c f user others Pbch s k = pbch c f s k
rule c f user others Pcfich s k = pcfich c s k
rule c f user others (Phich m) s k = phich c m s k
rule c f user others Held s k = held c f s k
rule c f user others (UserOf i) s k = user i s k
rule c f user others Idle s k = others s k

-- the rules of the owners above the users, without users and the rest
unfoldable pub fixed_rule : Cell → Frame → Owner → ℕ → ℕ → Bool
fixed_rule c f o s k = rule c f (λ (i t l : ℕ). false) (λ (t l : ℕ). false) o s k

-- the owners above the users; "not owned above"
unfoldable pub above : Cell → List Owner
above c = Crs 0 ∷ Crs 1 ∷ Crs 2 ∷ Crs 3 ∷ Sync Primary ∷ Sync Secondary ∷ Pbch ∷ Pcfich ∷ Held ∷ table (mapping_units c) Phich

unfoldable pub free : Cell → Frame → ℕ → ℕ → Bool
free c f s k = none_of (λ (o : Owner). fixed_rule c f o s k) (above c)

-- subcarrier k lies in the user's blocks in slot n, here the same blocks in both
unfoldable pub blocks_have : User → ℕ → ℕ → Bool
blocks_have u n k = leb (12 * u.first) k && ltb k (12 * (u.first + u.count))

-- "USER: its blocks, symbols s ≥ CFI, not owned above"; "User elements .. follow the new meaning" (#102): CFI + 1 at six blocks
unfoldable pub user_rule : List ℕ → Plan → ℕ → ℕ → ℕ → Bool
user_rule w p i s k =
    passes_at (λ (u : User). blocks_have u (slot_of p.cell s) k) (users_of w p) i && leb (control_symbols p.cell p.frame) s && free p.cell p.frame s k

-- document 01's idle, "the rest": no owner above the users has the place, and no user
unfoldable pub rest : List ℕ → Plan → ℕ → ℕ → Bool
rest w p s k =
    free p.cell p.frame s k && none_of (λ (i : ℕ). user_rule w p i s k) (table (length (users_of w p)) (λ (i : ℕ). i))

-- whether the owner has the place, by its rule
unfoldable pub owns : List ℕ → Plan → Owner → ℕ → ℕ → Bool
owns w p o s k = rule p.cell p.frame (user_rule w p) (rest w p) o s k

-- all owners of a plan
unfoldable pub owners : List ℕ → Plan → List Owner
owners w p = Idle ∷ (above p.cell ++ table (length (users_of w p)) UserOf)

-- THE OWNER of a place: the one of them whose rule holds there. proofs/OneOwner.antt: in an accepted plan there is one, and no other
unfoldable pub owner_of : List ℕ → Plan → ℕ → ℕ → Owner
owner_of w p s k = first_of (λ (o : Owner). owns w p o s k) Idle (owners w p)
