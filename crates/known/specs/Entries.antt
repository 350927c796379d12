-- What the theorem cites. Document 01, "Known elements": the cases marked P. An entry is what the definitions give, and what the
-- paper says.
use Rattle.std.specs.Prelude.{ℕ, ◌≡◌, List, [], ◌∷◌, map, ℤ, pos, negsuc}
use Rattle.base.specs.declared.Pair.{Pair}
use Rattle.base.specs.Tables.{table}
use Rattle.plan.specs.declared.Cell.{Cell}
use Rattle.layout.specs.Rules.{format_group, quad_group}
use Rattle.modulation.specs.Symbols.{modulation_symbol}
use Rattle.sync.specs.Pss.{pss_root, pss_phase}
use Rattle.sync.specs.Sss.{m0_of, m1_of}

pub data Entry : Type 1 where
  entry : {A : Type 0} → A → A → Entry

abbrev pub Agree : List Entry → Type 1
Agree [] = Unit {1}
Agree (entry a b ∷ entries) = (a ≡ b) × Agree entries

abbrev pub pair : ℤ → ℤ → Pair
pair i j = record { re = i; im = j }

-- a cell of 15 blocks with the normal PHICH duration; of its other fields the groups of symbol 0 ask only the identity
abbrev pub cell15 : ℕ → Cell
cell15 C = record { identity = C; blocks = 15; prefix = 0; ports = 1; sixths = 1; duration = 0 }

abbrev pub entries : List Entry
entries =
    -- "D = 0, 29, 30, 167 give (m0, m1) = (0,1), (29,30), (0,2), (2,9)"
    entry (map m0_of (0 ∷ 29 ∷ 30 ∷ 167 ∷ [])) (0 ∷ 29 ∷ 0 ∷ 2 ∷ [])
    ∷ entry (map m1_of (0 ∷ 29 ∷ 30 ∷ 167 ∷ [])) (1 ∷ 30 ∷ 2 ∷ 9 ∷ [])
    -- "w = 25, i = 0, 1, 2, 30, 31: 0, 25, 12, 33, 33"
    ∷ entry (pss_root 0) 25
    ∷ entry (map (pss_phase 0) (0 ∷ 1 ∷ 2 ∷ 30 ∷ 31 ∷ [])) (0 ∷ 25 ∷ 12 ∷ 33 ∷ 33 ∷ [])
    -- "101111 gives (−7, 7)"
    ∷ entry (modulation_symbol 6 0b101111) (pair (negsuc 6) (pos 7))
    -- "N = 15, C = 0: PCFICH groups 0, 7, 15, 22; PHICH unit 0 groups 1, 10, 20"
    ∷ entry (table 4 (format_group (cell15 0))) (0 ∷ 7 ∷ 15 ∷ 22 ∷ [])
    ∷ entry (table 3 (quad_group (cell15 0) 0)) (1 ∷ 10 ∷ 20 ∷ [])
    -- "N = 15, C = 503: PCFICH groups 23, 0, 8, 15"
    ∷ entry (table 4 (format_group (cell15 503))) (23 ∷ 0 ∷ 8 ∷ 15 ∷ [])
    ∷ []
