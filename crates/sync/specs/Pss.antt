-- What the promises cite. The primary synchronisation signal, TS 36.211 6.11.1; document 01, Owners: unit 63, phase number I.
use Rattle.std.specs.Prelude.{ℕ, ◌+◌, ◌*◌, ◌/◌, ◌%◌, cond, [], ◌∷◌, leb, get_or}

-- TS 36.211 table 6.11.1.1-1: the root index of N_ID^(2) = C mod 3, document 01's w
unfoldable pub pss_root : ℕ → ℕ
pss_root r = get_or (25 ∷ 29 ∷ 34 ∷ []) r 0

-- document 01, Owners: "t = i(i+1)/2 for i ≤ 30, else (i+1)(i+2)/2"
unfoldable pub pss_t : ℕ → ℕ
pss_t i = cond (leb i 30) (i * (i + 1) / 2) ((i + 1) * (i + 2) / 2)

-- document 01, Owners: "I = w×t mod 63"; Grid: "Unit 63 means phase −2πI/63"
unfoldable pub pss_phase : ℕ → ℕ → ℕ
pss_phase C i = pss_root (C % 3) * pss_t i % 63
