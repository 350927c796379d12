-- What the promises cite. The secondary synchronisation signal, TS 36.211 6.11.2: d(0), .., d(61), each +1 or −1.
-- A sign is a bit, 0 for +1 and 1 for −1, so that a product of signs is the sum of their bits mod 2.
use Rattle.std.specs.Prelude.{ℕ, zero, suc, ◌+◌, ◌*◌, ◌/◌, ◌%◌, Bool, true, false, cond, eqb, ℤ, pos}
use Rattle.base.specs.Signs.{flip}

-- ---- TS 36.211 6.11.2.1 and document 01, Owners: the indices of the group D = N_ID^(1) = floor(C/3)
-- q' = floor(D/30)
unfoldable pub q_prime : ℕ → ℕ
q_prime D = D / 30

-- q = floor((D + q'(q'+1)/2)/30)
unfoldable pub q_of : ℕ → ℕ
q_of D = (D + q_prime D * (q_prime D + 1) / 2) / 30

-- m' = D + q(q+1)/2, document 01's e
unfoldable pub e_of : ℕ → ℕ
e_of D = D + q_of D * (q_of D + 1) / 2

-- m0 = m' mod 31
unfoldable pub m0_of : ℕ → ℕ
m0_of D = e_of D % 31

-- m1 = (m0 + floor(m'/31) + 1) mod 31
unfoldable pub m1_of : ℕ → ℕ
m1_of D = (m0_of D + e_of D / 31 + 1) % 31

-- ---- TS 36.211 6.11.2.1: the sequences s~(i) = 1 − 2x(i), and c~ and z~ likewise, i = 0, .., 30; here x(i) of each.
-- x(i), where x(0), .., x(4) are given and x(i+5) follows by a rule from x(i), .., x(i+4): each step leaves the first out and adds the next.
-- 36.211's recurrences are proved of it: `s-recurrence`, `c-recurrence`, `z-recurrence` of proofs/Recurrence.antt.
unfoldable pub going_on : (ℕ → ℕ → ℕ → ℕ → ℕ → ℕ) → ℕ → ℕ → ℕ → ℕ → ℕ → ℕ → ℕ
going_on rule x0 x1 x2 x3 x4 zero = x0
going_on rule x0 x1 x2 x3 x4 (suc i) = going_on rule x1 x2 x3 x4 (rule x0 x1 x2 x3 x4) i

-- all three start with x(0) = x(1) = x(2) = x(3) = 0, x(4) = 1; here x(i+5) = (x(i+2) + x(i)) mod 2
unfoldable pub s_bit : ℕ → ℕ
s_bit = going_on (λ x0 x1 x2 x3 x4. (x2 + x0) % 2) 0 0 0 0 1

-- x(i+5) = (x(i+3) + x(i)) mod 2
unfoldable pub c_bit : ℕ → ℕ
c_bit = going_on (λ x0 x1 x2 x3 x4. (x3 + x0) % 2) 0 0 0 0 1

-- x(i+5) = (x(i+4) + x(i+2) + x(i+1) + x(i)) mod 2
unfoldable pub z_bit : ℕ → ℕ
z_bit = going_on (λ x0 x1 x2 x3 x4. (x4 + x2 + x1 + x0) % 2) 0 0 0 0 1

-- ---- their cyclic shifts: s0^(m)(n) and s1^(m)(n), which are one, and z1^(m)(n) by an index m; c0(n) and c1(n) by N2 = N_ID^(2) = C mod 3
abbrev pub s01 : ℕ → ℕ → ℕ
s01 m n = s_bit ((n + m) % 31)

abbrev pub c0 : ℕ → ℕ → ℕ
c0 N2 n = c_bit ((n + N2) % 31)

abbrev pub c1 : ℕ → ℕ → ℕ
c1 N2 n = c_bit ((n + N2 + 3) % 31)

abbrev pub z1 : ℕ → ℕ → ℕ
z1 m n = z_bit ((n + m % 8) % 31)

-- ---- d(2n) and d(2n+1), in subframe 0 and (true) in subframe 5
unfoldable pub sss_even : Bool → ℕ → ℕ → ℕ
sss_even false C n = (s01 (m0_of (C / 3)) n + c0 (C % 3) n) % 2
sss_even true C n = (s01 (m1_of (C / 3)) n + c0 (C % 3) n) % 2

unfoldable pub sss_odd : Bool → ℕ → ℕ → ℕ
sss_odd false C n = (s01 (m1_of (C / 3)) n + c1 (C % 3) n + z1 (m0_of (C / 3)) n) % 2
sss_odd true C n = (s01 (m0_of (C / 3)) n + c1 (C % 3) n + z1 (m1_of (C / 3)) n) % 2

-- d(i) of the cell C in subframe f as a bit; any subframe number but 5 counts as 0
unfoldable pub sss_bit : ℕ → ℕ → ℕ → ℕ
sss_bit C f i = cond (eqb (i % 2) 0) (sss_even (eqb f 5) C (i / 2)) (sss_odd (eqb f 5) C (i / 2))

-- d(i) itself (document 01, Owners: unit 1, level I = d(i), J = 0)
unfoldable pub sss_level : ℕ → ℕ → ℕ → ℤ
sss_level C f i = flip (sss_bit C f i) (pos 1)
