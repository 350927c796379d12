-- What the check has made sure of at each command: the HIs and the USERs so far are in range, and no two of them share anything. Assumes nothing.
use Prim.Native.Nat.{◌+◌}
use mathlib.Core.Path.{◌≡◌, refl, sym, ◌∙◌}
use mathlib.Core.Bool.{Bool, true, false, ◌&&◌, ◌||◌, false≢true}
use mathlib.Core.List.{List, [], ◌∷◌, ◌++◌}
use native.Mathlib.Omega.{arith}
use lib.Dec.{ltb, eqb}
use borrow.Author.Tests.{eq-eqb, lt-ltb}
use Rattle.std.specs.declared.result.Result.TheVariants.{Ok}
use Rattle.plan.specs.Lists.{Every, Apart}
use Rattle.plan.specs.Fields.{same_pair, clash}
use Rattle.plan.specs.Finding.{hi_cause, user_cause}
use Rattle.plan.specs.Valid.{HiIn, UserIn, OtherPair, Disjoint}
use Rattle.plan.specs.declared.Cell.{Cell}
use Rattle.plan.specs.declared.Hi.{Hi}
use Rattle.plan.specs.declared.User.{User}
use Rattle.plan.proofs.CauseLaws.{hi-passed, user-passed}
use Rattle.plan.proofs.Listed.{every-snoc, apart_snoc, none-every}

-- an HI h after e, a user u after v
other-pair : (h e : Hi) → same_pair h e ≡ false → OtherPair e h
unfolding same_pair
other-pair h e q p s = false≢true (sym q ∙ rw (eq-eqb h.group e.group (sym p), eq-eqb h.sequence e.sequence (sym s)) refl)

overlap : (a b d : Bool) → b ≡ true → d ≡ true → a || b && d ≡ true
overlap true b d p q = refl
overlap false b d p q = rw p q

pub disjoint : (u v : User) → clash u v ≡ false → Disjoint v u
unfolding clash
disjoint u v q =
    record {
      rntis = λ p. false≢true (sym q ∙ rw (eq-eqb u.rnti v.rnti (sym p)) refl);
      blocks = λ b h k.
          false≢true
          (sym q
          ∙ overlap (eqb u.rnti v.rnti) (ltb u.first (v.first + v.count)) (ltb v.first (u.first + u.count))
          (lt-ltb u.first (v.first + v.count) (omega arith)) (lt-ltb v.first (u.first + u.count) (omega arith)));
    }

-- ---- the HIs hs and the USERs us so far
pub record Kept (c : Cell) (hs : List Hi) (us : List User) : Type 0 where
  pub his : Every (HiIn c) hs
  pub pairs : Apart OtherPair hs
  pub users : Every (UserIn c) us
  pub apart : Apart Disjoint us

pub kept-first : (c : Cell) → Kept c [] []
kept-first c = record { his = tt; pairs = tt; users = tt; apart = tt }

module _ {c : Cell} {hs : List Hi} {us : List User} (k : Kept c hs us) where
  pub kept-hi : (h : Hi) → (Ok tt) ≡ hi_cause c hs h → Kept c (hs ++ (h ∷ [])) us
  kept-hi h q =
      let t = hi-passed c hs h q in
      record {
        his = every-snoc (HiIn c) hs h k.his t.0;
        pairs = apart_snoc OtherPair hs h k.pairs (none-every (same_pair h) (λ (x : Hi). OtherPair x h) (other-pair h) hs t.1);
        users = k.users;
        apart = k.apart;
      }

  pub kept-user : (u : User) → (Ok tt) ≡ user_cause c us u → Kept c hs (us ++ (u ∷ []))
  kept-user u q =
      let t = user-passed c u us q in
      record {
        his = k.his;
        pairs = k.pairs;
        users = every-snoc (UserIn c) us u k.users t.0;
        apart = apart_snoc Disjoint us u k.apart (none-every (clash u) (λ (x : User). Disjoint x u) (disjoint u) us t.1);
      }
