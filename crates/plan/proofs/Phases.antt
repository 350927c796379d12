-- The loops over the HIs and over the USERs: what holds at each command, from the first to the last. Assumes nothing.
use Prim.Native.Nat.{ℕ, ◌+◌, ◌-◌, ◌*◌, ◌/◌, ◌≤◌, ◌<◌}
use mathlib.Core.Path.{◌≡◌, refl, sym, ap, ◌∙◌, subst}
use mathlib.Core.Bool.{Bool, false}
use mathlib.Core.List.{List, []}
use native.Mathlib.Omega.{arith}
use lib.ListN.{length, drop, get_or, set, replicate, length-set}
use lib.Seq.{get_or-set_other}
use Rattle.std.specs.declared.result.Result.{Result}
use Rattle.std.specs.declared.result.Result.TheVariants.{Ok, Err as refused, Err}
use Rattle.bitset.specs.Sets.{added, joined}
use Rattle.plan.specs.Commands.{user_of, frame_of, command_of}
use Rattle.plan.specs.Finding.{hi_cause, user_cause, found_at}
use Rattle.plan.specs.CommandLists.{next_of, his_from, users_from}
use Rattle.plan.specs.Loops.{body_rest, stands_at, pair_of, PairsUsed, blocks_of, UsersUsed, HisPast, HisRead, EndDue}
use Rattle.plan.specs.Valid.{CellIn, HiIn}
use Rattle.plan.specs.declared.Cell.{Cell}
use Rattle.plan.specs.declared.Frame.{Frame}
use Rattle.plan.specs.declared.Hi.{Hi}
use Rattle.plan.specs.declared.User.{User}
use Rattle.plan.specs.declared.Command.TheVariants.{Hi as hi, User as user}
use Rattle.plan.specs.declared.Cause.{Cause}
use Rattle.plan.specs.declared.Stop.{Stop}
use Rattle.plan.proofs.Entries.{told}
use Rattle.plan.proofs.Reading.{no-hi-stands, no-user-stands}
use Rattle.plan.proofs.CommandLists.{commands-length, past-none}
use Rattle.plan.proofs.OneCommand.{Standing, standing-first, on-no-lists}
use Rattle.plan.proofs.OneCommand.{hi-refused, hi-next, hi-room, standing-hi, on-more-his, hi-step}
use Rattle.plan.proofs.OneCommand.{user-refused, user-next, user-room, standing-user, on-more-users, user-step}
use Rattle.plan.proofs.CauseLaws.{hi-passed, user-passed}
use Rattle.plan.proofs.Kept.{Kept, kept-first, kept-user}
use Rattle.plan.proofs.Counts.{blocks-most, few-users}
use Rattle.plan.proofs.Before.{pairs-none, pair-word, pairs-more, zeros, users-none, users-more}

-- ---- the HIs: n of them, and the next command at position at
pub record HisGoing (w : List ℕ) (c : Cell) (start n at : ℕ) (pairs : List ℕ) : Type 0 where
  pub standing : Standing w start n at 0 at
  pub same : (f : Frame) → body_rest w c f start n at 0 at ≡ body_rest w c f start 0 start 0 start
  pub words : length pairs ≡ 7
  pub used : PairsUsed c pairs (his_from (drop start w) n)

pub his-first : (w : List ℕ) (c : Cell) (start : ℕ) → start ≤ length w → HisGoing w c start 0 start (replicate 7 0)
his-first w c start h =
    record {
      standing = standing-first w start h;
      same = λ f. refl;
      words = refl;
      used = on-no-lists w start (λ (hs : List Hi) (us : List User). PairsUsed c (replicate 7 0) hs) (pairs-none c);
    }

-- the last HI is behind
pub his-done : {w : List ℕ} {c : Cell} {start n at : ℕ} {pairs : List ℕ} → HisGoing w c start n at pairs →
    {b : Bool} → b ≡ stands_at 0x20 (drop at w) → b ≡ false → HisRead w c start (Ok n)
his-done {w} {c} {start} {n} {at} g eb f =
    subst
    (λ (x : ℕ). HisPast w start n x × ((f : Frame) → body_rest w c f start n x 0 x ≡ body_rest w c f start 0 start 0 start))
    g.standing.mid_at
    (record { his-end = g.standing.his-end; room = g.standing.room; no-hi = no-hi-stands (drop at w) (sym eb ∙ f) }, g.same)

-- at the HI h, with its cause q
pub record AtHi (w : List ℕ) (c : Cell) (start n at : ℕ) (pairs : List ℕ) (h : Hi) (q : Result Unit Cause) : Type 0 where
  pub going : HisGoing w c start n at pairs
  pub ok : CellIn c
  pub there : command_of (drop at w) ≡ hi h
  pub cause : q ≡ hi_cause c (his_from (drop start w) n) h

module _ {w : List ℕ} {c : Cell} {start n at : ℕ} {pairs : List ℕ} {h : Hi} {q : Result Unit Cause} (z : AtHi w c start n at pairs h q) where
  pub his-less : {to : ℕ} → to ≡ next_of w at → length w - to < length w - at
  his-less et = omega (arith, hi-next w c (frame_of []) start n at 0 at h z.there, hi-room w c (frame_of []) start n at 0 at h z.there z.going.standing)

  pub his-refused : {k : Cause} → q ≡ Err k → {g : Stop} → g ≡ found_at (n + 3) at k → HisRead w c start (Err g)
  his-refused {k} e eg f =
      let number : n + 3 ≡ n + 0 + 3 = omega arith in
      ap refused (eg ∙ ap (λ (x : ℕ). found_at x at k) number)
      ∙ sym (hi-refused w c f start n at 0 at h z.there k (sym e ∙ z.cause)) ∙ z.going.same f

  module _ (e : q ≡ (Ok tt)) {k : ℕ} (ek : k ≡ pair_of h) where
    none : (Ok tt) ≡ hi_cause c (his_from (drop start w) n) h
    none = sym e ∙ z.cause

    range : HiIn c h
    range = (hi-passed c (his_from (drop start w) n) h none).0

    pub his-word : k / 64 < length pairs
    his-word = omega (arith, ek, z.going.words, pair-word c z.ok h range)

    pub his-again : {now : List ℕ} → now ≡ added pairs k → {to : ℕ} → to ≡ next_of w at → HisGoing w c start (n + 1) to now
    his-again {now} en {to} et =
        let g = z.going in
        let s : to ≡ at + 3 = et ∙ hi-next w c (frame_of []) start n at 0 at h z.there in
        let m : now ≡ added pairs (pair_of h) = en ∙ ap (added pairs) ek in
        rw s
        (record {
          standing = rw s at (standing-hi w c (frame_of []) start n at 0 at h z.there g.standing none to et);
          same = λ f. rw s at (sym (hi-step w c f start n at 0 at h z.there g.standing none to et) ∙ g.same f);
          words = rw m (length-set pairs _ _) ∙ g.words;
          used =
              on-more-his w c (frame_of []) start n at 0 at h z.there g.standing none to et (λ (hs : List Hi) (us : List User). PairsUsed c now hs)
              (rw m (pairs-more c z.ok h range pairs g.words g.used));
        })

-- ---- the USERs: m of them from position mid on, and the next command at position at
pub record UsersGoing (w : List ℕ) (c : Cell) (f : Frame) (start n mid m at : ℕ) (rntis blocks : List ℕ) : Type 0 where
  pub standing : Standing w start n mid m at
  pub same : body_rest w c f start n mid m at ≡ body_rest w c f start n mid 0 mid
  pub first : m ≡ 0 → at ≡ mid
  pub few : m ≤ 100
  pub places : length rntis ≡ 104
  pub free : (i : ℕ) → m ≤ i → get_or rntis i 0 ≡ 0
  pub kept : Kept c [] (users_from (drop mid w) m)
  pub used : UsersUsed c rntis blocks (users_from (drop mid w) m)

pub users-first : (w : List ℕ) (c : Cell) (f : Frame) (start n mid : ℕ) → HisPast w start n mid → mid ≡ start + 3 * n →
    UsersGoing w c f start n mid 0 mid (replicate 104 0) (replicate 2 0)
users-first w c f start n mid p e =
    record {
      standing = record { his-end = p.his-end; users-end = sym (past-none 0 (drop mid w) refl); mid_at = e; behind = omega arith; room = p.room };
      same = refl;
      first = λ z. refl;
      few = omega arith;
      places = refl;
      free = λ i l. zeros 104 i;
      kept = on-no-lists w mid (λ (hs : List Hi) (us : List User). Kept c [] us) (kept-first c);
      used = on-no-lists w mid (λ (hs : List Hi) (us : List User). UsersUsed c (replicate 104 0) (replicate 2 0) us) (users-none c);
    }

-- the last USER is behind
pub users-done : {w : List ℕ} {c : Cell} {f : Frame} {start n mid m at : ℕ} {rntis blocks : List ℕ} → UsersGoing w c f start n mid m at rntis blocks →
    HisPast w start n mid → {b : Bool} → b ≡ stands_at 0x30 (drop at w) → b ≡ false →
    EndDue w (record { cell = c; frame = f; his = record { at = start; count = n }; users = record { at = mid; count = m } }) at
users-done {w} {at = at} g p eb t =
    record {
      mid_at = g.standing.mid_at;
      behind = g.standing.behind;
      room = g.standing.room;
      no-hi = λ z h e. p.no-hi h (rw (g.first z) at e);
      no-user = no-user-stands (drop at w) (sym eb ∙ t);
    }

-- at the USER u, with its cause q
pub record AtUser (w : List ℕ) (c : Cell) (f : Frame) (start n mid m at : ℕ) (rntis blocks : List ℕ) (u : User) (q : Result Unit Cause) : Type 0 where
  pub going : UsersGoing w c f start n mid m at rntis blocks
  pub ok : CellIn c
  pub there : command_of (drop at w) ≡ user u
  pub cause : q ≡ user_cause c (users_from (drop mid w) m) u

module _ {w : List ℕ} {c : Cell} {f : Frame} {start n mid m at : ℕ} {rntis blocks : List ℕ} {u : User} {q : Result Unit Cause} (z : AtUser w c f start n mid m at rntis blocks u q) where
  pub users-less : {to : ℕ} → to ≡ next_of w at → length w - to < length w - at
  users-less et =
      omega (arith, user-next w c f start n mid m at u z.there, user-room w c f start n mid m at u z.there z.going.standing, (told (drop at w) (user u) z.there).1)

  pub users-refused : {k : Cause} → q ≡ Err k → {g : Stop} → g ≡ found_at (n + m + 3) at k → refused g ≡ body_rest w c f start n mid 0 mid
  users-refused {k} e eg = ap refused eg ∙ sym (user-refused w c f start n mid m at u z.there k (sym e ∙ z.cause)) ∙ z.going.same

  pub users-again : q ≡ (Ok tt) → {own : List ℕ} → own ≡ blocks_of u → {now : List ℕ} → now ≡ joined blocks own →
      {to : ℕ} → to ≡ next_of w at → UsersGoing w c f start n mid (m + 1) to (set rntis m u.rnti) now
  users-again e eo {now} en {to} et =
      let g = z.going in
      let none : (Ok tt) ≡ user_cause c (users_from (drop mid w) m) u = sym e ∙ z.cause in
      let range = (user-passed c u (users_from (drop mid w) m) none).0 in
      let s : now ≡ joined blocks (blocks_of u) = en ∙ ap (joined blocks) eo in
      let place : m < length rntis = omega (arith, g.places, g.few) in
      let k : Kept c [] (users_from (drop mid w) (m + 1)) =
      on-more-users w c f start n mid m at u z.there g.standing to et (Kept c []) (kept-user g.kept u none) in
      record {
        standing = standing-user w c f start n mid m at u z.there g.standing to et;
        same = sym (user-step w c f start n mid m at u z.there g.standing to et none) ∙ g.same;
        first = λ x. absurd (omega arith);
        few = omega (arith, few-users c (users_from (drop mid w) (m + 1)) k.users k.apart, commands-length user_of (drop mid w) (m + 1), blocks-most c z.ok);
        places = length-set rntis m u.rnti ∙ g.places;
        free = λ i l. get_or-set_other rntis m i u.rnti 0 (λ x. omega arith) ∙ g.free i (omega arith);
        kept = k;
        used =
            on-more-users w c f start n mid m at u z.there g.standing to et (UsersUsed c (set rntis m u.rnti) now)
            (rw s (users-more c z.ok u range rntis blocks g.used m place (g.free m (omega arith))));
      }
