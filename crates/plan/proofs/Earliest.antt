-- The earlier command that a refused one clashes with is the first, and there is one wherever the cause says so. Assumes nothing.
use Prim.Native.Nat.{ℕ, zero, suc, ◌+◌, ◌-◌, ◌≤◌, ◌<◌}
use mathlib.Core.Path.{◌≡◌, refl, sym, ap, ◌∙◌}
use mathlib.Core.Bool.{Bool, true, false, not, cond, ◌&&◌, false≢true}
use mathlib.Core.List.{List, [], ◌∷◌, ◌++◌}
use native.Mathlib.Omega.{arith}
use lib.Dec.{leb, ltb, eqb}
use lib.ListN.{length, drop}
use lib.Seq.{drop-drop}
use borrow.Author.Tests.{eq-eqb}
use Rattle.std.specs.declared.result.Result.{Result}
use Rattle.std.specs.declared.result.Result.TheVariants.{Ok as accepted, Ok, Err as refused, Err}
use Rattle.std.specs.declared.option.Option.{Option}
use Rattle.std.specs.declared.option.Option.TheVariants.{None, Some}
use Rattle.base.proofs.Tests.{both}
use Rattle.plan.specs.Lists.{one_of, none_of}
use Rattle.plan.specs.Commands.{byte, hi_of, user_of, size_of, command_of, commands_after, commands}
use Rattle.plan.specs.Fields.{orders, phich_groups, sequences_of, same_pair}
use Rattle.plan.specs.Check.{State, begin, state_after, plan_of}
use Rattle.plan.specs.Finding.{demand, cell_cause, frame_cause, hi_cause, same_rnti, shares_block, user_cause, broken_cause}
use Rattle.plan.specs.Finding.{in_order, field_cause, cause_at, cause_of, refused_at, stop_at, walk_from, walk_of}
use Rattle.plan.specs.Finding.{shared_by, clashes, first_from, earlier_of, finding_at, explained_by, finding_of, EarlierIs, EarlierNamed}
use Rattle.plan.specs.CommandLists.{past, next_of}
use Rattle.plan.specs.declared.Cell.{Cell}
use Rattle.plan.specs.declared.Frame.{Frame}
use Rattle.plan.specs.declared.Plan.{Plan}
use Rattle.plan.specs.declared.Command.{Command}
use Rattle.plan.specs.declared.Command.TheVariants.{Cell as cell, Cellx as cellx, Frame as frame, Hi as hi, User as user, End as end, Broken as broken}
use Rattle.plan.specs.declared.Cause.{Cause}
use Rattle.plan.specs.declared.Cause.TheVariants.{NoEnd, OutOfOrder, AfterEnd, Group, Sequence, PairUsed, Rnti, Modulation, Count, LastBlock, RntiUsed, BlockUsed}
use Rattle.plan.specs.declared.Stop.{Stop}
use Rattle.plan.specs.declared.Numbered.{Numbered}
use Rattle.plan.specs.declared.Hi.{Hi}
use Rattle.plan.specs.declared.User.{User}
use Rattle.plan.specs.declared.Shared.{Shared}
use Rattle.plan.specs.declared.Shared.TheVariants.{Nothing as Alone, Pair, Rnti as Same, Block}
use Rattle.plan.proofs.Listed.{choose, none-snoc}
use Rattle.plan.proofs.Entries.{told, next}
use Rattle.plan.proofs.Reading.{drop-next}
use Rattle.plan.proofs.CommandLists.{past_more, past-none}
use Rattle.plan.proofs.Verdict.{one_more}

-- ---- the first of k commands after the first m of the plan w, by the test t
module _ (t : List ℕ → Bool) (w : List ℕ) where
  record Hit (m k : ℕ) (e : Numbered) : Type 0 where
    pub from : m < e.command
    pub to : e.command ≤ m + k
    pub place : drop e.offset w ≡ past w (e.command - 1)
    pub holds : t (drop e.offset w) ≡ true
    pub none : (i : ℕ) → m ≤ i → i < e.command - 1 → t (past w i) ≡ false

  abbrev First : ℕ → ℕ → Option Numbered → Type 0
  First m k None = (i : ℕ) → m ≤ i → i < m + k → t (past w i) ≡ false
  First m k (Some e) = Hit m k e

  module _ (m : ℕ) (q : t (past w m) ≡ false) where
    further : (P : ℕ → Type 0) → ((i : ℕ) → m + 1 ≤ i → P i → t (past w i) ≡ false) → (i : ℕ) → m ≤ i → P i → t (past w i) ≡ false
    further P h i l p = by (i - m) refl
      where
        by : (d : ℕ) → d ≡ i - m → t (past w i) ≡ false
        by zero e = let z : m ≡ i = omega arith in rw (← z) q
        by (suc d) e = h i (omega arith) p

    one_less : (k : ℕ) (a : Option Numbered) → First (m + 1) k a → First m (suc k) a
    one_less k None h = λ i l u. further (λ (j : ℕ). j < m + suc k) (λ j v x. h j v (omega arith)) i l u
    one_less k (Some e) h =
        record {
          from = omega (arith, h.from);
          to = omega (arith, h.to);
          place = h.place;
          holds = h.holds;
          none = further (λ (j : ℕ). j < e.command - 1) h.none;
        }

  first-is : (k m at : ℕ) → drop at w ≡ past w m → First m k (first_from t w (m + 1) at k)
  unfolding first_from
  first-is zero m at e = λ i l u. absurd (omega arith)
  first-is (suc k) m at e =
      let z : m ≡ m + 1 - 1 = omega arith in
      choose (First m (suc k)) (t (drop at w)) (Some (record { command = m + 1; offset = at })) (first_from t w (m + 1 + 1) (next_of w at) k)
      (λ q. record { from = omega arith; to = omega arith; place = e ∙ ap (past w) z; holds = q; none = λ i l u. absurd (omega arith) })
      (λ q.
      one_less m (rw e at q) k (first_from t w (m + 1 + 1) (next_of w at) k)
      (first-is k (m + 1) (next_of w at) (drop-next w at ∙ ap (λ (l : List ℕ). drop (size_of l) l) e ∙ sym (past_more m w))))

-- ---- what a command with a reason to be refused has in common with one before it
abbrev shared_in : Result Unit Cause → Shared
shared_in (Ok tt) = Alone
shared_in (Err k) = shared_by k

in-demand : (t : Bool) (k : Cause) (r : Result Unit Cause) → shared_in (demand t k r) ≡ cond t (shared_in r) (shared_by k)
in-demand true k r = refl
in-demand false k r = refl

either_way : (t : Bool) (x : Shared) → cond t x x ≡ x
either_way true x = refl
either_way false x = refl

cell-alone : (c : Cell) → shared_in (cell_cause c) ≡ Alone
unfolding cell_cause
cell-alone c = simp (in-demand, either_way)

frame-alone : (c : Cell) (f : Frame) → shared_in (frame_cause c f) ≡ Alone
unfolding frame_cause
frame-alone c f = simp (in-demand, either_way)

broken-alone : (l : List ℕ) → shared_in (broken_cause l) ≡ Alone
unfolding broken_cause
broken-alone l = simp (in-demand, either_way)

module _ (P : Shared → Type 0) where
  on-demand : (t : Bool) (k : Cause) (r : Result Unit Cause) → (t ≡ false → P (shared_by k)) → P (shared_in r) → P (shared_in (demand t k r))
  on-demand true k r p h = h
  on-demand false k r p h = p refl

  module _ (a : P Alone) where
    on-hi : (c : Cell) (hs : List Hi) (h : Hi) → (none_of (same_pair h) hs ≡ false → P Pair) → P (shared_in (hi_cause c hs h))
    unfolding hi_cause
    on-hi c hs h p =
        on-demand (ltb h.group (phich_groups c)) Group _ (λ q. a)
        (on-demand (ltb h.sequence (sequences_of c)) Sequence _ (λ q. a)
        (on-demand (none_of (same_pair h) hs) PairUsed (Ok tt) p a))

    on-user : (c : Cell) (us : List User) (u : User) → (none_of (same_rnti u) us ≡ false → P Same) → (none_of (shares_block u) us ≡ false → P Block) → P (shared_in (user_cause c us u))
    unfolding user_cause
    on-user c us u p b =
        on-demand (leb 1 u.rnti && leb u.rnti 65535) Rnti _ (λ q. a)
        (on-demand (one_of u.order orders) Modulation _ (λ q. a)
        (on-demand (leb 1 u.count) Count _ (λ q. a)
        (on-demand (leb (u.first + u.count) c.blocks) LastBlock _ (λ q. a)
        (on-demand (none_of (same_rnti u) us) RntiUsed _ p
        (on-demand (none_of (shares_block u) us) BlockUsed (Ok tt) b a)))))

-- ---- what the check has seen: xs are those of the first m commands of the plan w that have the byte code; a test that fails on each of these fails on each of xs
record Seen {A : Type 0} (w : List ℕ) (code : ℕ) (read : List ℕ → A) (m : ℕ) (xs : List A) : Type 0 where
  pub none : (t : A → Bool) → ((i : ℕ) → i < m → eqb (byte (past w i) 0) code && t (read (past w i)) ≡ false) → none_of t xs ≡ true

module _ {A : Type 0} {w : List ℕ} {code : ℕ} {read : List ℕ → A} {m : ℕ} {xs : List A} (s : Seen w code read m xs) where
  seen_same : Seen w code read (m + 1) xs
  seen_same = record { none = λ t h. s.none t (λ i l. h i (omega arith)) }

  seen_more : (x : A) → x ≡ read (past w m) → byte (past w m) 0 ≡ code → Seen w code read (m + 1) (xs ++ (x ∷ []))
  seen_more x ex eb =
      record {
        none = λ t h.
            let q : t x ≡ false = ap t ex ∙ rw (eq-eqb (byte (past w m) 0) code eb) at (h m (omega arith)) in
            none-snoc t xs x ∙ both (s.none t (λ i l. h i (omega arith))) (ap not q);
      }

record SeenAll (w : List ℕ) (m : ℕ) (st : State) : Type 0 where
  pub his : Seen w 0x20 hi_of m st.his
  pub users : Seen w 0x30 user_of m st.users

module _ (w : List ℕ) (m : ℕ) (st : State) (s : SeenAll w m st) where
  seen-after : (x : Command) → command_of (past w m) ≡ x → SeenAll w (m + 1) (state_after st x)
  unfolding state_after
  seen-after (cell y) e = record { his = seen_same s.his; users = seen_same s.users }
  seen-after (cellx y) e = record { his = seen_same s.his; users = seen_same s.users }
  seen-after (frame y) e = record { his = seen_same s.his; users = seen_same s.users }
  seen-after (hi h) e = let t = told (past w m) (hi h) e in record { his = seen_more s.his h t.0 t.3; users = seen_same s.users }
  seen-after (user u) e = let t = told (past w m) (user u) e in record { his = seen_same s.his; users = seen_more s.users u t.0 t.3 }
  seen-after end e = record { his = seen_same s.his; users = seen_same s.users }
  seen-after broken e = record { his = seen_same s.his; users = seen_same s.users }

  -- x is nothing, or one of the first m commands has it in common with the command that the bytes l begin with
  abbrev Shown : List ℕ → Shared → Type 0
  Shown l x = ((i : ℕ) → i < m → clashes x l (past w i) ≡ false) → x ≡ Alone

  module _ (l : List ℕ) where
    hi-shown : (h : Hi) → command_of l ≡ hi h → Shown l (shared_in (hi_cause st.cell st.his h))
    unfolding clashes
    hi-shown h e =
        let t = told l (hi h) e in
        on-hi (Shown l) (λ n. refl) st.cell st.his h
        (λ q n. absurd (false≢true (sym q ∙ s.his.none (same_pair h) (λ i u. rw (t.0, ← t.3) (n i u)))))

    user-shown : (u : User) → command_of l ≡ user u → Shown l (shared_in (user_cause st.cell st.users u))
    unfolding clashes
    user-shown u e =
        let t = told l (user u) e in
        on-user (Shown l) (λ n. refl) st.cell st.users u
        (λ q n. absurd (false≢true (sym q ∙ s.users.none (same_rnti u) (λ i v. rw (t.0, ← t.3) (n i v)))))
        (λ q n. absurd (false≢true (sym q ∙ s.users.none (shares_block u) (λ i v. rw (t.0, ← t.3) (n i v)))))

    field-shown : (x : Command) → command_of l ≡ x → Shown l (shared_in (field_cause st.cell st.his st.users l x))
    unfolding field_cause
    field-shown (cell c) e = rw (cell-alone c) (λ n. refl)
    field-shown (cellx c) e = rw (cell-alone c) (λ n. refl)
    field-shown (frame f) e = rw (frame-alone st.cell f) (λ n. refl)
    field-shown (hi h) e = hi-shown h e
    field-shown (user u) e = user-shown u e
    field-shown end e = λ n. refl
    field-shown broken e = rw (broken-alone l) (λ n. refl)

    cause-shown : (x : Command) → command_of l ≡ x → Shown l (shared_in (cause_of st l x))
    unfolding cause_at
    cause-shown x e =
        on-demand (Shown l) (not (eqb st.stage 4)) AfterEnd _ (λ q n. refl)
        (on-demand (Shown l) (in_order st.stage x) OutOfOrder _ (λ q n. refl) (field-shown x e))

-- ---- where the walk stops
module _ (w : List ℕ) where
  abbrev Told : Result Plan Stop → Type 0
  Told (accepted p) = Unit {0}
  Told (refused s) = ((i : ℕ) → i < s.command - 1 → clashes (shared_by s.cause) (drop s.offset w) (past w i) ≡ false) → shared_by s.cause ≡ Alone

  told-stop : (m at : ℕ) (st : State) (s : SeenAll w m st) (r : Result Unit Cause) (a : Result Plan Stop) → Shown w m st s (drop at w) (shared_in r) → Told a → Told (stop_at r (m + 1) at a)
  told-stop m at st s (Ok tt) a p h = h
  told-stop m at st s (Err k) a p h = λ n. p (λ i l. n i (omega arith))

  told-last : (t : Bool) (n at : ℕ) (p : Plan) → Told (cond t (accepted p) (refused_at n at NoEnd))
  told-last true n at p = tt
  told-last false n at p = λ n. refl

  some : (l : List ℕ) (x : Command) (xs : List Command) → commands l ≡ x ∷ xs → 0 < length l
  unfolding commands_after
  some [] x xs e = let z : ◌≡◌ {A = ℕ} 0 1 = cc in absurd (omega arith)
  some (b ∷ l) x xs e = omega arith

  tells : (xs : List Command) (st : State) (m at : ℕ) → drop at w ≡ past w m → commands (drop at w) ≡ xs → SeenAll w m st → Told (walk_from w st (m + 1) at xs)
  unfolding walk_from
  tells [] st m at e q s = told-last (eqb st.stage 4) (m + 1) at (plan_of st)
  tells (x ∷ xs) st m at e q s =
      let l = drop at w in
      let n = sym (next l (some l x xs q)) ∙ q in
      let here : command_of l ≡ x = cc in
      let rest : commands (drop (size_of l) l) ≡ xs = cc in
      told-stop m at st s (cause_of st l x) _ (cause-shown w m st s l x here)
      (tells xs (state_after st x) (m + 1) (at + size_of l) (one_more w m at e) (ap commands (sym (drop-drop (size_of l) at w)) ∙ rest)
      (seen-after w m st s x (ap command_of (sym e) ∙ here)))

  found : (s : Stop) → Told (refused s) → (a : Option Numbered) → First (clashes (shared_by s.cause) (drop s.offset w)) w 0 (s.command - 1) a → EarlierIs w (finding_at w s) a
  found s h None g = h (λ i l. g i (omega arith) (omega arith))
  found s h (Some e) g =
      record {
        some = omega (arith, g.from);
        before = omega (arith, g.from, g.to);
        place = g.place;
        clash = g.holds;
        first = λ i l. g.none i (omega arith) l;
      }

  seen_first : SeenAll w 0 begin
  unfolding begin none_of
  seen_first = record { his = record { none = λ t h. refl }; users = record { none = λ t h. refl } }

  -- THE LAW: the earlier command is the first that the refused one clashes with, and there is one wherever the cause says so
  pub explained-earlier : EarlierNamed w (finding_of w)
  unfolding finding_of walk_of earlier_of
  explained-earlier = by (walk_of w) (tells (commands w) begin 0 0 (sym (past-none 0 w refl)) refl seen_first)
    where
      by : (a : Result Plan Stop) → Told a → EarlierNamed w (explained_by w a)
      by (accepted p) h = tt
      by (refused s) h =
          found s h (earlier_of w s.command s.offset (shared_by s.cause))
          (first-is (clashes (shared_by s.cause) (drop s.offset w)) w (s.command - 1) 0 0 (sym (past-none 0 w refl)))
