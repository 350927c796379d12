-- AN AREA, run after run: where the cursor starts, what its run needs and is, where it stands after the run, and the end. The code has the
-- symbols, subcarriers and places of the cell. Assumes what an area's runs need.
use Prim.Native.Nat.{ℕ, ◌+◌, ◌≤◌, ◌<◌}
use mathlib.Core.Path.{◌≡◌, refl, sym, ap, ◌∙◌}
use mathlib.Core.Bool.{Bool}
use mathlib.Core.List.{List}
use native.Mathlib.Omega.{arith}
use lib.ListN.{length}
use Rattle.base.proofs.Counts.{cnt-same, cnt-most}
use Rattle.base.proofs.Rows.{row_inside}
use Rattle.plan.proofs.Counts.{blocks-most}
use Rattle.layout.specs.Owners.{symbols, carriers}
use Rattle.places.specs.Places.{places_of}
use Rattle.places.proofs.Numbers.{symbols-most, symbols-least}
use Rattle.walk.specs.declared.Cursor.{Cursor}
use Rattle.walk.specs.declared.Row.{Row}
use Rattle.walk.specs.declared.Run.{Run}
use Rattle.walk.specs.declared.Span.{Span}
use Rattle.walk.specs.Addresses.{RunOpen}
use Rattle.walk.specs.Forms.{PairForm}
use Rattle.walk.specs.Runs.{run_count, Laid}
use Rattle.walk.specs.Tables.{row_mask, cursor_start, cursor_run, cursor_next, CursorIn}
use Rattle.walk.proofs.Addresses.{room-later}
use Rattle.walk.proofs.Cursors.{starts, run_in, run-laid, goes_on, through}
use Rattle.walk.proofs.Runs.{form-even}
use Rattle.areas.specs.declared.Area.{Area}
use Rattle.areas.specs.Areas.{area_at, area_count}
use Rattle.areas.specs.Runs.{AreaRuns, AreaAt}

-- ---- a run's places by other places that are the same
laid_as : {own own' : ℕ → Bool} {T j : ℕ} {r : Run} → ((t : ℕ) → t < T → own t ≡ own' t) → Laid own T j r → Laid own' T j r
laid_as {own} {own'} {T} h l =
    record {
      before = l.before;
      inside = l.inside;
      owned = λ k b. sym (h _ (l.within k b)) ∙ l.owned k b;
      index = λ k b. sym (cnt-same own own' _ (λ t c. h t (omega (arith, l.within k b)))) ∙ l.index k b;
      within = l.within;
      total = omega (arith, l.total, cnt-same own own' T h);
    }

module _ {a : Area} {rows : List Row} {spans : List Span} {grid : List ℕ} (h : AreaRuns a rows spans grid) where
  -- in a grid of the same length
  pub runs-later : {g : List ℕ} → length g ≡ length grid → AreaRuns a rows spans g
  runs-later e = record { cell = h.cell; room = room-later e h.room; signals = h.signals; tables = h.tables }

  pub area-starts : {c : Cursor} → c ≡ cursor_start rows → AreaAt a rows spans c 0
  area-starts e = rw e (record { comes = starts h.tables.sets; even = λ many. refl })

  pub some-places : 0 < places_of a.cell
  some-places =
      omega (arith, h.tables.sets.some, row_inside 0 (symbols a.cell) (carriers a.cell) (carriers a.cell) (omega (arith, symbols-least a.cell)) (omega arith))

  forms : 2 ≤ a.cell.ports → (s : ℕ) → s < symbols a.cell → PairForm (row_mask rows s)
  forms many = h.tables.pairs (h.signals many).0 (h.signals many).1

  module _ {S W places : ℕ} (es : S ≡ symbols a.cell) (ew : W ≡ carriers a.cell) (ep : places ≡ places_of a.cell) where
    module _ {c : Cursor} {j : ℕ} (k : AreaAt a rows spans c j) (less : c.s < S) where
      l : c.s < symbols a.cell
      l = omega (arith, es)

      pub cursor-in : CursorIn W rows spans c
      cursor-in = rw ew (run_in h.tables.sets k.comes (symbols-most a.cell) (omega (arith, blocks-most a.cell h.cell)) l)

      module _ {run : Run} (er : run ≡ cursor_run W rows spans c) where
        is : run ≡ cursor_run (carriers a.cell) rows spans c
        is = er ∙ ap (λ (x : ℕ). cursor_run x rows spans c) ew

        pub area-laid : Laid (area_at a) (places_of a.cell) j run
        area-laid = rw is (laid_as h.tables.places (run-laid h.tables.sets k.comes l))

        pub area-few : j + run_count run ≤ area_count a
        unfolding area_count
        area-few = area-laid.total

        pub area-open : run.halves ≤ 255 → RunOpen a.cell.ports places j run grid
        area-open short =
            let m : run.mask ≡ row_mask rows c.s = ap (λ (x : Run). x.mask) is in
            rw ep
            (record {
              room = h.room;
              even = k.even;
              before = area-laid.before;
              inside = area-laid.inside;
              single = rw m (h.tables.single c.s l);
              pairs = λ many. rw m (forms many c.s l);
              short = short;
              index = omega (arith, area-laid.total, cnt-most (area_at a) (places_of a.cell), h.room.fits);
            })

        pub area-next : {c' : Cursor} → c' ≡ cursor_next rows c → AreaAt a rows spans c' (j + run_count run)
        area-next ec =
            rw (ec, is)
            (record {
              comes = goes_on h.tables.sets k.comes l;
              even = λ many. omega (arith, k.even many, form-even (cursor_run (carriers a.cell) rows spans c) (forms many c.s l));
            })

    pub area-count : {c : Cursor} {j : ℕ} → AreaAt a rows spans c j → S ≤ c.s → j ≡ area_count a
    unfolding area_count
    area-count k m = through h.tables.sets k.comes (omega (arith, es)) ∙ cnt-same _ (area_at a) (places_of a.cell) h.tables.places
