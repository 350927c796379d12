-- THE AREA, run after run: where the loop starts, what a run leaves, and the end. Assumes what an area's runs need.
use Prim.Native.Nat.{ℕ, ◌+◌, ◌≤◌, ◌<◌}
use mathlib.Core.Path.{◌≡◌, refl}
use mathlib.Core.List.{List}
use lib.Bits.{bit_or}
use Rattle.layout.specs.Owners.{symbols, carriers}
use Rattle.places.specs.Places.{places_of}
use Rattle.walk.specs.declared.Row.{Row}
use Rattle.walk.specs.declared.Span.{Span}
use Rattle.walk.specs.declared.Cursor.{Cursor}
use Rattle.walk.specs.declared.Run.{Run}
use Rattle.walk.specs.Runs.{run_count}
use Rattle.walk.specs.Tables.{cursor_start, cursor_run, cursor_next}
use Rattle.areas.specs.declared.Area.{Area}
use Rattle.areas.specs.Areas.{area_at, area_count}
use Rattle.areas.specs.Runs.{AreaRuns}
use Rattle.areas.proofs.Runs.{area-starts, area-laid, area-next, area-count}
use Rattle.data_compare.specs.declared.Form.{Form}
use Rattle.data_compare.specs.Places.{RunSeen, Going, Through, RunsWrong}
use Rattle.data_compare.proofs.Telling.{tells_none, tells-or}

module _ {a : Area} {rows : List Row} {spans : List Span} {g : List ℕ} (h : AreaRuns a rows spans g) where
  pub area-begins : {f : Form} {c : Cursor} → c ≡ cursor_start rows → Going a rows spans f g c 0 0
  area-begins e = record { cursor = area-starts h e; done = record { seen = λ q u o. tells_none } }

  module _ {S W places : ℕ} (es : S ≡ symbols a.cell) (ew : W ≡ carriers a.cell) (ep : places ≡ places_of a.cell) {f : Form} where
    pub area_on :
        {c : Cursor} {j bad : ℕ} (w : Going a rows spans f g c j bad) (l : c.s < S) {run : Run} → run ≡ cursor_run W rows spans c
        → {c' : Cursor} {n r : ℕ} → c' ≡ cursor_next rows c → n ≡ run_count run → RunSeen a.cell.ports (places) j run f g r
        → Going a rows spans f g c' (j + n) (bit_or bad r)
    area_on {j = j} w l {run} er {r = r} ec en s =
        let s' : RunSeen a.cell.ports (places_of a.cell) j run f g r = rw ep at s in
        rw en
        (record {
          cursor = area-next h es ew ep w.cursor l er ec;
          done = record { seen = λ q u o. tells-or (w.done.seen q u o) (s'.seen (area_at a) q u (area-laid h es ew ep w.cursor l er) o) };
        })

    pub area-ends : {c : Cursor} {j bad : ℕ} → Going a rows spans f g c j bad → S ≤ c.s → Through a f g j bad
    area-ends {j = j} w l =
        let e : j ≡ area_count a = area-count h es ew ep w.cursor l in
        record { index = e; done = rw e at w.done }

pub runs-wrong : {a : Area} {f : Form} {g : List ℕ} {j bad : ℕ} → (bad ≡ 0 → ⊥) → Through a f g j bad → RunsWrong a f g
runs-wrong {bad = bad} n t = record { bad = bad; some = n; done = record { index = refl; done = t.done } }
