-- THE AREA, run after run: where the loop starts, what a run needs, what it leaves, and the end; and from its tables to its places. Assumes what
-- filling an area needs.
use Prim.Native.Nat.{ℕ, ◌+◌, ◌*◌, ◌≤◌, ◌<◌}
use mathlib.Core.Path.{◌≡◌, refl, sym, ap, ◌∙◌, subst}
use mathlib.Core.Bool.{Bool, cond}
use mathlib.Core.List.{List}
use native.Mathlib.Nat.{mul-zero}
use native.Mathlib.Omega.{arith}
use borrow.Author.Tests.{ne_eqb}
use Rattle.base.specs.declared.Element.{Element}
use Rattle.gold.specs.declared.Registers.{Registers}
use Rattle.modulation.specs.Symbols.{unit_of}
use Rattle.codeword.specs.declared.ScrambledBits.{ScrambledBits}
use Rattle.codeword.specs.Streams.{symbols_of}
use Rattle.codeword.specs.Bits48.{Standing, Begins48, Ends}
use Rattle.precoding.specs.Matrices.{unit_byte_on}
use Rattle.precoding.proofs.Ports.{unit-byte-on}
use Rattle.layout.specs.Owners.{symbols, carriers}
use Rattle.places.specs.Places.{places_of}
use Rattle.grid.proofs.Writing.{same}
use Rattle.walk.specs.declared.Span.{Span}
use Rattle.walk.specs.declared.Row.{Row}
use Rattle.walk.specs.declared.Cursor.{Cursor}
use Rattle.walk.specs.declared.Run.{Run}
use Rattle.walk.specs.Runs.{run_count}
use Rattle.walk.specs.Addresses.{RunOpen}
use Rattle.walk.specs.Parts.{own_sends}
use Rattle.walk.specs.Tables.{cursor_start, cursor_run, cursor_next}
use Rattle.walk.proofs.Pairs.{written_none, written-join, written_all}
use Rattle.areas.specs.declared.Area.{Area}
use Rattle.constellation.specs.Entries.{Elements}
use Rattle.areas.specs.Areas.{area_at, area_index, area_count, area_sends, area_element}
use Rattle.areas.specs.Tables.{AreaTables}
use Rattle.areas.proofs.Runs.{runs-later, area-starts, some-places, area-laid, area-open, area-next, area-count}
use Rattle.data_write.specs.Sent.{sent_element, bits_at_once, TableOf, Sending}
use Rattle.data_write.specs.Pairs.{RunFilled}
use Rattle.data_write.specs.Areas.{ports_of, group_in, RunsIn, Going, RunsDone, FillIn, AreaFilled}
use Rattle.data_write.proofs.Filled.{later-sending}

-- ---- one port, and two or four
one-group : {P : ℕ} (q : ℕ) → P ≡ 1 → bits_at_once P q ≡ q
one-group q e = ap (λ (x : ℕ). bits_at_once x q) e

pair-group : {P : ℕ} (q : ℕ) → (P ≡ 1 → ⊥) → bits_at_once P q ≡ 2 * q
pair-group {P} q n = ap (λ (b : Bool). cond b q (2 * q)) (ne_eqb P 1 n)

module _ {P q j : ℕ} {t bits : List ℕ} {st : ScrambledBits} (s : Sending (bits_at_once P q) q j t bits st) where
  pub one-sending : P ≡ 1 → Sending q q j t bits st
  one-sending e = subst (λ (x : ℕ). Sending x q j t bits st) (one-group q e) s

  pub pairs-sending : (P ≡ 1 → ⊥) → Sending (2 * q) q j t bits st
  pairs-sending n = subst (λ (x : ℕ). Sending x q j t bits st) (pair-group q n) s

module _ {P T j q next : ℕ} {run : Run} {t bits : List ℕ} {st : ScrambledBits} {before : List ℕ} {st' : ScrambledBits} {after : List ℕ} where
  pub one-filled : P ≡ 1 → RunFilled q 1 T j run q t bits st before next st' after → RunFilled (bits_at_once P q) P T j run q t bits st before next st' after
  one-filled e f =
      subst (λ (x : ℕ). RunFilled x P T j run q t bits st before next st' after) (sym (one-group q e))
      (subst (λ (x : ℕ). RunFilled q x T j run q t bits st before next st' after) (sym e) f)

  pub pairs-filled :
      (P ≡ 1 → ⊥) → RunFilled (2 * q) P T j run q t bits st before next st' after → RunFilled (bits_at_once P q) P T j run q t bits st before next st' after
  pairs-filled n f = subst (λ (x : ℕ). RunFilled x P T j run q t bits st before next st' after) (sym (pair-group q n)) f

-- ---- run after run
module _ {a : Area} {q : ℕ} {rows : List Row} {spans : List Span} {t bits : List ℕ} {st : ScrambledBits} {before : List ℕ} (h : RunsIn a q rows spans t bits st before) where
  abbrev P : ℕ
  P = ports_of a

  abbrev T : ℕ
  T = places_of a.cell

  abbrev value_of : ℕ → Registers → ℕ → Element
  value_of unit r = sent_element (area_at a) P T unit (symbols_of q bits r)

  pub area-begins : {c : Cursor} → c ≡ cursor_start rows → Going a q rows spans t bits st before c 0 st before
  area-begins e =
      record {
        cursor = area-starts h.runs e;
        size = refl;
        stands = λ r s. s;
        written = λ unit r tb s. written_none (area_at a) P T (value_of unit r) 0 before;
      }

  module _ {S W places : ℕ} (es : S ≡ symbols a.cell) (ew : W ≡ carriers a.cell) (ep : places ≡ places_of a.cell) where
    module _
        {c : Cursor} {j : ℕ} {st' : ScrambledBits} {grid : List ℕ} (g : Going a q rows spans t bits st before c j st' grid) (l : c.s < S) {run : Run}
        (er : run ≡ cursor_run W rows spans c) where
      pub area-run : run.halves ≤ 255 → RunOpen P (places) j run grid × Sending (group_in a q) q j t bits st'
      area-run short = (area-open (runs-later h.runs g.size) es ew ep g.cursor l er short, later-sending h.sending g.stands)

      pub area_on :
          {c' : Cursor} {j' : ℕ} {st'' : ScrambledBits} {after : List ℕ} → c' ≡ cursor_next rows c
          → RunFilled (group_in a q) P (places) j run q t bits st' grid j' st'' after → Going a q rows spans t bits st before c' j' st'' after
      area_on {c'} {j'} {st''} {after} ec x =
          let f : RunFilled (group_in a q) P T j run q t bits st' grid j' st'' after = rw ep at x in
          rw f.next-index
          (record {
            cursor = area-next h.runs es ew ep g.cursor l er ec;
            size = f.size ∙ g.size;
            stands = λ r s. f.stands r (g.stands r s);
            written = λ unit r tb s.
                let z : 0 + j ≡ j = omega arith in
                written-join (area_at a) P T (value_of unit r) 0 j (run_count run) (g.written unit r tb s)
                (rw z (f.filled (area_at a) unit r tb (g.stands r s) (area-laid h.runs es ew ep g.cursor l er)));
          })

    pub area-ends :
        {c : Cursor} {j : ℕ} {st' : ScrambledBits} {grid : List ℕ} → Going a q rows spans t bits st before c j st' grid → S ≤ c.s
        → RunsDone a q rows spans t bits st before st' grid
    unfolding area_count area_index area_sends area_element own_sends sent_element
    area-ends {j = j} {st'} g l =
        let e : j ≡ area_count a = area-count h.runs es ew ep g.cursor l in
        record {
          size = g.size;
          stands = λ r s. subst (λ (x : ℕ). Standing (group_in a q) bits r (q * x) st') e (g.stands r s);
          written = λ unit r tb s.
              same (λ x. refl) (λ x d. refl) (written_all (area_at a) P T (value_of unit r) j (some-places h.runs) e (g.written unit r tb s));
        }

-- ---- the state and the tables as they are made
pub begins : {u : ℕ} (q : ℕ) {bits : List ℕ} {st : ScrambledBits} {r : Registers} → Begins48 bits r st → Standing u bits r (q * 0) st
begins {u} q {bits} {st} {r} b =
    subst (λ (x : ℕ). Standing u bits r x st) (sym (mul-zero q))
    (record { ready = b.ready; most = omega (arith, b.full); groups = 0; whole = sym (mul-zero u) })

module _ {a : Area} {q : ℕ} {t masks grid : List ℕ} (h : FillIn a q t masks grid) where
  pub runs-in : {rows : List Row} {spans : List Span} {bits : List ℕ} {st : ScrambledBits} {r : Registers} → AreaTables a rows spans → Begins48 bits r st → RunsIn a q rows spans t bits st grid
  runs-in {r = r} x b =
      record {
        runs = record { cell = h.area.cell; room = h.area.room; signals = h.signals; tables = x };
        sending =
            record {
              order = h.area.order;
              byte = unit_byte_on (ports_of a) h.unit;
              small = (unit-byte-on (ports_of a) h.unit).0;
              table = h.table.table;
              pair = r;
              standing = begins q b;
            };
      }

  pub area-filled :
      {rows : List Row} {spans : List Span} {bits : List ℕ} {st st' : ScrambledBits} {after : List ℕ} {r x : Registers}
      → Begins48 bits r st → RunsDone a q rows spans t bits st grid st' after → Ends r st' x
      → AreaFilled a q t bits r grid x after
  area-filled {bits = bits} {r = r} b d e =
      record {
        written = λ unit tb. d.written unit r tb (begins q b);
        pair = e.exact bits (q * area_count a) (d.stands r (begins q b)).ready;
      }

-- the table of an order, as it is made
pub table-made : {P q unit u : ℕ} {t : List ℕ} → unit ≡ unit_of q → u ≡ unit_byte_on P unit → Elements q u t → TableOf P q (unit_of q) t
table-made {P} {q} {t = t} e f s = record { table = subst (λ (x : ℕ). Elements q x t) (f ∙ ap (unit_byte_on P) e) s }
