-- THE AREA, run after run, from its tables to its places, and its section. Assumes what reading an area needs.
use Prim.Native.Nat.{ℕ, ◌+◌, ◌-◌, ◌*◌, ◌/◌, ◌%◌, ◌≤◌, ◌<◌}
use mathlib.Core.Path.{◌≡◌, refl, sym, ap, ap₂, ◌∙◌, subst}
use mathlib.Core.Bool.{cond}
use mathlib.Core.List.{List}
use native.Mathlib.Nat.{zero-add, mul-zero}
use native.Mathlib.Omega.{arith}
use lib.Dec.{eqb}
use lib.ListN.{length}
use Rattle.base.specs.Digits.{dig-two}
use Rattle.base.proofs.Counts.{nth_of}
use Rattle.base.proofs.Tables.{filled}
use Rattle.gold.specs.declared.Registers.{Registers}
use Rattle.gold.specs.Sequence.{binary}
use Rattle.modulation.specs.Demapping.{demap_of}
use Rattle.codeword.specs.Codewords.{scrambled}
use Rattle.codeword.specs.Streams.{outputs}
use Rattle.precoding.specs.Places.{own_port}
use Rattle.layout.specs.Owners.{symbols, carriers}
use Rattle.payload.specs.Sections.{section_bytes}
use Rattle.places.specs.Places.{places_of}
use Rattle.recovery.specs.Recovery.{word_of, section_of}
use Rattle.section_bits.specs.declared.SectionBits.{SectionBits}
use Rattle.section_bits.specs.Gathering.{up_to, Bits, bits_in, Begun, Flushed}
use Rattle.walk.specs.declared.Row.{Row}
use Rattle.walk.specs.declared.Span.{Span}
use Rattle.walk.specs.declared.Cursor.{Cursor}
use Rattle.walk.specs.declared.Run.{Run}
use Rattle.walk.specs.Addresses.{RunOpen}
use Rattle.walk.specs.Runs.{run_count, place_at, Laid}
use Rattle.walk.specs.Tables.{cursor_start, cursor_run, cursor_next}
use Rattle.areas.specs.declared.Area.{Area}
use Rattle.areas.specs.Areas.{area_at, area_count}
use Rattle.areas.specs.Tables.{AreaTables}
use Rattle.areas.proofs.Runs.{area-starts, area-laid, area-few, area-open, area-next, area-count}
use Rattle.data_compare.specs.Symbols.{area_place, area_symbol}
use Rattle.data_read.specs.Reading.{area_bit, AreaReads}
use Rattle.data_read.specs.Runs.{Stands, Reading, ReadOn, run_element, RunRead}
use Rattle.data_read.specs.Areas.{symbol_element, sent_bit, RunsIn, Going}
use Rattle.data_read.proofs.SymbolBits.{known-stands}
use Rattle.data_read.proofs.Gatherings.{read_none, read-later, read_join}

-- ---- run after run
module _ {a : Area} {q : ℕ} {rows : List Row} {spans : List Span} {d g : List ℕ} {st : SectionBits} {part : List ℕ} (h : RunsIn a q rows spans d g st part) where
  abbrev P : ℕ
  P = a.cell.ports

  abbrev T : ℕ
  T = places_of a.cell

  pub area-begins : {c : Cursor} → c ≡ cursor_start rows → Going a q rows spans d g st part c 0 st part
  area-begins e = record { cursor = area-starts h.runs e; read = read_none h.reading }

  module _ {S W places : ℕ} (es : S ≡ symbols a.cell) (ew : W ≡ carriers a.cell) (ep : places ≡ places_of a.cell) where
    module _
        {c : Cursor} {j : ℕ} {st' : SectionBits} {part' : List ℕ} (k : Going a q rows spans d g st part c j st' part') (less : c.s < S) {run : Run}
        (er : run ≡ cursor_run W rows spans c) where
      laid : Laid (area_at a) T j run
      laid = area-laid h.runs es ew ep k.cursor less er

      pub area-run : run.halves ≤ 255 → RunOpen P (places) j run g × Reading q j (run_count run) d st' part'
      area-run short = (
        area-open h.runs es ew ep k.cursor less er short,
        subst (λ (x : ℕ). Reading q x (run_count run) d st' part') (zero-add j)
            (read-later k.read h.reading (run_count run) (area-few h.runs es ew ep k.cursor less er)),
      )

      -- its elements are those of the area's next symbols
      next-element : (i : ℕ) → i < run_count run → run_element P T j run i ≡ symbol_element a (j + i)
      unfolding own_port area_place
      next-element i m =
          let z : (j + i) / 2 % 2 % 2 ≡ (j + i) / 2 % 2 = omega arith in
          ap₂ (λ (x y : ℕ). x * T + y) (ap (λ (x : ℕ). cond (eqb P 4) x 0) z)
          (sym (nth_of (area_at a) T (run.first + place_at run.mask i) (laid.owned i m) (laid.within i m)) ∙ ap (area_place a) (laid.index i m))

      pub area_on :
          {c' : Cursor} {j' : ℕ} {st'' : SectionBits} {part'' : List ℕ} → c' ≡ cursor_next rows c
          → RunRead q P (places) j run d g st' part' j' st'' part''
          → Going a q rows spans d g st part c' j' st'' part''
      area_on {c'} {j'} {st''} {part''} ec x =
          let x' : RunRead q P T j run d g st' part' j' st'' part'' = rw ep at x in
          rw x'.0
          (record {
            cursor = area-next h.runs es ew ep k.cursor less er ec;
            read =
                read_join k.read refl
                (subst (λ (y : ℕ). ReadOn q y (run_count run) (run_element P T j run) d g st' part' st'' part'') (sym (zero-add j)) x'.1) next-element;
          })

    pub area-ends :
        {c : Cursor} {j : ℕ} {st' : SectionBits} {part' : List ℕ} → Going a q rows spans d g st part c j st' part' → S ≤ c.s
        → ReadOn q 0 (area_count a) (symbol_element a) d g st part st' part'
    area-ends {c} {j} {st'} {part'} k m =
        subst (λ (x : ℕ). ReadOn q 0 x (symbol_element a) d g st part st' part') (area-count h.runs es ew ep k.cursor m) k.read

-- ---- bits of a constellation point
module _ {a : Area} {q : ℕ} {d masks g : List ℕ} (h : AreaReads a q d masks g) where
  stands : (j : ℕ) → j < area_count a → Stands q d g (sent_bit a q g) (0 + j) (symbol_element a j)
  unfolding area_symbol sent_bit
  stands j l =
      subst (λ (x : ℕ). Stands q d g (sent_bit a q g) x (symbol_element a j)) (sym (zero-add j))
      (known-stands h.section.area.order h.axis (area_symbol a g) j refl (h.section.known j l))

  sent-two : Bits (sent_bit a q g)
  unfolding sent_bit
  sent-two i = dig-two (word_of (demap_of q (area_symbol a g (i / q)))) (q - 1 - i % q)

  taken-off : (r : Registers) (i : ℕ) → scrambled (sent_bit a q g) (outputs r) i ≡ area_bit a q g r i
  unfolding area_bit sent_bit scrambled
  taken-off r i = refl

  -- ---- the section
  module _ {part : List ℕ} (size : length part ≡ section_bytes (q * area_count a)) {r : Registers} {st : SectionBits} (b : Begun r st) where
    pub runs-in : {rows : List Row} {spans : List Span} → AreaTables a rows spans → RunsIn a q rows spans d g st part
    runs-in t =
        record {
          runs = record { cell = h.section.area.cell; room = h.section.area.room; signals = h.signals; tables = t };
          reading =
              record {
                table = record { order = h.section.area.order; axis = h.axis };
                state = b.state;
                stands = b.none ∙ sym (mul-zero q);
                room = rw (zero-add (area_count a)) (omega (arith, size));
              };
        }

    pub section-read :
        {st' : SectionBits} {part' part'' : List ℕ} → ReadOn q 0 (area_count a) (symbol_element a) d g st part st' part' → Flushed st' part' part''
        → part'' ≡ section_of (area_bit a q g r) (q * area_count a)
    unfolding section_of
    section-read {st'} {part'} {part''} o f =
        let n : bits_in st' ≡ q * area_count a = o.stands ∙ ap (λ (x : ℕ). q * x) (zero-add (area_count a)) in
        let x = f.bytes (sent_bit a q g) r sent-two (omega (arith, n, o.size, size)) (o.gathers (sent_bit a q g) r sent-two stands (b.gathered (sent_bit a q g) part)) in
        filled 0 (λ (m : ℕ). binary (up_to (scrambled (sent_bit a q g) (outputs r)) (bits_in st')) (8 * m) 8) (section_bytes (bits_in st')) part''
        (f.size ∙ o.size ∙ size ∙ ap section_bytes (sym n)) (λ m l. x m (omega (arith, o.size, size, n)))
        ∙ ap₂ section_of (λ t i. taken-off r i t) n
