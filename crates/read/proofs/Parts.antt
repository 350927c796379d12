-- The sections of the payload of a grid, each as the part of the payload that it is read into, and the bytes that are read so. Assumes nothing.
use Prim.Native.Nat.{ℕ, suc, ◌+◌, ◌-◌, ◌≤◌, ◌<◌}
use mathlib.Core.Path.{◌≡◌, refl, sym, ap, ap₂, ◌∙◌}
use mathlib.Core.List.{List, ◌++◌}
use native.Mathlib.Omega.{arith}
use borrow.Author.Tests.{ltb-true, ltb-false}
use lib.Dec.{ltb}
use lib.ListN.{length, get_or, take, drop, get_or-append}
use lib.Seq.{length-take-le, get_or-take, get_or-drop, get_or-append-add, ext_get_or}
use borrow.Rule.Slice.PartMut.{put_mid, post_of, mid_len, same_len_mid, drop_put}
use Rattle.base.proofs.Tests.{by-test}
use Rattle.plan.specs.CommandLists.{users_of, nth_user}
use Rattle.plan.specs.declared.Plan.{Plan}
use Rattle.payload.specs.Sections.{section_bytes, bytes_of, start_of}
use Rattle.payload.specs.Payload.{pbch_bit_count, user_bit_count, heads, sections, payload_length, users_start}
use Rattle.payload.proofs.Sections.{user_start, user-number}
use Rattle.recovery.specs.Recovery.{pbch_bit, ack_bit, user_bit, section_of, section_bit, payload_in}
use Rattle.recovery.proofs.Sections.{sections-part}
use Rattle.recovery.proofs.Payload.{size, user-section}
use Rattle.read.specs.Reading.{BytesRead}

-- ---- lists: the numbers of one with ys put from number a on and below e
module _ (s ys : List ℕ) (a e : ℕ) (h : a ≤ e) (l : e ≤ length s) (k : length ys ≡ e - a) where
  put-before : (i : ℕ) → i < a → get_or (put_mid a (e - a) s ys) i 0 ≡ get_or s i 0
  put-before i m = get_or-append (take a s) _ 0 i (omega (arith, length-take-le a s (omega arith))) ∙ get_or-take a s i 0 m

  put-at : (i : ℕ) → a ≤ i → i < e → get_or (put_mid a (e - a) s ys) i 0 ≡ get_or ys (i - a) 0
  put-at i m n =
      let front : length (take a s) ≡ a = length-take-le a s (omega arith) in
      let d : i ≡ length (take a s) + (i - a) = omega arith in
      ap (λ (x : ℕ). get_or (put_mid a (e - a) s ys) x 0) d
      ∙ get_or-append-add (take a s) (ys ++ post_of a (e - a) s) (i - a) 0
      ∙ get_or-append ys (post_of a (e - a) s) 0 (i - a) (omega arith)

  put-after : (i : ℕ) → e ≤ i → get_or (put_mid a (e - a) s ys) i 0 ≡ get_or s i 0
  put-after i m =
      let d : i ≡ e + (i - e) = omega arith in
      let from : (x : List ℕ) → get_or x i 0 ≡ get_or (drop e x) (i - e) 0 = λ x. ap (λ (n : ℕ). get_or x n 0) d ∙ sym (get_or-drop e x (i - e) 0) in
      from (put_mid a (e - a) s ys) ∙ ap (λ (x : List ℕ). get_or x (i - e) 0) (drop_put a e s ys h l k) ∙ sym (from s)

-- what a payload has once the bytes from number a on and below e are put in: these are read, and those before and after them stay so
pub record Put (w : List ℕ) (p : Plan) (g : List ℕ) (a e : ℕ) (payload after : List ℕ) : Type 0 where
  pub size : length after ≡ payload_length w p
  pub own : BytesRead w p g a e after
  pub early : {b c : ℕ} → c ≤ a → BytesRead w p g b c payload → BytesRead w p g b c after
  pub late : {b c : ℕ} → e ≤ b → BytesRead w p g b c payload → BytesRead w p g b c after

module _ (w : List ℕ) (p : Plan) (g : List ℕ) where
  abbrev F : List ℕ
  F = payload_in w p g

  -- ---- where the sections are: number k, from byte `start` to byte `end`
  section-part :
      (k start end : ℕ) → k < length (sections w p) → start ≡ start_of (sections w p) k → end ≡ start + section_bytes (get_or (sections w p) k 0)
      → take (end - start) (drop start (payload_in w p g)) ≡ section_of (section_bit w p g k) (get_or (sections w p) k 0)
  unfolding payload_in
  section-part k start end l es ee =
      let m : end - start ≡ section_bytes (get_or (sections w p) k 0) = omega arith in
      ap₂ (λ (x y : ℕ). take x (drop y (payload_in w p g))) m es ∙ sections-part (section_bit w p g) (sections w p) k l

  pub pbch-part : (end : ℕ) → end ≡ section_bytes (pbch_bit_count p.cell p.frame) → take (end - 0) (drop 0 (payload_in w p g)) ≡ section_of (pbch_bit w p g) (pbch_bit_count p.cell p.frame)
  unfolding sections heads start_of bytes_of section_bit
  pbch-part end ee = section-part 0 0 end (omega arith) refl (omega arith)

  pub acks-part :
      (start end : ℕ) → start ≡ section_bytes (pbch_bit_count p.cell p.frame) → end ≡ users_start p
      → take (end - start) (drop start (payload_in w p g)) ≡ section_of (ack_bit w p g) p.his.count
  unfolding users_start sections heads start_of bytes_of section_bit
  acks-part start end es ee = section-part 1 start end (omega arith) (omega arith) (omega arith)

  pub user-part :
      (i : ℕ) → i < length (users_of w p) → (start end : ℕ) → start ≡ user_start w p i
      → end ≡ start + section_bytes (user_bit_count w p i)
      → take (end - start) (drop start (payload_in w p g)) ≡ section_of (user_bit w p g i (nth_user w p i)) (user_bit_count w p i)
  unfolding heads section_bit
  user-part i in-i start end es ee =
      let k : ℕ = length (heads p) + i in
      let e : k ≡ suc (suc i) = omega arith in
      section-part k start end (user-number w p i in-i) es (ee ∙ ap (λ (n : ℕ). start + section_bytes n) (sym (user-section w p g i in-i)))
      ∙ ap₂ section_of (ap (section_bit w p g) e) (user-section w p g i in-i)

  -- ---- the bytes that are read when a part is put in
  module _ (payload ys : List ℕ) (right : length payload ≡ payload_length w p) (a e : ℕ) (h : a ≤ e) (l : e ≤ payload_length w p)
      (part : ys ≡ take (e - a) (drop a (payload_in w p g))) where
    count : length ys ≡ e - a
    count = ap length part ∙ mid_len a e F (omega (arith, size w p g))

    own : (i : ℕ) → a ≤ i → i < e → get_or (put_mid a (e - a) payload ys) i 0 ≡ get_or F i 0
    own i m n =
        let d : a + (i - a) ≡ i = omega arith in
        put-at payload ys a e h (omega arith) count i m n
        ∙ ap (λ (x : List ℕ). get_or x (i - a) 0) part
        ∙ get_or-take (e - a) (drop a F) (i - a) 0 (omega arith)
        ∙ get_or-drop a F (i - a) 0
        ∙ ap (λ (x : ℕ). get_or F x 0) d

    pub put_in : Put w p g a e payload (put_mid a (e - a) payload ys)
    put_in =
        record {
          size = same_len_mid a (e - a) payload ys (count ∙ sym (mid_len a e payload (omega arith))) ∙ right;
          own = record { byte = own };
          early = λ k so. record { byte = λ i m n. put-before payload ys a e h (omega arith) count i (omega arith) ∙ so.byte i m n };
          late = λ k so. record { byte = λ i m n. put-after payload ys a e h (omega arith) count i (omega arith) ∙ so.byte i m n };
        }

  pub bytes-joined : {payload : List ℕ} {a b c : ℕ} → BytesRead w p g a b payload → BytesRead w p g b c payload → BytesRead w p g a c payload
  bytes-joined {b = b} x y = record { byte = λ i m n. by-test (ltb i b) (λ t. x.byte i m (ltb-true i b t)) (λ f. y.byte i (ltb-false i b f) n) }

  pub bytes-all : {payload : List ℕ} → length payload ≡ payload_length w p → BytesRead w p g 0 (payload_length w p) payload → payload ≡ payload_in w p g
  bytes-all {payload} right so = ext_get_or 0 payload F (right ∙ sym (size w p g)) (λ i l. so.byte i (omega arith) (omega arith))
