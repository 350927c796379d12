-- The numbers of a sample by the cases of the code; its f32 are no NaN. Assumes nothing.
use Prim.Native.Nat.{ℕ, zero, suc, ◌≤◌}
use mathlib.Core.Path.{◌≡◌, refl, sym, ap, ◌∙◌}
use mathlib.Core.Bool.{not}
use mathlib.Core.List.{[], ◌∷◌}
use lib.Dec.{T}
use lib.IntN.{ℤ}
use lib.ListN.{get_or, get_or-eq_default}
use lib.Ieee.{Float, nan, inf, fin, binary32, is_nan, to_bits}
use Rattle.plan.specs.Answers.{given}
use Rattle.plan.specs.Check.{refused_as}
use Rattle.plan.specs.declared.Refusal.TheVariants.{NoElement}
use Rattle.sample.specs.Bound.{Close}
use Rattle.sample.specs.Promise.{Sampled}
use Rattle.sample.specs.declared.Point.{Point}
use Rattle.sample.specs.declared.Sample.{Sample}
use Rattle.sample.specs.declared.Sample.TheVariants.{Silence, Phase, At}
use Rattle.std.specs.declared.option.Option.{Option}
use Rattle.std.specs.declared.option.Option.TheVariants.{Some, None}
use Rattle.mapper.specs.Calls.{sample_numbers, sample_answer_of, sample_answer}

no_nan : (u : ℕ) (z : ℤ) (x : Float) → Close u z x → T (not (is_nan x))
unfolding is_nan
no_nan u z nan h = absurd h.written.3
no_nan u z (inf s) h = tt
no_nan u z (fin s m e) h = tt

zeros : (n : ℕ) → get_or (sample_numbers Silence) n 0 ≡ 0
zeros zero = refl
zeros (suc zero) = refl
zeros (suc (suc zero)) = refl
zeros (suc (suc (suc n))) = refl

-- there is no fourth number
pub no-fourth : (a b c n : ℕ) → 3 ≤ n → 0 ≡ get_or (a ∷ b ∷ c ∷ []) n 0
no-fourth a b c n h = sym (get_or-eq_default (a ∷ b ∷ c ∷ []) 0 h)

module _ (b i j : ℕ) (r : Option Sample) (sampled : Sampled b i j r) where
  -- the answer's numbers are those of the three bytes
  pub sample-numbers : (n : ℕ) → sample_answer n r ≡ sample_answer_of n b i j
  sample-numbers n = ap (sample_answer n) sampled.answer

  pub is-refused : (n : ℕ) → r ≡ None → sample_answer_of n b i j ≡ refused_as NoElement
  is-refused n e = sym (sample-numbers n) ∙ ap (sample_answer n) e

  module _ (s : Sample) (is : r ≡ Some s) where
    is-sample : (n : ℕ) (t : Sample) → s ≡ t → sample_answer_of n b i j ≡ given (get_or (sample_numbers t) n 0)
    is-sample n t e = sym (sample-numbers n) ∙ ap (sample_answer n) (is ∙ ap Some e)

    pub is-silence : (n : ℕ) → s ≡ Silence → sample_answer_of n b i j ≡ given 0
    is-silence n e = is-sample n Silence e ∙ ap given (zeros n)

    pub is-phase : (n x m : ℕ) → s ≡ Phase x → m ≡ get_or (1 ∷ x ∷ 0 ∷ []) n 0 → sample_answer_of n b i j ≡ given m
    is-phase n x m e q = is-sample n (Phase x) e ∙ ap given (sym q)

    module _ (p : Point) (e : s ≡ At p) where
      pub is-pair :
          (n x y m : ℕ) → x ≡ to_bits binary32 p.re → y ≡ to_bits binary32 p.im → m ≡ get_or (2 ∷ x ∷ y ∷ []) n 0 → sample_answer_of n b i j ≡ given m
      is-pair n x y m ex ey q = is-sample n (At p) e ∙ rw (q, ex, ey) refl

      pub first-no-nan : T (not (is_nan p.re))
      first-no-nan = no_nan _ _ p.re (sampled.pair p (is ∙ ap Some e)).re.bound

      pub second-no-nan : T (not (is_nan p.im))
      second-no-nan = no_nan _ _ p.im (sampled.pair p (is ∙ ap Some e)).im.bound
