-- A field, and the word that it stands in. The laws of each type stand here, since the implementations of `Field` name them. Assumes nothing.
use Rattle.std.specs.Prelude.{◌≡◌, ℕ, zero, suc, ◌+◌, ◌^◌, ◌<◌, ◌≤◌, min, refl}
use Rattle.std.proofs.Common.{arith, mod-lt, mod-eq_of_lt}
use Rattle.sched_words.specs.Words.{low, itself, word_or_zero, unless_zero, kind_word, kind_from}

-- a word up to the greatest is that of the field read from it, and no field has a greater one
pub record FieldLaws {A : Type 0} (from_word : ℕ → A) (word : A → ℕ) (most : ℕ) : Type 0 where
  pub back : (w : ℕ) → w ≤ most → word (from_word w) ≡ w
  pub within : (w : ℕ) → w < 2 ^ 32 → word (from_word w) ≤ most

pub low_laws : (most : ℕ) → FieldLaws (low (most + 1)) itself most
low_laws most =
    record {
      back = λ w h. mod-eq_of_lt (omega arith);
      within = λ w h. let l : low (most + 1) w < most + 1 = mod-lt w (omega arith) in omega arith;
    }

pub whole_laws : FieldLaws itself itself 4294967295
whole_laws = record { back = λ w h. refl; within = λ w h. omega arith }

module _ {A : Type 0} (from_word : ℕ → A) (word : A → ℕ) (most : ℕ) (laws : FieldLaws from_word word most) where
  back : (w : ℕ) → w ≤ min 4294967295 (most + 1) → word_or_zero word (unless_zero from_word w) ≡ w
  back zero h = refl
  back (suc v) h = let e = laws.back v (omega arith) in omega arith

  within : (w : ℕ) → w < 2 ^ 32 → word_or_zero word (unless_zero from_word w) ≤ min 4294967295 (most + 1)
  within zero h = omega arith
  within (suc v) h = let e = laws.within v (omega arith) in omega arith

  pub option_laws : FieldLaws (unless_zero from_word) (word_or_zero word) (min 4294967295 (most + 1))
  option_laws = record { back = back; within = within }

kind_back : (w : ℕ) → w ≤ 4 → kind_word (kind_from w) ≡ w
kind_back zero h = refl
kind_back (suc zero) h = refl
kind_back (suc (suc zero)) h = refl
kind_back (suc (suc (suc zero))) h = refl
kind_back (suc (suc (suc (suc w)))) h = omega arith

kind_within : (w : ℕ) → w < 2 ^ 32 → kind_word (kind_from w) ≤ 4
kind_within zero h = omega arith
kind_within (suc zero) h = omega arith
kind_within (suc (suc zero)) h = omega arith
kind_within (suc (suc (suc zero))) h = omega arith
kind_within (suc (suc (suc (suc w)))) h = omega arith

pub kind_laws : FieldLaws kind_from kind_word 4
kind_laws = record { back = kind_back; within = kind_within }
