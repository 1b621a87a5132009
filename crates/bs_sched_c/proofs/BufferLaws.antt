-- What the exports of the block reader, the header writer and fill removal leave, exit by exit. Assumes nothing.
use mathlib.Core.Path.{◌≡◌, sym, ap, subst, ◌∙◌}
use mathlib.Core.List.{List}
use Prim.Native.Nat.{ℕ, ◌-◌, ◌<◌, ◌≤◌, ◌^◌}
use lib.ListN.{length, get_or, replicate}
use borrow.Author.Tests.{ne_eqb}
use lib.Dec.{eqb}
use mathlib.Core.Bool.{true, false}
use native.Mathlib.Omega.{arith}
use Rattle.std.proofs.Common.{Result, Ok, Err}
use Rattle.questions.proofs.NumberLaws.{number-positive}
use Rattle.sizes.specs.Sizes.{block_octets}
use Rattle.questions.specs.declared.Refusal.{Refusal}
use Rattle.questions.specs.Questions.{refusal_number}
use Rattle.questions.proofs.AskLaws.{first-no, every-yes}
use Rattle.arrayvec.specs.ArrayVec.{ArrayVec}
use Rattle.mac_reader.specs.declared.PlacedHeader.{PlacedHeader}
use Rattle.mac_reader.specs.Reader.{reading_of, read_block, most_pdus, no_header}
use Rattle.std.proofs.lemmas.List.{get_or_append_left, length-append}
use Rattle.header_words.specs.HeaderWords.{list_word_count, list_words}
use Rattle.header_words.proofs.ListLaws.{FewAndLow, listed-low}
use Rattle.header_words.proofs.HeaderLaws.{list-front}
use Rattle.bs_sched_c.specs.Buffers.{read_struct, read_left, read_left_by, headers_questions, read_block_left}

module _ (block ws : List ℕ) where
  pub other-list : eqb (length ws) list_word_count ≡ false → read_left (read_struct 2 0) ws ≡ read_block_left block ws
  unfolding read_block_left
  other-list h = first-no _ _ 0 (headers_questions ws) tt h

  module _ (size : eqb (length ws) list_word_count ≡ true) where
    -- the reader's own reply
    left_by : (r : Result (ArrayVec PlacedHeader) Refusal) → reading_of r ≡ read_block block_octets block → read_left_by ws (reading_of r) ≡ read_block_left block ws
    unfolding read_block_left
    left_by r read = ap (read_left_by ws) read ∙ every-yes _ _ (headers_questions ws) (tt, size)

    pub not_listed : {r : Result (ArrayVec PlacedHeader) Refusal} → reading_of r ≡ read_block block_octets block → {x : Refusal} → r ≡ Err x
        → read_left (read_struct (refusal_number x) 0) ws ≡ read_block_left block ws
    not_listed read {x} h =
        let none : eqb (refusal_number x) 0 ≡ false = ne_eqb _ _ (λ z. omega (arith, z, number-positive x)) in
        let same : read_left (read_struct (refusal_number x) 0) ws ≡ read_left_by ws (reading_of (Err x)) = rw none in
        same ∙ left_by (Err x) (ap reading_of (sym h) ∙ read)

    module _ {r : Result (ArrayVec PlacedHeader) Refusal} (read : reading_of r ≡ read_block block_octets block) {b : ArrayVec PlacedHeader} (h : r ≡ Ok b) where
      listed-is : reading_of (Ok b) ≡ read_block block_octets block
      listed-is = ap reading_of (sym h) ∙ read

      pub few-and-low : FewAndLow (reading_of (Ok b))
      few-and-low = subst FewAndLow (sym listed-is) (listed-low block)

      pub few : length b.items ≤ most_pdus
      few = few-and-low.few

      pub low : (i : ℕ) (p : PlacedHeader) → i < length b.items → (get_or b.items i p).at < 2 ^ 32
      low i p h =
          let rest = replicate (most_pdus - length b.items) no_header in
          rw (← get_or_append_left b.items rest p i h) (few-and-low.low i p (rw length-append (omega arith)))

      pub listed : {ws' : List ℕ} → ws' ≡ list_words (length b.items) b.items → read_left (read_struct 0 (length b.items)) ws' ≡ read_block_left block ws
      listed ew =
          ap (read_left (read_struct 0 (length b.items))) (ew ∙ list-front b.items (replicate (most_pdus - length b.items) no_header)) ∙ left_by (Ok b) listed-is
