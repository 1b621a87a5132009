-- What the header writer does with words, exit by exit. Assumes nothing.
use Rattle.std.proofs.Common.{Result, Err}
use mathlib.Core.Path.{◌≡◌, refl, sym, ap, subst, ◌∙◌}
use mathlib.Core.Bool.{true, false}
use mathlib.Core.List.{List, [], ◌∷◌}
use Prim.Native.Nat.{ℕ, ◌+◌}
use lib.ListN.{length}
use borrow.Author.Tests.{eq-eqb, ne_eqb}
use Rattle.questions.specs.declared.Refusal.{Refusal}
use Rattle.questions.specs.Questions.{question, refusal_number, ask}
use Rattle.questions.proofs.AskLaws.{FirstYes, nth, first-no, yes-before}
use Rattle.bitbuffer.specs.Bits.{bits_of, written}
use Rattle.mac_pdus.specs.declared.ResourceHeader.{ResourceHeader}
use Rattle.mac_pdus.specs.declared.MacResource.{MacResource}
use Rattle.mac_pdus.specs.Headers.{resource_bits, header_length}
use Rattle.mac_pdus.specs.Legal.{on_air, offered}
use Rattle.mac_pdus.proofs.LegalLaws.{on-air-again}
use Rattle.mac_writer.specs.Writer.{write_questions, write_reply, bits_after, WrittenAs}
use Rattle.header_words.specs.HeaderWords.{header_word_count, resource_read, resource_words, write_words_questions, write_words_reply, bits_after_words}
use Rattle.header_words.specs.HeaderWords.{WordsWrittenAs}

module _ (s : List ℕ) (at : ℕ) (ws : List ℕ) where
  -- the first no is the whole reply, and the octets are as they were
  refused-words : (k : ℕ) (r : Refusal)
      → let qs = write_words_questions (length s) at ws in
      FirstYes k qs → (nth k qs).holds ≡ false → refusal_number r ≡ (nth k qs).number → WordsWrittenAs s at ws (Err r) s
  unfolding write_words_reply bits_after_words
  refused-words k r past other e =
      let qs = write_words_questions (length s) at ws in
      record { replies = ap (λ (n : ℕ). n ∷ []) e ∙ first-no _ _ k qs past other; bits = first-no _ _ k qs past other }

  pub other_length : (length ws ≡ header_word_count → ⊥) → WordsWrittenAs s at ws (Err Refusal.Lengths) s
  other_length h = refused-words 0 Refusal.Lengths tt (ne_eqb _ _ h) refl

  module _ (size : length ws ≡ header_word_count) where
    pub no-resource : resource_words ws ≡ false → WordsWrittenAs s at ws (Err Refusal.Header) s
    no-resource h = refused-words 1 Refusal.Header (tt, eq-eqb _ _ size) h refl

    module _ (yes : resource_words ws ≡ true) where
      -- its own questions answered yes, the words are asked no more than the header
      pub asked-as-header : {A : Type 0} (octets : ℕ) (done : A) (refused : ℕ → A)
          → ask (write_words_questions octets at ws) done refused ≡ ask (write_questions octets at (offered (resource_read ws))) done refused
      asked-as-header octets done refused =
          yes-before done refused (question _ 2 ∷ question _ 6 ∷ []) (write_questions octets at (offered (resource_read ws)))
          (eq-eqb _ _ size, (yes, tt))

      air : on_air (offered (resource_read ws)) ≡ resource_read ws
      air = on-air-again (resource_read ws)

      pub as-header : (octets : ℕ) → write_words_reply octets at ws ≡ write_reply octets at (offered (resource_read ws))
      unfolding write_words_reply write_reply
      as-header octets =
          asked-as-header octets _ _
          ∙ ap (λ (r : ResourceHeader). ask (write_questions octets at (offered (resource_read ws))) (0 ∷ (at + header_length r) ∷ []) (λ n. n ∷ [])) (sym air)

      bits-as-header : bits_after_words s at ws ≡ bits_after s at (offered (resource_read ws))
      unfolding bits_after_words bits_after
      bits-as-header =
          asked-as-header (length s) _ _
          ∙ ap
          (λ (r : ResourceHeader). ask (write_questions (length s) at (offered (resource_read ws))) (written (bits_of s) at (resource_bits r)) (λ n. bits_of s))
          (sym air)

      -- the writer's own reply
      pub resource-written : (h : MacResource) → h ≡ offered (resource_read ws) → (answer : Result ℕ Refusal) (t : List ℕ) → WrittenAs s at h answer t
          → WordsWrittenAs s at ws answer t
      resource-written h e answer t w =
          let v = subst (λ (x : MacResource). WrittenAs s at x answer t) e w in
          record { replies = v.replies ∙ sym (as-header (length s)); bits = v.bits ∙ sym bits-as-header }
