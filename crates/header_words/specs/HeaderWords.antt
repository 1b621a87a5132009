-- The header of a PDU as words of 32 bits, for callers in C: the table of include/bs_sched.h. Assumes nothing.
use Rattle.std.specs.Prelude.{◌≡◌, Bool, List, [], ◌∷◌, ◌++◌, ℕ, zero, suc, ◌+◌, ◌-◌, ◌*◌, ◌%◌, eqb, length, take, drop, replicate, Result, unwrap_or}
use Rattle.questions.specs.declared.Refusal.{Refusal}
use Rattle.questions.specs.Questions.{Question, question, ask, reply}
use Rattle.mac_pdus.specs.declared.Address.{Address}
use Rattle.mac_pdus.specs.declared.Address.TheVariants.{Null, Ssi, EventLabel, Ussi, Smi, SsiEventLabel, SsiUsageMarker, SmiEventLabel}
use Rattle.mac_pdus.specs.declared.ResourceHeader.{ResourceHeader}
use Rattle.mac_pdus.specs.declared.PduHeader.{PduHeader}
use Rattle.mac_pdus.specs.Headers.{address_type, resource_bits, header_length}
use Rattle.mac_pdus.specs.Legal.{number_of, label_of, usage_marker_of, offered}
use Rattle.bitbuffer.specs.Bits.{bits_of, written}
use Rattle.mac_reader.specs.declared.PlacedHeader.{PlacedHeader}
use Rattle.mac_reader.specs.Reader.{most_pdus}
use Rattle.mac_writer.specs.Writer.{write_questions}
use Rattle.sched_words.specs.Words.{opt_word, opt_low, word_at, words_of_all, same_words, alloc_words, alloc_from}

-- ---- a header

abbrev pub header_word_count : ℕ
header_word_count = 24

-- word 0: the bit position; 1: the PDU, 0 MAC-RESOURCE, 1 MAC-FRAG, 2 MAC-END; 2 to 6: fill, position of grant, encryption, random access, length;
-- 7 to 10: address type, number, event label, usage marker, 0 where the type has none; 11 and 12: power control and grant octet; 13 to 22: the channel allocation, as
-- words 11 to 20 of a record; 23: 0
unfoldable pub header_words : ℕ → PduHeader → List ℕ
header_words at (PduHeader.Resource r) =
    at ∷ 0 ∷ r.fill_bits ∷ r.pos_of_grant ∷ r.encryption_mode ∷ r.random_access_flag ∷ r.length_ind
    ∷ address_type r.address ∷ number_of r.address ∷ unwrap_or (label_of r.address) 0 ∷ unwrap_or (usage_marker_of r.address) 0
    ∷ opt_word r.power_control_element ∷ opt_word r.slot_granting_element ∷ (alloc_words r.chan_alloc_element ++ 0 ∷ [])
header_words at (PduHeader.Frag f) = at ∷ 1 ∷ f.fill_bits ∷ replicate 21 0
header_words at (PduHeader.End e) = at ∷ 2 ∷ e.fill_bits ∷ e.pos_of_grant ∷ 0 ∷ 0 ∷ e.length_ind ∷ replicate 17 0

-- and back: the low bits of a word that is too wide (such words are no header's: `resource_words` below)

-- "Address types: 0 null, 1 SSI, 2 event label, 3 USSI, 4 SMI, 5 SSI and label, 6 SSI and marker, 7 SMI and label."
abbrev pub address_read : ℕ → List ℕ → Address
address_read zero ws = Null
address_read (suc zero) ws = Ssi (word_at ws 8)
address_read (suc (suc zero)) ws = EventLabel (word_at ws 9 % 65536)
address_read (suc (suc (suc zero))) ws = Ussi (word_at ws 8)
address_read (suc (suc (suc (suc zero)))) ws = Smi (word_at ws 8)
address_read (suc (suc (suc (suc (suc zero))))) ws = SsiEventLabel (word_at ws 8) (word_at ws 9 % 65536)
address_read (suc (suc (suc (suc (suc (suc zero)))))) ws = SsiUsageMarker (word_at ws 8) (word_at ws 10 % 256)
address_read (suc (suc (suc (suc (suc (suc (suc zero))))))) ws = SmiEventLabel (word_at ws 8) (word_at ws 9 % 65536)
address_read (suc (suc (suc (suc (suc (suc (suc (suc n)))))))) ws = Null

unfoldable pub resource_read : List ℕ → ResourceHeader
resource_read ws =
    record {
      fill_bits = word_at ws 2 % 256;
      pos_of_grant = word_at ws 3 % 256;
      encryption_mode = word_at ws 4 % 256;
      random_access_flag = word_at ws 5 % 256;
      length_ind = word_at ws 6 % 256;
      address = address_read (word_at ws 7) ws;
      power_control_element = opt_low 256 (word_at ws 11);
      slot_granting_element = opt_low 256 (word_at ws 12);
      chan_alloc_element = alloc_from (drop 13 ws);
    }

-- by word 1
abbrev pub header_of : ℕ → List ℕ → PduHeader
header_of zero ws = PduHeader.Resource (resource_read ws)
header_of (suc zero) ws = PduHeader.Frag (record { fill_bits = word_at ws 2 % 256 })
header_of (suc (suc n)) ws =
    PduHeader.End (record { fill_bits = word_at ws 2 % 256; pos_of_grant = word_at ws 3 % 256; length_ind = word_at ws 6 % 256 })

abbrev pub header_read : List ℕ → PduHeader
header_read ws = header_of (word_at ws 1) ws

-- ---- the block reader

-- sixteen headers, those behind the last one that is listed all zero
abbrev pub list_word_count : ℕ
list_word_count = header_word_count * most_pdus

abbrev pub placed_words : PlacedHeader → List ℕ
placed_words p = header_words p.at p.header

unfoldable pub list_words : ℕ → List PlacedHeader → List ℕ
list_words n ps = words_of_all placed_words (take n ps) ++ replicate (header_word_count * (most_pdus - n)) 0

-- ---- the header writer

-- the words are those of a MAC-RESOURCE, whatever its bit position
unfoldable pub resource_words : List ℕ → Bool
resource_words ws = same_words (header_words (word_at ws 0) (PduHeader.Resource (resource_read ws))) ws

-- "2. Are the lent lengths those above?"; words that no MAC-RESOURCE has: "6. Header legal?"; then the writer's own questions
abbrev pub write_words_questions : ℕ → ℕ → List ℕ → List Question
write_words_questions octets at ws =
    question (eqb (length ws) header_word_count) 2
    ∷ question (resource_words ws) 6
    ∷ write_questions octets at (offered (resource_read ws))

-- the reply: a refusal, or 0 and the position after the header
unfoldable pub write_words_reply : ℕ → ℕ → List ℕ → List ℕ
write_words_reply octets at ws = ask (write_words_questions octets at ws) (0 ∷ (at + header_length (resource_read ws)) ∷ []) (λ n. n ∷ [])

-- the bits of the octets: after a refusal as they were, else the header's bits at its position and all others as they were
unfoldable pub bits_after_words : List ℕ → ℕ → List ℕ → List ℕ
bits_after_words s at ws = ask (write_words_questions (length s) at ws) (written (bits_of s) at (resource_bits (resource_read ws))) (λ n. bits_of s)

-- the promise: the octets `s` become `t`
pub record WordsWrittenAs (s : List ℕ) (at : ℕ) (ws : List ℕ) (answer : Result ℕ Refusal) (t : List ℕ) : Type 0 where
  pub replies : reply answer ≡ write_words_reply (length s) at ws
  pub bits : bits_of t ≡ bits_after_words s at ws
