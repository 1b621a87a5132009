-- What the header writer answers, and what it does to its buffer (document 01, questions 5, 6 and 11). Assumes nothing.
use Rattle.std.specs.Prelude.{◌≡◌, Bool, ◌&&◌, ℕ, ◌+◌, ◌*◌, ◌^◌, List, [], ◌∷◌, length, ltb, leb, Result}
use Rattle.questions.specs.declared.Refusal.{Refusal}
use Rattle.questions.specs.Questions.{Question, question, ask, reply}
use Rattle.bitbuffer.specs.Bits.{bits_of, written}
use Rattle.mac_pdus.specs.declared.MacResource.{MacResource}
use Rattle.mac_pdus.specs.Headers.{resource_bits, header_length}
use Rattle.mac_pdus.specs.Legal.{fits, legal_to_write, on_air}

-- question 5: "number below 2^24". Every kind of address that can be named here may be offered
abbrev pub number_fits : MacResource → Bool
number_fits h = fits 24 h.number

-- question 11: "bits enough left?" `n` bits from bit `at` on, in that many octets; the position behind them is a number of 64 bits
unfoldable pub room_for : ℕ → ℕ → ℕ → Bool
room_for octets at n = ltb (at + n) (2 ^ 64) && leb (at + n) (8 * octets)

-- 5, 6 ("The lone writer wants a length above 0, and also takes USSI, without label or marker, and SMI, without marker.") and 11
abbrev pub write_questions : ℕ → ℕ → MacResource → List Question
write_questions octets at h =
    question (number_fits h) 5
    ∷ question (legal_to_write h) 6
    ∷ question (room_for octets at (header_length (on_air h))) 11
    ∷ []

-- the reply: a refusal, or the position after the header
unfoldable pub write_reply : ℕ → ℕ → MacResource → List ℕ
write_reply octets at h = ask (write_questions octets at h) (0 ∷ (at + header_length (on_air h)) ∷ []) (λ n. n ∷ [])

-- the bits of the octets: after a refusal as they were, else the header's bits at its position and all others as they were
unfoldable pub bits_after : List ℕ → ℕ → MacResource → List ℕ
bits_after s at h = ask (write_questions (length s) at h) (written (bits_of s) at (resource_bits (on_air h))) (λ n. bits_of s)

-- the header writer's promise: the octets `s` become `t`
pub record WrittenAs (s : List ℕ) (at : ℕ) (h : MacResource) (answer : Result ℕ Refusal) (t : List ℕ) : Type 0 where
  pub replies : reply answer ≡ write_reply (length s) at h
  pub bits : bits_of t ≡ bits_after s at h
