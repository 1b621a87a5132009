-- Fill bits: how many a PDU wants, what they are, and how many stand at the end of a run of bits. Assumes nothing.
use Rattle.std.specs.Prelude.{cond, List, [], ◌∷◌, ℕ, zero, suc, ◌-◌, ◌*◌, ◌%◌, min, leb, eqb, length, replicate}
use Rattle.bitbuffer.specs.Bits.{bits_of, part}
use Rattle.questions.specs.Questions.{Question, question, ask}

-- "to the octet": from bit `n` on
abbrev pub to_octet : ℕ → ℕ
to_octet n = (8 - n % 8) % 8

-- "filled .. to the octet, or to the block's end if that is nearer": a PDU of `n` bits in a room of `room` bits, none where it fills the room or more
abbrev pub fill_wanted : ℕ → ℕ → ℕ
fill_wanted room n = min (to_octet n) (room - n)

-- "1 then zeros": `k` fill bits
unfoldable pub fill_bits : ℕ → List ℕ
fill_bits zero = []
fill_bits (suc k) = 1 ∷ replicate k 0

-- how many bits there are from the last set bit of a run to its end, 0 where none is set
unfoldable pub from_last_set : List ℕ → ℕ
from_last_set [] = 0
from_last_set (b ∷ l) = let n = from_last_set l in cond (eqb n 0) (cond (eqb b 0) 0 (suc (length l))) n

-- the fill bits at the end of the bits from `start` up to `end`
unfoldable pub fill_at_end : List ℕ → ℕ → ℕ → ℕ
fill_at_end l start end = from_last_set (part l start (end - start))

-- "11. Writer, fill removal: bits enough left? No: 11."
abbrev pub fill_questions : List ℕ → ℕ → List Question
fill_questions s end = question (leb end (8 * length s)) 11 ∷ []

-- the fill bits before `end`
unfoldable pub fill_reply : List ℕ → ℕ → ℕ → List ℕ
fill_reply s start end = ask (fill_questions s end) (0 ∷ fill_at_end (bits_of s) start end ∷ []) (λ n. n ∷ [])
