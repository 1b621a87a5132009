-- What the block reader, the header writer and fill removal answer and leave, with headers as words. Assumes nothing.
use Rattle.std.specs.Prelude.{◌≡◌, cond, List, [], ◌∷◌, ℕ, eqb, length, get_or, Result, Ok, Err}
use Rattle.sizes.specs.Sizes.{block_octets}
use Rattle.questions.specs.declared.Refusal.{Refusal}
use Rattle.questions.specs.Questions.{Question, question, refusal_number, ask}
use Rattle.bitbuffer.specs.Bits.{bits_of}
use Rattle.mac_reader.specs.Reader.{Reading, read_block}
use Rattle.header_words.specs.HeaderWords.{list_word_count, list_words, write_words_reply, bits_after_words}
use Rattle.bs_sched_c.specs.declared.buffers.BsSchedRead.{BsSchedRead}
use Rattle.bs_sched_c.specs.declared.buffers.BsSchedWritten.{BsSchedWritten}
use Rattle.bs_sched_c.specs.declared.buffers.BsSchedFill.{BsSchedFill}

-- ---- the block reader

abbrev pub read_struct : ℕ → ℕ → BsSchedRead
read_struct n count = record { refusal = n; count = count }

-- how many headers are listed, or a refusal
abbrev pub read_of : Result ℕ Refusal → BsSchedRead
read_of (Ok count) = read_struct 0 count
read_of (Err r) = read_struct (refusal_number r) 0

-- all that it answers and leaves
pub record ReadLeft : Type 0 where
  pub reply : BsSchedRead
  pub headers : List ℕ

abbrev pub read_left : BsSchedRead → List ℕ → ReadLeft
read_left r ws = record { reply = r; headers = ws }

-- a list of headers in words, or "On a no, the number is the whole reply and each lent bit .. those that came in"
abbrev pub read_left_by : List ℕ → Reading → ReadLeft
read_left_by ws r =
    cond (eqb r.number 0) (read_left (read_struct 0 r.count) (list_words r.count r.headers)) (read_left (read_struct r.number 0) ws)

-- "2. Are the lent lengths those above?": that of the headers first, then the reader's own questions
abbrev pub headers_questions : List ℕ → List Question
headers_questions ws = question (eqb (length ws) list_word_count) 2 ∷ []

unfoldable pub read_block_left : List ℕ → List ℕ → ReadLeft
read_block_left block ws = ask (headers_questions ws) (read_left_by ws (read_block block_octets block)) (λ n. read_left (read_struct n 0) ws)

-- ---- the header writer

-- its number, and after a 0 the position after the header
abbrev pub written_struct : List ℕ → BsSchedWritten
written_struct l = record { refusal = get_or l 0 0; end = get_or l 1 0 }

-- the octets `s` become `t`
pub record HeaderWritten (s : List ℕ) (at : ℕ) (ws : List ℕ) (reply : BsSchedWritten) (t : List ℕ) : Type 0 where
  pub replies : reply ≡ written_struct (write_words_reply (length s) at ws)
  pub bits : bits_of t ≡ bits_after_words s at ws

-- ---- fill removal

-- its number, and after a 0 the number of fill bits
abbrev pub fill_struct : List ℕ → BsSchedFill
fill_struct l = record { refusal = get_or l 0 0; bits = get_or l 1 0 }
