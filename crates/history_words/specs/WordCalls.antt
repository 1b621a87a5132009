-- The exported calls with their arguments, on words that each gets as the last one left them. Assumes nothing.
use Rattle.std.specs.Prelude.{List, [], ◌∷◌, ℕ, replicate}
use Rattle.sizes.specs.Sizes.{store_octets}
use Rattle.tdma_time.specs.declared.TdmaTime.{TdmaTime}
use Rattle.sched_core.specs.Questions.{Memory}
use Rattle.sched_words.specs.Words.{queue_word_count, station_words, queue_words}
use Rattle.bs_sched_c.specs.declared.reply.BsSchedGrant.{BsSchedGrant}
use Rattle.bs_sched_c.specs.declared.reply.BsSchedBuilt.{BsSchedBuilt}
use Rattle.bs_sched_c.specs.declared.reply.BsSchedOwners.{BsSchedOwners}
use Rattle.bs_sched_c.specs.declared.reply.BsSchedUsage.{BsSchedUsage}
use Rattle.bs_sched_c.specs.Exports.{new_left, advance_left, request_left, ack_left, enqueue_left, built_left, owner_answer, usage_answer}

-- the exported functions but for `bs_sched_new`: "a second new station begins another history"
pub data WordCall : Type 0 where
  advance : WordCall
  request : (t code kind n : ℕ) → WordCall
  enqueue_ack : (t kind n : ℕ) → WordCall
  enqueue : (t : ℕ) (offered sdu : List ℕ) → WordCall
  build : (block : List ℕ) → WordCall
  slot_owner : TdmaTime → WordCall
  usage : TdmaTime → WordCall

-- what the caller keeps from one call to the next: the words of station and queue, and the octets of the store
pub record Words : Type 0 where
  pub station : List ℕ
  pub queue : List ℕ
  pub store : List ℕ

abbrev pub words : List ℕ → List ℕ → List ℕ → Words
words ws qs st = record { station = ws; queue = qs; store = st }

-- those of a memory
abbrev pub words_of : Memory → Words
words_of m = words (station_words m.station) (queue_words m.records) m.store

-- each function's reply; that of a build with the block that it leaves
pub data WordReply : Type 0 where
  number : ℕ → WordReply
  grant : BsSchedGrant → WordReply
  built : BsSchedBuilt → List ℕ → WordReply
  owners : BsSchedOwners → WordReply
  used : BsSchedUsage → WordReply

pub record WordsLeft : Type 0 where
  pub after : Words
  pub reply : WordReply

abbrev pub words_left : Words → WordReply → WordsLeft
words_left w r = record { after = w; reply = r }

-- what an exported function does to the words, by its promise
unfoldable pub word_step : WordCall → Words → WordsLeft
word_step advance w = let o = advance_left w.station in words_left (words o.station w.queue w.store) (number o.reply)
word_step (request t code kind n) w =
    let o = request_left w.station w.queue w.store t code kind n in words_left (words o.station o.queue o.store) (grant o.reply)
word_step (enqueue_ack t kind n) w =
    let o = ack_left w.station w.queue w.store t kind n in words_left (words o.station o.queue o.store) (number o.reply)
word_step (enqueue t offered sdu) w =
    let o = enqueue_left w.station w.queue w.store t offered sdu in words_left (words o.station o.queue o.store) (number o.reply)
word_step (build block) w =
    let o = built_left w.station w.queue w.store block in words_left (words o.station o.queue o.store) (built o.reply o.block)
word_step (slot_owner x) w = words_left w (owners (owner_answer w.station x))
word_step (usage x) w = words_left w (used (usage_answer w.station x))

-- "In a history each call gets state, queue and store as the last one left them, and nobody else writes them between."
unfoldable pub words_after : List WordCall → Words → Words
words_after [] w = w
words_after (c ∷ cs) w = words_after cs (word_step c w).after

-- "on a new station at any valid time, every place and cell empty": what `bs_sched_new` leaves of ws, a queue and a store of zeros
abbrev pub new_words : List ℕ → TdmaTime → Words
new_words ws x = words (new_left ws x).station (replicate queue_word_count 0) (replicate store_octets 0)
