-- An exported call on the words of a memory does to them what the history's calls do to the memory. Assumes nothing.
use mathlib.Core.Path.{◌≡◌, refl, sym, ap, ◌∙◌}
use mathlib.Core.Bool.{Bool, true, false, cond}
use mathlib.Core.List.{List, [], ◌∷◌, ◌++◌}
use Prim.Native.Nat.{ℕ, ◌<◌}
use native.Mathlib.Omega.{arith}
use lib.Dec.{eqb}
use lib.ListN.{length, get_or, length-append}
use borrow.Author.Tests.{eq-eqb}
use Rattle.lists.proofs.Every.{All}
use Rattle.tdma_time.specs.declared.TdmaTime.{TdmaTime}
use Rattle.tdma_time.specs.Time.{valid}
use Rattle.uplink.specs.declared.PhyBlockNum.{PhyBlockNum}
use Rattle.uplink.proofs.Basics.{not-both}
use Rattle.dl_send.specs.Arrays.{tag_row}
use Rattle.questions.specs.Questions.{Question, ask}
use Rattle.questions.proofs.AskLaws.{first-no, yes-before, ask-elim}
use Rattle.sched_core.specs.declared.Station.{Station}
use Rattle.sched_core.specs.Station.{advanced_station}
use Rattle.sched_core.specs.Questions.{Memory, memory, memory_questions}
use Rattle.sched_core.specs.Replies.{Numbered, reply_number}
use Rattle.sched_core.specs.Calls.{Outcome, StationOutcome, station_outcome, BuildOutcome, current, builds_now, built_now}
use Rattle.sched_core.specs.Calls.{block_built, not_built, advance_call, owner_call, usage_call, request_call, ack_call, tma_call, build_call, advance_memory}
use Rattle.sched_core.specs.Invariant.{SoundMemory, is_done}
use Rattle.sched_core.proofs.QuestionLaws.{right-lengths}
use Rattle.sched_core.proofs.QueuesLaws.{every-queueing-queues}
use Rattle.sched_words.specs.Words.{station_word_count, record_word_count, time_words, words_of_row, table_words, station_words, station_from, queue_words}
use Rattle.sched_words.specs.Words.{offered_from}
use Rattle.sched_words.proofs.WordLaws.{row-size}
use Rattle.sched_words.proofs.QueueRoundTrip.{Tagged, memory-back}
use Rattle.bs_sched_c.specs.declared.reply.BsSchedGrant.{BsSchedGrant}
use Rattle.bs_sched_c.specs.declared.reply.BsSchedBuilt.{BsSchedBuilt}
use Rattle.bs_sched_c.specs.declared.reply.BsSchedOwners.{BsSchedOwners}
use Rattle.bs_sched_c.specs.declared.reply.BsSchedUsage.{BsSchedUsage}
use Rattle.bs_sched_c.specs.Exports.{asks_station_words, asks_record_words, time_then_words, StationLeft, station_left, station_left_by, advance_left}
use Rattle.bs_sched_c.specs.Exports.{grant_struct, no_owners_struct, owners_struct, owner_answer, usage_struct, usage_struct_of, usage_answer, Left, left}
use Rattle.bs_sched_c.specs.Exports.{not_granted_struct, not_built_struct, built_struct, build_words_left}
use Rattle.bs_sched_c.specs.Exports.{memory_from, words_left_by, request_left, ack_left, enqueue_left, BuildWordsLeft, build_words_left_by, built_left}
use Rattle.bs_sched_c.proofs.LeftLaws.{is-station, no-time, is-station-then}
use Rattle.history.specs.Call as call
use Rattle.history.specs.Call.{Call, run}
use Rattle.history.specs.Memory.{memory_step}
use Rattle.history_words.specs.WordCalls.{WordCall, advance, request, enqueue_ack, enqueue, build, slot_owner, usage, words, words_of}
use Rattle.history_words.specs.WordCalls.{number, grant, built, owners, used, WordsLeft, words_left, word_step}
use Rattle.history_words.specs.WordHistory.{record_offer, calls_of, block_left, reply_in}

-- a call that has another number than 0 was not done
not_done : (r : Numbered) → (reply_number r ≡ 0 → ⊥) → is_done r ≡ false
not_done Numbered.done h = absurd (h refl)
not_done (Numbered.refused n) h = refl
not_done (Numbered.granted capacity delay marker) h = absurd (h refl)
not_done (Numbered.block octets tags) h = absurd (h refl)
not_done Numbered.no_block h = absurd (h refl)
not_done (Numbered.owned o) h = absurd (h refl)
not_done (Numbered.used n marker) h = absurd (h refl)

module _ (m : Memory) (h : SoundMemory m) (t : All Tagged m.records) where
  abbrev s : Station
  s = m.station

  abbrev ws : List ℕ
  ws = station_words m.station

  abbrev qs : List ℕ
  qs = queue_words m.records

  abbrev st : List ℕ
  st = m.store

  -- ---- the words are those of a memory

  size : length ws ≡ station_word_count
  unfolding station_words
  size =
      let u = s.uplink in
      let W : ℕ → List ℕ = λ i. words_of_row (get_or u.rows i []) in
      let r : (i : ℕ) → i < 4 → length (W i) ≡ 54 = λ i k. row-size (get_or u.rows i []) (h.table.columns i k) in
      let two : length (W 0 ++ W 1) ≡ 108 = length-append (W 0) (W 1) ∙ omega (arith, r 0 (omega arith), r 1 (omega arith)) in
      let three : length (W 0 ++ W 1 ++ W 2) ≡ 162 = length-append (W 0 ++ W 1) (W 2) ∙ omega (arith, two, r 2 (omega arith)) in
      let table : length (table_words u.rows) ≡ 216 = length-append (W 0 ++ W 1 ++ W 2) (W 3) ∙ omega (arith, three, r 3 (omega arith)) in
      let timed : length (time_words u.time ++ table_words u.rows) ≡ 220 =
      length-append (time_words u.time) (table_words u.rows) ∙ omega (arith, table) in
      let counted : length (time_words u.time ++ table_words u.rows ++ u.next_usage_marker) ≡ 224 =
      length-append (time_words u.time ++ table_words u.rows) u.next_usage_marker ∙ omega (arith, timed, h.counters) in
      length-append (time_words u.time ++ table_words u.rows ++ u.next_usage_marker) s.queued ∙ omega (arith, counted, h.counts)

  back : station_from ws ≡ s
  back = (memory-back m h t).0

  memory-is : memory_from ws qs st ≡ m
  memory-is = λ i. memory ((memory-back m h t).0 i) ((memory-back m h t).1 i) m.store

  -- a station of its number of words
  passes : {A : Type 0} (done : A) (refused : ℕ → A) → ask (asks_station_words ws ∷ []) done refused ≡ done
  passes done refused = sym (is-station ws done refused size refl)

  -- ---- calls on the station alone

  advance-done : advance_call s ≡ station_outcome Numbered.done (advanced_station s)
  unfolding advance_call ask
  advance-done = rw h.station

  advance-left : advance_left ws ≡ station_left 0 (station_words (advanced_station s))
  unfolding advance_left
  advance-left =
      passes (station_left_by ws (advance_call (station_from ws))) (λ n. station_left n ws) ∙ ap (λ (y : Station). station_left_by ws (advance_call y)) back
      ∙ ap (station_left_by ws) advance-done

  module _ (x : TdmaTime) where
    abbrev owners_of : Station → BsSchedOwners
    owners_of y = owners_struct (owner_call y x PhyBlockNum.Both) (owner_call y x PhyBlockNum.Block1) (owner_call y x PhyBlockNum.Block2)

    owner-no-time : valid x ≡ false → no_owners_struct 1 ≡ owners_of s
    unfolding owner_call ask
    owner-no-time v = rw (h.station, v)

    usage-no-time : valid x ≡ false → usage_struct 1 0 0 ≡ usage_struct_of (usage_call s x)
    unfolding usage_call ask
    usage-no-time v = rw (h.station, v)

    owners-same : owner_answer ws x ≡ owners_of s
    unfolding owner_answer
    owners-same = ap (λ (y : Station). ask (time_then_words x ws) (owners_of y) no_owners_struct) back ∙ go (valid x) refl
      where
        go : (b : Bool) → valid x ≡ b → ask (time_then_words x ws) (owners_of s) no_owners_struct ≡ owners_of s
        go true v = sym (is-station-then ws (owners_of s) no_owners_struct x v size refl)
        go false v = sym (no-time ws (owners_of s) no_owners_struct x v) ∙ owner-no-time v

    usage-same : usage_answer ws x ≡ usage_struct_of (usage_call s x)
    unfolding usage_answer
    usage-same = ap (λ (y : Station). ask (time_then_words x ws) (usage_struct_of (usage_call y x)) (λ n. usage_struct n 0 0)) back ∙ go (valid x) refl
      where
        go : (b : Bool) → valid x ≡ b
            → ask (time_then_words x ws) (usage_struct_of (usage_call s x)) (λ n. usage_struct n 0 0) ≡ usage_struct_of (usage_call s x)
        go true v = sym (is-station-then ws (usage_struct_of (usage_call s x)) (λ n. usage_struct n 0 0) x v size refl)
        go false v = sym (no-time ws (usage_struct_of (usage_call s x)) (λ n. usage_struct n 0 0) x v) ∙ usage-no-time v

  -- ---- calls that queue

  -- what an outcome leaves, where a refusal leaves the memory
  left_by : {R : Type 0} (reply : Numbered → R) (o : Outcome) → (is_done o.reply ≡ false → o.memory ≡ m)
      → words_left_by reply ws qs st o
      ≡ left (reply o.reply) (station_words o.memory.station) (queue_words o.memory.records) o.memory.store
  left_by {R} reply o k = go (eqb (reply_number o.reply) 0) refl
    where
      leaves : Memory → Left R
      leaves x = left (reply o.reply) (station_words x.station) (queue_words x.records) x.store

      go : (b : Bool) → eqb (reply_number o.reply) 0 ≡ b → cond b (leaves o.memory) (leaves m) ≡ leaves o.memory
      go true e = refl
      go false e = ap leaves (sym (k (not_done o.reply (λ z. not-both _ (eq-eqb _ _ z) e))))

  -- an offer of 23 words
  abbrev offered : ℕ → List ℕ → List ℕ → Memory → Outcome
  offered n rs sdu x = let r = offered_from rs in tma_call x n r.address.kind r.address.number r.tag r.header r.bits sdu

  abbrev offered_left : ℕ → List ℕ → List ℕ → Memory → Left ℕ
  offered_left n rs sdu x = words_left_by reply_number ws qs st (offered n rs sdu x)

  abbrev asked : List ℕ → Memory → List Question
  asked rs x = asks_station_words ws ∷ memory_questions x (asks_record_words rs ∷ [])

  enqueue-asks : (n : ℕ) (rs sdu : List ℕ) → enqueue_left ws qs st n rs sdu ≡ ask (asked rs m) (offered_left n rs sdu m) (λ i. left i ws qs st)
  unfolding enqueue_left
  enqueue-asks n rs sdu = ap (λ (x : Memory). ask (asked rs x) (offered_left n rs sdu x) (λ i. left i ws qs st)) memory-is

  enqueue-yes : (n : ℕ) (rs sdu : List ℕ) → eqb (length rs) record_word_count ≡ true
      → ask (asked rs m) (offered_left n rs sdu m) (λ i. left i ws qs st) ≡ offered_left n rs sdu m
  unfolding ask
  enqueue-yes n rs sdu e =
      yes-before (offered_left n rs sdu m) (λ i. left i ws qs st) (asked rs m) []
      (eq-eqb _ _ size, (h.station, (right-lengths m h.places h.cells, (e, (h.queue, tt)))))

  enqueue-no : (n : ℕ) (rs sdu : List ℕ) → eqb (length rs) record_word_count ≡ false
      → left 2 ws qs st ≡ ask (asked rs m) (offered_left n rs sdu m) (λ i. left i ws qs st)
  enqueue-no n rs sdu e =
      first-no (offered_left n rs sdu m) (λ i. left i ws qs st) 3 (asked rs m)
      (((tt, eq-eqb _ _ size), h.station), right-lengths m h.places h.cells) e

  abbrev left_as : Left ℕ → WordsLeft
  left_as o = words_left (words o.station o.queue o.store) (number o.reply)

  -- ---- a build

  abbrev built_as : BuildWordsLeft → WordsLeft
  built_as o = words_left (words o.station o.queue o.store) (built o.reply o.block)

  module _ (block : List ℕ) where
    -- the words and the reply of an outcome
    abbrev Same : BuildOutcome → Type 0
    Same o = built_as (build_words_left_by ws qs st block o) ≡ words_left (words_of o.memory) (built (built_struct o.reply) (block_left o.reply block))

    -- nothing is written: either way the words are those that came in
    as-came : (x : BsSchedBuilt) (b : Bool) → cond b (build_words_left x ws qs st block) (build_words_left x ws qs st block) ≡ build_words_left x ws qs st block
    as-came x true = refl
    as-came x false = refl

    build-same : Same (build_call m block)
    unfolding build_call tag_row
    build-same =
        ask-elim Same _ _ _ (λ i. ap built_as (as-came (built_struct (Numbered.refused i)) (eqb i 0)))
        (λ yes. go (builds_now s))
      where
        go : (b : Bool) → Same (cond b (block_built m (current s) (built_now m)) (not_built Numbered.no_block m block))
        go true = refl
        go false = refl

    build-left : built_left ws qs st block ≡ build_words_left_by ws qs st block (build_call m block)
    unfolding built_left
    build-left =
        passes (build_words_left_by ws qs st block (build_call (memory_from ws qs st) block)) (λ i. build_words_left (not_built_struct i) ws qs st block)
        ∙ ap (λ (x : Memory). build_words_left_by ws qs st block (build_call x block)) memory-is

  -- ---- each call

  request-left : (n code kind w : ℕ)
      → let o = request_call m n code kind w in
      request_left ws qs st n code kind w
      ≡ left (grant_struct o.reply) (station_words o.memory.station) (queue_words o.memory.records) o.memory.store
  unfolding request_left
  request-left n code kind w =
      passes (words_left_by grant_struct ws qs st (request_call (memory_from ws qs st) n code kind w)) (λ i. left (not_granted_struct i) ws qs st)
      ∙ ap (λ (x : Memory). words_left_by grant_struct ws qs st (request_call x n code kind w)) memory-is
      ∙ left_by grant_struct (request_call m n code kind w) (every-queueing-queues.request m n code kind w).refusal

  ack-left : (n kind w : ℕ)
      → let o = ack_call m n kind w in
      ack_left ws qs st n kind w ≡ left (reply_number o.reply) (station_words o.memory.station) (queue_words o.memory.records) o.memory.store
  unfolding ack_left
  ack-left n kind w =
      passes (words_left_by reply_number ws qs st (ack_call (memory_from ws qs st) n kind w)) (λ i. left i ws qs st)
      ∙ ap (λ (x : Memory). words_left_by reply_number ws qs st (ack_call x n kind w)) memory-is
      ∙ left_by reply_number (ack_call m n kind w) (every-queueing-queues.ack m n kind w).refusal

  enqueue-left : (n : ℕ) (rs sdu : List ℕ) → eqb (length rs) record_word_count ≡ true
      → let o = offered n rs sdu m in
      enqueue_left ws qs st n rs sdu ≡ left (reply_number o.reply) (station_words o.memory.station) (queue_words o.memory.records) o.memory.store
  enqueue-left n rs sdu e =
      let r = offered_from rs in
      enqueue-asks n rs sdu ∙ enqueue-yes n rs sdu e
      ∙ left_by reply_number (offered n rs sdu m)
      (every-queueing-queues.tma m n r.address.kind r.address.number r.tag r.header r.bits sdu).refusal

  enqueue-same : (n : ℕ) (rs sdu : List ℕ) → left_as (enqueue_left ws qs st n rs sdu)
      ≡ words_left (words_of (run memory_step (calls_of (enqueue n rs sdu)) m)) (reply_in m (enqueue n rs sdu))
  unfolding memory_step run
  enqueue-same n rs sdu = go (eqb (length rs) record_word_count) refl
    where
      c : Call
      c = call.enqueue_record (record_offer n (offered_from rs) sdu)

      go : (b : Bool) → eqb (length rs) record_word_count ≡ b → left_as (enqueue_left ws qs st n rs sdu)
          ≡ words_left (words_of (run memory_step (cond b (c ∷ []) []) m)) (number (cond b (reply_number (memory_step c m).reply) 2))
      go true e = ap left_as (enqueue-left n rs sdu e)
      go false e = ap left_as (enqueue-asks n rs sdu ∙ sym (enqueue-no n rs sdu e))

  pub step_is : (c : WordCall) → word_step c (words_of m) ≡ words_left (words_of (run memory_step (calls_of c) m)) (reply_in m c)
  unfolding word_step memory_step run advance_memory
  step_is advance =
      ap (λ (o : StationLeft). words_left (words o.station qs st) (number o.reply)) advance-left
      ∙ ap (λ (a : StationOutcome). words_left (words (station_words a.station) qs st) (number (reply_number a.reply))) (sym advance-done)
  step_is (request n code kind w) =
      ap (λ (o : Left BsSchedGrant). words_left (words o.station o.queue o.store) (grant o.reply)) (request-left n code kind w)
  step_is (enqueue_ack n kind w) = ap left_as (ack-left n kind w)
  step_is (enqueue n rs sdu) = enqueue-same n rs sdu
  step_is (build block) = ap built_as (build-left block) ∙ build-same block
  step_is (slot_owner x) = ap (λ (o : BsSchedOwners). words_left (words_of m) (owners o)) (owners-same x)
  step_is (usage x) = ap (λ (o : BsSchedUsage). words_left (words_of m) (used o)) (usage-same x)
