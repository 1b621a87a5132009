-- Memory and reference model step alike, so over any history they stay alike and reply alike, blocks among the replies (`histories`,
-- `same-reply`). Assumes nothing.
use mathlib.Core.Path.{◌≡◌, refl, sym, ap, ap₂, subst, ◌∙◌}
use mathlib.Core.Bool.{Bool, true, false, ◌&&◌, cond}
use mathlib.Core.List.{List, [], ◌∷◌}
use Prim.Native.Nat.{ℕ, ◌-◌, ◌<◌}
use native.Mathlib.Omega.{arith}
use lib.Dec.{ltb}
use lib.ListN.{length, get_or}
use borrow.Author.Tests.{lt-ltb}
use Rattle.sizes.specs.Sizes.{block_width, block_octets}
use Rattle.tdma_time.specs.declared.TdmaTime.{TdmaTime}
use Rattle.tdma_time.specs.Time.{Valid, timeslot, usable}
use Rattle.mac_reader.specs.PduList.{Pdu, block_bits}
use Rattle.dl_queue.specs.Queue.{Item, queue_of, queues_of}
use Rattle.dl_queue.proofs.PushLaws.{queues-at}
use Rattle.dl_merge.specs.Merge.{merge_cells}
use Rattle.dl_merge.proofs.MergeLaws.{sdu_in_cell, unnamed}
use Rattle.dl_send.specs.Send.{Sent, cell_sdu, block_of}
use Rattle.dl_send.proofs.MapLaws.{reload_sent}
use Rattle.dl_build.specs.Build.{build_list, built_from, built_of}
use Rattle.dl_build.proofs.AfterBuild.{build-holds}
use Rattle.questions.specs.Questions.{ask}
use Rattle.sched_core.specs.Questions.{Memory, asks_block, build_lent}
use Rattle.sched_core.specs.Replies.{refused, block, no_block}
use Rattle.sched_core.specs.Calls.{BuildOutcome}
use Rattle.sched_core.specs.Calls.{current, builds_now, built_now, with_left, block_built, not_built, build_call, new_memory}
use Rattle.sched_core.specs.Invariant.{SoundMemory}
use Rattle.sched_core.specs.RequestGranted.{queues_in}
use Rattle.sched_core.proofs.QuestionLaws.{memory-passes}
use Rattle.sched_core.proofs.KeptLaws.{every-call-keeps, sound-yes}
use Rattle.history.specs.Call.{Call, advance, request, enqueue_ack, enqueue_record, build, read}
use Rattle.history.specs.Call.{stepped, unless_refused}
use Rattle.history.specs.Queues.{Queues, queue_at, with_queue_at, some_queued, can_build}
use Rattle.history.specs.Model.{Model, new_model, became, only_counted, named_built, queue_now, built, model_step, model_at}
use Rattle.history.specs.Memory.{answered_build, memory_step, memory_at}
use Rattle.history.proofs.Steps.{Agree, run_agree}
use Rattle.history.proofs.Simulation.{new-alike}
use Rattle.history.proofs.QueueMaps.{Held, set-held, cells_built, steady_bits, steady_names, same-built}
use Rattle.history.proofs.ReadLaws.{read-agrees}
use Rattle.history.proofs.QueueSteps.{Same, places, size, count_at, stays, advance-agrees, request-agrees, ack-agrees, rec-agrees}

some-count : {C : Type 0} (ys : List (Item C)) → ltb 0 (length ys) ≡ some_queued ys
some-count [] = refl
some-count (y ∷ ys) = lt-ltb 0 (length (y ∷ ys)) (omega arith)

module _ (m : Memory) (b : Model) (k : SoundMemory m) (a : Same m b) where
  abbrev ns : List ℕ
  ns = m.station.queued

  -- ---- a build

  abbrev t : ℕ
  t = timeslot b.uplink.now

  here : current m.station ≡ t - 1
  here = ap (λ (n : ℕ). timeslot n - 1) a.uplink.now

  now-inside : t - 1 < length ns
  now-inside = omega (arith, k.counts)

  same-can : builds_now m.station ≡ can_build b.uplink.now b.queues
  unfolding builds_now can_build
  same-can =
      ap₂ (λ (p q : Bool). p && q) (ap usable a.uplink.now)
      (ap (λ (j : ℕ). ltb 0 (get_or ns j 0)) here ∙ ap (λ (n : ℕ). ltb 0 n) (count_at m b k a t) ∙ some-count (queue_at b.queues t))

  -- what the code sends
  abbrev pub sent : Sent (List ℕ)
  sent = built_of ns m.records m.store (t - 1)

  sent_is : sent ≡ cells_built block_width (queue_at (queues_in m) t)
  unfolding built_of built_from cells_built
  sent_is = ap (λ (q : List (Item (List ℕ))). build_list cell_sdu block_width (merge_cells q)) (sym (queues-at ns m.records m.store (t - 1) now-inside))

  same_sent : reload_sent sdu_in_cell steady_bits sent ≡ reload_sent unnamed steady_names (named_built block_width (queue_now b))
  same_sent = ap (reload_sent sdu_in_cell steady_bits) sent_is ∙ same-built (queues_in m) b.queues a.queues block_width t

  pub same-pdus : sent.pdus ≡ (named_built block_width (queue_now b)).pdus
  same-pdus = ap (λ (s : Sent (List ℕ)). s.pdus) same_sent

  same-tags : sent.tags ≡ (named_built block_width (queue_now b)).tags
  same-tags = ap (λ (s : Sent (List ℕ)). s.tags) same_sent

  same_left : Held (queues_in (with_left m (t - 1) sent)) (with_queue_at b.queues t (named_built block_width (queue_now b)).left)
  same_left =
      subst (λ (qs : Queues (List ℕ)). Held qs (with_queue_at b.queues t (named_built block_width (queue_now b)).left))
      (sym (build-holds ns m.records m.store (t - 1) now-inside (places m b k a) (size m b k a) k.queue k.octets).lists)
      (set-held (queues_in m) b.queues a.queues (t - 1) _ _ (ap (λ (s : Sent (List ℕ)). s.left) same_sent))

  -- only the length of the block is in doubt
  abbrev asks-build : List ℕ → Bool → ℕ → BuildOutcome
  asks-build l can j =
      cond (asks_block l).holds
      (cond can (block_built m j (built_of ns m.records m.store j)) (not_built no_block m l))
      (not_built (refused 2) m l)

  build-asks : (l : List ℕ) → build_call m l ≡ asks-build l (can_build b.uplink.now b.queues) (t - 1)
  unfolding build_call built_now ask
  build-asks l =
      memory-passes m (build_lent l) [] _ (λ n. not_built (refused n) m l) (sound-yes m k)
      ∙ ap₂ (λ (can : Bool) (j : ℕ). asks-build l can j) same-can here

  build-agrees : (l : List ℕ) → Agree Same (memory_step (build l) m) (model_step (build l) b)
  unfolding memory_step model_step unless_refused ask built
  build-agrees l = rw (build-asks l) (go (asks_block l).holds (can_build b.uplink.now b.queues))
    where
      go : (right can : Bool)
          → Agree Same
          (answered_build
          (cond right (cond can (block_built m (t - 1) sent) (not_built no_block m l)) (not_built (refused 2) m l)))
          (cond right
          (cond can
          (became b b.uplink (with_queue_at b.queues t (named_built block_width (queue_now b)).left)
          (block (block_of block_octets (block_bits (named_built block_width (queue_now b)).pdus)) (named_built block_width (queue_now b)).tags))
          (stepped (only_counted b) no_block))
          (stepped (only_counted b) (refused 2)))
      go true true =
          record {
            after = record { uplink = a.uplink; queues = same_left };
            reply = ap₂ (λ (ps : List Pdu) (ts : List ℕ). block (block_of block_octets (block_bits ps)) ts) same-pdus same-tags;
          }
      go true false = record { after = stays m b k a; reply = refl }
      go false can = record { after = stays m b k a; reply = refl }

  -- ---- any call

  agrees : (c : Call) → Agree Same (memory_step c m) (model_step c b)
  agrees advance = advance-agrees m b k a
  agrees (request c) = request-agrees m b k a c
  agrees (enqueue_ack o) = ack-agrees m b k a o
  agrees (enqueue_record o) = rec-agrees m b k a o
  agrees (build l) = build-agrees l
  agrees (read q) = unfold model_step in read-agrees Same q m (only_counted b) (stays m b k a) k.station

-- ---- a history

-- a sound memory, alike to the model
pub record SoundAndSame (m : Memory) (b : Model) : Type 0 where
  pub sound : SoundMemory m
  pub same : Same m b

pub step-sound : (c : Call) (m : Memory) → SoundMemory m → SoundMemory (memory_step c m).after
unfolding memory_step
step-sound advance m k = every-call-keeps.advance m k
step-sound (request a) m k = every-call-keeps.request m _ _ _ _ k
step-sound (enqueue_ack o) m k = every-call-keeps.ack m _ _ _ k
step-sound (enqueue_record o) m k = every-call-keeps.tma m _ _ _ _ _ _ _ k
step-sound (build b) m k = every-call-keeps.build m b k
step-sound (read q) m k = k

whole-step : (c : Call) (m : Memory) (b : Model) → SoundAndSame m b → Agree SoundAndSame (memory_step c m) (model_step c b)
whole-step c m b w =
    let x : Agree Same (memory_step c m) (model_step c b) = agrees m b w.sound w.same c in
    record { after = record { sound = step-sound c m w.sound; same = x.after }; reply = x.reply }

new-same : (x : TdmaTime) → Valid x → Same (new_memory x) (new_model x)
unfolding new_memory new_model queues_of queue_of
new-same x v = record { uplink = new-alike x v; queues = refl }

module _ (x : TdmaTime) (v : Valid x) (cs : List Call) where
  pub histories : SoundAndSame (memory_at x cs) (model_at x cs)
  histories =
      run_agree SoundAndSame memory_step model_step whole-step cs (new_memory x) (new_model x) (record { sound = every-call-keeps.new x v; same = new-same x v })

  pub same-reply : (c : Call) → (memory_step c (memory_at x cs)).reply ≡ (model_step c (model_at x cs)).reply
  same-reply c = (whole-step c (memory_at x cs) (model_at x cs) histories).reply
