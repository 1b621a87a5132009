-- W-201: in every history at most one queued record of a timeslot is started, and it is the first of its queue (`one-started`). Assumes nothing.
use mathlib.Core.Path.{◌≡◌, refl, sym, ap, ◌∙◌}
use mathlib.Core.Bool.{Bool, true, false, cond}
use mathlib.Core.List.{List, [], ◌∷◌, ◌++◌, map}
use Prim.Native.Nat.{ℕ, zero, suc, ◌+◌, ◌-◌, ◌*◌, ◌<◌}
use native.Mathlib.Numerals.{one-add, unary_clauses}
use native.Mathlib.Omega.{arith}
use lib.ListN.{get_or, drop, get_or-map}
use Rattle.lists.proofs.Every.{All, all_append}
use Rattle.sizes.specs.Sizes.{timeslots, per_timeslot, cell_octets, block_width}
use Rattle.tdma_time.specs.declared.TdmaTime.{TdmaTime}
use Rattle.tdma_time.specs.Time.{Valid, timeslot}
use Rattle.uplink.specs.Request.{Verdict, no_run, too_late, grant}
use Rattle.uplink.proofs.Basics.{not-both}
use Rattle.dl_record.specs.declared.Record.{Record}
use Rattle.dl_record.specs.Kind.{is_started}
use Rattle.dl_record.specs.Record.{empty_record}
use Rattle.dl_queue.specs.Queue.{Item, item, queue_of}
use Rattle.dl_queue.proofs.PushLaws.{rec_at, rec-shift, queues-at}
use Rattle.dl_merge.specs.Merge.{fresh_name, join_name}
use Rattle.dl_merge.proofs.MergeLaws.{reload, sdu_in_cell, unnamed}
use Rattle.dl_send.proofs.OpenLaws.{NotStarted, OnlyFirst}
use Rattle.dl_build.proofs.OpenLaws.{one-built}
use Rattle.sched_core.specs.Questions.{Memory}
use Rattle.sched_core.specs.Replies.{no_block}
use Rattle.sched_core.specs.RequestGranted.{queues_in}
use Rattle.history.specs.Call.{request_of, Call, advance, request, enqueue_ack, enqueue_record, build, read, Stepped, stepped, run}
use Rattle.history.specs.Queues.{Queues, queue_at, appended, can_build}
use Rattle.history.specs.UplinkModel.{model_verdict}
use Rattle.history.specs.Model.{NamedSdu, named_sdu, bare, Model, new_model, only_counted, requested, named_built, queue_now, built, model_step, model_at}
use Rattle.history.specs.Memory.{memory_at}
use Rattle.history.proofs.Steps.{unless-after}
use Rattle.history.proofs.QueueMaps.{all_set, same_queue}
use Rattle.history.proofs.WholeSimulation.{histories}

-- ---- the model's queues

-- in each at most the first is started
abbrev OneOpen : Model → Type 0
OneOpen m = All OnlyFirst m.queues

-- what all have and the default too, the one at any index has
all-index : {A : Type 0} (P : A → Type 0) (d : A) → P d → (xs : List A) → All P xs → (i : ℕ) → P (get_or xs i d)
all-index P d z [] h i = z
all-index P d z (x ∷ xs) h zero = h.0
all-index P d z (x ∷ xs) h (suc i) = all-index P d z xs h.1 i

queue-first : (qs : Queues NamedSdu) → All OnlyFirst qs → (i : ℕ) → OnlyFirst (get_or qs i [])
queue-first qs h i = all-index OnlyFirst [] tt qs h i

-- a record that joins is a grant, an ack or a record, and not started
joins-behind : (xs : List (Item NamedSdu)) (y : Item NamedSdu) → NotStarted y → OnlyFirst xs → OnlyFirst (xs ++ y ∷ [])
joins-behind [] y k h = tt
joins-behind (x ∷ xs) y k h = all_append NotStarted xs (y ∷ []) h (k, tt)

appended-open : (qs : Queues NamedSdu) (t : ℕ) (y : Item NamedSdu) → NotStarted y → All OnlyFirst qs → All OnlyFirst (appended qs t y)
unfolding appended
appended-open qs t y k h = all_set OnlyFirst qs (t - 1) _ (joins-behind (queue_at qs t) y k (queue-first qs h (t - 1))) h

built-open : (m : Model) → OneOpen m → OneOpen (built m).after
unfolding built named_built
built-open m h =
    go (can_build m.uplink.now m.queues) _
    (all_set OnlyFirst m.queues (timeslot m.uplink.now - 1) _
    (one-built (fresh_name []) join_name named_sdu block_width (queue_now m) (omega arith) (queue-first m.queues h (timeslot m.uplink.now - 1))) h)
  where
    go : (b : Bool) (y : Stepped Model) → OneOpen y.after → OneOpen (cond b y (stepped (only_counted m) no_block)).after
    go true y k = k
    go false y k = h

step-open : (c : Call) (m : Model) → OneOpen m → OneOpen (model_step c m).after
unfolding model_step requested
step-open advance m h = h
step-open (request a) m h = unless-after OneOpen _ (only_counted m) _ h (λ q. go (model_verdict m.uplink (request_of a)))
  where
    go : (w : Verdict) → OneOpen (requested a w m).after
    go no_run = h
    go too_late = h
    go (grant g) = appended-open m.queues a.timeslot _ refl h
step-open (enqueue_ack o) m h = unless-after OneOpen _ (only_counted m) _ h (λ q. appended-open m.queues o.timeslot _ refl h)
step-open (enqueue_record o) m h = unless-after OneOpen _ (only_counted m) _ h (λ q. appended-open m.queues o.timeslot _ refl h)
step-open (build b) m h = unless-after OneOpen _ (only_counted m) _ h (λ q. built-open m h)
step-open (read q) m h = unless-after OneOpen _ (only_counted m) _ h (λ q. h)

run-open : (cs : List Call) (m : Model) → OneOpen m → OneOpen (run model_step cs m)
unfolding run
run-open [] m h = h
run-open (c ∷ cs) m h = run-open cs (model_step c m).after (step-open c m h)

model-open : (x : TdmaTime) (cs : List Call) → OneOpen (model_at x cs)
unfolding new_model
model-open x cs = run-open cs (new_model x) (tt, (tt, (tt, (tt, tt))))

-- ---- the memory's

-- the record at a place of a timeslot
queue-record : (n : ℕ) (rs : List Record) (s : List ℕ) (i : ℕ) (d : Item (List ℕ)) → i < n → (get_or (queue_of n rs s) i d).rec ≡ rec_at rs i
unfolding queue_of
queue-record zero rs s i d l = absurd (omega arith)
queue-record (suc n) rs s zero d l = refl
queue-record (suc n) rs s (suc i) d l =
    queue-record n (drop 1 rs) (drop cell_octets s) i d (omega arith) ∙ rec-shift 1 rs i ∙ ap (rec_at rs) (one-add i)

-- two lists that hold the same records with the same SDUs
same-record : (xs : List (Item (List ℕ))) (ys : List (Item NamedSdu)) (i : ℕ) → map (reload sdu_in_cell) xs ≡ map (reload unnamed) ys
    → (get_or xs i (item empty_record [])).rec ≡ (get_or ys i (item empty_record bare)).rec
same-record xs ys i e =
    sym (ap (λ (y : Item (List ℕ)). y.rec) (get_or-map (reload sdu_in_cell) xs i (item empty_record [])))
    ∙ ap (λ (l : List (Item (List ℕ))). (get_or l i (item empty_record [])).rec) e
    ∙ ap (λ (y : Item (List ℕ)). y.rec) (get_or-map (reload unnamed) ys i (item empty_record bare))

first-started : (ys : List (Item NamedSdu)) → OnlyFirst ys → (i : ℕ) → is_started (get_or ys i (item empty_record bare)).rec.kind ≡ true → i ≡ 0
first-started ys h zero e = refl
first-started [] h (suc i) e = not-both false e refl
first-started (y ∷ ys) h (suc i) e = not-both _ e (all-index NotStarted (item empty_record bare) refl ys h i)

module _ (x : TdmaTime) (v : Valid x) (cs : List Call) where
  abbrev m : Memory
  m = memory_at x cs

  abbrev queue : ℕ → List (Item NamedSdu)
  queue t = get_or (model_at x cs).queues t []

  held-record : (t i : ℕ) → t < timeslots → i < get_or m.station.queued t 0
      → rec_at m.records (per_timeslot * t + i) ≡ (get_or (queue t) i (item empty_record bare)).rec
  held-record t i l k =
      sym (rec-shift (per_timeslot * t) m.records i)
      ∙ sym (queue-record (get_or m.station.queued t 0) (drop (per_timeslot * t) m.records) (drop (cell_octets * (per_timeslot * t)) m.store) i _ k)
      ∙ ap (λ (q : List (Item (List ℕ))). (get_or q i (item empty_record [])).rec)
      (sym (queues-at m.station.queued m.records m.store t (omega (arith, (histories x v cs).sound.counts))))
      ∙ same-record (get_or (queues_in m) t []) (queue t) i
      (simp unary_clauses at (same_queue (queues_in m) (model_at x cs).queues (histories x v cs).same.queues (suc t)))

  pub one-started : (t i : ℕ) → t < timeslots → i < get_or m.station.queued t 0
      → is_started (get_or m.records (per_timeslot * t + i) empty_record).kind ≡ true → i ≡ 0
  one-started t i l k e =
      first-started (queue t) (queue-first (model_at x cs).queues (model-open x cs) t) i
      (ap (λ (r : Record). is_started r.kind) (sym (held-record t i l k)) ∙ e)
