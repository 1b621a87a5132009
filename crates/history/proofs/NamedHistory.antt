-- Every grant queued in the reference model is that of the request that it is named after (`named-history`). Assumes nothing.
use Rattle.std.proofs.lemmas.Bool.{and_parts}
use Rattle.std.proofs.Common.{Option, Some, None}
use mathlib.Core.Path.{◌≡◌, refl, sym, ap, subst, ◌∙◌}
use mathlib.Core.Logic.{◌⊎◌, inl, inr, ⊎_elim}
use mathlib.Core.Bool.{Bool, true, false, cond}
use mathlib.Core.List.{List, [], ◌∷◌, ◌++◌, append_assoc, append-nil}
use Prim.Native.Nat.{ℕ, zero, suc, ◌-◌, ◌≤◌}
use native.Mathlib.Omega.{arith}
use lib.ListN.{length, get_or, set, length-append}
use lib.Seq.{append_snoc}
use Rattle.lists.proofs.Every.{All, all-weaken, all_append}
use Rattle.sizes.specs.Sizes.{block_width}
use Rattle.tdma_time.specs.declared.TdmaTime.{TdmaTime}
use Rattle.tdma_time.specs.Time.{timeslot}
use Rattle.slot_codes.specs.Codes.{grant_octet}
use Rattle.uplink.specs.Search.{Run}
use Rattle.uplink.specs.Request.{Verdict, no_run, too_late, grant}
use Rattle.uplink.proofs.Basics.{not-both}
use Rattle.mac_pdus.specs.Legal.{absent, legal_queued, legal_offered}
use Rattle.dl_record.specs.Record.{grant_record, ack_record, resource_of}
use Rattle.dl_queue.specs.Queue.{Item, item}
use Rattle.dl_merge.proofs.NameLaws.{Tied}
use Rattle.questions.specs.Questions.{ask}
use Rattle.questions.proofs.AskLaws.{AllYes, yes-before}
use Rattle.sched_core.proofs.QuestionLaws.{timeslot-range}
use Rattle.sched_core.specs.Replies.{refused, granted, no_block}
use Rattle.history.specs.Call.{CapacityRequest, request_of, RecordOffer, record_of, Call, advance, request, enqueue_ack, enqueue_record, build, read}
use Rattle.history.specs.Call.{Stepped, stepped, unless_refused, run}
use Rattle.history.specs.Queues.{Queues, no_queues, queue_at, appended, can_build}
use Rattle.history.specs.UplinkModel.{model_verdict}
use Rattle.history.specs.Model.{NamedSdu, named, bare, of_sdu, Model, new_model, only_counted, request_asked, requested, built, model_step, model_at}
use Rattle.history.specs.Demand3.{Origin}
use Rattle.history.proofs.Steps.{run_more, unless-after}
use Rattle.history.proofs.GrantNames.{built-left}

-- a record's grant is that of the request it is named after; without a grant it has no name
abbrev pub Faithful : TdmaTime → List Call → ℕ → ℕ → Option ℕ → Option ℕ → Type 0
Faithful x xs t number None None = Unit {0}
Faithful x xs t number None (Some k) = ⊥
Faithful x xs t number (Some octet) None = ⊥
Faithful x xs t number (Some octet) (Some k) = Origin x xs t number octet k

abbrev pub Good : TdmaTime → List Call → ℕ → Item NamedSdu → Type 0
Good x xs t = Tied (Faithful x xs t)

-- a record without grant
bare-good : (x : TdmaTime) (xs : List Call) (t : ℕ) (y : Item NamedSdu) → absent y.rec.header.slot_granting_element ≡ true
    → y.load.name ≡ None → Good x xs t y
bare-good x xs t y e n = rw n (go y.rec.header.slot_granting_element e)
  where
    go : (grant : Option ℕ) → absent grant ≡ true → Faithful x xs t y.rec.address.number grant None
    go None e = tt
    go (Some octet) e = not-both false e refl

-- ---- one call more

origin-more : (x : TdmaTime) (xs : List Call) (c : Call) {t number octet name : ℕ} → Origin x xs t number octet name
    → Origin x (xs ++ c ∷ []) t number octet name
origin-more x xs c o =
    record {
      before = o.before;
      since = o.since ++ c ∷ [];
      asker = o.asker;
      cut = ap (λ (l : List Call). l ++ c ∷ []) o.cut ∙ append_assoc o.before (request o.asker ∷ o.since) (c ∷ []);
      place = o.place;
      its-timeslot = o.its-timeslot;
      its-number = o.its-number;
      capacity = o.capacity;
      delay = o.delay;
      marker = o.marker;
      reply = o.reply;
      its-octet = o.its-octet;
    }

good_more : (x : TdmaTime) (xs : List Call) (c : Call) (t : ℕ) (y : Item NamedSdu) → Good x xs t y → Good x (xs ++ c ∷ []) t y
good_more x xs c t y = go y.rec.header.slot_granting_element y.load.name
  where
    go : (grant : Option ℕ) (name : Option ℕ) → Faithful x xs t y.rec.address.number grant name → Faithful x (xs ++ c ∷ []) t y.rec.address.number grant name
    go None None p = tt
    go None (Some k) p = absurd p
    go (Some octet) None p = absurd p
    go (Some octet) (Some k) p = origin-more x xs c p

-- ---- in each of the queues

Everywhere : TdmaTime → List Call → Queues NamedSdu → Type 0
Everywhere x xs qs = (t : ℕ) → 1 ≤ t → All (Good x xs t) (queue_at qs t)

get_d-set-either : {A : Type 0} (l : List A) (i j : ℕ) (a d : A) → ((i ≡ j) × (get_or (set l i a) j d ≡ a)) ⊎ (get_or (set l i a) j d ≡ get_or l j d)
get_d-set-either [] i j a d = inr refl
get_d-set-either (x ∷ l) zero zero a d = inl (refl, refl)
get_d-set-either (x ∷ l) zero (suc j) a d = inr refl
get_d-set-either (x ∷ l) (suc i) zero a d = inr refl
get_d-set-either (x ∷ l) (suc i) (suc j) a d = ⊎_elim (λ p. inl (ap suc p.0, p.1)) inr (get_d-set-either l i j a d)

-- a property of the records of each timeslot's queue, where one queue is replaced
set-each : {C : Type 0} (P : ℕ → Item C → Type 0) (qs : Queues C) (t : ℕ) (ys : List (Item C)) → 1 ≤ t → All (P t) ys
    → ((u : ℕ) → 1 ≤ u → All (P u) (queue_at qs u))
    → (u : ℕ) → 1 ≤ u → All (P u) (queue_at (set qs (t - 1) ys) u)
set-each {C} P qs t ys h k e u g = ⊎_elim at off (get_d-set-either qs (t - 1) (u - 1) ys [])
  where
    at : ((t - 1) ≡ (u - 1)) × (queue_at (set qs (t - 1) ys) u ≡ ys) → All (P u) (queue_at (set qs (t - 1) ys) u)
    at p = let tu : t ≡ u = omega arith in rw p.1 (subst (λ (v : ℕ). All (P v) ys) tu k)

    off : queue_at (set qs (t - 1) ys) u ≡ queue_at qs u → All (P u) (queue_at (set qs (t - 1) ys) u)
    off p = rw p (e u g)

-- and where one record joins
appended-each : {C : Type 0} (P : ℕ → Item C → Type 0) (qs : Queues C) (t : ℕ) (y : Item C) → 1 ≤ t → P t y → ((u : ℕ) → 1 ≤ u → All (P u) (queue_at qs u))
    → (u : ℕ) → 1 ≤ u → All (P u) (queue_at (appended qs t y) u)
unfolding appended
appended-each P qs t y h k e = set-each P qs t _ h (all_append (P t) (queue_at qs t) (y ∷ []) (e t h) (k, tt)) e

none_each : {C : Type 0} (P : ℕ → Item C → Type 0) (u : ℕ) → All (P u) (queue_at (no_queues {C = C}) u)
none_each {C} P u = go (u - 1)
  where
    go : (i : ℕ) → All (P u) (get_or (no_queues {C = C}) i [])
    go zero = tt
    go (suc zero) = tt
    go (suc (suc zero)) = tt
    go (suc (suc (suc zero))) = tt
    go (suc (suc (suc (suc i)))) = tt

-- ---- through a history

pub at_more : (x : TdmaTime) (xs : List Call) (c : Call) → model_at x (xs ++ c ∷ []) ≡ (model_step c (model_at x xs)).after
at_more x xs c = run_more model_step xs c (new_model x)

more-everywhere : (x : TdmaTime) (xs : List Call) (c : Call) (qs : Queues NamedSdu) → Everywhere x xs qs → Everywhere x (xs ++ c ∷ []) qs
unfolding Everywhere
more-everywhere x xs c qs e t h = all-weaken (Good x xs t) (Good x (xs ++ c ∷ []) t) (good_more x xs c t) (queue_at qs t) (e t h)

record Named (x : TdmaTime) (xs : List Call) : Type 0 where
  counted : (model_at x xs).count ≡ length xs
  everywhere : Everywhere x xs (model_at x xs).queues

module _ (x : TdmaTime) (xs : List Call) (k : (model_at x xs).count ≡ length xs) where
  abbrev m : Model
  m = model_at x xs

  -- a request's own grant
  new-good : (a : CapacityRequest) (c d : ℕ) (marker : Option ℕ) → (model_step (request a) m).reply ≡ granted c d marker
      → Good x (xs ++ request a ∷ []) a.timeslot (item (grant_record a.kind a.number (grant_octet c d) marker) (named m.count))
  new-good a c d marker e =
      record {
        before = xs;
        since = [];
        asker = a;
        cut = refl;
        place = sym k;
        its-timeslot = refl;
        its-number = refl;
        capacity = c;
        delay = d;
        marker = marker;
        reply = e;
        its-octet = refl;
      }

  after-request : (a : CapacityRequest) → Everywhere x (xs ++ request a ∷ []) m.queues → AllYes (request_asked a m)
      → Everywhere x (xs ++ request a ∷ []) (requested a (model_verdict m.uplink (request_of a)) m).after.queues
  unfolding Everywhere model_step unless_refused ask requested
  after-request a e q =
      go (model_verdict m.uplink (request_of a))
      (λ g r.
      ap (λ (y : Stepped Model). y.reply)
      (yes-before (requested a (model_verdict m.uplink (request_of a)) m) (λ n. stepped (only_counted m) (refused n)) (request_asked a m) [] q)
      ∙ ap (λ (w : Verdict). (requested a w m).reply) r) refl
    where
      go : (w : Verdict)
          → ((g : Run) → model_verdict m.uplink (request_of a) ≡ grant g → (model_step (request a) m).reply ≡ (requested a (grant g) m).reply)
          → model_verdict m.uplink (request_of a) ≡ w → Everywhere x (xs ++ request a ∷ []) (requested a w m).after.queues
      go no_run f r = e
      go too_late f r = e
      go (grant g) f r =
          appended-each (Good x (xs ++ request a ∷ [])) m.queues a.timeslot _ (timeslot-range a.timeslot q.0).0 (new-good a _ _ _ (f g r)) e

  offer-bare : (o : RecordOffer) → legal_offered (resource_of (record_of o) 0 0) ≡ true → absent o.header.slot_granting_element ≡ true
  unfolding legal_offered
  offer-bare o h = (and_parts (legal_queued (resource_of (record_of o) 0 0)) (absent o.header.slot_granting_element) h).1

  -- a record without grant joins
  bare-joins : (ys : List Call) (t : ℕ) (y : Item NamedSdu) → 1 ≤ t → absent y.rec.header.slot_granting_element ≡ true → y.load.name ≡ None
      → Everywhere x ys m.queues → Everywhere x ys (appended m.queues t y)
  unfolding Everywhere
  bare-joins ys t y low b n e = appended-each (Good x ys) m.queues t y low (bare-good x ys t y b n) e

  after-build : (ys : List Call) → Everywhere x ys m.queues → Everywhere x ys (built m).after.queues
  unfolding built Everywhere
  after-build ys e =
      go (can_build m.uplink.now m.queues) _
      (set-each (Good x ys) m.queues t _ (omega arith) (built-left (Faithful x ys t) block_width (queue_at m.queues t) (e t (omega arith))) e)
    where
      t : ℕ
      t = timeslot m.uplink.now

      go : (b : Bool) (y : Stepped Model) → Everywhere x ys y.after.queues → Everywhere x ys (cond b y (stepped (only_counted m) no_block)).after.queues
      go true y h = h
      go false y h = e

  after_call : (c : Call) → Everywhere x (xs ++ c ∷ []) m.queues → Everywhere x (xs ++ c ∷ []) (model_step c m).after.queues
  unfolding model_step Everywhere
  after_call advance e = e
  after_call (request a) e = unless-after (λ (n : Model). Everywhere x (xs ++ request a ∷ []) n.queues) _ (only_counted m) _ e (after-request a e)
  after_call (enqueue_ack o) e =
      unless-after (λ (n : Model). Everywhere x (xs ++ enqueue_ack o ∷ []) n.queues) _ (only_counted m) _ e
      (λ q. bare-joins (xs ++ enqueue_ack o ∷ []) o.timeslot (item (ack_record o.kind o.number) bare)
      (timeslot-range o.timeslot q.0).0 refl refl e)
  after_call (enqueue_record o) e =
      unless-after (λ (n : Model). Everywhere x (xs ++ enqueue_record o ∷ []) n.queues) _ (only_counted m) _ e
      (λ q.
      bare-joins (xs ++ enqueue_record o ∷ []) o.timeslot (item (record_of o) (of_sdu o.bits o.octets)) (timeslot-range o.timeslot q.0).0
      (offer-bare o q.1.1.0) refl e)
  after_call (build b) e = unless-after (λ (n : Model). Everywhere x (xs ++ build b ∷ []) n.queues) _ (only_counted m) _ e (λ q. after-build _ e)
  after_call (read q) e = unless-after (λ (n : Model). Everywhere x (xs ++ read q ∷ []) n.queues) _ (only_counted m) _ e (λ k. e)

step_count : (c : Call) (m : Model) → (model_step c m).after.count ≡ suc m.count
unfolding model_step requested built
step_count advance m = refl
step_count (request a) m = unless-after (λ (n : Model). n.count ≡ suc m.count) _ (only_counted m) _ refl (λ e. go (model_verdict m.uplink (request_of a)))
  where
    go : (w : Verdict) → (requested a w m).after.count ≡ suc m.count
    go no_run = refl
    go too_late = refl
    go (grant g) = refl
step_count (enqueue_ack o) m = unless-after (λ (n : Model). n.count ≡ suc m.count) _ (only_counted m) _ refl (λ e. refl)
step_count (enqueue_record o) m = unless-after (λ (n : Model). n.count ≡ suc m.count) _ (only_counted m) _ refl (λ e. refl)
step_count (build b) m =
    unless-after (λ (n : Model). n.count ≡ suc m.count) _ (only_counted m) _ refl (λ e. go (can_build m.uplink.now m.queues) _ refl)
  where
    go : (b : Bool) (y : Stepped Model) → y.after.count ≡ suc m.count → (cond b y (stepped (only_counted m) no_block)).after.count ≡ suc m.count
    go true y h = h
    go false y h = refl
step_count (read q) m = unless-after (λ (n : Model). n.count ≡ suc m.count) _ (only_counted m) _ refl (λ e. refl)

named_more : (x : TdmaTime) (xs : List Call) (c : Call) → Named x xs → Named x (xs ++ c ∷ [])
named_more x xs c i =
    record {
      counted = ap (λ (f : Model). f.count) (at_more x xs c) ∙ step_count c _ ∙ ap suc i.counted ∙ omega (arith, length-append xs (c ∷ []));
      everywhere = rw (at_more x xs c) (after_call x xs i.counted c (more-everywhere x xs c _ i.everywhere));
    }

named-all : (x : TdmaTime) (ys xs : List Call) → Named x xs → Named x (xs ++ ys)
named-all x [] xs i = rw append-nil i
named-all x (y ∷ ys) xs i = rw append_snoc at (named-all x ys (xs ++ y ∷ []) (named_more x xs y i))

named-run : (x : TdmaTime) (xs : List Call) → Named x xs
unfolding run new_model Everywhere
named-run x xs = named-all x xs [] (record { counted = refl; everywhere = λ t h. none_each (Good x []) t })

-- the records of the timeslot whose turn it is
pub named-history : (x : TdmaTime) (xs : List Call) (t : ℕ) → 1 ≤ t → All (Good x xs t) (queue_at (model_at x xs).queues t)
unfolding Everywhere
named-history x xs t h = (named-run x xs).everywhere t h
