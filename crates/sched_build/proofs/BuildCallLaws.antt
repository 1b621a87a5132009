-- A build as its callers see it: whether there is a block, and the plan of the current timeslot as the call's outcome. Assumes nothing.
use mathlib.Core.Path.{◌≡◌, sym, ap, ◌∙◌, subst}
use mathlib.Core.Bool.{true, false, ◌&&◌, not, cond}
use mathlib.Core.List.{List}
use Prim.Native.Nat.{ℕ, ◌-◌, ◌*◌, ◌<◌, ◌≤◌}
use native.Mathlib.Omega.{arith}
use lib.Dec.{eqb, ltb}
use lib.ListN.{length, get_or, set, take, drop, replicate, length-drop}
use lib.Seq.{paste, get_or-take}
use borrow.Author.Tests.{eq-eqb}
use Rattle.sizes.specs.Sizes.{timeslots, per_timeslot, queue_places, cell_octets, store_octets, block_width, block_octets}
use Rattle.tdma_time.specs.Time.{Valid, usable}
use Rattle.tdma_time.proofs.TimeLaws.{slot_of-timeslot, slot_of-frame}
use Rattle.dl_record.specs.declared.Record.{Record}
use Rattle.dl_record.specs.Record.{empty_record}
use Rattle.dl_queue.specs.Queue.{records_of}
use Rattle.dl_queue.specs.Questions.{sound_place, sound_places, sound_queue}
use Rattle.dl_queue.proofs.QueueLaws.{list-behind, sound-behind}
use Rattle.dl_queue.proofs.SetLaws.{length-records}
use Rattle.dl_queue.proofs.SoundLaws.{places-at, places-all, queue-at}
use Rattle.dl_send.specs.declared.Progress.{Progress}
use Rattle.dl_send.specs.Send.{Sent}
use Rattle.dl_build.specs.Build.{built_from, built_of, CanBuild, BuiltIn}
use Rattle.dl_build.proofs.ArrangeLaws.{paste-rest}
use Rattle.dl_build.proofs.BuildLaws.{built-few, built-own}
use Rattle.sched_core.specs.declared.Station.{Station}
use Rattle.sched_core.specs.Station.{with_queued}
use Rattle.sched_core.specs.Questions.{Memory, memory, sound_station, memory_questions, build_lent}
use Rattle.sched_core.specs.Replies.{Numbered}
use Rattle.sched_core.specs.Calls.{BuildOutcome, not_built, current, builds_now, built_now, block_built, build_call}
use Rattle.questions.proofs.AskLaws.{every-yes}
use Rattle.sched_core.proofs.QuestionLaws.{right-lengths}
use Rattle.sched_core.proofs.StationLaws.{sound-time, current-low}

-- frame and timeslot as the time shows them
pub builds-now : (s : Station) → Valid s.uplink.time
    → not (eqb s.uplink.time.f 18) && ltb 0 (get_or s.queued (s.uplink.time.t - 1) 0) ≡ builds_now s
unfolding builds_now usable
builds-now s v = rw (slot_of-frame s.uplink.time v, slot_of-timeslot s.uplink.time v)

-- ---- the timeslot's own records

pub own-sound : (n : ℕ) (rs : List Record) (s : List ℕ) → sound_places per_timeslot n rs s ≡ true → sound_places per_timeslot n (take per_timeslot rs) s ≡ true
own-sound n rs s e =
    places-all per_timeslot n (take per_timeslot rs) s
    (λ i h. ap (λ (r : Record). sound_place (ltb i n) r (take cell_octets (drop (cell_octets * i) s))) (get_or-take per_timeslot rs i empty_record h)
    ∙ places-at per_timeslot n rs s e i h)

-- ---- the plan

module _ (s : Station) (records : List Record) (store : List ℕ) (t : ℕ) (here : t ≡ current s) (low : t < timeslots) (cells : length store ≡ store_octets)
    (sound : sound_places per_timeslot (get_or s.queued (current s) 0) records (drop (cell_octets * (per_timeslot * current s)) store) ≡ true)
    (few : get_or s.queued t 0 ≤ per_timeslot) where
  pub can-build : (octets : ℕ) → octets ≡ block_octets → CanBuild octets block_width store (per_timeslot * t) (get_or s.queued t 0) records
  can-build octets e =
      record {
        count = few;
        width = omega arith;
        inside = omega arith;
        bounded = omega arith;
        cells = omega arith;
        stored = omega arith;
        sound = subst (λ (u : ℕ). sound_places per_timeslot (get_or s.queued u 0) records (drop (cell_octets * (per_timeslot * u)) store) ≡ true)
            (sym here) sound;
      }

  -- the plan is that of any queue with these records
  pub plan-now : (octets : ℕ) (p : Progress) (store' block' : List ℕ) → octets ≡ block_octets
      → BuiltIn (built_from block_width (get_or s.queued t 0) records (drop (cell_octets * (per_timeslot * t)) store)) octets store
      (per_timeslot * t) p store' block'
      → (rs : List Record) → take per_timeslot (drop (per_timeslot * current s) rs) ≡ records
      → BuiltIn (built_now (memory s rs store)) block_octets store (per_timeslot * current s) p store' block'
  unfolding built_now
  plan-now octets p store' block' e h rs own =
      let built : Sent (List ℕ) = built_from block_width (get_or s.queued t 0) records (drop (cell_octets * (per_timeslot * t)) store) in
      let at : ◌≡◌ {A = Sent (List ℕ)} built (built_now (memory s rs store)) =
      ap (λ (u : ℕ). built_from block_width (get_or s.queued u 0) records (drop (cell_octets * (per_timeslot * u)) store)) here
      ∙ ap (λ (l : List Record). built_from block_width (get_or s.queued (current s) 0) l (drop (cell_octets * (per_timeslot * current s)) store)) (sym own)
      ∙ built-own s.queued rs store (current s) (rw (sym here) few) in
      subst (λ (x : Sent (List ℕ)). BuiltIn x block_octets store (per_timeslot * current s) p store' block') at
      (subst (λ (u : ℕ). BuiltIn built block_octets store (per_timeslot * u) p store' block') here
      (subst (λ (k : ℕ). BuiltIn built k store (per_timeslot * t) p store' block') e h))

-- ---- the call

-- with station and queue sound
module _ (m : Memory) (station : sound_station m.station ≡ true) (places : length m.records ≡ queue_places) (cells : length m.store ≡ store_octets)
    (queue : sound_queue m.station.queued m.records m.store ≡ true) where
  abbrev t : ℕ
  t = current m.station

  abbrev n : ℕ
  n = get_or m.station.queued t 0

  low : t < timeslots
  low = current-low m.station (sound-time m.station station)

  module _ (four : length m.station.queued ≡ timeslots) where
    here : (n ≤ per_timeslot) × (sound_places per_timeslot n (drop (per_timeslot * t) m.records) (drop (cell_octets * (per_timeslot * t)) m.store) ≡ true)
    here = queue-at m.station.queued m.records m.store queue t (omega (arith, four, low))

    -- the current timeslot's records as the plan asks for them
    pub records-sound : sound_places per_timeslot n (take per_timeslot (drop (per_timeslot * t) m.records)) (drop (cell_octets * (per_timeslot * t)) m.store)
        ≡ true
    records-sound = own-sound n (drop (per_timeslot * t) m.records) (drop (cell_octets * (per_timeslot * t)) m.store) here.1

    -- behind those queued the places are empty
    pub records-behind : drop n (take per_timeslot (drop (per_timeslot * t) m.records)) ≡ drop n (replicate per_timeslot empty_record)
    records-behind =
        sound-behind per_timeslot n (drop (per_timeslot * t) m.records) (drop (cell_octets * (per_timeslot * t)) m.store) here.0
        (rw length-drop (omega (arith, low, places))) here.1

    left-few : length (built_now m).left ≤ n
    unfolding built_now built_of
    left-few =
        built-few n (drop (per_timeslot * t) m.records) (drop (cell_octets * (per_timeslot * t)) m.store) here.0
        (rw length-drop (omega (arith, low, cells))) here.1 block_width

    -- and so they are after a build: it is enough to store as many records as were queued
    rest-stored : (rs : List Record) → rs ≡ records_of per_timeslot (built_now m).left
        → paste m.records (per_timeslot * t) rs n ≡ paste m.records (per_timeslot * t) rs per_timeslot
    rest-stored rs e =
        paste-rest m.records (per_timeslot * t) rs n per_timeslot here.0 (omega (arith, low, places))
        (omega (arith, ap length e, length-records per_timeslot (built_now m).left))
        (ap (drop n) e ∙ list-behind per_timeslot n (built_now m).left left-few ∙ sym records-behind)

  -- and every other question answered yes
  module _ (block : List ℕ) (size : length block ≡ block_octets) where
    all_yes : cond (builds_now m.station) (block_built m t (built_now m)) (not_built Numbered.no_block m block) ≡ build_call m block
    unfolding build_call
    all_yes =
        every-yes _ (λ n. not_built (Numbered.refused n) m block) (memory_questions m (build_lent block))
        ((((tt, station), right-lengths m places cells), eq-eqb _ _ size), queue)

    pub none-called : builds_now m.station ≡ false → not_built Numbered.no_block m block ≡ build_call m block
    none-called idle = rw idle at all_yes

    -- the plan stored is the call's outcome
    pub plan-called : builds_now m.station ≡ true → length m.station.queued ≡ timeslots
        → (p : Progress) (next : Station) (z : List Record) (store' block' : List ℕ)
        → BuiltIn (built_now m) block_octets m.store (per_timeslot * t) p store' block' → next ≡ with_queued m.station (set m.station.queued t p.left)
        → z ≡ paste m.records (per_timeslot * t) p.records n
        → ◌≡◌ {A = BuildOutcome} (record { reply = Numbered.block block' (built_now m).tags; memory = memory next z store'; block = block' })
        (build_call m block)
    plan-called builds four p next z store' block' h en ez =
        rw (en, ez ∙ rest-stored four p.records h.records, h.count, h.records, h.cells, h.block) (rw builds at all_yes)
