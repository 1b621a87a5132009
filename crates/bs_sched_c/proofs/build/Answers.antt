-- Exit by exit. Assumes nothing.
use Rattle.std.proofs.lemmas.Result.{err_from_is_err_and}
use Rattle.std.proofs.Common.{eqb-true}
use native.Mathlib.Omega.{arith}
use mathlib.Core.Path.{◌≡◌, sym, ap, subst, ◌∙◌}
use mathlib.Core.Bool.{true, ◌&&◌}
use mathlib.Core.List.{List, [], ◌++◌}
use Prim.Native.Nat.{ℕ, ◌-◌, ◌*◌, ◌≤◌}
use lib.Dec.{ltb}
use lib.ListN.{length, get_or, set, take, drop, replicate}
use lib.Seq.{sets}
use Rattle.sizes.specs.Sizes.{per_timeslot, cell_octets, block_octets, block_width}
use Rattle.tdma_time.specs.declared.TdmaTime.{TdmaTime}
use Rattle.tdma_time.specs.Time.{Valid, usable_time}
use Rattle.dl_record.specs.declared.Record.{Record}
use Rattle.dl_record.specs.Record.{empty_record}
use Rattle.dl_queue.specs.Questions.{sound_places}
use Rattle.dl_queue.proofs.QueueLaws.{filled-back}
use Rattle.dl_build.specs.Build.{built_from, CanBuild, BuiltIn}
use Rattle.questions.proofs.AskLaws.{said-no, said-yes}
use Rattle.sched_core.specs.declared.Station.{Station}
use Rattle.sched_core.specs.Station.{with_queued}
use Rattle.sched_core.specs.Questions.{asks_block, memory}
use Rattle.sched_core.specs.Calls.{current, builds_now, built_now}
use Rattle.sched_core.proofs.StationLaws.{sound-time, current-is, count-few}
use Rattle.sched_enqueue.proofs.PlanLaws.{Told}
use Rattle.sched_build.proofs.BuildCallLaws.{builds-now, can-build, plan-now, records-sound, records-behind}
use Rattle.sched_words.specs.Words.{station_word_count, record_word_count, queue_word_count, station_words, station_from, queue_words, records_read, records_from}
use Rattle.bs_sched_c.specs.Exports.{not_built_struct, build_words_left, built_left}
use Rattle.bs_sched_c.proofs.AskedLaws.{all_words, asked-told, four-counts, as_read}
use Rattle.bs_sched_c.proofs.LentLaws.{lent-other, lent-whole, lends-some, some-lent, mut_now, words-lent}
use Rattle.bs_sched_c.proofs.LeftLaws.{no-station}
use Rattle.bs_sched_c.proofs.BuildLeftLaws.{build-no, build-none, build-built}
use Rattle.bs_sched_c.proofs.build.Goals as goal
use Rattle.bs_sched_c.proofs.build.Goals.{In_ok-station, In_ok-sound, After-queued-queued, After-row-row, After-builds_at, Else-not-builds_at}
use Rattle.bs_sched_c.proofs.build.Goals.{After-unwrap-queue, After-records_read-records, After-build_timeslot-plan}

-- the station's words, as they are lent
lent : (c : In_ok-station) → (length c.in_ok-station.station.now ≡ station_word_count) × (c.args.station.now ≡ c.in_ok-station.station.now)
lent c = lent-whole mut_now c.args.station.now station_word_count c.as_mut_array.result c.ok_or.ensures.value c.in_ok-station.was c.as_mut_array.ensures.cases

pub returns-in_err-station : goal.returns-in_err-station
unfolding built_left
returns-in_err-station c =
    let a = c.args in
    let p = err_from_is_err_and c.from_residual.result c.from_residual.ensures.1 in
    let n = lent-other mut_now a.station.now station_word_count c.as_mut_array.result c.ok_or.ensures.value c.in_err-station.was
    c.as_mut_array.ensures.cases in
    rw (p.1, p.2, n.1)
    (no-station a.station.now _ (λ (n : ℕ). build_words_left (not_built_struct n) a.station.now a.queue.now a.store.now a.block.now) [] n.0)

pub returns-in_err-sound : goal.returns-in_err-sound
unfolding built_left
returns-in_err-sound c =
    let a = c.args in
    let w = lent (goal.at.returns-in_err-sound c).In_ok-station in
    let p = err_from_is_err_and c.from_residual-in_err-sound.result c.from_residual-in_err-sound.ensures.1 in
    rw (p.1, p.2, w.1)
    (build-no c.in_ok-station.station.now a.queue.now a.store.now a.block.now w.0 c.in_err-sound.was c.ask_memory.ensures.number)

-- the station that the words stand for
abbrev station : In_ok-sound → Station
station c = station_from c.in_ok-station.station.now

-- what the questions have told
passed : (c : In_ok-sound)
    → let a = c.args in
    Told (station c) (records_from a.queue.now) a.store.now (asks_block a.block.now).holds
passed c = let a = c.args in asked-told (station c) a.queue.now a.store.now _ c.ask_memory.ensures.number c.in_ok-sound.was

width : (c : In_ok-sound) → length c.args.block.now ≡ block_octets
width c = eqb-true _ _ (passed c).lengths

valid : (c : In_ok-sound) → Valid (station c).uplink.time
valid c = sound-time (station c) (passed c).station

-- the time and the counts are the station's
words : (c : In_ok-sound) → c.in_ok-sound.sound.words.now ≡ c.in_ok-station.station.now
words c = words-lent c.ask_memory.ensures.words c.in_ok-sound.was

abbrev of : After-queued-queued → Station
of q = station (goal.at.After-queued-queued q).In_ok-sound

time-is : (q : After-queued-queued) → q.time-time.result ≡ (of q).uplink.time
time-is q = q.time-time.ensures ∙ ap (λ (l : List ℕ). (station_from l).uplink.time) (words (goal.at.After-queued-queued q).In_ok-sound)

counts-are : (q : After-queued-queued) → q.queued-queued.result ≡ (of q).queued
counts-are q = q.queued-queued.ensures ∙ ap (λ (l : List ℕ). (station_from l).queued) (words (goal.at.After-queued-queued q).In_ok-sound)

pub row-row-requires : goal.row-row-requires
row-row-requires c =
    let q = (goal.at.row-row-requires c).After-queued-queued in
    subst Valid (sym (time-is q)) (valid (goal.at.row-row-requires c).In_ok-sound)

-- the row of the current timeslot
abbrev at : (k : After-row-row) → Station
at k = of (goal.at.After-row-row k).After-queued-queued

row-is : (k : After-row-row) → k.row-row.result ≡ (at k).uplink.time.t - 1
row-is k = k.row-row.ensures.0 ∙ ap (λ (x : TdmaTime). x.t - 1) (time-is (goal.at.After-row-row k).After-queued-queued)

here : (k : After-row-row) → k.row-row.result ≡ current (at k)
here k = row-is k ∙ current-is (at k) (valid (goal.at.After-row-row k).In_ok-sound)

told : (b : After-builds_at) → b.builds_at.result ≡ builds_now (at (goal.at.After-builds_at b).After-row-row)
told b =
    let k = (goal.at.After-builds_at b).After-row-row in
    let q = (goal.at.After-builds_at b).After-queued-queued in
    b.builds_at.ensures ∙ (λ i. usable_time (time-is q i) && ltb 0 (get_or (counts-are q i) (row-is k i) 0))
    ∙ builds-now (at k) (valid (goal.at.After-builds_at b).In_ok-sound)

pub returns-then-not-builds_at : goal.returns-then-not-builds_at
unfolding built_left
returns-then-not-builds_at c =
    let k = (goal.at.returns-then-not-builds_at c).In_ok-sound in
    let w = lent (goal.at.returns-then-not-builds_at c).In_ok-station in
    let a = c.args in
    rw w.1
    (build-none c.in_ok-station.station.now a.queue.now a.store.now a.block.now w.0 (passed k).station (width k) (passed k).queue
    (said-no (told (goal.at.returns-then-not-builds_at c).After-builds_at) c.if-not-builds_at.true))

pub unwrap-queue-requires : goal.unwrap-queue-requires
unwrap-queue-requires c =
    let k = passed (goal.at.unwrap-queue-requires c).In_ok-sound in
    lends-some mut_now c.args.queue.now queue_word_count c.as_mut_array-2.result (all_words c.args.queue.now k.queue.places) c.as_mut_array-2.ensures.cases

queue-is : (c : After-unwrap-queue) → c.unwrap-queue.result.now ≡ c.args.queue.now
queue-is c = some-lent mut_now c.args.queue.now queue_word_count c.as_mut_array-2.result c.unwrap-queue.ensures c.as_mut_array-2.ensures.cases

few : (k : After-row-row) → get_or (at k).queued k.row-row.result 0 ≤ per_timeslot
few k =
    let l = (goal.at.After-row-row k).In_ok-sound in
    count-few (at k) (passed l).station k.row-row.result (omega (arith, k.row-row.ensures.1, four-counts k.in_ok-station.station.now))

-- how many records are queued for the timeslot
count-is : (k : After-row-row) → get_or k.queued-queued.result k.row-row.result 0 ≡ get_or (at k).queued (current (at k)) 0
count-is k = λ i. get_or (counts-are (goal.at.After-row-row k).After-queued-queued i) (here k i) 0

few-read : (k : After-row-row) → get_or k.queued-queued.result k.row-row.result 0 ≤ per_timeslot
few-read k = subst (λ (ns : List ℕ). get_or ns k.row-row.result 0 ≤ per_timeslot) (sym (counts-are (goal.at.After-row-row k).After-queued-queued)) (few k)

pub records_read-records-requires : goal.records_read-records-requires
records_read-records-requires c =
    let k = (goal.at.records_read-records-requires c).After-row-row in
    (omega (arith, k.row-row.ensures.1), few-read k)

own : (r : After-records_read-records)
    → take per_timeslot (drop (per_timeslot * current (at (goal.at.After-records_read-records r).After-row-row)) (records_from r.args.queue.now))
    ≡ r.records_read-records.result
own r =
    let k = (goal.at.After-records_read-records r).After-row-row in
    let l = passed (goal.at.After-records_read-records r).In_ok-sound in
    let s = at k in
    let ws = r.in_ok-station.station.now in
    let a = r.args in
    let n : ℕ = get_or s.queued (current s) 0 in
    let queue = ap records_read (queue-is (goal.at.After-records_read-records r).After-unwrap-queue) ∙ as_read ws a.queue.now a.store.now l.queue in
    sym
    (r.records_read-records.ensures
    ∙ (λ i. take (count-is k i) (take per_timeslot (drop (per_timeslot * here k i) (queue i))) ++ drop (count-is k i) (replicate per_timeslot empty_record))
    ∙ filled-back n (take per_timeslot (drop (per_timeslot * current s) (records_from a.queue.now))) (replicate per_timeslot empty_record)
    (records-behind (memory s (records_from a.queue.now) a.store.now) l.station l.queue.places l.queue.cells l.queue.sound (four-counts ws)))

sound : (r : After-records_read-records)
    → let s = at (goal.at.After-records_read-records r).After-row-row in
    sound_places per_timeslot (get_or s.queued (current s) 0) r.records_read-records.result (drop (cell_octets * (per_timeslot * current s)) r.args.store.now) ≡ true
sound r =
    let l = passed (goal.at.After-records_read-records r).In_ok-sound in
    let s = at (goal.at.After-records_read-records r).After-row-row in
    let a = r.args in
    subst (λ (rs : List Record). sound_places per_timeslot (get_or s.queued (current s) 0) rs (drop (cell_octets * (per_timeslot * current s)) a.store.now) ≡ true)
    (own r)
    (records-sound (memory s (records_from a.queue.now) a.store.now) l.station l.queue.places l.queue.cells l.queue.sound (four-counts r.in_ok-station.station.now))

pub build_timeslot-plan-requires : goal.build_timeslot-plan-requires
build_timeslot-plan-requires c =
    let k = (goal.at.build_timeslot-plan-requires c).After-row-row in
    let l = (goal.at.build_timeslot-plan-requires c).In_ok-sound in
    let a = c.args in
    let row = c.row-row.result in
    subst (λ (ns : List ℕ). CanBuild (length a.block.now) block_width a.store.now (per_timeslot * row) (get_or ns row 0) c.records_read-records.result)
    (sym (counts-are (goal.at.build_timeslot-plan-requires c).After-queued-queued))
    (can-build (at k) c.records_read-records.result a.store.now row (here k) k.row-row.ensures.1 (passed l).queue.cells
    (sound (goal.at.build_timeslot-plan-requires c).After-records_read-records) (few k) _ (width l))

-- the plan is that of the queue
planned : (d : After-build_timeslot-plan)
    → let s = at (goal.at.After-build_timeslot-plan d).After-row-row in
    let a = d.args in
    BuiltIn (built_now (memory s (records_from a.queue.now) a.store.now)) block_octets a.store.now (per_timeslot * current s)
    d.build_timeslot-plan.result d.build_timeslot-plan.new.store d.build_timeslot-plan.new.block
planned d =
    let k = (goal.at.After-build_timeslot-plan d).After-row-row in
    let l = (goal.at.After-build_timeslot-plan d).In_ok-sound in
    let r = (goal.at.After-build_timeslot-plan d).After-records_read-records in
    let a = d.args in
    let row = d.row-row.result in
    plan-now (at k) d.records_read-records.result a.store.now row (here k) k.row-row.ensures.1 (passed l).queue.cells (sound r) (few k) _ _ _ _ (width l)
    (subst (λ (ns : List ℕ). BuiltIn (built_from block_width (get_or ns row 0) d.records_read-records.result (drop (cell_octets * (per_timeslot * row)) a.store.now))
    (length a.block.now) a.store.now (per_timeslot * row) d.build_timeslot-plan.result d.build_timeslot-plan.new.store d.build_timeslot-plan.new.block)
    (counts-are (goal.at.After-build_timeslot-plan d).After-queued-queued) d.build_timeslot-plan.ensures)
    (records_from a.queue.now) (own r)

pub shared_ref_as_front-put_records : goal.shared_ref_as_front-put_records
shared_ref_as_front-put_records c = few-read (goal.at.shared_ref_as_front-put_records c).After-row-row

builds : (c : Else-not-builds_at) → builds_now (at (goal.at.Else-not-builds_at c).After-row-row) ≡ true
builds c = said-yes (told (goal.at.Else-not-builds_at c).After-builds_at) c.if-not-builds_at.false

pub returns : goal.returns
unfolding built_left
returns c =
    let k = (goal.at.returns c).After-row-row in
    let l = (goal.at.returns c).In_ok-sound in
    let w = lent (goal.at.returns c).In_ok-station in
    let s = at k in
    let p = c.build_timeslot-plan.result in
    let a = c.args in
    let counts = counts-are (goal.at.returns c).After-queued-queued in
    let queue = queue-is (goal.at.returns c).After-unwrap-queue in
    let stored : set c.queued-queued.result c.row-row.result p.left ≡ set s.queued (current s) p.left = λ i. set (counts i) (here k i) p.left in
    rw w.1
    (build-built c.in_ok-station.station.now a.queue.now a.store.now a.block.now w.0 (passed l).station (width l) (passed l).queue
    (builds (goal.at.returns c).Else-not-builds_at) p _ _ _ _ (planned (goal.at.returns c).After-build_timeslot-plan)
    (c.put_queued.ensures ∙ ap (λ (ns : List ℕ). station_words (with_queued s ns)) stored)
    (c.put_records.ensures ∙ (λ i. sets (queue i) (record_word_count * (per_timeslot * here k i)) (queue_words (take (count-is k i) p.records)))))
