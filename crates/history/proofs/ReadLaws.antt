-- The calls that only read: refused for their time only, and else they answer what the entry of that time holds. Assumes nothing.
use Rattle.std.proofs.Common.{Option, Some, None}
use mathlib.Core.Path.{◌≡◌, refl, ap, ◌∙◌}
use mathlib.Core.Bool.{Bool, true, false, ◌&&◌, cond}
use Prim.Native.Nat.{ℕ, ◌/◌, ◌%◌}
use native.Mathlib.Omega.{arith}
use Rattle.tdma_time.specs.declared.TdmaTime.{TdmaTime}
use Rattle.tdma_time.specs.Time.{Valid, valid, time_of, slot_of, clock}
use Rattle.tdma_time.proofs.TimeLaws.{slot_of-time_of, valid-true, cell_parts, clock-cell}
use Rattle.uplink.specs.declared.Entry.{Entry}
use Rattle.uplink.specs.declared.PhyBlockNum.{PhyBlockNum}
use Rattle.uplink.specs.HalfSlot.{vacant}
use Rattle.uplink.specs.UplinkEntry.{SameEntry, entry_at, owner_of}
use Rattle.sched_core.specs.declared.Station.{Station}
use Rattle.questions.specs.Questions.{ask}
use Rattle.sched_core.specs.Questions.{Memory, sound_station, time_questions}
use Rattle.sched_core.specs.Replies.{done, refused, owned, used, used_unless_marked, used_as}
use Rattle.sched_core.specs.Calls.{owner_call, usage_call}
use Rattle.history.specs.Call.{Query, owner, usage, time_read, read, stepped, unless_refused}
use Rattle.history.specs.Memory.{number_only, read_answer, memory_step}
use Rattle.history.specs.Demand3.{entry_reading}
use Rattle.history.proofs.Steps.{Agree}

-- a usage is no refusal
used-done : (e : Entry) → number_only (used_as e) ≡ done
used-done e = go (vacant e.ul1 && vacant e.ul2) e.usage_marker
  where
    go : (a : Bool) (m : Option ℕ) → number_only (cond a (used 0 None) (used_unless_marked m (cond (vacant e.ul2) 1 2))) ≡ done
    go true m = refl
    go false None = refl
    go false (Some m) = refl

-- ---- refused for their time only

pub read-agrees : {S : Type 0} (R : Memory → S → Type 0) (q : Query) (m : Memory) (s : S) → R m s → sound_station m.station ≡ true
    → Agree R (memory_step (read q) m) (unless_refused (time_questions (time_read q)) s (stepped s done))
unfolding memory_step owner_call usage_call ask unless_refused
read-agrees R (owner x half) m s h e = rw e (go _ (valid x))
  where
    go : (o : Option ℕ) (b : Bool) → Agree R (stepped m (number_only (cond b (owned o) (refused 1)))) (cond b (stepped s done) (stepped s (refused 1)))
    go o true = record { after = h; reply = refl }
    go o false = record { after = h; reply = refl }
read-agrees R (usage x) m s h e = rw e (go (valid x))
  where
    go : (b : Bool)
        → Agree R
        (stepped m (number_only (cond b (used_as (entry_at m.station.uplink.rows (slot_of x))) (refused 1))))
        (cond b (stepped s done) (stepped s (refused 1)))
    go true = record { after = h; reply = used-done (entry_at m.station.uplink.rows (slot_of x)) }
    go false = record { after = h; reply = refl }

-- ---- what they answer

-- the time of a slot has its entry
pub own-entry : (c : ℕ) → SameEntry (slot_of (time_of c)) c
own-entry c = cell_parts (slot_of (time_of c)) c (clock-cell (slot_of (time_of c)) c (ap clock (slot_of-time_of c) ∙ omega arith))

module _ (s : Station) (sound : sound_station s ≡ true) (c : ℕ) (e : Entry) (same : entry_at s.uplink.rows c ≡ e) (y : TdmaTime) (v : Valid y)
    (there : SameEntry (slot_of y) c) where
  entry_read : entry_at s.uplink.rows (slot_of y) ≡ e
  unfolding entry_at
  entry_read =
      let row : slot_of y % 4 ≡ c % 4 = omega (arith, there.0) in
      let column : slot_of y / 4 % 18 ≡ c / 4 % 18 = omega (arith, there.1) in
      rw (row, column) same

  pub owner-shown : (half : PhyBlockNum) → owner_call s y half ≡ owned (owner_of half e)
  unfolding owner_call ask
  owner-shown half = rw (sound, valid-true y v, entry_read)

  pub usage-shown : usage_call s y ≡ used_as e
  unfolding usage_call ask
  usage-shown = rw (sound, valid-true y v, entry_read)

pub reading-shown : (m : Memory) → sound_station m.station ≡ true → (c : ℕ) (e : Entry) → entry_at m.station.uplink.rows c ≡ e
    → (q : Query) → Valid (time_read q) → SameEntry (slot_of (time_read q)) c → read_answer q m ≡ entry_reading q e
reading-shown m k c e same (owner y half) v p = owner-shown m.station k c e same y v p half
reading-shown m k c e same (usage y) v p = usage-shown m.station k c e same y v p
