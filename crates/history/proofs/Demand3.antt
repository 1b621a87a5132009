-- Demand 3 holds of every history (`demand3`). Assumes nothing.
use Rattle.std.proofs.Common.{Some}
use mathlib.Core.Path.{◌≡◌, sym, ap, ◌∙◌}
use mathlib.Core.Logic.{◌↔◌}
use mathlib.Core.List.{List, ◌∷◌, ◌++◌}
use Prim.Native.Nat.{ℕ, ◌+◌, ◌≤◌, ◌<◌}
use native.Mathlib.Omega.{arith}
use Rattle.tdma_time.specs.declared.TdmaTime.{TdmaTime}
use Rattle.tdma_time.specs.Time.{Valid, slot_of, clock}
use Rattle.tdma_time.proofs.TimeLaws.{time_of-valid, slot_of-below}
use Rattle.uplink.specs.HalfSlot.{Half}
use Rattle.uplink.specs.declared.Entry.{Entry}
use Rattle.uplink.specs.UplinkEntry.{empty_entry, entry_at, holder, table_view}
use Rattle.sched_core.specs.Replies.{block}
use Rattle.history.specs.Call.{Query, Call, advance, build}
use Rattle.history.specs.UplinkModel.{model_entry, taken_by}
use Rattle.history.specs.Model.{model_step, model_at}
use Rattle.history.specs.Memory.{memory_step, memory_at}
use Rattle.history.specs.Demand3.{slots_advanced, slots_agreed, entry_reading, AnswersAt, Standing, Demand3}
use Rattle.history.proofs.EntryLaws.{holder-entry}
use Rattle.history.proofs.Disjoint.{disjoint}
use Rattle.history.proofs.Standing.{taken-standing, standing-taken}
use Rattle.history.proofs.WholeSimulation.{histories, same-reply}
use Rattle.history.proofs.LeftSlots.{left-stands}
use Rattle.history.proofs.ReadLaws.{own-entry, owner-shown, usage-shown, reading-shown}
use Rattle.history.proofs.BlockGrants.{block-kept, block_listed, block-stands, block-grants}
use Rattle.history.proofs.OpenHistory.{one-started}

module _ (x : TdmaTime) (v : Valid x) where
  module _ (cs : List Call) (k : ℕ) (l : k < slots_agreed) where
    abbrev slot : ℕ
    slot = slot_of (memory_at x cs).station.uplink.time + k

    -- table and model agree on the entries of the 68 slots from now on
    same-entry : entry_at (memory_at x cs).station.uplink.rows slot ≡ model_entry (model_at x cs).uplink.taken slot
    same-entry =
        let a = (histories x v cs).same.uplink in
        rw a.now (a.matched.agree ((model_at x cs).uplink.now + k) (omega arith) (omega arith))

    table-standing : (h : Half) (w : ℕ)
        → (table_view (memory_at x cs).station.uplink.rows slot h ≡ Some w) ↔ Standing x cs (record { time = clock slot; half = h }) w
    table-standing h w =
        let same : table_view (memory_at x cs).station.uplink.rows slot h ≡ taken_by (model_at x cs).uplink.taken (clock slot) h =
        ap (λ (e : Entry). holder e h) same-entry ∙ holder-entry (model_at x cs).uplink.taken slot h in
        (λ e. taken-standing x v cs _ h w (sym same ∙ e), λ s. same ∙ standing-taken x v cs _ w s)

  -- calls that only read, where they stand
  module _ (before : List Call) (q : Query) where
    abbrev now : ℕ
    now = (model_at x before).uplink.now

    answers_at : (k : ℕ) → k ≤ slots_agreed → AnswersAt q (memory_at x before) (now + k) (model_entry (model_at x before).uplink.taken (now + k))
    answers_at k l good there =
        let h = histories x v before in
        reading-shown (memory_at x before) h.sound.station _ _ (h.same.uplink.matched.agree (now + k) (omega arith) (omega arith)) q good there

    answers-emptied : AnswersAt q (memory_at x before) (now + slots_agreed) empty_entry
    answers-emptied good there =
        answers_at slots_agreed (omega arith) good there
        ∙ ap (entry_reading q) ((histories x v before).same.uplink.matched.ahead (now + slots_agreed) (omega arith) (omega arith))

    answers-left : (between : List Call) → slots_advanced between ≤ 2
        → AnswersAt q (memory_at x (before ++ advance ∷ between)) now (model_entry (model_at x before).uplink.taken now)
    answers-left between few good there =
        reading-shown (memory_at x (before ++ advance ∷ between)) (histories x v (before ++ advance ∷ between)).sound.station _ _
        (left-stands x v before between few) q good there

-- for every valid start time and every list of calls
pub demand3 : (x : TdmaTime) → Valid x → (cs : List Call) → Demand3 x cs
demand3 x v cs =
    record {
      replies = λ before since c cut. same-reply x v before c;
      listed = λ before since b cut octets tags e. block_listed x v before b octets tags (built before b e);
      stands = λ before since b cut octets tags e. block-stands x v before b octets tags (built before b e);
      derived = λ before since b cut octets tags e. block-grants x v before b octets tags (built before b e);
      kept = λ before since b cut octets tags e. block-kept x v before b octets tags (built before b e);
      disjoint = λ before between since a a' cut l y p q. disjoint x v before between a a' l y p q;
      table = λ k l. table-standing x v cs k l;
      owners = λ k l half.
          owner-shown (memory_at x cs).station (histories x v cs).sound.station _ _ (same-entry x v cs k l) _ (time_of-valid _) (own-entry _) half;
      usages = λ k l. usage-shown (memory_at x cs).station (histories x v cs).sound.station _ _ (same-entry x v cs k l) _ (time_of-valid _) (own-entry _);
      reads = λ before since q cut k l e. answers_at x v before q k (omega arith) (rw e (time_of-valid _)) (rw e (own-entry _));
      elsewhere = λ before since q cut k l. answers_at x v before q k (omega arith);
      emptied = λ before since q cut. answers-emptied x v before q;
      left = λ before between since q cut few. answers-left x v before q between few;
      time = (histories x v cs).same.uplink.valid;
      now = (histories x v cs).same.uplink.now;
      in-range = rw (← (histories x v cs).same.uplink.now) (slot_of-below _ (histories x v cs).same.uplink.valid);
      sound = (histories x v cs).sound;
      one-open = one-started x v cs;
    }
  where
    built : (before : List Call) (b : List ℕ) {octets tags : List ℕ} → (memory_step (build b) (memory_at x before)).reply ≡ block octets tags
        → (model_step (build b) (model_at x before)).reply ≡ block octets tags
    built before b e = sym (same-reply x v before (build b)) ∙ e
