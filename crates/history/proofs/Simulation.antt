-- The station's uplink (time, counters, table) and that of the reference model stay alike through an advance and a grant, and answer alike.
-- Assumes nothing.
use mathlib.Core.Path.{◌≡◌, refl, ap, ◌∙◌}
use mathlib.Core.List.{List}
use Prim.Native.Nat.{ℕ, ◌+◌, ◌<◌}
use native.Mathlib.Omega.{arith}
use Rattle.tdma_time.specs.declared.TdmaTime.{TdmaTime}
use Rattle.tdma_time.specs.Time.{Valid, cycle, slot_of, clock, next_time}
use Rattle.tdma_time.proofs.TimeLaws.{slot_of-time_of, time_of-valid, slot_of-below}
use Rattle.uplink.specs.Request.{CapAnswer}
use Rattle.uplink.specs.declared.Uplink.{Uplink}
use Rattle.uplink.specs.Search.{Run}
use Rattle.uplink.specs.UplinkEntry.{Table, table_view}
use Rattle.uplink.specs.Uplink.{new_uplink as new, advanced_uplink as advanced}
use Rattle.uplink.specs.Request.{Request, Verdict, no_run, too_late, grant, verdict, capacity, reserved_by, marker_of, markers_after, reply_to, table_after}
use Rattle.uplink.specs.Request.{counters_after, given, answer}
use Rattle.uplink.proofs.RequestLaws.{wanted-pos}
use Rattle.uplink.proofs.VerdictLaws.{AgreeFrom, Granted, verdict-grant, granted-near, granted-length, verdict-agree, capacity-agree}
use Rattle.history.specs.UplinkModel.{UplinkModel, new_uplink_model, take_halves, model_view, model_verdict, advanced_uplink_model, taken_for}
use Rattle.history.proofs.Match.{Matched, same-halves, halves-some, reserve-matched, advance-matched, new-matched}

-- time, counters and table are those of the model's uplink
pub record Alike (s : Uplink) (u : UplinkModel) : Type 0 where
  pub valid : Valid s.time
  pub now : slot_of s.time ≡ u.now
  pub markers : s.next_usage_marker ≡ u.markers
  pub matched : Matched u.now s.rows u.taken

module _ (s : Uplink) (u : UplinkModel) (a : Alike s u) where
  abbrev x : TdmaTime
  x = s.time

  abbrev ms : List ℕ
  ms = s.next_usage_marker

  abbrev tb : Table
  tb = s.rows

  below-cycle : u.now < cycle
  below-cycle = rw (← a.now) (slot_of-below x a.valid)

  views : AgreeFrom u.now (table_view tb) (model_view u.taken)
  views c l g h = same-halves u.now tb u.taken a.matched c l (omega arith) h

  same-verdict : (r : Request) → verdict (table_view tb) (slot_of x) r ≡ model_verdict u r
  unfolding model_verdict
  same-verdict r =
      ap (λ (n : ℕ). verdict (table_view tb) n r) a.now ∙ verdict-agree (table_view tb) (model_view u.taken) u.now r views

  same-capacity : (r : Request) (g : Run) → model_verdict u r ≡ grant g
      → capacity (table_view tb) r.code g.slots ≡ capacity (model_view u.taken) r.code g.slots
  unfolding model_verdict
  same-capacity r g e =
      let k : Granted (model_view u.taken) u.now r g = verdict-grant (model_view u.taken) u.now r g e in
      capacity-agree (table_view tb) (model_view u.taken) u.now r.code g.slots views (granted-near (model_view u.taken) u.now r g k)
      (omega (arith, granted-length (model_view u.taken) u.now r g k, wanted-pos r.code))

  same-reply : (r : Request) (w : Verdict) → model_verdict u r ≡ w → reply_to (table_view tb) ms r w ≡ reply_to (model_view u.taken) u.markers r w
  unfolding reply_to
  same-reply r no_run e = refl
  same-reply r too_late e = refl
  same-reply r (grant g) e = rw (same-capacity r g e, a.markers)

  -- the table after a grant, and what the model has taken then
  after-matched : (r : Request) (g : Run) → model_verdict u r ≡ grant g → Matched u.now (table_after tb ms r (grant g)) (taken_for r g u).taken
  unfolding table_after taken_for reserved_by model_verdict take_halves
  after-matched r g e =
      rw (same-capacity r g e, ← a.markers)
      (reserve-matched u.now _ (halves-some _) r.number (marker_of ms r) g.slots
      (granted-near (model_view u.taken) u.now r g (verdict-grant (model_view u.taken) u.now r g e)) _ _ a.matched)

  answer-is : (r : Request) (w : Verdict) → model_verdict u r ≡ w → answer s r ≡ given s r w
  unfolding answer
  answer-is r w e = ap (given s r) (same-verdict r ∙ e)

  pub grant-alike : (r : Request) (g : Run) → model_verdict u r ≡ grant g
      → Alike (answer s r).uplink (taken_for r g u)
  unfolding given taken_for counters_after
  grant-alike r g e =
      rw (answer-is r (grant g) e)
      (record {
        valid = a.valid;
        now = a.now;
        markers = ap (λ (l : List ℕ). markers_after l r) a.markers;
        matched = after-matched r g e;
      })

  pub answer-reply : (r : Request) (w : Verdict) → model_verdict u r ≡ w → (answer s r).reply ≡ reply_to (model_view u.taken) u.markers r w
  unfolding given
  answer-reply r w e = ap (λ (y : CapAnswer). y.reply) (answer-is r w e) ∙ same-reply r w e

  pub advance-alike : Alike (advanced s) (advanced_uplink_model u)
  unfolding advanced_uplink_model
  advance-alike =
      let next : slot_of (next_time x) ≡ clock (u.now + 1) = slot_of-time_of (slot_of x + 1) ∙ ap (λ (n : ℕ). clock (n + 1)) a.now in
      record {
        valid = time_of-valid (slot_of x + 1);
        now = next;
        markers = a.markers;
        matched = rw next (advance-matched u.now tb u.taken below-cycle a.matched);
      }

pub new-alike : (x : TdmaTime) → Valid x → Alike (new x) (new_uplink_model x)
unfolding new_uplink_model
new-alike x v = record { valid = v; now = refl; markers = refl; matched = new-matched (slot_of x) }
