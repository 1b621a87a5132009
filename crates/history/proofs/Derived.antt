-- A granted request's reserved list is what a mobile station derives from the grant, read in a block, exactly when the two first usable slots show
-- one time (`derived`). Assumes nothing.
use Rattle.std.proofs.Common.{Option}
use mathlib.Core.Path.{◌≡◌, refl, sym, ap₂, ◌∙◌}
use mathlib.Core.Logic.{◌↔◌}
use mathlib.Core.List.{[]}
use Prim.Native.Nat.{ℕ, ◌≤◌}
use native.Mathlib.Omega.{arith}
use Rattle.sizes.specs.Sizes.{timeslots}
use Rattle.questions.specs.Questions.{ask}
use Rattle.questions.proofs.AskLaws.{AllYes, yes-before, ask-elim}
use Rattle.tdma_time.specs.Time.{clock, first_usable}
use Rattle.uplink.specs.Search.{Run}
use Rattle.uplink.specs.Request.{Verdict, no_run, too_late, grant, capacity, reserved_by, ms_half_slots}
use Rattle.uplink.proofs.MsLaws.{ms-derives-exactly}
use Rattle.sched_core.specs.Replies.{granted}
use Rattle.history.specs.Call.{CapacityRequest, request_of, request, Stepped, unless_refused}
use Rattle.history.specs.UplinkModel.{model_view, model_verdict}
use Rattle.history.specs.Model.{Model, request_asked, reserved, requested, model_step}
use Rattle.sched_core.proofs.QuestionLaws.{timeslot-range}

-- ---- a granted request

-- passed the questions, and had a run
pub record GrantOf (a : CapacityRequest) (m : Model) (cap delay : ℕ) : Type 0 where
  pub in-range : (1 ≤ a.timeslot) × (a.timeslot ≤ timeslots)
  pub run : Run
  pub verdict : model_verdict m.uplink (request_of a) ≡ grant run
  pub capacity-is : capacity (model_view m.uplink.taken) a.code run.slots ≡ cap
  pub delay-is : run.delay ≡ delay
  pub reserved-is : reserved a m ≡ reserved_by (model_view m.uplink.taken) a.code (model_verdict m.uplink (request_of a))

module _ (a : CapacityRequest) (m : Model) (cap delay : ℕ) (marker : Option ℕ) where
  reserved-passed : AllYes (request_asked a m) → reserved a m ≡ reserved_by (model_view m.uplink.taken) a.code (model_verdict m.uplink (request_of a))
  unfolding reserved ask
  reserved-passed q =
      yes-before (reserved_by (model_view m.uplink.taken) a.code (model_verdict m.uplink (request_of a))) (λ r. []) (request_asked a m) [] q

  pub grant-of : (model_step (request a) m).reply ≡ granted cap delay marker → GrantOf a m cap delay
  unfolding model_step unless_refused requested
  grant-of =
      ask-elim (λ (y : Stepped Model). y.reply ≡ granted cap delay marker → GrantOf a m cap delay) (request_asked a m) _ _
      (λ r h. absurd (let z : ◌≡◌ {A = ℕ} 0 1 = cc in omega arith))
      (λ q h. by-verdict q (model_verdict m.uplink (request_of a)) refl h)
    where
      by-verdict : AllYes (request_asked a m) → (w : Verdict) → model_verdict m.uplink (request_of a) ≡ w → (requested a w m).reply ≡ granted cap delay marker
          → GrantOf a m cap delay
      by-verdict q no_run e h = absurd (let z : ◌≡◌ {A = ℕ} 0 1 = cc in omega arith)
      by-verdict q too_late e h = absurd (let z : ◌≡◌ {A = ℕ} 0 1 = cc in omega arith)
      by-verdict q (grant g) e h =
          record {
            in-range = timeslot-range a.timeslot q.0;
            run = g;
            verdict = e;
            capacity-is = cc;
            delay-is = cc;
            reserved-is = reserved-passed q;
          }

  pub derived : (model_step (request a) m).reply ≡ granted cap delay marker → (b : ℕ)
      → (reserved a m ≡ ms_half_slots a.timeslot cap delay b)
      ↔ (clock (first_usable a.timeslot m.uplink.now) ≡ clock (first_usable a.timeslot b))
  unfolding model_verdict
  derived h b =
      let o : GrantOf a m cap delay = grant-of h in
      let iff =
      ms-derives-exactly (model_view m.uplink.taken) m.uplink.now (request_of a) o.in-range.0 o.in-range.1 o.run o.verdict b in
      let grants = ap₂ (λ (c d : ℕ). ms_half_slots a.timeslot c d b) o.capacity-is o.delay-is in
      (λ p. iff.0 (sym o.reserved-is ∙ p ∙ sym grants), λ p. o.reserved-is ∙ iff.1 p ∙ grants)
