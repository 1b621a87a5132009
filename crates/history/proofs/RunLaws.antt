-- The reference model over a list of calls: its time, and what stays held until its slot is left (`keeps`). Assumes nothing.
use Rattle.std.proofs.Common.{Some}
use mathlib.Core.Path.{◌≡◌, refl, ap, ◌∙◌}
use mathlib.Core.Logic.{◌≢◌}
use mathlib.Core.Bool.{Bool, true, false, cond}
use mathlib.Core.List.{List, [], ◌∷◌}
use Prim.Native.Nat.{ℕ, ◌+◌, ◌-◌, ◌≤◌, ◌<◌}
use native.Mathlib.Omega.{arith}
use Rattle.tdma_time.specs.Time.{cycle, clock}
use Rattle.uplink.specs.HalfSlot.{Half}
use Rattle.sched_core.specs.Replies.{no_block}
use Rattle.history.specs.Call.{CapacityRequest, Call, advance, request, enqueue_ack, enqueue_record, build, read, Stepped, stepped, run}
use Rattle.history.specs.Queues.{can_build}
use Rattle.history.specs.UplinkModel.{UplinkModel, taken_by, model_view, advanced_uplink_model}
use Rattle.history.specs.Model.{Model, only_counted, built, model_step}
use Rattle.history.specs.Demand3.{slots_in, slots_advanced, slots_agreed}
use Rattle.history.proofs.Steps.{unless-after}
use Rattle.history.proofs.ModelLaws.{freed-other}
use Rattle.history.proofs.ReservedLaws.{request-now, request-stays}

-- ---- one call

build-leaves : (m : Model) → (built m).after.uplink ≡ m.uplink
unfolding built
build-leaves m = go (can_build m.uplink.now m.queues) _ refl
  where
    go : (b : Bool) (x : Stepped Model) → x.after.uplink ≡ m.uplink → (cond b x (stepped (only_counted m) no_block)).after.uplink ≡ m.uplink
    go true x e = e
    go false x e = refl

-- what a call makes of the model's uplink: an advance and a request change it
pub data Touch (m : Model) : Call → Type 0 where
  advances : Touch m advance
  requests : (a : CapacityRequest) → Touch m (request a)
  leaves : {c : Call} → slots_in c ≡ 0 → (model_step c m).after.uplink ≡ m.uplink → Touch m c

pub touch : (m : Model) (c : Call) → Touch m c
unfolding model_step
touch m advance = advances
touch m (request a) = requests a
touch m (enqueue_ack o) = leaves refl (unless-after (λ (n : Model). n.uplink ≡ m.uplink) _ _ _ refl (λ e. refl))
touch m (enqueue_record o) = leaves refl (unless-after (λ (n : Model). n.uplink ≡ m.uplink) _ _ _ refl (λ e. refl))
touch m (build b) = leaves refl (unless-after (λ (n : Model). n.uplink ≡ m.uplink) _ _ _ refl (λ e. build-leaves m))
touch m (read q) = leaves refl (unless-after (λ (n : Model). n.uplink ≡ m.uplink) _ _ _ refl (λ e. refl))

module _ (m : Model) (v : m.uplink.now < cycle) where
  -- the time is as many slots on as the call advances
  pub step-now : (c : Call) → (model_step c m).after.uplink.now ≡ clock (m.uplink.now + slots_in c)
  unfolding model_step advanced_uplink_model
  step-now c = go (touch m c)
    where
      go : {c : Call} → Touch m c → (model_step c m).after.uplink.now ≡ clock (m.uplink.now + slots_in c)
      go advances = refl
      go (requests a) = request-now a m ∙ omega arith
      go (leaves none e) = ap (λ (u : UplinkModel). u.now) e ∙ omega (arith, none)

  pub step-below : (c : Call) → (model_step c m).after.uplink.now < cycle
  step-below c = rw (step-now c) (omega arith)

  -- what is held in a slot k after now stays held by a call that advances at most k
  step_keeps : (c : Call) (k : ℕ) → slots_in c ≤ k → k < cycle → (h : Half) (w : ℕ) → model_view m.uplink.taken (m.uplink.now + k) h ≡ Some w
      → model_view (model_step c m).after.uplink.taken (m.uplink.now + k) h ≡ Some w
  unfolding model_step advanced_uplink_model
  step_keeps c k l g h w e = go (touch m c) l
    where
      go : {c : Call} → Touch m c → slots_in c ≤ k → model_view (model_step c m).after.uplink.taken (m.uplink.now + k) h ≡ Some w
      go advances l =
          let elsewhere : clock (m.uplink.now + k) ≢ m.uplink.now = omega arith in
          freed-other m.uplink.taken m.uplink.now _ h elsewhere ∙ e
      go (requests a) l = request-stays a m _ h w e
      go (leaves none same) l = ap (λ (u : UplinkModel). model_view u.taken (m.uplink.now + k) h) same ∙ e

-- ---- a list of calls

pub run-now : (cs : List Call) (m : Model) → m.uplink.now < cycle
    → ((run model_step cs m).uplink.now ≡ clock (m.uplink.now + slots_advanced cs)) × ((run model_step cs m).uplink.now < cycle)
unfolding run slots_advanced
run-now [] m v = omega arith
run-now (c ∷ cs) m v =
    let rest = run-now cs (model_step c m).after (step-below m v c) in
    (rest.0 ∙ ap (λ (n : ℕ). clock (n + slots_advanced cs)) (step-now m v c) ∙ omega arith, rest.1)

-- what is held in a slot k after now stays held while the calls advance at most k
pub keeps : (cs : List Call) (m : Model) → m.uplink.now < cycle → (k : ℕ) → slots_advanced cs ≤ k → k < cycle → (h : Half) (w : ℕ)
    → model_view m.uplink.taken (m.uplink.now + k) h ≡ Some w
    → model_view (run model_step cs m).uplink.taken (m.uplink.now + k) h ≡ Some w
unfolding run slots_advanced
keeps [] m v k l g h w e = e
keeps (c ∷ cs) m v k l g h w e =
    let next : Model = (model_step c m).after in
    let shift : clock (next.uplink.now + (k - slots_in c)) ≡ clock (m.uplink.now + k) = rw (step-now m v c) (omega arith) in
    let held : taken_by next.uplink.taken (clock (m.uplink.now + k)) h ≡ Some w = step_keeps m v c k (omega arith) g h w e in
    rw shift at (keeps cs next (step-below m v c) (k - slots_in c) (omega arith) (omega arith) h w (rw shift held))

pub within : (k : ℕ) → k < slots_agreed → k < cycle
within k h = omega arith
