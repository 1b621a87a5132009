-- No two requests at most 65,535 hyperframes apart reserve the same half-slot (`disjoint`). Assumes nothing.
use Rattle.std.proofs.Common.{Some, None}
use mathlib.Core.Path.{◌≡◌, sym, ap, ◌∙◌}
use mathlib.Core.List.{List, ◌∷◌, ◌++◌, Memᴰ}
use Prim.Native.Nat.{ℕ, ◌+◌, ◌≤◌, ◌<◌}
use native.Mathlib.Omega.{arith}
use Rattle.tdma_time.specs.declared.TdmaTime.{TdmaTime}
use Rattle.tdma_time.specs.Time.{Valid, cycle, clock}
use Rattle.tdma_time.proofs.TimeLaws.{slot_of-below}
use Rattle.uplink.specs.HalfSlot.{HalfSlot}
use Rattle.history.specs.Call.{CapacityRequest, Call, request, run}
use Rattle.history.specs.UplinkModel.{new_uplink_model, taken_by}
use Rattle.history.specs.Model.{Model, new_model, reserved, model_step, model_at}
use Rattle.history.specs.Demand3.{farthest, slots_advanced, slots_agreed}
use Rattle.history.proofs.Steps.{run-append}
use Rattle.history.proofs.ModelLaws.{held-not-free}
use Rattle.history.proofs.ReservedLaws.{offset, request-now, ReservedInModel, reserved-is}
use Rattle.history.proofs.RunLaws.{run-now, keeps, within}

-- one time, within 68 slots of n and of m slots later: the later 68 begin at or before it
overlap : (n k m j : ℕ) → clock (n + k) ≡ clock (clock (n + m) + j) → k < slots_agreed → j < slots_agreed → m ≤ farthest → m ≤ k
overlap n k m j e h g l = omega arith

-- the second cannot have what the first reserved
clash : (a a' : CapacityRequest) (m : Model) → m.uplink.now < cycle → (cs : List Call) → slots_advanced cs ≤ farthest → (y : HalfSlot)
    → ReservedInModel a m y → ReservedInModel a' (run model_step cs (model_step (request a) m).after) y → ⊥
clash a a' m v cs l y p q =
    let n : ℕ = m.uplink.now in
    let m' : Model = (model_step (request a) m).after in
    let end : Model = run model_step cs m' in
    let same : m'.uplink.now ≡ n = request-now a m in
    let v' : m'.uplink.now < cycle = rw same v in
    let (c, near, at) = p.place in
    let (d, near', at') = q.place in
    let (k, ck, soon) = offset n c near in
    let (j, dj, soon') = offset end.uplink.now d near' in
    let there : clock (n + k) ≡ clock (clock (n + slots_advanced cs) + j) =
    ap clock ck
    ∙ sym at
    ∙ at'
    ∙ ap clock (sym dj)
    ∙ ap (λ (i : ℕ). clock (i + j)) ((run-now cs m' v').0 ∙ ap (λ (i : ℕ). clock (i + slots_advanced cs)) same) in
    let not_left : slots_advanced cs ≤ k = overlap n k (slots_advanced cs) j there soon soon' l in
    let time : y.time ≡ clock (m'.uplink.now + k) = at ∙ ap clock (sym ck) ∙ ap (λ (i : ℕ). clock (i + k)) (sym same) in
    let held : taken_by end.uplink.taken (clock (m'.uplink.now + k)) y.half ≡ Some a.number =
    keeps cs m' v' k not_left (within k soon) y.half a.number (rw time at p.held) in
    let free : taken_by end.uplink.taken (clock (m'.uplink.now + k)) y.half ≡ None = rw time at q.free in
    held-not-free (sym held ∙ free)

pub disjoint : (x : TdmaTime) → Valid x → (before between : List Call) (a a' : CapacityRequest) → slots_advanced between ≤ farthest
    → (y : HalfSlot) → Memᴰ y (reserved a (model_at x before)) → Memᴰ y (reserved a' (model_at x (before ++ request a ∷ between))) → ⊥
unfolding new_model new_uplink_model run
disjoint x v before between a a' l y p q =
    let m : Model = model_at x before in
    clash a a' m (run-now before (new_model x) (slot_of-below x v)).1 between l y (reserved-is a m y p)
    (reserved-is a' _ y (rw (run-append model_step before (request a ∷ between) (new_model x)) at q))
