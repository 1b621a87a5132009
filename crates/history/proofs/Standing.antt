-- The reference model has taken exactly what stands reserved (`standing-taken`, `taken-standing`). Assumes nothing.
use Rattle.std.proofs.Common.{Some}
use mathlib.Core.Path.{◌≡◌, refl, sym, ap, ◌∙◌}
use mathlib.Core.Logic.{⊎_elim, ◌≢◌}
use mathlib.Core.List.{List, [], ◌∷◌, ◌++◌, Memᴰ}
use Prim.Native.Nat.{ℕ, zero, suc, ◌+◌, ◌≤◌, ◌<◌, zero-le}
use native.Mathlib.Omega.{arith}
use Rattle.tdma_time.specs.declared.TdmaTime.{TdmaTime}
use Rattle.tdma_time.specs.Time.{Valid, cycle, clock}
use Rattle.tdma_time.proofs.TimeLaws.{slot_of-below}
use Rattle.uplink.specs.HalfSlot.{Half, HalfSlot}
use Rattle.history.specs.Call.{CapacityRequest, Call, advance, request, run}
use Rattle.history.specs.UplinkModel.{UplinkModel, new_uplink_model, taken_by, freed, advanced_uplink_model}
use Rattle.history.specs.Model.{Model, new_model, reserved, model_step, model_at}
use Rattle.history.specs.Demand3.{slots_advanced, Standing}
use Rattle.history.proofs.Steps.{run-append}
use Rattle.history.proofs.ModelLaws.{held-not-free, freed-same, freed-other, half_slot, takes-source}
use Rattle.history.proofs.ReservedLaws.{offset, request-now, request-taken, ReservedInModel, reserved-is}
use Rattle.history.proofs.RunLaws.{Touch, advances, requests, leaves, touch, step-below, run-now, keeps, within}

-- a time is not passed in a list of calls from slot n on
abbrev NotPassed : ℕ → ℕ → List Call → Type 0
NotPassed n t cs = (k : ℕ) → t ≡ clock (n + k) → slots_advanced cs ≤ k

-- where what the model holds after cs comes from: the model before, or a request of cs
data Source (m : Model) (cs : List Call) (t : ℕ) (h : Half) (w : ℕ) : Type 0 where
  old : taken_by m.uplink.taken t h ≡ Some w → NotPassed m.uplink.now t cs → Source m cs t h w
  fresh : (before since : List Call) (a : CapacityRequest) → cs ≡ before ++ request a ∷ since → a.number ≡ w
      → Memᴰ (half_slot t h) (reserved a (run model_step before m)) → NotPassed (run model_step before m).uplink.now t since → Source m cs t h w

module _ (t : ℕ) (h : Half) (w : ℕ) where
  -- one call more in front
  push : (c : Call) (m : Model) (cs : List Call) → Source (model_step c m).after cs t h w
      → (taken_by (model_step c m).after.uplink.taken t h ≡ Some w → NotPassed (model_step c m).after.uplink.now t cs → Source m (c ∷ cs) t h w)
      → Source m (c ∷ cs) t h w
  unfolding run
  push c m cs (old o p) f = f o p
  push c m cs (fresh before since a cut num has p) f = fresh (c ∷ before) since a (ap (λ (l : List Call). c ∷ l) cut) num has p

  after-advance : (m : Model) (cs : List Call) → m.uplink.now < cycle → taken_by (freed m.uplink.taken m.uplink.now) t h ≡ Some w
      → NotPassed (clock (m.uplink.now + 1)) t cs → Source m (advance ∷ cs) t h w
  unfolding slots_advanced
  after-advance m cs v o p = old (sym (freed-other m.uplink.taken n t h elsewhere) ∙ o) later
    where
      n : ℕ
      n = m.uplink.now

      elsewhere : t ≢ n
      elsewhere e = held-not-free (sym o ∙ ap (λ (u : ℕ). taken_by (freed m.uplink.taken n) u h) e ∙ freed-same m.uplink.taken n h)

      later : (k : ℕ) → t ≡ clock (n + k) → 1 + slots_advanced cs ≤ k
      later zero e = absurd (elsewhere (e ∙ omega arith))
      later (suc k) e = let q : slots_advanced cs ≤ k = p k (e ∙ omega arith) in omega arith

  after-request : (a : CapacityRequest) (m : Model) (cs : List Call) → taken_by (model_step (request a) m).after.uplink.taken t h ≡ Some w
      → NotPassed (model_step (request a) m).after.uplink.now t cs → Source m (request a ∷ cs) t h w
  unfolding slots_advanced run
  after-request a m cs o p =
      let q : NotPassed m.uplink.now t cs = rw (request-now a m) at p in
      ⊎_elim (λ n. fresh [] cs a refl n.1 n.0 q) (λ n. old n (λ k e. let r =
      q k e in omega arith)) (takes-source _ a.number _ m.uplink.taken t h w (rw (request-taken a m) at o))

  after_call : (m : Model) (cs : List Call) → m.uplink.now < cycle → {c : Call} → Touch m c → taken_by (model_step c m).after.uplink.taken t h ≡ Some w
      → NotPassed (model_step c m).after.uplink.now t cs → Source m (c ∷ cs) t h w
  unfolding model_step advanced_uplink_model slots_advanced
  after_call m cs v advances o p = after-advance m cs v o p
  after_call m cs v (requests a) o p = after-request a m cs o p
  after_call m cs v (leaves none same) o p =
      old (ap (λ (u : UplinkModel). taken_by u.taken t h) (sym same) ∙ o)
      (λ k e. let q = p k (e ∙ ap (λ (u : UplinkModel). clock (u.now + k)) (sym same)) in omega (arith, none))

  source : (cs : List Call) (m : Model) → m.uplink.now < cycle → taken_by (run model_step cs m).uplink.taken t h ≡ Some w → Source m cs t h w
  unfolding run slots_advanced
  source [] m v o = old o (λ k e. zero-le)
  source (c ∷ cs) m v o = push c m cs (source cs (model_step c m).after (step-below m v c) o) (after_call m cs v (touch m c))

-- ---- the two ways

module _ (x : TdmaTime) (v : Valid x) where
  below : (new_model x).uplink.now < cycle
  unfolding new_model new_uplink_model
  below = slot_of-below x v

  pub taken-standing : (cs : List Call) (t : ℕ) (h : Half) (w : ℕ) → taken_by (model_at x cs).uplink.taken t h ≡ Some w → Standing x cs (half_slot t h) w
  unfolding new_model new_uplink_model taken_by
  taken-standing cs t h w o = go (source t h w cs (new_model x) below o)
    where
      go : Source (new_model x) cs t h w → Standing x cs (half_slot t h) w
      go (old e p) = absurd (held-not-free (sym e))
      go (fresh before since a cut num has p) =
          let n : ℕ = (model_at x before).uplink.now in
          let q : ReservedInModel a (model_at x before) (half_slot t h) = reserved-is a (model_at x before) (half_slot t h) has in
          let (c, near, at) = q.place in
          let (k, ck, soon) = offset n c near in
          let there : t ≡ clock (n + k) = at ∙ ap clock (sym ck) in
          record { before = before; since = since; asker = a; cut = cut; number = num; has = has; off = k; there = there; soon = soon; not-passed = p k there }

  pub standing-taken : (cs : List Call) (y : HalfSlot) (w : ℕ) → Standing x cs y w → taken_by (model_at x cs).uplink.taken y.time y.half ≡ Some w
  unfolding run
  standing-taken cs y w s =
      let a : CapacityRequest = s.asker in
      let m : Model = model_at x s.before in
      let m' : Model = (model_step (request a) m).after in
      let same : m'.uplink.now ≡ m.uplink.now = request-now a m in
      let v' : m'.uplink.now < cycle = rw same (run-now s.before (new_model x) below).1 in
      let time : y.time ≡ clock (m'.uplink.now + s.off) = s.there ∙ ap (λ (n : ℕ). clock (n + s.off)) (sym same) in
      let held : taken_by m'.uplink.taken (clock (m'.uplink.now + s.off)) y.half ≡ Some a.number =
      rw time at (reserved-is a m y s.has).held in
      let kept : taken_by (run model_step s.since m').uplink.taken (clock (m'.uplink.now + s.off)) y.half ≡ Some a.number =
      keeps s.since m' v' s.off s.not-passed (within s.off s.soon) y.half a.number held in
      let end : model_at x cs ≡ run model_step s.since m' = ap (model_at x) s.cut ∙ run-append model_step s.before (request a ∷ s.since) (new_model x) in
      ap (λ (c : Model). taken_by c.uplink.taken y.time y.half) end
      ∙ ap (λ (u : ℕ). taken_by (run model_step s.since m').uplink.taken u y.half) time
      ∙ kept
      ∙ ap Some s.number
