-- What a request reserves was free, stands in the 68 slots from now on, and is then held under its number (`reserved-is`). Assumes nothing.
use Rattle.std.proofs.lemmas.Bool.{and_parts}
use Rattle.std.proofs.Common.{Option, Some, None}
use mathlib.Core.Path.{◌≡◌, refl, ap, ◌∙◌}
use mathlib.Core.Bool.{Bool, true, false, ◌||◌, not, cond}
use mathlib.Core.List.{List, [], ◌∷◌, Memᴰ}
use Prim.Native.Nat.{ℕ, ◌+◌, ◌-◌, ◌<◌}
use native.Mathlib.Omega.{arith}
use lib.ListN.{length, get_or}
use borrow.Author.Tests.{eqb-true}
use Rattle.lists.proofs.Every.{All, all-at, all_append, all-weaken}
use Rattle.questions.proofs.AskLaws.{ask-elim, ask-both}
use Rattle.tdma_time.specs.Time.{clock}
use Rattle.slot_codes.specs.Codes.{slots_wanted, wants_half}
use Rattle.slot_codes.proofs.CodesLaws.{capacity-of-half}
use Rattle.uplink.specs.HalfSlot.{Half, first_half, second_half, HalfSlot, vacant, halves_at, halves_of_slots}
use Rattle.uplink.specs.Search.{Run}
use Rattle.uplink.specs.Request.{Request, slot_fits, Verdict, no_run, too_late, grant, capacity, halves_of, reserved_by, marker_of}
use Rattle.uplink.proofs.VerdictLaws.{Near, Granted, verdict-grant, granted-near, granted-fits, granted-length}
use Rattle.uplink.proofs.Basics.{not-both}
use Rattle.history.specs.Call.{CapacityRequest, request_of, request, Stepped, unless_refused}
use Rattle.history.specs.UplinkModel.{Taken, taken_by, model_view, take_halves, model_verdict, taken_for}
use Rattle.history.specs.Model.{Model, only_counted, request_asked, reserved, requested, model_step}
use Rattle.history.specs.Demand3.{slots_agreed}
use Rattle.history.proofs.Steps.{unless-after}
use Rattle.history.proofs.ModelLaws.{Free, takes-has, takes-stays}

-- a fact of each half of each slot is one of each half-slot
halves-all : (P : HalfSlot → Type 0) (hs : List Half) (cs : List ℕ) → All (λ c. (h : Half) → P (record { time = clock c; half = h })) cs
    → All P (halves_of_slots hs cs)
unfolding halves_of_slots halves_at
halves-all P hs [] k = tt
halves-all P hs (c ∷ cs) k = all_append P (halves_at hs c) (halves_of_slots hs cs) (go hs) (halves-all P hs cs k.1)
  where
    go : (hs : List Half) → All P (halves_at hs c)
    go [] = tt
    go (h ∷ hs) = (k.0 h, go hs)

vacant-absent : (o : Option ℕ) → vacant o ≡ true → o ≡ None
vacant-absent None h = refl
vacant-absent (Some w) h = not-both false h refl

-- y is a half of a slot near n
abbrev pub NearBy : ℕ → HalfSlot → Type 0
NearBy n y = (c : ℕ) × Near n c × (y.time ≡ clock c)

-- how far from n a slot near it stands
pub offset : (n c : ℕ) → Near n c → (k : ℕ) × (n + k ≡ c) × (k < slots_agreed)
offset n c h = (c - n, omega arith, omega arith)

module _ (xs : List Taken) (n : ℕ) (r : Request) (g : Run) (k : Granted (model_view xs) n r g) where
  grant-near : All (NearBy n) (reserved_by (model_view xs) r.code (grant g))
  unfolding reserved_by
  grant-near = halves-all (NearBy n) _ g.slots (all-weaken _ _ near-half g.slots (granted-near (model_view xs) n r g k))
    where
      near-half : (c : ℕ) → Near n c → (h : Half) → NearBy n (record { time = clock c; half = h })
      near-half c m h = (c, m, refl)

free-half : (xs : List Taken) (cs : List ℕ) → All (λ c. slot_fits true (model_view xs) c ≡ true) cs → length cs ≡ 1
    → All (Free xs) (halves_of_slots (halves_of (cond (not (vacant (model_view xs (get_or cs 0 0) first_half))) 15 0)) cs)
unfolding halves_of halves_of_slots halves_at
free-half xs [] f l = absurd (omega arith)
free-half xs (c ∷ d ∷ cs) f l = absurd (omega arith)
free-half xs (c ∷ []) f l = go (vacant (model_view xs c first_half)) refl f.0
  where
    go : (b : Bool) → vacant (model_view xs c first_half) ≡ b → b || vacant (model_view xs c second_half) ≡ true
        → All (Free xs) (halves_of_slots (halves_of (cond (not b) 15 0)) (c ∷ []))
    go true e k = (vacant-absent _ e, tt)
    go false e k = (vacant-absent _ k, tt)

free-whole : (xs : List Taken) (cs : List ℕ) (hs : List Half) → All (λ c. slot_fits false (model_view xs) c ≡ true) cs → All (Free xs) (halves_of_slots hs cs)
free-whole xs cs hs f = halves-all (Free xs) hs cs (all-weaken _ _ go cs f)
  where
    go : (c : ℕ) → slot_fits false (model_view xs) c ≡ true → (h : Half) → Free xs (record { time = clock c; half = h })
    go c e first_half = vacant-absent _ (and_parts _ _ e).0
    go c e second_half = vacant-absent _ (and_parts (vacant (model_view xs c first_half)) _ e).1

grant-free : (xs : List Taken) (n : ℕ) (r : Request) (g : Run) → Granted (model_view xs) n r g → All (Free xs) (reserved_by (model_view xs) r.code (grant g))
unfolding reserved_by capacity
grant-free xs n r g k = go (wants_half r.code) refl (granted-fits (model_view xs) n r g k)
  where
    go : (half : Bool) → wants_half r.code ≡ half → All (λ c. slot_fits half (model_view xs) c ≡ true) g.slots
        → All (Free xs) (halves_of_slots (halves_of (capacity (model_view xs) r.code g.slots)) g.slots)
    go true e f =
        let zero-code : r.code ≡ 0 = eqb-true _ _ e in
        let one : slots_wanted r.code ≡ 1 = ap slots_wanted zero-code in
        rw (capacity-of-half r.code (not (vacant (model_view xs (get_or g.slots 0 0) first_half))) zero-code)
        (free-half xs g.slots f (granted-length (model_view xs) n r g k ∙ one))
    go false e f = free-whole xs g.slots _ f

-- ---- a request

-- it does not change the time
pub request-now : (a : CapacityRequest) (m : Model) → (model_step (request a) m).after.uplink.now ≡ m.uplink.now
unfolding model_step requested taken_for
request-now a m = unless-after (λ (n : Model). n.uplink.now ≡ m.uplink.now) _ (only_counted m) _ refl (λ e. go (model_verdict m.uplink (request_of a)))
  where
    go : (w : Verdict) → (requested a w m).after.uplink.now ≡ m.uplink.now
    go no_run = refl
    go too_late = refl
    go (grant g) = refl

-- it takes what it reserves
pub request-taken : (a : CapacityRequest) (m : Model)
    → (model_step (request a) m).after.uplink.taken ≡ take_halves (reserved a m) a.number (marker_of m.uplink.markers (request_of a)) m.uplink.taken
unfolding model_step unless_refused requested taken_for reserved reserved_by take_halves
request-taken a m =
    ask-both (λ (y : Stepped Model) (hs : List HalfSlot). y.after.uplink.taken ≡ take_halves hs a.number (marker_of m.uplink.markers (request_of a))
    m.uplink.taken)
    (request_asked a m) _ _ _ _ (λ r. refl) (λ q. go (model_verdict m.uplink (request_of a)))
  where
    go : (w : Verdict)
        → (requested a w m).after.uplink.taken
        ≡ take_halves (reserved_by (model_view m.uplink.taken) a.code w) a.number (marker_of m.uplink.markers (request_of a)) m.uplink.taken
    go no_run = refl
    go too_late = refl
    go (grant g) = refl

-- what it reserves is near and was free
module _ (a : CapacityRequest) (m : Model) where
  reserved-all : (P : HalfSlot → Type 0) → ((g : Run) → Granted (model_view m.uplink.taken) m.uplink.now (request_of a) g
      → All P (reserved_by (model_view m.uplink.taken) a.code (grant g))) → All P (reserved a m)
  unfolding reserved reserved_by model_verdict
  reserved-all P f = ask-elim (All P) (request_asked a m) _ _ (λ r. tt) (λ q. go (model_verdict m.uplink (request_of a)) refl)
    where
      go : (w : Verdict) → model_verdict m.uplink (request_of a) ≡ w → All P (reserved_by (model_view m.uplink.taken) a.code w)
      go no_run e = tt
      go too_late e = tt
      go (grant g) e = f g (verdict-grant (model_view m.uplink.taken) m.uplink.now (request_of a) g e)

  reserved-near : All (NearBy m.uplink.now) (reserved a m)
  reserved-near = reserved-all (NearBy m.uplink.now) (grant-near m.uplink.taken m.uplink.now (request_of a))

  reserved-free : All (Free m.uplink.taken) (reserved a m)
  reserved-free = reserved-all (Free m.uplink.taken) (grant-free m.uplink.taken m.uplink.now (request_of a))

  -- what is held stays held
  pub request-stays : (t : ℕ) (h : Half) (w : ℕ) → taken_by m.uplink.taken t h ≡ Some w
      → taken_by (model_step (request a) m).after.uplink.taken t h ≡ Some w
  request-stays t h w o = rw (request-taken a m) (takes-stays _ a.number _ m.uplink.taken t h w reserved-free o)

-- what it reserves, and how it stands in the model after it
pub record ReservedInModel (a : CapacityRequest) (m : Model) (y : HalfSlot) : Type 0 where
  pub place : NearBy m.uplink.now y
  pub free : Free m.uplink.taken y
  pub held : taken_by (model_step (request a) m).after.uplink.taken y.time y.half ≡ Some a.number

pub reserved-is : (a : CapacityRequest) (m : Model) (y : HalfSlot) → Memᴰ y (reserved a m) → ReservedInModel a m y
reserved-is a m y k =
    record {
      place = all-at (NearBy m.uplink.now) _ (reserved-near a m) k;
      free = all-at (Free m.uplink.taken) _ (reserved-free a m) k;
      held = rw (request-taken a m) (takes-has y _ a.number _ m.uplink.taken k);
    }
