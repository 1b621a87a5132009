-- What a grant rests on (`verdict-grant`), and that two views that agree on the slots looked at give one verdict. Assumes nothing.
use Rattle.std.proofs.Common.{Option, Some, None}
use mathlib.Core.Path.{◌≡◌, refl, ap}
use mathlib.Core.Bool.{Bool, true, false, cond}
use mathlib.Core.List.{List, [], ◌∷◌}
use Prim.Native.Nat.{ℕ, ◌+◌, ◌≤◌, ◌<◌, ◌*◌}
use native.Mathlib.Omega.{arith}
use native.Mathlib.Nat.{not-suc-le-zero}
use lib.ListN.{length, take, drop, length-drop}
use lib.Seq.{length-take-le}
use lib.Dec.{leb}
use borrow.Author.Tests.{leb-true}
use Rattle.sizes.specs.Sizes.{frames_searched, latest_delay, timeslots}
use Rattle.lists.proofs.Every.{All, all_take, all_drop, all-weaken}
use Rattle.tdma_time.specs.Time.{first_of, frames_on}
use Rattle.tdma_time.proofs.SlotLaws.{usable_of-all, frames_on-window}
use Rattle.slot_codes.specs.Codes.{slots_wanted, wants_half}
use Rattle.uplink.specs.HalfSlot.{Half, first_half, second_half, View}
use Rattle.uplink.specs.Search.{runs, earliest, Run}
use Rattle.uplink.specs.Request.{Request, candidates, slot_fits, earliest_run, no_run, too_late, grant, settle, verdict, capacity}
use Rattle.uplink.proofs.SearchLaws.{earliest-some, found-cong, runs-all, runs-length}
use Rattle.uplink.proofs.RequestLaws.{wanted-pos, found_some}

-- a refusal is no grant
no_run≢grant {ℓ} : {X : Type ℓ} (g : Run) → no_run ≡ grant g → X
no_run≢grant g e = absurd (let z : ◌≡◌ {A = ℕ} 0 1 = cc in omega arith)

too_late≢grant {ℓ} : {X : Type ℓ} (g : Run) → too_late ≡ grant g → X
too_late≢grant g e = absurd (let z : ◌≡◌ {A = ℕ} 0 1 = cc in omega arith)

-- ---- the candidates

-- slot c is one of the 68 slots from n on
abbrev pub Near : ℕ → ℕ → Type 0
Near n c = (n ≤ c) × (c < n + timeslots * frames_searched)

pub candidates-near : (t n : ℕ) → All (Near n) (candidates t n)
unfolding candidates
candidates-near t n =
    let slots : List ℕ = frames_on (first_of t n) frames_searched in
    usable_of-all (Near n) slots (all-weaken _ _ (λ c h. omega (arith, h.0, h.1)) slots (frames_on-window t n frames_searched))

-- ---- what a grant rests on

pub record Granted (v : View) (n : ℕ) (r : Request) (g : Run) : Type 0 where
  pub low : g.delay ≤ latest_delay
  pub place : earliest (slot_fits (wants_half r.code) v) (slots_wanted r.code) (candidates r.timeslot n) ≡ Some g.delay
  pub slots : g.slots ≡ take (slots_wanted r.code) (drop g.delay (candidates r.timeslot n))

settle-grant : (o : Option Run) (g : Run) → settle o ≡ grant g → (o ≡ Some g) × (g.delay ≤ latest_delay)
unfolding settle
settle-grant None g h = no_run≢grant g h
settle-grant (Some r) g h = go (leb r.delay latest_delay) refl h
  where
    go : (b : Bool) → leb r.delay latest_delay ≡ b → cond b (grant r) too_late ≡ grant g → (Some r ≡ Some g) × (g.delay ≤ latest_delay)
    go true e k = let same : r ≡ g = cc in (ap Some same, rw same at (leb-true r.delay latest_delay e))
    go false e k = too_late≢grant g k

pub verdict-grant : (v : View) (n : ℕ) (r : Request) (g : Run) → verdict v n r ≡ grant g → Granted v n r g
unfolding verdict earliest_run
verdict-grant v n r g h =
    let s = settle-grant _ g h in
    let f = found_some _ _ _ g s.0 in
    record { low = s.1; place = f.0; slots = f.1 }

-- ---- the slots of a grant

module _ (v : View) (n : ℕ) (r : Request) (g : Run) (h : Granted v n r g) where
  -- what holds of every candidate holds of them
  pub granted-all : (P : ℕ → Type 0) → All P (candidates r.timeslot n) → All P g.slots
  granted-all P a =
      rw h.slots (all_take P (slots_wanted r.code) (drop g.delay (candidates r.timeslot n)) (all_drop P g.delay (candidates r.timeslot n) a))

  -- they are among the 68 slots from now on
  pub granted-near : All (Near n) g.slots
  granted-near = granted-all (Near n) (candidates-near r.timeslot n)

  granted-runs : runs (slot_fits (wants_half r.code) v) (slots_wanted r.code) (drop g.delay (candidates r.timeslot n)) ≡ true
  granted-runs = (earliest-some (slot_fits (wants_half r.code) v) (slots_wanted r.code) (candidates r.timeslot n) g.delay h.place).0

  -- each passes the test
  pub granted-fits : All (λ c. slot_fits (wants_half r.code) v c ≡ true) g.slots
  granted-fits = rw h.slots (runs-all (slot_fits (wants_half r.code) v) (slots_wanted r.code) _ granted-runs)

  -- they are as many as were asked for
  pub granted-length : length g.slots ≡ slots_wanted r.code
  granted-length =
      let l : slots_wanted r.code ≤ length (drop g.delay (candidates r.timeslot n)) = runs-length (slot_fits (wants_half r.code) v) _ _ granted-runs in
      rw h.slots (length-take-le (slots_wanted r.code) _ l)

  pub granted-room : g.delay + slots_wanted r.code ≤ length (candidates r.timeslot n)
  granted-room =
      omega (arith, runs-length (slot_fits (wants_half r.code) v) _ _ granted-runs, length-drop g.delay (candidates r.timeslot n), wanted-pos r.code)

-- ---- two views that agree on the slots looked at

abbrev pub SameAt : View → View → ℕ → Type 0
SameAt v w c = (h : Half) → v c h ≡ w c h

fits-cong : (half : Bool) (v w : View) (c : ℕ) → SameAt v w c → slot_fits half v c ≡ slot_fits half w c
fits-cong half v w c h = rw (h first_half, h second_half)

-- on every candidate: one verdict
pub verdict-same : (v w : View) (n : ℕ) (r : Request) → All (SameAt v w) (candidates r.timeslot n) → verdict v n r ≡ verdict w n r
unfolding verdict earliest_run
verdict-same v w n r a = ap settle (found-cong _ _ _ _ (all-weaken _ _ (fits-cong (wants_half r.code) v w) (candidates r.timeslot n) a))

-- on the slots of a run: one capacity
pub capacity-same : (v w : View) (code : ℕ) (cs : List ℕ) → All (SameAt v w) cs → 0 < length cs → capacity v code cs ≡ capacity w code cs
unfolding capacity
capacity-same v w code [] a l = absurd (not-suc-le-zero l)
capacity-same v w code (c ∷ cs) a l = rw (a.0 first_half)

-- ---- two views that agree on the 68 slots from now on

abbrev pub AgreeFrom : ℕ → View → View → Type 0
AgreeFrom n v w = (c : ℕ) → n ≤ c → c < n + timeslots * frames_searched → SameAt v w c

near_same : (v w : View) (n : ℕ) (cs : List ℕ) → AgreeFrom n v w → All (Near n) cs → All (SameAt v w) cs
near_same v w n cs a = all-weaken _ _ (λ c k. a c k.0 k.1) cs

pub verdict-agree : (v w : View) (n : ℕ) (r : Request) → AgreeFrom n v w → verdict v n r ≡ verdict w n r
verdict-agree v w n r a = verdict-same v w n r (near_same v w n (candidates r.timeslot n) a (candidates-near r.timeslot n))

pub capacity-agree : (v w : View) (n code : ℕ) (cs : List ℕ) → AgreeFrom n v w → All (Near n) cs → 0 < length cs → capacity v code cs ≡ capacity w code cs
capacity-agree v w n code cs a h l = capacity-same v w code cs (near_same v w n cs a h) l
