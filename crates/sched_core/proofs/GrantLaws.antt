-- What a grant of the uplink search holds. Assumes nothing.
use Rattle.std.proofs.Common.{Option, Some, None, Ok, Err}
use mathlib.Core.Path.{◌≡◌, refl, sym, ap, ◌∙◌}
use mathlib.Core.Bool.{Bool, true, false, not, cond}
use mathlib.Core.List.{List}
use Prim.Native.Nat.{ℕ, ◌≤◌}
use native.Mathlib.Omega.{arith}
use lib.Dec.{leb}
use lib.ListN.{get_or}
use borrow.Author.Tests.{leb-true}
use Rattle.questions.specs.declared.Refusal.{Refusal}
use Rattle.questions.specs.Questions.{refusal_number}
use Rattle.sizes.specs.Sizes.{latest_delay}
use Rattle.tdma_time.specs.Time.{slot_of}
use Rattle.slot_codes.specs.Codes.{slots_wanted, wants_half, capacity_for}
use Rattle.slot_codes.proofs.CodesLaws.{capacity-below-16}
use Rattle.uplink.specs.Request.{CapAnswer}
use Rattle.uplink.specs.declared.Grant.{Grant}
use Rattle.uplink.specs.declared.Uplink.{Uplink}
use Rattle.uplink.specs.HalfSlot.{first_half, vacant}
use Rattle.uplink.specs.Search.{Run}
use Rattle.uplink.specs.UplinkEntry.{Table, table_view}
use Rattle.uplink.specs.Request.{Request, Verdict, no_run, too_late, grant, earliest_run, settle, verdict, capacity, marker_of, reply_to}
use Rattle.uplink.specs.Request.{table_after, counters_after, given, answer}
use Rattle.sched_core.specs.Questions.{Memory}
use Rattle.sched_core.specs.Replies.{Numbered}
use Rattle.sched_core.specs.Calls.{outcome, grant_queued, request_answered}

-- a granted capacity and delay fit in four bits each, and the marker is that drawn
pub record GrantHolds (ms : List ℕ) (r : Request) (g : Grant) : Type 0 where
  pub cap-fits : g.capacity ≤ 15
  pub delay-fits : g.delay ≤ latest_delay
  pub marker-drawn : g.usage_marker ≡ marker_of ms r

module _ (u : Uplink) (r : Request) (g : Grant) where
  abbrev tb : Table
  tb = u.rows

  abbrev ms : List ℕ
  ms = u.next_usage_marker

  abbrev Says : Verdict → Type 0
  Says w = reply_to (table_view tb) ms r w ≡ Ok g

  granted-run : (run : Run) → run.delay ≤ latest_delay → Says (grant run) → GrantHolds ms r g
  unfolding reply_to capacity
  granted-run run h e =
      let first = not (vacant (table_view tb (get_or run.slots 0 0) first_half)) in
      let is : ◌≡◌ {A = Grant} (record { capacity = capacity_for r.code first; delay = run.delay; usage_marker = marker_of ms r }) g = cc in
      rw (← is) (record { cap-fits = omega (arith, capacity-below-16 r.code first); delay-fits = h; marker-drawn = refl })

  settled : (run : Run) (b : Bool) → leb run.delay latest_delay ≡ b → Says (cond b (grant run) too_late) → GrantHolds ms r g
  unfolding reply_to
  settled run true h e = granted-run run (leb-true _ _ h) e
  settled run false h e = absurd (cc)

  verdicts : (o : Option Run) → Says (settle o) → GrantHolds ms r g
  unfolding reply_to settle
  verdicts None e = absurd (cc)
  verdicts (Some run) e = settled run (leb run.delay latest_delay) refl e

  pub grant-holds : (answer u r).reply ≡ Ok g → GrantHolds ms r g
  unfolding answer given verdict
  grant-holds e = verdicts (earliest_run (table_view tb) (slot_of u.time) r.timeslot (slots_wanted r.code) (wants_half r.code)) e

-- ---- the replies of the search

module _ (m : Memory) (t code kind n : ℕ) (a : CapAnswer)
    (is : a ≡ answer m.station.uplink (record { timeslot = t; code = code; number = n })) where
  pub answered-refused : (x : Refusal) → a.reply ≡ Err x → outcome (Numbered.refused (refusal_number x)) m ≡ request_answered m t code kind n
  unfolding request_answered grant_queued
  answered-refused x e = rw (← is, e)

  pub answered-grant : (g : Grant) → a.reply ≡ Ok g → grant_queued m t kind n a (Ok g) ≡ request_answered m t code kind n
  unfolding request_answered
  answered-grant g e = rw (← is, e)

-- a grant's capacity and delay fit their four bits
pub grant-fits : (u : Uplink) (r : Request) (a : CapAnswer) → a ≡ answer u r
    → (g : Grant) → a.reply ≡ Ok g → (g.capacity ≤ 15) × (g.delay ≤ latest_delay)
grant-fits u r a is g e =
    let h = grant-holds u r g (ap (λ (x : CapAnswer). x.reply) (sym is) ∙ e) in
    (h.cap-fits, h.delay-fits)

-- a refusal of the search leaves the uplink
pub refusal-leaves : (u : Uplink) (r : Request) (a : CapAnswer) → a ≡ answer u r → (x : Refusal) → a.reply ≡ Err x → a.uplink ≡ u
unfolding answer given table_after counters_after reply_to
refusal-leaves u r a is x e = ap (λ (y : CapAnswer). y.uplink) is ∙ go (verdict (table_view u.rows) (slot_of u.time) r) (sym (ap (λ (y : CapAnswer). y.reply) is) ∙ e)
  where
    go : (w : Verdict) → (given u r w).reply ≡ Err x → (given u r w).uplink ≡ u
    go no_run h = refl
    go too_late h = refl
    go (grant g) h = absurd (cc)
