-- What the steps leave. Assumes nothing.
use mathlib.Core.Path.{◌≡◌, refl, sym, ap, ◌∙◌}
use mathlib.Core.Bool.{cond}
use mathlib.Core.List.{List, ◌++◌}
use Prim.Native.Nat.{ℕ, ◌+◌, ◌≤◌}
use native.Mathlib.Omega.{arith}
use borrow.Rule.Slice.PartMut.{put_mid}
use lib.ListN.{length, take, drop, replicate}
use lib.Seq.{drop-drop}
use Rattle.std.proofs.Common.{Result, Ok, Err}
use Rattle.std.specs.Result.{is_ok}
use Rattle.sizes.specs.Sizes.{queue_places, store_octets}
use Rattle.questions.specs.declared.Refusal.{Refusal}
use Rattle.questions.specs.Questions.{refusal_number, number_of}
use Rattle.questions.proofs.AskLaws.{ask-elim}
use Rattle.tdma_time.specs.declared.TdmaTime.{TdmaTime}
use Rattle.bitbuffer.specs.Bits.{written}
use Rattle.bitbuffer.proofs.Laws.{written-eq}
use Rattle.dl_record.specs.Record.{empty_record}
use Rattle.sched_core.specs.declared.Station.{Station}
use Rattle.sched_core.specs.Station.{new_station}
use Rattle.sched_core.specs.Questions.{memory, time_questions}
use Rattle.sched_core.specs.Replies.{Numbered, reply_number, queue_reply}
use Rattle.sched_core.specs.Calls.{StationOutcome, station_outcome, new_call, new_memory}
use Rattle.interpreter.specs.declared.session.Session.{Session}
use Rattle.interpreter.specs.Text.{number, line}
use Rattle.interpreter.specs.Slotrun.{memory_of, session, time_given, new_step, stage_kept, stepped}

-- a new station, also where its time is refused
pub new_station_is : (x : TdmaTime) → (new_call x).station ≡ new_station x
unfolding new_call
new_station_is x = ask-elim (λ (a : StationOutcome). a.station ≡ new_station x) (time_questions x) _ _ (λ r. refl) (λ said. refl)

-- the number of a reply is the same by the code and by document 01
pub same_number : (reply : Result (Unit {0}) Refusal) → reply_number (queue_reply reply) ≡ number_of reply
same_number (Ok u) = refl
same_number (Err refusal) = refl

-- a refusal changes nothing; a new station has an empty queue and store
module _ (s s' : Session) (ops text : List ℕ) (station : Station) (n : ℕ) (lined : text ≡ line 84 (number n)) where
  abbrev x : TdmaTime
  x = time_given ops

  pub new_stepped : (reply : Result (Unit {0}) Refusal) → station_outcome (queue_reply reply) station ≡ new_call x → n ≡ number_of reply
      → s' ≡ cond (is_ok reply) (session (memory station (replicate queue_places empty_record) (replicate store_octets 0)) s.stage) s
      → stepped s' text ≡ stage_kept s (new_step (memory_of s) ops)
  unfolding new_step new_memory
  new_stepped (Ok u) e num after =
      let r : (new_call x).reply ≡ Numbered.done = ap (λ (a : StationOutcome). a.reply) (sym e) in
      let y : new_station x ≡ station = sym (ap (λ (a : StationOutcome). a.station) e ∙ new_station_is x) in
      rw (r, y, lined, num, after)
  new_stepped (Err refusal) e num after =
      let r : (new_call x).reply ≡ Numbered.refused (refusal_number refusal) = ap (λ (a : StationOutcome). a.reply) (sym e) in
      rw (r, lined, num, after)

-- a part of a buffer that is replaced
pub put_written : (l f : List ℕ) (at n : ℕ) → n ≡ length f → at + n ≤ length l → put_mid at n l f ≡ written l at f
put_written l f at n e h =
    ap (λ (k : List ℕ). take at l ++ (f ++ k)) (drop-drop n at l ∙ ap (λ (k : ℕ). drop (at + k) l) e) ∙ sym (written-eq l at f (omega arith))
