-- Whether the rule of W-201 arises in the current timeslot's block. Assumes nothing.
use mathlib.Core.Path.{◌≡◌, sym, ap, ◌∙◌}
use mathlib.Core.Bool.{Bool, true, false, ◌&&◌}
use mathlib.Core.List.{List}
use Prim.Native.Nat.{ℕ, ◌-◌, ◌*◌, ◌≤◌, ◌<◌}
use native.Mathlib.Omega.{arith}
use lib.Dec.{ltb}
use lib.ListN.{length, get_or, take, drop}
use Rattle.sizes.specs.Sizes.{per_timeslot, timeslots, cell_octets, block_width}
use Rattle.tdma_time.specs.Time.{usable_time}
use Rattle.dl_record.specs.declared.Record.{Record}
use Rattle.dl_build.specs.Document01.{arises_in}
use Rattle.dl_build.proofs.LengthLaws.{arises-own}
use Rattle.sched_core.specs.declared.Station.{Station}
use Rattle.sched_core.specs.Questions.{memory, sound_station}
use Rattle.sched_core.specs.Calls.{current, builds_now}
use Rattle.sched_core.proofs.StationLaws.{sound-time, current-is, current-low, count-few}
use Rattle.sched_build.proofs.BuildCallLaws.{builds-now}
use Rattle.as_document_01.specs.Lines.{arises_here, arises_now}

module _ (s : Station) (rs : List Record) (store : List ℕ) where
  pub now-unsound : sound_station s ≡ false → false ≡ arises_now (memory s rs store)
  unfolding arises_now
  now-unsound h = rw h

  -- of the row of its time, and the records counted there
  module _ (sound : sound_station s ≡ true) (four : length s.queued ≡ timeslots) (row n : ℕ) (at : row ≡ s.uplink.time.t - 1)
      (counted : n ≡ get_or s.queued row 0) where
    here : row ≡ current s
    here = at ∙ current-is s (sound-time s sound)

    low : row < timeslots
    low = omega (arith, here, current-low s (sound-time s sound))

    pub few : n ≤ per_timeslot
    few = rw counted (count-few s sound row (omega (arith, low, four)))

    builds : (b : Bool) → usable_time s.uplink.time && ltb 0 n ≡ b → builds_now s ≡ b
    builds b e =
        sym (builds-now s (sound-time s sound)) ∙ ap (λ (k : ℕ). usable_time s.uplink.time && ltb 0 (get_or s.queued k 0)) (sym at)
        ∙ ap (λ (k : ℕ). usable_time s.uplink.time && ltb 0 k) (sym counted) ∙ e

    pub now-idle : usable_time s.uplink.time && ltb 0 n ≡ false → false ≡ arises_now (memory s rs store)
    unfolding arises_now
    now-idle h = rw (sound, builds false h)

    -- of the timeslot's own records
    pub now-builds : usable_time s.uplink.time && ltb 0 n ≡ true → (own : List Record) → own ≡ take per_timeslot (drop (per_timeslot * row) rs)
        → arises_in block_width n own (drop (cell_octets * (per_timeslot * row)) store) ≡ arises_now (memory s rs store)
    unfolding arises_now arises_here
    now-builds h own o =
        let cells = drop (cell_octets * (per_timeslot * row)) store in
        ap (λ (l : List Record). arises_in block_width n l cells) o ∙ arises-own block_width n (drop (per_timeslot * row) rs) cells few
        ∙ rw (sound, builds true h, counted, here)
