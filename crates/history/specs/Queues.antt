-- The queues of the four timeslots as lists of records, each with what goes with it. Assumes nothing.
use Rattle.std.specs.Prelude.{Bool, true, false, ◌&&◌, List, [], ◌∷◌, ◌++◌, ℕ, ◌-◌, length, get_or, set}
use Rattle.tdma_time.specs.Time.{timeslot, usable}
use Rattle.dl_queue.specs.Queue.{Item}

abbrev pub Queues : Type 0 → Type 0
Queues C = List (List (Item C))

module _ {C : Type 0} where
  abbrev pub no_queues : Queues C
  no_queues = [] ∷ [] ∷ [] ∷ [] ∷ []

  abbrev pub queue_at : Queues C → ℕ → List (Item C)
  queue_at qs t = get_or qs (t - 1) []

  -- how many are queued for a timeslot
  abbrev pub queued_at : Queues C → ℕ → ℕ
  queued_at qs t = length (queue_at qs t)

  -- a list takes the place of a timeslot's queue
  abbrev pub with_queue_at : Queues C → ℕ → List (Item C) → Queues C
  with_queue_at qs t xs = set qs (t - 1) xs

  -- a record joins the end of its timeslot's queue
  unfoldable pub appended : Queues C → ℕ → Item C → Queues C
  appended qs t x = with_queue_at qs t (queue_at qs t ++ x ∷ [])

  abbrev pub some_queued : List (Item C) → Bool
  some_queued [] = false
  some_queued (x ∷ xs) = true

  -- "Frame 18, or nothing queued, gives none and leaves the lent block"
  unfoldable pub can_build : ℕ → Queues C → Bool
  can_build now qs = usable now && some_queued (queue_at qs (timeslot now))
