-- Document 01, "The book": half-slots, and who holds them. Assumes nothing.
use Rattle.std.specs.Prelude.{Bool, true, false, ◌&&◌, ◌||◌, cond, List, [], ◌∷◌, ◌++◌, ℕ, Option, Some, None}
use Rattle.tdma_time.specs.Time.{clock}

pub data Half : Type 0 where
  first_half second_half : Half

-- "A half-slot is a time and a half of its slot."
pub record HalfSlot : Type 0 where
  pub time : ℕ
  pub half : Half

-- "an owner (a 24-bit number) or none for each half": who holds each half of each slot, as table or reference model has it
abbrev pub View : Type 0
View = ℕ → Half → Option ℕ

-- nobody holds it
abbrev pub vacant : Option ℕ → Bool
vacant None = true
vacant (Some w) = false

-- "both halves free, or for half a slot [..] a free half": are these holders of a slot's halves no bar to a request
abbrev pub free_for : Bool → Option ℕ → Option ℕ → Bool
free_for half a b = cond half (vacant a || vacant b) (vacant a && vacant b)

-- the given halves of a slot
unfoldable pub halves_at : List Half → ℕ → List HalfSlot
halves_at [] c = []
halves_at (h ∷ hs) c = record { time = clock c; half = h } ∷ halves_at hs c

-- "in order, a slot's first before its second": the given halves of each of a list of slots
unfoldable pub halves_of_slots : List Half → List ℕ → List HalfSlot
halves_of_slots hs [] = []
halves_of_slots hs (c ∷ cs) = halves_at hs c ++ halves_of_slots hs cs
