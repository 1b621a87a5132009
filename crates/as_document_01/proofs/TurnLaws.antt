-- Document 01's sending, turn by turn, by what is known of each turn's lengths. Assumes nothing.
use mathlib.Core.Path.{◌≡◌, refl, sym, ap, subst, ◌∙◌}
use mathlib.Core.Bool.{Bool, true, false, ◌&&◌, not}
use mathlib.Core.List.{List, ◌∷◌}
use Prim.Native.Nat.{ℕ, ◌+◌, ◌<◌, ◌≤◌}
use lib.ListN.{get_or, drop}
use Rattle.dl_record.specs.declared.Record.{Record}
use Rattle.dl_record.specs.Record.{empty_record}
use Rattle.dl_queue.specs.Queue.{Item, item}
use Rattle.bs_frag.specs.NextPdu.{next}
use Rattle.dl_send.specs.Arrays.{listed}
use Rattle.dl_send.specs.Document01.{turns01, starts_behind, arises}
use Rattle.dl_send.proofs.ArrayLaws.{listed_next, listed-end}
use Rattle.as_document_01.specs.declared.lengths.TurnLengths.{TurnLengths}
use Rattle.as_document_01.specs.Lengths.{room_behind, writes, starts_fragments, LengthsOf}

pub and-no : (b : Bool) → b && false ≡ false
and-no true = refl
and-no false = refl

pub and-yes : (b : Bool) → b && true ≡ b
and-yes true = refl
and-yes false = refl

-- the lengths of a record's turn, whatever its SDU
abbrev pub TurnBy : ℕ → Record → TurnLengths → Type 0
TurnBy room r t = (sdu : List ℕ) → LengthsOf room (next true room r sdu) t

module _ {C : Type 0} (sdu : C → ℕ → List ℕ) (may : Bool) (room : ℕ) (x : Item C) (xs : List (Item C)) (t : TurnLengths) (by : TurnBy room x.rec t) where
  behind-found : not may && starts_fragments t ≡ true → starts_behind may (turns01 sdu room (x ∷ xs)) ≡ true
  unfolding starts_behind turns01
  behind-found h = let l = by (sdu x.load x.rec.bits) in rw (← l.starts, h)

  behind-next : not may && starts_fragments t ≡ false
      → starts_behind may (turns01 sdu room (x ∷ xs)) ≡ starts_behind (may && writes t) (turns01 sdu (room_behind room t) xs)
  unfolding starts_behind turns01
  behind-next h = let l = by (sdu x.load x.rec.bits) in rw (← l.starts, ← l.wrote, ← l.room, h)

-- after i turns of n records: what is to come says the same as the whole
abbrev pub Behind : ℕ → List Record → ℕ → Bool → ℕ → ℕ → Type 0
Behind w rs n may room i =
    (sdu : ℕ → ℕ → List ℕ) (from : List ℕ) → arises sdu w (listed n rs from) ≡ starts_behind may (turns01 sdu room (drop i (listed n rs from)))

pub behind-start : (w : ℕ) (rs : List Record) (n : ℕ) → Behind w rs n true w 0
unfolding arises
behind-start w rs n sdu from = refl

module _ (w : ℕ) (rs : List Record) (n : ℕ) (may : Bool) (room i : ℕ) (so : Behind w rs n may room i) where
  module _ (r : Record) (t : TurnLengths) (less : i < n) (at : r ≡ get_or rs i empty_record) (by : TurnBy room r t) where
    taken : (sdu : ℕ → ℕ → List ℕ) (from : List ℕ)
        → arises sdu w (listed n rs from) ≡ starts_behind may (turns01 sdu room (item r (get_or from i 0) ∷ drop (i + 1) (listed n rs from)))
    taken sdu from = so sdu from ∙ ap (λ (l : List (Item ℕ)). starts_behind may (turns01 sdu room l)) (rw at (listed_next n rs from i less))

    pub behind-yes : not may && starts_fragments t ≡ true → (sdu : ℕ → ℕ → List ℕ) (from : List ℕ) → true ≡ arises sdu w (listed n rs from)
    behind-yes h sdu from = sym (taken sdu from ∙ behind-found sdu may room (item r (get_or from i 0)) _ t by h)

    pub behind-on : not may && starts_fragments t ≡ false → Behind w rs n (may && writes t) (room_behind room t) (i + 1)
    behind-on h sdu from = taken sdu from ∙ behind-next sdu may room (item r (get_or from i 0)) _ t by h

    -- by the turn's case
    pub behind-turn : (u : TurnLengths) → t ≡ u → (may' : Bool) (room' : ℕ) → may && writes u ≡ may' → room_behind room u ≡ room'
        → not may && starts_fragments u ≡ false → Behind w rs n may' room' (i + 1)
    behind-turn u e may' room' p q h =
        subst (λ (b : Bool). Behind w rs n b room' (i + 1)) (ap (λ (x : TurnLengths). may && writes x) e ∙ p)
        (subst (λ (k : ℕ). Behind w rs n (may && writes t) k (i + 1)) (ap (room_behind room) e ∙ q)
        (behind-on (ap (λ (x : TurnLengths). not may && starts_fragments x) e ∙ h)))

  pub behind-no : n ≤ i → (sdu : ℕ → ℕ → List ℕ) (from : List ℕ) → false ≡ arises sdu w (listed n rs from)
  unfolding starts_behind turns01
  behind-no h sdu from = sym (so sdu from ∙ ap (λ (l : List (Item ℕ)). starts_behind may (turns01 sdu room l)) (listed-end n rs from i h))
