-- W-201: of a list in which at most the first record is started, at most the first of what is left is started (`one_left`). Assumes nothing.
use mathlib.Core.Path.{◌≡◌, refl, sym, subst, ◌∙◌}
use mathlib.Core.Logic.{◌⊎◌, inl, inr}
use mathlib.Core.Bool.{Bool, true, false, ◌&&◌}
use mathlib.Core.List.{List, [], ◌∷◌, ◌++◌}
use Prim.Native.Nat.{ℕ, ◌+◌, ◌-◌, ◌*◌, ◌≤◌, ◌<◌}
use native.Mathlib.Omega.{arith}
use lib.Dec.{leb, ltb}
use borrow.Author.Tests.{leb-true, leb-false, ltb-true, ltb-false}
use Rattle.lists.proofs.Every.{All}
use Rattle.mac_pdus.proofs.Conjunctions.{false-not-true}
use Rattle.mac_reader.specs.PduList.{Pdu}
use Rattle.dl_record.specs.declared.Record.{Record}
use Rattle.dl_record.specs.Kind.{is_started}
use Rattle.dl_queue.specs.Queue.{Item}
use Rattle.bs_frag.specs.NextPdu.{header_size, end_octets, Next, begin, continue, next}
use Rattle.bs_frag.specs.declared.ChunkOutcome.TheVariants.{Finished, Waiting, Started}
use Rattle.bs_frag.proofs.Laws.{begin-whole, begin-waits, begin-starts, continue-ends, continue-frags, next-first, next-later}
use Rattle.dl_send.specs.Send.{staying, wrote, send_all, turns, read_off, room_after}

-- ---- which of a list are started

module _ {C : Type 0} where
  abbrev pub NotStarted : Item C → Type 0
  NotStarted x = is_started x.rec.kind ≡ false

  abbrev pub NoneStarted : List (Item C) → Type 0
  NoneStarted xs = All NotStarted xs

  -- none but the first
  abbrev pub OnlyFirst : List (Item C) → Type 0
  OnlyFirst [] = Unit {0}
  OnlyFirst (x ∷ xs) = NoneStarted xs

  pub none_first : (xs : List (Item C)) → NoneStarted xs → OnlyFirst xs
  none_first [] h = tt
  none_first (x ∷ xs) h = h.1

-- ---- the ways of a turn

module _ (P : Next → Type 0) (room : ℕ) (r : Record) (sdu : List ℕ) where
  turn-as : {x y : Next} → x ≡ y → P y → P x
  turn-as e h = subst P (sym e) h

  -- a record that is not started finishes, or waits and writes nothing, or starts, if it may and 32 bits are left, and fills the block
  first-ways : (may : Bool) → is_started r.kind ≡ false
      → ((p : Pdu) (k : ℕ) → k ≤ room → P (record { pdus = p ∷ []; room = k; outcome = Finished }))
      → P (record { pdus = []; room = room; outcome = Waiting })
      → ((p : Pdu) (n : ℕ) → may ≡ true → 32 ≤ room → P (record { pdus = p ∷ []; room = 0; outcome = Started n }))
      → P (next may room r sdu)
  first-ways may e ends waits starts = turn-as (next-first may room r sdu e) (go (leb (header_size r + r.bits) room) refl)
    where
      stay : room < header_size r + r.bits → (may ≡ false) ⊎ (room < 32) ⊎ (room < header_size r) → P (begin may room r sdu)
      stay l why = turn-as (begin-waits may room r sdu (header_size r) refl l why) waits

      start : room < header_size r + r.bits → (a : Bool) → may ≡ a → (b : Bool) → ltb room 32 ≡ b → (c : Bool) → ltb room (header_size r) ≡ c
          → P (begin may room r sdu)
      start l false f b g c h = stay l (inl f)
      start l true f true g c h = stay l (inr (inl (ltb-true room 32 g)))
      start l true f false g true h = stay l (inr (inr (ltb-true room (header_size r) h)))
      start l true f false g false h =
          turn-as (begin-starts may room r sdu (header_size r) refl f l (ltb-false room 32 g) (ltb-false room (header_size r) h))
          (starts _ _ f (ltb-false room 32 g))

      go : (b : Bool) → leb (header_size r + r.bits) room ≡ b → P (begin may room r sdu)
      go true f = turn-as (begin-whole may room r sdu (header_size r) refl _ refl (leb-true _ room f)) (ends _ _ (omega arith))
      go false f = start (leb-false _ room f) may refl (ltb room 32) refl (ltb room (header_size r)) refl

  -- one that is started finishes, or goes on and fills the block: with 16 bits it writes something
  later-ways : (may : Bool) → is_started r.kind ≡ true → 16 ≤ room
      → ((p : Pdu) (k : ℕ) → k ≤ room → P (record { pdus = p ∷ []; room = k; outcome = Finished }))
      → ((p : Pdu) (n : ℕ) → P (record { pdus = p ∷ []; room = 0; outcome = Started n }))
      → P (next may room r sdu)
  later-ways may e wide ends frags = turn-as (next-later may room r sdu e) (go (leb (end_octets rest * 8) room) refl)
    where
      rest : ℕ
      rest = r.bits - r.sent

      go : (b : Bool) → leb (end_octets rest * 8) room ≡ b → P (continue room r sdu)
      go true f = turn-as (continue-ends room r sdu rest refl _ refl (leb-true _ room f)) (ends _ _ (omega arith))
      go false f = turn-as (continue-frags room r sdu rest refl _ refl _ refl (leb-false _ room f) wide) (frags _ _)

-- ---- what is left

-- no record starts fragments: it may not, or fewer than 32 bits are left
abbrev Barred : Bool → ℕ → Type 0
Barred may room = (may ≡ false) ⊎ (room < 32)

barred-on : (may b : Bool) (room k : ℕ) → k ≤ room → Barred may room → Barred (may && b) k
barred-on may b room k l (inl e) = inl (rw e refl)
barred-on may b room k l (inr f) = inr (omega arith)

barred-not : {X : Type 0} (may : Bool) (room : ℕ) → Barred may room → may ≡ true → 32 ≤ room → X
barred-not may room (inl e) f l = false-not-true (sym e ∙ f)
barred-not may room (inr g) f l = absurd (omega arith)

module _ {C : Type 0} (sdu : C → ℕ → List ℕ) where
  -- behind the turn s of a record x
  abbrev left_behind : Bool → Item C → List (Item C) → Next → List (Item C)
  left_behind may x xs s = staying s.outcome x ++ (send_all sdu (may && wrote s.pdus) s.room xs).left

  -- where none is started and none starts
  none_left : (may : Bool) (room : ℕ) (xs : List (Item C)) → Barred may room → NoneStarted xs → NoneStarted (send_all sdu may room xs).left
  unfolding send_all turns read_off room_after
  none_left may room [] b h = tt
  none_left may room (x ∷ xs) b h =
      first-ways (λ s. NoneStarted (left_behind may x xs s)) room x.rec (sdu x.load x.rec.bits) may h.0
      (λ p k l. none_left (may && true) k xs (barred-on may true room k l b) h.1)
      (refl, none_left (may && false) room xs (barred-on may false room room (omega arith) b) h.1)
      (λ p n on wide. barred-not may room b on wide)

  -- where none is started: the first that does not finish waits, and then none starts, or starts and leaves no room
  first-left : (room : ℕ) (xs : List (Item C)) → NoneStarted xs → OnlyFirst (send_all sdu true room xs).left
  unfolding send_all turns read_off room_after
  first-left room [] h = tt
  first-left room (x ∷ xs) h =
      first-ways (λ s. OnlyFirst (left_behind true x xs s)) room x.rec (sdu x.load x.rec.bits) true h.0
      (λ p k l. first-left k xs h.1)
      (none_left false room xs (inl refl) h.1)
      (λ p n on wide. none_left true 0 xs (inr (omega arith)) h.1)

  -- where the first may be started: it ends, or goes on and leaves no room
  pub one_left : (w : ℕ) (xs : List (Item C)) → 16 ≤ w → OnlyFirst xs → OnlyFirst (send_all sdu true w xs).left
  unfolding send_all turns read_off room_after
  one_left w [] wide h = tt
  one_left w (x ∷ xs) wide h = go (is_started x.rec.kind) refl
    where
      go : (b : Bool) → is_started x.rec.kind ≡ b → OnlyFirst (send_all sdu true w (x ∷ xs)).left
      go false e = first-left w (x ∷ xs) (e, h)
      go true e =
          later-ways (λ s. OnlyFirst (left_behind true x xs s)) w x.rec (sdu x.load x.rec.bits) true e wide
          (λ p k l. first-left k xs h)
          (λ p n. none_left true 0 xs (inr (omega arith)) h)
