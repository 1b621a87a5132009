-- The theorem of demand 2 for requests: `granted-exactly`. Assumes nothing.
use Rattle.std.proofs.lemmas.Bool.{and_parts}
use Rattle.std.proofs.Common.{Option, Some, None, Result, Ok, Err}
use mathlib.Core.Path.{◌≡◌, refl, sym, ap, ◌∙◌}
use mathlib.Core.Logic.{◌≢◌, ◌↔◌, ⊎_elim}
use mathlib.Core.Bool.{Bool, true, false, not, cond}
use mathlib.Core.List.{List, [], ◌∷◌}
use Prim.Native.Nat.{ℕ, zero, suc, ◌-◌, ◌%◌, ◌≤◌, ◌<◌, min}
use native.Mathlib.Omega.{arith}
use lib.ListN.{length, get_or, take, drop, length-drop}
use lib.Seq.{get_or-take, get_or-drop, length-take-le}
use lib.Dec.{leb}
use borrow.Author.Tests.{eqb-true, eqb-false, le-leb, lt-leb, leb-true, leb-false}
use Rattle.tdma_time.proofs.TimeLaws.{cell_parts}
use Rattle.sizes.specs.Sizes.{latest_delay}
use Rattle.questions.specs.declared.Refusal.{Refusal}
use Rattle.lists.proofs.Every.{All}
use Rattle.tdma_time.specs.declared.TdmaTime.{TdmaTime}
use Rattle.tdma_time.specs.Time.{slot_of}
use Rattle.tdma_time.proofs.Basics.{either}
use Rattle.slot_codes.specs.Codes.{slots_wanted, wants_half, capacity_for}
use Rattle.uplink.specs.Request.{CapAnswer}
use Rattle.uplink.specs.declared.Entry.{Entry}
use Rattle.uplink.specs.declared.Grant.{Grant}
use Rattle.uplink.specs.declared.Uplink.{Uplink}
use Rattle.uplink.specs.HalfSlot.{Half, first_half, second_half, vacant, free_for}
use Rattle.uplink.specs.Search.{Run, earliest, found, run_at}
use Rattle.uplink.specs.UplinkEntry.{Table, empty_entry, SameEntry, entry_at, table_view, with_marker, with_halves, reserve, sound_table, sound_counters}
use Rattle.uplink.specs.UplinkEntry.{sound_counter, sound_marker}
use Rattle.uplink.specs.Uplink.{sound_uplink}
use Rattle.uplink.specs.Request.{Request, candidates, slot_fits, earliest_run, no_run, too_late, grant, settle, verdict, capacity, halves_of, draws, drawn}
use Rattle.uplink.specs.Request.{marker_of, markers_after, granted_reply, reply_to, cap_number, table_after, counters_after, given, answer}
use Rattle.uplink.specs.GrantedExactly.{FreeFrom, EarliestFrom, slot_of_run, Reserved, Proper, Demand2}
use Rattle.uplink.proofs.Everywhere.{all-at}
use Rattle.uplink.proofs.RequestLaws.{wanted-pos, whole-halves}
use Rattle.uplink.proofs.AnswerLaws.{marker-none}
use Rattle.uplink.proofs.StretchLaws.{earliest-iff, none-iff}
use Rattle.uplink.proofs.ReserveLaws.{Window, run-window, reserve-other, reserve-at}
use Rattle.uplink.proofs.SoundLaws.{EntryParts, entry-parts, first-sound, both-sound, second-sound, SoundEntries, sound-entries, whole-sound}
use Rattle.uplink.proofs.SoundLaws.{reserve-whole, store-whole, drawn-sound, SoundUplink, uplink-parts, parts-uplink}

-- ---- codes

half-one : (code : ℕ) → wants_half code ≡ true → slots_wanted code ≡ 1
half-one zero h = refl
half-one (suc c) h = absurd (let z : suc c ≡ 0 = eqb-true _ _ h in omega arith)

half-capacity : (code : ℕ) (b : Bool) → wants_half code ≡ true → capacity_for code b ≡ cond b 15 0
half-capacity code b h = rw h

slots-capacity : (code : ℕ) (b : Bool) → wants_half code ≡ false → capacity_for code b ≡ min code 14
slots-capacity code b h = rw h

slots-halves : (code : ℕ) (b : Bool) → wants_half code ≡ false → halves_of (capacity_for code b) ≡ first_half ∷ second_half ∷ []
slots-halves code b h = let z : code ≢ 0 = eqb-false _ _ h in rw h (whole-halves (min code 14) (omega arith) (omega arith))

-- ---- entries

-- an empty entry with both halves taken
both-taken : (m : Option ℕ) (w : ℕ)
    → with_halves (with_marker empty_entry m) (first_half ∷ second_half ∷ []) w ≡ record { ul1 = Some w; ul2 = Some w; usage_marker = m }
unfolding with_halves
both-taken None w = refl
both-taken (Some m) w = refl

free-first : (a b : Option ℕ) → free_for false a b ≡ true → vacant a ≡ true
free-first a b h = (and_parts (vacant a) (vacant b) h).0

all-places : (P : ℕ → Type 0) (cs : List ℕ) → ((j : ℕ) → j < length cs → P (get_or cs j 0)) → All P cs
all-places P [] h = tt
all-places P (c ∷ cs) h = (h 0 (omega arith), all-places P cs (λ j l. h (suc j) (omega arith)))

module _ (u : Uplink) (r : Request) (q : Proper u r) where
  abbrev tb : Table
  tb = u.rows

  abbrev ms : List ℕ
  ms = u.next_usage_marker

  abbrev now : TdmaTime
  now = u.time

  abbrev sound : SoundUplink u
  sound = uplink-parts u q.sound

  abbrev n : ℕ
  n = slots_wanted r.code

  abbrev cs : List ℕ
  cs = candidates r.timeslot (slot_of now)

  abbrev p : ℕ → Bool
  p = slot_fits (wants_half r.code) (table_view tb)

  -- the run with i usable slots before it
  abbrev run : ℕ → Run
  run i = record { delay = i; slots = take n (drop i cs) }

  earliest-at : (i : ℕ) → (earliest p n cs ≡ Some i) ↔ EarliestFrom u r i
  earliest-at i = earliest-iff p n (wanted-pos r.code) cs i

  -- ---- the three verdicts

  pub data Outcome : Type 0 where
    found_none : ((i : ℕ) → FreeFrom u r i → ⊥) → answer u r ≡ given u r no_run → Outcome
    found-late : (i : ℕ) → EarliestFrom u r i → latest_delay < i → answer u r ≡ given u r too_late → Outcome
    found-run : (i : ℕ) → EarliestFrom u r i → i ≤ latest_delay → answer u r ≡ given u r (grant (run i)) → Outcome

  if_none : earliest p n cs ≡ None → answer u r ≡ given u r no_run
  unfolding answer verdict earliest_run found run_at settle
  if_none e = rw e

  if-late : (i : ℕ) → earliest p n cs ≡ Some i → latest_delay < i → answer u r ≡ given u r too_late
  unfolding answer verdict earliest_run found run_at settle
  if-late i e h = rw (e, lt-leb i latest_delay h)

  if-run : (i : ℕ) → earliest p n cs ≡ Some i → i ≤ latest_delay → answer u r ≡ given u r (grant (run i))
  unfolding answer verdict earliest_run found run_at settle
  if-run i e h = rw (e, le-leb i latest_delay h)

  outcome : Outcome
  outcome = go (earliest p n cs) refl
    where
      some_at : (i : ℕ) → earliest p n cs ≡ Some i → (b : Bool) → leb i latest_delay ≡ b → Outcome
      some_at i e true h = found-run i ((earliest-at i).0 e) (leb-true i latest_delay h) (if-run i e (leb-true i latest_delay h))
      some_at i e false h = found-late i ((earliest-at i).0 e) (leb-false i latest_delay h) (if-late i e (leb-false i latest_delay h))

      go : (o : Option ℕ) → earliest p n cs ≡ o → Outcome
      go None e = found_none ((none-iff p n (wanted-pos r.code) cs).0 e) (if_none e)
      go (Some i) e = some_at i e (leb i latest_delay) refl

  -- ---- a grant

  module _ (i : ℕ) (at : EarliestFrom u r i) (low : i ≤ latest_delay) where
    abbrev slots : List ℕ
    slots = take n (drop i cs)

    abbrev hs : List Half
    hs = halves_of (capacity (table_view tb) r.code slots)

    abbrev m : Option ℕ
    m = marker_of ms r

    abbrev after : Table
    after = reserve tb hs r.number m slots

    is-given : answer u r ≡ given u r (grant (run i))
    is-given = if-run i ((earliest-at i).1 at) low

    table_is : (answer u r).uplink.rows ≡ after
    unfolding given table_after
    table_is = ap (λ (a : CapAnswer). a.uplink.rows) is-given

    reply-is : (answer u r).reply ≡ granted_reply (capacity (table_view tb) r.code slots) i m
    unfolding given reply_to
    reply-is = ap (λ (a : CapAnswer). a.reply) is-given

    window : Window (slot_of now) slots
    window = run-window r.timeslot (slot_of now) i n q.timeslot-low q.timeslot-high at.stretch.room

    long : length slots ≡ n
    long = length-take-le n (drop i cs) (omega (arith, length-drop i cs, at.stretch.room, wanted-pos r.code))

    slot_at : (j : ℕ) → j < n → get_or slots j 0 ≡ slot_of_run u r i j
    slot_at j l = get_or-take n (drop i cs) j 0 l ∙ get_or-drop i cs j 0

    taken_at : (j : ℕ) → j < n
        → entry_at (answer u r).uplink.rows (slot_of_run u r i j) ≡ with_halves (with_marker (entry_at tb (slot_of_run u r i j)) m) hs r.number
    taken_at j l = rw (table_is, ← slot_at j l) (reserve-at hs r.number m (slot_of now) slots tb q.shape window j (rw long l))

    whole-table : SoundEntries tb
    whole-table = sound-entries tb q.shape sound.table

    parts : (c : ℕ) → EntryParts (entry_at tb c)
    parts c = entry-parts (entry_at tb c) (whole-table.entries c)

    first_slot : slot_of_run u r i 0 ≡ get_or slots 0 0
    first_slot = sym (slot_at 0 (wanted-pos r.code))

    whole_is : wants_half r.code ≡ false → (j : ℕ) → j < n
        → entry_at (answer u r).uplink.rows (slot_of_run u r i j) ≡ record { ul1 = Some r.number; ul2 = Some r.number; usage_marker = m }
    unfolding capacity
    whole_is h j l =
        let free : vacant (entry_at tb (slot_of_run u r i j)).ul1 ≡ true =
        free-first (entry_at tb (slot_of_run u r i j)).ul1 (entry_at tb (slot_of_run u r i j)).ul2 (rw h at (at.stretch.each j l)) in
        taken_at j l
        ∙ ap (λ (e : Entry). with_halves (with_marker e m) hs r.number) ((parts (slot_of_run u r i j)).alone free)
        ∙ ap (λ (x : List Half). with_halves (with_marker empty_entry m) x r.number)
        (slots-halves r.code (not (vacant (table_view tb (get_or slots 0 0) first_half))) h)
        ∙ both-taken m r.number

    whole-reply : wants_half r.code ≡ false → (answer u r).reply ≡ granted_reply (min r.code 14) i m
    unfolding capacity
    whole-reply h = reply-is ∙ ap (λ (k : ℕ). granted_reply k i m) (slots-capacity r.code (not (vacant (table_view tb (get_or slots 0 0) first_half))) h)

    module _ (h : wants_half r.code ≡ true) where
      unmarked-half : m ≡ None
      unmarked-half = (marker-none ms r (rw (half-one r.code h) (omega arith))).0

      cap-is : (b : Bool) → vacant (table_view tb (slot_of_run u r i 0) first_half) ≡ b → capacity (table_view tb) r.code slots ≡ cond (not b) 15 0
      unfolding capacity
      cap-is b v = rw (← first_slot, v) (half-capacity r.code (not b) h)

      half_is : (b : Bool) → vacant (table_view tb (slot_of_run u r i 0) first_half) ≡ b
          → ((answer u r).reply ≡ granted_reply (cond (not b) 15 0) i None)
          × (entry_at (answer u r).uplink.rows (slot_of_run u r i 0) ≡ with_halves (entry_at tb (slot_of_run u r i 0)) (halves_of (cond (not b) 15 0)) r.number)
      half_is b v =
          (reply-is ∙ rw (cap-is b v, unmarked-half), taken_at 0 (wanted-pos r.code) ∙ rw (cap-is b v, unmarked-half))

      first-is : vacant (table_view tb (slot_of_run u r i 0) first_half) ≡ true
          → ((answer u r).reply ≡ granted_reply 0 i None)
          × (entry_at (answer u r).uplink.rows (slot_of_run u r i 0) ≡ record {
            ul1 = Some
                r.number;
            ul2 = None;
            usage_marker = None;
          })
      unfolding halves_of with_halves
      first-is v = let k = half_is true v in (k.0, k.1 ∙ ap (λ (e : Entry). with_halves e (first_half ∷ []) r.number) ((parts (slot_of_run u r i 0)).alone v))

      second_is : vacant (table_view tb (slot_of_run u r i 0) first_half) ≡ false
          → let before = entry_at tb (slot_of_run u r i 0) in
          ((answer u r).reply ≡ granted_reply 15 i None)
          × (entry_at (answer u r).uplink.rows (slot_of_run u r i 0) ≡ record {
            ul1 = before.ul1;
            ul2 = Some
                r.number;
            usage_marker = before.usage_marker;
          })
      unfolding halves_of with_halves
      second_is v = half_is false v

    others-stay : (c : ℕ) → ((j : ℕ) → j < n → SameEntry c (slot_of_run u r i j) → ⊥) → entry_at (answer u r).uplink.rows c ≡ entry_at tb c
    others-stay c h =
        rw table_is
        (reserve-other hs r.number m slots tb q.shape c
        (all-places (λ d. c % 72 ≢ d % 72) slots
        (λ j l. let k : j < n = rw long at l in λ e. h j k (cell_parts c (slot_of_run u r i j) (e ∙ ap (λ (x : ℕ). x % 72) (slot_at j k))))))

    counters-are : (answer u r).uplink.next_usage_marker ≡ markers_after ms r
    unfolding given counters_after
    counters-are = ap (λ (a : CapAnswer). a.uplink.next_usage_marker) is-given

    time-is : (answer u r).uplink.time ≡ now
    unfolding given
    time-is = ap (λ (a : CapAnswer). a.uplink.time) is-given

    reserved : Reserved u r i
    reserved =
        record {
          whole-reply = whole-reply;
          whole = whole_is;
          first-half = first-is;
          second-half = second_is;
          others = others-stay;
          counters = counters-are;
          time = time-is;
        }

    -- ---- soundness

    marker-sound : sound_marker m ≡ true
    unfolding marker_of
    marker-sound = go (draws r.code)
      where
        go : (b : Bool) → sound_marker (cond b (Some (get_or ms (r.timeslot - 1) 0)) None) ≡ true
        go true = all-at sound_counter ms (r.timeslot - 1) 0 (omega (arith, q.four, q.timeslot-low, q.timeslot-high)) sound.counters
        go false = refl

    slots-sound : wants_half r.code ≡ false → SoundEntries after
    unfolding capacity
    slots-sound h =
        rw (slots-halves r.code (not (vacant (table_view tb (get_or slots 0 0) first_half))) h)
        (reserve-whole (first_half ∷ second_half ∷ []) r.number m (λ e k. both-sound e m r.number k marker-sound q.number) slots tb whole-table)

    one-sound : (ds : List ℕ) → length ds ≡ 1 → (b : Bool) → vacant (table_view tb (get_or ds 0 0) first_half) ≡ b
        → SoundEntries (reserve tb (halves_of (cond (not b) 15 0)) r.number m ds)
    unfolding halves_of reserve
    one-sound [] l b v = absurd (omega arith)
    one-sound (c ∷ d ∷ ds) l b v = absurd (omega arith)
    one-sound (c ∷ []) l true v = store-whole tb c _ (first-sound (entry_at tb c) m r.number (whole-table.entries c) marker-sound q.number) whole-table
    one-sound (c ∷ []) l false v =
        store-whole tb c _ (second-sound (entry_at tb c) m r.number (whole-table.entries c) marker-sound q.number v) whole-table

    half-sound : wants_half r.code ≡ true → SoundEntries after
    half-sound h =
        let b : Bool = vacant (table_view tb (get_or slots 0 0) first_half) in
        rw (cap-is h b (ap (λ (c : ℕ). vacant (table_view tb c first_half)) first_slot)) (one-sound slots (long ∙ half-one r.code h) b refl)

    after-sound : sound_table (answer u r).uplink.rows ≡ true
    after-sound = rw table_is (whole-sound after (⊎_elim half-sound slots-sound (either (wants_half r.code))))

    counters-sound : sound_counters (answer u r).uplink.next_usage_marker ≡ true
    unfolding markers_after
    counters-sound = rw counters-are (go (draws r.code))
      where
        go : (b : Bool) → sound_counters (cond b (drawn ms r.timeslot) ms) ≡ true
        go true = drawn-sound ms r.timeslot q.four sound.counters q.timeslot-low q.timeslot-high
        go false = sound.counters

  -- ---- the whole claim

  late-reply : answer u r ≡ given u r too_late → (answer u r).reply ≡ Err Refusal.TooLate
  unfolding given reply_to
  late-reply e = ap (λ (a : CapAnswer). a.reply) e

  none-reply : answer u r ≡ given u r no_run → (answer u r).reply ≡ Err Refusal.NoRun
  unfolding given reply_to
  none-reply e = ap (λ (a : CapAnswer). a.reply) e

  abbrev delay_in : Result Grant Refusal → ℕ
  delay_in (Ok g) = g.delay
  delay_in (Err k) = 0

  clash {ℓ} : {X : Type ℓ} (a b : Result Grant Refusal) → (answer u r).reply ≡ a → (answer u r).reply ≡ b → cap_number a ≢ cap_number b → X
  clash a b e f h = absurd (h (ap cap_number (sym e ∙ f)))

  only_then : (cap delay : ℕ) (k : Option ℕ) → (answer u r).reply ≡ granted_reply cap delay k → EarliestFrom u r delay × (delay ≤ latest_delay)
  only_then cap delay k e = go outcome
    where
      go : Outcome → EarliestFrom u r delay × (delay ≤ latest_delay)
      go (found_none h f) = clash _ _ (none-reply f) e (omega arith)
      go (found-late i h l f) = clash _ _ (late-reply f) e (omega arith)
      go (found-run i h l f) = let same : i ≡ delay = ap delay_in (sym (reply-is i h l) ∙ e) in (rw (← same) h, rw (← same) l)

  no-run : ((answer u r).reply ≡ Err Refusal.NoRun) ↔ ((i : ℕ) → FreeFrom u r i → ⊥)
  no-run = (there outcome, λ h. none-reply (if_none ((none-iff p n (wanted-pos r.code) cs).1 h)))
    where
      there : Outcome → (answer u r).reply ≡ Err Refusal.NoRun → (i : ℕ) → FreeFrom u r i → ⊥
      there (found_none h f) e = h
      there (found-late i h l f) e = clash _ _ (late-reply f) e (omega arith)
      there (found-run i h l f) e = clash _ _ (reply-is i h l) e (omega arith)

  too-late : ((answer u r).reply ≡ Err Refusal.TooLate) ↔ ((i : ℕ) × EarliestFrom u r i × (latest_delay < i))
  too-late = (there outcome, λ x. late-reply (if-late x.0 ((earliest-at x.0).1 x.1) x.2))
    where
      there : Outcome → (answer u r).reply ≡ Err Refusal.TooLate → (i : ℕ) × EarliestFrom u r i × (latest_delay < i)
      there (found_none h f) e = clash _ _ (none-reply f) e (omega arith)
      there (found-late i h l f) e = (i, h, l)
      there (found-run i h l f) e = clash _ _ (reply-is i h l) e (omega arith)

  refused : cap_number (answer u r).reply ≢ 0 → (answer u r).uplink ≡ u
  unfolding given table_after counters_after
  refused z = go outcome
    where
      go : Outcome → (answer u r).uplink ≡ u
      go (found_none h f) = ap (λ (a : CapAnswer). a.uplink) f
      go (found-late i h l f) = ap (λ (a : CapAnswer). a.uplink) f
      go (found-run i h l f) = absurd (z (ap cap_number (reply-is i h l)))

  sound-after : sound_uplink (answer u r).uplink ≡ true
  unfolding given table_after counters_after
  sound-after = go outcome
    where
      go : Outcome → sound_uplink (answer u r).uplink ≡ true
      go (found_none h f) = rw f q.sound
      go (found-late i h l f) = rw f q.sound
      go (found-run i h l f) =
          parts-uplink _ (record { time = rw (time-is i h l) sound.time; table = after-sound i h l; counters = counters-sound i h l })

-- a request is granted exactly when its slots are free in succession, with at most 13 usable slots before the earliest such run,
-- which is reserved; nothing else changes
pub granted-exactly : Demand2
granted-exactly u r q =
    record {
      granted = reserved u r q;
      only_then = only_then u r q;
      no-run = no-run u r q;
      too-late = too-late u r q;
      refused = refused u r q;
      sound = sound-after u r q;
    }
