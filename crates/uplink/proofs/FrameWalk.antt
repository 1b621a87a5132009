-- The two loops over the frames of a timeslot, as they stand at the head of a turn: the search (`Looking`) and the reservation (`fill`).
-- Assumes nothing.
use Rattle.std.proofs.Common.{Option, Some, None}
use mathlib.Core.Path.{◌≡◌, refl, sym, ap, ◌∙◌}
use mathlib.Core.Logic.{◌≢◌}
use mathlib.Core.Bool.{Bool, true, false}
use mathlib.Core.List.{List, [], ◌∷◌, ◌++◌}
use Prim.Native.Nat.{ℕ, zero, suc, ◌+◌, ◌-◌, ◌*◌, ◌/◌, ◌%◌, ◌≤◌, ◌<◌}
use native.Mathlib.Omega.{arith}
use lib.ListN.{length, get_or, set, take, length-append}
use borrow.Author.Tests.{eq-eqb}
use Rattle.sizes.specs.Sizes.{frames_searched, timeslots}
use Rattle.tdma_time.specs.declared.TdmaTime.{TdmaTime}
use Rattle.tdma_time.specs.Time.{usable, first_of, frames_on, usable_of, frame, slot_of, forward_time}
use Rattle.tdma_time.proofs.SlotLaws.{frame-usable, first_slot, usable_of-keeps, usable_of-leaves}
use Rattle.uplink.specs.declared.Entry.{Entry}
use Rattle.uplink.specs.HalfSlot.{Half, free_for}
use Rattle.uplink.specs.Search.{walk}
use Rattle.uplink.specs.UplinkEntry.{Table, empty_entry, entry_at, store, table_view, with_marker, with_halves, reserve}
use Rattle.uplink.specs.Request.{slot_fits, candidates, earliest_run}
use Rattle.uplink.specs.Functions.{as_opportunity, opportunity, slots_from}
use Rattle.uplink.proofs.SearchLaws.{walk-skip, walk_block, walk_end, walk-on, walk-found}

-- ---- slots a frame apart

frames-next : (u k : ℕ) → 0 < k → frames_on u k ≡ u ∷ frames_on (u + 4) (k - 1)
unfolding frames_on
frames-next u zero h = absurd (omega arith)
frames-next u (suc k) h = let e : suc k - 1 ≡ k = omega arith in rw e

-- what is left of 17 frames from slot u on, after d of them
abbrev pub rest : ℕ → ℕ → List ℕ
rest u d = frames_on (u + d * 4) (frames_searched - d)

pub rest-next : (u d : ℕ) → d < frames_searched → rest u d ≡ (u + d * 4) ∷ rest u (d + 1)
rest-next u d h =
    let e : u + d * 4 + 4 ≡ u + (d + 1) * 4 = omega arith in
    let k : frames_searched - d - 1 ≡ frames_searched - (d + 1) = omega arith in
    frames-next (u + d * 4) (frames_searched - d) (omega arith) ∙ rw (e, k)

pub rest-none : (u d : ℕ) → d ≡ frames_searched → rest u d ≡ []
unfolding frames_on
rest-none u d e = let z : frames_searched - d ≡ 0 = omega arith in ap (frames_on (u + d * 4)) z

-- slot u stands in the table at a row and a column
pub record At (u row first : ℕ) : Type 0 where
  pub line : u % 4 ≡ row
  pub place : u / 4 % 18 ≡ first

-- the slot d frames on stands in the same row, d columns on and round again
on_line : (u row d : ℕ) → u % 4 ≡ row → (u + d * 4) % 4 ≡ row
on_line u row d h = omega arith

on-place : (u first d : ℕ) → u / 4 % 18 ≡ first → (u + d * 4) / 4 % 18 ≡ (first + d) % 18
on-place u first d h = let e : (u + d * 4) / 4 ≡ u / 4 + d = omega arith in rw e (omega arith)

on-usable : (u first d : ℕ) → u / 4 % 18 ≡ first → (first + d) % 18 ≢ 17 → usable (u + d * 4) ≡ true
on-usable u first d h g = frame-usable (u + d * 4) (λ e. g (sym (on-place u first d h) ∙ (let k : (u + d * 4) / 4 % 18 + 1 ≡ 18 = e in omega (arith, k))))

on-unusable : (u first d : ℕ) → u / 4 % 18 ≡ first → (first + d) % 18 ≡ 17 → usable (u + d * 4) ≡ false
unfolding usable
on-unusable u first d h g = let e : frame (u + d * 4) ≡ 18 = omega (arith, on-place u first d h, g) in rw (eq-eqb _ _ e)

pub on-entry : (tb : Table) (u row first d : ℕ) → At u row first → get_or (get_or tb row []) ((first + d) % 18) empty_entry ≡ entry_at tb (u + d * 4)
unfolding entry_at
on-entry tb u row first d a = rw (on_line u row d a.line, on-place u first d a.place)

on_store : (tb : Table) (u row first d : ℕ) (e : Entry) → At u row first → set tb row (set (get_or tb row []) ((first + d) % 18) e) ≡ store tb (u + d * 4) e
unfolding store
on_store tb u row first d e a = rw (on_line u row d a.line, on-place u first d a.place)

-- the first opportunity stands in row t - 1, in the column of its frame
pub first-at : (now : TdmaTime) (t : ℕ) (x : TdmaTime) (row first : ℕ) → 1 ≤ t → t ≤ timeslots → x ≡ forward_time now t → row ≡ t - 1 → first ≡ x.f - 1
    → At (first_of t (slot_of now)) row first
first-at now t x row first h g e r f =
    let s = first_slot t (slot_of now) h g in
    record { line = omega (arith, s); place = rw (f, e) (omega arith) }

-- ---- the search

-- d slots from u on looked at, `skips` passed over, a run of `held` slots from `start` frames after u on
pub record Along (p : ℕ → Bool) (n u skips held start d : ℕ) : Type 0 where
  pub run : List ℕ
  pub len : length run ≡ held
  pub head : 0 < held → get_or run 0 0 ≡ u + start * 4
  pub same : walk p n 0 [] (frames_on u frames_searched) ≡ walk p n skips run (rest u d)

-- the first of a run with one more
head_more : (run : List ℕ) (c h : ℕ) → (length run ≡ 0 → c ≡ h) → (0 < length run → get_or run 0 0 ≡ h) → get_or (run ++ c ∷ []) 0 0 ≡ h
head_more [] c h z y = z refl
head_more (x ∷ run) c h z y = y (omega arith)

-- the search at the head of a turn, whichever slot stands in that row and column
pub record Looking (tb : Table) (half : Bool) (n row first start held skips d : ℕ) : Type 0 where
  pub searched : d ≤ frames_searched
  pub short : held < n
  pub few : skips + held ≤ d
  pub begun : start ≤ d
  pub line : row < timeslots
  pub place : first < 18
  pub along : (u : ℕ) → At u row first → Along (slot_fits half (table_view tb)) n u skips held start d

module _ (tb : Table) (half : Bool) (n row first start held skips d : ℕ) (l : Looking tb half n row first start held skips d) where
  abbrev p : ℕ → Bool
  p = slot_fits half (table_view tb)

  abbrev e : Entry
  e = get_or (get_or tb row []) ((first + d) % 18) empty_entry

  pub looking-none : (u : ℕ) → At u row first → d ≡ frames_searched → walk p n 0 [] (frames_on u frames_searched) ≡ None
  unfolding walk
  looking-none u a z = let k = l.along u a in k.same ∙ ap (walk p n skips k.run) (rest-none u d z)

  module _ (more : d < frames_searched) where
    turned : (u : ℕ) (a : At u row first) → walk p n 0 [] (frames_on u frames_searched) ≡ walk p n skips (l.along u a).run ((u + d * 4) ∷ rest u (d + 1))
    turned u a = (l.along u a).same ∙ ap (walk p n skips (l.along u a).run) (rest-next u d more)

    longer : (u : ℕ) (a : At u row first) → length ((l.along u a).run ++ (u + d * 4) ∷ []) ≡ held + 1
    longer u a = length-append (l.along u a).run ((u + d * 4) ∷ []) ∙ ap (λ (k : ℕ). k + 1) (l.along u a).len

    pub looking-18 : (first + d) % 18 ≡ 17 → Looking tb half n row first start held skips (d + 1)
    looking-18 h =
        record {
          searched = omega arith;
          short = l.short;
          few = omega (arith, l.few);
          begun = omega (arith, l.begun);
          line = l.line;
          place = l.place;
          along = λ u a.
              let k = l.along u a in
              record {
                run = k.run;
                len = k.len;
                head = k.head;
                same = turned u a ∙ walk-skip p n skips k.run _ _ (on-unusable u first d a.place h);
              };
        }

    module _ (h : (first + d) % 18 ≢ 17) where
      test : (b : Bool) → free_for half e.ul1 e.ul2 ≡ b → (u : ℕ) → At u row first → p (u + d * 4) ≡ b
      test b q u a = rw (← on-entry tb u row first d a) q

      pub looking-block : free_for half e.ul1 e.ul2 ≡ false → Looking tb half n row first start 0 (skips + (held + 1)) (d + 1)
      looking-block q =
          record {
            searched = omega arith;
            short = omega (arith, l.short);
            few = omega (arith, l.few);
            begun = omega (arith, l.begun);
            line = l.line;
            place = l.place;
            along = λ u a.
                let k = l.along u a in
                let s : skips + (length k.run + 1) ≡ skips + (held + 1) = ap (λ (j : ℕ). skips + (j + 1)) k.len in
                record {
                  run = [];
                  len = refl;
                  head = λ z. absurd (omega arith);
                  same =
                      turned u a
                      ∙ walk_block p n skips k.run _ _ (on-usable u first d a.place h) (test false q u a)
                      ∙ ap (λ (j : ℕ). walk p n j [] (rest u (d + 1))) s;
                };
          }

      module _ (s : ℕ) (z : held ≡ 0 → s ≡ d) (y : held ≢ 0 → s ≡ start) (q : free_for half e.ul1 e.ul2 ≡ true) where
        headed : (u : ℕ) (a : At u row first) → get_or ((l.along u a).run ++ (u + d * 4) ∷ []) 0 0 ≡ u + s * 4
        headed u a =
            let k = l.along u a in
            head_more k.run _ _
            (λ v. let w : s ≡ d = z (sym k.len ∙ v) in ap (λ (j : ℕ). u + j * 4) (sym w))
            (λ v. let w : s ≡ start = y (λ o. absurd (omega (arith, k.len))) in k.head (omega (arith, k.len)) ∙ ap (λ (j : ℕ). u + j * 4) (sym w))

        pub looking-on : held + 1 ≢ n → s ≤ d + 1 → Looking tb half n row first s (held + 1) skips (d + 1)
        looking-on o b =
            record {
              searched = omega arith;
              short = omega (arith, l.short);
              few = omega (arith, l.few);
              begun = b;
              line = l.line;
              place = l.place;
              along = λ u a.
                  let k = l.along u a in
                  record {
                    run = k.run ++ (u + d * 4) ∷ [];
                    len = longer u a;
                    head = λ v. headed u a;
                    same = turned u a ∙ walk-on p n skips k.run _ _ (on-usable u first d a.place h) (test true q u a) (λ v. o (sym (longer u a) ∙ v));
                  };
            }

        pub looking-end : held + 1 ≡ n → (u : ℕ) → At u row first → Some (record { start = s; skips = skips }) ≡ as_opportunity u (walk p n 0 [] (frames_on u frames_searched))
        looking-end o u a =
            let k = l.along u a in
            let w : walk p n 0 [] (frames_on u frames_searched) ≡ Some (record { delay = skips; slots = k.run ++ (u + d * 4) ∷ [] }) =
            turned u a ∙ walk_end p n skips k.run _ _ (on-usable u first d a.place h) (test true q u a) (longer u a ∙ o) in
            let v : (get_or (k.run ++ (u + d * 4) ∷ []) 0 0 - u) / 4 ≡ s = omega (arith, headed u a) in
            sym (ap (as_opportunity u) w ∙ ap (λ (j : ℕ). Some (record { start = j; skips = skips })) v)

-- the loop is the declarative search
pub walk-opportunity : (tb : Table) (now : TdmaTime) (t n : ℕ) (half : Bool) → 0 < n
    → as_opportunity (first_of t (slot_of now)) (walk (slot_fits half (table_view tb)) n 0 [] (frames_on (first_of t (slot_of now)) frames_searched))
    ≡ opportunity tb now t n half
unfolding opportunity earliest_run candidates
walk-opportunity tb now t n half h =
    ap (as_opportunity (first_of t (slot_of now))) (walk-found (slot_fits half (table_view tb)) n (frames_on (first_of t (slot_of now)) frames_searched) h)

-- ---- the reservation

-- `left` usable slots from d frames after slot u on are still to be reserved
unfoldable pub fill : List Half → ℕ → Option ℕ → ℕ → ℕ → ℕ → Table → Table
fill hs who m left u d tb = reserve tb hs who m (take left (usable_of (rest u d)))

module _ (hs : List Half) (who : ℕ) (m : Option ℕ) (left u d : ℕ) (tb : Table) where
  pub fill_none : left ≡ 0 → fill hs who m left u d tb ≡ tb
  unfolding fill reserve
  fill_none e = rw e

  pub fill_end : d ≡ frames_searched → fill hs who m left u d tb ≡ tb
  unfolding fill reserve usable_of
  fill_end e = rw (rest-none u d e) (none_left left)
    where
      none_left : (k : ℕ) → reserve tb hs who m (take k []) ≡ tb
      none_left zero = refl
      none_left (suc k) = refl

  module _ (row first : ℕ) (a : At u row first) (more : d < frames_searched) where
    pub fill-18 : (first + d) % 18 ≡ 17 → fill hs who m left u d tb ≡ fill hs who m left u (d + 1) tb
    unfolding fill
    fill-18 h =
        ap (λ (cs : List ℕ). reserve tb hs who m (take left cs)) (ap usable_of (rest-next u d more) ∙ usable_of-leaves _ _ (on-unusable u first d a.place h))

    pub fill_one : (first + d) % 18 ≢ 17 → left ≢ 0
        → fill hs who m left u d tb ≡ fill hs who m (left - 1) u (d + 1)
        (set tb row (set (get_or tb row []) ((first + d) % 18) (with_halves (with_marker (get_or (get_or tb row []) ((first + d) % 18) empty_entry) m) hs who)))
    unfolding fill reserve
    fill_one h k =
        let s : left ≡ suc (left - 1) = omega arith in
        let cs : usable_of (rest u d) ≡ (u + d * 4) ∷ usable_of (rest u (d + 1)) =
        ap usable_of (rest-next u d more) ∙ usable_of-keeps _ _ (on-usable u first d a.place h) in
        rw (
          cs,
          on_store tb u row first d (with_halves (with_marker (get_or (get_or tb row []) ((first + d) % 18) empty_entry) m) hs who) a,
          on-entry tb u row first d a,
        )
        (ap (λ (j : ℕ). reserve tb hs who m (take j ((u + d * 4) ∷ usable_of (rest u (d + 1))))) s)

-- from the first opportunity on
pub fill-from : (hs : List Half) (who : ℕ) (m : Option ℕ) (tb : Table) (now : TdmaTime) (t start n : ℕ)
    → fill hs who m n (first_of t (slot_of now)) start tb ≡ reserve tb hs who m (slots_from now t start n)
unfolding fill slots_from
fill-from hs who m tb now t start n = refl
