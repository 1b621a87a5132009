-- The turns of the two loops that merge. Assumes nothing.
use mathlib.Core.Path.{◌≡◌, refl, sym, ap, ap₂, ◌∙◌}
use mathlib.Core.Bool.{Bool, true, false, not, cond}
use mathlib.Core.List.{List, [], ◌∷◌, ◌++◌}
use Prim.Native.Nat.{ℕ, ◌+◌, ◌<◌, ◌≤◌}
use native.Mathlib.Omega.{arith}
use lib.Dec.{ltb}
use lib.ListN.{length, get_or, set, take, length-append, length-set, length-take}
use lib.Seq.{length-take-le}
use borrow.Author.Tests.{ltb-false}
use Rattle.std.proofs.Common.{Some, None}
use Rattle.std.specs.List.{position, position_or_len}
use Rattle.std.proofs.lemmas.List.{get_or-take}
use Rattle.std.proofs.lemmas.List.Quantifiers.{position-Some}
use Rattle.std.proofs.lemmas.List.Sums.{fails_before_first}
use Rattle.sizes.specs.Sizes.{per_timeslot, no_place}
use Rattle.dl_record.specs.declared.Record.{Record}
use Rattle.dl_record.specs.Record.{empty_record}
use Rattle.dl_record.specs.Kind.{is_grant_or_ack, is_kept}
use Rattle.dl_queue.specs.Queue.{Item, item, records_of}
use Rattle.dl_queue.proofs.SetLaws.{length-records}
use Rattle.dl_merge.specs.Merge.{only, put, puts, merge, takes_number, joined, minimal, keep, always}
use Rattle.dl_merge.specs.Places.{counted, sources_of, merged_of, merge_places, pushed}
use Rattle.dl_merge.specs.declared.Merged.{Merged}
use Rattle.dl_merge.proofs.ListLaws.{records-set, records-snoc, records-at, sources-snoc, sources-keep, length-counted, counted-more, only-mono}
use Rattle.dl_merge.proofs.MergeLaws.{only-pass, only-fail, only-both, put-at, put-end, length-puts, puts-snoc}

-- a record behind a list
pushed-is : (xs : List (Item ℕ)) (r : Record) (i : ℕ) → length xs < per_timeslot → pushed (merged_of xs) r i ≡ merged_of (xs ++ item r i ∷ [])
pushed-is xs r i b =
    λ j. record {
      records = sym (records-snoc per_timeslot xs (item r i) b) j;
      from = sym (sources-snoc per_timeslot xs (item r i) b) j;
      count = sym (length-append xs (item r i ∷ [])) j;
    }

-- ---- the records that stay

abbrev pub kept_up_to : ℕ → List Record → List (Item ℕ)
kept_up_to i rs = only is_kept (counted 0 i rs)

pub kept-few : (i : ℕ) (rs : List Record) → length (kept_up_to i rs) ≤ i
kept-few i rs = omega (arith, only-both (counted 0 i rs), length-counted 0 i rs)

module _ (rs : List Record) (i : ℕ) (m : Merged) (r : Record) (is : r ≡ get_or rs i empty_record) (h : m ≡ merged_of (kept_up_to i rs)) where
  pub kept-pass : i < per_timeslot → is_grant_or_ack r.kind ≡ false → pushed m r i ≡ merged_of (kept_up_to (i + 1) rs)
  kept-pass b e =
      ap (λ (q : Merged). pushed q r i) h ∙ pushed-is (kept_up_to i rs) r i (omega (arith, kept-few i rs))
      ∙ ap merged_of (sym (ap (only is_kept) (counted-more i rs r is) ∙ only-pass is_kept (counted 0 i rs) (item r i) (ap not e)))

  pub kept-fail : is_grant_or_ack r.kind ≡ true → m ≡ merged_of (kept_up_to (i + 1) rs)
  kept-fail e = h ∙ ap merged_of (sym (ap (only is_kept) (counted-more i rs r is) ∙ only-fail is_kept (counted 0 i rs) (item r i) (ap not e)))

-- ---- the grants and acks

abbrev pub joins : ℕ → ℕ → List Record → List (Item ℕ)
joins n j rs = puts (always no_place) keep (only is_grant_or_ack (counted 0 j rs)) (kept_up_to n rs)

pub joins-few : (n j : ℕ) (rs : List Record) → j ≤ n → length (joins n j rs) ≤ n
joins-few n j rs h =
    omega (
      arith,
      length-puts (always no_place) keep (only is_grant_or_ack (counted 0 j rs)) (kept_up_to n rs),
      only-mono is_grant_or_ack 0 j n rs h,
      only-both (counted 0 n rs),
      length-counted 0 n rs,
    )

pub joins-done : (n : ℕ) (rs : List Record) → joins n n rs ≡ merge_places (counted 0 n rs)
unfolding merge
joins-done n rs = refl

-- where none is found, none passes
position-none : {X : Type 0} (p : X → Bool) (xs : List X) (k : ℕ) (d : X) → position p xs ≡ None → k < length xs → p (get_or xs k d) ≡ false
position-none p xs k d e h = go (ltb (position_or_len p xs) (length xs)) refl
  where
    go : (b : Bool) → ltb (position_or_len p xs) (length xs) ≡ b → p (get_or xs k d) ≡ false
    go true f =
        let s : Some (position_or_len p xs) ≡ None = sym (ap (λ (b : Bool). cond b (Some (position_or_len p xs)) None) f) ∙ e in
        absurd (let z : ◌≡◌ {A = ℕ} 0 1 = cc in omega arith)
    go false f = fails_before_first p xs k d (omega (arith, ltb-false (position_or_len p xs) (length xs) f))

-- the index found stands in the arrays
pub found-within : (n j : ℕ) (rs : List Record) (m : Merged) → m ≡ merged_of (joins n j rs) → n ≤ per_timeslot → j ≤ n → (number f : ℕ)
    → position (takes_number number) (take m.count m.records) ≡ Some f → f < per_timeslot
found-within n j rs m h few b number f e =
    omega (
      arith,
      (position-Some (takes_number number) (take m.count m.records) f empty_record e).0,
      length-take m.count m.records,
      ap (λ (q : Merged). q.count) h,
      joins-few n j rs b,
    )

module _ (n : ℕ) (rs : List Record) (j : ℕ) (m : Merged) (g : Record) (is : g ≡ get_or rs j empty_record) (h : m ≡ merged_of (joins n j rs)) where
  pub pass-turn : is_grant_or_ack g.kind ≡ false → m ≡ merged_of (joins n (j + 1) rs)
  pass-turn e =
      h ∙ ap (λ (l : List (Item ℕ)). merged_of (puts (always no_place) keep l (kept_up_to n rs)))
      (sym (ap (only is_grant_or_ack) (counted-more j rs g is) ∙ only-fail is_grant_or_ack (counted 0 j rs) (item g j) e))

  module _ (few : n ≤ per_timeslot) (less : j < n) (e : is_grant_or_ack g.kind ≡ true) where
    more : joins n (j + 1) rs ≡ put (always no_place) keep (item g j) (joins n j rs)
    more =
        ap (λ (l : List (Item ℕ)). puts (always no_place) keep l (kept_up_to n rs))
        (ap (only is_grant_or_ack) (counted-more j rs g is) ∙ only-pass is_grant_or_ack (counted 0 j rs) (item g j) e)
        ∙ puts-snoc (always no_place) keep (only is_grant_or_ack (counted 0 j rs)) (item g j) (kept_up_to n rs)

    -- with a grant or ack still to come there is room for one more
    pub room : length (joins n j rs) < per_timeslot
    room =
        let one : length (only is_grant_or_ack (counted 0 (j + 1) rs)) ≡ length (only is_grant_or_ack (counted 0 j rs)) + 1 =
        ap length (ap (only is_grant_or_ack) (counted-more j rs g is) ∙ only-pass is_grant_or_ack (counted 0 j rs) (item g j) e)
        ∙ length-append (only is_grant_or_ack (counted 0 j rs)) (item g j ∷ []) in
        omega (
          arith,
          one,
          length-puts (always no_place) keep (only is_grant_or_ack (counted 0 j rs)) (kept_up_to n rs),
          only-mono is_grant_or_ack 0 (j + 1) n rs (omega arith),
          only-both (counted 0 n rs),
          length-counted 0 n rs,
        )

    pub count-room : m.count < per_timeslot
    count-room = omega (arith, room, ap (λ (q : Merged). q.count) h)

    -- the search looks at the records of the list
    seen : (f : ℕ) → f < length (joins n j rs)
        → get_or (take (length (joins n j rs)) (records_of per_timeslot (joins n j rs))) f empty_record
        ≡ (get_or (joins n j rs) f (item empty_record no_place)).rec
    seen f b =
        get_or-take (length (joins n j rs)) (records_of per_timeslot (joins n j rs)) f empty_record b
        ∙ records-at per_timeslot (joins n j rs) f (item empty_record no_place) b (omega (arith, room))

    searched : position (takes_number g.address.number) (take m.count m.records)
        ≡ position (takes_number g.address.number) (take (length (joins n j rs)) (records_of per_timeslot (joins n j rs)))
    searched = ap (λ (q : Merged). position (takes_number g.address.number) (take q.count q.records)) h

    looked : length (take (length (joins n j rs)) (records_of per_timeslot (joins n j rs))) ≡ length (joins n j rs)
    looked = length-take-le (length (joins n j rs)) (records_of per_timeslot (joins n j rs)) (omega (arith, room, length-records per_timeslot (joins n j rs)))

    pub found-turn : (f : ℕ) (q : Record) → position (takes_number g.address.number) (take m.count m.records) ≡ Some f
        → q ≡ joined g (get_or m.records f empty_record)
        → ◌≡◌ {A = Merged} (record { records = set m.records f q; from = m.from; count = m.count }) (merged_of (joins n (j + 1) rs))
    found-turn f q at made =
        let xs : List (Item ℕ) = joins n j rs in
        let d : Item ℕ = item empty_record no_place in
        let p = position-Some (takes_number g.address.number) (take (length xs) (records_of per_timeslot xs)) f empty_record (sym searched ∙ at) in
        let b : f < length xs = omega (arith, p.0, looked) in
        let y : Record = (get_or xs f d).rec in
        let same : get_or m.records f empty_record ≡ y =
        ap (λ (o : Merged). get_or o.records f empty_record) h ∙ records-at per_timeslot xs f d b (omega (arith, room)) in
        let new : joins n (j + 1) rs ≡ set xs f (item (joined g y) (get_or xs f d).load) =
        more
        ∙ put-at (always no_place) keep (item g j) xs f d b
        (λ k l. ap (takes_number g.address.number) (sym (seen k (omega (arith, b)))) ∙ p.2 k l)
        (ap (takes_number g.address.number) (sym (seen f b)) ∙ p.1) in
        λ i. record {
          records =
              (ap₂ (λ (l : List Record) (r : Record). set l f r) (ap (λ (o : Merged). o.records) h) (made ∙ ap (joined g) same)
              ∙ sym (ap (records_of per_timeslot) new ∙ records-set per_timeslot xs f (item (joined g y) (get_or xs f d).load) b)) i;
          from = (ap (λ (o : Merged). o.from) h ∙ sym (ap (sources_of per_timeslot) new ∙ sources-keep per_timeslot xs f (joined g y) d b)) i;
          count = (ap (λ (o : Merged). o.count) h ∙ sym (ap length new ∙ length-set xs f (item (joined g y) (get_or xs f d).load))) i;
        }

    pub none-turn : (q : Record) → position (takes_number g.address.number) (take m.count m.records) ≡ None → q ≡ minimal g
        → pushed m q no_place ≡ merged_of (joins n (j + 1) rs)
    none-turn q none made =
        let xs : List (Item ℕ) = joins n j rs in
        ap₂ (λ (o : Merged) (r : Record). pushed o r no_place) h made ∙ pushed-is xs (minimal g) no_place room
        ∙ ap merged_of (sym (more
        ∙ put-end (always no_place) keep (item g j) xs (item empty_record no_place)
        (λ k l. ap (takes_number g.address.number) (sym (seen k l))
        ∙ position-none (takes_number g.address.number) (take (length xs) (records_of per_timeslot xs)) k empty_record (sym searched ∙ none) (omega (arith, looked, l)))))
