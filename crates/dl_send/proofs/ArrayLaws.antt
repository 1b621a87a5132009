-- Records with their places, and tags, as arrays hold them. Assumes nothing.
use mathlib.Core.Path.{◌≡◌, refl, sym, ap, ap₂, ◌∙◌}
use mathlib.Core.List.{List, [], ◌∷◌, ◌++◌, map}
use Prim.Native.Nat.{ℕ, zero, suc, ◌+◌, ◌<◌, ◌≤◌}
use native.Mathlib.Numerals.{add-one, one-add}
use native.Mathlib.Omega.{arith}
use lib.ListN.{length, get_or, set, drop, length-append, drop_of_length-le, length-map, get_or-map}
use lib.Seq.{get_or-drop}
use Rattle.sizes.specs.Sizes.{per_timeslot}
use Rattle.dl_record.specs.declared.Record.{Record}
use Rattle.dl_record.specs.Record.{empty_record}
use Rattle.dl_queue.specs.Queue.{Item, item, records_of}
use Rattle.lists.proofs.Lists.{get_d_any}
use Rattle.dl_merge.specs.Places.{sources_of}
use Rattle.dl_merge.proofs.ListLaws.{records-snoc, sources-snoc}
use Rattle.bs_frag.specs.NextPdu.{Sendable}
use Rattle.dl_send.specs.Arrays.{listed, progress_with, tag_row, AllSendable}
use Rattle.dl_send.specs.declared.Progress.{Progress}

-- ---- the list that the arrays hold

pub length-listed : (n : ℕ) (rs : List Record) (fs : List ℕ) → length (listed n rs fs) ≡ n
unfolding listed
length-listed zero rs fs = refl
length-listed (suc n) rs fs = ap suc (length-listed n (drop 1 rs) (drop 1 fs))

listed_cons : (n : ℕ) (rs : List Record) (fs : List ℕ) (i : ℕ) → i < n
    → drop i (listed n rs fs) ≡ item (get_or rs i empty_record) (get_or fs i 0) ∷ drop (suc i) (listed n rs fs)
unfolding listed
listed_cons zero rs fs i h = absurd (omega arith)
listed_cons (suc n) rs fs zero h = refl
listed_cons (suc n) rs fs (suc i) h =
    listed_cons n (drop 1 rs) (drop 1 fs) i (omega arith)
    ∙ ap₂ (λ (r : Record) (f : ℕ). item r f ∷ drop (suc i) (listed n (drop 1 rs) (drop 1 fs)))
    (get_or-drop 1 rs i empty_record ∙ ap (λ (j : ℕ). get_or rs j empty_record) (one-add i))
    (get_or-drop 1 fs i 0 ∙ ap (λ (j : ℕ). get_or fs j 0) (one-add i))

-- the item at i is the next of those from i on
pub listed_next : (n : ℕ) (rs : List Record) (fs : List ℕ) (i : ℕ) → i < n
    → drop i (listed n rs fs) ≡ item (get_or rs i empty_record) (get_or fs i 0) ∷ drop (i + 1) (listed n rs fs)
listed_next n rs fs i h =
    listed_cons n rs fs i h ∙ ap (λ (j : ℕ). item (get_or rs i empty_record) (get_or fs i 0) ∷ drop j (listed n rs fs)) (sym (add-one i))

pub listed-end : (n : ℕ) (rs : List Record) (fs : List ℕ) (i : ℕ) → n ≤ i → drop i (listed n rs fs) ≡ []
listed-end n rs fs i h = drop_of_length-le (listed n rs fs) {i = i} (rw (length-listed n rs fs) h)

-- what stands at the i-th of these places, as the code takes it out
pub stands-at : {A : Type 0} (places : List ℕ) (xs : List A) (i : ℕ) (d e : A) → i < length places → get_or places i 0 < length xs
    → get_or xs (get_or places i 0) d ≡ get_or (map (λ (p : ℕ). get_or xs p e) places) i e
stands-at {A} places xs i d e h k =
    get_d_any xs (get_or places i 0) d e k ∙ sym (get_or-map (λ (p : ℕ). get_or xs p e) places i 0)
    ∙ get_d_any (map (λ (p : ℕ). get_or xs p e) places) i (get_or xs 0 e) e (rw length-map h)

all-at : (l : List (Item ℕ)) (i : ℕ) (x : Item ℕ) (rest : List (Item ℕ)) → AllSendable l → drop i l ≡ x ∷ rest → Sendable x.rec
unfolding AllSendable
all-at [] zero x rest h e = absurd (let z : ◌≡◌ {A = ℕ} 0 (suc (length rest)) = ap length e in omega arith)
all-at [] (suc i) x rest h e = absurd (let z : ◌≡◌ {A = ℕ} 0 (suc (length rest)) = ap length e in omega arith)
all-at (y ∷ l) zero x rest h e = let same : y ≡ x = cc in rw same at h.0
all-at (y ∷ l) (suc i) x rest h e = all-at l i x rest h.1 e

pub sendable-at : (n : ℕ) (rs : List Record) (fs : List ℕ) (i : ℕ) → AllSendable (listed n rs fs) → i < n → Sendable (get_or rs i empty_record)
sendable-at n rs fs i a h = all-at (listed n rs fs) i (item (get_or rs i empty_record) (get_or fs i 0)) _ a (listed_next n rs fs i h)

-- ---- a record and a tag behind those held

tags-snoc : (k : ℕ) (ts : List ℕ) (t : ℕ) → length ts < k → set (tag_row k ts) (length ts) t ≡ tag_row k (ts ++ t ∷ [])
unfolding tag_row
tags-snoc zero ts t h = absurd (omega arith)
tags-snoc (suc k) [] t h = refl
tags-snoc (suc k) (x ∷ ts) t h = ap (◌∷◌ x) (tags-snoc k ts t (omega arith))

pub kept-behind : (xs : List (Item ℕ)) (ts : List ℕ) (r : Record) (place : ℕ) → length xs < per_timeslot
    → ◌≡◌ {A = Progress} (record {
      records = set (records_of per_timeslot xs) (length xs) r;
      from = set (sources_of per_timeslot xs) (length xs) place;
      left = length xs + 1;
      tags = record { tags = tag_row per_timeslot ts; tag_count = length ts };
    }) (progress_with (xs ++ item r place ∷ []) ts)
kept-behind xs ts r place h =
    λ j. record {
      records = sym (records-snoc per_timeslot xs (item r place) h) j;
      from = sym (sources-snoc per_timeslot xs (item r place) h) j;
      left = sym (length-append xs (item r place ∷ [])) j;
      tags = record { tags = tag_row per_timeslot ts; tag_count = length ts };
    }

pub tag-behind : (xs : List (Item ℕ)) (ts : List ℕ) (t : ℕ) → length ts < per_timeslot
    → ◌≡◌ {A = Progress} (record {
      records = records_of per_timeslot xs;
      from = sources_of per_timeslot xs;
      left = length xs;
      tags = record { tags = set (tag_row per_timeslot ts) (length ts) t; tag_count = length ts + 1 };
    }) (progress_with xs (ts ++ t ∷ []))
tag-behind xs ts t h =
    λ j. record {
      records = records_of per_timeslot xs;
      from = sources_of per_timeslot xs;
      left = length xs;
      tags = record { tags = tags-snoc per_timeslot ts t h j; tag_count = sym (length-append ts (t ∷ [])) j };
    }
