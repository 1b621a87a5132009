-- A queue's records and cells, timeslot by timeslot and place by place. Assumes nothing.
use Rattle.std.proofs.Common.{◌≡◌, refl, sym, ap, ap₂, ◌∙◌, Bool, ◌&&◌, List, [], ◌∷◌, ℕ, zero, suc, ◌+◌, ◌-◌, ◌*◌, arith}
use Rattle.std.proofs.Common.{length, get_or, take, drop}
use Rattle.std.proofs.lemmas.List.{take-take, drop-take}
use Rattle.std.specs.List.{list_all, enumerate_from, zip}
use Rattle.std.specs.Simd.{first_chunks}
use lib.Dec.{leb, ltb}
use borrow.Author.Tests.{lt-ltb, ltb-true}
use Rattle.sizes.specs.Sizes.{per_timeslot, cell_octets, timeslot_octets}
use Rattle.dl_record.proofs.Tests.{same_test}
use Rattle.dl_record.specs.declared.Record.{Record}
use Rattle.dl_record.specs.Record.{empty_record}
use Rattle.dl_queue.specs.Questions.{sound_place, sound_places, sound_queue}
use Rattle.dl_queue.proofs.PlaceLaws.{step}

filled : (n i : ℕ) → ltb 0 (n - i) ≡ ltb i n
filled n i = same_test (ltb 0 (n - i)) (ltb i n) (λ e. lt-ltb i n (omega (arith, ltb-true 0 (n - i) e))) (λ e. lt-ltb 0 (n - i) (omega (arith, ltb-true i n e)))

-- of a place: its number, its record, its cell
abbrev pub place_passes : ℕ → ℕ × (Record × List ℕ) → Bool
place_passes n p = sound_place (ltb p.0 n) p.1.0 p.1.1

pub places-pass-all : (n k i : ℕ) (rs : List Record) (s : List ℕ) → k ≡ length rs
    → list_all (place_passes n) (enumerate_from i (zip rs (first_chunks cell_octets k s))) ≡ sound_places k (n - i) rs s
unfolding sound_places
places-pass-all n zero i [] s h = refl
places-pass-all n zero i (r ∷ rs) s h = absurd (omega (arith, h))
places-pass-all n (suc k) i [] s h = absurd (omega (arith, h))
places-pass-all n (suc k) i (r ∷ rs) s h =
    let b : n - (i + 1) ≡ n - i - 1 = omega arith in
    ap₂ (λ (t v : Bool). sound_place t r (take cell_octets s) && v) (sym (filled n i))
    (places-pass-all n k (i + 1) rs (drop cell_octets s) (omega (arith, h)) ∙ ap (λ (m : ℕ). sound_places k m rs (drop cell_octets s)) b)
    ∙ sym (step k (n - i) (r ∷ rs) s)

-- places are judged by their own records and cells
first-own : (k : ℕ) (rs : List Record) → get_or (take (suc k) rs) 0 empty_record ≡ get_or rs 0 empty_record
first-own k [] = refl
first-own k (r ∷ rs) = refl

places-own : (k n : ℕ) (rs : List Record) (s : List ℕ) → sound_places k n (take k rs) (take (cell_octets * k) s) ≡ sound_places k n rs s
unfolding sound_places
places-own zero n rs s = refl
places-own (suc k) n rs s =
    let a : suc k ≡ 1 + k = omega arith in
    let b : cell_octets * suc k ≡ cell_octets + cell_octets * k = omega arith in
    step k n (take (suc k) rs) (take (cell_octets * suc k) s)
    ∙ ap₂ (λ (r : Record) (c : List ℕ). sound_place (ltb 0 n) r c
    && sound_places k (n - 1) (drop 1 (take (suc k) rs)) (drop cell_octets (take (cell_octets * suc k) s))) (first-own k rs)
    (take-take cell_octets (cell_octets * suc k) s (omega arith))
    ∙ ap (λ (v : Bool). sound_place (ltb 0 n) (get_or rs 0 empty_record) (take cell_octets s) && v)
    (ap₂ (sound_places k (n - 1)) (ap (λ (m : ℕ). drop 1 (take m rs)) a ∙ drop-take 1 k rs)
    (ap (λ (m : ℕ). drop cell_octets (take m s)) b ∙ drop-take cell_octets (cell_octets * k) s)
    ∙ places-own k (n - 1) (drop 1 rs) (drop cell_octets s))
    ∙ sym (step k n rs s)

-- of a timeslot: its count, its records, its cells
abbrev pub timeslot_passes : (ℕ × List Record) × List ℕ → Bool
timeslot_passes p = leb p.0.0 per_timeslot && sound_places per_timeslot p.0.0 p.0.1 p.1

pub queue-pass-all : (k : ℕ) (ns : List ℕ) (rs : List Record) (s : List ℕ) → k ≡ length ns
    → list_all timeslot_passes (zip (zip ns (first_chunks per_timeslot k rs)) (first_chunks timeslot_octets k s)) ≡ sound_queue ns rs s
unfolding sound_queue
queue-pass-all zero [] rs s h = refl
queue-pass-all zero (n ∷ ns) rs s h = absurd (omega (arith, h))
queue-pass-all (suc k) [] rs s h = absurd (omega (arith, h))
queue-pass-all (suc k) (n ∷ ns) rs s h =
    ap₂ (λ (a b : Bool). leb n per_timeslot && a && b) (places-own per_timeslot n rs s)
    (queue-pass-all k ns (drop per_timeslot rs) (drop timeslot_octets s) (omega (arith, h)))
