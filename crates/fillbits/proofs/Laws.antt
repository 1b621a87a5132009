-- The laws of `specs/Fill.antt`, each for any width. Assumes nothing.
--   fill-fits      a PDU with the fill it wants fits the room
--   fill-ends      it ends with an octet, or with the room
--   fill-removed   bits with `k` fill bits behind them end with `k` fill bits
--   fill-written   `k` fill bits written, then removed, are `k`
--   fill-found     the bits found are a set bit and the clear bits behind it, all within the run
--   fill-some      where a bit of the run is set, fill bits are found
--   fill_none      where none are found, no bit of the run is set
--   fill-only      no other number of fill bits stands there
use mathlib.Core.Path.{◌≡◌, refl, sym, ap, ◌∙◌}
use mathlib.Core.Bool.{Bool, true, false}
use mathlib.Core.List.{List, [], ◌∷◌, ◌++◌, append_assoc, append-nil}
use Prim.Native.Nat.{ℕ, zero, suc, ◌+◌, ◌-◌, ◌*◌, ◌%◌, ◌≤◌, ◌<◌}
use native.Mathlib.Numerals.{add-one, sub-one}
use native.Mathlib.Omega.{arith}
use borrow.Author.Tests.{ltb-true, ltb-false, le-leb, lt-leb}
use lib.Dec.{ltb, eqb-suc-zero}
use lib.ListN.{length, take, drop, get_or, set, replicate, length-append, length-take, length-drop, length-replicate, get_or-replicate}
use lib.Seq.{take-suc, get_or-drop, get_or-take, get_or-append_seam, get_or-append-add}
use Rattle.bitbuffer.specs.Bits.{bits_of, part, written, AreBits, Wrote}
use Rattle.bitbuffer.proofs.Laws.{bits-take, bits-drop, part-written}
use Rattle.bitbuffer.proofs.Octets.{part-split}
use Rattle.fillbits.specs.Fill.{to_octet, fill_wanted, fill_bits, from_last_set, fill_at_end, fill_reply}
use Rattle.questions.specs.declared.Refusal.{Refusal}
use Rattle.questions.specs.Questions.{ask, reply}
use Rattle.questions.proofs.NumberLaws.{number-positive, number-tells}
use Rattle.std.specs.Prelude.{Result, Ok, Err}

-- ---- the fill that a PDU wants

pub fill-fits : (room n : ℕ) → n ≤ room → n + fill_wanted room n ≤ room
fill-fits room n h = omega arith

pub fill-ends : (room n : ℕ) → n + fill_wanted room n < room → (n + fill_wanted room n) % 8 ≡ 0
fill-ends room n h =
    let e : fill_wanted room n ≡ to_octet n = omega arith in
    rw e (omega arith)

-- ---- a run of bits

pub length-fill_bits : (k : ℕ) → length (fill_bits k) ≡ k
unfolding fill_bits
length-fill_bits zero = refl
length-fill_bits (suc k) = ap suc (length-replicate k 0)

clear_none : (k : ℕ) → from_last_set (replicate k 0) ≡ 0
unfolding from_last_set
clear_none zero = refl
clear_none (suc k) = rw (clear_none k)

pub fill-removed : (l : List ℕ) (k : ℕ) → 0 < k → from_last_set (l ++ fill_bits k) ≡ k
unfolding from_last_set fill_bits
fill-removed l zero h = absurd (omega arith)
fill-removed [] (suc k) h = rw (clear_none k) (ap suc (length-replicate k 0))
fill-removed (b ∷ l) (suc k) h = rw (fill-removed l (suc k) h, eqb-suc-zero k)

-- a run of bits is clear, or some bits and then fill bits
data Shape (l : List ℕ) : Type 0 where
  clear : (k : ℕ) → l ≡ replicate k 0 → Shape l
  filled : (front : List ℕ) (k : ℕ) → l ≡ front ++ fill_bits (suc k) → Shape l

shape : (l : List ℕ) → AreBits l → Shape l
unfolding AreBits fill_bits
shape [] h = clear 0 refl
shape (b ∷ l) h = step b h.0 (shape l h.1)
  where
    step : (b : ℕ) → b < 2 → Shape l → Shape (b ∷ l)
    step b h (filled f k e) = filled (b ∷ f) k (ap (◌∷◌ b) e)
    step zero h (clear k e) = clear (suc k) (ap (◌∷◌ 0) e)
    step (suc zero) h (clear k e) = filled [] k (ap (◌∷◌ 1) e)
    step (suc (suc b)) h (clear k e) = absurd (omega arith)

-- ---- the bits from `start` up to `end`

-- `n` fill bits, one or more, stand at the end of the bits from `start` up to `end`
pub record FillAt (l : List ℕ) (start end n : ℕ) : Type 0 where
  -- there is one
  pub some : 0 < n
  -- none of them stands before the start
  pub inside : start + n ≤ end
  -- the first of them is set
  pub set : get_or l (end - n) 0 ≡ 1
  -- the others are clear
  pub clear : (i : ℕ) → end - n < i → i < end → get_or l i 0 ≡ 0

module _ (l : List ℕ) (start end : ℕ) (bits : AreBits l) (fits : end ≤ length l) where
  run : List ℕ
  run = take (end - start) (drop start l)

  run-shape : Shape run
  unfolding run
  run-shape = shape _ (bits-take (end - start) (drop start l) (bits-drop start l bits))

  run_length : length run ≡ end - start
  unfolding run
  run_length = rw (length-take, length-drop) (omega arith)

  run-bit : (j : ℕ) → j < end - start → get_or run j 0 ≡ get_or l (start + j) 0
  unfolding run
  run-bit j h = get_or-take (end - start) (drop start l) j 0 h ∙ get_or-drop start l j 0

  -- a clear run
  clear-run : (k : ℕ) → run ≡ replicate k 0 → (fill_at_end l start end ≡ 0) × ((i : ℕ) → start ≤ i → i < end → get_or l i 0 ≡ 0)
  unfolding fill_at_end part run
  clear-run k e =
      let n : k ≡ end - start = sym (length-replicate k 0) ∙ ap length (sym e) ∙ run_length in (
        ap from_last_set e ∙ clear_none k,
        λ i h g.
            let q : i ≡ start + (i - start) = omega arith in
            ap (λ (j : ℕ). get_or l j 0) q ∙ sym (run-bit (i - start) (omega arith)) ∙ ap (λ (m : List ℕ). get_or m (i - start) 0) e
            ∙ get_or-replicate k (i - start) 0 0 (omega arith),
      )

  -- a run with fill bits
  filled-run : (front : List ℕ) (k : ℕ) → run ≡ front ++ fill_bits (suc k)
      → (fill_at_end l start end ≡ suc k) × FillAt l start end (suc k)
  unfolding fill_at_end part run fill_bits
  filled-run front k e =
      let n : length front + suc k ≡ end - start =
      sym (length-append front (fill_bits (suc k)) ∙ ap (λ (m : ℕ). length front + m) (length-fill_bits (suc k))) ∙ ap length (sym e) ∙ run_length in
      let at : end - suc k ≡ start + length front = omega arith in (
        ap from_last_set e ∙ fill-removed front (suc k) (omega arith),
        record {
          some = omega arith;
          inside = omega arith;
          set = ap (λ (j : ℕ). get_or l j 0) at ∙ sym (run-bit (length front) (omega arith)) ∙ ap (λ (m : List ℕ). get_or m (length front) 0) e
              ∙ get_or-append_seam front 1 (replicate k 0) 0;
          clear = λ i h g.
              let j = i - suc (start + length front) in
              let q : i ≡ start + (length front + suc j) = omega arith in
              ap (λ (j : ℕ). get_or l j 0) q ∙ sym (run-bit (length front + suc j) (omega arith)) ∙ ap (λ (m : List ℕ). get_or m (length front + suc j) 0) e
              ∙ get_or-append-add front (fill_bits (suc k)) (suc j) 0 ∙ get_or-replicate k j 0 0 (omega arith);
        },
      )

  pub fill-found : 0 < fill_at_end l start end → FillAt l start end (fill_at_end l start end)
  fill-found h = go run-shape
    where
      go : Shape run → FillAt l start end (fill_at_end l start end)
      go (clear k e) = let z = (clear-run k e).0 in absurd (omega arith)
      go (filled f k e) = rw (filled-run f k e).0 (filled-run f k e).1

  pub fill_none : fill_at_end l start end ≡ 0 → (i : ℕ) → start ≤ i → i < end → get_or l i 0 ≡ 0
  fill_none h = go run-shape
    where
      go : Shape run → (i : ℕ) → start ≤ i → i < end → get_or l i 0 ≡ 0
      go (clear k e) = (clear-run k e).1
      go (filled f k e) = let z = (filled-run f k e).0 in absurd (omega arith)

  pub fill-some : (i : ℕ) → start ≤ i → i < end → get_or l i 0 ≡ 1 → 0 < fill_at_end l start end
  fill-some i h g b = go run-shape
    where
      go : Shape run → 0 < fill_at_end l start end
      go (clear k e) = let z = (clear-run k e).1 i h g in absurd (omega arith)
      go (filled f k e) = let z = (filled-run f k e).0 in omega arith

  pub fill-only : (n : ℕ) → FillAt l start end n → fill_at_end l start end ≡ n
  fill-only n a = go (ltb n m) refl (ltb m n) refl
    where
      m : ℕ
      m = fill_at_end l start end

      b : FillAt l start end m
      b = fill-found (fill-some (end - n) (let x = a.inside in omega arith) (let x = a.inside in let y = a.some in omega arith) a.set)

      go : (p : Bool) → ltb n m ≡ p → (q : Bool) → ltb m n ≡ q → m ≡ n
      go true e q f =
          let x = ltb-true n m e in
          let y = a.inside in
          let y2 = a.some in
          let w = b.inside in
          let z = b.clear (end - n) (omega arith) (omega arith) in
          let u = a.set in
          absurd (omega arith)
      go false e true f =
          let x = ltb-true m n f in
          let y = b.inside in
          let y2 = b.some in
          let w = a.inside in
          let z = a.clear (end - m) (omega arith) (omega arith) in
          let u = b.set in
          absurd (omega arith)
      go false e false f =
          let x = ltb-false n m e in
          let y = ltb-false m n f in
          omega arith

-- ---- written, then removed

pub fill-written : (l : List ℕ) (start at k : ℕ) → start ≤ at → at + k ≤ length l → 0 < k → fill_at_end (written l at (fill_bits k)) start (at + k) ≡ k
unfolding fill_at_end
fill-written l start at k h g p =
    let w = written l at (fill_bits k) in
    let n : at + k - start ≡ at - start + k = omega arith in
    let q : start + (at - start) ≡ at = omega arith in
    ap (λ (m : ℕ). from_last_set (part w start m)) n
    ∙ ap from_last_set (part-split w start (at - start) k ∙ ap (λ (i : ℕ). part w start (at - start) ++ part w i k) q
    ∙ ap (◌++◌ (part w start (at - start))) (ap (part w at) (sym (length-fill_bits k)) ∙ part-written l at (fill_bits k) (rw length-fill_bits g)))
    ∙ fill-removed (part w start (at - start)) k p

-- ---- writing: nothing, or a set bit and then clear ones

pub wrote_nothing : (l : List ℕ) (at n : ℕ) → n ≡ 0 → (at ≡ at + n) × Wrote l at l at (fill_bits n)
unfolding written fill_bits
wrote_nothing l at n e = rw e (omega arith, record { ends = omega arith; bits = refl })

pub wrote-fill : (l m : List ℕ) (at n : ℕ) → (n ≡ 0 → ⊥) → m ≡ written (set l at 1) (at + 1) (replicate (n - 1) 0) → Wrote l at m (at + n) (fill_bits n)
unfolding written fill_bits
wrote-fill l m at zero h e = absurd (h refl)
wrote-fill l m at (suc n) h e = record { ends = rw length-replicate; bits = e ∙ rw (sub-one, add-one) }

-- ---- one bit nearer the front: the bits up to `at`, with clear bits from there up to `end`

pub before-none : (l : List ℕ) (start at end : ℕ) → at ≤ start → 0 ≡ from_last_set (part l start (at - start) ++ replicate (end - at) 0)
unfolding part
before-none l start at end h =
    let n : at - start ≡ 0 = omega arith in
    rw n (sym (clear_none (end - at)))

-- the last bit of a part
part-last : (l : List ℕ) (start at : ℕ) → start < at → at ≤ length l → part l start (at - start) ≡ part l start (at - 1 - start) ++ (get_or l (at - 1) 0 ∷ [])
unfolding part
part-last l start at h g =
    let j = at - 1 - start in
    let n : at - start ≡ suc j = omega arith in
    let q : start + j ≡ at - 1 = omega arith in
    ap (λ (m : ℕ). take m (drop start l)) n ∙ take-suc (drop start l) j 0 (rw length-drop (omega arith))
    ∙ ap (λ (x : ℕ). take j (drop start l) ++ (x ∷ [])) (get_or-drop start l j 0 ∙ ap (λ (i : ℕ). get_or l i 0) q)

pub before-set : (l : List ℕ) (start at end : ℕ) → start < at → at ≤ end → at ≤ length l → get_or l (at - 1) 0 ≡ 1
    → end - (at - 1) ≡ from_last_set (part l start (at - start) ++ replicate (end - at) 0)
unfolding fill_bits
before-set l start at end h g f b =
    let n : end - (at - 1) ≡ suc (end - at) = omega arith in
    let front = part l start (at - 1 - start) in
    sym (ap (λ (p : List ℕ). from_last_set (p ++ replicate (end - at) 0)) (part-last l start at h f ∙ ap (λ (x : ℕ). front ++ (x ∷ [])) b)
    ∙ ap from_last_set (append_assoc front (1 ∷ []) (replicate (end - at) 0))
    ∙ fill-removed front (suc (end - at)) (omega arith) ∙ sym n)

pub before-clear : (l : List ℕ) (start at end : ℕ) → start < at → at ≤ end → at ≤ length l → get_or l (at - 1) 0 ≡ 0
    → from_last_set (part l start (at - start) ++ replicate (end - at) 0) ≡ from_last_set (part l start (at - 1 - start) ++ replicate (end - (at - 1)) 0)
before-clear l start at end h g f b =
    let k : end - (at - 1) ≡ suc (end - at) = omega arith in
    let front = part l start (at - 1 - start) in
    ap (λ (p : List ℕ). from_last_set (p ++ replicate (end - at) 0)) (part-last l start at h f ∙ ap (λ (x : ℕ). front ++ (x ∷ [])) b)
    ∙ ap from_last_set (append_assoc front (0 ∷ []) (replicate (end - at) 0))
    ∙ ap (λ (k : ℕ). from_last_set (front ++ replicate k 0)) (sym k)

-- a whole run has no clear bits behind it
pub before-all : (l : List ℕ) (start end : ℕ) → from_last_set (part l start (end - start) ++ replicate (end - end) 0) ≡ fill_at_end l start end
unfolding fill_at_end
before-all l start end =
    let n : end - end ≡ 0 = omega arith in
    ap (λ (k : ℕ). from_last_set (part l start (end - start) ++ replicate k 0)) n ∙ ap from_last_set (append-nil (part l start (end - start)))

-- ---- the answers of fill removal

-- the reply determines the answer
pub reply-answer : (a b : Result ℕ Refusal) → reply a ≡ reply b → a ≡ b
reply-answer (Ok n) (Ok m) e = ap Ok (ap (λ (l : List ℕ). get_or l 1 0) e)
reply-answer (Ok n) (Err b) e = let x = ap (λ (l : List ℕ). get_or l 0 0) e in absurd (omega (arith, number-positive b))
reply-answer (Err a) (Ok m) e = let x = ap (λ (l : List ℕ). get_or l 0 0) e in absurd (omega (arith, number-positive a))
reply-answer (Err a) (Err b) e = ap Err (number-tells a b (ap (λ (l : List ℕ). get_or l 0 0) e))

pub refused-past-end : (s : List ℕ) (start end : ℕ) → 8 * length s < end → reply (Err Refusal.NoRoom) ≡ fill_reply s start end
unfolding fill_reply ask
refused-past-end s start end h = rw (lt-leb end (8 * length s) h)

pub bits-found : (s : List ℕ) (start end n : ℕ) → end ≤ 8 * length s → n ≡ fill_at_end (bits_of s) start end → reply (Ok n) ≡ fill_reply s start end
unfolding fill_reply ask
bits-found s start end n h e = rw (le-leb end (8 * length s) h, e)
