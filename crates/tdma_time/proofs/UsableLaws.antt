-- Laws of the first usable slot of a timeslot, and of its usable slots in succession.
-- Assumes nothing.
use mathlib.Core.Path.{◌≡◌, refl, sym, ap, ap₂, ◌∙◌}
use mathlib.Core.Logic.{⊎_elim, ◌≢◌}
use mathlib.Core.Bool.{Bool, true, false, cond}
use mathlib.Core.List.{List, ◌∷◌, map, Memᴰ}
use Prim.Native.Nat.{ℕ, zero, suc, ◌+◌, ◌-◌, ◌≤◌, ◌<◌}
use native.Mathlib.Omega.{arith}
use native.Mathlib.Nat.{zero-add, suc-add}
use lib.ListN.{length, take, drop}
use lib.Dec.{eqb}
use borrow.Author.Tests.{eqb-true, eqb-false}
use Rattle.lists.proofs.Every.{All}
use Rattle.tdma_time.specs.Time.{clock, timeslot, frame, usable, first_of, frames_on, usable_of, first_usable, usables}
use Rattle.tdma_time.proofs.Basics.{either, RisingFrom}
use Rattle.tdma_time.proofs.TimeLaws.{clock-add, clock-cancel, clock-frame}
use Rattle.tdma_time.proofs.SlotLaws.{usable-frame, unusable-frame, frame-usable, usable-cong, Good, first-from, first_slot, first-least, first-self}
use Rattle.tdma_time.proofs.SlotLaws.{first_next, first-clock}

-- ---- the first usable slot

-- it is the first slot, if that is usable
pub usable-here : (t n : ℕ) → usable (first_of t n) ≡ true → first_usable t n ≡ first_of t n
unfolding first_usable
usable-here t n h = rw h

-- or else the one a frame on
pub usable-on : (t n : ℕ) → usable (first_of t n) ≡ false → first_usable t n ≡ first_of t n + 4
unfolding first_usable
usable-on t n h = rw h

-- a usable slot of the timeslot is itself the first
pub usable-self : (t n : ℕ) → Good t n → first_usable t n ≡ n
usable-self t n g =
    let self : first_of t n ≡ n = first-self t n g.slot in
    usable-here t n (rw self (frame-usable n g.not18)) ∙ self

-- which of the two it is
pub data Which (t n : ℕ) : Type 0 where
  here : frame (first_of t n) ≢ 18 → first_usable t n ≡ first_of t n → Which t n
  on : frame (first_of t n) ≡ 18 → first_usable t n ≡ first_of t n + 4 → Which t n

pub which : (t n : ℕ) → Which t n
which t n = ⊎_elim (λ u. here (usable-frame _ u) (usable-here t n u)) (λ u. on (unusable-frame _ u) (usable-on t n u)) (either (usable (first_of t n)))

-- it is at or after n
pub first_usable-from : (t n : ℕ) → n ≤ first_usable t n
first_usable-from t n = go (which t n)
  where
    go : Which t n → n ≤ first_usable t n
    go (here p q) = omega (arith, q, first-from t n)
    go (on p q) = omega (arith, q, first-from t n)

-- of that timeslot, and not of frame 18
pub first_usable-good : (t n : ℕ) → 1 ≤ t → t ≤ 4 → Good t (first_usable t n)
first_usable-good t n h g = go (which t n) (first_slot t n h g)
  where
    go : Which t n → timeslot (first_of t n) ≡ t → Good t (first_usable t n)
    go (here p q) at = rw q (record { slot = at; not18 = p })
    go (on p q) at = rw q (record { slot = omega (arith, at); not18 = omega (arith, p) })

-- and no usable slot of that timeslot at or after n is earlier
pub first_usable-least : (t n x : ℕ) → Good t x → n ≤ x → first_usable t n ≤ x
first_usable-least t n x g l = go (which t n)
  where
    low : 1 ≤ t
    low = omega (arith, g.slot)

    high : t ≤ 4
    high = omega (arith, g.slot)

    at : timeslot (first_of t n) ≡ t
    at = first_slot t n low high

    least : first_of t n ≤ x
    least = first-least t n low high x l g.slot

    later : (a x t : ℕ) → a ≤ x → timeslot a ≡ t → timeslot x ≡ t → a ≢ x → a + 4 ≤ x
    later a x t h p q ne = omega arith

    go : Which t n → first_usable t n ≤ x
    go (here p q) = rw q least
    go (on p q) = rw q (later (first_of t n) x t least at g.slot (λ e. g.not18 (ap frame (sym e) ∙ p)))

-- from slots that show one time, first usable slots that show one time
pub first_usable-clock : (t a b : ℕ) → clock a ≡ clock b → clock (first_usable t a) ≡ clock (first_usable t b)
unfolding first_usable
first_usable-clock t a b h = rw alike (go (usable (first_of t b)))
  where
    same : clock (first_of t a) ≡ clock (first_of t b)
    same = first-clock t a b h

    alike : usable (first_of t a) ≡ usable (first_of t b)
    alike = usable-cong _ _ (clock-frame _ _ same)

    go : (u : Bool) → clock (cond u (first_of t a) (first_of t a + 4)) ≡ clock (cond u (first_of t b) (first_of t b + 4))
    go true = same
    go false = clock-add _ _ 4 same

-- where the first slots are one, so are the first usable ones
pub first_usable-same : (t a b : ℕ) → first_of t a ≡ first_of t b → first_usable t a ≡ first_usable t b
unfolding first_usable
first_usable-same t a b h = rw h

-- ---- the next usable slot

-- after a slot of the timeslot it is a frame on, or two where the next is of frame 18
pub data NextUsable (t u : ℕ) : Type 0 where
  near : frame (u + 4) ≢ 18 → first_usable t (u + 1) ≡ u + 4 → NextUsable t u
  far : frame (u + 4) ≡ 18 → first_usable t (u + 1) ≡ u + 8 → NextUsable t u

pub next-usable : (t u : ℕ) → timeslot u ≡ t → NextUsable t u
next-usable t u e = go (which t (u + 1)) (first_next t u e)
  where
    go : Which t (u + 1) → first_of t (u + 1) ≡ u + 4 → NextUsable t u
    go (here p q) h = near (rw h at p) (q ∙ h)
    go (on p q) h = far (rw h at p) (omega (arith, q, h))

-- usable slots of a timeslot with one next time show one time
pub next-inj : (t u v : ℕ) → Good t u → Good t v → clock (first_usable t (u + 1)) ≡ clock (first_usable t (v + 1)) → clock u ≡ clock v
next-inj t u v g k e = go (next-usable t u g.slot) (next-usable t v k.slot)
  where
    -- x is not of frame 18, so it cannot show the time of y + 4
    never : (x y : ℕ) → Good t x → frame (y + 4) ≡ 18 → clock (x + 4) ≡ clock (y + 8) → clock u ≡ clock v
    never x y good at18 h = absurd (good.not18 (clock-frame x (y + 4) (clock-cancel x (y + 4) 4 (h ∙ ap clock (omega arith))) ∙ at18))

    go : NextUsable t u → NextUsable t v → clock u ≡ clock v
    go (near p q) (near p' q') = clock-cancel u v 4 (rw (q, q') at e)
    go (near p q) (far p' q') = never u v g p' (rw (q, q') at e)
    go (far p q) (near p' q') = never v u k p (sym (rw (q, q') at e))
    go (far p q) (far p' q') = clock-cancel u v 8 (rw (q, q') at e)

-- ---- usable slots in succession

-- at or after n, each after the one before
pub usables-rising : (t n k : ℕ) → RisingFrom n (usables t n k)
unfolding usables
usables-rising t n zero = tt
usables-rising t n (suc k) = (first_usable-from t n, usables-rising t (first_usable t n + 1) k)

-- each usable, and of that timeslot
pub usables-good : (t n k : ℕ) → 1 ≤ t → t ≤ 4 → All (Good t) (usables t n k)
unfolding usables
usables-good t n zero h g = tt
usables-good t n (suc k) h g = (first_usable-good t n h g, usables-good t (first_usable t n + 1) k h g)

-- where the search for usable slots goes on after d of them
unfoldable pub after : ℕ → ℕ → ℕ → ℕ
after t n zero = n
after t n (suc d) = after t (first_usable t n + 1) d

-- it does not go back
pub after-from : (t n d : ℕ) → n ≤ after t n d
unfolding after
after-from t n zero = omega arith
after-from t n (suc d) = omega (arith, after-from t (first_usable t n + 1) d, first_usable-from t n)

-- and of the usable slots of the timeslot between n and there none is left out
pub usables-has : (t n k x : ℕ) → Good t x → n ≤ x → x < after t n k → Memᴰ x (usables t n k)
unfolding usables after
usables-has t n zero x g l h = absurd (omega arith)
usables-has t n (suc k) x g l h = go (eqb x (first_usable t n)) refl (λ p. usables-has t (first_usable t n + 1) k x g p h)
  where
    go : (b : Bool) → eqb x (first_usable t n) ≡ b → (first_usable t n + 1 ≤ x → Memᴰ x (usables t (first_usable t n + 1) k))
        → Memᴰ x (first_usable t n ∷ usables t (first_usable t n + 1) k)
    go true e later = Memᴰ.head (eqb-true _ _ e)
    go false e later = Memᴰ.tail (later (omega (arith, first_usable-least t n x g l, eqb-false x (first_usable t n) e)))

-- those after the first d
pub usables-drop : (t n d k : ℕ) → drop d (usables t n (d + k)) ≡ usables t (after t n d) k
unfolding usables after
usables-drop t n zero k = rw zero-add
usables-drop t n (suc d) k = rw suc-add (usables-drop t (first_usable t n + 1) d k)

-- the first k of more
pub usables-take : (t n k r : ℕ) → take k (usables t n (k + r)) ≡ usables t n k
unfolding usables
usables-take t n zero r = refl
usables-take t n (suc k) r = rw suc-add (ap (λ (l : List ℕ). first_usable t n ∷ l) (usables-take t (first_usable t n + 1) k r))

-- they are one list where the first is one
pub usables-same : (t a b : ℕ) → first_usable t a ≡ first_usable t b → (k : ℕ) → usables t a k ≡ usables t b k
unfolding usables
usables-same t a b h zero = refl
usables-same t a b h (suc k) = rw h

-- they show one list of times where the first shows one time
pub usables-clock : (t a b : ℕ) → clock (first_usable t a) ≡ clock (first_usable t b) → (k : ℕ) → map clock (usables t a k) ≡ map clock (usables t b k)
unfolding usables
usables-clock t a b h zero = refl
usables-clock t a b h (suc k) = ap₂ ◌∷◌ h (usables-clock t (first_usable t a + 1) _ (first_usable-clock t _ _ (clock-add _ _ 1 h)) k)

-- where the first usable slots show one time, so do those after d of them
pub after_cong : (t a b : ℕ) → clock (first_usable t a) ≡ clock (first_usable t b) → (d : ℕ)
    → clock (first_usable t (after t a d)) ≡ clock (first_usable t (after t b d))
unfolding after
after_cong t a b h zero = h
after_cong t a b h (suc d) = after_cong t (first_usable t a + 1) _ (first_usable-clock t _ _ (clock-add _ _ 1 h)) d

-- and the other way round
pub after-inj : (t : ℕ) → 1 ≤ t → t ≤ 4 → (d a b : ℕ) → clock (first_usable t (after t a d)) ≡ clock (first_usable t (after t b d))
    → clock (first_usable t a) ≡ clock (first_usable t b)
unfolding after
after-inj t h g zero a b e = e
after-inj t h g (suc d) a b e = next-inj t _ _ (first_usable-good t a h g) (first_usable-good t b h g) (after-inj t h g d _ _ e)

-- ---- the usable ones of some frames are the first usable slots

module _ (t u : ℕ) (e : timeslot u ≡ t) (rest : List ℕ) (ih : rest ≡ usables t (u + 4) (length rest)) where
  keep : usable u ≡ true → u ∷ rest ≡ usables t u (suc (length rest))
  unfolding usables
  keep h =
      let here : first_usable t u ≡ u = usable-self t u (record { slot = e; not18 = usable-frame u h }) in
      let on : first_usable t (u + 1) ≡ first_usable t (u + 4) = first_usable-same t _ _ (first_next t u e ∙ sym (first-self t (u + 4) (omega arith))) in
      rw here (ap (λ (l : List ℕ). u ∷ l) (ih ∙ sym (usables-same t _ _ on (length rest))))

  leave : usable u ≡ false → rest ≡ usables t u (length rest)
  leave h =
      let at18 : frame u ≡ 18 = unusable-frame u h in
      let self : first_of t u ≡ u = first-self t u e in
      let here : first_usable t u ≡ u + 4 = usable-on t u (rw self h) ∙ ap (λ (k : ℕ). k + 4) self in
      let there : first_usable t (u + 4) ≡ u + 4 = usable-self t (u + 4) (record { slot = omega arith; not18 = omega arith }) in
      ih ∙ usables-same t _ _ (there ∙ sym here) (length rest)

-- from a slot of the timeslot on
pub usable_of-usables : (t k u : ℕ) → timeslot u ≡ t → usable_of (frames_on u k) ≡ usables t u (length (usable_of (frames_on u k)))
unfolding usable_of frames_on usables
usable_of-usables t zero u e = refl
usable_of-usables t (suc k) u e = go (usable u) refl (usable_of-usables t k (u + 4) (omega arith))
  where
    rest : List ℕ
    rest = usable_of (frames_on (u + 4) k)

    go : (b : Bool) → usable u ≡ b → rest ≡ usables t (u + 4) (length rest) → cond b (u ∷ rest) rest ≡ usables t u (length (cond b (u ∷ rest) rest))
    go true h ih = keep t u e rest ih h
    go false h ih = leave t u e rest ih h

-- from the first slot of the timeslot at or after n on
pub usable_of-first : (t n k : ℕ) → 1 ≤ t → t ≤ 4 → usable_of (frames_on (first_of t n) k) ≡ usables t n (length (usable_of (frames_on (first_of t n) k)))
usable_of-first t n k h g =
    usable_of-usables t k (first_of t n) (first_slot t n h g)
    ∙ usables-same t _ _ (first_usable-same t _ _ (first-self t _ (first_slot t n h g))) _

-- j of them after passing over d
pub usable_of-run : (t n k : ℕ) → 1 ≤ t → t ≤ 4 → (d j : ℕ) → d + j ≤ length (usable_of (frames_on (first_of t n) k))
    → take j (drop d (usable_of (frames_on (first_of t n) k))) ≡ usables t (after t n d) j
usable_of-run t n k h g d j l =
    let slots : List ℕ = usable_of (frames_on (first_of t n) k) in
    let r : ℕ = length slots - (d + j) in
    let len : length slots ≡ d + (j + r) = omega arith in
    let all : slots ≡ usables t n (d + (j + r)) = usable_of-first t n k h g ∙ ap (usables t n) len in
    rw (all, usables-drop t n d (j + r)) (usables-take t (after t n d) j r)
