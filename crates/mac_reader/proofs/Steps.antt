-- One step of the reader. Assumes nothing.
use Rattle.std.proofs.Common.{Ok, Err, Some, None}
use mathlib.Core.Path.{◌≡◌, refl, ap}
use mathlib.Core.Bool.{Bool, true, false, cond, not, ◌&&◌, ◌||◌}
use mathlib.Core.Logic.{◌⊎◌, inl, inr}
use mathlib.Core.List.{List, [], ◌∷◌}
use Prim.Native.Nat.{ℕ, zero, suc, ◌+◌, ◌*◌, ◌≤◌, ◌<◌}
use native.Mathlib.Omega.{arith}
use lib.Dec.{ltb, leb, eqb}
use borrow.Author.Tests.{ltb-true, lt-ltb, le-ltb, leb-true}
use Rattle.mac_pdus.specs.declared.MacEndDl.{MacEndDl}
use Rattle.mac_pdus.proofs.Conjunctions.{false-not-true, and3}
use Rattle.mac_pdus.specs.declared.PduHeader.{PduHeader}
use Rattle.questions.specs.declared.Refusal.{Refusal}
use Rattle.mac_reader.specs.Reader.{octets_inside, header_end, end_step, of_type, pdu_at, refused, headers, before, is_list, read_pdus}
use Rattle.mac_reader.specs.declared.PlacedHeader.{PlacedHeader}
use Rattle.mac_reader.specs.Stands.{Octets}

-- fewer than 16 bits left: nothing is read
pub at-end : (n w : ℕ) (l : List ℕ) (at : ℕ) → w < at + 16 → read_pdus n w l at ≡ headers []
unfolding read_pdus
at-end zero w l at h = refl
at-end (suc n) w l at h = rw (lt-ltb w (at + 16) h)

-- a step that is the last, and one that is not
pub last-read : (n w : ℕ) (l : List ℕ) (at : ℕ) (h : PduHeader) → at + 16 ≤ w → pdu_at w l at ≡ Ok (h, None) → read_pdus (suc n) w l at
    ≡ headers (record { at = at; header = h } ∷ [])
unfolding read_pdus
last-read n w l at h k e = rw (le-ltb w (at + 16) k, e)

pub more-read : (n w : ℕ) (l : List ℕ) (at next : ℕ) (h : PduHeader) → at + 16 ≤ w → pdu_at w l at ≡ Ok (h, Some next)
    → read_pdus (suc n) w l at ≡ before (record { at = at; header = h }) (read_pdus n w l next)
unfolding read_pdus
more-read n w l at next h k e = rw (le-ltb w (at + 16) k, e)

pub refused-read : (n w : ℕ) (l : List ℕ) (at : ℕ) (r : Refusal) → at + 16 ≤ w → pdu_at w l at ≡ Err r → read_pdus (suc n) w l at ≡ refused
unfolding read_pdus
refused-read n w l at r k e = rw (le-ltb w (at + 16) k, e)

-- no more than that many
pub none_left : (n w : ℕ) (l : List ℕ) (at : ℕ) → n ≤ 0 → read_pdus n w l at ≡ headers []
unfolding read_pdus
none_left zero w l at h = refl
none_left (suc n) w l at h = absurd (omega arith)

-- a PDU of whole octets inside the block, as the test for it
pub octets-true : (w at code : ℕ) → octets_inside w at code ≡ true → Octets w at code
unfolding octets_inside
octets-true w at code e =
    let p = and3 (leb 2 code) (leb code 34) (leb (at + 8 * code) w) e in
    record { low = leb-true 2 code p.0; high = leb-true code 34 p.1; inside = leb-true (at + 8 * code) w p.2 }

-- where the header of a PDU that ends at `end` may end: at `end` or before, and at the block's end if no octet is left behind the PDU
pub limit-end : (w end : ℕ) → end ≤ w → end ≤ header_end w end
limit-end w end h = go _
  where
    tested : (b : Bool) → end ≤ cond b w end
    tested true = h
    tested false = omega arith

    go : (n : ℕ) → end ≤ cond (ltb w n) w end
    go n = tested (ltb w n)

pub limit-block : (w end : ℕ) → w < end + 8 → w ≤ header_end w end
limit-block w end h = go _ (omega arith)
  where
    go : (n : ℕ) → w < n → w ≤ cond (ltb w n) w end
    go n k = rw (lt-ltb w n k) (omega arith)

-- and nowhere else
pub limit-only : (w after end : ℕ) → after ≤ header_end w end → (after ≤ end) ⊎ ((w < end + 8) × (after ≤ w))
limit-only w after end h = go _ h (omega arith)
  where
    go : (n : ℕ) → after ≤ cond (ltb w n) w end → n ≤ end + 8 → (after ≤ end) ⊎ ((w < end + 8) × (after ≤ w))
    go n h k = tested (ltb w n) refl h
      where
        tested : (b : Bool) → ltb w n ≡ b → after ≤ cond b w end → (after ≤ end) ⊎ ((w < end + 8) × (after ≤ w))
        tested true q h = let near = ltb-true w n q in inr (omega arith, h)
        tested false q h = inl h

pub other-type : (t w : ℕ) (l : List ℕ) (start at : ℕ) → (t ≡ 0 → ⊥) → (t ≡ 1 → ⊥) → Err Refusal.Malformed ≡ of_type t w l start at
other-type zero w l start at p q = absurd (p refl)
other-type (suc zero) w l start at p q = absurd (q refl)
other-type (suc (suc t)) w l start at p q = refl

-- tests joined by or
pub or-false : (a b : Bool) → a ≡ false → a || b ≡ true → b ≡ true
or-false a b p h = rw p at h

pub neither : (a b : Bool) → a || b ≡ false → not a && b ≡ false
neither true b h = refl
neither false b h = h

-- a MAC-END that is refused, and one that is taken
pub end_refused : (w at : ℕ) (m : MacEndDl) (x y : ℕ) (b : Bool) → b ≡ octets_inside w at m.length_ind → (eqb x 0 && eqb y 0 && b) ≡ false
    → Err Refusal.Malformed ≡ end_step w at m x y
unfolding end_step
end_refused w at m x y b e h = rw (← e, h)

pub end-taken : (w at : ℕ) (m : MacEndDl) (x y : ℕ) (b : Bool) → b ≡ octets_inside w at m.length_ind → (eqb x 0 && eqb y 0 && b) ≡ true
    → Ok (PduHeader.End m, Some (at + 8 * m.length_ind)) ≡ end_step w at m x y
unfolding end_step
end-taken w at m x y b e h = rw (← e, h)

-- listings that are the same, and those that are not
pub same-list : {ps hs : List PlacedHeader} → headers ps ≡ headers hs → ps ≡ hs
same-list e = cc

pub never-listed : {hs : List PlacedHeader} {X : Type 0} → refused ≡ headers hs → X
never-listed e = false-not-true (ap is_list e)
