-- Soundness place by place. Assumes nothing.
use mathlib.Core.Path.{◌≡◌, refl, sym, ap, ap₂}
use mathlib.Core.Bool.{Bool, true, false, ◌&&◌}
use mathlib.Core.List.{List}
use Prim.Native.Nat.{ℕ, zero, suc, ◌-◌}
use native.Mathlib.Omega.{arith}
use lib.Dec.{ltb}
use lib.ListN.{get_or, drop, take}
use borrow.Author.Tests.{lt-ltb}
use Rattle.sizes.specs.Sizes.{cell_octets}
use Rattle.dl_record.proofs.RecordLaws.{empty-is}
use Rattle.dl_record.specs.declared.Record.{Record}
use Rattle.dl_record.specs.Record.{empty_record}
use Rattle.dl_record.specs.Questions.{is_empty}
use Rattle.dl_queue.specs.Questions.{sound_place, sound_places}

-- the empty record has no bits
pub empty-bits : (r : Record) (clean : ℕ → Bool) → is_empty r && clean 0 ≡ is_empty r && clean r.bits
empty-bits r clean = go (is_empty r) refl
  where
    go : (b : Bool) → is_empty r ≡ b → b && clean 0 ≡ b && clean r.bits
    go true e = ap (λ (x : Record). clean x.bits) (sym (empty-is r e))
    go false e = refl

pub step : (k n : ℕ) (rs : List Record) (s : List ℕ)
    → sound_places (suc k) n rs s
    ≡ sound_place (ltb 0 n) (get_or rs 0 empty_record) (take cell_octets s) && sound_places k (n - 1) (drop 1 rs) (drop cell_octets s)
unfolding sound_places
step k zero rs s = refl
step k (suc n) rs s =
    let e : n ≡ suc n - 1 = omega arith in
    ap₂ (λ (b : Bool) (m : ℕ). sound_place b (get_or rs 0 empty_record) (take cell_octets s) && sound_places k m (drop 1 rs) (drop cell_octets s))
    (sym (lt-ltb 0 (suc n) (omega arith))) e
