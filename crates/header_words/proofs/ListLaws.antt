-- What the block reader lists: at most sixteen headers, each inside the block. Assumes nothing.
use Rattle.std.proofs.Common.{Ok, Err, Some, None}
use mathlib.Core.Bool.{Bool, true, false, cond}
use mathlib.Core.List.{List, [], ◌∷◌, ◌++◌}
use Prim.Native.Nat.{ℕ, zero, suc, ◌+◌, ◌-◌, ◌≤◌, ◌<◌, ◌^◌}
use native.Mathlib.Omega.{arith}
use lib.Dec.{ltb}
use lib.ListN.{length, get_or, replicate}
use Rattle.lists.proofs.Every.{All, all_append}
use Rattle.sizes.specs.Sizes.{block_octets}
use Rattle.mac_reader.specs.declared.PlacedHeader.{PlacedHeader}
use Rattle.mac_reader.specs.Reader.{Step, Listing, refused, headers, before, on_step, pdu_at, read_pdus, most_pdus, block_pdus}
use Rattle.mac_reader.specs.Reader.{Reading, no_header, no_headers, reply_of, read_questions, read_block}
use Rattle.mac_reader.proofs.ReadLoop.{Onward, pdu-on}
use Rattle.questions.proofs.AskLaws.{ask-elim}

-- at most n headers, none behind the w bits
abbrev Inside : ℕ → ℕ → Listing → Type 0
Inside n w refused = Unit
Inside n w (headers ps) = (length ps ≤ n) × All (λ (p : PlacedHeader). p.at ≤ w) ps

before-inside : (n w : ℕ) (p : PlacedHeader) (r : Listing) → p.at ≤ w → Inside n w r → Inside (suc n) w (before p r)
before-inside n w p refused h g = tt
before-inside n w p (headers ps) h g = (omega (arith, g.0), (h, g.1))

step-inside : (n w at : ℕ) (s : Step) (k : ℕ → Listing) → at ≤ w → Onward w at s → ((next : ℕ) → next ≤ w → Inside n w (k next))
    → Inside (suc n) w (on_step s at k)
step-inside n w at (Err r) k h o f = tt
step-inside n w at (Ok (x, None)) k h o f = (omega arith, (h, tt))
step-inside n w at (Ok (x, Some next)) k h o f = before-inside n w _ (k next) h (f next o.1)

none_inside : (b : Bool) (n w : ℕ) (r : Listing) → Inside n w r → Inside n w (cond b (headers []) r)
none_inside true n w r g = (omega arith, tt)
none_inside false n w r g = g

pdus-inside : (n w : ℕ) (l : List ℕ) (at : ℕ) → at ≤ w → Inside n w (read_pdus n w l at)
unfolding read_pdus
pdus-inside zero w l at h = (omega arith, tt)
pdus-inside (suc n) w l at h =
    none_inside (ltb w (at + 16)) (suc n) w (on_step (pdu_at w l at) at (λ (next : ℕ). read_pdus n w l next))
    (step-inside n w at (pdu_at w l at) (λ (next : ℕ). read_pdus n w l next) h (pdu-on w l at) (λ next g. pdus-inside n w l next g))

-- what is said of the reply
pub record FewAndLow (r : Reading) : Type 0 where
  pub few : r.count ≤ most_pdus
  pub low : (i : ℕ) (p : PlacedHeader) → i < length r.headers → (get_or r.headers i p).at < 2 ^ 32

all-low : (ps : List PlacedHeader) → All (λ (p : PlacedHeader). p.at ≤ 268) ps → (i : ℕ) (d : PlacedHeader) → i < length ps → (get_or ps i d).at < 2 ^ 32
all-low [] h i d k = absurd (omega arith)
all-low (p ∷ ps) h zero d k = omega (arith, h.0)
all-low (p ∷ ps) h (suc i) d k = all-low ps h.1 i d (omega arith)

nones : (n : ℕ) → All (λ (p : PlacedHeader). p.at ≤ 268) (replicate n no_header)
nones zero = tt
nones (suc n) = (omega arith, nones n)

no-low : (n : ℕ) → FewAndLow (no_headers n)
no-low n = record { few = omega arith; low = all-low (replicate most_pdus no_header) (nones most_pdus) }

reply-low : (r : Listing) → Inside most_pdus 268 r → FewAndLow (reply_of r)
reply-low refused h = no-low 12
reply-low (headers ps) h =
    record {
      few = h.0;
      low = all-low (ps ++ replicate (most_pdus - length ps) no_header)
          (all_append (λ (p : PlacedHeader). p.at ≤ 268) ps (replicate (most_pdus - length ps) no_header) h.1 (nones (most_pdus - length ps)));
    }

pub listed-low : (s : List ℕ) → FewAndLow (read_block block_octets s)
unfolding read_block block_pdus
listed-low s =
    ask-elim FewAndLow (read_questions block_octets s) _ _ no-low
    (λ yes. reply-low (block_pdus block_octets s) (pdus-inside most_pdus 268 _ 0 (omega arith)))
