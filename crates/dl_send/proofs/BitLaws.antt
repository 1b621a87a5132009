-- Headers and fill are bits, and fill is found again behind the SDU. Assumes nothing.
use Rattle.std.proofs.Common.{Option, Some, None}
use mathlib.Core.Path.{◌≡◌, refl, ap, ◌∙◌}
use mathlib.Core.List.{List, [], ◌∷◌, ◌++◌, append-nil}
use Prim.Native.Nat.{ℕ, zero, suc, ◌+◌, ◌-◌}
use native.Mathlib.Omega.{arith}
use lib.ListN.{length, take, length-append}
use lib.Seq.{take_at}
use Rattle.bitbuffer.proofs.Octets.{zeros-are-bits}
use Rattle.bitbuffer.specs.Bits.{value_bits, AreBits}
use Rattle.bitbuffer.proofs.Laws.{bits-value_bits, bits-append}
use Rattle.fillbits.specs.Fill.{fill_bits, from_last_set}
use Rattle.fillbits.proofs.Laws.{length-fill_bits, fill-removed}
use Rattle.mac_pdus.specs.declared.Address.{Address}
use Rattle.mac_pdus.specs.declared.ChanAllocElement.{ChanAllocElement}
use Rattle.mac_pdus.specs.declared.ResourceHeader.{ResourceHeader}
use Rattle.mac_pdus.specs.declared.PduHeader.{PduHeader}
use Rattle.mac_pdus.specs.Headers.{opt_bits, address_type, address_bits, frame18_bits, chan_alloc_bits, opt_chan_alloc_bits, fixed_bits, elements_bits}
use Rattle.mac_pdus.specs.Headers.{resource_bits}
use Rattle.mac_pdus.specs.Headers.{frag_bits, end_bits, header_bits}
use Rattle.mac_reader.specs.PduList.{Pdu, header, body, pdu_bits, block_bits}
use Rattle.bs_frag.specs.NextPdu.{fill_flag}
use Rattle.dl_send.specs.Carried.{unfilled}

-- ---- every bit is 0 or 1

pub no-bit : AreBits []
unfolding AreBits
no-bit = tt

two : (a b c d : ℕ) → AreBits (value_bits a b ++ value_bits c d)
two a b c d = bits-append _ _ (bits-value_bits a b) (bits-value_bits c d)

more : (a b : ℕ) (l : List ℕ) → AreBits l → AreBits (value_bits a b ++ l)
more a b l h = bits-append _ _ (bits-value_bits a b) h

opt-bits : (w : ℕ) (m : Option ℕ) → AreBits (opt_bits w m)
unfolding opt_bits
opt-bits w None = bits-value_bits 1 0
opt-bits w (Some v) = two 1 1 w v

address-bits : (a : Address) → AreBits (address_bits a)
unfolding address_bits
address-bits Address.Null = bits-value_bits 3 0
address-bits (Address.Ssi a) = two 3 1 24 a
address-bits (Address.EventLabel e) = two 3 2 10 e
address-bits (Address.Ussi a) = two 3 3 24 a
address-bits (Address.Smi a) = two 3 4 24 a
address-bits (Address.SsiEventLabel a e) = more 3 5 _ (two 24 a 10 e)
address-bits (Address.SsiUsageMarker a m) = more 3 6 _ (two 24 a 6 m)
address-bits (Address.SmiEventLabel a e) = more 3 7 _ (two 24 a 10 e)

frame18-bits : (f : Option ℕ) → AreBits (frame18_bits f)
frame18-bits None = no-bit
frame18-bits (Some f) = bits-value_bits 2 f

chan-alloc-bits : (c : ChanAllocElement) → AreBits (chan_alloc_bits c)
unfolding chan_alloc_bits
chan-alloc-bits c =
    more 2 c.alloc_type _ (more 4 c.ts_assigned _ (more 2 c.ul_dl_assigned _ (more 1 c.clch_permission _ (more 1 c.cell_change_flag _
    (more 12 c.carrier_num _ (more 1 c.ext_carrier_num_flag _ (more 2 c.mon_pattern _ (frame18-bits c.frame18_mon_pattern))))))))

opt-chan-alloc-bits : (a : Option ChanAllocElement) → AreBits (opt_chan_alloc_bits a)
unfolding opt_chan_alloc_bits
opt-chan-alloc-bits None = bits-value_bits 1 0
opt-chan-alloc-bits (Some c) = more 1 1 _ (chan-alloc-bits c)

elements-bits : (n : ℕ) (p g : Option ℕ) (a : Option ChanAllocElement) → AreBits (elements_bits n p g a)
unfolding elements_bits
elements-bits zero p g a = no-bit
elements-bits (suc n) p g a = bits-append _ _ (opt-bits 4 p) (bits-append _ _ (opt-bits 8 g) (opt-chan-alloc-bits a))

fixed-bits : (a b c d e : ℕ) → AreBits (fixed_bits a b c d e)
unfolding fixed_bits
fixed-bits a b c d e = more 2 0 _ (more 1 a _ (more 1 b _ (more 2 c _ (two 1 d 6 e))))

resource-bits : (r : ResourceHeader) → AreBits (resource_bits r)
unfolding resource_bits
resource-bits r =
    bits-append _ _ (fixed-bits r.fill_bits r.pos_of_grant r.encryption_mode r.random_access_flag r.length_ind)
    (bits-append _ _ (address-bits r.address) (elements-bits (address_type r.address) r.power_control_element r.slot_granting_element
    r.chan_alloc_element))

header-are-bits : (h : PduHeader) → AreBits (header_bits h)
unfolding header_bits frag_bits end_bits
header-are-bits (PduHeader.Resource r) = resource-bits r
header-are-bits (PduHeader.Frag f) = more 2 1 _ (two 1 0 1 f.fill_bits)
header-are-bits (PduHeader.End e) =
    more 2 1 _ (more 1 1 _ (more 1 e.fill_bits _ (more 1 e.pos_of_grant _ (more 6 e.length_ind _ (two 1 0 1 0)))))

fill-are-bits : (k : ℕ) → AreBits (fill_bits k)
unfolding fill_bits AreBits
fill-are-bits zero = tt
fill-are-bits (suc k) = (omega arith, zeros-are-bits k)

pub body-are-bits : (s : List ℕ) (k : ℕ) → AreBits s → AreBits (s ++ fill_bits k)
body-are-bits s k h = bits-append s (fill_bits k) h (fill-are-bits k)

pub one-is-bits : (p : Pdu) → AreBits (body p) → AreBits (block_bits (p ∷ []))
unfolding block_bits pdu_bits
one-is-bits p h = bits-append _ _ (bits-append _ _ (header-are-bits (header p)) h) no-bit

-- ---- fill

pub body-length : (s : List ℕ) (k : ℕ) → length (s ++ fill_bits k) ≡ length s + k
body-length s k = length-append s (fill_bits k) ∙ ap (λ (n : ℕ). length s + n) (length-fill_bits k)

-- the fill bits are found and left out
pub fill-left-out : (s : List ℕ) (k : ℕ) → unfilled (fill_flag k) (s ++ fill_bits k) ≡ s
unfolding unfilled fill_flag fill_bits
fill-left-out s zero = append-nil s
fill-left-out s (suc k) =
    let n : length (s ++ fill_bits (suc k)) ≡ length s + suc k = body-length s (suc k) in
    let f : from_last_set (s ++ fill_bits (suc k)) ≡ suc k = fill-removed s (suc k) (omega arith) in
    let e : length (s ++ fill_bits (suc k)) - from_last_set (s ++ fill_bits (suc k)) ≡ length s = omega arith in
    ap (λ (j : ℕ). take j (s ++ fill_bits (suc k))) e ∙ take_at s (fill_bits (suc k)) (length s) refl
