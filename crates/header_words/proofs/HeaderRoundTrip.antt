-- THE ROUND TRIP of a header's words: a header and its words determine each other. Assumes nothing.
use Rattle.std.proofs.Common.{Option, Some, None, IfSome, unwrap_or}
use mathlib.Core.Path.{◌≡◌, refl, ap, ◌∙◌}
use mathlib.Core.Bool.{true}
use mathlib.Core.List.{List, [], ◌∷◌}
use Prim.Native.Nat.{ℕ, ◌<◌}
use native.Mathlib.Omega.{arith}
use Rattle.mac_pdus.specs.declared.Address.{Address}
use Rattle.mac_pdus.specs.declared.ResourceHeader.{ResourceHeader}
use Rattle.mac_pdus.specs.declared.PduHeader.{PduHeader}
use Rattle.mac_pdus.specs.Headers.{address_type}
use Rattle.mac_pdus.specs.Legal.{number_of, label_of, usage_marker_of, writer_takes}
use Rattle.mac_pdus.specs.Within.{OptWithin, ChanAllocWithin, AddressWithin, Frame18Within, ResourceWithin, EndWithin}
use Rattle.mac_pdus.proofs.LegalLaws.{taken-within}
use Rattle.sched_words.specs.Words.{word_at, same_words}
use Rattle.sched_words.proofs.RoundTrip.{same_refl, same-equal, small, opt-back}
use Rattle.sched_words.proofs.QueueRoundTrip.{AllocFits, alloc-back}
use Rattle.header_words.specs.HeaderWords.{header_words, address_read, resource_read, header_read, resource_words}
use Rattle.mac_pdus.specs.declared.ChanAllocElement.{ChanAllocElement}

-- every field has its width
abbrev pub HeaderWithin : PduHeader → Type 0
HeaderWithin (PduHeader.Resource r) = ResourceWithin r
HeaderWithin (PduHeader.Frag f) = f.fill_bits < 2
HeaderWithin (PduHeader.End e) = EndWithin e

-- ---- the parts

address-back : (a : Address) → AddressWithin a → (ws : List ℕ) → word_at ws 8 ≡ number_of a → word_at ws 9 ≡ unwrap_or (label_of a) 0
    → word_at ws 10 ≡ unwrap_or (usage_marker_of a) 0 → address_read (address_type a) ws ≡ a
unfolding address_type
address-back Address.Null h ws n l m = refl
address-back (Address.Ssi a) h ws n l m = rw n
address-back (Address.EventLabel e) h ws n l m = rw (l, small 65536 e (omega (arith, h)))
address-back (Address.Ussi a) h ws n l m = rw n
address-back (Address.Smi a) h ws n l m = rw n
address-back (Address.SsiEventLabel a e) h ws n l m = rw (n, l, small 65536 e (omega (arith, h.1)))
address-back (Address.SsiUsageMarker a u) h ws n l m = rw (n, m, small 256 u (omega (arith, h.1)))
address-back (Address.SmiEventLabel a e) h ws n l m = rw (n, l, small 65536 e (omega (arith, h.1)))

frame18-fits : (pattern : ℕ) (o : Option ℕ) → Frame18Within pattern o → OptWithin 8 o
frame18-fits pattern None h = tt
frame18-fits pattern (Some v) h = omega (arith, h.1)

alloc-fits : (o : Option ChanAllocElement) → IfSome o ChanAllocWithin → AllocFits o
alloc-fits None h = tt
alloc-fits (Some c) h =
    record {
      kind = omega (arith, h.alloc_type);
      slots = omega (arith, h.ts_assigned);
      direction = omega (arith, h.ul_dl_assigned);
      clch = omega (arith, h.clch_permission);
      change = omega (arith, h.cell_change_flag);
      carrier = omega (arith, h.carrier_num);
      extended = omega (arith, h.ext_carrier_num_flag);
      pattern = omega (arith, h.mon_pattern);
      frame18 = frame18-fits c.mon_pattern c.frame18_mon_pattern h.frame18_mon_pattern;
    }

power-fits : (o : Option ℕ) → OptWithin 4 o → OptWithin 8 o
power-fits None h = tt
power-fits (Some v) h = omega (arith, h)

-- ---- the header

pub resource-back : (at : ℕ) (r : ResourceHeader) → ResourceWithin r → resource_read (header_words at (PduHeader.Resource r)) ≡ r
unfolding resource_read header_words
resource-back at r h =
    let a = r.address in
    λ i. record {
      fill_bits = small 256 r.fill_bits (omega (arith, h.fill_bits)) i;
      pos_of_grant = small 256 r.pos_of_grant (omega (arith, h.pos_of_grant)) i;
      encryption_mode = small 256 r.encryption_mode (omega (arith, h.encryption_mode)) i;
      random_access_flag = small 256 r.random_access_flag (omega (arith, h.random_access_flag)) i;
      length_ind = small 256 r.length_ind (omega (arith, h.length_ind)) i;
      address = address-back a h.address (header_words at (PduHeader.Resource r)) refl refl refl i;
      power_control_element = opt-back 8 r.power_control_element (omega arith) (power-fits r.power_control_element h.power_control_element) i;
      slot_granting_element = opt-back 8 r.slot_granting_element (omega arith) h.slot_granting_element i;
      chan_alloc_element = alloc-back r.chan_alloc_element (alloc-fits r.chan_alloc_element h.chan_alloc_element) (0 ∷ []) i;
    }

-- the header that a header's words stand for is that header
pub header-back : (at : ℕ) (h : PduHeader) → HeaderWithin h → header_read (header_words at h) ≡ h
unfolding header_words
header-back at (PduHeader.Resource r) h = ap PduHeader.Resource (resource-back at r h)
header-back at (PduHeader.Frag f) h = λ i. PduHeader.Frag (record { fill_bits = small 256 f.fill_bits (omega (arith, h)) i })
header-back at (PduHeader.End e) h =
    λ i. PduHeader.End (record {
      fill_bits = small 256 e.fill_bits (omega (arith, h.fill_bits)) i;
      pos_of_grant = small 256 e.pos_of_grant (omega (arith, h.pos_of_grant)) i;
      length_ind = small 256 e.length_ind (omega (arith, h.length_ind)) i;
    })

-- words that are a MAC-RESOURCE's are those of the header that is read from them
pub words_back : (ws : List ℕ) → resource_words ws ≡ true → header_words (word_at ws 0) (PduHeader.Resource (resource_read ws)) ≡ ws
unfolding resource_words
words_back ws h = same-equal _ _ h

-- the words of a header that the block reader lists are ones that the header writer takes, for that header
position_first : (at : ℕ) (r : ResourceHeader) → word_at (header_words at (PduHeader.Resource r)) 0 ≡ at
unfolding header_words
position_first at r = refl

pub listed-words-taken : (at : ℕ) (r : ResourceHeader) → writer_takes r ≡ true
    → (resource_words (header_words at (PduHeader.Resource r)) ≡ true) × (resource_read (header_words at (PduHeader.Resource r)) ≡ r)
unfolding resource_words
listed-words-taken at r h =
    let e = resource-back at r (taken-within r h) in
    let ws = header_words at (PduHeader.Resource r) in (
      (λ i. same_words (header_words (position_first at r i) (PduHeader.Resource (e i))) ws) ∙ same_refl ws,
      e,
    )
