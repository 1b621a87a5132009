-- How many bits the header's parts take. Assumes nothing.
use Rattle.std.proofs.Common.{Option, Some, None, IsSomeAnd, MatchOption}
use Rattle.std.specs.Option.{option_and}
use mathlib.Core.Path.{◌≡◌, refl, sym, ap}
use mathlib.Core.List.{List, [], ◌++◌}
use Prim.Native.Nat.{ℕ, zero, suc, ◌+◌, ◌≤◌}
use native.Mathlib.Omega.{arith}
use lib.ListN.{length, length-append}
use Rattle.bitbuffer.specs.Bits.{value_bits}
use Rattle.bitbuffer.proofs.Laws.{length-value_bits}
use Rattle.mac_pdus.specs.declared.ChanAllocElement.{ChanAllocElement}
use Rattle.mac_pdus.specs.declared.ResourceHeader.{ResourceHeader}
use Rattle.mac_pdus.specs.declared.Address.{Address}
use Rattle.mac_pdus.specs.declared.Address.TheVariants.{Null, Ssi, EventLabel, Ussi, Smi, SsiEventLabel, SsiUsageMarker, SmiEventLabel}
use Rattle.mac_pdus.specs.Headers.{if_zero, address_type, optional_bits, opt_bits, address_bits}
use Rattle.mac_pdus.specs.Headers.{frame18_bits, chan_alloc_bits, opt_chan_alloc_bits, elements_bits, fixed_bits}
use Rattle.mac_pdus.specs.Headers.{resource_bits, optional_length, opt_length, address_length, chan_alloc_length, opt_chan_alloc_length, header_length}

pub if-not-zero {ℓ} : {X : Type ℓ} (n : ℕ) (x y : X) → (n ≡ 0 → ⊥) → if_zero n x y ≡ y
if-not-zero zero x y h = absurd (h refl)
if-not-zero (suc n) x y h = refl

pub elements-length : (p g : Option ℕ) (a : Option ChanAllocElement)
    → length (opt_bits 4 p ++ (opt_bits 8 g ++ opt_chan_alloc_bits a)) ≡ length (opt_bits 4 p) + (length (opt_bits 8 g) + length (opt_chan_alloc_bits a))
elements-length p g a = simp length-append

pub resource-length : (r : ResourceHeader)
    → length (resource_bits r)
    ≡ length (fixed_bits r.fill_bits r.pos_of_grant r.encryption_mode r.random_access_flag r.length_ind)
    + (length (address_bits r.address) + length (elements_bits (address_type r.address) r.power_control_element r.slot_granting_element
    r.chan_alloc_element))
unfolding resource_bits
resource-length r = simp length-append

pub elements-none : (n : ℕ) (p g : Option ℕ) (a : Option ChanAllocElement) → n ≡ 0 → elements_bits n p g a ≡ []
unfolding elements_bits
elements-none n p g a h = rw h

pub elements-other : (n : ℕ) (p g : Option ℕ) (a : Option ChanAllocElement) → (n ≡ 0 → ⊥)
    → elements_bits n p g a ≡ opt_bits 4 p ++ (opt_bits 8 g ++ opt_chan_alloc_bits a)
unfolding elements_bits
elements-other n p g a h = if-not-zero n [] (opt_bits 4 p ++ (opt_bits 8 g ++ opt_chan_alloc_bits a)) h

-- ---- the length is the number of bits

optional-size : {A : Type 0} (size : A → ℕ) (bits : A → List ℕ) (m : Option A) → ((v : A) → size v ≡ length (bits v))
    → optional_length size m ≡ length (optional_bits bits m)
optional-size size bits None h = sym (length-value_bits 1 0)
optional-size size bits (Some v) h = sym (simp (length-append, length-value_bits, h))

pub opt-size : (w : ℕ) (m : Option ℕ) → opt_length w m ≡ length (opt_bits w m)
unfolding opt_bits
opt-size w m = optional-size (λ v. w) (value_bits w) m λ v. sym (length-value_bits w v)

address-size : (a : Address) → address_length a ≡ length (address_bits a)
unfolding address_bits
address-size Null = sym (length-value_bits 3 0)
address-size (Ssi a) = sym (simp (length-append, length-value_bits))
address-size (EventLabel e) = sym (simp (length-append, length-value_bits))
address-size (Ussi a) = sym (simp (length-append, length-value_bits))
address-size (Smi a) = sym (simp (length-append, length-value_bits))
address-size (SsiEventLabel a e) = sym (simp (length-append, length-value_bits))
address-size (SsiUsageMarker a m) = sym (simp (length-append, length-value_bits))
address-size (SmiEventLabel a e) = sym (simp (length-append, length-value_bits))

frame18-size : (f : Option ℕ) → chan_alloc_length f ≡ 25 + length (frame18_bits f)
frame18-size None = refl
frame18-size (Some f) = rw length-value_bits

pub chan-alloc-size : (c : ChanAllocElement) → chan_alloc_length c.frame18_mon_pattern ≡ length (chan_alloc_bits c)
unfolding chan_alloc_bits
chan-alloc-size c = simp (length-append, length-value_bits) (omega (arith, frame18-size c.frame18_mon_pattern))

pub opt-chan-alloc-size : (a : Option ChanAllocElement) → opt_chan_alloc_length a ≡ length (opt_chan_alloc_bits a)
unfolding opt_chan_alloc_bits
opt-chan-alloc-size a = optional-size (λ c. chan_alloc_length c.frame18_mon_pattern) chan_alloc_bits a chan-alloc-size

fixed-size : (f p e r n : ℕ) → length (fixed_bits f p e r n) ≡ 13
unfolding fixed_bits
fixed-size f p e r n = simp (length-append, length-value_bits)

elements-size : (n : ℕ) (p g : Option ℕ) (a : Option ChanAllocElement)
    → if_zero n 0 (opt_length 4 p + opt_length 8 g + opt_chan_alloc_length a) ≡ length (elements_bits n p g a)
unfolding elements_bits
elements-size zero p g a = refl
elements-size (suc n) p g a = simp length-append (omega (arith, opt-size 4 p, opt-size 8 g, opt-chan-alloc-size a))

pub header-size : (r : ResourceHeader) → header_length r ≡ length (resource_bits r)
unfolding header_length
header-size r =
    omega (
      arith,
      resource-length r,
      fixed-size r.fill_bits r.pos_of_grant r.encryption_mode r.random_access_flag
          r.length_ind,
      address-size r.address,
      elements-size (address_type r.address) r.power_control_element
          r.slot_granting_element r.chan_alloc_element,
    )

pub header-none : (r : ResourceHeader) (a : ℕ) → address_type r.address ≡ 0 → a ≡ address_length r.address → 13 + a ≡ header_length r
unfolding header_length
header-none r a z e = rw z (omega arith)

pub header-some : (r : ResourceHeader) (a b c d : ℕ) → (address_type r.address ≡ 0 → ⊥) → a ≡ address_length r.address → b
    ≡ opt_length 4 r.power_control_element
    → c ≡ opt_length 8 r.slot_granting_element → d ≡ opt_chan_alloc_length r.chan_alloc_element → 13 + a + b + c + d ≡ header_length r
unfolding header_length
header-some r a b c d z ea eb ec ed =
    rw (if-not-zero (address_type r.address) 0 (opt_length 4 r.power_control_element + opt_length 8
    r.slot_granting_element + opt_chan_alloc_length r.chan_alloc_element) z)
    (omega arith)

-- an element with its flag, from its own length: one length for all, or each value's
pub flagged : {A : Type 0} (m : Option A) (k : ℕ) → optional_length (λ n. n) (option_and m (Some k)) ≡ optional_length (λ v. k) m
flagged None k = refl
flagged (Some v) k = refl

pub flagged-each : {A : Type 0} (size : A → ℕ) (is : A → ℕ → Type 0) (m : Option A) (n : Option ℕ) → ((v : A) (k : ℕ) → is v k → k ≡ size v)
    → MatchOption m (n ≡ None) (λ v. IsSomeAnd n (is v)) → optional_length (λ k. k) n ≡ optional_length size m
flagged-each size is None n f e = ap (optional_length (λ k. k)) e
flagged-each size is (Some v) None f e = absurd e
flagged-each size is (Some v) (Some k) f e = ap (λ (i : ℕ). 1 + i) (f v k e)

-- ---- bounds

optional-bounds : {A : Type 0} (size : A → ℕ) (most : ℕ) (m : Option A) → ((v : A) → size v ≤ most)
    → (1 ≤ optional_length size m) × (optional_length size m ≤ 1 + most)
optional-bounds size most None h = (omega arith, omega arith)
optional-bounds size most (Some v) h = (omega arith, omega (arith, h v))

opt-bounds : (w : ℕ) (m : Option ℕ) → (1 ≤ opt_length w m) × (opt_length w m ≤ 1 + w)
opt-bounds w m = optional-bounds (λ v. w) w m λ v. omega arith

frame18-bounds : (f : Option ℕ) → (25 ≤ chan_alloc_length f) × (chan_alloc_length f ≤ 27)
frame18-bounds None = (omega arith, omega arith)
frame18-bounds (Some f) = (omega arith, omega arith)

opt-chan-alloc-bounds : (a : Option ChanAllocElement) → (1 ≤ opt_chan_alloc_length a) × (opt_chan_alloc_length a ≤ 28)
opt-chan-alloc-bounds a = optional-bounds (λ c. chan_alloc_length c.frame18_mon_pattern) 27 a λ c. (frame18-bounds c.frame18_mon_pattern).1

address-most : (a : Address) → address_length a ≤ 37
address-most Null = omega arith
address-most (Ssi a) = omega arith
address-most (EventLabel e) = omega arith
address-most (Ussi a) = omega arith
address-most (Smi a) = omega arith
address-most (SsiEventLabel a e) = omega arith
address-most (SsiUsageMarker a m) = omega arith
address-most (SmiEventLabel a e) = omega arith

if-zero-most : (n x : ℕ) → if_zero n 0 x ≤ x
if-zero-most zero x = omega arith
if-zero-most (suc n) x = omega arith

-- no header has more than 92 bits
pub header-most : (r : ResourceHeader) → header_length r ≤ 92
unfolding header_length
header-most r =
    let n = opt_length 4 r.power_control_element + opt_length 8 r.slot_granting_element + opt_chan_alloc_length r.chan_alloc_element in
    let a = opt-bounds 4 r.power_control_element in
    let b = opt-bounds 8 r.slot_granting_element in
    let d = opt-chan-alloc-bounds r.chan_alloc_element in
    omega (arith, address-most r.address, if-zero-most (address_type r.address) n)

-- the address of a queued record: SSI, with a marker or without
pub data Queued : Address → Type 0 where
  ssi : {a : ℕ} → Queued (Ssi a)
  marked : {a m : ℕ} → Queued (SsiUsageMarker a m)

queued-least : (a : Address) (n : ℕ) → Queued a → 40 + n ≤ 13 + address_length a + if_zero (address_type a) 0 n
unfolding address_type
queued-least _ n ssi = omega arith
queued-least _ n marked = omega arith

queued-most : (a : Address) (n : ℕ) → Queued a → 13 + address_length a + if_zero (address_type a) 0 n ≤ 46 + n
unfolding address_type
queued-most _ n ssi = omega arith
queued-most _ n marked = omega arith

-- headers in the queue have 43 to 88 bits
pub queued-length : (r : ResourceHeader) → Queued r.address → (43 ≤ header_length r) × (header_length r ≤ 88)
unfolding header_length
queued-length r h =
    let n = opt_length 4 r.power_control_element + opt_length 8 r.slot_granting_element + opt_chan_alloc_length r.chan_alloc_element in
    let a = opt-bounds 4 r.power_control_element in
    let b = opt-bounds 8 r.slot_granting_element in
    let d = opt-chan-alloc-bounds r.chan_alloc_element in
    let lo = queued-least r.address n h in
    let hi = queued-most r.address n h in
    (omega arith, omega arith)
