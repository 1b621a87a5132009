-- The header that was written is the header that is read. Assumes nothing.
use Rattle.std.proofs.Common.{Option, Some, None, IfSome}
use mathlib.Core.Path.{◌≡◌, refl, sym, ap, ◌∙◌}
use mathlib.Core.List.{List, ◌++◌, append_assoc}
use Prim.Native.Nat.{ℕ, zero, suc, ◌+◌, ◌≤◌}
use native.Mathlib.Omega.{arith}
use lib.ListN.{length, drop}
use Rattle.bitbuffer.specs.Bits.{value_bits, field, written}
use Rattle.bitbuffer.proofs.Laws.{Back, field_back, drop-written}
use Rattle.mac_pdus.specs.declared.Address.{Address}
use Rattle.mac_pdus.specs.declared.Address.TheVariants.{Null, Ssi, EventLabel, Ussi, Smi, SsiEventLabel, SsiUsageMarker, SmiEventLabel}
use Rattle.mac_pdus.specs.declared.ChanAllocElement.{ChanAllocElement}
use Rattle.mac_pdus.specs.declared.ResourceHeader.{ResourceHeader}
use Rattle.mac_pdus.specs.Headers.{address_type, elements_bits, elements_at, frame18_at, frame18_bits, optional_bits}
use Rattle.mac_pdus.specs.Headers.{optional_at, opt_bits, opt_at, address_bits, address_at, chan_alloc_bits}
use Rattle.mac_pdus.specs.Headers.{chan_alloc_at, opt_chan_alloc_bits, opt_chan_alloc_at, fixed_bits, resource_bits, resource_at, header_length}
use Rattle.mac_pdus.proofs.ReadLaws.{resource_parts, resource-parts}
use Rattle.mac_pdus.proofs.NextLaws.{resource-next}
use Rattle.mac_pdus.specs.Within.{Frame18Within, NullWithin, OptWithin, AddressWithin, ChanAllocWithin, ResourceWithin}

optional-back {ℓ} : {A : Type 0} {X : Type ℓ} (element_at : List ℕ → ℕ → (A → ℕ → X) → X) (bits : A → List ℕ) (m : Option A)
    → ((v : A) → m ≡ Some v → Back element_at (bits v) v) → Back (λ l at k. optional_at element_at l at k) (optional_bits bits m) m
optional-back element_at bits None back l at rest k P e go = field_back 1 0 (omega arith) l at _ _ P e go
optional-back element_at bits (Some v) back l at rest k P e go =
    field_back 1 1 (omega arith) l at _ _ P (simp append_assoc at e) λ a₁ e₁.
    back v refl l a₁ rest _ P e₁ go

pub opt-back {ℓ} : {X : Type ℓ} (w : ℕ) (m : Option ℕ) → OptWithin w m → Back {X = X} (λ l at k. opt_at w l at k) (opt_bits w m) m
unfolding opt_bits opt_at
opt-back w m h = optional-back (λ l at k. field l at w k) (value_bits w) m λ v e. field_back w v (rw e at h)

pub address-back {ℓ} : {X : Type ℓ} (a : Address) → AddressWithin a → Back {X = X} (λ l at k. address_at l at k) (address_bits a) a
unfolding address_bits address_at
address-back Null h l at rest k P e go = field_back 3 0 (omega arith) l at _ _ P e go
address-back (Ssi a) h l at rest k P e go =
    field_back 3 1 (omega arith) l at _ _ P (simp append_assoc at e) λ a₁ e₁. field_back 24 a h l a₁ _ _ P e₁ go
address-back (EventLabel v) h l at rest k P e go =
    field_back 3 2 (omega arith) l at _ _ P (simp append_assoc at e) λ a₁ e₁. field_back 10 v h l a₁ _ _ P e₁ go
address-back (Ussi a) h l at rest k P e go =
    field_back 3 3 (omega arith) l at _ _ P (simp append_assoc at e) λ a₁ e₁. field_back 24 a h l a₁ _ _ P e₁ go
address-back (Smi a) h l at rest k P e go =
    field_back 3 4 (omega arith) l at _ _ P (simp append_assoc at e) λ a₁ e₁. field_back 24 a h l a₁ _ _ P e₁ go
address-back (SsiEventLabel a v) h l at rest k P e go =
    field_back 3 5 (omega arith) l at _ _ P (simp append_assoc at e) λ a₁ e₁.
    field_back 24 a h.0 l a₁ _ _ P e₁ λ a₂ e₂. field_back 10 v h.1 l a₂ _ _ P e₂ go
address-back (SsiUsageMarker a v) h l at rest k P e go =
    field_back 3 6 (omega arith) l at _ _ P (simp append_assoc at e) λ a₁ e₁.
    field_back 24 a h.0 l a₁ _ _ P e₁ λ a₂ e₂. field_back 6 v h.1 l a₂ _ _ P e₂ go
address-back (SmiEventLabel a v) h l at rest k P e go =
    field_back 3 7 (omega arith) l at _ _ P (simp append_assoc at e) λ a₁ e₁.
    field_back 24 a h.0 l a₁ _ _ P e₁ λ a₂ e₂. field_back 10 v h.1 l a₂ _ _ P e₂ go

-- ---- the channel allocation
frame18-back {ℓ} : {X : Type ℓ} (p : ℕ) (f : Option ℕ) → Frame18Within p f → Back {X = X} (λ l at k. frame18_at p l at k) (frame18_bits f) f
frame18-back zero None h l at rest k P e go = absurd (omega arith)
frame18-back (suc p) None h l at rest k P e go = go at e
frame18-back zero (Some f) h l at rest k P e go = field_back 2 f h.1 l at _ _ P e go
frame18-back (suc p) (Some f) h l at rest k P e go = absurd (omega (arith, h.0))

pub chan-alloc-back {ℓ} : {X : Type ℓ} (c : ChanAllocElement) → ChanAllocWithin c → Back {X = X} (λ l at k. chan_alloc_at l at k) (chan_alloc_bits c) c
unfolding chan_alloc_bits chan_alloc_at
chan-alloc-back c h l at rest k P e go =
    field_back 2 c.alloc_type h.alloc_type l at _ _ P (simp append_assoc at e) λ a₁ e₁.
    field_back 4 c.ts_assigned h.ts_assigned l a₁ _ _ P e₁ λ a₂ e₂.
    field_back 2 c.ul_dl_assigned h.ul_dl_assigned l a₂ _ _ P e₂ λ a₃ e₃.
    field_back 1 c.clch_permission h.clch_permission l a₃ _ _ P e₃ λ a₄ e₄.
    field_back 1 c.cell_change_flag h.cell_change_flag l a₄ _ _ P e₄ λ a₅ e₅.
    field_back 12 c.carrier_num h.carrier_num l a₅ _ _ P e₅ λ a₆ e₆.
    field_back 1 c.ext_carrier_num_flag h.ext_carrier_num_flag l a₆ _ _ P e₆ λ a₇ e₇.
    field_back 2 c.mon_pattern h.mon_pattern l a₇ _ _ P e₇ λ a₈ e₈.
    frame18-back c.mon_pattern c.frame18_mon_pattern h.frame18_mon_pattern l a₈ rest
    (λ f at. k (record {
      alloc_type = c.alloc_type;
      ts_assigned = c.ts_assigned;
      ul_dl_assigned = c.ul_dl_assigned;
      clch_permission = c.clch_permission;
      cell_change_flag = c.cell_change_flag;
      carrier_num = c.carrier_num;
      ext_carrier_num_flag = c.ext_carrier_num_flag;
      mon_pattern = c.mon_pattern;
      frame18_mon_pattern = f;
    }) at)
    P e₈ go

pub opt-chan-alloc-back {ℓ} : {X : Type ℓ} (a : Option ChanAllocElement) → IfSome a ChanAllocWithin
    → Back {X = X} (λ l at k. opt_chan_alloc_at l at k) (opt_chan_alloc_bits a) a
unfolding opt_chan_alloc_bits opt_chan_alloc_at
opt-chan-alloc-back a h = optional-back (λ l at k. chan_alloc_at l at k) chan_alloc_bits a λ c e. chan-alloc-back c (rw e at h)

-- ---- the header
elements-back {ℓ} : {X : Type ℓ} (n : ℕ) (p g : Option ℕ) (a : Option ChanAllocElement) → OptWithin 4 p → OptWithin 8 g
    → IfSome a ChanAllocWithin → NullWithin n p g a
    → (l : List ℕ) (at : ℕ) (rest : List ℕ) (k : Option ℕ → Option ℕ → Option ChanAllocElement → ℕ → X) (P : X → Type 0)
    → drop at l ≡ elements_bits n p g a ++ rest
    → ((after : ℕ) → drop after l ≡ rest → P (k p g a after)) → P (elements_at n l at k)
unfolding elements_bits elements_at
elements-back zero p g a hp hg ha h l at rest k P e go = rw (h.0, h.1, h.2) at (go at e)
elements-back (suc n) p g a hp hg ha h l at rest k P e go =
    opt-back 4 p hp l at _ _ P (simp append_assoc at e) λ a₁ e₁.
    opt-back 8 g hg l a₁ _ _ P e₁ λ a₂ e₂.
    opt-chan-alloc-back a ha l a₂ _ _ P e₂ go

pub resource-back {ℓ} : {X : Type ℓ} (r : ResourceHeader) → ResourceWithin r → Back {X = X} (λ l at k. resource_at l at k) (resource_bits r) r
unfolding resource_bits fixed_bits resource_at
resource-back r h l at rest k P e go =
    field_back 2 0 (omega arith) l at _ _ P (simp append_assoc at e) λ a₁ e₁.
    field_back 1 r.fill_bits h.fill_bits l a₁ _ _ P e₁ λ a₂ e₂.
    field_back 1 r.pos_of_grant h.pos_of_grant l a₂ _ _ P e₂ λ a₃ e₃.
    field_back 2 r.encryption_mode h.encryption_mode l a₃ _ _ P e₃ λ a₄ e₄.
    field_back 1 r.random_access_flag h.random_access_flag l a₄ _ _ P e₄ λ a₅ e₅.
    field_back 6 r.length_ind h.length_ind l a₅ _ _ P e₅ λ a₆ e₆.
    address-back r.address h.address l a₆ _ _ P e₆ λ a₇ e₇.
    elements-back (address_type r.address) r.power_control_element r.slot_granting_element r.chan_alloc_element
    h.power_control_element h.slot_granting_element h.chan_alloc_element h.null l a₇ _ _ P e₇ go

-- the header that was written into a run, and the position after it
parts-back : (l : List ℕ) (at : ℕ) (r : ResourceHeader) → ResourceWithin r → at + length (resource_bits r) ≤ length l
    → resource_parts (written l at (resource_bits r)) at ≡ r
parts-back l at r h room =
    resource-parts {X = ResourceHeader} (written l at (resource_bits r)) at (λ r next. r)
    ∙ resource-back {X = ResourceHeader} r h (written l at (resource_bits r)) at _ (λ r next. r) (λ x. x ≡ r) (drop-written l at (resource_bits r) room)
    (λ a e. refl)

pub header-back : {X : Type 0} (l : List ℕ) (at : ℕ) (r : ResourceHeader) (k : ResourceHeader → ℕ → X) → ResourceWithin r
    → at + length (resource_bits r) ≤ length l
    → resource_at (written l at (resource_bits r)) at k ≡ k r (at + header_length r)
header-back {X} l at r k h room =
    let m = written l at (resource_bits r) in
    let e = parts-back l at r h room in
    sym (resource-parts {X = X} m at k)
    ∙ ap (k (resource_parts m at)) (resource-next m at)
    ∙ ap (λ (x : ResourceHeader). k x (at + header_length x)) e
