-- What is read stands there: a header that is read has, where it was read, the bits that are written for it. Assumes nothing.
use Rattle.std.proofs.Common.{Option, Some, None}
use mathlib.Core.Path.{◌≡◌, refl, sym, ap, ap₂, ◌∙◌, subst}
use mathlib.Core.List.{List, [], ◌++◌, append_assoc}
use Prim.Native.Nat.{ℕ, zero, suc, ◌+◌, ◌^◌, ◌≤◌, ◌<◌}
use native.Mathlib.Omega.{arith}
use lib.ListN.{length, take, drop, length-append, length-drop, take-append-drop}
use lib.Seq.{drop-drop, take-append_seam}
use Rattle.bitbuffer.specs.Bits.{value_bits, bits_value, part, field, AreBits}
use Rattle.bitbuffer.proofs.Laws.{value_bits-value, length_part, part-lt, bits-take, bits-drop, field-here}
use Rattle.mac_pdus.specs.declared.Address.{Address}
use Rattle.mac_pdus.specs.declared.Address.TheVariants.{Null, Ssi, EventLabel, Ussi, Smi, SsiEventLabel, SsiUsageMarker, SmiEventLabel}
use Rattle.mac_pdus.specs.declared.ChanAllocElement.{ChanAllocElement}
use Rattle.mac_pdus.specs.declared.ResourceHeader.{ResourceHeader}
use Rattle.mac_pdus.specs.Headers.{if_zero, address_type, elements_bits, elements_at, frame18_at, frame18_bits}
use Rattle.mac_pdus.specs.Headers.{optional_bits, optional_at, opt_bits, opt_at, address_bits, address_of}
use Rattle.mac_pdus.specs.Headers.{address_at, chan_alloc_bits, chan_alloc_at, opt_chan_alloc_bits}
use Rattle.mac_pdus.specs.Headers.{opt_chan_alloc_at, fixed_bits, resource_bits, resource_at}

-- the bits `f` stand in `l` from `at` up to `after`
pub record Between (l : List ℕ) (at : ℕ) (f : List ℕ) (after : ℕ) : Type 0 where
  pub bits : drop at l ≡ f ++ drop after l

-- two runs, one behind the other
pub joined : {l : List ℕ} {a b c : ℕ} {f g : List ℕ} → Between l a f b → Between l b g c → Between l a (f ++ g) c
joined {l} {a} {b} {c} {f} {g} p q = record { bits = p.bits ∙ ap (λ (u : List ℕ). f ++ u) q.bits ∙ sym (append_assoc f g (drop c l)) }

nothing : (l : List ℕ) (at : ℕ) → Between l at [] at
nothing l at = record { bits = refl }

-- where they end, and what is cut out there
pub ends-behind : {l : List ℕ} {at after : ℕ} {f : List ℕ} → Between l at f after → at ≤ length l → after ≤ length l → after ≡ at + length f
ends-behind b h k = omega (arith, simp (length-append, length-drop) at (ap length b.bits))

pub cut_out : {l : List ℕ} {at after : ℕ} {f : List ℕ} → Between l at f after → part l at (length f) ≡ f
unfolding part
cut_out {l} {at} {after} {f} b = ap (take (length f)) b.bits ∙ take-append_seam f (drop after l)

pub cut-between : (l : List ℕ) (at : ℕ) (f : List ℕ) → part l at (length f) ≡ f → Between l at f (at + length f)
unfolding part
cut-between l at f e =
    record {
      bits = sym (take-append-drop (length f) (drop at l)) ∙ ap₂ (λ (x y : List ℕ). x ++ y) e (drop-drop (length f) at l);
    }

-- `read` looks at no more than `most` bits, and goes on with what it found and the position behind it: the bits `f` of what it found stand between. So `P`
-- holds of what it comes to, if it does for whatever stands there
abbrev pub Found {ℓ} : {A : Type 0} {X : Type ℓ} → (List ℕ → ℕ → (A → ℕ → X) → X) → (A → List ℕ) → ℕ → Type (ℓ ⊔ 1)
Found {A} {X} read f most =
    (l : List ℕ) (at : ℕ) (k : A → ℕ → X) (P : X → Type 0) → AreBits l → at + most ≤ length l
    → ((a : A) (after : ℕ) → after ≤ at + most → Between l at (f a) after → P (k a after)) → P (read l at k)

-- ---- a field

pub field-bits : (w : ℕ) (l : List ℕ) (at : ℕ) → AreBits l → at + w ≤ length l → Between l at (value_bits w (bits_value (part l at w))) (at + w)
unfolding part
field-bits w l at b h =
    record {
      bits = sym (take-append-drop w (drop at l))
          ∙ ap₂ (λ (x y : List ℕ). x ++ y)
          (sym (ap (λ (n : ℕ). value_bits n (bits_value (part l at w))) (sym (length_part l at w h)) ∙ value_bits-value (part l at w) (bits-take w (drop at l)
          (bits-drop at l b))))
          (drop-drop w at l);
    }

pub field_found {ℓ} : {X : Type ℓ} (w : ℕ) (l : List ℕ) (at : ℕ) (k : ℕ → ℕ → X) (P : X → Type 0) → AreBits l → at + w ≤ length l
    → ((v : ℕ) → v < 2 ^ w → Between l at (value_bits w v) (at + w) → P (k v (at + w))) → P (field l at w k)
unfolding field
field_found w l at k P b h go = go (bits_value (part l at w)) (part-lt l at w b) (field-bits w l at b h)

-- ---- the elements

optional-found {ℓ} : {A : Type 0} {X : Type ℓ} (element_at : List ℕ → ℕ → (A → ℕ → X) → X) (bits : A → List ℕ) (most : ℕ) → Found element_at bits most
    → Found (λ l at k. optional_at element_at l at k) (optional_bits bits) (1 + most)
optional-found element_at bits most found l at k P b h go = field_found 1 l at _ P b (omega arith) flagged
  where
    flagged : (flag : ℕ) → flag < 2 ^ 1 → Between l at (value_bits 1 flag) (at + 1)
        → P (if_zero flag (k None (at + 1)) (element_at l (at + 1) λ v at. k (Some v) at))
    flagged zero s e = go None (at + 1) (omega arith) e
    flagged (suc zero) s e = found l (at + 1) _ P b (omega arith) λ v after n e₁. go (Some v) after (omega arith) (joined e e₁)
    flagged (suc (suc n)) s e = absurd (omega arith)

opt-found {ℓ} : {X : Type ℓ} (w : ℕ) → Found {X = X} (λ l at k. opt_at w l at k) (opt_bits w) (1 + w)
unfolding opt_bits opt_at
opt-found w = optional-found (λ l at k. field l at w k) (value_bits w) w
    λ l at k P b h go. field_found w l at k P b h λ v s e. go v (at + w) (omega arith) e

frame18-found {ℓ} : {X : Type ℓ} (p : ℕ) → Found {X = X} (λ l at k. frame18_at p l at k) frame18_bits 2
frame18-found zero l at k P b h go = field_found 2 l at _ P b h λ v s e. go (Some v) (at + 2) (omega arith) e
frame18-found (suc p) l at k P b h go = go None at (omega arith) (nothing l at)

abbrev element : ℕ → ℕ → ℕ → ℕ → ℕ → ℕ → ℕ → ℕ → Option ℕ → ChanAllocElement
element v₁ v₂ v₃ v₄ v₅ v₆ v₇ v₈ f =
    record {
      alloc_type = v₁;
      ts_assigned = v₂;
      ul_dl_assigned = v₃;
      clch_permission = v₄;
      cell_change_flag = v₅;
      carrier_num = v₆;
      ext_carrier_num_flag = v₇;
      mon_pattern = v₈;
      frame18_mon_pattern = f;
    }

chan-alloc-found {ℓ} : {X : Type ℓ} → Found {X = X} (λ l at k. chan_alloc_at l at k) chan_alloc_bits 27
unfolding chan_alloc_bits chan_alloc_at
chan-alloc-found l at k P b h go =
    field_found 2 l at _ P b (omega arith) λ v₁ s₁ e₁.
    field_found 4 l _ _ P b (omega arith) λ v₂ s₂ e₂.
    field_found 2 l _ _ P b (omega arith) λ v₃ s₃ e₃.
    field_found 1 l _ _ P b (omega arith) λ v₄ s₄ e₄.
    field_found 1 l _ _ P b (omega arith) λ v₅ s₅ e₅.
    field_found 12 l _ _ P b (omega arith) λ v₆ s₆ e₆.
    field_found 1 l _ _ P b (omega arith) λ v₇ s₇ e₇.
    field_found 2 l _ _ P b (omega arith) λ v₈ s₈ e₈.
    frame18-found v₈ l _ (λ f at. k (element v₁ v₂ v₃ v₄ v₅ v₆ v₇ v₈ f) at) P b (omega arith) λ f after n e.
    go (element v₁ v₂ v₃ v₄ v₅ v₆ v₇ v₈ f) after (omega arith)
    (joined e₁ (joined e₂ (joined e₃ (joined e₄ (joined e₅ (joined e₆ (joined e₇ (joined e₈ e))))))))

opt-chan-alloc-found {ℓ} : {X : Type ℓ} → Found {X = X} (λ l at k. opt_chan_alloc_at l at k) opt_chan_alloc_bits 28
unfolding opt_chan_alloc_bits opt_chan_alloc_at
opt-chan-alloc-found = optional-found (λ l at k. chan_alloc_at l at k) chan_alloc_bits 27 chan-alloc-found

elements-found {ℓ} : {X : Type ℓ} (n : ℕ) (l : List ℕ) (at : ℕ) (k : Option ℕ → Option ℕ → Option ChanAllocElement → ℕ → X) (P : X → Type 0)
    → AreBits l → at + 42 ≤ length l
    → ((p g : Option ℕ) (a : Option ChanAllocElement) (after : ℕ) → after ≤ at + 42 → Between l at (elements_bits n p g a) after → P (k p g a after))
    → P (elements_at n l at k)
unfolding elements_bits elements_at
elements-found zero l at k P b h go = go None None None at (omega arith) (nothing l at)
elements-found (suc n) l at k P b h go =
    opt-found 4 l at _ P b (omega arith) λ p a₁ n₁ e₁.
    opt-found 8 l a₁ _ P b (omega arith) λ g a₂ n₂ e₂.
    opt-chan-alloc-found l a₂ _ P b (omega arith) λ a a₃ n₃ e₃.
    go p g a a₃ (omega arith) (joined e₁ (joined e₂ e₃))

-- ---- the address

address-found {ℓ} : {X : Type ℓ} → Found {X = X} (λ l at k. address_at l at k) address_bits 37
unfolding address_bits address_at
address-found l at k P b h go = field_found 3 l at _ P b (omega arith) typed
  where
    -- one number, and one with a label or a marker behind it
    one : (w t : ℕ) (f : ℕ → Address) → w ≤ 24 → ((v : ℕ) → address_bits (f v) ≡ value_bits 3 t ++ value_bits w v) → Between l at (value_bits 3 t) (at + 3)
        → P (field l (at + 3) w λ v at. k (f v) at)
    one w t f n bits e =
        field_found w l (at + 3) _ P b (omega arith) λ v s e₁.
        go (f v) (at + 3 + w) (omega arith) (rw bits (joined e e₁))

    two : (w t : ℕ) (f : ℕ → ℕ → Address) → w ≤ 10 → ((v x : ℕ) → address_bits (f v x) ≡ value_bits 3 t ++ (value_bits 24 v ++ value_bits w x))
        → Between l at (value_bits 3 t) (at + 3) → P (field l (at + 3) 24 λ v at. field l at w λ x at. k (f v x) at)
    two w t f n bits e =
        field_found 24 l (at + 3) _ P b (omega arith) λ v s₁ e₁.
        field_found w l (at + 3 + 24) _ P b (omega arith) λ x s₂ e₂.
        go (f v x) (at + 3 + 24 + w) (omega arith) (rw bits (joined e (joined e₁ e₂)))

    typed : (t : ℕ) → t < 2 ^ 3 → Between l at (value_bits 3 t) (at + 3) → P (address_of t l (at + 3) k)
    typed zero s e = go Null (at + 3) (omega arith) e
    typed (suc zero) s e = one 24 1 Ssi (omega arith) (λ v. refl) e
    typed (suc (suc zero)) s e = one 10 2 EventLabel (omega arith) (λ v. refl) e
    typed (suc (suc (suc zero))) s e = one 24 3 Ussi (omega arith) (λ v. refl) e
    typed (suc (suc (suc (suc zero)))) s e = one 24 4 Smi (omega arith) (λ v. refl) e
    typed (suc (suc (suc (suc (suc zero))))) s e = two 10 5 SsiEventLabel (omega arith) (λ v x. refl) e
    typed (suc (suc (suc (suc (suc (suc zero)))))) s e = two 6 6 SsiUsageMarker (omega arith) (λ v x. refl) e
    typed (suc (suc (suc (suc (suc (suc (suc zero))))))) s e = two 10 7 SmiEventLabel (omega arith) (λ v x. refl) e
    typed (suc (suc (suc (suc (suc (suc (suc (suc n)))))))) s e = absurd (omega arith)

-- ---- the header

-- where the type 00 stands, the header that is read there stands there
pub resource-found {ℓ} : {X : Type ℓ} (l : List ℕ) (at : ℕ) (k : ResourceHeader → ℕ → X) (P : X → Type 0) → AreBits l → at + 92 ≤ length l
    → Between l at (value_bits 2 0) (at + 2)
    → ((r : ResourceHeader) (after : ℕ) → after ≤ at + 92 → Between l at (resource_bits r) after → P (k r after))
    → P (resource_at l at k)
unfolding resource_bits fixed_bits resource_at
resource-found l at k P b h e₁ go =
    subst P (sym (field-here l at 2 0 _ _ (omega arith) e₁.bits))
    (field_found 1 l (at + 2) _ P b (omega arith) λ v₂ s₂ e₂.
    field_found 1 l _ _ P b (omega arith) λ v₃ s₃ e₃.
    field_found 2 l _ _ P b (omega arith) λ v₄ s₄ e₄.
    field_found 1 l _ _ P b (omega arith) λ v₅ s₅ e₅.
    field_found 6 l _ _ P b (omega arith) λ v₆ s₆ e₆.
    address-found l _ _ P b (omega arith) λ a a₇ n₇ e₇.
    elements-found (address_type a) l a₇ _ P b (omega arith) λ p g c a₈ n₈ e₈.
    go _ a₈ (omega arith)
    (joined (joined e₁ (joined e₂ (joined e₃ (joined e₄ (joined e₅ e₆))))) (joined e₇ e₈)))
