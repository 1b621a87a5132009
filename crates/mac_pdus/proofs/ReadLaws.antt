-- A reader goes on with what it would hand back: what a caller of the function that reads wants. Assumes nothing.
use Rattle.std.proofs.Common.{Option, Some, None}
use mathlib.Core.Path.{◌≡◌, refl, sym, ap, ◌∙◌}
use mathlib.Core.List.{List}
use Prim.Native.Nat.{ℕ, zero, suc, pred, ◌+◌}
use native.Mathlib.Omega.{arith}
use Rattle.bitbuffer.specs.Bits.{bits_value, part, field}
use Rattle.mac_pdus.specs.declared.Address.{Address}
use Rattle.mac_pdus.specs.declared.ChanAllocElement.{ChanAllocElement}
use Rattle.mac_pdus.specs.declared.ResourceHeader.{ResourceHeader}
use Rattle.mac_pdus.specs.Headers.{if_zero, address_type, opt_at, address_of, address_at, chan_alloc_at, opt_chan_alloc_at, elements_at, resource_at}

-- a number that is not 0
pub positive : (n : ℕ) → (n ≡ 0 → ⊥) → n ≡ suc (pred n)
positive zero h = absurd (h refl)
positive (suc n) h = refl

if-zero-map {ℓ κ} : {X : Type ℓ} {Y : Type κ} (f : X → Y) (n : ℕ) (x y : X) → f (if_zero n x y) ≡ if_zero n (f x) (f y)
if-zero-map f zero x y = refl
if-zero-map f (suc n) x y = refl

abbrev pub opt_read : ℕ → List ℕ → ℕ → Option ℕ × ℕ
opt_read w l at = opt_at w l at (λ m next. (m, next))

abbrev pub address_read : List ℕ → ℕ → Address × ℕ
address_read l at = address_at l at (λ a next. (a, next))

abbrev pub chan_alloc_read : List ℕ → ℕ → ChanAllocElement × ℕ
chan_alloc_read l at = chan_alloc_at l at (λ c next. (c, next))

abbrev pub opt_chan_alloc_read : List ℕ → ℕ → Option ChanAllocElement × ℕ
opt_chan_alloc_read l at = opt_chan_alloc_at l at (λ a next. (a, next))

pub opt-run {ℓ} : {X : Type ℓ} (w : ℕ) (l : List ℕ) (at : ℕ) (k : Option ℕ → ℕ → X) → k (opt_read w l at).0 (opt_read w l at).1 ≡ opt_at w l at k
unfolding opt_at field
opt-run w l at k = if-zero-map (λ (r : Option ℕ × ℕ). k r.0 r.1) (bits_value (part l at 1)) _ _

address-of-run {ℓ} : {X : Type ℓ} (n : ℕ) (l : List ℕ) (at : ℕ) (k : Address → ℕ → X)
    → (let r : Address × ℕ = address_of n l at (λ a next. (a, next)) in k r.0 r.1) ≡ address_of n l at k
unfolding field
address-of-run zero l at k = refl
address-of-run (suc zero) l at k = refl
address-of-run (suc (suc zero)) l at k = refl
address-of-run (suc (suc (suc zero))) l at k = refl
address-of-run (suc (suc (suc (suc zero)))) l at k = refl
address-of-run (suc (suc (suc (suc (suc zero))))) l at k = refl
address-of-run (suc (suc (suc (suc (suc (suc zero)))))) l at k = refl
address-of-run (suc (suc (suc (suc (suc (suc (suc zero))))))) l at k = refl
address-of-run (suc (suc (suc (suc (suc (suc (suc (suc n)))))))) l at k = refl

pub address-run {ℓ} : {X : Type ℓ} (l : List ℕ) (at : ℕ) (k : Address → ℕ → X) → k (address_read l at).0 (address_read l at).1 ≡ address_at l at k
unfolding address_at field
address-run l at k = address-of-run (bits_value (part l at 3)) l (at + 3) k

pub chan-alloc-run {ℓ} : {X : Type ℓ} (l : List ℕ) (at : ℕ) (k : ChanAllocElement → ℕ → X) → k (chan_alloc_read l at).0 (chan_alloc_read l at).1
    ≡ chan_alloc_at l at k
unfolding chan_alloc_at field
chan-alloc-run l at k = if-zero-map (λ (r : ChanAllocElement × ℕ). k r.0 r.1) (bits_value (part l (at + 2 + 4 + 2 + 1 + 1 + 12 + 1) 2)) _ _

pub opt-chan-alloc-run {ℓ} : {X : Type ℓ} (l : List ℕ) (at : ℕ) (k : Option ChanAllocElement → ℕ → X) → k (opt_chan_alloc_read l at).0
    (opt_chan_alloc_read l at).1 ≡ opt_chan_alloc_at l at k
unfolding opt_chan_alloc_at field
opt-chan-alloc-run {X} l at k =
    let f : Option ChanAllocElement × ℕ → X = λ r. k r.0 r.1 in
    if-zero-map f (bits_value (part l at 1)) _ _
    ∙ ap (if_zero (bits_value (part l at 1)) (k None (at + 1)))
    (ap f (sym (chan-alloc-run l (at + 1) (λ c next. (Some c, next)))) ∙ chan-alloc-run l (at + 1)
    (λ c next. k (Some c) next))

-- the same, from what the function that reads handed back
pub goes-on {ℓ} : {A : Type 0} {X : Type ℓ} {r q : A × ℕ} {x : X} (k : A → ℕ → X) → r ≡ q → k q.0 q.1 ≡ x → k r.0 r.1 ≡ x
goes-on {A} k e f = ap (λ (r : A × ℕ). k r.0 r.1) e ∙ f

pub elements-then {ℓ} : {X : Type ℓ} (n : ℕ) (l : List ℕ) (at : ℕ) (p g : Option ℕ × ℕ) (a : Option ChanAllocElement × ℕ)
    (k : Option ℕ → Option ℕ → Option ChanAllocElement → ℕ → X)
    → (n ≡ 0 → ⊥) → p ≡ opt_read 4 l at → g ≡ opt_read 8 l p.1 → a ≡ opt_chan_alloc_read l g.1
    → k p.0 g.0 a.0 a.1 ≡ elements_at n l at k
unfolding elements_at
elements-then n l at p g a k h ep eg ea =
    let e = positive n h in
    rw e
    (goes-on (λ x z. k p.0 g.0 x z) ea (opt-chan-alloc-run l g.1 _)
    ∙ goes-on (λ y z. opt_chan_alloc_at l z (λ x z. k p.0 y x z)) eg (opt-run 8 l p.1 _)
    ∙ goes-on (λ w z. opt_at 8 l z (λ y z. opt_chan_alloc_at l z (λ x z. k w y x z))) ep (opt-run 4 l at _))

-- the optional elements, and the position after them
abbrev pub Elements : Type 0
Elements = (Option ℕ × Option ℕ × Option ChanAllocElement) × ℕ

abbrev pub elements_of : Option ℕ → Option ℕ → Option ChanAllocElement → ℕ → Elements
elements_of p g a next = ((p, g, a), next)

abbrev pub elements_read : ℕ → List ℕ → ℕ → Elements
elements_read n l at = elements_at n l at elements_of

pub elements-resume {ℓ} : {X : Type ℓ} (n : ℕ) (l : List ℕ) (at : ℕ) (t : Elements) (k : Option ℕ → Option ℕ → Option ChanAllocElement → ℕ → X)
    → t ≡ elements_read n l at → k t.0.0 t.0.1 t.0.2 t.1 ≡ elements_at n l at k
unfolding elements_at
elements-resume zero l at t k e = ap (λ (x : Elements). k x.0.0 x.0.1 x.0.2 x.1) e
elements-resume (suc n) l at t k e =
    let p = opt_read 4 l at in
    let g = opt_read 8 l p.1 in
    let a = opt_chan_alloc_read l g.1 in
    let some : suc n ≡ 0 → ⊥ = λ z. omega arith in
    ap (λ (x : Elements). k x.0.0 x.0.1 x.0.2 x.1)
    (e ∙ sym (elements-then (suc n) l at p g a elements_of some refl refl refl))
    ∙ elements-then (suc n) l at p g a k some refl refl refl

-- the header, from what the parts read
abbrev pub resource_parts : List ℕ → ℕ → ResourceHeader
resource_parts l at =
    let a = address_read l (at + 2 + 1 + 1 + 2 + 1 + 6) in
    let t = elements_read (address_type a.0) l a.1 in
    record {
      fill_bits = bits_value (part l (at + 2) 1);
      pos_of_grant = bits_value (part l (at + 2 + 1) 1);
      encryption_mode = bits_value (part l (at + 2 + 1 + 1) 2);
      random_access_flag = bits_value (part l (at + 2 + 1 + 1 + 2) 1);
      length_ind = bits_value (part l (at + 2 + 1 + 1 + 2 + 1) 6);
      address = a.0;
      power_control_element = t.0.0;
      slot_granting_element = t.0.1;
      chan_alloc_element = t.0.2;
    }

abbrev pub resource_next : List ℕ → ℕ → ℕ
resource_next l at =
    let a = address_read l (at + 2 + 1 + 1 + 2 + 1 + 6) in
    (elements_read (address_type a.0) l a.1).1

pub resource-parts {ℓ} : {X : Type ℓ} (l : List ℕ) (at : ℕ) (k : ResourceHeader → ℕ → X) → k (resource_parts l at) (resource_next l at) ≡ resource_at l at k
unfolding resource_at field
resource-parts {X} l at k =
    let f : Address → Option ℕ → Option ℕ → Option ChanAllocElement → ℕ → X = λ a p g c n. k (record {
      fill_bits = bits_value (part l (at + 2) 1);
      pos_of_grant = bits_value (part l (at + 2 + 1) 1);
      encryption_mode = bits_value (part l (at + 2 + 1 + 1) 2);
      random_access_flag = bits_value (part l (at + 2 + 1 + 1 + 2) 1);
      length_ind = bits_value (part l (at + 2 + 1 + 1 + 2 + 1) 6);
      address = a;
      power_control_element = p;
      slot_granting_element = g;
      chan_alloc_element = c;
    }) n in
    let a = address_read l (at + 2 + 1 + 1 + 2 + 1 + 6) in
    let t = elements_read (address_type a.0) l a.1 in
    elements-resume (address_type a.0) l a.1 t (f a.0) refl
    ∙ address-run l (at + 2 + 1 + 1 + 2 + 1 + 6) (λ x n. elements_at (address_type x) l n (f x))

pub resource-then {ℓ} : {X : Type ℓ} (l : List ℕ) (at : ℕ) (x : ResourceHeader × ℕ) (k : ResourceHeader → ℕ → X)
    → x ≡ resource_at l at (λ r next. (r, next)) → k x.0 x.1 ≡ resource_at l at k
resource-then l at x k e = goes-on k (e ∙ sym (resource-parts l at (λ r next. (r, next)))) (resource-parts l at k)
