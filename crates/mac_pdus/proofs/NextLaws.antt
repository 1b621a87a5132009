-- A header that is read ends as many bits behind its start as it has. Assumes nothing.
use Rattle.std.proofs.Common.{Option, Some, None}
use mathlib.Core.Path.{◌≡◌, refl, subst}
use mathlib.Core.List.{List}
use Prim.Native.Nat.{ℕ, zero, suc, ◌+◌}
use native.Mathlib.Omega.{arith}
use Rattle.bitbuffer.specs.Bits.{bits_value, part, field}
use Rattle.mac_pdus.specs.declared.Address.{Address}
use Rattle.mac_pdus.specs.declared.ChanAllocElement.{ChanAllocElement}
use Rattle.mac_pdus.specs.Headers.{if_zero, address_type, opt_at, address_of, address_at}
use Rattle.mac_pdus.specs.Headers.{chan_alloc_at, opt_chan_alloc_at, elements_at, opt_length, address_length}
use Rattle.mac_pdus.specs.Headers.{chan_alloc_length, opt_chan_alloc_length, header_length}
use Rattle.mac_pdus.proofs.ReadLaws.{Elements, opt_read, address_read, chan_alloc_read, opt_chan_alloc_read}
use Rattle.mac_pdus.proofs.ReadLaws.{elements_of, elements_read, chan-alloc-run, elements-then, resource_parts}
use Rattle.mac_pdus.proofs.ReadLaws.{resource_next}

module _ (l : List ℕ) where
  opt-next : (w at : ℕ) → (opt_read w l at).1 ≡ at + opt_length w (opt_read w l at).0
  unfolding opt_at field
  opt-next w at = go (bits_value (part l at 1))
    where
      some : Option ℕ × ℕ
      some = (Some (bits_value (part l (at + 1) w)), at + 1 + w)

      go : (b : ℕ) → (if_zero {X = Option ℕ × ℕ} b (None, at + 1) some).1
          ≡ at + opt_length w (if_zero {X = Option ℕ × ℕ} b (None, at + 1) some).0
      go zero = refl
      go (suc b) = omega arith

  address-of-next : (t at : ℕ) → (address_of {X = Address × ℕ} t l (at + 3) (λ a next. (a, next))).1
      ≡ at + address_length (address_of {X = Address × ℕ} t l (at + 3) (λ a next. (a, next))).0
  unfolding field
  address-of-next zero at = refl
  address-of-next (suc zero) at = omega arith
  address-of-next (suc (suc zero)) at = omega arith
  address-of-next (suc (suc (suc zero))) at = omega arith
  address-of-next (suc (suc (suc (suc zero)))) at = omega arith
  address-of-next (suc (suc (suc (suc (suc zero))))) at = omega arith
  address-of-next (suc (suc (suc (suc (suc (suc zero)))))) at = omega arith
  address-of-next (suc (suc (suc (suc (suc (suc (suc zero))))))) at = omega arith
  address-of-next (suc (suc (suc (suc (suc (suc (suc (suc n)))))))) at = refl

  address-next : (at : ℕ) → (address_read l at).1 ≡ at + address_length (address_read l at).0
  unfolding address_at field
  address-next at = address-of-next (bits_value (part l at 3)) at

  chan-alloc-next : (at : ℕ) → (chan_alloc_read l at).1 ≡ at + chan_alloc_length (chan_alloc_read l at).0.frame18_mon_pattern
  unfolding chan_alloc_at field
  chan-alloc-next at = go (bits_value (part l (at + 2 + 4 + 2 + 1 + 1 + 12 + 1) 2))
    where
      last : ℕ
      last = at + 2 + 4 + 2 + 1 + 1 + 12 + 1 + 2

      element : ℕ → Option ℕ → ChanAllocElement
      element p f =
          record {
            alloc_type = bits_value (part l at 2);
            ts_assigned = bits_value (part l (at + 2) 4);
            ul_dl_assigned = bits_value (part l (at + 2 + 4) 2);
            clch_permission = bits_value (part l (at + 2 + 4 + 2) 1);
            cell_change_flag = bits_value (part l (at + 2 + 4 + 2 + 1) 1);
            carrier_num = bits_value (part l (at + 2 + 4 + 2 + 1 + 1) 12);
            ext_carrier_num_flag = bits_value (part l (at + 2 + 4 + 2 + 1 + 1 + 12) 1);
            mon_pattern = p;
            frame18_mon_pattern = f;
          }

      read : ℕ → ChanAllocElement × ℕ
      read p = if_zero {X = ChanAllocElement × ℕ} p (element p (Some (bits_value (part l last 2))), last + 2)
          (element p None, last)

      go : (p : ℕ) → (read p).1 ≡ at + chan_alloc_length (read p).0.frame18_mon_pattern
      go zero = omega arith
      go (suc p) = omega arith

  opt-chan-alloc-next : (at : ℕ) → (opt_chan_alloc_read l at).1 ≡ at + opt_chan_alloc_length (opt_chan_alloc_read l at).0
  unfolding opt_chan_alloc_at field
  opt-chan-alloc-next at = go (bits_value (part l at 1))
    where
      some : Option ChanAllocElement × ℕ
      some = chan_alloc_at l (at + 1) (λ c next. (Some c, next))

      same : (Some (chan_alloc_read l (at + 1)).0, (chan_alloc_read l (at + 1)).1) ≡ some
      same = chan-alloc-run {X = Option ChanAllocElement × ℕ} l (at + 1) (λ c next. (Some c, next))

      element : some.1 ≡ at + opt_chan_alloc_length some.0
      element = subst (λ (x : Option ChanAllocElement × ℕ). x.1 ≡ at + opt_chan_alloc_length x.0) same (let e = chan-alloc-next (at + 1) in omega arith)

      go : (b : ℕ) → (if_zero {X = Option ChanAllocElement × ℕ} b (None, at + 1) some).1
          ≡ at + opt_chan_alloc_length (if_zero {X = Option ChanAllocElement × ℕ} b (None, at + 1) some).0
      go zero = refl
      go (suc b) = element

  -- how many bits the elements have
  elements_length : Elements → ℕ
  elements_length t = opt_length 4 t.0.0 + opt_length 8 t.0.1 + opt_chan_alloc_length t.0.2

  elements-next : (n at : ℕ) → (elements_read n l at).1 ≡ at + if_zero n 0 (elements_length (elements_read n l at))
  unfolding elements_at elements_length
  elements-next zero at = omega arith
  elements-next (suc n) at =
      let p = opt_read 4 l at in
      let g = opt_read 8 l p.1 in
      let a = opt_chan_alloc_read l g.1 in
      subst (λ (t : Elements). t.1 ≡ at + elements_length t)
      (elements-then {X = Elements} (suc n) l at p g a elements_of (λ z. omega arith) refl refl refl)
      (omega (arith, opt-next 4 at, opt-next 8 p.1, opt-chan-alloc-next g.1))

  pub resource-next : (at : ℕ) → resource_next l at ≡ at + header_length (resource_parts l at)
  unfolding header_length elements_length
  resource-next at =
      let f = at + 2 + 1 + 1 + 2 + 1 + 6 in
      let a = address_read l f in
      omega (arith, address-next f, elements-next (address_type a.0) a.1)
