-- The fixed fields, the address, the elements.
use Rattle.std.proofs.Common.{Option}
use mathlib.Core.Path.{sym, ◌∙◌}
use Prim.Native.Nat.{ℕ}
use Rattle.bitbuffer.specs.Bits.{bits_of, field}
use Rattle.mac_pdus.specs.declared.Address.{Address}
use Rattle.mac_pdus.specs.declared.ChanAllocElement.{ChanAllocElement}
use Rattle.mac_pdus.specs.declared.ResourceHeader.{ResourceHeader}
use Rattle.mac_pdus.specs.Headers.{address_type, elements_at}
use Rattle.mac_pdus.proofs.ReadLaws.{address-run, goes-on, elements-resume}
use Rattle.mac_resource_reader.proofs.Cursor.read_resource.Goals as goal

pub returns-clause-value : goal.returns-clause-value
unfolding field
returns-clause-value c =
    let l = bits_of c.args.self.now.octets.now in
    let fill = c.read-fill_bits.ensures in
    let position = rw (fill.place.0, fill.place.1) at c.read-pos_of_grant.ensures in
    let encryption = rw (position.place.0, position.place.1) at c.read-encryption_mode.ensures in
    let random = rw (encryption.place.0, encryption.place.1) at c.read-random_access_flag.ensures in
    let length = rw (random.place.0, random.place.1) at c.read-length_ind.ensures in
    let address = rw (length.place.0, length.place.1) at c.read_address-address.ensures in
    let elements = rw address.place.0 at c.read_elements-power_control_element.ensures in
    let k : Address → Option ℕ → Option ℕ → Option ChanAllocElement → ℕ → ResourceHeader × ℕ = λ a x y z n. (
      record {
        fill_bits = c.read-fill_bits.result;
        pos_of_grant = c.read-pos_of_grant.result;
        encryption_mode = c.read-encryption_mode.result;
        random_access_flag = c.read-random_access_flag.result;
        length_ind = c.read-length_ind.result;
        address = a;
        power_control_element = x;
        slot_granting_element = y;
        chan_alloc_element = z;
      },
      n,
    ) in
    rw (← fill.value.0, ← position.value.0, ← encryption.value.0, ← random.value.0, ← length.value.0)
    (sym (elements-resume _ l _ _ (k _) (sym elements.value)
    ∙ goes-on (λ a n. elements_at (address_type a) l n (k a)) (sym address.value) (address-run l _ _)))
