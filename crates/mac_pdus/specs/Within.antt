-- Headers whose fields have their widths: what can be written, and is read back. Assumes nothing.
use Rattle.std.specs.Prelude.{◌≡◌, ℕ, ◌^◌, ◌<◌, Option, Some, None, IfSome}
use Rattle.mac_pdus.specs.declared.Address.{Address}
use Rattle.mac_pdus.specs.declared.Address.TheVariants.{Null, Ssi, EventLabel, Ussi, Smi, SsiEventLabel, SsiUsageMarker, SmiEventLabel}
use Rattle.mac_pdus.specs.declared.ChanAllocElement.{ChanAllocElement}
use Rattle.mac_pdus.specs.declared.ResourceHeader.{ResourceHeader}
use Rattle.mac_pdus.specs.declared.MacEndDl.{MacEndDl}
use Rattle.mac_pdus.specs.Headers.{if_zero, address_type}

abbrev pub OptWithin : ℕ → Option ℕ → Type 0
OptWithin w o = IfSome o (λ v. v < 2 ^ w)

abbrev pub AddressWithin : Address → Type 0
AddressWithin Null = Unit
AddressWithin (Ssi a) = a < 2 ^ 24
AddressWithin (EventLabel e) = e < 2 ^ 10
AddressWithin (Ussi a) = a < 2 ^ 24
AddressWithin (Smi a) = a < 2 ^ 24
AddressWithin (SsiEventLabel a e) = (a < 2 ^ 24) × (e < 2 ^ 10)
AddressWithin (SsiUsageMarker a m) = (a < 2 ^ 24) × (m < 2 ^ 6)
AddressWithin (SmiEventLabel a e) = (a < 2 ^ 24) × (e < 2 ^ 10)

-- the frame-18 pattern, "present exactly if the pattern is 0"
abbrev pub Frame18Within : ℕ → Option ℕ → Type 0
Frame18Within pattern None = 0 < pattern
Frame18Within pattern (Some f) = (pattern ≡ 0) × (f < 2 ^ 2)

pub record ChanAllocWithin (c : ChanAllocElement) : Type 0 where
  pub alloc_type : c.alloc_type < 2 ^ 2
  pub ts_assigned : c.ts_assigned < 2 ^ 4
  pub ul_dl_assigned : c.ul_dl_assigned < 2 ^ 2
  pub clch_permission : c.clch_permission < 2 ^ 1
  pub cell_change_flag : c.cell_change_flag < 2 ^ 1
  pub carrier_num : c.carrier_num < 2 ^ 12
  pub ext_carrier_num_flag : c.ext_carrier_num_flag < 2 ^ 1
  pub mon_pattern : c.mon_pattern < 2 ^ 2
  pub frame18_mon_pattern : Frame18Within c.mon_pattern c.frame18_mon_pattern

-- a null has no elements
abbrev pub NullWithin : ℕ → Option ℕ → Option ℕ → Option ChanAllocElement → Type 0
NullWithin type power grant alloc = if_zero type ((power ≡ None) × (grant ≡ None) × (alloc ≡ None)) Unit

pub record ResourceWithin (r : ResourceHeader) : Type 0 where
  pub fill_bits : r.fill_bits < 2 ^ 1
  pub pos_of_grant : r.pos_of_grant < 2 ^ 1
  pub encryption_mode : r.encryption_mode < 2 ^ 2
  pub random_access_flag : r.random_access_flag < 2 ^ 1
  pub length_ind : r.length_ind < 2 ^ 6
  pub address : AddressWithin r.address
  pub power_control_element : OptWithin 4 r.power_control_element
  pub slot_granting_element : OptWithin 8 r.slot_granting_element
  pub chan_alloc_element : IfSome r.chan_alloc_element ChanAllocWithin
  pub null : NullWithin (address_type r.address) r.power_control_element r.slot_granting_element r.chan_alloc_element

pub record EndWithin (e : MacEndDl) : Type 0 where
  pub fill_bits : e.fill_bits < 2 ^ 1
  pub pos_of_grant : e.pos_of_grant < 2 ^ 1
  pub length_ind : e.length_ind < 2 ^ 6
