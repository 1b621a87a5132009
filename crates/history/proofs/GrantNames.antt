-- "A grant keeps its name through merging into the header written": what ties number, grant and name of each queued record together ties those of each
-- header written, and of what stays (`built-tied`). Assumes nothing.
use Rattle.std.proofs.Common.{Option, Some, None}
use mathlib.Core.Path.{◌≡◌, refl, ap}
use mathlib.Core.Bool.{Bool, true, false, ◌&&◌, ◌||◌, not, cond}
use mathlib.Core.List.{List, [], ◌∷◌, ◌++◌, map}
use Prim.Native.Nat.{ℕ, zero, suc, ◌+◌, ◌-◌, ◌*◌, ◌/◌, ◌<◌}
use native.Mathlib.Nat.{le_of_suc-le-suc, not-suc-le-zero}
use lib.Dec.{leb, ltb}
use lib.ListN.{length, get_or}
use Rattle.lists.proofs.Every.{All}
use Rattle.fillbits.specs.Fill.{fill_wanted}
use Rattle.mac_pdus.specs.declared.PduHeader.{PduHeader}
use Rattle.mac_pdus.specs.Legal.{ssi_on_air, address_on_air, on_air, number_of}
use Rattle.mac_reader.specs.PduList.{Pdu, null, header}
use Rattle.dl_record.specs.declared.Record.{Record}
use Rattle.dl_record.specs.Record.{address_kind_of}
use Rattle.dl_queue.specs.Queue.{Item}
use Rattle.dl_merge.specs.Merge.{merge_named}
use Rattle.dl_merge.proofs.NameLaws.{Tied, merge-tied}
use Rattle.dl_record.specs.Kind.{is_started}
use Rattle.bs_frag.specs.NextPdu.{fill_flag, header_of, header_size, Next, begin_with, begin, continue, next, end_octets}
use Rattle.dl_send.specs.Send.{null_in, wrote, turn, send_all, turns, read_off, room_after}
use Rattle.dl_send.proofs.KeptLaws.{left-all}
use Rattle.dl_build.specs.Build.{in_order, build_list}
use Rattle.dl_build.proofs.OrderLaws.{order-all}
use Rattle.history.specs.Model.{NamedSdu, named_sdu, named_built, name_in, names_in}

-- the names of the PDUs that a list of records comes to
abbrev pub sent_names : Bool → ℕ → List (Item NamedSdu) → List (Option ℕ)
sent_names may room xs = names_in room (turns named_sdu may room xs)

-- ---- two lists, element by element

abbrev pub Along : {A B : Type 0} → (A → B → Type 0) → List A → List B → Type 0
Along P [] [] = Unit {0}
Along P [] (b ∷ bs) = ⊥
Along P (a ∷ ls) [] = ⊥
Along P (a ∷ ls) (b ∷ bs) = P a b × Along P ls bs

module _ {A B : Type 0} (P : A → B → Type 0) where
  along-map : (f : A → B) (ls : List A) → All (λ a. P a (f a)) ls → Along P ls (map f ls)
  along-map f [] h = tt
  along-map f (a ∷ ls) h = (h.0, along-map f ls h.1)

  along-append : (ls ls' : List A) (bs bs' : List B) → Along P ls bs → Along P ls' bs' → Along P (ls ++ ls') (bs ++ bs')
  along-append [] ls' [] bs' h k = k
  along-append [] ls' (b ∷ bs) bs' h k = absurd h
  along-append (a ∷ ls) ls' [] bs' h k = absurd h
  along-append (a ∷ ls) ls' (b ∷ bs) bs' h k = (h.0, along-append ls ls' bs bs' h.1 k)

  pub along-length : (ls : List A) (bs : List B) → Along P ls bs → length ls ≡ length bs
  along-length [] [] h = refl
  along-length [] (b ∷ bs) h = absurd h
  along-length (a ∷ ls) [] h = absurd h
  along-length (a ∷ ls) (b ∷ bs) h = ap suc (along-length ls bs h.1)

  pub along-at : (ls : List A) (bs : List B) → Along P ls bs → (i : ℕ) → i < length ls → (a₀ : A) (b₀ : B) → P (get_or ls i a₀) (get_or bs i b₀)
  along-at [] bs h i l a₀ b₀ = absurd (not-suc-le-zero l)
  along-at (a ∷ ls) [] h i l a₀ b₀ = absurd h
  along-at (a ∷ ls) (b ∷ bs) h zero l a₀ b₀ = h.0
  along-at (a ∷ ls) (b ∷ bs) h (suc i) l a₀ b₀ = along-at ls bs h.1 i (le_of_suc-le-suc l) a₀ b₀

-- ---- the header of a record

ssi-number : (n : ℕ) (label : Option ℕ) (marker : Option ℕ) → number_of (ssi_on_air n label marker) ≡ n
ssi-number n None None = refl
ssi-number n None (Some m) = refl
ssi-number n (Some e) marker = refl

address-number : (k n : ℕ) (label : Option ℕ) (marker : Option ℕ) → number_of (address_on_air (Some (address_kind_of k)) n label marker) ≡ n
unfolding address_on_air
address-number zero n label marker = ssi-number n label marker
address-number (suc zero) n label marker = ssi-number n label marker
address-number (suc (suc k)) n label marker = ssi-number n label marker

header-number : (r : Record) (fill len : ℕ) → number_of (header_of r fill len).address ≡ r.address.number
unfolding header_of on_air
header-number r fill len = address-number r.address.kind r.address.number r.header.event_label r.header.usage_marker

header-grant : (r : Record) (fill len : ℕ) → (header_of r fill len).slot_granting_element ≡ r.header.slot_granting_element
unfolding header_of on_air
header-grant r fill len = refl

-- the number and the grant in a PDU's header
abbrev pub number_in : PduHeader → ℕ
number_in (PduHeader.Resource h) = number_of h.address
number_in (PduHeader.Frag f) = 0
number_in (PduHeader.End e) = 0

abbrev pub grant_in : PduHeader → Option ℕ
grant_in (PduHeader.Resource h) = h.slot_granting_element
grant_in (PduHeader.Frag f) = None
grant_in (PduHeader.End e) = None

-- number, grant and name of a PDU's header are tied together
abbrev pub GrantIn : (ℕ → Option ℕ → Option ℕ → Type 0) → Pdu → Option ℕ → Type 0
GrantIn R p name = R (number_in (header p)) (grant_in (header p)) name

module _ (R : ℕ → Option ℕ → Option ℕ → Type 0) (bare : (n : ℕ) → R n None None) where
  -- ---- a record's turn

  abbrev AllIn : Option ℕ → List Pdu → Type 0
  AllIn name ps = All (λ p. GrantIn R p (name_in name p)) ps

  one_of : (name : Option ℕ) (a b : Bool) (x y z : Next) → AllIn name x.pdus → AllIn name y.pdus → AllIn name z.pdus
      → AllIn name (cond a x (cond b y z)).pdus
  one_of name true b x y z p q r = p
  one_of name false true x y z p q r = q
  one_of name false false x y z p q r = r

  -- the header of a record
  header-in : (r : Record) (name : Option ℕ) → R r.address.number r.header.slot_granting_element name → (fill len : ℕ)
      → R (number_of (header_of r fill len).address) (header_of r fill len).slot_granting_element name
  header-in r name k fill len = rw (header-number r fill len, header-grant r fill len) k

  begin-in : (may : Bool) (room : ℕ) (r : Record) (sdu : List ℕ) (name : Option ℕ) → R r.address.number r.header.slot_granting_element name
      → AllIn name (begin may room r sdu).pdus
  unfolding begin begin_with header
  begin-in may room r sdu name k =
      let fill : ℕ = fill_wanted room (header_size r + r.bits) in
      one_of name (leb (header_size r + r.bits) room) (not may || ltb room 32 || ltb room (header_size r)) _ _ _
      (header-in r name k (fill_flag fill) ((header_size r + r.bits + fill) / 8), tt)
      tt
      (header-in r name k 0 63, tt)

  continue-in : (room : ℕ) (r : Record) (sdu : List ℕ) (name : Option ℕ) → AllIn name (continue room r sdu).pdus
  unfolding continue header
  continue-in room r sdu name = one_of name (leb (end_octets (r.bits - r.sent) * 8) room) (ltb room 16) _ _ _ (bare 0, tt) tt (bare 0, tt)

  next-in : (may : Bool) (room : ℕ) (r : Record) (sdu : List ℕ) (name : Option ℕ) → R r.address.number r.header.slot_granting_element name
      → AllIn name (next may room r sdu).pdus
  unfolding next
  next-in may room r sdu name k = go (is_started r.kind)
    where
      go : (b : Bool) → AllIn name (cond b (continue room r sdu) (begin may room r sdu)).pdus
      go true = continue-in room r sdu name
      go false = begin-in may room r sdu name k

  null-in : (room : ℕ) → AllIn None (null_in room)
  unfolding header
  null-in room = go (ltb room 16)
    where
      go : (b : Bool) → AllIn None (cond b [] (null ∷ []))
      go true = tt
      go false = (bare _, tt)

  pdus-tied : (may : Bool) (room : ℕ) (xs : List (Item NamedSdu)) → All (Tied R) xs
      → Along (GrantIn R) (send_all named_sdu may room xs).pdus (sent_names may room xs)
  unfolding send_all turns read_off room_after
  pdus-tied may room [] h = along-map (GrantIn R) (name_in None) (null_in room) (null-in room)
  pdus-tied may room (x ∷ xs) h =
      let s : Next = turn named_sdu may room x in
      let on : Bool = may && wrote s.pdus in
      along-append (GrantIn R) s.pdus (send_all named_sdu on s.room xs).pdus (map (name_in x.load.name) s.pdus) (sent_names on s.room xs)
      (along-map (GrantIn R) (name_in x.load.name) s.pdus (next-in may room x.rec x.load.sdu x.load.name h.0))
      (pdus-tied on s.room xs h.1)

module _ (R : ℕ → Option ℕ → Option ℕ → Type 0) where
  merged-tied : (xs : List (Item NamedSdu)) → All (Tied R) xs → All (Tied R) (in_order (merge_named [] xs))
  merged-tied xs h = order-all (Tied R) (merge_named [] xs) (merge-tied R [] xs h)

  -- ---- a build

  pub built-left : (w : ℕ) (xs : List (Item NamedSdu)) → All (Tied R) xs → All (Tied R) (named_built w xs).left
  unfolding named_built build_list
  built-left w xs h = left-all (Tied R) (λ k n x q. q) named_sdu true w (in_order (merge_named [] xs)) (merged-tied xs h)

  pub built-tied : ((n : ℕ) → R n None None) → (w : ℕ) (xs : List (Item NamedSdu)) → All (Tied R) xs
      → Along (GrantIn R) (named_built w xs).pdus (sent_names true w (in_order (merge_named [] xs)))
  unfolding named_built build_list
  built-tied bare w xs h = pdus-tied R bare true w (in_order (merge_named [] xs)) (merged-tied xs h)
