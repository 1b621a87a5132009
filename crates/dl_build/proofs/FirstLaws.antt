-- A build of a queue that is not empty writes a PDU of a record first: no block holds a null PDU alone. Assumes nothing.
use mathlib.Core.Path.{◌≡◌, refl, ap}
use mathlib.Core.Bool.{Bool, true, false, ◌||◌, cond}
use mathlib.Core.List.{List, [], ◌∷◌, ◌++◌}
use Prim.Native.Nat.{ℕ, ◌+◌, ◌-◌, ◌*◌, ◌≤◌, ◌<◌}
use native.Mathlib.Omega.{arith}
use lib.Dec.{leb}
use lib.ListN.{length, get_or, drop, length-append}
use borrow.Author.Tests.{le-ltb}
use Rattle.lists.proofs.Every.{All}
use Rattle.sizes.specs.Sizes.{per_timeslot, cell_octets, timeslot_octets, block_width}
use Rattle.mac_reader.specs.PduList.{Pdu, whole, first, frag, final, null}
use Rattle.dl_record.specs.declared.Kind.{Kind}
use Rattle.dl_record.specs.declared.Record.{Record}
use Rattle.dl_queue.specs.Queue.{Item, zero_cell, queue_of}
use Rattle.dl_queue.specs.Questions.{sound_queue}
use Rattle.dl_queue.proofs.QueueLaws.{length-queue}
use Rattle.dl_record.specs.Kind.{is_grant_or_ack, is_kept, is_record, is_started, is_underway}
use Rattle.dl_merge.specs.Merge.{takes_number, only, put, puts, merge, always, keep, merge_cells}
use Rattle.dl_merge.proofs.MergeLaws.{only-both}
use Rattle.bs_frag.specs.NextPdu.{header_size, end_octets, Next, begin_with, begin, continue, next}
use Rattle.bs_frag.proofs.HeaderLaws.{header-bounds}
use Rattle.dl_send.specs.Send.{send_all, cell_sdu, turns, read_off, room_after}
use Rattle.dl_send.proofs.KeptLaws.{StoredItem}
use Rattle.dl_build.specs.Build.{built_from, in_order, build_list, built_of}
use Rattle.dl_build.proofs.OrderLaws.{order-all}
use Rattle.dl_build.proofs.BuildLaws.{merged_queue, merged-stored, sendables}

-- ---- merging leaves something of something

either-some : {A : Type 0} (b : Bool) (l m : List A) → 0 < length l → 0 < length m → 0 < length (cond b l m)
either-some true l m h k = h
either-some false l m h k = k

put_some : {C : Type 0} (fresh : Item C → C) (join : Item C → C → C) (g : Item C) (xs : List (Item C)) → 0 < length (put fresh join g xs)
unfolding put
put_some fresh join g [] = omega arith
put_some fresh join g (x ∷ xs) = either-some (takes_number g.rec.address.number x.rec) _ _ (omega arith) (omega arith)

puts-some : {C : Type 0} (fresh : Item C → C) (join : Item C → C → C) (gs xs : List (Item C)) → 0 < length gs + length xs → 0 < length (puts fresh join gs xs)
unfolding puts
puts-some fresh join [] xs h = omega arith
puts-some fresh join (g ∷ gs) xs h = puts-some fresh join gs (put fresh join g xs) (omega (arith, put_some fresh join g xs))

merge-some : {C : Type 0} (fresh : Item C → C) (join : Item C → C → C) (xs : List (Item C)) → 0 < length xs → 0 < length (merge fresh join xs)
unfolding merge
merge-some fresh join xs h = puts-some fresh join (only is_grant_or_ack xs) (only is_kept xs) (omega (arith, only-both xs))

-- ---- all of it is taken

underway-or-record : (k : Kind) → is_kept k ≡ true → is_underway k || is_record k ≡ true
underway-or-record Kind.Grant e = e
underway-or-record Kind.Ack e = e
underway-or-record Kind.Record e = refl
underway-or-record Kind.Waiting e = refl
underway-or-record Kind.Started e = refl

order-some : (xs : List (Item (List ℕ))) → All StoredItem xs → 0 < length xs → 0 < length (in_order xs)
unfolding in_order only
order-some [] h n = absurd (omega arith)
order-some (x ∷ xs) h n =
    let k = x.rec.kind in
    rw length-append (go (is_underway k) (is_record k) (underway-or-record k h.0.kind))
  where
    go : (a b : Bool) → a || b ≡ true
        → 0 < length (cond a (x ∷ only is_underway xs) (only is_underway xs)) + length (cond b (x ∷ only is_record xs) (only is_record xs))
    go true b e = omega arith
    go false true e = omega arith
    go false false e = absurd (let z : ◌≡◌ {A = ℕ} 0 1 = cc in omega arith)

-- ---- with a whole block left, a record writes a PDU

abbrev pub is_null : Pdu → Bool
is_null (whole h b) = false
is_null (first h b) = false
is_null (frag h b) = false
is_null (final h b) = false
is_null null = true

-- a list of PDUs that begins with one that is not the null PDU
pub record Begins (l : List Pdu) : Type 0 where
  pub pdu : Pdu
  pub rest : List Pdu
  pub parts : l ≡ pdu ∷ rest
  pub real : is_null pdu ≡ false

one : (p : Pdu) → is_null p ≡ false → Begins (p ∷ [])
one p e = record { pdu = p; rest = []; parts = refl; real = e }

either : (b : Bool) (x y : Next) → Begins x.pdus → Begins y.pdus → Begins (cond b x y).pdus
either true x y h k = h
either false x y h k = k

begin-writes : (w h : ℕ) (r : Record) (sdu : List ℕ) → 32 ≤ w → h ≤ w → Begins (begin_with true h w r sdu).pdus
unfolding begin_with
begin-writes w h r sdu wide small = either (leb (h + r.bits) w) _ _ (one _ refl) (rw (le-ltb w 32 wide, le-ltb w h small) (one _ refl))

continue-writes : (w : ℕ) (r : Record) (sdu : List ℕ) → 16 ≤ w → Begins (continue w r sdu).pdus
unfolding continue
continue-writes w r sdu wide = either (leb (end_octets (r.bits - r.sent) * 8) w) _ _ (one _ refl) (rw (le-ltb w 16 wide) (one _ refl))

next-writes : (w : ℕ) (r : Record) (sdu : List ℕ) → 32 ≤ w → header_size r ≤ w → Begins (next true w r sdu).pdus
unfolding next begin
next-writes w r sdu wide small =
    either (is_started r.kind) _ _ (continue-writes w r sdu (omega arith)) (begin-writes w (header_size r) r sdu wide small)

-- ---- a build

longer : (l m : List Pdu) → Begins l → Begins (l ++ m)
longer l m b = record { pdu = b.pdu; rest = b.rest ++ m; parts = ap (λ (x : List Pdu). x ++ m) b.parts; real = b.real }

send-writes : (w : ℕ) (xs : List (Item (List ℕ))) → 88 ≤ w → All StoredItem xs → 0 < length xs → Begins (send_all cell_sdu true w xs).pdus
unfolding send_all turns read_off room_after
send-writes w [] wide h n = absurd (omega arith)
send-writes w (x ∷ xs) wide h n =
    longer _ _
    (next-writes w x.rec (cell_sdu x.load x.rec.bits) (omega arith) (omega (arith, (header-bounds x.rec (sendables (x ∷ xs) h).0.legal).1)))

-- with something queued for a timeslot, a build of a sound memory writes a PDU of a record first
pub build-writes : (ns : List ℕ) (rs : List Record) (s : List ℕ) (t : ℕ) → t < length ns → length rs ≡ per_timeslot * length ns
    → length s ≡ timeslot_octets * length ns → sound_queue ns rs s ≡ true
    → 0 < get_or ns t 0 → Begins (built_of ns rs s t).pdus
unfolding built_of built_from build_list merged_queue
build-writes ns rs s t inside places size sound some =
    let own : List (Item (List ℕ)) = queue_of (get_or ns t 0) (drop (per_timeslot * t) rs) (drop (cell_octets * (per_timeslot * t)) s) in
    let stored = merged-stored ns rs s t inside places size sound in
    let many =
    merge-some (always zero_cell) keep own (omega (
      arith,
      length-queue (get_or ns t 0) (drop (per_timeslot * t) rs)
          (drop (cell_octets * (per_timeslot * t)) s),
    )) in
    send-writes block_width (in_order (merge_cells own)) (omega arith) (order-all StoredItem (merge_cells own) stored)
    (order-some (merge_cells own) stored many)
