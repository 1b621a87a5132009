-- One law for each way that a record can begin.
use Prim.Native.Nat.{ℕ, ◌+◌, ◌-◌, ◌/◌, ◌<◌}
use mathlib.Core.Bool.{false}
use mathlib.Core.Logic.{◌⊎◌, inl, inr}
use mathlib.Core.Path.{◌≡◌, sym, ap, ◌∙◌, subst}
use native.Mathlib.Omega.{arith}
use lib.ListN.{length}
use Rattle.mac_pdus.specs.declared.ResourceHeader.{ResourceHeader}
use Rattle.mac_pdus.specs.Headers.{resource_bits}
use Rattle.mac_pdus.specs.Within.{ResourceWithin}
use Rattle.bs_frag.specs.NextPdu.{header_of}
use Rattle.bs_frag.proofs.HeaderLaws.{header-bits, header-bounds, header-within}
use Rattle.bs_frag.proofs.Laws.{chunk-one, chunk-none, begin-whole, begin-waits, begin-starts, whole-bits, first-bits, take-sdu, whole-sdu}
use Rattle.bs_frag_chunk.proofs.get_resource_chunk.Goals.{then-not-may_start-via-then-not-may_start, then-not-may_start-via-else-not-may_start+then-room-lt32}
use Rattle.bs_frag_chunk.proofs.get_resource_chunk.Goals.{then-not-may_start-via-else-not-may_start+else-room-lt32+then-room-h}
use Rattle.bs_frag_chunk.proofs.get_resource_chunk.Goals as goal

pub put_resource-requires : goal.put_resource-requires
put_resource-requires c =
    let r = c.args.r in
    let e = ap (λ (x : ResourceHeader). length (resource_bits x)) c.header_of-header.ensures ∙ header-bits r _ _ in
    record {
      room = (omega arith, omega arith);
      within = subst (λ (x : ResourceHeader). ResourceWithin x) (sym c.header_of-header.ensures)
          (header-within r _ _ c.requires.sendable.legal (omega arith) (omega (arith, header-bounds r c.requires.sendable.legal)) (omega arith));
    }

pub returns-then-n-room : goal.returns-then-n-room
returns-then-n-room c =
    let a = c.args in
    let fill = c.compute_required-fill in
    let e = ap (λ (x : ResourceHeader). length (resource_bits x)) c.header_of-header.ensures ∙ header-bits a.r _ _ in
    chunk-one (begin-whole a.may_start (a.w - a.at) a.r _ c.header_size-h.result c.header_size-h.ensures.0 fill.result fill.ensures.0
    c.if-n-room.true)
    (whole-bits a.r _ _ _ _ fill.result (c.header_of-header.ensures
    ∙ ap (λ (h : ℕ). header_of a.r c.fill_flag.result ((h + a.r.bits + fill.result) / 8)) c.header_size-h.ensures.0)
    c.fill_flag.ensures.0 (sym (whole-sdu a.store.now a.cell a.r.bits))) c.put_resource.ensures.1 (omega arith)

pub returns-then-not-may_start : goal.returns-then-not-may_start
returns-then-not-may_start c =
    let a = c.args in
    let why : (a.may_start ≡ false) ⊎ (a.w - a.at < 32) ⊎ (a.w - a.at < c.header_size-h.result) =
    elim c.then-not-may_start.branch [
      | then-not-may_start-via-then-not-may_start w ↦ inl w.if-not-may_start.true
      | then-not-may_start-via-else-not-may_start+then-room-lt32 w ↦ inr (inl w.if-room-lt32.true)
      | then-not-may_start-via-else-not-may_start+else-room-lt32+then-room-h w ↦ inr (inr w.if-room-h.true)
    ] in
    chunk-none (begin-waits a.may_start (a.w - a.at) a.r _ c.header_size-h.result c.header_size-h.ensures.0 c.if-n-room.false why) (omega arith)

pub put_resource-requires-2 : goal.put_resource-requires-2
put_resource-requires-2 c =
    let r = c.args.r in
    let e = ap (λ (x : ResourceHeader). length (resource_bits x)) c.header_of-header-2.ensures ∙ header-bits r _ _ in
    record {
      room = (omega arith, omega arith);
      within = subst (λ (x : ResourceHeader). ResourceWithin x) (sym c.header_of-header-2.ensures)
          (header-within r _ _ c.requires.sendable.legal (omega arith) (omega (arith, header-bounds r c.requires.sendable.legal)) (omega arith));
    }

pub returns : goal.returns
returns c =
    let a = c.args in
    let e = ap (λ (x : ResourceHeader). length (resource_bits x)) c.header_of-header-2.ensures ∙ header-bits a.r _ _ in
    chunk-one (begin-starts a.may_start (a.w - a.at) a.r _ c.header_size-h.result c.header_size-h.ensures.0
    c.if-not-may_start.false
    c.if-n-room.false c.if-room-lt32.false c.if-room-h.false)
    (first-bits a.r _ _ _ c.header_of-header-2.ensures (sym (take-sdu a.store.now a.cell a.r.bits _ (omega arith)))) c.put_resource-2.ensures.1
    (omega arith)
