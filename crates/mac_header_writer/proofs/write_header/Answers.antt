-- The three refusals, and the header written.
use mathlib.Core.Path.{sym, ◌∙◌}
use native.Mathlib.Omega.{arith}
use Rattle.mac_pdus.proofs.LengthLaws.{header-size}
use Rattle.mac_writer.proofs.WriterLaws.{room-true, refused-address, refused-header, refused-room, header-written, passed-within}
use Rattle.mac_header_writer.proofs.write_header.Goals as goal

pub returns-then-h-ge-ADDRESS_NUMBERS : goal.returns-then-h-ge-ADDRESS_NUMBERS
returns-then-h-ge-ADDRESS_NUMBERS c = refused-address _ _ _ (omega arith)

pub returns-then-not-legal_to_write : goal.returns-then-not-legal_to_write
returns-then-not-legal_to_write c =
    refused-header _ _ _ (omega arith) (sym c.legal_to_write.ensures ∙ c.if-not-legal_to_write.true)

pub returns-then-not-room_for : goal.returns-then-not-room_for
returns-then-not-room_for c =
    refused-room _ _ _ _ _ (omega arith) (sym c.legal_to_write.ensures ∙ c.if-not-legal_to_write.false) c.from-r.ensures
    c.compute_header_len.ensures.0 (sym c.room_for.ensures ∙ c.if-not-room_for.true)

pub put_resource-requires : goal.put_resource-requires
put_resource-requires c =
    let room = room-true _ c.args.at _ (sym c.room_for.ensures ∙ c.if-not-room_for.false) in
    let size = c.compute_header_len.ensures.0 ∙ header-size _ in (
      omega arith,
      omega arith,
      passed-within _ _ (sym c.legal_to_write.ensures ∙ c.if-not-legal_to_write.false) c.from-r.ensures,
    )

pub returns : goal.returns
returns c =
    header-written _ _ _ _ _ _ _ (omega arith) (sym c.legal_to_write.ensures ∙ c.if-not-legal_to_write.false) c.from-r.ensures
    c.compute_header_len.ensures.0 (sym c.room_for.ensures ∙ c.if-not-room_for.false) c.put_resource.ensures
