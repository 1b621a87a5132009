-- The fixed fields, the address, and the elements unless the address is null.
use mathlib.Core.Path.{sym, ◌∙◌}
use mathlib.Core.List.{append-nil}
use native.Mathlib.Omega.{arith}
use borrow.Author.Tests.{eqb-true, eqb-false}
use Rattle.bitbuffer.proofs.Laws.{then}
use Rattle.mac_pdus.specs.Headers.{resource_bits}
use Rattle.mac_pdus.proofs.LengthLaws.{resource-length, elements-none, elements-other}
use Rattle.mac_writer.proofs.PieceLaws.{piece-size}
use Rattle.mac_resource_writer.proofs.Sizes.{some-length}
use Rattle.mac_resource_writer.proofs.put_resource.Goals as goal

pub put-next-requires : goal.put-next-requires
put-next-requires c = omega (arith, resource-length c.args.r, piece-size _ _ c.fixed_piece.ensures)

pub put-next-requires-2 : goal.put-next-requires-2
put-next-requires-2 c =
    omega (arith, resource-length c.args.r, piece-size _ _ c.fixed_piece.ensures, piece-size _ _ c.address_piece.ensures)

pub returns-then-is_null : goal.returns-then-is_null
unfolding resource_bits
returns-then-is_null c =
    let r = c.args.r in
    let none = elements-none _ r.power_control_element r.slot_granting_element r.chan_alloc_element
    (eqb-true _ 0 (sym c.is_null.ensures ∙ c.if-is_null.true)) in
    let fixed = rw c.fixed_piece.ensures at c.put-next.ensures.1 in
    let address = rw c.address_piece.ensures at c.put-next-2.ensures.1 in
    rw (none, append-nil) (then fixed address)

pub put-next-requires-3 : goal.put-next-requires-3
put-next-requires-3 c =
    omega (
      arith,
      some-length c.args.r (eqb-false _ 0 (sym c.is_null.ensures ∙ c.if-is_null.false)),
      piece-size _ _ c.fixed_piece.ensures,
      piece-size _ _ c.address_piece.ensures,
      piece-size _ _ c.opt_piece.ensures,
    )

pub put-next-requires-4 : goal.put-next-requires-4
put-next-requires-4 c =
    omega (
      arith,
      some-length c.args.r (eqb-false _ 0 (sym c.is_null.ensures ∙ c.if-is_null.false)),
      piece-size _ _ c.fixed_piece.ensures,
      piece-size _ _ c.address_piece.ensures,
      piece-size _ _ c.opt_piece.ensures,
      piece-size _ _ c.opt_piece-2.ensures,
    )

pub put-requires : goal.put-requires
put-requires c =
    omega (
      arith,
      some-length c.args.r (eqb-false _ 0 (sym c.is_null.ensures ∙ c.if-is_null.false)),
      piece-size _ _ c.fixed_piece.ensures,
      piece-size _ _ c.address_piece.ensures,
      piece-size _ _ c.opt_piece.ensures,
      piece-size _ _ c.opt_piece-2.ensures,
      piece-size _ _ c.opt_chan_alloc_piece.ensures,
    )

pub returns : goal.returns
unfolding resource_bits
returns c =
    let r = c.args.r in
    let some = elements-other _ r.power_control_element r.slot_granting_element r.chan_alloc_element
    (eqb-false _ 0 (sym c.is_null.ensures ∙ c.if-is_null.false)) in
    let fixed = rw c.fixed_piece.ensures at c.put-next.ensures.1 in
    let address = rw c.address_piece.ensures at c.put-next-2.ensures.1 in
    let power = rw c.opt_piece.ensures at c.put-next-3.ensures.1 in
    let grant = rw c.opt_piece-2.ensures at c.put-next-4.ensures.1 in
    let alloc = rw c.opt_chan_alloc_piece.ensures at c.put.ensures.1 in
    rw some (then fixed (then address (then power (then grant alloc))))
