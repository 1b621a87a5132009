-- One law for each way that a continuation can go.
use Prim.Native.Nat.{◌-◌}
use mathlib.Core.Path.{refl, sym, ◌∙◌}
use native.Mathlib.Omega.{arith}
use Rattle.bitbuffer.proofs.Laws.{length-bits_of}
use Rattle.bs_frag.proofs.Laws.{chunk-one, chunk-none, octets-up, continue-ends, continue-waits, continue-frags, frag-bits, end-bits, part-sdu}
use Rattle.bs_frag_chunk.proofs.get_frag_or_end_chunk.Goals as goal

pub returns-then-octets-room : goal.returns-then-octets-room
returns-then-octets-room c =
    let a = c.args in
    let up = c.div_ceil-octets in
    chunk-one (continue-ends (a.w - a.at) a.r _ (a.r.bits - a.r.sent) refl up.result (up.ensures ∙ octets-up _) c.if-octets-room.true)
    (end-bits _ _ _ _ (sym (part-sdu a.store.now a.cell a.r.bits a.r.sent _ (rw length-bits_of (omega arith)) (omega arith))))
    c.put_end.ensures.1 (omega arith)

pub returns-then-room-lt16 : goal.returns-then-room-lt16
returns-then-room-lt16 c =
    let a = c.args in
    let up = c.div_ceil-octets in
    chunk-none (continue-waits (a.w - a.at) a.r _ (a.r.bits - a.r.sent) refl up.result (up.ensures ∙ octets-up _) c.if-octets-room.false
    c.if-room-lt16.true) (omega arith)

pub returns : goal.returns
returns c =
    let a = c.args in
    let up = c.div_ceil-octets in
    let n = c.min-n in
    let k = c.requires.inside in
    chunk-one (continue-frags (a.w - a.at) a.r _ (a.r.bits - a.r.sent) refl up.result (up.ensures ∙ octets-up _) n.result (omega (arith, n.ensures))
    c.if-octets-room.false c.if-room-lt16.false)
    (frag-bits _ _ _ _ (sym (part-sdu a.store.now a.cell a.r.bits a.r.sent _ (rw length-bits_of (omega arith)) (omega arith))) refl)
    c.put_frag.ensures.1 (omega arith)
