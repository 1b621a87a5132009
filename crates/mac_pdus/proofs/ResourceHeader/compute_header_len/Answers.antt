-- With and without the elements.
use Rattle.mac_pdus.proofs.LengthLaws.{header-none, header-some, header-most, flagged, flagged-each}
use native.Mathlib.Omega.{arith}
use borrow.Author.Tests.{eqb-true, eqb-false}
use mathlib.Core.Path.{sym, ◌∙◌}
use Rattle.mac_pdus.proofs.ResourceHeader.compute_header_len.Goals as goal

pub returns-then-is_null : goal.returns-then-is_null
returns-then-is_null c =
    let l = c.length-before.ensures in
    (header-none _ _ (eqb-true _ 0 (sym c.is_null.ensures ∙ c.if-is_null.true)) l.0, omega arith)

pub returns : goal.returns
returns c =
    let power = rw c.and.ensures at c.with_flag.ensures.0 ∙ flagged _ 4 in
    let grant = rw c.and-2.ensures at c.with_flag-2.ensures.0 ∙ flagged _ 8 in
    let alloc = c.with_flag-3.ensures.0 ∙ flagged-each _ _ _ _ (λ v k h. h.0) c.map.ensures.cases in
    let size = header-some _ _ _ _ _ (eqb-false _ 0 (sym c.is_null.ensures ∙ c.if-is_null.false)) c.length-before.ensures.0 power grant alloc in
    (size, rw size (header-most _))
