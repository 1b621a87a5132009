-- What is listed so far, and what is left to read, give the whole.
use Rattle.std.proofs.Common.{◌≡◌, ℕ, ◌<◌, ◌≤◌, Bool, false, Ok, List, sym, ap, ◌∙◌}
use native.Mathlib.Omega.{arith}
use lib.Dec.{eqb}
use borrow.Author.Tests.{eqb-true, eqb-false}
use Rattle.std.proofs.lemmas.Result.{err_from_is_err_and}
use Rattle.mac_reader.specs.declared.PlacedHeader.{PlacedHeader}
use Rattle.mac_reader.specs.Reader.{headers, reply_of, most_pdus}
use Rattle.mac_reader.proofs.ReadLoop.{got-end, got-full, got-refused, got_last, got-more}
use Rattle.mac_reader.proofs.read_list.Goals as goal

-- a list that is not full has room for one more
room : (n : ℕ) (full : Bool) → full ≡ eqb n most_pdus → full ≡ false → n ≤ most_pdus → n < most_pdus
room n full e f few =
    let none = eqb-false n most_pdus (sym e ∙ f) in
    omega arith

pub returns-in_err-header : goal.returns-in_err-header
returns-in_err-header c =
    let p = err_from_is_err_and c.from_residual.result c.from_residual.ensures.1 in
    rw (p.1, p.2) (
      tt,
      got-refused _ _ _ _ c.loop-at.invariant _ (room _ _ c.is_full.ensures.value c.if-not-is_full.true c.loop-at.invariant.few) c.loop-at-test.true
          (sym c.read_pdu.ensures ∙ c.in_err-header.was),
    )

pub returns-in-None : goal.returns-in-None
returns-in-None c = (
  ap (λ (ps : List PlacedHeader). reply_of (headers ps)) c.push.ensures.items
      ∙ got_last _ _ _ _ c.loop-at.invariant _ (room _ _ c.is_full.ensures.value c.if-not-is_full.true c.loop-at.invariant.few) c.loop-at-test.true
      (sym c.read_pdu.ensures ∙ c.in_ok-header.was ∙ ap (λ n. Ok (c.in_ok-header.header, n)) c.in-None.is),
  tt,
)

pub loop-at-preserved : goal.loop-at-preserved
loop-at-preserved c =
    rw c.push.ensures.items
    (got-more _ _ _ _ c.loop-at.invariant _ _ (room _ _ c.is_full.ensures.value c.if-not-is_full.true c.loop-at.invariant.few) c.loop-at-test.true
    (sym c.read_pdu.ensures ∙ c.in_ok-header.was ∙ ap (λ n. Ok (c.in_ok-header.header, n)) c.in-Some.is))

pub returns-else-not-is_full : goal.returns-else-not-is_full
returns-else-not-is_full c =
    (got-full _ _ _ _ c.loop-at.invariant (omega (arith, eqb-true _ most_pdus (sym c.is_full.ensures.value ∙ c.if-not-is_full.false))), tt)

pub returns-after-loop-at : goal.returns-after-loop-at
returns-after-loop-at c = (got-end _ _ _ _ c.loop-at.invariant (omega (arith, c.loop-at-test.false)), tt)
