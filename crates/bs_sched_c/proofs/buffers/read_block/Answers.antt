-- Exit by exit. Assumes nothing.
use Rattle.std.proofs.Common.{◌≡◌, List, length, arith, ap, ◌∙◌, eq-eqb}
use Rattle.std.proofs.lemmas.Result.{err_from_is_err_and}
use Rattle.header_words.specs.HeaderWords.{list_word_count, list_words}
use Rattle.mac_reader.specs.declared.PlacedHeader.{PlacedHeader}
use Rattle.bs_sched_c.proofs.BufferLaws.{other-list, few, low, not_listed, listed}
use Rattle.bs_sched_c.proofs.LentLaws.{lent-other, lent-whole, mut_now}
use Rattle.bs_sched_c.proofs.buffers.read_block.Goals as goal
use Rattle.bs_sched_c.proofs.buffers.read_block.Goals.{In_ok-headers}

-- the words of the headers, as they are lent
lent : (c : In_ok-headers) → (length c.in_ok-headers.headers.now ≡ list_word_count) × (c.args.headers.now ≡ c.in_ok-headers.headers.now)
lent c = lent-whole mut_now c.args.headers.now list_word_count c.as_mut_array.result c.ok_or.ensures.value c.in_ok-headers.was c.as_mut_array.ensures.cases

pub returns-in_err-headers : goal.returns-in_err-headers
returns-in_err-headers c =
    let p = err_from_is_err_and c.from_residual.result c.from_residual.ensures.1 in
    let n = lent-other mut_now c.args.headers.now list_word_count c.as_mut_array.result c.ok_or.ensures.value c.in_err-headers.was c.as_mut_array.ensures.cases in
    rw (p.1, p.2, n.1) (other-list c.args.block.now c.args.headers.now n.0)

pub returns-in-Err : goal.returns-in-Err
returns-in-Err c =
    let w = lent (goal.at.returns-in-Err c).In_ok-headers in
    rw w.1 (not_listed c.args.block.now c.in_ok-headers.headers.now (eq-eqb _ _ w.0) c.read_block.ensures c.in-Err.is)

pub put_headers-requires : goal.put_headers-requires
put_headers-requires c =
    let w = lent (goal.at.put_headers-requires c).In_ok-headers in
    rw c.as_slice.ensures.value (
      few c.args.block.now c.in_ok-headers.headers.now (eq-eqb _ _ w.0) c.read_block.ensures c.in-Ok.is,
      low c.args.block.now c.in_ok-headers.headers.now (eq-eqb _ _ w.0) c.read_block.ensures c.in-Ok.is,
    )

pub overflow_cast-result : goal.overflow_cast-result
overflow_cast-result c =
    let w = lent (goal.at.overflow_cast-result c).In_ok-headers in
    let most = few c.args.block.now c.in_ok-headers.headers.now (eq-eqb _ _ w.0) c.read_block.ensures c.in-Ok.is in
    omega (arith, c.len.ensures.value)

pub returns-in-Ok : goal.returns-in-Ok
returns-in-Ok c =
    let w = lent (goal.at.returns-in-Ok c).In_ok-headers in
    let items = c.as_slice.ensures.value in
    rw (w.1, c.len.ensures.value)
    (listed c.args.block.now c.in_ok-headers.headers.now (eq-eqb _ _ w.0) c.read_block.ensures c.in-Ok.is
    (c.put_headers.ensures ∙ ap (λ (ps : List PlacedHeader). list_words (length ps) ps) items))
