-- The first i entries are read. Assumes nothing.
use Rattle.std.proofs.Common.{◌≡◌, ◌*◌, ◌/◌, length, drop, replicate, sym, ap, ◌∙◌, arith, rules}
use Rattle.uplink.specs.UplinkEntry.{empty_entry}
use Rattle.sched_words.specs.Words.{entry_from, row_from}
use Rattle.sched_words.proofs.WordLaws.{part_at, length-parts, filled_next, filled-whole}
use Rattle.sched_words.proofs.FrontLaws.{run-at, entry-front}
use Rattle.sched_words.proofs.station.row_from.Goals as goal

pub loop-i-preserved : goal.loop-i-preserved
loop-i-preserved c =
    let ws = c.args.words.now in
    let i = c.loop-i.i in
    let size : length ws ≡ 54 = search rules in
    let run = run-at 3 18 (length ws / 3) i ws c.as_chunks.result.0.now c.as_chunks.ensures.front (omega (arith, size)) (omega arith) in
    let read = c.entry_from.ensures ∙ ap entry_from run ∙ entry-front (drop (3 * i) ws) ∙ sym (part_at entry_from 3 18 i ws empty_entry (omega arith)) in (
      omega arith,
      rw (c.loop-i.invariant.1, read) (filled_next empty_entry i (row_from ws) (replicate 18 empty_entry) (omega (arith, length-parts entry_from 3 18 ws))
          (omega arith)),
    )

pub returns : goal.returns
returns c =
    let ws = c.args.words.now in
    c.loop-i.invariant.1 ∙ filled-whole c.loop-i.i (row_from ws) (replicate 18 empty_entry) (omega (arith, length-parts entry_from 3 18 ws)) (omega arith)
