-- Field by field. Assumes nothing.
use Rattle.std.proofs.Common.{drop, ap, ◌∙◌, ◌≡◌, length, arith, rules}
use Rattle.sched_words.specs.Words.{alloc_from}
use Rattle.sched_words.proofs.FrontLaws.{part-lent, alloc-front}
use Rattle.sched_words.proofs.queue.header_from.Goals as goal

pub returns : goal.returns
returns c =
    let ws = c.args.words.now in
    let size : length ws ≡ 23 = search rules in
    let alloc = c.alloc_from.ensures ∙ ap alloc_from (part-lent 10 12 ws 11 (omega (arith, size)) _ _ c.unwrap.ensures c.first_chunk.ensures.cases) ∙ alloc-front (drop 11 ws) in
    λ i. record {
      pos_of_grant = c.from_word.ensures i;
      encryption_mode = c.from_word-2.ensures i;
      random_access_flag = c.from_word-3.ensures i;
      event_label = c.from_word-4.ensures i;
      usage_marker = c.from_word-5.ensures i;
      power_control_element = c.from_word-6.ensures i;
      slot_granting_element = c.from_word-7.ensures i;
      chan_alloc_element = alloc i;
    }
