-- Field by field. Assumes nothing.
use Rattle.std.proofs.Common.{◌≡◌, length, drop, ap, ◌∙◌, arith, rules}
use Rattle.sched_words.proofs.FrontLaws.{part-lent, alloc-front}
use Rattle.sched_words.specs.Words.{alloc_from}
use Rattle.header_words.specs.HeaderWords.{resource_read}
use Rattle.header_words.proofs.resource_read.Goals as goal

pub returns : goal.returns
unfolding resource_read
returns c =
    let ws = c.args.words.now in
    let size : length ws ≡ 24 = search rules in
    let alloc = c.alloc_from.ensures ∙ ap alloc_from (part-lent 10 11 ws 13 (omega (arith, size)) _ _ c.unwrap.ensures c.first_chunk.ensures.cases)
    ∙ alloc-front (drop 13 ws) in
    λ i. record {
      fill_bits = c.from_word.ensures i;
      pos_of_grant = c.from_word-2.ensures i;
      encryption_mode = c.from_word-3.ensures i;
      random_access_flag = c.from_word-4.ensures i;
      length_ind = c.from_word-5.ensures i;
      address = c.address_read.ensures i;
      power_control_element = c.from_word-6.ensures i;
      slot_granting_element = c.from_word-7.ensures i;
      chan_alloc_element = alloc i;
    }
