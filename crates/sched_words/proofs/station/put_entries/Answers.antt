-- What is left to store still gives the words that all entries give. Assumes nothing.
use Rattle.std.proofs.Common.{ℕ, ◌+◌, ◌*◌, length, refl, sym, ap, ◌∙◌, arith}
use lib.ListN.{get_or}
use lib.Seq.{length-sets}
use Rattle.uplink.specs.UplinkEntry.{empty_entry}
use Rattle.sched_words.specs.Words.{entry_words}
use Rattle.sched_words.proofs.WordLaws.{three-stored, joined-next, joined-done}
use Rattle.sched_words.proofs.station.put_entries.Goals as goal

pub loop-i-preserved : goal.loop-i-preserved
loop-i-preserved c =
    let p : ℕ = c.args.at + 3 * c.loop-i.i in
    let x = get_or c.args.entries.now c.loop-i.i empty_entry in
    let stored = three-stored c.loop-i.words p x _ c.entry_words.ensures in (
      ap length stored ∙ length-sets c.loop-i.words p (entry_words x) ∙ c.loop-i.invariant.0,
      joined-next entry_words 3 (λ x. refl) _ _ _ c.args.entries.now p _ c.loop-i.i empty_entry c.loop-i-test.true stored refl (omega arith)
          ∙ c.loop-i.invariant.1,
    )

pub returns : goal.returns
returns c = sym (joined-done entry_words 3 (λ x. refl) c.loop-i.words c.args.entries.now _ c.loop-i.i c.loop-i-test.false) ∙ c.loop-i.invariant.1
