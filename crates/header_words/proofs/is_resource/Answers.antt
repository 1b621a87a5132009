-- Written again and compared. Assumes nothing.
use mathlib.Core.Path.{ap, ◌∙◌}
use mathlib.Core.List.{List}
use Prim.Native.Nat.{ℕ}
use lib.Dec.{eqb}
use lib.Pointwise.{pointwise}
use Rattle.mac_pdus.specs.declared.ResourceHeader.{ResourceHeader}
use Rattle.mac_pdus.specs.declared.PduHeader.{PduHeader}
use Rattle.sched_words.specs.Words.{word_at, same_words}
use Rattle.header_words.specs.HeaderWords.{header_words, resource_words}
use Rattle.header_words.proofs.HeaderLaws.{words-same}
use Rattle.header_words.proofs.is_resource.Goals as goal

pub returns : goal.returns
unfolding resource_words
returns c =
    let ws = c.args.words.now in
    c.eq.ensures ∙ ap (λ (l : List ℕ). pointwise eqb l ws) c.resource_words.ensures ∙ words-same _ ws
    ∙ ap (λ (x : ResourceHeader). same_words (header_words (word_at ws 0) (PduHeader.Resource x)) ws) c.requires
