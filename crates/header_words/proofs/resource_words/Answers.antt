-- Word by word. Assumes nothing.
use Rattle.std.proofs.Common.{◌≡◌, ℕ, List, [], ◌∷◌, ◌++◌, get_or, Option, Some, None, ap, ◌∙◌, unwrap_or}
use Rattle.mac_pdus.specs.declared.ChanAllocElement.{ChanAllocElement}
use Rattle.mac_pdus.specs.declared.MacResource.{MacResource}
use Rattle.mac_pdus.specs.Headers.{address_type}
use Rattle.mac_pdus.specs.Legal.{offered, number_of, label_of, usage_marker_of}
use Rattle.header_words.specs.HeaderWords.{header_words}
use Rattle.sched_words.specs.Words.{alloc_words}
use Rattle.header_words.proofs.resource_words.Goals as goal

-- the words of a channel allocation, one by one
ten-then : (a : List ℕ) (o : Option ChanAllocElement) (rest : List ℕ) → a ≡ alloc_words o
    → get_or a 0 0 ∷ get_or a 1 0 ∷ get_or a 2 0 ∷ get_or a 3 0 ∷ get_or a 4 0 ∷ get_or a 5 0 ∷ get_or a 6 0 ∷ get_or a 7 0 ∷ get_or a 8 0 ∷ get_or a 9 0 ∷ rest
    ≡ alloc_words o ++ rest
ten-then a None rest e = rw e
ten-then a (Some c) rest e = rw e

pub returns : goal.returns
unfolding header_words offered
returns c =
    let r = c.args.r in
    let off = c.from-h.ensures in
    let number : c.from-h.result.number ≡ number_of r.address = ap (λ (h : MacResource). h.number) off in
    let label : c.word-7.result ≡ unwrap_or (label_of r.address) 0 =
    c.word-7.ensures ∙ c.unwrap_or.ensures ∙ ap (λ (h : MacResource). unwrap_or h.event_label 0) off in
    let marker : c.word-8.result ≡ unwrap_or (usage_marker_of r.address) 0 =
    c.word-8.ensures ∙ c.unwrap_or-2.ensures ∙ ap (λ (h : MacResource). unwrap_or h.usage_marker 0) off in
    let type : c.word-6.result ≡ address_type r.address = c.word-6.ensures ∙ c.addr_type.ensures in
    λ i. c.args.at ∷ 0 ∷ c.word.ensures i ∷ c.word-2.ensures i ∷ c.word-3.ensures i ∷ c.word-4.ensures i ∷ c.word-5.ensures i ∷ type i ∷ number i
    ∷ label i ∷ marker i ∷ c.word-9.ensures i ∷ c.word-10.ensures i ∷ ten-then c.alloc_words.result r.chan_alloc_element (0 ∷ []) c.alloc_words.ensures i
