-- Exit by exit. Assumes nothing.
use Rattle.std.proofs.Common.{◌≡◌, ℕ, List, length, Bor, ap, ◌∙◌}
use Rattle.std.proofs.lemmas.Result.{err_from_is_err_and}
use Rattle.questions.specs.declared.Refusal.{Refusal}
use Rattle.questions.proofs.AskLaws.{said-no, said-yes}
use Rattle.mac_pdus.specs.Legal.{offered}
use Rattle.sched_words.proofs.FrontLaws.{other-array, whole-array}
use Rattle.header_words.specs.HeaderWords.{header_word_count, resource_read, resource_words}
use Rattle.header_words.proofs.WriteLaws.{other_length, no-resource, resource-written}
use Rattle.header_words.proofs.write_words.Goals as goal
use Rattle.header_words.proofs.write_words.Goals.{In_ok-words}

pub returns-in_err-words : goal.returns-in_err-words
returns-in_err-words c =
    let a = c.args in
    let p = err_from_is_err_and c.from_residual.result c.from_residual.ensures.1 in
    let n = other-array (λ (y : Bor (List ℕ)). y.now) a.words.now header_word_count c.as_array.result Refusal.Lengths
    c.ok_or.ensures.value c.in_err-words.was c.as_array.ensures.cases in
    rw (p.1, p.2, n.1) (other_length a.buf.now a.at a.words.now n.0)

-- the words, as they are lent
lent : (c : In_ok-words) → (length c.args.words.now ≡ header_word_count) × (c.in_ok-words.words.now ≡ c.args.words.now)
lent c =
    whole-array (λ (y : Bor (List ℕ)). y.now) c.args.words.now header_word_count c.as_array.result Refusal.Lengths
    c.ok_or.ensures.value c.in_ok-words.was c.as_array.ensures.cases

pub returns-then-not-is_resource : goal.returns-then-not-is_resource
returns-then-not-is_resource c =
    let a = c.args in
    let w = lent (goal.at.returns-then-not-is_resource c).In_ok-words in
    no-resource a.buf.now a.at a.words.now w.0 (said-no (c.is_resource.ensures ∙ ap resource_words w.1) c.if-not-is_resource.true)

pub returns : goal.returns
returns c =
    let a = c.args in
    let w = lent (goal.at.returns c).In_ok-words in
    resource-written a.buf.now a.at a.words.now w.0 (said-yes (c.is_resource.ensures ∙ ap resource_words w.1) c.if-not-is_resource.false) _
    (c.from.ensures ∙ ap offered (c.resource_read-r.ensures ∙ ap resource_read w.1)) _ _ c.write_header.ensures
