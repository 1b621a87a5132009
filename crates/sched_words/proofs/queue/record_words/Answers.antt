-- Three runs of words, one after another. Assumes nothing.
use Rattle.std.proofs.Common.{◌≡◌, ℕ, [], ◌∷◌, ◌++◌, replicate, Option, Some, None, refl, ◌∙◌}
use borrow.Rule.Slice.PartMut.{put_mid}
use Rattle.mac_pdus.specs.declared.ChanAllocElement.{ChanAllocElement}
use Rattle.sched_words.specs.Words.{alloc_words, record_words}
use Rattle.sched_words.proofs.queue.record_words.Goals as goal

runs : (k a n t g m f l u p s bits sent : ℕ) (o : Option ChanAllocElement)
    → put_mid 21 2 (put_mid 11 10 ((k ∷ a ∷ n ∷ t ∷ g ∷ m ∷ f ∷ l ∷ u ∷ p ∷ s ∷ []) ++ replicate 12 0) (alloc_words o)) (bits ∷ sent ∷ [])
    ≡ k ∷ a ∷ n ∷ t ∷ g ∷ m ∷ f ∷ l ∷ u ∷ p ∷ s ∷ (alloc_words o ++ bits ∷ sent ∷ [])
runs k a n t g m f l u p s bits sent None = refl
runs k a n t g m f l u p s bits sent (Some c) = refl

pub returns : goal.returns
unfolding record_words
returns c =
    let alloc = c.copy_from_slice-2.ensures.after ∙ c.alloc_words.ensures in
    let r = c.args.r in
    (λ i. put_mid 21 2 (put_mid 11 10 (c.copy_from_slice.ensures.after i ++ replicate 12 0) (alloc i)) (c.copy_from_slice-3.ensures.after i))
    ∙ runs _ _ _ _ _ _ _ _ _ _ _ _ _ r.header.chan_alloc_element
    ∙ (λ i. c.word.ensures i ∷ c.word-2.ensures i ∷ r.address.number ∷ c.word-3.ensures i ∷ c.word-4.ensures i ∷ c.word-5.ensures i
    ∷ c.word-6.ensures i ∷ c.word-7.ensures i ∷ c.word-8.ensures i ∷ c.word-9.ensures i ∷ c.word-10.ensures i
    ∷ (alloc_words r.header.chan_alloc_element ++ c.word-11.ensures i ∷ c.word-12.ensures i ∷ []))
