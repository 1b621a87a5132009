-- Questions 2 and 12, then the list.
use Prim.Native.Nat.{ℕ}
use mathlib.Core.List.{List, ◌++◌}
use lib.ListN.{replicate}
use native.Mathlib.Omega.{arith}
use Rattle.sizes.specs.Sizes.{block_width}
use Rattle.bitbuffer.specs.Bits.{bits_of}
use Rattle.mac_reader.specs.Reader.{Reading, block_pdus, read_pdus, no_headers, reply_of, most_pdus}
use Rattle.mac_reader.proofs.Replies.{other_size, other_end, all_read}
use mathlib.Core.Path.{◌≡◌, ap, subst, ◌∙◌}
use Rattle.std.proofs.Common.{Result, Ok, Err, IfOk, IfErr}
use Rattle.std.proofs.lemmas.Result.{err_from_is_err_and}
use Rattle.questions.specs.declared.Refusal.{Refusal}
use Rattle.questions.specs.Questions.{refusal_number}
use Rattle.mac_reader.proofs.read_block.Goals as goal

abbrev whole : List ℕ → Reading
whole s = reply_of (read_pdus most_pdus block_width (bits_of s) 0)

module _ {A : Type 0} (X : Type 0) (Y : Refusal → Type 0) {r : Result A Refusal} (h : IfOk r (λ _. X) × IfErr r Y) where
  told-ok : {x : A} → r ≡ Ok x → X
  told-ok e = (subst (λ (q : Result A Refusal). IfOk q (λ _. X) × IfErr q Y) e h).0

  told-err : {x : Refusal} → r ≡ Err x → Y x
  told-err e = (subst (λ (q : Result A Refusal). IfOk q (λ _. X) × IfErr q Y) e h).1

pub returns-then-block-ne-BLOCK_OCTETS : goal.returns-then-block-ne-BLOCK_OCTETS
returns-then-block-ne-BLOCK_OCTETS c = other_size _ _ c.if-block-ne-BLOCK_OCTETS.true

pub returns-then-block-ne0 : goal.returns-then-block-ne0
returns-then-block-ne0 c =
    other_end _ _ c.if-block-ne-BLOCK_OCTETS.false (λ z. c.if-block-ne0.true (omega arith))

pub returns-in_err-read_list : goal.returns-in_err-read_list
unfolding block_pdus
returns-in_err-read_list c =
    let p = err_from_is_err_and c.from_residual.result c.from_residual.ensures.1 in
    rw (p.1, p.2)
    (all_read _ _ c.if-block-ne-BLOCK_OCTETS.false (omega arith)
    (told-err _ (λ (r : Refusal). no_headers (refusal_number r) ≡ whole (c.copy_from_slice.new.self ++ replicate 14 0)) c.read_list.ensures c.in_err-read_list.was
    ∙ ap (λ (x : List ℕ). whole (x ++ replicate 14 0)) c.copy_from_slice.ensures.after))

pub returns : goal.returns
unfolding block_pdus
returns c =
    all_read _ _ c.if-block-ne-BLOCK_OCTETS.false (omega arith)
    (told-ok _ _ c.read_list.ensures c.in_ok-read_list.was
    ∙ ap (λ (x : List ℕ). whole (x ++ replicate 14 0)) c.copy_from_slice.ensures.after)
