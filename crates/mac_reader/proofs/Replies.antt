-- The reader's reply to a block that is no list of PDUs, and its number. Assumes nothing.
use mathlib.Core.Path.{◌≡◌, refl, ◌∙◌}
use mathlib.Core.Bool.{Bool, true, false, ◌&&◌, cond}
use mathlib.Core.List.{List}
use Prim.Native.Nat.{ℕ, ◌-◌, ◌%◌}
use lib.ListN.{length, get_or}
use borrow.Author.Tests.{eq-eqb, ne_eqb}
use Rattle.questions.specs.Questions.{ask}
use Rattle.mac_reader.specs.Reader.{Listing, refused, headers, no_headers, reply_of, is_list, block_pdus, Reading, read_block}

-- a block whose PDUs are not a list is refused, whoever asks for that
pub listed-or-not : (r : Listing) → reply_of r ≡ cond (is_list r) (reply_of r) (no_headers 12)
listed-or-not refused = refl
listed-or-not (headers ps) = refl

-- the number of a reply is 0 or 12, by the last four bits and the list
pub block-number : (b : Bool) (r : Listing) → (cond (b && is_list r) (reply_of r) (no_headers 12)).number ≡ cond (b && is_list r) 0 12
block-number false r = refl
block-number true refused = refl
block-number true (headers ps) = refl

-- ---- the reply to a block of `o` octets, question by question

module _ (o : ℕ) (s : List ℕ) where
  pub other_size : (length s ≡ o → ⊥) → no_headers 2 ≡ read_block o s
  unfolding read_block ask
  other_size h = rw (ne_eqb (length s) o h)

  pub other_end : length s ≡ o → (get_or s (o - 1) 0 % 16 ≡ 0 → ⊥) → no_headers 12 ≡ read_block o s
  unfolding read_block ask
  other_end e h = rw (eq-eqb (length s) o e, ne_eqb (get_or s (o - 1) 0 % 16) 0 h)

  pub all_read : {r : Reading} → length s ≡ o → get_or s (o - 1) 0 % 16 ≡ 0 → r ≡ reply_of (block_pdus o s) → r ≡ read_block o s
  unfolding read_block ask
  all_read e z read = rw (eq-eqb (length s) o e, eq-eqb (get_or s (o - 1) 0 % 16) 0 z) (read ∙ listed-or-not (block_pdus o s))
