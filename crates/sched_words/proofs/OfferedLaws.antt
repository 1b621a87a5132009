-- A word of an offered record that is too wide for its field is refused by the field's question: 5, 6 or 7. Assumes nothing.
use Rattle.std.proofs.Common.{◌≡◌, ℕ, ◌*◌, ◌<◌, Bool, true, false, cond, ◌&&◌, leb, List, length, ap, arith}
use borrow.Author.Tests.{lt-leb}
use Rattle.sizes.specs.Sizes.{sdu_bits}
use Rattle.mac_pdus.specs.Legal.{fits, legal_fields, legal_offered, legal_queued, within_widths}
use Rattle.dl_record.specs.Record.{offered_record, resource_of}
use Rattle.dl_record.specs.Questions.{legal_address, present_sdu}
use Rattle.sched_words.specs.Words.{word_at, opt_low, header_from, saturated, header_fits, illegal_header, offered_from}

above : (most low w : ℕ) → low < w → low < most → low < saturated most w
above most low w h k = go (leb w most)
  where
    go : (b : Bool) → low < cond b w most
    go true = h
    go false = k

module _ (ws : List ℕ) where
  -- an address kind above 2: 5
  pub wide-kind : 2 < word_at ws 1 → (n : ℕ) → legal_address (offered_from ws).address.kind n ≡ false
  unfolding offered_from legal_address
  wide-kind h n = ap (λ (b : Bool). b && fits 24 n) (lt-leb (saturated 255 (word_at ws 1)) 2 (above 255 2 (word_at ws 1) h (omega arith)))

  -- a header that does not fit: 6
  pub wide-header : header_fits ws ≡ false → legal_offered (resource_of (offered_from ws) 0 0) ≡ false
  unfolding offered_from legal_offered legal_queued legal_fields within_widths
  wide-header h =
      ap (λ (b : Bool). legal_offered (resource_of (offered_record (saturated 255 (word_at ws 1)) (word_at ws 2) (opt_low 65536 (word_at ws 3))
      (cond b (header_from ws) illegal_header) (saturated 65535 (word_at ws 21))) 0 0)) h

  -- more bits than an SDU has: 7
  pub wide-bits : sdu_bits < word_at ws 21 → (sdu : List ℕ) → present_sdu (offered_from ws).bits sdu ≡ false
  unfolding offered_from present_sdu
  wide-bits h sdu =
      let bits : ℕ = saturated 65535 (word_at ws 21) in
      ap (λ (b : Bool). b && leb bits (8 * length sdu)) (lt-leb bits sdu_bits (above 65535 sdu_bits (word_at ws 21) h (omega arith)))
