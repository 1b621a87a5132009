-- The words of a record fit, word by word. Assumes nothing.
use Rattle.std.proofs.lemmas.Bool.{and_parts}
use Rattle.std.proofs.Common.{◌≡◌, ℕ, zero, suc, ◌+◌, ◌%◌, ◌<◌, ◌≤◌, Bool, true, ◌&&◌}
use Rattle.std.proofs.Common.{eqb, List, [], ◌∷◌, ◌++◌, length, get_or, take, drop, replicate, Option, Some}
use Rattle.std.proofs.Common.{sym, refl, ap, ◌∙◌, ap₂, arith, length-drop, drop-cons, drop-drop, get_or-drop, get_or-take, eq-eqb, eqb-true}
use mathlib.Core.Bool.{and_assoc, and-true}
use Rattle.dl_record.proofs.Tests.{same_test}
use Rattle.dl_record.proofs.RecordLaws.{empty-is}
use Rattle.dl_record.specs.declared.Record.{Record}
use Rattle.dl_record.specs.Record.{empty_record}
use Rattle.dl_record.specs.Questions.{is_empty, holds_grant_only, header_holds_grant_only}
use Rattle.dl_sdu_store.specs.Cells.{all_zero}
use Rattle.sched_words.specs.Words.{record_word_count, opt_low, opt_word, kind_word, kind_from, same_words, alloc_words, alloc_fields, alloc_by, alloc_from}
use Rattle.sched_words.specs.Words.{queued_header_words, record_words}
use Rattle.sched_words.specs.Words.{header_from, record_read, header_fits}
use Rattle.sched_words.proofs.WordLaws.{header-size, record-size, alloc-present}
use Rattle.sched_words.proofs.RoundTrip.{same-equal}
use Rattle.sched_words.specs.Front.{begins}
use Rattle.sched_words.proofs.FitLaws.{eqb-sym, spelled, begins-append, begins-whole, zero-begins}
use Rattle.mac_pdus.specs.declared.ChanAllocElement.{ChanAllocElement}

-- ---- the channel allocation

nested10 : (a b c d e f g h i j : Bool) → a && b && c && d && e && f && g && h && i && j ≡ a
    && (b && (c && (d && (e && (f && (g && (h && (i && (j && true)))))))))
nested10 a b c d e f g h i j = simp (and_assoc, and-true)

module _ (ws : List ℕ) (long : 10 ≤ length ws) where
  pub no-alloc-fits : get_or ws 0 0 ≡ 0 → all_zero (take 9 (drop 1 ws)) ≡ begins (alloc_words (alloc_from ws)) ws
  unfolding begins
  no-alloc-fits e =
      zero-begins 9 (drop 1 ws) (omega (arith, length-drop 1 ws))
      ∙ ap (λ (b : Bool). b && begins (replicate 9 0) (drop 1 ws)) (sym (eq-eqb 0 (get_or ws 0 0) (sym e)))
      ∙ ap (begins (replicate 10 0)) (sym (drop-cons ws 0 0 (omega arith)))
      ∙ ap (λ (w : ℕ). begins (alloc_words (alloc_by w ws)) ws) (sym e)

  pub alloc-fits : (get_or ws 0 0 ≡ 0 → ⊥)
      → eqb (get_or ws 0 0) 1 && eqb (get_or ws 1 0 % 256) (get_or ws 1 0) && eqb (get_or ws 2 0 % 256) (get_or ws 2 0)
      && eqb (get_or ws 3 0 % 256) (get_or ws 3 0) && eqb (get_or ws 4 0 % 256) (get_or ws 4 0) && eqb (get_or ws 5 0 % 256) (get_or ws 5 0)
      && eqb (get_or ws 6 0 % 65536) (get_or ws 6 0) && eqb (get_or ws 7 0 % 256) (get_or ws 7 0) && eqb (get_or ws 8 0 % 256) (get_or ws 8 0)
      && eqb (opt_word (opt_low 256 (get_or ws 9 0))) (get_or ws 9 0)
      ≡ begins (alloc_words (alloc_from ws)) ws
  unfolding begins
  alloc-fits ne =
      let w : ℕ → ℕ = λ i. get_or ws i 0 in
      let low : ℕ → Bool = λ i. eqb (w i % 256) (w i) in
      let number : Bool = eqb (w 6 % 65536) (w 6) in
      let frame18 : Bool = eqb (opt_word (opt_low 256 (w 9))) (w 9) in
      nested10 (eqb (w 0) 1) (low 1) (low 2) (low 3) (low 4) (low 5) number (low 7) (low 8) frame18
      ∙ (λ i. eqb-sym (w 0) 1 i && (low 1 && (low 2 && (low 3 && (low 4 && (low 5 && (number && (low 7 && (low 8 && (frame18 && true))))))))))
      ∙ ap (begins (alloc_words (Some (alloc_fields ws)))) (sym (spelled 10 0 ws (omega arith)))
      ∙ ap (λ (o : Option ChanAllocElement). begins (alloc_words o) ws) (alloc-present (w 0) ws ne)

-- ---- the record

nested9 : (a b c d e f g h i : Bool) → a && b && c && d && e && f && g && h && i ≡ a && (b && (c && (d && (e && (f && (g && (h && i)))))))
nested9 a b c d e f g h i = simp and_assoc

-- tag and header
pub header-fits : (ws : List ℕ) (alloc : Bool) → length ws ≡ record_word_count → alloc ≡ begins (alloc_words (alloc_from (drop 11 ws))) (drop 11 ws)
    → eqb (opt_word (opt_low 65536 (get_or ws 3 0))) (get_or ws 3 0) && eqb (get_or ws 4 0 % 256) (get_or ws 4 0)
    && eqb (get_or ws 5 0 % 256) (get_or ws 5 0) && eqb (get_or ws 6 0 % 256) (get_or ws 6 0)
    && eqb (opt_word (opt_low 65536 (get_or ws 7 0))) (get_or ws 7 0) && eqb (opt_word (opt_low 256 (get_or ws 8 0))) (get_or ws 8 0)
    && eqb (opt_word (opt_low 256 (get_or ws 9 0))) (get_or ws 9 0) && eqb (opt_word (opt_low 256 (get_or ws 10 0))) (get_or ws 10 0) && alloc
    ≡ header_fits ws
unfolding begins
header-fits ws alloc size e =
    let w : ℕ → ℕ = λ i. get_or ws i 0 in
    let low : ℕ → Bool = λ i. eqb (w i % 256) (w i) in
    let opt : ℕ → ℕ → Bool = λ n i. eqb (opt_word (opt_low n (w i))) (w i) in
    nested9 (opt 65536 3) (low 4) (low 5) (low 6) (opt 65536 7) (opt 256 8) (opt 256 9) (opt 256 10) alloc
    ∙ (λ i. opt 65536 3 && (low 4 && (low 5 && (low 6 && (opt 65536 7 && (opt 256 8 && (opt 256 9 && (opt 256 10 && e i))))))))
    ∙ ap (begins (queued_header_words (opt_low 65536 (w 3)) (header_from ws))) (sym (spelled 8 3 ws (omega arith)))

nested5 : (a b c d e : Bool) → a && b && c && d && e ≡ a && (b && (c && (d && (e && true))))
nested5 a b c d e = simp (and_assoc, and-true)

-- the words but for the number, which any word is
pub record-fits : (ws : List ℕ) (header : Bool) → length ws ≡ record_word_count → header ≡ header_fits ws
    → eqb (kind_word (kind_from (get_or ws 0 0))) (get_or ws 0 0) && eqb (get_or ws 1 0 % 256) (get_or ws 1 0) && header
    && eqb (get_or ws 21 0 % 65536) (get_or ws 21 0) && eqb (get_or ws 22 0 % 65536) (get_or ws 22 0)
    ≡ same_words (record_words (record_read ws)) ws
unfolding begins record_words record_read
record-fits ws header size e =
    let w : ℕ → ℕ = λ i. get_or ws i 0 in
    let head : List ℕ = queued_header_words (opt_low 65536 (w 3)) (header_from ws) in
    let last : List ℕ = w 21 % 65536 ∷ w 22 % 65536 ∷ [] in
    let kind : Bool = eqb (kind_word (kind_from (w 0))) (w 0) in
    let address : Bool = eqb (w 1 % 256) (w 1) in
    let half : ℕ → Bool = λ i. eqb (w i % 65536) (w i) in
    let number : true ≡ eqb (w 2) (w 2) = sym (eq-eqb (w 2) (w 2) refl) in
    let from-21 : half 21 && (half 22 && true) ≡ begins last (drop 18 (drop 3 ws)) = ap (begins last) (sym (drop-drop 18 3 ws ∙ spelled 2 21 ws
    (omega arith))) in
    let from-3 : begins head (drop 3 ws) && begins last (drop 18 (drop 3 ws)) ≡ begins (head ++ last) (drop 3 ws) =
    sym (begins-append head last (drop 3 ws) 18 (header-size (opt_low 65536 (w 3)) (header_from ws))) in
    nested5 kind address header (half 21) (half 22)
    ∙ (λ i. kind && (address && (number i && ((ap₂ ◌&&◌ e from-21 ∙ from-3) i))))
    ∙ ap (begins (record_words (record_read ws))) (sym (spelled 3 0 ws (omega arith)))
    ∙ begins-whole (record_words (record_read ws)) ws (record-size (record_read ws) ∙ sym size)

-- ---- the record of a place that is not filled

zeros : (n : ℕ) (ws : List ℕ) → length ws ≡ n → all_zero ws ≡ true → ws ≡ replicate n 0
unfolding all_zero
zeros zero [] e h = refl
zeros zero (w ∷ ws) e h = absurd (omega (arith, e))
zeros (suc n) [] e h = absurd (omega (arith, e))
zeros (suc n) (w ∷ ws) e h = λ i. eqb-true w 0 (and_parts (eqb w 0) (all_zero ws) h).0 i ∷ zeros n ws (omega (arith, e)) (and_parts (eqb w 0)
    (all_zero ws) h).1 i

zeros-read : same_words (record_words (record_read (replicate record_word_count 0))) (replicate record_word_count 0)
    && is_empty (record_read (replicate record_word_count 0)) ≡ true
unfolding same_words record_words record_read is_empty holds_grant_only header_holds_grant_only
zeros-read = refl

empty-zeros : all_zero (record_words empty_record) ≡ true
unfolding all_zero record_words
empty-zeros = refl

pub empty-words : (ws : List ℕ) → length ws ≡ record_word_count → all_zero ws ≡ same_words (record_words (record_read ws)) ws && is_empty (record_read ws)
empty-words ws size =
    same_test (all_zero ws) (same_words (record_words (record_read ws)) ws && is_empty (record_read ws))
    (λ h. ap (λ (l : List ℕ). same_words (record_words (record_read l)) l && is_empty (record_read l)) (zeros record_word_count ws size h) ∙ zeros-read)
    (λ h. ap all_zero (sym (same-equal _ _ (and_parts (same_words (record_words (record_read ws)) ws) (is_empty (record_read ws)) h).0))
    ∙ ap (λ (r : Record). all_zero (record_words r)) (empty-is (record_read ws)
    (and_parts (same_words (record_words (record_read ws)) ws) (is_empty (record_read ws)) h).1) ∙ empty-zeros)

-- ---- only the first 23 words are read

-- an allocation is read of ten words
pub alloc-same : (v w : List ℕ) → ((i : ℕ) → i < 10 → get_or v i 0 ≡ get_or w i 0) → alloc_from v ≡ alloc_from w
alloc-same v w f = ap (λ (n : ℕ). alloc_by n v) (f 0 (omega arith)) ∙ go (get_or w 0 0)
  where
    go : (n : ℕ) → alloc_by n v ≡ alloc_by n w
    go zero = refl
    go (suc n) =
        λ i. Some (record {
          alloc_type = f 1 (omega arith) i % 256;
          ts_assigned = f 2 (omega arith) i % 256;
          ul_dl_assigned = f 3 (omega arith) i % 256;
          clch_permission = f 4 (omega arith) i % 256;
          cell_change_flag = f 5 (omega arith) i % 256;
          carrier_num = f 6 (omega arith) i % 65536;
          ext_carrier_num_flag = f 7 (omega arith) i % 256;
          mon_pattern = f 8 (omega arith) i % 256;
          frame18_mon_pattern = opt_low 256 (f 9 (omega arith) i);
        })

pub read-front : (ws : List ℕ) → record_word_count ≤ length ws → record_read (take record_word_count ws) ≡ record_read ws
unfolding record_read
read-front ws h =
    let front : List ℕ = take record_word_count ws in
    let w : (k : ℕ) → k < record_word_count → get_or front k 0 ≡ get_or ws k 0 = λ k l. get_or-take record_word_count ws k 0 l in
    λ i. record {
      kind = kind_from (w 0 (omega arith) i);
      address = record { kind = w 1 (omega arith) i % 256; number = w 2 (omega arith) i };
      tag = opt_low 65536 (w 3 (omega arith) i);
      header = record {
        pos_of_grant = w 4 (omega arith) i % 256;
        encryption_mode = w 5 (omega arith) i % 256;
        random_access_flag = w 6 (omega arith) i % 256;
        event_label = opt_low 65536 (w 7 (omega arith) i);
        usage_marker = opt_low 256 (w 8 (omega arith) i);
        power_control_element = opt_low 256 (w 9 (omega arith) i);
        slot_granting_element = opt_low 256 (w 10 (omega arith) i);
        chan_alloc_element = alloc-same (drop 11 front) (drop 11 ws)
            (λ k l. get_or-drop 11 front k 0 ∙ w (11 + k) (omega arith) ∙ sym (get_or-drop 11 ws k 0)) i;
      };
      bits = w 21 (omega arith) i % 65536;
      sent = w 22 (omega arith) i % 65536;
    }
