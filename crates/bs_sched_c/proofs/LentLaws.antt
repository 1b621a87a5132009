-- What is lent as an array of words, and what question 1 tells of a station's words. Assumes nothing.
use Rattle.std.proofs.Common.{◌≡◌, ◌≢◌, ℕ, true, false, eqb, List, length, Option, Some, None, Result, Ok, Err, MatchOption, IfOk, IfErr, MutBor, Bor}
use Rattle.std.proofs.Common.{subst, refl, sym, ap, ◌∙◌, ne_eqb}
use Rattle.std.specs.Option.{ok_or, IsSome}
use Rattle.std.specs.Array.{IsWholeChunk}
use Rattle.questions.specs.declared.Refusal.{Refusal}
use Rattle.sched_core.specs.Questions.{sound_station}
use Rattle.sched_words.specs.declared.station.SoundWords.{SoundWords}
use Rattle.sched_words.specs.Words.{station_from}
use Rattle.sched_words.proofs.FrontLaws.{other-array, whole-array}

-- ---- words of a number, or of another

module _ {B : Type 0} (now : B → List ℕ) (ws : List ℕ) (n : ℕ) where
  abbrev pub Lends : Option B → Type 0
  Lends o = MatchOption o (length ws ≢ n) (λ y. IsWholeChunk ws (now y) n)

  pub lent-other : (o : Option B) {r : Result B Refusal} {x : Refusal} → r ≡ ok_or o Refusal.Lengths → r ≡ Err x → Lends o
      → (eqb (length ws) n ≡ false) × (x ≡ Refusal.Lengths)
  lent-other o v h m = let p = other-array now ws n o Refusal.Lengths v h m in (ne_eqb _ _ p.0, p.1)

  pub lent-whole : (o : Option B) {r : Result B Refusal} {y : B} → r ≡ ok_or o Refusal.Lengths → r ≡ Ok y → Lends o
      → (length (now y) ≡ n) × (ws ≡ now y)
  lent-whole o v h m = let p = whole-array now ws n o Refusal.Lengths v h m in (ap length p.1 ∙ p.0, sym p.1)

  pub lends-some : (o : Option B) → length ws ≡ n → Lends o → IsSome o
  lends-some None h m = absurd (m h)
  lends-some (Some y) h m = refl

  pub some-lent : (o : Option B) {y : B} → o ≡ Some y → Lends o → now y ≡ ws
  some-lent o {y} e m = (subst Lends e m).same

abbrev pub mut_now : MutBor (List ℕ) → List ℕ
mut_now y = y.now

abbrev pub now : Bor (List ℕ) → List ℕ
now y = y.now

-- ---- question 1

pub sound-yes : {ws : List ℕ} {r : Result SoundWords Refusal} {x : SoundWords}
    → IfOk r (λ y. (y.words.now ≡ ws) × (sound_station (station_from ws) ≡ true)) → r ≡ Ok x
    → (x.words.now ≡ ws) × (sound_station (station_from ws) ≡ true)
sound-yes {ws} h e = subst (λ (q : Result SoundWords Refusal). IfOk q (λ y. (y.words.now ≡ ws) × (sound_station (station_from ws) ≡ true))) e h

pub sound-no : (ws : List ℕ) {r : Result SoundWords Refusal} {x : Refusal}
    → IfErr r (λ y. (y ≡ Refusal.Unsound) × (sound_station (station_from ws) ≡ false)) → r ≡ Err x
    → (x ≡ Refusal.Unsound) × (sound_station (station_from ws) ≡ false)
sound-no ws h e = subst (λ (q : Result SoundWords Refusal). IfErr q (λ y. (y ≡ Refusal.Unsound) × (sound_station (station_from ws) ≡ false))) e h

pub words-lent : {ws : List ℕ} {r : Result SoundWords Refusal} {x : SoundWords} → IfOk r (λ y. y.words.now ≡ ws) → r ≡ Ok x → x.words.now ≡ ws
words-lent {ws} h e = subst (λ (q : Result SoundWords Refusal). IfOk q (λ y. y.words.now ≡ ws)) e h
