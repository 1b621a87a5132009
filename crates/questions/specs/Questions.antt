-- Document 01, "Questions put to each call": their numbers, and how they are asked. Assumes nothing.
use Rattle.std.specs.Prelude.{Bool, cond, List, [], ◌∷◌, ℕ, Result, Ok, Err}
use Rattle.questions.specs.declared.Refusal.{Refusal}

-- "When an answer is an enum, a definition gives this paper's number and values for each of its cases.": "No: 1." to "No: 12."
abbrev pub refusal_number : Refusal → ℕ
refusal_number Refusal.Unsound = 1
refusal_number Refusal.Lengths = 2
refusal_number Refusal.Timeslot = 3
refusal_number Refusal.Requirement = 4
refusal_number Refusal.Address = 5
refusal_number Refusal.Header = 6
refusal_number Refusal.Sdu = 7
refusal_number Refusal.QueueFull = 8
refusal_number Refusal.NoRun = 9
refusal_number Refusal.TooLate = 10
refusal_number Refusal.NoRoom = 11
refusal_number Refusal.Malformed = 12

-- "number (0 done)" of a reply, with a value or without
abbrev pub number_of : {A : Type 0} → Result A Refusal → ℕ
number_of (Ok x) = 0
number_of (Err r) = refusal_number r

-- "On a no, the number is the whole reply": a reply with a value in its numbers, 0 and the value where every answer is yes
abbrev pub reply : Result ℕ Refusal → List ℕ
reply (Ok n) = 0 ∷ n ∷ []
reply (Err r) = refusal_number r ∷ []

-- a question: is the answer yes, and what is the number of the refusal if not
pub record Question : Type 0 where
  pub holds : Bool
  pub number : ℕ

abbrev pub question : Bool → ℕ → Question
question b n = record { holds = b; number = n }

-- "Only those that apply, in this order. On a no, the number is the whole reply": what follows where every answer is yes, else what is
-- made of the number of the first no
unfoldable pub ask : {A : Type 0} → List Question → A → (ℕ → A) → A
ask [] done refused = done
ask {A} (q ∷ qs) done refused = let rest : A = ask qs done refused in cond q.holds rest (refused q.number)

-- "number (0 done)": that of the first no, 0 where every answer is yes
abbrev pub asked_number : List Question → ℕ
asked_number qs = ask qs 0 (λ n. n)
