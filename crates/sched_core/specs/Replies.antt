-- Replies by document 01's numbers and values, and which of them each answer of the code is. Assumes nothing.
use Rattle.std.specs.Prelude.{◌&&◌, cond, List, [], ℕ, take, Option, Some, None, Result, Ok, Err}
use Rattle.questions.specs.declared.Refusal.{Refusal}
use Rattle.questions.specs.Questions.{refusal_number}
use Rattle.uplink.specs.declared.AccessAssignUlUsage.{AccessAssignUlUsage}
use Rattle.uplink.specs.declared.Grant.{Grant}
use Rattle.uplink.specs.declared.Entry.{Entry}
use Rattle.uplink.specs.HalfSlot.{vacant}
use Rattle.uplink.specs.UplinkEntry.{usage_number, marker_of_usage}
use Rattle.dl_send.specs.declared.Tags.{Tags}

-- "On a no, the number is the whole reply". A grant has its capacity, its delay, and a marker or none; a block its octets, with the tags of
-- finished records; a slot its owner or none, or the number of its usage with a marker or none.
pub data Numbered : Type 0 where
  done : Numbered
  refused : ℕ → Numbered
  granted : ℕ → ℕ → Option ℕ → Numbered
  block : List ℕ → List ℕ → Numbered
  no_block : Numbered
  owned : Option ℕ → Numbered
  used : ℕ → Option ℕ → Numbered

-- "number (0 done)"
abbrev pub reply_number : Numbered → ℕ
reply_number done = 0
reply_number (refused n) = n
reply_number (granted capacity delay marker) = 0
reply_number (block octets tags) = 0
reply_number no_block = 0
reply_number (owned o) = 0
reply_number (used n marker) = 0

-- "Tags of finished records come back in order": with a block only
abbrev pub tags_in : Numbered → List ℕ
tags_in done = []
tags_in (refused n) = []
tags_in (granted capacity delay marker) = []
tags_in (block octets tags) = tags
tags_in no_block = []
tags_in (owned o) = []
tags_in (used n marker) = []

-- ---- "When an answer is an enum, a definition gives this paper's number and values for each of its cases."

-- what each yes is, and a no by its number
abbrev pub numbered_reply : {A : Type 0} → (A → Numbered) → Result A Refusal → Numbered
numbered_reply f (Ok x) = f x
numbered_reply f (Err r) = refused (refusal_number r)

abbrev pub queue_reply : Result (Unit {0}) Refusal → Numbered
queue_reply r = numbered_reply (λ _. done) r

abbrev pub request_reply : Result Grant Refusal → Numbered
request_reply r = numbered_reply (λ g. granted g.capacity g.delay g.usage_marker) r

-- a block is written, or there is nothing to build
abbrev pub built_reply : List ℕ → Option Tags → Numbered
built_reply octets None = no_block
built_reply octets (Some t) = block octets (take t.tag_count t.tags)

-- with the caller's block after the call
abbrev pub build_reply : Result (Option Tags) Refusal → List ℕ → Numbered
build_reply r octets = numbered_reply (built_reply octets) r

abbrev pub owner_reply : Result (Option ℕ) Refusal → Numbered
owner_reply r = numbered_reply owned r

abbrev pub usage_reply : Result AccessAssignUlUsage Refusal → Numbered
usage_reply r = numbered_reply (λ u. used (usage_number u) (marker_of_usage u)) r

-- ---- usage

-- "3 any taken with a marker, the marker beside it"
abbrev pub used_unless_marked : Option ℕ → ℕ → Numbered
used_unless_marked None n = used n None
used_unless_marked (Some m) n = used 3 (Some m)

-- "Usage: 0 no half taken, 1 first only, 2 both"
abbrev pub used_as : Entry → Numbered
used_as e =
    let taken : Numbered = used_unless_marked e.usage_marker (cond (vacant e.ul2) 1 2) in
    cond (vacant e.ul1 && vacant e.ul2) (used 0 None) taken
