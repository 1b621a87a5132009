-- What the entries answer and leave, as the outcomes of the calls. Assumes nothing.
use Rattle.std.specs.Prelude.{List, [], ℕ, length, Option, Some, None, Result, Ok, Err}
use Rattle.sizes.specs.Sizes.{per_timeslot}
use Rattle.questions.specs.declared.Refusal.{Refusal}
use Rattle.dl_send.specs.Arrays.{tag_row}
use Rattle.dl_send.specs.declared.Tags.{Tags}
use Rattle.sched_core.specs.Questions.{Memory}
use Rattle.sched_core.specs.Replies.{Numbered, tags_in, build_reply}
use Rattle.sched_core.specs.Calls.{BuildOutcome}

-- "Tags of finished records come back in order": sixteen tags, zeros behind those that come back
abbrev pub tags_of : List ℕ → Tags
tags_of tags = record { tags = tag_row per_timeslot tags; tag_count = length tags }

-- none come back without a block
abbrev pub tags_back : Result (Option Tags) Refusal → Tags
tags_back (Ok (Some t)) = t
tags_back (Ok None) = tags_of []
tags_back (Err r) = tags_of []

-- all that a build answers and leaves: its reply by number, the tags that come back, station, queue, store and block
pub record BuildLeft : Type 0 where
  pub reply : Numbered
  pub tags : Tags
  pub memory : Memory
  pub block : List ℕ

-- of a reply with what is lent after it, the caller's block too
abbrev pub build_left : Result (Option Tags) Refusal → Memory → List ℕ → BuildLeft
build_left r m block = record { reply = build_reply r block; tags = tags_back r; memory = m; block = block }

-- of an outcome
abbrev pub left_by : BuildOutcome → BuildLeft
left_by o = record { reply = o.reply; tags = tags_of (tags_in o.reply); memory = o.memory; block = o.block }
