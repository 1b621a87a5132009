-- The station as the code holds it: the calls of `sched_core` on station, records and store. Assumes nothing.
use Rattle.std.specs.Prelude.{List}
use Rattle.tdma_time.specs.declared.TdmaTime.{TdmaTime}
use Rattle.sched_core.specs.Questions.{Memory}
use Rattle.sched_core.specs.Replies.{Numbered, done, refused, granted, block, no_block, owned, used}
use Rattle.sched_core.specs.Calls.{Outcome, BuildOutcome, owner_call, usage_call, request_call, ack_call, tma_call, build_call, new_memory, advance_memory}
use Rattle.history.specs.Call.{Query, owner, usage, Call, advance, request, enqueue_ack, enqueue_record, build, read, Stepped, stepped, run}

-- of a reading call the number alone: the owner or the usage itself is what `reads` of `Demand3` says
abbrev pub number_only : Numbered → Numbered
number_only done = done
number_only (refused n) = refused n
number_only (granted capacity delay marker) = done
number_only (block octets tags) = done
number_only no_block = done
number_only (owned o) = done
number_only (used n marker) = done

-- what a call that only reads answers
abbrev pub read_answer : Query → Memory → Numbered
read_answer (owner x half) m = owner_call m.station x half
read_answer (usage x) m = usage_call m.station x

-- what a call of the code comes to, and a build
abbrev pub answered : Outcome → Stepped Memory
answered o = stepped o.memory o.reply

abbrev pub answered_build : BuildOutcome → Stepped Memory
answered_build o = stepped o.memory o.reply

unfoldable pub memory_step : Call → Memory → Stepped Memory
memory_step advance m = answered (advance_memory m)
memory_step (request a) m = answered (request_call m a.timeslot a.code a.kind a.number)
memory_step (enqueue_ack o) m = answered (ack_call m o.timeslot o.kind o.number)
memory_step (enqueue_record o) m = answered (tma_call m o.timeslot o.kind o.number o.tag o.header o.bits o.octets)
memory_step (build b) m = answered_build (build_call m b)
memory_step (read q) m = stepped m (number_only (read_answer q m))

-- "on a new station at any valid time, every place and cell empty"
abbrev pub memory_at : TdmaTime → List Call → Memory
memory_at x cs = run memory_step cs (new_memory x)
