-- Document 01, "Queued record": "kind (grant, ack, record, waiting, started)", and the groups of kinds that its sentences name. Assumes nothing.
use Rattle.std.specs.Prelude.{Bool, true, false, not}
use Rattle.dl_record.specs.declared.Kind.{Kind}

-- one answer for each kind: "grant, ack, record, waiting, started"
abbrev pub by_kind : Bool → Bool → Bool → Bool → Bool → Kind → Bool
by_kind g a r w s Kind.Grant = g
by_kind g a r w s Kind.Ack = a
by_kind g a r w s Kind.Record = r
by_kind g a r w s Kind.Waiting = w
by_kind g a r w s Kind.Started = s

abbrev pub is_grant : Kind → Bool
is_grant k = by_kind true false false false false k

-- "each grant or ack goes to the first record"
abbrev pub is_grant_or_ack : Kind → Bool
is_grant_or_ack k = by_kind true true false false false k

abbrev pub is_kept : Kind → Bool
is_kept k = not (is_grant_or_ack k)

-- "the first record (not waiting, not started)"
abbrev pub is_record : Kind → Bool
is_record k = by_kind false false true false false k

-- "waiting and started records in queue order, then records"
abbrev pub is_underway : Kind → Bool
is_underway k = by_kind false false false true true k

-- its first bits are sent
abbrev pub is_started : Kind → Bool
is_started k = by_kind false false false false true k
