-- The replies of the code by document 01's numbers. Assumes nothing.
use Rattle.std.proofs.Common.{Option, Some, None, Ok}
use mathlib.Core.Path.{◌≡◌, refl}
use mathlib.Core.Bool.{Bool, true, false, ◌&&◌, cond}
use Prim.Native.Nat.{ℕ}
use Rattle.uplink.specs.declared.AccessAssignUlUsage.{AccessAssignUlUsage}
use Rattle.uplink.specs.declared.Entry.{Entry}
use Rattle.uplink.specs.HalfSlot.{vacant}
use Rattle.uplink.specs.UplinkEntry.{or_marked, usage_of}
use Rattle.sched_core.specs.Replies.{Numbered, usage_reply, used_unless_marked, used_as}

-- the usage of an entry has the number and the marker that document 01 gives it
pub usage-numbered : (e : Entry) → usage_reply (Ok (usage_of e)) ≡ used_as e
usage-numbered e = go (vacant e.ul1) (vacant e.ul2) e.usage_marker
  where
    go : (a b : Bool) (m : Option ℕ)
        → usage_reply (Ok (cond (a && b) AccessAssignUlUsage.CommonOnly
        (or_marked m (cond b AccessAssignUlUsage.CommonAndAssigned AccessAssignUlUsage.AssignedOnly))))
        ≡ cond (a && b) (Numbered.used 0 None) (used_unless_marked m (cond b 1 2))
    go true true m = refl
    go true false None = refl
    go true false (Some m) = refl
    go false true None = refl
    go false true (Some m) = refl
    go false false None = refl
    go false false (Some m) = refl
