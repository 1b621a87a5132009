-- After i turns those of the first i records that are wanted stand behind the others.
use mathlib.Core.Path.{◌≡◌}
use mathlib.Core.Bool.{Bool}
use mathlib.Core.List.{List}
use Prim.Native.Nat.{ℕ, ◌+◌}
use lib.ListN.{length}
use Rattle.dl_record.specs.declared.Kind.{Kind}
use Rattle.dl_queue.specs.Queue.{Item}
use Rattle.dl_merge.specs.Merge.{only}
use Rattle.dl_send.specs.Arrays.{listed}
use Rattle.dl_build.specs.Build.{Decides, Takes}
use Rattle.dl_build.proofs.OrderLaws.{took}
use Rattle.dl_build.proofs.take_records.Given as goal

abbrev pub invariant-loop-i : goal.invariant-loop-i
invariant-loop-i g l =
    record {
      count : (p : Kind → Bool) → Decides (goal.F-post g l.wanted) p
          → length l.order.items ≡ length l.initial.order.items + length (only p (listed l.i l.merged.records l.merged.from));
      takes : (p : Kind → Bool) → Decides (goal.F-post g l.wanted) p → (xs : List (Item ℕ))
          → Takes l.merged.records l.merged.from l.initial.order.items (length l.initial.order.items) xs
          → Takes l.merged.records l.merged.from l.order.items (length l.order.items) (took p xs l.i l.merged.records l.merged.from);
    }
