-- The reservation's loop: what is still to be reserved gives the uplink promised. Assumes nothing.
use mathlib.Core.Path.{◌≡◌}
use Prim.Native.Nat.{ℕ}
use Rattle.uplink.specs.declared.Uplink.{Uplink}
use Rattle.uplink.specs.Uplink.{with_table}
use Rattle.uplink.specs.Functions.{block_halves}
use Rattle.uplink.proofs.FrameWalk.{At, fill}
use Rattle.ul_reserve.proofs.ul_reserve_grant.Given as goal

abbrev pub invariant-loop-dist : goal.invariant-loop-dist
invariant-loop-dist l =
    let filled : ℕ → ℕ → ℕ → Uplink → Uplink =
    λ left u d v. with_table v (fill (block_halves l.block) l.ssi l.usage_marker left u d v.rows) v.next_usage_marker in
    (u : ℕ) → At u l.row l.first → filled l.left u l.dist l.u ≡ filled l.num_slots u l.start l.initial.u
