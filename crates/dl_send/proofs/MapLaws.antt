-- Sending looks at an SDU's bits and not at what it is known by: so places, cells, SDUs by value and named SDUs give the same PDUs, room and tags, and what
-- stays keeps what it is known by. Assumes nothing.
use mathlib.Core.Path.{◌≡◌, refl, sym, ap, ◌∙◌}
use mathlib.Core.Bool.{Bool, ◌&&◌}
use mathlib.Core.List.{List, [], ◌∷◌, ◌++◌, map, map-append}
use Prim.Native.Nat.{ℕ}
use Rattle.lists.proofs.Every.{All}
use Rattle.dl_record.specs.declared.Kind.{Kind}
use Rattle.dl_record.specs.declared.Record.{Record}
use Rattle.dl_queue.specs.Queue.{Item, item}
use Rattle.dl_merge.proofs.MergeLaws.{reload}
use Rattle.bs_frag.specs.NextPdu.{Next, next}
use Rattle.bs_frag.specs.declared.ChunkOutcome.{ChunkOutcome}
use Rattle.bs_frag.specs.declared.ChunkOutcome.TheVariants.{Finished, Waiting, Started}
use Rattle.dl_send.specs.Send.{again, staying, tags_of, wrote, Sent, send_all, turns, read_off, room_after}
use Rattle.dl_send.proofs.StepLaws.{and_then}

-- a map of loads that does not look at what a turn changes of a record
abbrev pub Steady : {C D : Type 0} → (Record → C → D) → Type 0
Steady {C} f = (k : Kind) (n : ℕ) (r : Record) (c : C) → f (again k n r) c ≡ f r c

-- the SDU of an item is that of its new load
abbrev pub SameSdu : {C D : Type 0} → (Record → C → D) → (C → ℕ → List ℕ) → (D → ℕ → List ℕ) → Item C → Type 0
SameSdu f sc sd x = sd (f x.rec x.load) x.rec.bits ≡ sc x.load x.rec.bits

module _ {C D : Type 0} (f : Record → C → D) (steady : Steady f) where
  abbrev pub reload_sent : Sent C → Sent D
  reload_sent s = record { pdus = s.pdus; room = s.room; left = map (reload f) s.left; tags = s.tags }

  kept_map : (o : ChunkOutcome) (x : Item C) → staying o (reload f x) ≡ map (reload f) (staying o x)
  kept_map Finished x = refl
  kept_map Waiting x = ap (λ (d : D). item (again Kind.Waiting 0 x.rec) d ∷ []) (sym (steady Kind.Waiting 0 x.rec x.load))
  kept_map (Started n) x = ap (λ (d : D). item (again Kind.Started n x.rec) d ∷ []) (sym (steady Kind.Started n x.rec x.load))

  then_map : (s : Next) (x : Item C) (t : Sent C) → and_then s (reload f x) (reload_sent t) ≡ reload_sent (and_then s x t)
  then_map s x t =
      ap (λ (l : List (Item D)). record { pdus = s.pdus ++ t.pdus; room = t.room; left = l; tags = tags_of s.outcome x.rec.tag ++ t.tags })
      (ap (λ (l : List (Item D)). l ++ map (reload f) t.left) (kept_map s.outcome x) ∙ sym (map-append (reload f) (staying s.outcome x) t.left))

  -- to send and then map the loads is to map them and then send
  pub send_all-map : (sc : C → ℕ → List ℕ) (sd : D → ℕ → List ℕ) (may : Bool) (room : ℕ) (xs : List (Item C)) → All (SameSdu f sc sd) xs
      → send_all sd may room (map (reload f) xs) ≡ reload_sent (send_all sc may room xs)
  unfolding send_all turns read_off room_after
  send_all-map sc sd may room [] h = refl
  send_all-map sc sd may room (x ∷ xs) h =
      let n : Next = next may room x.rec (sc x.load x.rec.bits) in
      ap (λ (l : List ℕ).
      let s : Next = next may room x.rec l in
      and_then s (reload f x) (send_all sd (may && wrote s.pdus) s.room (map (reload f) xs))) h.0
      ∙ ap (and_then n (reload f x)) (send_all-map sc sd (may && wrote n.pdus) n.room xs h.1)
      ∙ then_map n x _
