-- Whether the rule of W-201 arises is a matter of lengths: neither what a record's SDU is known by nor its bits are looked at. Assumes nothing.
use mathlib.Core.Path.{◌≡◌, refl, sym, ap, ap₂, ◌∙◌}
use mathlib.Core.Bool.{Bool, true, ◌&&◌, ◌||◌, not}
use mathlib.Core.List.{List, [], ◌∷◌, map}
use Prim.Native.Nat.{ℕ}
use Rattle.mac_reader.specs.PduList.{Pdu, whole, first, frag, final, null}
use Rattle.dl_record.specs.declared.Record.{Record}
use Rattle.dl_queue.specs.Queue.{Item}
use Rattle.dl_merge.proofs.MergeLaws.{reload}
use Rattle.bs_frag.specs.NextPdu.{Next}
use Rattle.bs_frag.proofs.LengthLaws.{bare, bare_next, next-lengths}
use Rattle.dl_send.specs.Send.{wrote, turn}
use Rattle.dl_send.specs.Document01.{turns01, is_first, starts, starts_behind, arises}

wrote-bare : (ps : List Pdu) → wrote (map bare ps) ≡ wrote ps
wrote-bare [] = refl
wrote-bare (p ∷ ps) = refl

first-bare : (p : Pdu) → is_first (bare p) ≡ is_first p
first-bare (whole h b) = refl
first-bare (first h b) = refl
first-bare (frag h b) = refl
first-bare (final h b) = refl
first-bare null = refl

starts-bare : (ps : List Pdu) → starts (map bare ps) ≡ starts ps
unfolding starts
starts-bare [] = refl
starts-bare (p ∷ ps) = ap₂ ◌||◌ (first-bare p) (starts-bare ps)

module _ {C D : Type 0} (f : Record → C → D) (sc : C → ℕ → List ℕ) (sd : D → ℕ → List ℕ) where
  -- what a turn and those behind it say
  abbrev say : Bool → List (Item C) → Next → Bool
  say may xs s = not may && starts s.pdus || starts_behind (may && wrote s.pdus) (turns01 sc s.room xs)

  say-bare : (may : Bool) (xs : List (Item C)) (s : Next) → say may xs (bare_next s) ≡ say may xs s
  say-bare may xs s = rw (wrote-bare s.pdus, starts-bare s.pdus)

  behind-map : (may : Bool) (room : ℕ) (xs : List (Item C)) → starts_behind may (turns01 sd room (map (reload f) xs)) ≡ starts_behind may (turns01 sc room xs)
  unfolding starts_behind turns01
  behind-map may room [] = refl
  behind-map may room (x ∷ xs) =
      let s : Next = turn sd true room (reload f x) in
      let t : Next = turn sc true room x in
      ap (λ (b : Bool). not may && starts s.pdus || b) (behind-map (may && wrote s.pdus) s.room xs)
      ∙ sym (say-bare may xs s) ∙ ap (say may xs) (next-lengths true room x.rec _ _) ∙ say-bare may xs t

  pub arises-map : (room : ℕ) (xs : List (Item C)) → arises sd room (map (reload f) xs) ≡ arises sc room xs
  unfolding arises
  arises-map room xs = behind-map true room xs
