-- W-201: a build of a queue in which at most the first record is started leaves such a queue (`one-built`). Assumes nothing.
use mathlib.Core.Path.{◌≡◌, refl, sym, ap, subst, ◌∙◌}
use mathlib.Core.Bool.{Bool, true, false}
use mathlib.Core.List.{List, [], ◌∷◌}
use Prim.Native.Nat.{ℕ, ◌≤◌}
use Rattle.mac_pdus.proofs.Conjunctions.{false-not-true}
use Rattle.dl_record.specs.declared.Kind.{Kind}
use Rattle.dl_record.specs.Kind.{is_grant_or_ack, is_kept, is_record, is_underway, is_started}
use Rattle.dl_queue.specs.Queue.{Item}
use Rattle.dl_merge.specs.Merge.{takes_number, only, put, puts, merge}
use Rattle.dl_merge.proofs.MergeLaws.{merge-all}
use Rattle.dl_send.proofs.OpenLaws.{NotStarted, NoneStarted, OnlyFirst, none_first, one_left}
use Rattle.dl_build.specs.Build.{in_order, build_list}
use Rattle.dl_build.proofs.OrderLaws.{order-all}

-- what a started record is
record IsStarted (k : Kind) : Type 0 where
  no-grant : is_grant_or_ack k ≡ false
  no_record : is_record k ≡ false
  underway : is_underway k ≡ true

started-is : (k : Kind) → is_started k ≡ true → IsStarted k
started-is Kind.Grant e = false-not-true e
started-is Kind.Ack e = false-not-true e
started-is Kind.Record e = false-not-true e
started-is Kind.Waiting e = false-not-true e
started-is Kind.Started e = record { no-grant = refl; no_record = refl; underway = refl }

module _ {C : Type 0} (fresh : Item C → C) (join : Item C → C → C) where
  -- ---- a started record at the head stays there

  module _ (x : Item C) (k : IsStarted x.rec.kind) where
    -- no grant or ack goes to it
    puts-behind : (gs xs : List (Item C)) → puts fresh join gs (x ∷ xs) ≡ x ∷ puts fresh join gs xs
    unfolding puts put takes_number
    puts-behind [] xs = refl
    puts-behind (g ∷ gs) xs = rw k.no_record (puts-behind gs (put fresh join g xs))

    merge-behind : (xs : List (Item C)) → merge fresh join (x ∷ xs) ≡ x ∷ merge fresh join xs
    unfolding merge only
    merge-behind xs = rw k.no-grant (puts-behind (only is_grant_or_ack xs) (only is_kept xs))

    order-behind : (xs : List (Item C)) → in_order (x ∷ xs) ≡ x ∷ in_order xs
    unfolding in_order only
    order-behind xs = rw (k.underway, k.no_record) refl

  -- ---- merged and in order

  merged-none : (xs : List (Item C)) → NoneStarted xs → NoneStarted (in_order (merge fresh join xs))
  merged-none xs h = order-all NotStarted (merge fresh join xs) (merge-all fresh join NotStarted (λ g x k t p q. q) (λ g k p. refl) xs h)

  merged-first : (xs : List (Item C)) → OnlyFirst xs → OnlyFirst (in_order (merge fresh join xs))
  merged-first [] h = none_first (in_order (merge fresh join [])) (merged-none [] tt)
  merged-first (x ∷ xs) h = go (is_started x.rec.kind) refl
    where
      go : (b : Bool) → is_started x.rec.kind ≡ b → OnlyFirst (in_order (merge fresh join (x ∷ xs)))
      go false e = none_first (in_order (merge fresh join (x ∷ xs))) (merged-none (x ∷ xs) (e, h))
      go true e =
          let k = started-is x.rec.kind e in
          subst OnlyFirst (sym (ap in_order (merge-behind x k xs) ∙ order-behind x k (merge fresh join xs))) (merged-none xs h)

  -- a block of 16 bits or more
  pub one-built : (sdu : C → ℕ → List ℕ) (w : ℕ) (xs : List (Item C)) → 16 ≤ w → OnlyFirst xs → OnlyFirst (build_list sdu w (merge fresh join xs)).left
  unfolding build_list
  one-built sdu w xs wide h = one_left sdu w (in_order (merge fresh join xs)) wide (merged-first xs h)
