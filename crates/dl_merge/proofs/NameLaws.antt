-- "A grant keeps its name through merging into the header written": what ties number, grant and name together before merging does so after it. Assumes nothing.
use Rattle.std.proofs.lemmas.Bool.{and_parts}
use Rattle.std.proofs.Common.{Option}
use mathlib.Core.Path.{◌≡◌, sym, subst}
use mathlib.Core.Bool.{true}
use mathlib.Core.List.{List}
use Prim.Native.Nat.{ℕ}
use lib.Dec.{eqb}
use borrow.Author.Tests.{eqb-true}
use Rattle.lists.proofs.Every.{All}
use Rattle.dl_record.specs.declared.Record.{Record}
use Rattle.dl_record.specs.declared.Kind.{Kind}
use Rattle.dl_queue.specs.Queue.{Item, item}
use Rattle.dl_record.specs.Kind.{is_grant_or_ack, is_record}
use Rattle.dl_merge.specs.Merge.{joined_header, joined, takes_number, Named, name_after, fresh_name, join_name, merge_named}
use Rattle.dl_merge.proofs.MergeLaws.{merge-all}

same_number : (n : ℕ) (r : Record) → takes_number n r ≡ true → r.address.number ≡ n
unfolding takes_number
same_number n r e = eqb-true r.address.number n (and_parts (is_record r.kind) (eqb r.address.number n) e).1

module _ {S N : Type 0} (R : ℕ → Option ℕ → Option N → Type 0) where
  -- the number, the grant and its name are tied together
  abbrev pub Tied : Item (Named S N) → Type 0
  Tied x = R x.rec.address.number x.rec.header.slot_granting_element x.load.name

  joined-tied : (g x : Item (Named S N)) → is_grant_or_ack g.rec.kind ≡ true → takes_number g.rec.address.number x.rec ≡ true → Tied g → Tied x
      → Tied (item (joined g.rec x.rec) (join_name g x.load))
  joined-tied g x k t p q = go g.rec.kind
    where
      go : (k : Kind) → R x.rec.address.number (joined_header k g.rec.header x.rec.header).slot_granting_element
          (name_after k g.load.name x.load.name)
      go Kind.Grant = subst (λ (n : ℕ). R n g.rec.header.slot_granting_element g.load.name) (sym (same_number g.rec.address.number x.rec t)) p
      go Kind.Ack = q
      go Kind.Record = q
      go Kind.Waiting = q
      go Kind.Started = q

  pub merge-tied : (z : S) (xs : List (Item (Named S N))) → All Tied xs → All Tied (merge_named z xs)
  merge-tied z xs h = merge-all (fresh_name z) join_name Tied joined-tied (λ g k p. p) xs h
