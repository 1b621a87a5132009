-- No grant gets lost in a build: merging keeps its name unless a grant queued behind it replaces it, and sending writes the name or leaves the record
-- waiting (`sent-or-pending`). Assumes nothing.
use Rattle.std.proofs.lemmas.Bool.{and_parts}
use Rattle.std.proofs.Common.{Option, Some, None}
use mathlib.Core.Path.{◌≡◌, refl, sym, ap, subst, ◌∙◌}
use mathlib.Core.Logic.{◌⊎◌, inl, inr, ⊎_elim}
use mathlib.Core.Bool.{Bool, true, false, ◌&&◌, ◌||◌, not, cond}
use mathlib.Core.List.Memᴰ
use mathlib.Core.List.{List, [], ◌∷◌, ◌++◌, map, Memᴰ}
use Prim.Native.Nat.{ℕ, ◌+◌}
use native.Mathlib.Omega.{arith}
use lib.Dec.{eqb, leb, ltb}
use borrow.Author.Tests.{eqb-true, eq-eqb}
use Rattle.lists.proofs.Every.{All}
use Rattle.uplink.proofs.Basics.{not-both}
use Rattle.dl_record.specs.declared.Kind.{Kind}
use Rattle.dl_record.specs.declared.Record.{Record}
use Rattle.dl_record.specs.Kind.{is_grant, is_grant_or_ack, is_kept, is_record, is_started, is_underway}
use Rattle.dl_queue.specs.Queue.{Item, item}
use Rattle.dl_merge.specs.Merge.{joined, takes_number, only, put, puts, merge, name_after, fresh_name, join_name, merge_named}
use Rattle.bs_frag.specs.NextPdu.{header_size, Next, begin_with, begin, next}
use Rattle.bs_frag.proofs.Laws.{next-first}
use Rattle.bs_frag.specs.declared.ChunkOutcome.TheVariants.{Waiting}
use Rattle.dl_send.specs.Send.{staying, wrote, turn, send_all, turns, read_off, room_after}
use Rattle.dl_build.specs.Build.{in_order, build_list}
use Rattle.history.proofs.GrantNames.{sent_names}
use Rattle.history.specs.Model.{NamedSdu, named_sdu, named_built, name_in, pending_as, pending, replaces}

-- ---- some element of a list

abbrev Any : {A : Type 0} → (A → Type 0) → List A → Type 0
Any P [] = ⊥
Any P (a ∷ ls) = P a ⊎ Any P ls

module _ {A : Type 0} (P : A → Type 0) where
  any_left : (xs ys : List A) → Any P xs → Any P (xs ++ ys)
  any_left [] ys h = absurd h
  any_left (x ∷ xs) ys (inl h) = inl h
  any_left (x ∷ xs) ys (inr h) = inr (any_left xs ys h)

  any-right : (xs ys : List A) → Any P ys → Any P (xs ++ ys)
  any-right [] ys h = h
  any-right (x ∷ xs) ys h = inr (any-right xs ys h)

-- ---- merging in parts

only-append : {C : Type 0} (p : Kind → Bool) (xs ys : List (Item C)) → only p (xs ++ ys) ≡ only p xs ++ only p ys
unfolding only
only-append p [] ys = refl
only-append {C} p (x ∷ xs) ys = go (p x.rec.kind) (only-append p xs ys)
  where
    go : (b : Bool) → only p (xs ++ ys) ≡ only p xs ++ only p ys
        → cond b (x ∷ only p (xs ++ ys)) (only p (xs ++ ys)) ≡ cond b (x ∷ only p xs) (only p xs) ++ only p ys
    go true ih = ap (λ (l : List (Item C)). x ∷ l) ih
    go false ih = ih

only-all : {C : Type 0} (P : Item C → Type 0) (p : Kind → Bool) (xs : List (Item C)) → ((y : Item C) → Memᴰ y xs → P y) → All P (only p xs)
unfolding only
only-all P p [] k = tt
only-all P p (x ∷ xs) k = go (p x.rec.kind) (only-all P p xs (λ y m. k y (Memᴰ.tail m)))
  where
    go : (b : Bool) → All P (only p xs) → All P (cond b (x ∷ only p xs) (only p xs))
    go true ih = (k x (Memᴰ.head refl), ih)
    go false ih = ih

only-first : {C : Type 0} (p : Kind → Bool) (x : Item C) (xs : List (Item C)) → p x.rec.kind ≡ true → only p (x ∷ xs) ≡ x ∷ only p xs
unfolding only
only-first p x xs e = rw e

abbrev put_named : Item NamedSdu → List (Item NamedSdu) → List (Item NamedSdu)
put_named = put (fresh_name []) join_name

abbrev puts_named : List (Item NamedSdu) → List (Item NamedSdu) → List (Item NamedSdu)
puts_named = puts (fresh_name []) join_name

puts-append : (gs hs xs : List (Item NamedSdu)) → puts_named (gs ++ hs) xs ≡ puts_named hs (puts_named gs xs)
unfolding puts
puts-append [] hs xs = refl
puts-append (g ∷ gs) hs xs = puts-append gs hs (put_named g xs)

record-kind : (k : Kind) → is_record k ≡ true → k ≡ Kind.Record
record-kind Kind.Grant e = not-both false e refl
record-kind Kind.Ack e = not-both false e refl
record-kind Kind.Record e = refl
record-kind Kind.Waiting e = not-both false e refl
record-kind Kind.Started e = not-both false e refl

no_name : {n : ℕ} → None ≡ Some n → ⊥
no_name e = let z : ◌≡◌ {A = ℕ} 0 1 = cc in omega arith

-- ---- a record's first turn

-- a header with this name is written, or the record waits
abbrev Writes : Option ℕ → Next → Type 0
Writes name s = Memᴰ name (map (name_in name) s.pdus) ⊎ (s.outcome ≡ Waiting)

first-writes : (may : Bool) (room : ℕ) (r : Record) (sdu : List ℕ) (name : Option ℕ) → is_started r.kind ≡ false → Writes name (next may room r sdu)
unfolding begin begin_with
first-writes may room r sdu name e =
    subst (Writes name) (sym (next-first may room r sdu e))
    (one_of (leb (header_size r + r.bits) room) (not may || ltb room 32 || ltb room (header_size r)) _ _ _ (inl (Memᴰ.head refl)) (inr refl)
    (inl (Memᴰ.head refl)))
  where
    one_of : (a b : Bool) (x y z : Next) → Writes name x → Writes name y → Writes name z → Writes name (cond a x (cond b y z))
    one_of true b x y z p q s = p
    one_of false true x y z p q s = q
    one_of false false x y z p q s = s

-- ---- a name in a list of records

-- a record of this kind and number, with a grant of this name
record Has (kind : Kind) (number name : ℕ) (y : Item NamedSdu) : Type 0 where
  its-kind : y.rec.kind ≡ kind
  its-number : y.rec.address.number ≡ number
  its-name : y.load.name ≡ Some name

module _ (number name : ℕ) where
  -- y, queued behind, does not replace it
  abbrev Passes : Kind → Item NamedSdu → Type 0
  Passes kind y = is_record kind && is_grant y.rec.kind && eqb y.rec.address.number number ≡ false

  joined-has : (kind : Kind) (g x : Item NamedSdu) → takes_number g.rec.address.number x.rec ≡ true → Passes kind g → Has kind number name x
      → Has kind number name (item (joined g.rec x.rec) (join_name g x.load))
  unfolding takes_number
  joined-has kind g x e p h = record { its-kind = h.its-kind; its-number = h.its-number; its-name = go g.rec.kind p }
    where
      of-record : is_record kind ≡ true
      of-record = rw (← h.its-kind) (and_parts (is_record x.rec.kind) _ e).0

      same : eqb g.rec.address.number number ≡ true
      same = eq-eqb _ _ (sym (eqb-true x.rec.address.number g.rec.address.number (and_parts (is_record x.rec.kind) _ e).1) ∙ h.its-number)

      go : (k : Kind) → is_record kind && is_grant k && eqb g.rec.address.number number ≡ false → name_after k g.load.name x.load.name ≡ Some name
      go Kind.Grant q = let t : is_record kind && is_grant Kind.Grant && eqb g.rec.address.number number ≡ true = rw (of-record, same) in not-both _ t q
      go Kind.Ack q = h.its-name
      go Kind.Record q = h.its-name
      go Kind.Waiting q = h.its-name
      go Kind.Started q = h.its-name

  put_keeps : (kind : Kind) (g : Item NamedSdu) → Passes kind g → (xs : List (Item NamedSdu)) → Any (Has kind number name) xs
      → Any (Has kind number name) (put_named g xs)
  unfolding put
  put_keeps kind g p [] h = absurd h
  put_keeps kind g p (x ∷ xs) h = go (λ k. put_keeps kind g p xs k) (takes_number g.rec.address.number x.rec) refl h
    where
      go : (Any (Has kind number name) xs → Any (Has kind number name) (put_named g xs)) → (b : Bool) → takes_number g.rec.address.number x.rec ≡ b
          → Has kind number name x ⊎ Any (Has kind number name) xs
          → Any (Has kind number name) (cond b (item (joined g.rec x.rec) (join_name g x.load) ∷ xs) (x ∷ put_named g xs))
      go below true e (inl k) = inl (joined-has kind g x e p k)
      go below true e (inr k) = inr k
      go below false e (inl k) = inl k
      go below false e (inr k) = inr (below k)

  puts-keeps : (kind : Kind) (gs : List (Item NamedSdu)) → All (Passes kind) gs → (xs : List (Item NamedSdu)) → Any (Has kind number name) xs
      → Any (Has kind number name) (puts_named gs xs)
  unfolding puts
  puts-keeps kind [] p xs h = h
  puts-keeps kind (g ∷ gs) p xs h = puts-keeps kind gs p.1 (put_named g xs) (put_keeps kind g p.0 xs h)

  -- a grant goes into a record
  put_has : (g : Item NamedSdu) → Has Kind.Grant number name g → (xs : List (Item NamedSdu)) → Any (Has Kind.Record number name) (put_named g xs)
  unfolding put takes_number
  put_has g h [] = inl (record { its-kind = refl; its-number = h.its-number; its-name = h.its-name })
  put_has g h (x ∷ xs) = go (put_has g h xs) (is_record x.rec.kind && eqb x.rec.address.number g.rec.address.number) refl
    where
      go : Any (Has Kind.Record number name) (put_named g xs) → (b : Bool) → is_record x.rec.kind && eqb x.rec.address.number g.rec.address.number ≡ b
          → Any (Has Kind.Record number name) (cond b (item (joined g.rec x.rec) (join_name g x.load) ∷ xs) (x ∷ put_named g xs))
      go below true e =
          inl
          (record {
            its-kind = record-kind _ (and_parts (is_record x.rec.kind) _ e).0;
            its-number = eqb-true _ _ (and_parts (is_record x.rec.kind) _ e).1 ∙ h.its-number;
            its-name = rw h.its-kind h.its-name;
          })
      go below false e = inr below

  -- ---- merging

  merge-grant : (front back : List (Item NamedSdu)) (g : Item NamedSdu) → Has Kind.Grant number name g
      → ((y : Item NamedSdu) → Memᴰ y back → Passes Kind.Record y)
      → Any (Has Kind.Record number name) (merge_named [] (front ++ g ∷ back))
  unfolding merge
  merge-grant front back g h k =
      let taken : only is_grant_or_ack (front ++ g ∷ back) ≡ only is_grant_or_ack front ++ g ∷ only is_grant_or_ack back =
      only-append is_grant_or_ack front (g ∷ back)
      ∙ ap (λ (l : List (Item NamedSdu)). only is_grant_or_ack front ++ l) (only-first is_grant_or_ack g back (rw h.its-kind)) in
      rw (taken, puts-append (only is_grant_or_ack front) (g ∷ only is_grant_or_ack back))
      (unfold puts in puts-keeps Kind.Record (only is_grant_or_ack back) (only-all (Passes Kind.Record) is_grant_or_ack back k) _ (put_has g h _))

  merge-waiting : (front back : List (Item NamedSdu)) (g : Item NamedSdu) → Has Kind.Waiting number name g
      → Any (Has Kind.Waiting number name) (merge_named [] (front ++ g ∷ back))
  unfolding merge
  merge-waiting front back g h =
      let stays : only is_kept (front ++ g ∷ back) ≡ only is_kept front ++ g ∷ only is_kept back =
      only-append is_kept front (g ∷ back) ∙ ap (λ (l : List (Item NamedSdu)). only is_kept front ++ l) (only-first is_kept g back (rw h.its-kind)) in
      puts-keeps Kind.Waiting (only is_grant_or_ack (front ++ g ∷ back)) (only-all (Passes Kind.Waiting) is_grant_or_ack (front ++ g ∷ back) (λ y m. refl)) _
      (rw stays (any-right (Has Kind.Waiting number name) (only is_kept front) (g ∷ only is_kept back) (inl h)))

  only-has : (kind : Kind) (p : Kind → Bool) → p kind ≡ true → (xs : List (Item NamedSdu)) → Any (Has kind number name) xs
      → Any (Has kind number name) (only p xs)
  unfolding only
  only-has kind p e [] h = absurd h
  only-has kind p e (x ∷ xs) (inl h) = subst (Any (Has kind number name)) (sym (only-first p x xs (ap p h.its-kind ∙ e))) (inl h)
  only-has kind p e (x ∷ xs) (inr h) = go (p x.rec.kind) (only-has kind p e xs h)
    where
      go : (b : Bool) → Any (Has kind number name) (only p xs) → Any (Has kind number name) (cond b (x ∷ only p xs) (only p xs))
      go true ih = inr ih
      go false ih = ih

  -- ---- sending

  -- written now, or waiting
  abbrev Fate : List (Option ℕ) → List (Item NamedSdu) → Type 0
  Fate names left = Memᴰ (Some name) names ⊎ Any (Has Kind.Waiting number name) left

  one-sent : (s : Next) (x : Item NamedSdu) (names : List (Option ℕ)) (left : List (Item NamedSdu)) → x.rec.address.number ≡ number
      → x.load.name ≡ Some name → Writes x.load.name s
      → Fate (map (name_in x.load.name) s.pdus ++ names) (staying s.outcome x ++ left)
  one-sent s x names left n e (inl m) = inl (Memᴰ.append_left names (Memᴰ.cast (sym e) m))
  one-sent s x names left n e (inr o) = inr (rw o (inl (record { its-kind = refl; its-number = n; its-name = e })))

  send-keeps : (kind : Kind) → is_started kind ≡ false → (may : Bool) (room : ℕ) (xs : List (Item NamedSdu)) → Any (Has kind number name) xs
      → Fate (sent_names may room xs) (send_all named_sdu may room xs).left
  unfolding send_all turns read_off room_after
  send-keeps kind b may room [] h = absurd h
  send-keeps kind b may room (x ∷ xs) (inl h) =
      one-sent (turn named_sdu may room x) x _ _ h.its-number h.its-name
      (first-writes may room x.rec x.load.sdu x.load.name (rw h.its-kind b))
  send-keeps kind b may room (x ∷ xs) (inr h) =
      let s : Next = turn named_sdu may room x in
      ⊎_elim (λ m. inl (Memᴰ.append_right (map (name_in x.load.name) s.pdus) m))
      (λ a. inr (any-right (Has Kind.Waiting number name) (staying s.outcome x) _ a))
      (send-keeps kind b (may && wrote s.pdus) s.room xs h)

  -- ---- a build

  order-keeps : (w : ℕ) (xs : List (Item NamedSdu)) → Any (Has Kind.Record number name) xs ⊎ Any (Has Kind.Waiting number name) xs
      → Fate (sent_names true w (in_order xs)) (send_all named_sdu true w (in_order xs)).left
  unfolding in_order
  order-keeps w xs (inl h) =
      send-keeps Kind.Record refl true w _
      (any-right (Has Kind.Record number name) (only is_underway xs) (only is_record xs) (only-has Kind.Record is_record refl xs h))
  order-keeps w xs (inr h) =
      send-keeps Kind.Waiting refl true w _
      (any_left (Has Kind.Waiting number name) (only is_underway xs) (only is_record xs) (only-has Kind.Waiting is_underway refl xs h))

  left-pending : (xs : List (Item NamedSdu)) → Any (Has Kind.Waiting number name) xs → Memᴰ (Some name) (map pending xs)
  left-pending [] h = absurd h
  left-pending (x ∷ xs) (inl h) = Memᴰ.head (sym (ap (λ (k : Kind). pending_as k x.load.name) h.its-kind ∙ h.its-name))
  left-pending (x ∷ xs) (inr h) = Memᴰ.tail (left-pending xs h)

pub sent-or-pending : (w : ℕ) (front back : List (Item NamedSdu)) (g : Item NamedSdu) (name : ℕ) → pending g ≡ Some name
    → ((y : Item NamedSdu) → Memᴰ y back → replaces y g ≡ false)
    → Memᴰ (Some name) (sent_names true w (in_order (merge_named [] (front ++ g ∷ back))))
    ⊎ Memᴰ (Some name) (map pending (named_built w (front ++ g ∷ back)).left)
unfolding named_built build_list
sent-or-pending w front back g name e k =
    ⊎_elim inl (λ a. inr (left-pending g.rec.address.number name (named_built w (front ++ g ∷ back)).left a))
    (order-keeps g.rec.address.number name w (merge_named [] (front ++ g ∷ back)) (go g.rec.kind refl e k))
  where
    go : (kind : Kind) → g.rec.kind ≡ kind → pending_as kind g.load.name ≡ Some name
        → ((y : Item NamedSdu) → Memᴰ y back → is_grant kind && is_grant y.rec.kind && eqb y.rec.address.number g.rec.address.number ≡ false)
        → Any (Has Kind.Record g.rec.address.number name) (merge_named [] (front ++ g ∷ back))
        ⊎ Any (Has Kind.Waiting g.rec.address.number name) (merge_named [] (front ++ g ∷ back))
    go Kind.Grant q n p = inl (merge-grant g.rec.address.number name front back g (record { its-kind = q; its-number = refl; its-name = n }) p)
    go Kind.Ack q n p = absurd (no_name n)
    go Kind.Record q n p = absurd (no_name n)
    go Kind.Waiting q n p = inr (merge-waiting g.rec.address.number name front back g (record { its-kind = q; its-number = refl; its-name = n }))
    go Kind.Started q n p = absurd (no_name n)
