-- The station's queues and the model's hold the same records with the same SDUs (`Held`), and what a build makes of them is the same. Assumes nothing.
use mathlib.Core.Path.{◌≡◌, refl, sym, ap, ap₂, ◌∙◌}
use mathlib.Core.List.{List, [], ◌∷◌, ◌++◌, map, map-append}
use Prim.Native.Nat.{ℕ, zero, suc, ◌-◌}
use lib.ListN.{length, set, length-map, get_or-map}
use Rattle.lists.proofs.Every.{All, all-every}
use Rattle.dl_record.specs.declared.Record.{Record}
use Rattle.dl_queue.specs.Queue.{Item}
use Rattle.dl_merge.specs.Merge.{merge, always, keep, merge_cells, merge_named}
use Rattle.dl_merge.proofs.MergeLaws.{reload, sdu_in_cell, merge-sdus, unnamed, merge-unnamed}
use Rattle.dl_send.specs.Send.{Sent, cell_sdu}
use Rattle.dl_send.proofs.MapLaws.{Steady, SameSdu, reload_sent}
use Rattle.dl_build.specs.Build.{build_list}
use Rattle.dl_build.proofs.AfterBuild.{build-map}
use Rattle.history.specs.Queues.{Queues, queue_at, appended}
use Rattle.history.specs.Model.{NamedSdu, named_sdu, named_built}

-- ---- lists

map-set : {A B : Type 0} (f : A → B) (xs : List A) (i : ℕ) (a : A) → map f (set xs i a) ≡ set (map f xs) i (f a)
map-set f [] i a = refl
map-set f (x ∷ xs) zero a = refl
map-set f (x ∷ xs) (suc i) a = ap (λ l. f x ∷ l) (map-set f xs i a)

pub all_set : {A : Type 0} (P : A → Type 0) (xs : List A) (i : ℕ) (x : A) → P x → All P xs → All P (set xs i x)
all_set P [] i x p h = tt
all_set P (y ∷ ys) zero x p h = (p, h.1)
all_set P (y ∷ ys) (suc i) x p h = (h.0, all_set P ys i x p h.1)

-- ---- loads mapped in queues

module _ {C D : Type 0} (f : Record → C → D) where
  abbrev pub reloads : Queues C → Queues D
  reloads qs = map (map (reload f)) qs

  queue-map : (qs : Queues C) (t : ℕ) → queue_at (reloads qs) t ≡ map (reload f) (queue_at qs t)
  queue-map qs t = get_or-map (map (reload f)) qs (t - 1) []

  length-queue : (qs : Queues C) (t : ℕ) → length (queue_at (reloads qs) t) ≡ length (queue_at qs t)
  length-queue qs t = ap length (queue-map qs t) ∙ length-map (queue_at qs t) (reload f)

  appended-map : (qs : Queues C) (t : ℕ) (x : Item C) → reloads (appended qs t x) ≡ appended (reloads qs) t (reload f x)
  unfolding appended
  appended-map qs t x =
      map-set (map (reload f)) qs (t - 1) (queue_at qs t ++ x ∷ [])
      ∙ ap (set (reloads qs) (t - 1)) (map-append (reload f) (queue_at qs t) (x ∷ []) ∙ ap (λ (l : List (Item D)). l ++ reload f x ∷ []) (sym (queue-map qs t)))

-- ---- SDUs by value

-- what a build makes of records with their cells
unfoldable pub cells_built : ℕ → List (Item (List ℕ)) → Sent (List ℕ)
cells_built w xs = build_list cell_sdu w (merge_cells xs)

abbrev own_sdu : List ℕ → ℕ → List ℕ
own_sdu s n = s

-- what a build makes of records with their SDUs
sdus_built : ℕ → List (Item (List ℕ)) → Sent (List ℕ)
sdus_built w xs = build_list own_sdu w (merge (always []) keep xs)

abbrev pub steady_bits : Steady sdu_in_cell
steady_bits k n r c = refl

abbrev pub steady_names : Steady (unnamed {S = List ℕ} {N = ℕ})
steady_names k n r c = refl

cells-built : (w : ℕ) (xs : List (Item (List ℕ))) → reload_sent sdu_in_cell steady_bits (cells_built w xs) ≡ sdus_built w (map (reload sdu_in_cell) xs)
unfolding cells_built sdus_built
cells-built w xs =
    sym (build-map sdu_in_cell steady_bits cell_sdu own_sdu w (merge_cells xs) (all-every (SameSdu sdu_in_cell cell_sdu own_sdu) (λ x. refl) (merge_cells xs)))
    ∙ ap (build_list own_sdu w) (merge-sdus xs)

names-built : (w : ℕ) (ys : List (Item NamedSdu)) → reload_sent unnamed steady_names (named_built w ys) ≡ sdus_built w (map (reload unnamed) ys)
unfolding named_built sdus_built
names-built w ys =
    sym
    (build-map unnamed steady_names named_sdu own_sdu w (merge_named [] ys) (all-every (SameSdu unnamed named_sdu own_sdu) (λ x. refl) (merge_named [] ys)))
    ∙ ap (build_list own_sdu w) (merge-unnamed [] ys)

-- ---- station and model

-- the same records with the same SDUs
abbrev pub Held : Queues (List ℕ) → Queues NamedSdu → Type 0
Held qs ms = reloads sdu_in_cell qs ≡ reloads unnamed ms

module _ (qs : Queues (List ℕ)) (ms : Queues NamedSdu) (h : Held qs ms) where
  pub same_queue : (t : ℕ) → map (reload sdu_in_cell) (queue_at qs t) ≡ map (reload unnamed) (queue_at ms t)
  same_queue t = sym (queue-map sdu_in_cell qs t) ∙ ap (λ (q : Queues (List ℕ)). queue_at q t) h ∙ queue-map unnamed ms t

  pub same_count : (t : ℕ) → length (queue_at qs t) ≡ length (queue_at ms t)
  same_count t = sym (length-queue sdu_in_cell qs t) ∙ ap (λ (q : Queues (List ℕ)). length (queue_at q t)) h ∙ length-queue unnamed ms t

  pub appended-held : (t : ℕ) (x : Item (List ℕ)) (y : Item NamedSdu) → reload sdu_in_cell x ≡ reload unnamed y → Held (appended qs t x) (appended ms t y)
  appended-held t x y e =
      appended-map sdu_in_cell qs t x
      ∙ ap₂ (λ (q : Queues (List ℕ)) (z : Item (List ℕ)). appended q t z) h e
      ∙ sym (appended-map unnamed ms t y)

  pub set-held : (i : ℕ) (xs : List (Item (List ℕ))) (ys : List (Item NamedSdu)) → map (reload sdu_in_cell) xs ≡ map (reload unnamed) ys
      → Held (set qs i xs) (set ms i ys)
  set-held i xs ys e =
      map-set (map (reload sdu_in_cell)) qs i xs
      ∙ ap₂ (λ (q : Queues (List ℕ)) (z : List (Item (List ℕ))). set q i z) h e
      ∙ sym (map-set (map (reload unnamed)) ms i ys)

  -- a build writes the same PDUs and finishes the same records, and what it leaves is the same
  pub same-built : (w t : ℕ) → reload_sent sdu_in_cell steady_bits (cells_built w (queue_at qs t)) ≡ reload_sent unnamed steady_names (named_built w (queue_at ms t))
  same-built w t = cells-built w (queue_at qs t) ∙ ap (sdus_built w) (same_queue t) ∙ sym (names-built w (queue_at ms t))
