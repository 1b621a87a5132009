-- A reader lists the headers of a built block (`block_listed`); a named one has the grant of the request of that name (`block-stands`), a grant that is
-- read is that of the request that it is named after (`block-grants`), and no grant gets lost (`block-kept`). Assumes nothing.
use Rattle.std.proofs.lemmas.Bool.{and_parts}
use Rattle.std.proofs.Common.{Option, Some, None}
use mathlib.Core.Path.{◌≡◌, refl, sym, ap, ◌∙◌}
use mathlib.Core.Bool.{Bool, true, false, cond}
use mathlib.Core.Logic.{◌⊎◌}
use mathlib.Core.List.{List, [], ◌∷◌, ◌++◌, map, Memᴰ}
use Prim.Native.Nat.{ℕ, zero, suc, ◌+◌, ◌-◌, ◌<◌}
use native.Mathlib.Omega.{arith}
use native.Mathlib.Nat.{not-suc-le-zero, le_of_suc-le-suc}
use lib.ListN.{length, get_or}
use lib.Seq.{get_or-set_same}
use Rattle.sizes.specs.Sizes.{block_width, block_octets}
use Rattle.tdma_time.specs.declared.TdmaTime.{TdmaTime}
use Rattle.tdma_time.specs.Time.{Valid, timeslot, usable}
use Rattle.slot_codes.specs.Codes.{capacity_of, delay_of}
use Rattle.slot_codes.proofs.CodesLaws.{capacity-in-octet, delay-in-octet}
use Rattle.uplink.proofs.Basics.{not-both}
use Rattle.uplink.proofs.VerdictLaws.{verdict-grant}
use Rattle.mac_pdus.specs.declared.ResourceHeader.{ResourceHeader}
use Rattle.mac_pdus.specs.declared.PduHeader.{PduHeader}
use Rattle.mac_pdus.specs.Legal.{number_of}
use Rattle.mac_reader.specs.declared.PlacedHeader.{PlacedHeader}
use Rattle.mac_reader.specs.PduList.{Pdu, null, header, pdu_bits, block_bits, placed}
use Rattle.mac_reader.specs.Reader as reader
use Rattle.mac_reader.specs.Reader.{Reading, no_header, read_block}
use Rattle.dl_queue.specs.Queue.{Item}
use Rattle.dl_send.specs.Send.{block_of}
use Rattle.dl_build.proofs.AfterBuild.{build-read}
use Rattle.questions.specs.Questions.{ask}
use Rattle.sched_core.specs.Questions.{Memory, asks_block}
use Rattle.sched_core.specs.Replies.{refused, block, no_block}
use Rattle.history.specs.Call.{Call, build, Stepped, stepped, unless_refused}
use Rattle.history.specs.Queues.{Queues, queue_at, with_queue_at, some_queued, can_build}
use Rattle.history.specs.UplinkModel.{model_verdict}
use Rattle.history.specs.Model.{NamedSdu, Model, became, only_counted, named_built, built, model_step, model_at, queue_now, pdus_built, names_built}
use Rattle.history.specs.Model.{pending, replaces}
use Rattle.history.specs.Memory.{memory_at}
use Rattle.history.specs.Demand3.{GrantRead, Origin, DerivedAt, ItsGrant}
use Rattle.history.proofs.Derived.{GrantOf, grant-of, derived}
use Rattle.history.proofs.WholeSimulation.{sent, same-pdus, SoundAndSame, histories}
use Rattle.history.proofs.GrantNames.{Along, along-length, along-at, number_in, grant_in, GrantIn, built-tied}
use Rattle.history.proofs.NamedHistory.{Faithful, at_more, named-history}
use Rattle.history.proofs.KeptNames.{sent-or-pending}

-- ---- the reader's list

placed-length : (at : ℕ) (ps : List Pdu) → length (placed at ps) ≡ length ps
unfolding placed
placed-length at [] = refl
placed-length at (p ∷ ps) = ap suc (placed-length (at + length (pdu_bits p)) ps)

placed_at : (at : ℕ) (ps : List Pdu) (rest : List PlacedHeader) (i : ℕ) → i < length ps
    → (get_or (placed at ps ++ rest) i no_header).header ≡ header (get_or ps i null)
unfolding placed
placed_at at [] rest i l = absurd (not-suc-le-zero l)
placed_at at (p ∷ ps) rest zero l = refl
placed_at at (p ∷ ps) rest (suc i) l = placed_at (at + length (pdu_bits p)) ps rest i (le_of_suc-le-suc l)

-- a name stands inside its list
some-inside : {A : Type 0} (l : List (Option A)) (i : ℕ) (a : A) → get_or l i None ≡ Some a → i < length l
some-inside [] i a e = absurd (let z : ◌≡◌ {A = ℕ} 0 1 = cc in omega arith)
some-inside (y ∷ l) zero a e = omega arith
some-inside (y ∷ l) (suc i) a e = let q = some-inside l i a e in omega arith

queue-inside : {C : Type 0} (qs : Queues C) (i : ℕ) → some_queued (get_or qs i []) ≡ true → i < length qs
queue-inside [] i e = not-both false e refl
queue-inside (q ∷ qs) zero e = omega arith
queue-inside (q ∷ qs) (suc i) e = let h = queue-inside qs i e in omega arith

-- ---- the request that a grant comes from

module _ (x : TdmaTime) (xs : List Call) (t number octet name : ℕ) (o : Origin x xs t number octet name) where
  abbrev at : Model
  at = model_at x o.before

  short-delay : o.delay < 16
  unfolding model_verdict
  short-delay =
      let g : GrantOf o.asker at o.capacity o.delay = grant-of o.asker at o.capacity o.delay o.marker o.reply in
      omega (arith, (verdict-grant _ _ _ g.run g.verdict).low, g.delay-is)

  origin-derived : (b : ℕ) → DerivedAt at o.asker octet b
  origin-derived b =
      let cap : capacity_of octet ≡ o.capacity = ap capacity_of (sym o.its-octet) ∙ capacity-in-octet o.capacity o.delay short-delay in
      let del : delay_of octet ≡ o.delay = ap delay_of (sym o.its-octet) ∙ delay-in-octet o.capacity o.delay short-delay in
      rw (cap, del) (derived o.asker at o.capacity o.delay o.marker o.reply b)

-- ---- a block built in a history

module _ (x : TdmaTime) (v : Valid x) (before : List Call) (b : List ℕ) where
  abbrev m : Model
  m = model_at x before

  abbrev t : ℕ
  t = timeslot m.uplink.now

  abbrev pdus : List Pdu
  pdus = pdus_built m

  abbrev Replied : List ℕ → List ℕ → Type 0
  Replied octets tags = (model_step (build b) m).reply ≡ block octets tags

  -- what a build comes to that is not refused, and can be done
  abbrev done : Stepped Model
  done =
      became m m.uplink (with_queue_at m.queues t (named_built block_width (queue_now m)).left)
      (block (block_of block_octets (block_bits pdus)) (named_built block_width (queue_now m)).tags)

  -- it was built, of the model's PDUs
  block-built : (octets tags : List ℕ) → Replied octets tags
      → (can_build m.uplink.now m.queues ≡ true) × ((model_step (build b) m).after ≡ done.after) × (octets ≡ block_of block_octets (block_bits pdus))
  unfolding model_step unless_refused ask built pdus_built
  block-built octets tags e = go (asks_block b).holds (can_build m.uplink.now m.queues) e
    where
      step : Bool → Bool → Stepped Model
      step right can = cond right (cond can done (stepped (only_counted m) no_block)) (stepped (only_counted m) (refused 2))

      go : (right can : Bool) → (step right can).reply ≡ block octets tags
          → (can ≡ true) × ((step right can).after ≡ done.after) × (octets ≡ block_of block_octets (block_bits pdus))
      go true true q = (refl, refl, cc)
      go false can q = absurd (let z : ◌≡◌ {A = ℕ} 0 1 = cc in omega arith)
      go true false q = absurd (let z : ◌≡◌ {A = ℕ} 0 1 = cc in omega arith)

  -- what stays of the queue
  block-left : (octets tags : List ℕ) → Replied octets tags → queue_now (model_at x (before ++ build b ∷ [])) ≡ (named_built block_width (queue_now m)).left
  unfolding can_build
  block-left octets tags e =
      let (can, after, same) = block-built octets tags e in
      ap queue_now (at_more x before (build b) ∙ after)
      ∙ get_or-set_same m.queues (t - 1) _ [] (queue-inside m.queues (t - 1) (and_parts (usable m.uplink.now) _ can).1)

  pub block-kept : (octets tags : List ℕ) → Replied octets tags
      → (front back : List (Item NamedSdu)) (g : Item NamedSdu) (name : ℕ) → queue_now m ≡ front ++ g ∷ back → pending g ≡ Some name
      → ((y : Item NamedSdu) → Memᴰ y back → replaces y g ≡ false)
      → Memᴰ (Some name) (names_built m) ⊎ Memᴰ (Some name) (map pending (queue_now (model_at x (before ++ build b ∷ []))))
  unfolding names_built
  block-kept octets tags e front back g name q n k = rw (block-left octets tags e, q) (sent-or-pending block_width front back g name n k)

  -- what is read in it
  pub block_listed : (octets tags : List ℕ) → Replied octets tags → read_block block_octets octets ≡ reader.reply_of (reader.headers (placed 0 pdus))
  unfolding pdus_built
  block_listed octets tags e =
      let k : Memory = memory_at x before in
      let w : SoundAndSame k m = histories x v before in
      let ns : List ℕ = k.station.queued in
      let same : (sent k m w.sound w.same).pdus ≡ pdus = same-pdus k m w.sound w.same in
      let inside : t - 1 < length ns = omega (arith, w.sound.counts) in
      let (can, after, from) = block-built octets tags e in
      ap (read_block block_octets) (from ∙ ap (λ (ps : List Pdu). block_of block_octets (block_bits ps)) (sym same))
      ∙ build-read ns k.records k.store (t - 1) inside (omega (arith, w.sound.places, w.sound.counts))
      (omega (arith, w.sound.cells, w.sound.counts)) w.sound.queue
      ∙ ap (λ (ps : List Pdu). reader.reply_of (reader.headers (placed 0 ps))) same

  -- the PDUs and their names, one by one
  names-tied : Along (GrantIn (Faithful x before t)) pdus (names_built m)
  unfolding pdus_built names_built
  names-tied = built-tied (Faithful x before t) (λ n. tt) block_width (queue_at m.queues t) (named-history x before t (omega arith))

  module _ (octets tags : List ℕ) (e : Replied octets tags) where
    many-listed : (read_block block_octets octets).count ≡ length pdus
    many-listed = ap (λ (y : Reading). y.count) (block_listed octets tags e) ∙ placed-length 0 pdus

    header-listed : (i : ℕ) → i < length pdus → (get_or (read_block block_octets octets).headers i no_header).header ≡ header (get_or pdus i null)
    header-listed i l = ap (λ (y : Reading). (get_or y.headers i no_header).header) (block_listed octets tags e) ∙ placed_at 0 pdus _ i l

    its-grant : (h : ResourceHeader) (octet name : ℕ) → Faithful x before t (number_of h.address) (Some octet) (Some name)
        → ItsGrant x before h octet name
    its-grant h octet name o = (o, origin-derived x before t (number_of h.address) octet name o m.uplink.now)

    pub block-grants : (i : ℕ) (h : ResourceHeader) (octet : ℕ) → GrantRead octets i h octet
        → (name : ℕ) × (get_or (names_built m) i None ≡ Some name) × ItsGrant x before h octet name
    block-grants i h octet g =
        let inside : i < length pdus = rw many-listed at g.listed in
        let same : header (get_or pdus i null) ≡ PduHeader.Resource h = sym (header-listed i inside) ∙ g.header in
        let tied : Faithful x before t (number_of h.address) h.slot_granting_element (get_or (names_built m) i None) =
        rw same at (along-at (GrantIn (Faithful x before t)) pdus (names_built m) names-tied i inside null None) in
        go (get_or (names_built m) i None) refl (rw g.grant at tied)
      where
        go : (n : Option ℕ) → get_or (names_built m) i None ≡ n → Faithful x before t (number_of h.address) (Some octet) n
            → (name : ℕ) × (get_or (names_built m) i None ≡ Some name) × ItsGrant x before h octet name
        go None q k = absurd k
        go (Some name) q k = (name, q, its-grant h octet name k)

    pub block-stands : (i name : ℕ) → get_or (names_built m) i None ≡ Some name
        → (h : ResourceHeader) × (octet : ℕ) × GrantRead octets i h octet × ItsGrant x before h octet name
    block-stands i name q =
        let inside : i < length pdus = rw (along-length (GrantIn (Faithful x before t)) pdus (names_built m) names-tied) (some-inside (names_built m) i name q) in
        go (header (get_or pdus i null)) (header-listed i inside)
        (rw q at (along-at (GrantIn (Faithful x before t)) pdus (names_built m) names-tied i inside null None))
      where
        inside : i < (read_block block_octets octets).count
        inside = rw (many-listed, along-length (GrantIn (Faithful x before t)) pdus (names_built m) names-tied) (some-inside (names_built m) i name q)

        by-grant : (h : ResourceHeader) (grant : Option ℕ) → h.slot_granting_element ≡ grant
            → (get_or (read_block block_octets octets).headers i no_header).header ≡ PduHeader.Resource h
            → Faithful x before t (number_of h.address) grant (Some name)
            → (h : ResourceHeader) × (octet : ℕ) × GrantRead octets i h octet × ItsGrant x before h octet name
        by-grant h None g e k = absurd k
        by-grant h (Some octet) g e k = (h, octet, record { listed = inside; header = e; grant = g }, its-grant h octet name k)

        go : (p : PduHeader) → (get_or (read_block block_octets octets).headers i no_header).header ≡ p → Faithful x before t (number_in p) (grant_in p) (Some name)
            → (h : ResourceHeader) × (octet : ℕ) × GrantRead octets i h octet × ItsGrant x before h octet name
        go (PduHeader.Resource h) e k = by-grant h _ refl e k
        go (PduHeader.Frag f) e k = absurd k
        go (PduHeader.End f) e k = absurd k
