-- Each step of an access is one on a place of the generation, so the events of the access are possible one after another.
use Rattle.std.proofs.Common.{◌≡◌, ℕ, zero, suc, ◌+◌, ◌-◌, ◌<◌, ◌≤◌, Bool, true, false, ◌&&◌, List, [], ◌∷◌, ◌++◌, length, take, drop}
use Rattle.std.proofs.Common.{sym, refl, ap, ◌∙◌, subst, arith, if◌then◌else◌, Option, Some, None}
use Rattle.std.specs.Prelude.{not, nat_lt, ◌/◌, ◌%◌, IfSome, unwrap_or, option_map}
use Rattle.std.proofs.lemmas.Bool.{lt-ltb}
use Rattle.std.proofs.lemmas.Bool.Decides.{nat_tests}
use Rattle.std.proofs.lemmas.Nat.{mod_below}
use Rattle.mem_base.specs.declared.map.ids.RegionId.{RegionId}
use Rattle.mem_base.specs.declared.map.ids.SpaceId.{SpaceId}
use Rattle.mem_base.specs.map.PassIds.{PassId}
use Rattle.mem_base.specs.declared.map.kinds.Client.{Client}
use Rattle.mem_base.specs.declared.map.kinds.Device.{Device}
use Rattle.mem_base.specs.declared.map.kinds.Kind.{Kind}
use Rattle.mem_base.specs.declared.map.kinds.Kind.TheVariants.{Ram, Rom, RomDevice, Io}
use Rattle.mem_base.specs.declared.map.forests.Node.{Node}
use Rattle.mem_base.specs.declared.map.forests.Forest.{Forest}
use Rattle.mem_base.specs.declared.map.spots.Spot.{Spot}
use Rattle.mem_base.specs.declared.access.accesses.Target.{Target}
use Rattle.mem_base.specs.declared.access.accesses.Target.TheVariants.{Leaf, Unassigned}
use Rattle.mem_base.specs.declared.access.accesses.Piece.{Piece}
use Rattle.mem_base.specs.declared.access.cells.Place.{Place}
use Rattle.mem_base.specs.declared.access.cells.WordStep.{WordStep}
use Rattle.mem_base.specs.declared.machine.events.Event.TheVariants as events
use Rattle.mem_base.specs.declared.machine.events.Hand.TheVariants as hands
use Rattle.mem_base.specs.lists.Every.{Every}
use Rattle.mem_base.specs.lists.Runs.{Run, run, put_before, is_in_unit, touched}
use Rattle.mem_base.specs.map.Limits.{notifier_count, page_size, word_size}
use Rattle.mem_base.specs.map.Region.{node_of, of_region}
use Rattle.mem_base.specs.map.Devices.{is_good_device}
use Rattle.mem_base.specs.map.Kinds.{has_bytes, device_of}
use Rattle.mem_base.specs.map.TableRefusals.{bad_device}
use Rattle.mem_base.specs.map.Forest.{IsMade}
use Rattle.mem_base.specs.views.Naming.{names, shows_events}
use Rattle.mem_base.specs.access.PlacesByRegion.{notifiers, place_in}
use Rattle.mem_base.specs.access.Places.{extent_of, place_from, data_words, pages_in, is_data_or_register}
use Rattle.mem_base.specs.access.EditionPlaces.{ArePlacesOf, IsEdition}
use Rattle.mem_base.specs.access.Cells.{cell}
use Rattle.mem_base.specs.access.Marks.{marks_of}
use Rattle.mem_base.specs.access.Pieces.{callbacks, pieces}
use Rattle.mem_base.specs.access.Trails.{trail_of, chunks, shares_next, first_length}
use Rattle.mem_base.specs.access.AccessSteps.{Transfer, reading, writing, is_write, length_of, part, AccessStep, blank, steps, marks, events_of_steps}
use Rattle.mem_base.specs.access.AccessSteps.{ShownPart, unanswered}
use Rattle.mem_base.specs.access.MemoryAccess.{on_word, on_words, marked, in_memory}
use Rattle.mem_base.specs.access.DeviceAccess.{register_of, on_device, by_callbacks}
use Rattle.mem_base.specs.access.Words.{number_of_bytes}
use Rattle.mem_base.specs.access.DeviceAccess.{notifier_of, notifier_for, unless_notified, in_piece, in_device}
use Rattle.mem_base.specs.access.Access.{at_leaf, at_target, in_chunk, access}
use Rattle.mem_base.specs.machine.Generations.{Generation, held_generations}
use Rattle.mem_base.specs.machine.World.{World, opening, world_after}
use Rattle.mem_base.specs.machine.History.{PureEntry, after_entries, IsLegal, run_events}
use Rattle.mem_base.proofs.EveryLaws.{weaker, every_map, every_element, every_taken, every_append, every_flat, every_one}
use Rattle.mem_base.proofs.ForestLaws.{id_of}
use Rattle.mem_base.specs.declared.access.accesses.DeviceStep.TheVariants.{Step, Error}
use Rattle.map_laws.proofs.RefusalLaws.{refuse_if-none}
use Rattle.map_laws.proofs.SizeLaws.{size_whole}
use Rattle.view_laws.proofs.Tests.{same_region}
use Rattle.history_laws.proofs.ShownLaws.{generations_show_places}
use Rattle.history_laws.proofs.PlaceLaws.{some_is}
use Rattle.turn_laws.proofs.Replaced.{its_region}
use Rattle.access_base.proofs.HandedOn.{IsGood, Published, published, some_registers}
use Rattle.access_base.specs.Leaves.{IsTargetRun}
use Rattle.access_base.proofs.LeafLaws as leaves
use Rattle.access_base.proofs.MemoryLaws.{marks_inside}
use Rattle.access_base.proofs.TrailLaws.{chunk_inside}
use Rattle.world_laws.specs.Entered.{IsEnteredIn, MayDo, MayStep}
use Rattle.world_laws.specs.Accessing.{AreLegalSteps}
use Rattle.world_laws.proofs.Lists.{starts_below}
use Rattle.world_laws.proofs.Keeping.{Holds, holds, holds_after}
use Rattle.world_laws.proofs.Entering.{enters_held, steps_possible}
use Rattle.history_laws.proofs.PureAppends.{run_ends}
use Rattle.world_laws.proofs.Running.{AllMay, legal_run}
use Rattle.mem_base.proofs.PlaceLaws.{found_has}

-- a register is one of the words that an access may reach
callback_register : (p : Place) (word reg : ℕ) → word ≡ data_words p.bytes + reg → reg < p.regs → is_data_or_register p word ≡ true
callback_register p word reg is less = below word (data_words p.bytes + p.regs) (omega (arith, is, less))
  where
    below : (m n : ℕ) → m < n → nat_lt m n ≡ true
    below m n l = grind (arith, nat_tests)

-- the step is on a word of data or a register of the place of its region, or marks a page of it
abbrev Reached : List Place → AccessStep → Type 0
Reached places (blank n result) = Unit {0}
Reached places (steps c step x) = (p : Place) × (place_in places c.region ≡ Some p) × (is_data_or_register p c.word ≡ true)
Reached places (marks region client page) = (p : Place) × (place_in places region ≡ Some p) × (page < pages_in p)

-- steps that reach the places of the generation in which the pass is entered

module _ (v : PassId) (x : Generation) where
  by_word : (w : World) → Holds w → IsEnteredIn w v x → (region : RegionId) (word : ℕ) (step : WordStep) (p : Place) → place_in x.places region ≡ Some p
      → is_data_or_register p word ≡ true → MayDo w v x (events.Word (hands.Pass v) (cell region word) step)
  by_word w k is region word step p here h =
      let m = found_has (MayStep w v x) x.places region p (steps_possible w k v x is) here in
      subst (λ (r : RegionId). MayDo w v x (events.Word (hands.Pass v) (cell r word) step))
      (same_region p.region region (its_region x.places region p here)) (m.words word step h)

  by_mark : (w : World) → Holds w → IsEnteredIn w v x → (region : RegionId) (client : Client) (page : ℕ) (p : Place) → place_in x.places region ≡ Some p
      → page < pages_in p → MayDo w v x (events.Mark v region client page)
  by_mark w k is region client page p here l =
      let m = found_has (MayStep w v x) x.places region p (steps_possible w k v x is) here in
      subst (λ (r : RegionId). MayDo w v x (events.Mark v r client page))
      (same_region p.region region (its_region x.places region p here)) (m.marks client page l)

  all_may : (ds : List AccessStep) (w : World) → Holds w → IsEnteredIn w v x → Every (Reached x.places) ds
      → AllMay w (events_of_steps v ds) × IsEnteredIn (run_events w (events_of_steps v ds)).world v x
  all_may [] w k is h = (tt, is)
  all_may (blank n result ∷ ds) w k is h = all_may ds w k is h.1
  all_may (steps c step s ∷ ds) w k is h =
      let m = by_word w k is c.region c.word step h.0.0 h.0.1 h.0.2 in
      let e = events.Word (hands.Pass v) c step in
      let t = all_may ds (world_after w e) (holds_after w k e m.may) m.stays h.1 in ((m.may, t.0), t.1)
  all_may (marks region client page ∷ ds) w k is h =
      let m = by_mark w k is region client page h.0.0 h.0.1 h.0.2 in
      let e = events.Mark v region client page in
      let t = all_may ds (world_after w e) (holds_after w k e m.may) m.stays h.1 in ((m.may, t.0), t.1)

-- a part has at most the bytes that it is to have
part_short : (skip n : ℕ) (t : Transfer) → length_of (part skip n t) ≤ n
part_short skip n (reading all) = omega arith
part_short skip n (writing bs) = go n (drop skip bs)
  where
    go : (n : ℕ) (bs : List ℕ) → length (take n bs) ≤ n
    go zero [] = omega arith
    go zero (b ∷ bs) = omega arith
    go (suc n) [] = omega arith
    go (suc n) (b ∷ bs) = let l = go n bs in omega arith

-- each chunk lies in its leaf

module _ (f : Forest) (made : IsMade f) (w : Bool) (s : SpaceId) where
  abbrev IsInside : Run → Type 0
  IsInside r = IsTargetRun f (trail_of f w s r.start).target r.length

  first_inside : (a n c : ℕ) → c ≡ first_length (chunks f w s a n) → 0 < c → IsInside (run a c)
  first_inside a n c is some = chunk_inside f made w s a n c (trail_of f w s a).target refl is some

  all_inside : (n a : ℕ) → Every IsInside (chunks f w s a n)
  all_inside zero a = tt
  all_inside (suc n) a = go (shares_next f w s a) refl (chunks f w s (a + 1) n) refl (all_inside n (a + 1))
    where
      go : (b : Bool) → shares_next f w s a ≡ b → (rs : List Run) → chunks f w s (a + 1) n ≡ rs → Every IsInside rs → Every IsInside (put_before b a rs)
      go true e [] q h = (first_inside a (suc n) 1 (λ i. first_length (put_before (sym e i) a (sym q i))) (omega arith), tt)
      go true e (r ∷ rs) q h =
          (first_inside a (suc n) (r.length + 1) (λ i. first_length (put_before (sym e i) a (sym q i))) (omega arith), h.1)
      go false e rs q h = (first_inside a (suc n) 1 (λ i. first_length (put_before (sym e i) a (sym q i))) (omega arith), h)

-- at a leaf

module _ (g : Published) (k : IsEdition g.forest g.places) where
  abbrev nodes : List Node
  nodes = g.forest.nodes

  abbrev AllReached : List AccessStep → Type 0
  AllReached ds = Every (Reached g.places) ds

  -- memory

  word_in : (start n bytes regs : ℕ) → start < n → n ≤ bytes → bytes % page_size ≡ 0 → start / 8 < bytes / 8 + regs
  word_in start n bytes regs l m pages = omega (arith, l, m, pages)

  module _ (spot : Spot) (p : Place) (here : place_in g.places spot.leaf ≡ Some p) (pages : p.bytes % page_size ≡ 0) where
    words_reached : (t : Transfer) → spot.offset + length_of t ≤ p.bytes → AllReached (on_words spot.leaf spot.offset t)
    words_reached (reading n) l =
        every_map (Reached g.places) (on_word spot.leaf spot.offset (reading n)) (touched word_size spot.offset n)
        (weaker (λ r. r.start < spot.offset + n) (λ r. Reached g.places (on_word spot.leaf spot.offset (reading n) r))
        (λ r m. (p, here, lt-ltb (r.start / 8) (data_words p.bytes + p.regs) (word_in r.start (spot.offset + n) p.bytes p.regs m l pages)))
        (touched word_size spot.offset n) (starts_below (is_in_unit word_size) spot.offset n))
    words_reached (writing bs) l =
        every_map (Reached g.places) (on_word spot.leaf spot.offset (writing bs)) (touched word_size spot.offset (length bs))
        (weaker (λ r. r.start < spot.offset + length bs) (λ r. Reached g.places (on_word spot.leaf spot.offset (writing bs) r))
        (λ r m. (p, here, lt-ltb (r.start / 8) (data_words p.bytes + p.regs) (word_in r.start (spot.offset + length bs) p.bytes p.regs m l pages)))
        (touched word_size spot.offset (length bs)) (starts_below (is_in_unit word_size) spot.offset (length bs)))

    memory_reached : (t : Transfer) → spot.offset + length_of t ≤ p.bytes → AllReached (in_memory spot t)
    memory_reached (reading n) l = words_reached (reading n) l
    memory_reached (writing bs) l = go spot.attrs.readonly
      where
        all : AllReached (on_words spot.leaf spot.offset (writing bs) ++ marked spot.leaf spot.attrs.log spot.offset (length bs))
        all = every_append (Reached g.places) (on_words spot.leaf spot.offset (writing bs)) _ (words_reached (writing bs) l)
            (every_map (Reached g.places) (λ m. marks spot.leaf m.1 m.0) (marks_of spot.attrs.log spot.offset (length bs))
            (weaker {A = ℕ × Client} (λ m. m.0 < p.bytes / page_size) (λ m. Reached g.places (marks spot.leaf m.1 m.0)) (λ m less. (p, here, less))
            (marks_of spot.attrs.log spot.offset (length bs)) (marks_inside spot.attrs.log spot.offset (length bs) p.bytes l pages)))

        go : (b : Bool) → AllReached (if b then unanswered (writing bs)
            else on_words spot.leaf spot.offset (writing bs) ++ marked spot.leaf spot.attrs.log spot.offset (length bs))
        go true = (tt, tt)
        go false = all

  module _ (r : RegionId) (n : Node) (named : names g.forest r ≡ true) (is : node_of nodes r ≡ Some n) where
    good : (device : Device) → device_of n.kind ≡ Some device → IsGood device
    good device e =
        let none : bad_device (Some device) ≡ None = sym (ap bad_device e) ∙ (leaves.region g k r n is).device in
        go (is_good_device device) refl (refuse_if-none _ _ none)
      where
        go : (b : Bool) → is_good_device device ≡ b → not b ≡ false → IsGood device
        go true e h = e
        go false e h = absurd (grind arith)

    -- the notifier that a write sets
    notified : (offset size value : ℕ) (o : Option ℕ) → o ≡ notifier_of n.events offset size value → (ds : List AccessStep) → AllReached ds
        → AllReached (unless_notified o ds)
    notified offset size value None e ds h = h
    notified offset size value (Some number) e ds h =
        let known : number < notifier_count = leaves.notifier_known g.forest k.made r n is offset size value (Some number) e in
        let shows : shows_events g.forest ≡ true = leaves.notifier_shown g.forest r n named is offset size value (Some number) e in
        let q = some_is (place_in g.places notifiers) (k.places_of.notifying shows) in
        ((q.0, q.1, (leaves.notifiers_found g k q.0 q.1).2 number known), tt)

    -- a device, of which register 0 is the word after the data of its place
    module _ (p : Place) (here : place_in g.places r ≡ Some p) (device : Device) (good : IsGood device) (regs : p.regs ≡ device.regs)
        (base : ℕ) (after_data : base ≡ data_words p.bytes) where
      register_reached : (offset : ℕ) (o : Option WordStep) (s : ShownPart) (t : Transfer)
          → Reached g.places (on_device n.id base (unwrap_or (option_map (λ s. Step (register_of device offset) s) o) Error) s t)
      register_reached offset None s t = tt
      register_reached offset (Some step) s t =
          let some = some_registers device good in
          let less : register_of device offset < device.regs = mod_below (offset / 8) device.regs (omega (arith, some)) in (
            p,
            ap (place_in g.places) (id_of nodes r n is) ∙ here,
            callback_register p (base + register_of device offset) (register_of device offset) (ap (λ b. b + register_of device offset) after_data)
                (omega (arith, less, regs)),
          )

      piece_reached : (q : Piece) (t : Transfer) → AllReached (in_piece n device base q t)
      piece_reached q t = go q.valid
        where
          calls : AllReached (by_callbacks n device base q t)
          calls = every_map (Reached g.places) _ (callbacks device.ops q)
              (every_one _ (callbacks device.ops q) (λ c. register_reached c.offset _ _ (part c.skipped c.bytes t)))

          set : (u : Transfer) → AllReached (unless_notified (notifier_for n device q u) (by_callbacks n device base q t))
          set (reading all) = calls
          set (writing bs) = notified q.offset q.size (number_of_bytes bs device.ops.big) _ refl (by_callbacks n device base q t) calls

          go : (b : Bool) → AllReached
              (if b then unless_notified (notifier_for n device q t) (by_callbacks n device base q t) else unanswered t)
          go true = set t
          go false = (tt, tt)

      device_reached : (offset bytes : ℕ) (t : Transfer) → AllReached (in_device n device base offset bytes t)
      device_reached offset bytes t =
          every_flat (Reached g.places) (λ q. in_piece n device base q (part (q.offset - offset) q.size t)) (pieces device.ops offset bytes)
          (every_one _ (pieces device.ops offset bytes) (λ q. piece_reached q (part (q.offset - offset) q.size t)))

  module _ (spot : Spot) (n : Node) (named : names g.forest spot.leaf ≡ true) (is : node_of nodes spot.leaf ≡ Some n) (t : Transfer)
      (ends : spot.offset + length_of t ≤ n.size) (p : Place) (here : place_in g.places spot.leaf ≡ Some p) where
    fits : p ≡ place_from p.region p.start (extent_of n.kind n.size)
    fits = (leaves.leaf_place g k spot.leaf n is p here).1

    bytes_of_kind : p.bytes ≡ (extent_of n.kind n.size).bytes
    bytes_of_kind = ap (λ (q : Place). q.bytes) fits

    regs_of_kind : p.regs ≡ (extent_of n.kind n.size).regs
    regs_of_kind = ap (λ (q : Place). q.regs) fits

    in_bytes : has_bytes n.kind ≡ true → p.bytes ≡ n.size → AllReached (in_memory spot t)
    in_bytes memory same =
        let whole = (size_whole n.kind n.size (leaves.region g k spot.leaf n is).sized memory).1 in
        memory_reached spot p here (ap (λ m. m % page_size) same ∙ whole) t (subst (λ m. spot.offset + length_of t ≤ m) (sym same) ends)

    kind_reached : (kind : Kind) → n.kind ≡ kind → AllReached (at_leaf kind n spot t)
    kind_reached Ram e = in_bytes (ap has_bytes e) (bytes_of_kind ∙ ap (λ x. (extent_of x n.size).bytes) e)
    kind_reached Rom e = in_bytes (ap has_bytes e) (bytes_of_kind ∙ ap (λ x. (extent_of x n.size).bytes) e)
    kind_reached (RomDevice device) e = go (spot.attrs.romd && not (is_write t))
      where
        bytes : p.bytes ≡ n.size
        bytes = bytes_of_kind ∙ ap (λ x. (extent_of x n.size).bytes) e

        go : (b : Bool) → AllReached (if b then in_memory spot t else in_device n device (data_words n.size) spot.offset (length_of t) t)
        go true = in_bytes (ap has_bytes e) bytes
        go false = device_reached spot.leaf n named is p here device (good spot.leaf n named is device (ap device_of e))
            (regs_of_kind ∙ ap (λ x. (extent_of x n.size).regs) e) (data_words n.size) (ap data_words (sym bytes)) spot.offset (length_of t) t
    kind_reached (Io device) e = device_reached spot.leaf n named is p here device (good spot.leaf n named is device (ap device_of e))
        (regs_of_kind ∙ ap (λ x. (extent_of x n.size).regs) e) 0
        (sym (ap data_words (bytes_of_kind ∙ ap (λ x. (extent_of x n.size).bytes) e))) spot.offset (length_of t) t
    kind_reached _ e = (tt, tt)

  target_reached : (target : Target) (c : ℕ) → IsTargetRun g.forest target c → (t : Transfer) → length_of t ≤ c
      → AllReached (at_target g.forest target t)
  target_reached Unassigned c inside t l = (tt, tt)
  target_reached (Leaf spot) c inside t l = go (node_of nodes spot.leaf) refl
    where
      at : (n : Node) → node_of nodes spot.leaf ≡ Some n → (o : Option Place) → place_in g.places spot.leaf ≡ o
          → AllReached (of_region nodes spot.leaf (unanswered t) (λ n. at_leaf n.kind n spot t))
      at n is None here = subst AllReached (sym (leaves.unplaced g k spot.leaf n is inside.named spot t here)) (tt, tt)
      at n is (Some p) here =
          let ends : spot.offset + c ≤ n.size = subst (λ (o : Option Node). IfSome o (λ m. spot.offset + c ≤ m.size)) is inside.within in
          subst (λ (o : Option Node). AllReached (unwrap_or (option_map (λ (m : Node). at_leaf m.kind m spot t) o) (unanswered t))) (sym is)
          (kind_reached spot n inside.named is t (omega (arith, ends, l)) p here n.kind refl)

      go : (o : Option Node) → node_of nodes spot.leaf ≡ o → AllReached (of_region nodes spot.leaf (unanswered t) (λ n. at_leaf n.kind n spot t))
      go None is = subst (λ (o : Option Node). AllReached (unwrap_or (option_map (λ (m : Node). at_leaf m.kind m spot t) o) (unanswered t))) (sym is) (tt, tt)
      go (Some n) is = at n is (place_in g.places spot.leaf) refl

  pub access_reached : (s : SpaceId) (a : ℕ) (t : Transfer) → Every (Reached g.places) (access g.forest s a t)
  access_reached s a t =
      every_flat (Reached g.places) (in_chunk g.forest s a t) (chunks g.forest (is_write t) s a (length_of t))
      (weaker (IsInside g.forest k.made (is_write t) s) (λ r. AllReached (in_chunk g.forest s a t r))
      (λ r inside. target_reached (trail_of g.forest (is_write t) s r.start).target r.length inside (part (r.start - a) r.length t)
      (part_short (r.start - a) r.length t))
      (chunks g.forest (is_write t) s a (length_of t)) (all_inside g.forest k.made (is_write t) s (length_of t) a))

pub accesses_are_possible : (pool_words passes : ℕ) (xs : List PureEntry) → IsLegal pool_words passes xs
    → let w = after_entries (opening pool_words passes) xs in (pass : PassId) (x : Generation) → IsEnteredIn w pass x → IsMade x.forest
    → (space : SpaceId) (addr : ℕ) (transfer : Transfer) → AreLegalSteps w pass x (access x.forest space addr transfer)
accesses_are_possible pool_words passes xs l pass x is made space addr transfer =
    let w = after_entries (opening pool_words passes) xs in
    let h = holds pool_words passes xs l in
    let among = ((enters_held w h.kept.coupled.order pass).numbered x is).2.among in
    let shown = every_taken (λ (y : Generation). ArePlacesOf pool_words y.forest y.places) _ w.writer.generations.kept
    (generations_show_places pool_words passes xs l).shown in
    let places : ArePlacesOf pool_words x.forest x.places =
    every_element (λ (y : Generation). ArePlacesOf pool_words y.forest y.places) (held_generations w.writer.generations) x shown among in
    let edition : IsEdition x.forest x.places = record { made = made; pool_words = pool_words; places_of = places } in
    let ds = access x.forest space addr transfer in
    let all = all_may pass x ds w h is (access_reached (published 0 x.forest x.places) edition space addr transfer) in record {
      legal = legal_run (events_of_steps pass ds) w all.0;
      ends = run_ends (events_of_steps pass ds) w;
      stays = all.1;
    }
