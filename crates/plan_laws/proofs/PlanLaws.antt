-- The defined access is what the words do for its plan.
use Rattle.std.proofs.Common.{◌≡◌, ℕ, ◌-◌, ◌&&◌, not, Bool, true, false, List, [], ◌∷◌, ◌++◌, map, length, Option, Some, None, if◌then◌else◌, refl, sym, ap, ◌∙◌}
use Rattle.std.specs.Prelude.{flat_map, unwrap_or, option_map}
use Rattle.std.proofs.lemmas.Grind.{flat_map-append}
use Rattle.std.proofs.lemmas.List.{append-nil}
use Rattle.mem_base.specs.declared.map.ids.RegionId.{RegionId}
use Rattle.mem_base.specs.declared.map.ids.SpaceId.{SpaceId}
use Rattle.mem_base.specs.declared.map.forests.Node.{Node}
use Rattle.mem_base.specs.declared.map.forests.Forest.{Forest}
use Rattle.mem_base.specs.declared.map.spots.Spot.{Spot}
use Rattle.mem_base.specs.declared.map.kinds.Kind.{Kind}
use Rattle.mem_base.specs.declared.map.kinds.Kind.TheVariants.{Ram, Rom, RomDevice, Io}
use Rattle.mem_base.specs.declared.map.kinds.Client.{Client}
use Rattle.mem_base.specs.declared.map.kinds.Device.{Device}
use Rattle.mem_base.specs.declared.access.accesses.Target.{Target}
use Rattle.mem_base.specs.declared.access.accesses.Target.TheVariants.{Leaf, Unassigned}
use Rattle.mem_base.specs.declared.access.accesses.Piece.{Piece}
use Rattle.mem_base.specs.map.Region.{node_of}
use Rattle.mem_base.proofs.ForestLaws.{id_of}
use Rattle.mem_base.specs.lists.Runs.{Run}
use Rattle.mem_base.specs.access.Places.{data_words}
use Rattle.mem_base.specs.access.Pieces.{Callback, pieces, callbacks}
use Rattle.mem_base.specs.access.Trails.{trail_of, chunks}
use Rattle.mem_base.specs.access.AccessSteps.{Transfer, reading, writing, is_write, length_of, part, AccessStep, unanswered, marks, nothing_shown}
use Rattle.mem_base.specs.access.MemoryAccess as words
use Rattle.mem_base.specs.access.DeviceAccess as devices
use Rattle.mem_base.specs.access.DeviceAccess.{on_device, step_of, value_of}
use Rattle.mem_base.specs.declared.access.accesses.DeviceStep.{DeviceStep}
use Rattle.mem_base.specs.declared.access.accesses.DeviceStep.TheVariants.{Step, Error}
use Rattle.mem_base.specs.access.Access as whole
use Rattle.mem_base.specs.access.Plans.{Reached, mark, Request, answers, by_memory, by_device, by_memory_unless, answerer, answerer_in, answerer_at, nobody, in_memory}
use Rattle.mem_base.specs.access.Plans.{request, notifier_for, unless_notified, in_callback, in_piece, in_device, reached, in_chunk}
use Rattle.mem_base.specs.access.PlanSteps.{by_register, by_kind, by_region, steps_of}
use Rattle.plan_laws.specs.PlanLaws.{AccessIsPlanned}

-- what is done for a list that each element gives a part of, part by part
flat_map-parts : {A B C : Type 0} (h : B → List C) (g : A → List B) (k : A → List C) → ((x : A) → flat_map h (g x) ≡ k x) → (xs : List A)
    → flat_map h (flat_map g xs) ≡ flat_map k xs
flat_map-parts h g k each [] = refl
flat_map-parts h g k each (x ∷ xs) =
    flat_map-append h (g x) (flat_map g xs) ∙ (λ i. each x i ++ flat_map-parts h g k each xs i)

-- and of a list of which each element gives one thing
flat_map-each : {A B C : Type 0} (h : B → List C) (g : A → B) (k : A → C) → ((x : A) → h (g x) ≡ k x ∷ []) → (xs : List A)
    → flat_map h (map g xs) ≡ map k xs
flat_map-each h g k each [] = refl
flat_map-each h g k each (x ∷ xs) = (λ i. each x i ++ flat_map-each h g k each xs i)

module _ (f : Forest) where
  abbrev does : List Reached → List AccessStep
  does rs = flat_map (steps_of f) rs

  memory_is : (spot : Spot) (bs : List ℕ) → does (in_memory spot (writing bs))
      ≡ words.on_words spot.leaf spot.offset (writing bs) ++ words.marked spot.leaf spot.attrs.log spot.offset (length bs)
  memory_is spot bs =
      ap (λ ds. words.on_words spot.leaf spot.offset (writing bs) ++ ds)
      (flat_map-each (steps_of f) (λ (m : ℕ × Client). mark spot.leaf m.1 m.0) (λ (m : ℕ × Client). marks spot.leaf m.1 m.0) (λ m. refl) _)

  -- one callback, of a region that is a device whose register 0 is the word `base`
  callback_is : (region : RegionId) (n : Node) (device : Device) (base : ℕ) → n.id ≡ region
      → ((offset size : ℕ) (r : Request) → by_region (node_of f.nodes region) offset size r ≡ by_register n.id device base offset size r ∷ [])
      → (t : Transfer) (c : Callback)
      → steps_of f (in_callback region device.ops t c) ≡ devices.by_callback n device base c.offset c.size (part c.skipped c.bytes t) ∷ []
  callback_is region n device base id is (reading all) c = is c.offset c.size (answers c.bytes device.ops.big)
  callback_is region n device base id is (writing bs) c =
      is c.offset c.size (request device.ops.big c.size (part c.skipped c.bytes (writing bs))) ∙ ap (λ d. d ∷ [])
      (same_error (step_of device c.offset c.size (value_of device.ops.big c.size (part c.skipped c.bytes (writing bs)))))
    where
      same_error : (d : DeviceStep) → on_device n.id base d nothing_shown (writing [])
          ≡ on_device n.id base d nothing_shown (part c.skipped c.bytes (writing bs))
      same_error (Step reg step) = refl
      same_error Error = refl

  callbacks_are : (region : RegionId) (n : Node) (device : Device) (base : ℕ) → n.id ≡ region
      → ((offset size : ℕ) (r : Request) → by_region (node_of f.nodes region) offset size r ≡ by_register n.id device base offset size r ∷ [])
      → (p : Piece) (t : Transfer) → does (map (in_callback region device.ops t) (callbacks device.ops p)) ≡ devices.by_callbacks n device base p t
  callbacks_are region n device base id is p t =
      flat_map-each (steps_of f) (in_callback region device.ops t) (λ c. devices.by_callback n device base c.offset c.size (part c.skipped c.bytes t))
      (callback_is region n device base id is t) (callbacks device.ops p)

  -- what a notifier takes in place of the device
  notified : (o : Option ℕ) (rs : List Reached) (ds : List AccessStep) → does rs ≡ ds → does (unless_notified o rs) ≡ devices.unless_notified o ds
  notified None rs ds e = e
  notified (Some number) rs ds e = refl

  if_valid : (b : Bool) (rs qs : List Reached) (ds es : List AccessStep) → does rs ≡ ds → does qs ≡ es → does (if b then rs else qs) ≡ (if b then ds else es)
  if_valid true rs qs ds es h k = h
  if_valid false rs qs ds es h k = k

  nobody_is : (t : Transfer) → does (nobody t) ≡ unanswered t
  nobody_is t = refl

  same_notifier : (n : Node) (device : Device) (p : Piece) (t : Transfer) → notifier_for device.ops n.events p t ≡ devices.notifier_for n device p t
  same_notifier n device p (reading all) = refl
  same_notifier n device p (writing bs) = refl

  piece_is : (region : RegionId) (n : Node) (device : Device) (base : ℕ) → n.id ≡ region
      → ((offset size : ℕ) (r : Request) → by_region (node_of f.nodes region) offset size r ≡ by_register n.id device base offset size r ∷ [])
      → (p : Piece) (t : Transfer) → does (in_piece region device.ops n.events p t) ≡ devices.in_piece n device base p t
  piece_is region n device base id is p t =
      if_valid p.valid _ _ _ _
      (notified (notifier_for device.ops n.events p t) _ _ (callbacks_are region n device base id is p t)
      ∙ ap (λ o. devices.unless_notified o (devices.by_callbacks n device base p t)) (same_notifier n device p t))
      (nobody_is t)

  device_is : (region : RegionId) (n : Node) (device : Device) (base : ℕ) → n.id ≡ region
      → ((offset size : ℕ) (r : Request) → by_region (node_of f.nodes region) offset size r ≡ by_register n.id device base offset size r ∷ [])
      → (offset : ℕ) (t : Transfer)
      → does (in_device region offset device.ops n.events t) ≡ devices.in_device n device base offset (length_of t) t
  device_is region n device base id is offset t =
      flat_map-parts (steps_of f) _ (λ p. devices.in_piece n device base p (part (p.offset - offset) p.size t))
      (λ p. piece_is region n device base id is p (part (p.offset - offset) p.size t)) (pieces device.ops offset (length_of t))

  -- RAM and ROM
  memory_at : (spot : Spot) (t : Transfer)
      → does (reached (by_memory_unless (is_write t && spot.attrs.readonly) spot) t) ≡ words.in_memory spot t
  memory_at spot (reading n) = append-nil (words.on_words spot.leaf spot.offset (reading n))
  memory_at spot (writing bs) = go spot.attrs.readonly
    where
      go : (b : Bool) → does (reached (by_memory_unless b spot) (writing bs))
          ≡ (if b then unanswered (writing bs)
          else words.on_words spot.leaf spot.offset (writing bs) ++ words.marked spot.leaf spot.attrs.log spot.offset (length bs))
      go true = refl
      go false = memory_is spot bs

  leaf_at : (kind : Kind) (n : Node) (spot : Spot) (t : Transfer) → n.kind ≡ kind → node_of f.nodes spot.leaf ≡ Some n
      → does (reached (answerer_at kind n spot (is_write t)) t) ≡ whole.at_leaf kind n spot t
  leaf_at Ram n spot t k e = memory_at spot t
  leaf_at Rom n spot t k e = memory_at spot t
  leaf_at (RomDevice device) n spot t k e = go t spot.attrs.romd
    where
      is : (offset size : ℕ) (r : Request)
          → by_region (node_of f.nodes spot.leaf) offset size r ≡ by_register n.id device (data_words n.size) offset size r ∷ []
      is offset size r = ap (λ o. by_region o offset size r) e ∙ ap (λ q. by_kind q n offset size r) k

      go : (t : Transfer) (b : Bool)
          → does (reached (if b && not (is_write t) then by_memory spot else by_device spot.leaf spot.offset device.ops n.events) t)
          ≡ (if b && not (is_write t) then words.in_memory spot t else devices.in_device n device (data_words n.size) spot.offset (length_of t) t)
      go (reading all) true = append-nil (words.on_words spot.leaf spot.offset (reading all))
      go (reading all) false = device_is spot.leaf n device (data_words n.size) (id_of f.nodes spot.leaf n e) is spot.offset (reading all)
      go (writing bs) true = device_is spot.leaf n device (data_words n.size) (id_of f.nodes spot.leaf n e) is spot.offset (writing bs)
      go (writing bs) false = device_is spot.leaf n device (data_words n.size) (id_of f.nodes spot.leaf n e) is spot.offset (writing bs)
  leaf_at (Io device) n spot t k e = device_is spot.leaf n device 0 (id_of f.nodes spot.leaf n e) is spot.offset t
    where
      is : (offset size : ℕ) (r : Request) → by_region (node_of f.nodes spot.leaf) offset size r ≡ by_register n.id device 0 offset size r ∷ []
      is offset size r = ap (λ o. by_region o offset size r) e ∙ ap (λ q. by_kind q n offset size r) k
  leaf_at _ n spot t k e = nobody_is t

  target_at : (x : Target) (t : Transfer) → does (reached (answerer f (is_write t) x) t) ≡ whole.at_target f x t
  target_at Unassigned t = nobody_is t
  target_at (Leaf spot) t = go (node_of f.nodes spot.leaf) refl
    where
      go : (o : Option Node) → node_of f.nodes spot.leaf ≡ o → does (reached (answerer_in o spot (is_write t)) t) ≡ unwrap_or (option_map (λ (m : Node). whole.at_leaf m.kind m spot t) o) (unanswered t)
      go None e = nobody_is t
      go (Some n) e = leaf_at n.kind n spot t refl e

  same_part : (skip n : ℕ) (t : Transfer) → is_write (part skip n t) ≡ is_write t
  same_part skip n (reading all) = refl
  same_part skip n (writing bs) = refl

  chunk_at : (s : SpaceId) (a : ℕ) (t : Transfer) (r : Run) → does (in_chunk f s a t r) ≡ whole.in_chunk f s a t r
  chunk_at s a t r =
      let x : Target = (trail_of f (is_write t) s r.start).target in
      let p : Transfer = part (r.start - a) r.length t in
      ap (λ w. does (reached (answerer f w x) p)) (sym (same_part (r.start - a) r.length t)) ∙ target_at x p

pub access_is_planned : AccessIsPlanned
access_is_planned f s a t =
    sym (flat_map-parts (steps_of f) (in_chunk f s a t) (whole.in_chunk f s a t) (chunk_at f s a t) (chunks f (is_write t) s a (length_of t)))
