-- What a hand answers that is asked as a bus is what the defined access reads, and how it ends.
use Rattle.std.proofs.Common.{◌≡◌, ℕ, zero, suc, ◌+◌, ◌-◌, ◌%◌, ◌^◌, ◌≤◌, not, ◌&&◌, Bool, true, false, List, [], ◌∷◌, ◌++◌, length, take, drop, map}
use Rattle.std.proofs.Common.{Option, Some, None, if◌then◌else◌, refl, sym, ap, subst, ◌∙◌, arith}
use Rattle.std.specs.Prelude.{flat_map, replicate}
use Rattle.std.specs.List.{range_with_len}
use Rattle.std.proofs.lemmas.List.{append-nil, length-append, take-append-drop, length-take-le, length-drop}
use Rattle.std.proofs.lemmas.List.Elements.{filter_map-append}
use Rattle.std.proofs.lemmas.List.FromFn.{length-range_with_len}
use Rattle.std.proofs.Math.Nat.{zero-div}
use Rattle.std.proofs.Math.Seq.{take-length}
use Rattle.mem_base.specs.declared.map.ids.RegionId.{RegionId}
use Rattle.mem_base.specs.map.PassIds.{PassId}
use Rattle.mem_base.specs.declared.map.ids.SpaceId.{SpaceId}
use Rattle.mem_base.specs.declared.map.forests.Node.{Node}
use Rattle.mem_base.specs.declared.map.forests.Forest.{Forest}
use Rattle.mem_base.specs.declared.map.spots.Spot.{Spot}
use Rattle.mem_base.specs.declared.map.kinds.Kind.{Kind}
use Rattle.mem_base.specs.declared.map.kinds.Kind.TheVariants.{Ram, Rom, RomDevice, Io}
use Rattle.mem_base.specs.declared.map.kinds.Client.{Client}
use Rattle.mem_base.specs.declared.map.kinds.Device.{Device}
use Rattle.mem_base.specs.declared.map.kinds.Ops.{Ops}
use Rattle.mem_base.specs.declared.map.ioevents.Ioevent.{Ioevent}
use Rattle.mem_base.specs.declared.access.accesses.Target.{Target}
use Rattle.mem_base.specs.declared.access.accesses.Target.TheVariants.{Leaf, Unassigned}
use Rattle.mem_base.specs.declared.access.accesses.Piece.{Piece}
use Rattle.mem_base.specs.declared.access.accesses.DeviceStep.{DeviceStep}
use Rattle.mem_base.specs.declared.access.accesses.DeviceStep.TheVariants.{Step, Error}
use Rattle.mem_base.specs.declared.access.cells.WordStep.{WordStep}
use Rattle.mem_base.specs.declared.access.cells.WordStep.TheVariants.{Or}
use Rattle.mem_base.specs.declared.machine.events.Event.{Event}
use Rattle.mem_base.specs.declared.machine.events.Event.TheVariants as events
use Rattle.mem_base.specs.declared.machine.events.Hand.TheVariants as hands
use Rattle.mem_base.specs.lists.Every.{Every}
use Rattle.mem_base.specs.lists.Runs.{Run}
use Rattle.mem_base.specs.map.Region.{node_of}
use Rattle.mem_base.specs.access.Cells.{cell, notifier_cell}
use Rattle.mem_base.specs.access.Places.{data_words}
use Rattle.mem_base.specs.access.Words.{byte_of, byte_at, bytes_of}
use Rattle.mem_base.specs.access.Pieces.{callback_at, callback_count, pieces}
use Rattle.mem_base.specs.access.Trails.{trail_of, chunks}
use Rattle.mem_base.specs.access.Marks.{marks_of}
use Rattle.mem_base.specs.access.MemoryAccess.{on_word, on_words}
use Rattle.mem_base.specs.access.DeviceAccess.{reply_of, step_of, on_device}
use Rattle.mem_base.specs.access.AccessSteps.{Transfer, reading, writing, is_write, length_of, part, AccessStep, blank, steps, event_of, events_of_steps}
use Rattle.mem_base.specs.access.AccessSteps.{bytes_read, result_of, shown_part, nothing_shown, tx}
use Rattle.mem_base.specs.access.Access.{access}
use Rattle.mem_base.specs.access.Plans.{Request, answers, takes, Reached, memory, callback, notifier, mark, nothing, by_memory, by_device, by_memory_unless}
use Rattle.mem_base.specs.access.Plans.{answerer_at, answerer_in, answerer, nobody, in_memory, notifier_for, unless_notified, in_callback, in_piece}
use Rattle.mem_base.specs.access.Plans.{in_device, reached, in_chunk, plan}
use Rattle.mem_base.specs.access.PlanSteps.{by_register, by_kind, by_region, steps_of}
use Rattle.access_reach.proofs.HandedOn.{access_is_planned}
use Rattle.access_reach.specs.Asking.{asked, Reply, Outcome, outcome, followed_by, of_device, of_memory, told, outcome_of}
use Rattle.access_reach.specs.Asking.{reads, writes, calls, sets, marks, taken}
use Rattle.access_reach.specs.Reaching.{HasReached}
use Rattle.access_run.specs.Runs.{Makes, HasDone, TakesAll}
use Rattle.access_run.specs.WordReplies.{as_reached, AsksWords, TakesAsked, number_told, word_reply, words_told, word_replies}
use Rattle.access_run.proofs.HandLaws.{bytes_append, results_append}
use Rattle.access_run.proofs.AnswerLaws.{words_read_fine, words_taken}
use Rattle.mem_base.proofs.EveryLaws.{every_split, every_append}

-- what holds of each thing that a plan reaches: a callback's region is a device, and no more bytes are shown than it has

pub record HasRegisters (f : Forest) (region : RegionId) : Type 0 where
  pub id : RegionId
  pub device : Device
  pub base : ℕ
  pub does : (offset size : ℕ) (r : Request) → by_region (node_of f.nodes region) offset size r ≡ by_register id device base offset size r ∷ []

abbrev pub ShowsFew : Request → ℕ → Type 0
ShowsFew (answers n big) size = n ≤ size
ShowsFew (takes value) size = Unit {0}

abbrev pub IsOwn : Forest → Reached → Type 0
IsOwn f (callback region offset size r) = ShowsFew r size × HasRegisters f region
IsOwn f _ = Unit {0}

-- one thing

no_bytes : (region : RegionId) (offset : ℕ) (bs : List ℕ) (rs : List Run) (ws : List ℕ) → bytes_read (map (on_word region offset (writing bs)) rs) ws ≡ []
no_bytes region offset bs [] ws = refl
no_bytes region offset bs (r ∷ rs) [] = refl
no_bytes region offset bs (r ∷ rs) (w ∷ ws) = no_bytes region offset bs rs ws

zero_bytes : (size : ℕ) (big : Bool) (is : List ℕ) → map (byte_of 0 size big) is ≡ replicate (length is) 0
zero_bytes size big [] = refl
zero_bytes size big (i ∷ is) = (λ j. zero_byte (if big then size - 1 - i else i) j ∷ zero_bytes size big is j)
  where
    zero_byte : (i : ℕ) → byte_at 0 i ≡ 0
    zero_byte i = ap (λ n. n % 256) (zero-div (256 ^ i))

take_same : (z n m : ℕ) → n ≤ m → take n (replicate m z) ≡ replicate n z
take_same z zero m l = refl
take_same z (suc n) zero l = absurd (omega (arith, l))
take_same z (suc n) (suc m) l = (λ i. z ∷ take_same z n m (omega (arith, l)) i)

abbrev is_asked : Reached → Bool
is_asked (nothing n result) = false
is_asked _ = true

module _ (f : Forest) (p : PassId) where
  abbrev does : List Reached → List AccessStep
  does xs = flat_map (steps_of f) xs

  registered : (region : RegionId) (device : Device) (base offset size : ℕ) (r : Request) (ws : List ℕ) → ShowsFew r size
      → length ws ≡ length (events_of_steps p (by_register region device base offset size r ∷ []))
      → (told (callback region offset size r) (of_device (number_told (callback region offset size r) ws)
      (result_of (by_register region device base offset size r ∷ [])))).bytes ≡ bytes_read (by_register region device base offset size r ∷ []) ws
  registered region device base offset size (answers n big) ws few e = go (step_of device offset size None) ws e
    where
      zeros : take n (bytes_of 0 size big) ≡ replicate n 0
      zeros = ap (take n) (zero_bytes size big (range_with_len 0 size) ∙ ap (λ m. replicate m 0) (length-range_with_len 0 size)) ∙ take_same 0 n size few

      go : (d : DeviceStep) (ws : List ℕ)
          → length ws ≡ length (events_of_steps p (on_device region base d (shown_part (offset % 8) size big n) (reading n) ∷ []))
          → take n (bytes_of (number_told (callback region offset size (answers n big)) ws) size big)
          ≡ bytes_read (on_device region base d (shown_part (offset % 8) size big n) (reading n) ∷ []) ws
      go Error [] e = zeros ∙ sym (append-nil (replicate n 0))
      go Error (w ∷ ws) e = absurd (omega (arith, e))
      go (Step reg step) [] e = absurd (omega (arith, e))
      go (Step reg step) (w ∷ ws) e = sym (append-nil (take n (bytes_of (number_told (callback region offset size (answers n big)) (w ∷ ws)) size big)))
  registered region device base offset size (takes value) ws few e = go (step_of device offset size (Some value)) ws
    where
      go : (d : DeviceStep) (ws : List ℕ) → [] ≡ bytes_read (on_device region base d nothing_shown (writing []) ∷ []) ws
      go Error ws = refl
      go (Step reg step) [] = refl
      go (Step reg step) (w ∷ ws) = refl

  one_told : (x : Reached) (ws : List ℕ) → is_asked x ≡ true → IsOwn f x → length ws ≡ words_told f p x → (told x (word_reply f x ws)).bytes ≡ bytes_read (steps_of f x) ws
  one_told (memory region offset (reading n)) ws asked own e = refl
  one_told (memory region offset (writing bs)) ws asked own e = sym (no_bytes region offset bs _ ws)
  one_told (callback region offset size (answers n big)) ws asked own e =
      let d : HasRegisters f region = own.1 in
      let r : Request = answers n big in
      subst (λ ds. length ws ≡ length (events_of_steps p ds)
      → take n (bytes_of (number_told (callback region offset size r) ws) size big) ≡ bytes_read ds ws) (sym (d.does offset size r))
      (registered d.id d.device d.base offset size r ws own.0) e
  one_told (callback region offset size (takes value)) ws asked own e =
      let d : HasRegisters f region = own.1 in
      let r : Request = takes value in
      subst (λ ds. length ws ≡ length (events_of_steps p ds) → [] ≡ bytes_read ds ws) (sym (d.does offset size r))
      (registered d.id d.device d.base offset size r ws own.0) e
  one_told (notifier number) [] asked own e = refl
  one_told (notifier number) (w ∷ ws) asked own e = refl
  one_told (mark region client page) ws asked own e = refl
  one_told (nothing n result) ws asked own e = cc

  same_result : (x : Reached) (ws : List ℕ) → is_asked x ≡ true → (told x (word_reply f x ws)).result ≡ result_of (steps_of f x)
  same_result (memory region offset (reading n)) ws asked = refl
  same_result (memory region offset (writing bs)) ws asked = refl
  same_result (callback region offset size (answers n big)) ws asked = refl
  same_result (callback region offset size (takes value)) ws asked = refl
  same_result (notifier number) ws asked = refl
  same_result (mark region client page) ws asked = refl
  same_result (nothing n result) ws asked = cc

  -- all of them

  pub record Told (xs : List Reached) (ws : List ℕ) : Type 0 where
    pub each : length (word_replies f p xs ws) ≡ length (asked xs)
    pub ends : outcome_of xs (word_replies f p xs ws) ≡ outcome (bytes_read (does xs) ws) (result_of (does xs))

  -- one that is asked, and those after it
  one_more : (x : Reached) (xs : List Reached) (ws : List ℕ) → is_asked x ≡ true → IsOwn f x → length ws ≡ length (events_of_steps p (does (x ∷ xs)))
      → (length (drop (words_told f p x) ws) ≡ length (events_of_steps p (does xs)) → Told xs (drop (words_told f p x) ws))
      → followed_by (told x (word_reply f x (take (words_told f p x) ws))) (outcome_of xs (word_replies f p xs (drop (words_told f p x) ws)))
      ≡ outcome (bytes_read (does (x ∷ xs)) ws) (result_of (does (x ∷ xs)))
  one_more x xs ws asked own e rest =
      let c : ℕ = words_told f p x in
      let parts : length (events_of_steps p (does (x ∷ xs))) ≡ c + length (events_of_steps p (does xs)) =
      ap (λ es. length es) (filter_map-append (event_of p) (steps_of f x) (does xs)) ∙ length-append (events_of_steps p (steps_of f x)) (events_of_steps p (does xs)) in
      let most : c ≤ length ws = omega (arith, e, parts) in
      let first : length (take c ws) ≡ c = length-take-le c ws most in
      let dropped : length (drop c ws) ≡ length ws - c = length-drop c ws in
      let later = rest (omega (arith, dropped, e, parts)) in
      let whole : take c ws ++ drop c ws ≡ ws = take-append-drop c ws in
      let bytes : bytes_read (does (x ∷ xs)) ws ≡ bytes_read (steps_of f x) (take c ws) ++ bytes_read (does xs) (drop c ws) =
      ap (bytes_read (does (x ∷ xs))) (sym whole) ∙ bytes_append p (steps_of f x) (does xs) (take c ws) (drop c ws) first in
      (λ i. followed_by (outcome (one_told x (take c ws) asked own first i) (same_result x (take c ws) asked i)) (later.ends i))
      ∙ (λ i. outcome (sym bytes i) (sym (results_append (steps_of f x) (does xs)) i))

  asked_told : (x : Reached) (xs : List Reached) (ws : List ℕ) → is_asked x ≡ true → length (asked (x ∷ xs)) ≡ suc (length (asked xs)) → IsOwn f x
      → length ws ≡ length (events_of_steps p (does (x ∷ xs)))
      → ((ws : List ℕ) → length ws ≡ length (events_of_steps p (does xs)) → Told xs ws)
      → word_replies f p (x ∷ xs) ws ≡ word_reply f x (take (words_told f p x) ws) ∷ word_replies f p xs (drop (words_told f p x) ws)
      → outcome_of (x ∷ xs) (word_reply f x (take (words_told f p x) ws) ∷ word_replies f p xs (drop (words_told f p x) ws))
      ≡ followed_by (told x (word_reply f x (take (words_told f p x) ws))) (outcome_of xs (word_replies f p xs (drop (words_told f p x) ws)))
      → Told (x ∷ xs) ws
  asked_told x xs ws is more own e rest replies first =
      let c : ℕ = words_told f p x in
      let parts : length (events_of_steps p (does (x ∷ xs))) ≡ c + length (events_of_steps p (does xs)) =
      ap (λ es. length es) (filter_map-append (event_of p) (steps_of f x) (does xs)) ∙ length-append (events_of_steps p (steps_of f x)) (events_of_steps p (does xs)) in
      let dropped : length (drop c ws) ≡ length ws - c = length-drop c ws in
      let later = rest (drop c ws) (omega (arith, dropped, e, parts)) in
      let count : length (word_replies f p xs (drop c ws)) ≡ length (asked xs) = later.each in record {
        each = ap (λ rs. length rs) replies ∙ ap (λ n. suc n) count ∙ sym more;
        ends = ap (outcome_of (x ∷ xs)) replies ∙ first ∙ one_more x xs ws is own e (rest (drop c ws));
      }

  all_told : (xs : List Reached) (ws : List ℕ) → Every (IsOwn f) xs → length ws ≡ length (events_of_steps p (does xs)) → Told xs ws
  all_told [] [] own e = record { each = refl; ends = refl }
  all_told [] (w ∷ ws) own e = absurd (omega (arith, e))
  all_told (nothing n result ∷ xs) ws own e =
      let rest = all_told xs ws own.1 e in record {
        each = rest.each;
        ends = ap (followed_by (outcome (replicate n 0) result)) rest.ends;
      }
  all_told (memory region offset (reading n) ∷ xs) ws own e = asked_told (memory region offset (reading n)) xs ws refl refl own.0 e (λ ws. all_told xs ws own.1) refl refl
  all_told (memory region offset (writing bs) ∷ xs) ws own e = asked_told (memory region offset (writing bs)) xs ws refl refl own.0 e (λ ws. all_told xs ws own.1) refl refl
  all_told (callback region offset size (answers n big) ∷ xs) ws own e =
      asked_told (callback region offset size (answers n big)) xs ws refl refl own.0 e (λ ws. all_told xs ws own.1) refl refl
  all_told (callback region offset size (takes value) ∷ xs) ws own e =
      asked_told (callback region offset size (takes value)) xs ws refl refl own.0 e (λ ws. all_told xs ws own.1) refl refl
  all_told (notifier number ∷ xs) ws own e = asked_told (notifier number) xs ws refl refl own.0 e (λ ws. all_told xs ws own.1) refl refl
  all_told (mark region client page ∷ xs) ws own e = asked_told (mark region client page) xs ws refl refl own.0 e (λ ws. all_told xs ws own.1) refl refl

-- what a plan reaches

every_part : {A B : Type 0} (P : B → Type 0) (g : A → List B) → ((x : A) → Every P (g x)) → (xs : List A) → Every P (flat_map g xs)
every_part P g each [] = tt
every_part P g each (x ∷ xs) = every_append P (g x) (flat_map g xs) (each x) (every_part P g each xs)

module _ (f : Forest) where
  callbacks_own : (region : RegionId) (ops : Ops) (p : Piece) (t : Transfer) → HasRegisters f region → (is : List ℕ)
      → Every (IsOwn f) (map (in_callback region ops t) (map (callback_at ops p) is))
  callbacks_own region ops p t d [] = tt
  callbacks_own region ops p (reading all) d (i ∷ is) = ((omega arith, d), callbacks_own region ops p (reading all) d is)
  callbacks_own region ops p (writing bs) d (i ∷ is) = ((tt, d), callbacks_own region ops p (writing bs) d is)

  notified_own : (o : Option ℕ) (rs : List Reached) → Every (IsOwn f) rs → Every (IsOwn f) (unless_notified o rs)
  notified_own None rs h = h
  notified_own (Some number) rs h = (tt, tt)

  if_own : (b : Bool) (rs : List Reached) (t : Transfer) → Every (IsOwn f) rs → Every (IsOwn f) (if b then rs else nobody t)
  if_own true rs t h = h
  if_own false rs t h = (tt, tt)

  piece_own : (region : RegionId) (ops : Ops) (events : List Ioevent) (t : Transfer) → HasRegisters f region → (p : Piece)
      → Every (IsOwn f) (in_piece region ops events p t)
  piece_own region ops events t d p =
      if_own p.valid _ t (notified_own (notifier_for ops events p t) _
      (callbacks_own region ops p t d (range_with_len 0 (callback_count ops p.size))))

  device_own : (region : RegionId) (offset : ℕ) (ops : Ops) (events : List Ioevent) (t : Transfer) → HasRegisters f region
      → Every (IsOwn f) (in_device region offset ops events t)
  device_own region offset ops events t d =
      every_part (IsOwn f) _ (λ p. piece_own region ops events (part (p.offset - offset) p.size t) d p) (pieces ops offset (length_of t))

  marks_own : (region : RegionId) (ms : List (ℕ × Client)) → Every (IsOwn f) (map (λ m. mark region m.1 m.0) ms)
  marks_own region [] = tt
  marks_own region (m ∷ ms) = (tt, marks_own region ms)

  memory_own : (spot : Spot) (t : Transfer) → Every (IsOwn f) (in_memory spot t)
  memory_own spot (reading n) = (tt, tt)
  memory_own spot (writing bs) = (tt, marks_own spot.leaf (marks_of spot.attrs.log spot.offset (length bs)))

  unless_own : (b : Bool) (spot : Spot) (t : Transfer) → Every (IsOwn f) (reached (by_memory_unless b spot) t)
  unless_own true spot t = (tt, tt)
  unless_own false spot t = memory_own spot t

  leaf_own : (kind : Kind) (n : Node) (spot : Spot) (w : Bool) (t : Transfer) → n.kind ≡ kind → node_of f.nodes spot.leaf ≡ Some n
      → Every (IsOwn f) (reached (answerer_at kind n spot w) t)
  leaf_own Ram n spot w t k e = unless_own (w && spot.attrs.readonly) spot t
  leaf_own Rom n spot w t k e = unless_own (w && spot.attrs.readonly) spot t
  leaf_own (RomDevice device) n spot w t k e = go (spot.attrs.romd && not w)
    where
      go : (b : Bool) → Every (IsOwn f) (reached (if b then by_memory spot else by_device spot.leaf spot.offset device.ops n.events) t)
      go true = memory_own spot t
      go false = device_own spot.leaf spot.offset device.ops n.events t (record {
        id = n.id;
        device = device;
        base = data_words n.size;
        does = λ offset size r. ap (λ o. by_region o offset size r) e ∙ ap (λ q. by_kind q n offset size r) k;
      })
  leaf_own (Io device) n spot w t k e = device_own spot.leaf spot.offset device.ops n.events t (record {
    id = n.id;
    device = device;
    base = 0;
    does = λ offset size r. ap (λ o. by_region o offset size r) e ∙ ap (λ q. by_kind q n offset size r) k;
  })
  leaf_own _ n spot w t k e = (tt, tt)

  target_own : (x : Target) (w : Bool) (t : Transfer) → Every (IsOwn f) (reached (answerer f w x) t)
  target_own Unassigned w t = (tt, tt)
  target_own (Leaf spot) w t = go (node_of f.nodes spot.leaf) refl
    where
      go : (o : Option Node) → node_of f.nodes spot.leaf ≡ o → Every (IsOwn f) (reached (answerer_in o spot w) t)
      go None e = (tt, tt)
      go (Some n) e = leaf_own n.kind n spot w t refl e

  plan_own : (s : SpaceId) (a : ℕ) (t : Transfer) → Every (IsOwn f) (plan f s a t)
  plan_own s a t =
      every_part (IsOwn f) (in_chunk f s a t) (λ r. target_own (trail_of f (is_write t) s r.start).target (is_write t) (part (r.start - a) r.length t))
      (chunks f (is_write t) s a (length_of t))

-- an access whose plan is asked of a bus over words reads the bytes and ends as the defined access does, by the same words
words_answer : (f : Forest) (p : PassId) (s : SpaceId) (a : ℕ) (t : Transfer) (ws : List ℕ) → length ws ≡ length (events_of_steps p (access f s a t))
    → outcome_of (plan f s a t) (word_replies f p (plan f s a t) ws) ≡ outcome (bytes_read (access f s a t) ws) (result_of (access f s a t))
words_answer f p s a t ws e =
    let same : access f s a t ≡ flat_map (steps_of f) (plan f s a t) = access_is_planned f s a t in
    let h : Told f p (plan f s a t) ws = all_told f p (plan f s a t) ws (plan_own f s a t) (e ∙ ap (λ ds. length (events_of_steps p ds)) same) in
    h.ends ∙ (λ i. outcome (bytes_read (sym same i) ws) (result_of (sym same i)))

-- what is asked makes the events of what is reached, and is told the same

same_calls : (o : Option Node) (p : PassId) (offset size n : ℕ) (big : Bool)
    → (events_of_steps p (by_region o offset size (answers 0 false)) ≡ events_of_steps p (by_region o offset size (answers n big)))
    × (result_of (by_region o offset size (answers 0 false)) ≡ result_of (by_region o offset size (answers n big)))
same_calls None p offset size n big = (refl, refl)
same_calls (Some m) p offset size n big = kind m.kind
  where
    step : (region : RegionId) (base : ℕ) (d : DeviceStep)
        → (events_of_steps p (on_device region base d (shown_part (offset % 8) size false 0) (reading 0) ∷ [])
        ≡ events_of_steps p (on_device region base d (shown_part (offset % 8) size big n) (reading n) ∷ []))
        × (result_of (on_device region base d (shown_part (offset % 8) size false 0) (reading 0) ∷ [])
        ≡ result_of (on_device region base d (shown_part (offset % 8) size big n) (reading n) ∷ []))
    step region base Error = (refl, refl)
    step region base (Step reg s) = (refl, refl)

    kind : (k : Kind) → (events_of_steps p (by_kind k m offset size (answers 0 false)) ≡ events_of_steps p (by_kind k m offset size (answers n big)))
        × (result_of (by_kind k m offset size (answers 0 false)) ≡ result_of (by_kind k m offset size (answers n big)))
    kind (RomDevice device) = step m.id (data_words m.size) (step_of device offset size None)
    kind (Io device) = step m.id 0 (step_of device offset size None)
    kind _ = (refl, refl)

module _ (f : Forest) (p : PassId) where
  abbrev events_for : List Reached → List Event
  events_for xs = events_of_steps p (flat_map (steps_of f) xs)

  -- one that is asked for another
  pub record IsFor (x z : Reached) : Type 0 where
    pub made : events_of_steps p (steps_of f x) ≡ events_of_steps p (steps_of f z)
    pub told : (ws : List ℕ) → word_reply f x ws ≡ word_reply f z ws

  itself : (x : Reached) → IsFor x x
  itself x = record { made = refl; told = λ ws. refl }

  for_call : (region : RegionId) (offset size n : ℕ) (big : Bool) → IsFor (callback region offset size (answers 0 false)) (callback region offset size (answers n big))
  for_call region offset size n big =
      let t = same_calls (node_of f.nodes region) p offset size n big in record {
        made = t.0;
        told = λ ws. (λ i. of_device (number_told (callback region offset size (answers n big)) ws) (t.1 i));
      }

  pub record SameWords (xs zs : List Reached) : Type 0 where
    pub made : events_for xs ≡ events_for zs
    pub told : (ws : List ℕ) → word_replies f p xs ws ≡ word_replies f p zs ws

  events_then : (x : Reached) (xs : List Reached) → events_for (x ∷ xs) ≡ events_of_steps p (steps_of f x) ++ events_for xs
  events_then x xs = filter_map-append (event_of p) (steps_of f x) (flat_map (steps_of f) xs)

  both_then : (x z : Reached) (xs zs : List Reached) → IsFor x z → SameWords xs zs
      → ((ws : List ℕ) → word_replies f p (x ∷ xs) ws ≡ word_reply f x (take (words_told f p x) ws) ∷ word_replies f p xs (drop (words_told f p x) ws))
      → ((ws : List ℕ) → word_replies f p (z ∷ zs) ws ≡ word_reply f z (take (words_told f p z) ws) ∷ word_replies f p zs (drop (words_told f p z) ws))
      → SameWords (x ∷ xs) (z ∷ zs)
  both_then x z xs zs one rest first second =
      let count : words_told f p x ≡ words_told f p z = ap (λ es. length es) one.made in record {
        made = events_then x xs ∙ (λ i. one.made i ++ rest.made i) ∙ sym (events_then z zs);
        told = λ ws. first ws ∙ (λ i. one.told (take (count i) ws) i ∷ rest.told (drop (count i) ws) i) ∙ sym (second ws);
      }

  same_words : (xs : List Reached) → SameWords (map as_reached (asked xs)) xs
  same_words [] = record { made = refl; told = λ ws. refl }
  same_words (nothing n result ∷ xs) = let rest = same_words xs in record { made = rest.made; told = rest.told }
  same_words (memory region offset (reading n) ∷ xs) = both_then (memory region offset (reading n)) (memory region offset (reading n))
      (map as_reached (asked xs)) xs (itself (memory region offset (reading n))) (same_words xs) (λ ws. refl) (λ ws. refl)
  same_words (memory region offset (writing bs) ∷ xs) = both_then (memory region offset (writing bs)) (memory region offset (writing bs))
      (map as_reached (asked xs)) xs (itself (memory region offset (writing bs))) (same_words xs) (λ ws. refl) (λ ws. refl)
  same_words (callback region offset size (answers n big) ∷ xs) = both_then (callback region offset size (answers 0 false))
      (callback region offset size (answers n big)) (map as_reached (asked xs)) xs (for_call region offset size n big) (same_words xs)
      (λ ws. refl) (λ ws. refl)
  same_words (callback region offset size (takes value) ∷ xs) = both_then (callback region offset size (takes value)) (callback region offset size (takes value))
      (map as_reached (asked xs)) xs (itself (callback region offset size (takes value))) (same_words xs) (λ ws. refl) (λ ws. refl)
  same_words (notifier number ∷ xs) = both_then (notifier number) (notifier number) (map as_reached (asked xs)) xs (itself (notifier number)) (same_words xs)
      (λ ws. refl) (λ ws. refl)
  same_words (mark region client page ∷ xs) = both_then (mark region client page) (mark region client page) (map as_reached (asked xs)) xs
      (itself (mark region client page)) (same_words xs) (λ ws. refl) (λ ws. refl)

-- a hand that was asked what the plan reaches has done the defined access
pub reached_by_words : {S : Type 0} (makes : Makes S) (p : PassId) (f : Forest) (s : SpaceId) (a : ℕ) (t : Transfer) (x y : S) (end : Outcome)
    → HasReached (AsksWords makes p f) x (plan f s a t) end y → HasDone makes p x (access f s a t) end.bytes y × (end.result ≡ result_of (access f s a t))
reached_by_words makes p f s a t x y end h =
    let xs : List Reached = plan f s a t in
    let k = h.made in
    let ws : List ℕ = k.words in
    let same = same_words f p xs in
    let planned : access f s a t ≡ flat_map (steps_of f) xs = access_is_planned f s a t in
    let events : events_of_steps p (flat_map (steps_of f) (map as_reached (asked xs))) ≡ events_of_steps p (access f s a t) =
    same.made ∙ sym (ap (events_of_steps p) planned) in
    let many : length ws ≡ length (events_of_steps p (access f s a t)) = k.each ∙ ap (λ es. length es) events in
    let all = words_answer f p s a t ws many in
    let ends : end ≡ outcome (bytes_read (access f s a t) ws) (result_of (access f s a t)) =
    h.told ∙ ap (outcome_of xs) (k.told ∙ same.told ws) ∙ all in (
      record { replies = ws; made = subst (λ es. makes x es ws y) events k.made; each = many; read = ap (λ (o : Outcome). o.bytes) ends },
      ap (λ (o : Outcome). o.result) ends,
    )

abbrev pub event_of_word : PassId → RegionId → ℕ → WordStep → Event
event_of_word p region word s = events.Word (hands.Pass p) (cell region word) s

-- memory that a hand has read, and a callback that it has made, as what it was asked
pub asked_memory : {S : Type 0} (makes : Makes S) (p : PassId) (f : Forest) (x y : S) (region : RegionId) (offset n : ℕ) (out : List ℕ)
    → HasDone makes p x (on_words region offset (reading n)) out y → AsksWords makes p f x (reads region offset n ∷ []) (of_memory out ∷ []) y
asked_memory makes p f x y region offset n out h =
    let ds : List AccessStep = on_words region offset (reading n) in
    let same : ds ++ [] ≡ ds = append-nil ds in
    let all : take (length (events_of_steps p ds)) h.replies ≡ h.replies = ap (λ m. take m h.replies) (sym h.each) ∙ take-length h.replies in record {
      words = h.replies;
      made = subst (λ d. makes x (events_of_steps p d) h.replies y) (sym same) h.made;
      each = h.each ∙ sym (ap (λ d. length (events_of_steps p d)) same);
      told = (λ i. record { bytes = (h.read ∙ ap (bytes_read ds) (sym all)) i; number = 0; result = words_read_fine region offset n i } ∷ []);
    }

pub asked_step : {S : Type 0} (makes : Makes S) (p : PassId) (f : Forest) (x y : S) (region : RegionId) (device : Device) (base offset size reg old : ℕ)
    (s : WordStep)
    → by_region (node_of f.nodes region) offset size (answers 0 false) ≡ by_register region device base offset size (answers 0 false) ∷ []
    → step_of device offset size None ≡ Step reg s
    → makes x (event_of_word p region (base + reg) s ∷ []) (old ∷ []) y
    → AsksWords makes p f x (calls region offset size None ∷ []) (of_device (reply_of offset size old) (tx false false) ∷ []) y
asked_step makes p f x y region device base offset size reg old s does is made =
    let d : AccessStep = steps (cell region (base + reg)) s (shown_part (offset % 8) size false 0) in
    let ds : by_region (node_of f.nodes region) offset size (answers 0 false) ≡ d ∷ [] =
    does ∙ ap (λ e. on_device region base e (shown_part (offset % 8) size false 0) (reading 0) ∷ []) is in
    let whole : by_region (node_of f.nodes region) offset size (answers 0 false) ++ [] ≡ d ∷ [] = append-nil _ ∙ ds in record {
      words = old ∷ [];
      made = subst (λ d. makes x (events_of_steps p d) (old ∷ []) y) (sym whole) made;
      each = sym (ap (λ d. length (events_of_steps p d)) whole);
      told = sym (λ i. word_reply_at (ds i) ∷ []);
    }
  where
    word_reply_at : List AccessStep → Reply
    word_reply_at ds = of_device (number_told (callback region offset size (answers 0 false)) (take (length (events_of_steps p ds)) (old ∷ []))) (result_of ds)

pub asked_fault : {S : Type 0} (makes : Makes S) (p : PassId) (f : Forest) (x : S) (region : RegionId) (device : Device) (base offset size : ℕ)
    → by_region (node_of f.nodes region) offset size (answers 0 false) ≡ by_register region device base offset size (answers 0 false) ∷ []
    → step_of device offset size None ≡ Error
    → makes x [] [] x → AsksWords makes p f x (calls region offset size None ∷ []) (of_device 0 (tx true false) ∷ []) x
asked_fault makes p f x region device base offset size does is made =
    let d : AccessStep = blank 0 (tx true false) in
    let ds : by_region (node_of f.nodes region) offset size (answers 0 false) ≡ d ∷ [] =
    does ∙ ap (λ e. on_device region base e (shown_part (offset % 8) size false 0) (reading 0) ∷ []) is in
    let whole : by_region (node_of f.nodes region) offset size (answers 0 false) ++ [] ≡ d ∷ [] = append-nil _ ∙ ds in record {
      words = [];
      made = subst (λ d. makes x (events_of_steps p d) [] x) (sym whole) made;
      each = sym (ap (λ d. length (events_of_steps p d)) whole);
      told = sym (λ i. word_reply_at (ds i) ∷ []);
    }
  where
    word_reply_at : List AccessStep → Reply
    word_reply_at ds = of_device (number_told (callback region offset size (answers 0 false)) (take (length (events_of_steps p ds)) [])) (result_of ds)

-- the same of writes: memory that takes bytes, and a callback
pub asked_written : {S : Type 0} (makes : Makes S) (p : PassId) (f : Forest) (x y : S) (region : RegionId) (offset : ℕ) (bs : List ℕ)
    → HasDone makes p x (on_words region offset (writing bs)) [] y → AsksWords makes p f x (writes region offset bs ∷ []) (taken ∷ []) y
asked_written makes p f x y region offset bs h =
    let ds : List AccessStep = on_words region offset (writing bs) in
    let same : ds ++ [] ≡ ds = append-nil ds in record {
      words = h.replies;
      made = subst (λ d. makes x (events_of_steps p d) h.replies y) (sym same) h.made;
      each = h.each ∙ sym (ap (λ d. length (events_of_steps p d)) same);
      told = (λ i. of_device 0 (words_taken region offset bs i) ∷ []);
    }

pub asked_call : {S : Type 0} (makes : Makes S) (p : PassId) (f : Forest) (x y : S) (region : RegionId) (device : Device)
    (base offset size value reg old : ℕ) (s : WordStep)
    → by_region (node_of f.nodes region) offset size (takes value) ≡ by_register region device base offset size (takes value) ∷ []
    → step_of device offset size (Some value) ≡ Step reg s
    → makes x (event_of_word p region (base + reg) s ∷ []) (old ∷ []) y
    → AsksWords makes p f x (calls region offset size (Some value) ∷ []) (of_device 0 (tx false false) ∷ []) y
asked_call makes p f x y region device base offset size value reg old s does is made =
    let d : AccessStep = steps (cell region (base + reg)) s nothing_shown in
    let ds : by_region (node_of f.nodes region) offset size (takes value) ≡ d ∷ [] =
    does ∙ ap (λ e. on_device region base e nothing_shown (writing []) ∷ []) is in
    let whole : by_region (node_of f.nodes region) offset size (takes value) ++ [] ≡ d ∷ [] = append-nil _ ∙ ds in record {
      words = old ∷ [];
      made = subst (λ d. makes x (events_of_steps p d) (old ∷ []) y) (sym whole) made;
      each = sym (ap (λ d. length (events_of_steps p d)) whole);
      told = sym (λ i. of_device 0 (result_of (ds i)) ∷ []);
    }

pub asked_refused : {S : Type 0} (makes : Makes S) (p : PassId) (f : Forest) (x : S) (region : RegionId) (device : Device) (base offset size value : ℕ)
    → by_region (node_of f.nodes region) offset size (takes value) ≡ by_register region device base offset size (takes value) ∷ []
    → step_of device offset size (Some value) ≡ Error
    → makes x [] [] x → AsksWords makes p f x (calls region offset size (Some value) ∷ []) (of_device 0 (tx true false) ∷ []) x
asked_refused makes p f x region device base offset size value does is made =
    let d : AccessStep = blank 0 (tx true false) in
    let ds : by_region (node_of f.nodes region) offset size (takes value) ≡ d ∷ [] =
    does ∙ ap (λ e. on_device region base e nothing_shown (writing []) ∷ []) is in
    let whole : by_region (node_of f.nodes region) offset size (takes value) ++ [] ≡ d ∷ [] = append-nil _ ∙ ds in record {
      words = [];
      made = subst (λ d. makes x (events_of_steps p d) [] x) (sym whole) made;
      each = sym (ap (λ d. length (events_of_steps p d)) whole);
      told = sym (λ i. of_device 0 (result_of (ds i)) ∷ []);
    }

-- a notifier that is set, and a page that is marked
pub asked_notifier : {S : Type 0} (makes : Makes S) (p : PassId) (f : Forest) (x y : S) (number old : ℕ)
    → makes x (events.Word (hands.Pass p) (notifier_cell number) (Or 1) ∷ []) (old ∷ []) y → AsksWords makes p f x (sets number ∷ []) (taken ∷ []) y
asked_notifier makes p f x y number old made = record { words = old ∷ []; made = made; each = refl; told = refl }

pub asked_mark : {S : Type 0} (makes : Makes S) (p : PassId) (f : Forest) (x y : S) (region : RegionId) (client : Client) (page : ℕ)
    → makes x (events.Mark p region client page ∷ []) (0 ∷ []) y → AsksWords makes p f x (marks region client page ∷ []) (taken ∷ []) y
asked_mark makes p f x y region client page made = record { words = 0 ∷ []; made = made; each = refl; told = refl }

-- a hand that takes the steps of an access takes what its plan asks
pub plan_taken : (allowed : WordStep → Type 0) (f : Forest) (xs : List Reached) → TakesAll allowed (flat_map (steps_of f) xs)
    → Every (TakesAsked allowed f) (asked xs)
plan_taken allowed f [] all = tt
plan_taken allowed f (nothing n result ∷ xs) all = plan_taken allowed f xs all.1
plan_taken allowed f (memory region offset (reading n) ∷ xs) all =
    (tt, plan_taken allowed f xs (every_split _ (on_words region offset (reading n)) (flat_map (steps_of f) xs) all).1)
plan_taken allowed f (memory region offset (writing bs) ∷ xs) all =
    let t = every_split _ (on_words region offset (writing bs)) (flat_map (steps_of f) xs) all in (t.0, plan_taken allowed f xs t.1)
plan_taken allowed f (callback region offset size (answers n big) ∷ xs) all =
    (tt, plan_taken allowed f xs (every_split _ (by_region (node_of f.nodes region) offset size (answers n big)) (flat_map (steps_of f) xs) all).1)
plan_taken allowed f (callback region offset size (takes value) ∷ xs) all =
    let t = every_split _ (by_region (node_of f.nodes region) offset size (takes value)) (flat_map (steps_of f) xs) all in (t.0, plan_taken allowed f xs t.1)
plan_taken allowed f (notifier number ∷ xs) all = (all.0, plan_taken allowed f xs all.1)
plan_taken allowed f (mark region client page ∷ xs) all = (tt, plan_taken allowed f xs all.1)
