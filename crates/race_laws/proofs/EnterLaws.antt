-- In a legal history each Enter tells the number of a generation that was published.
use Rattle.std.proofs.Common.{◌≡◌, ℕ, suc, ◌+◌, ◌<◌, ◌≤◌, true, List, [], ◌∷◌, ◌++◌, length, refl, sym, ap, ◌∙◌, arith}
use Rattle.std.proofs.Common.{append-nil, append_assoc, length-append, le_of_eq, zero-le}
use Rattle.mem_base.specs.declared.machine.events.Event.{Event}
use Rattle.mem_base.specs.declared.machine.events.Event.TheVariants as events
use Rattle.mem_base.specs.declared.machine.events.Carried.{Carried}
use Rattle.mem_base.specs.declared.machine.events.Carried.TheVariants.{Nothing, Edition, At}
use Rattle.mem_base.specs.declared.machine.events.HistoryEntry.{HistoryEntry}
use Rattle.mem_base.specs.lists.Every.{Every}
use Rattle.mem_base.specs.machine.Generations.{Generation, generation}
use Rattle.mem_base.specs.machine.SharedHistory.{Shared, shared_possible, shared_reply, shared_opening, after_shared_entry, IsSharedLegalFrom, IsSharedLegal}
use Rattle.mem_base.specs.machine.Actors.{first_generation, generations_published, published_from, published_with}
use Rattle.history_laws.proofs.AppendLaws.{published_append}
use Rattle.history_laws.specs.Numbers.{HasSoundNumbers}
use Rattle.history_laws.proofs.NumberLaws.{sound, sound_after}
use Rattle.race_laws.proofs.MorePublished.{EntersBelow, number_of_enter}

-- generations that are published come after those before

one_grows : (gs : List Generation) (e : Event) (c : Carried) → (more : List Generation) × (published_with gs e c ≡ gs ++ more)
one_grows gs events.Publish (Edition forest places) = (generation forest places ∷ [], refl)
one_grows gs e c = ([], sym (append-nil gs))

pub published_grows : (xs : List HistoryEntry) (gs : List Generation) → (more : List Generation) × (published_from gs xs ≡ gs ++ more)
published_grows [] gs = ([], sym (append-nil gs))
published_grows (x ∷ xs) gs =
    let one = one_grows gs x.event x.carried in
    let rest = published_grows xs (published_with gs x.event x.carried) in (
      one.0 ++ rest.0,
      rest.1 ∙ ap (λ (hs : List Generation). hs ++ rest.0) one.1 ∙ append_assoc gs one.0 rest.0,
    )

pub more_published : (xs ys : List HistoryEntry)
    → (more : List Generation) × (generations_published (xs ++ ys) ≡ generations_published xs ++ more)
more_published xs ys =
    let rest = published_grows ys (generations_published xs) in (rest.0, published_append xs ys (first_generation ∷ []) ∙ rest.1)

pub some_published : (xs : List HistoryEntry) → 0 < length (generations_published xs)
some_published xs =
    let rest = published_grows xs (first_generation ∷ []) in
    let long : length (generations_published xs) ≡ suc (length rest.0) = ap length rest.1 in omega (arith, long)

-- an Enter tells the current number

tells_current : (s : Shared) (e : Event) (c : Carried) (r : ℕ) → shared_possible s e c ≡ true → r ≡ shared_reply s e c
    → number_of_enter e r ≤ s.generations.current
tells_current s (events.Enter v) Nothing r may is = le_of_eq is
tells_current s (events.Enter v) (Edition forest places) r may is = absurd (grind arith)
tells_current s (events.Enter v) (At p) r may is = absurd (grind arith)
tells_current s (events.Look v) c r may is = zero-le
tells_current s (events.Announce v) c r may is = zero-le
tells_current s (events.Leave v) c r may is = zero-le
tells_current s (events.Sweep v) c r may is = zero-le
tells_current s (events.Place v) c r may is = zero-le
tells_current s events.Publish c r may is = zero-le
tells_current s (events.Word hand cell step) c r may is = zero-le
tells_current s (events.Mark v region client page) c r may is = zero-le
tells_current s (events.Harvest region client index) c r may is = zero-le
tells_current s (events.Fill cell) c r may is = zero-le
tells_current s (events.Config k) c r may is = zero-le
tells_current s events.Reap c r may is = zero-le

below_from : (words passes : ℕ) (xs : List HistoryEntry) (gs : List Generation) (s : Shared) → HasSoundNumbers words passes gs s
    → IsSharedLegalFrom s xs → Every (EntersBelow (length (published_from gs xs))) xs
below_from words passes [] gs s k l = tt
below_from words passes (x ∷ xs) gs s k l =
    let hs : List Generation = published_with gs x.event x.carried in
    let grown = published_grows (x ∷ xs) gs in
    let long : length (published_from gs (x ∷ xs)) ≡ length gs + length grown.0 = ap length grown.1 ∙ length-append gs grown.0 in
    let count = k.counted in
    let low = tells_current s x.event x.carried x.reply l.0 l.1 in (
      omega (arith, low, count, long),
      below_from words passes xs hs (after_shared_entry s x) (sound_after words passes gs s k x.event x.carried x.reply l.0 l.1) l.2,
    )

pub enters_below : (words passes : ℕ) (xs : List HistoryEntry) → IsSharedLegal words passes xs → Every (EntersBelow (length (generations_published xs))) xs
enters_below words passes xs l = below_from words passes xs (first_generation ∷ []) (shared_opening words passes) (sound words passes [] tt) l
