-- What a hand is asked by its words, and what it is asked after that, it is asked in one.
use Rattle.std.proofs.Common.{◌≡◌, ℕ, ◌+◌, ◌-◌, ◌≤◌, List, [], ◌∷◌, ◌++◌, length, take, drop, map, Some, None, refl, sym, ap, subst, ◌∙◌, arith}
use Rattle.std.specs.Prelude.{flat_map}
use Rattle.std.proofs.lemmas.List.{length-append, length-drop, take-append-le, drop-append-le, map-append}
use Rattle.std.proofs.lemmas.Grind.{flat_map-append}
use Rattle.std.proofs.lemmas.List.Elements.{filter_map-append}
use Rattle.mem_base.specs.map.PassIds.{PassId}
use Rattle.mem_base.specs.declared.map.forests.Forest.{Forest}
use Rattle.mem_base.specs.declared.access.cells.WordStep.{WordStep}
use Rattle.mem_base.specs.declared.access.cells.WordStep.TheVariants.{Or}
use Rattle.mem_base.specs.declared.machine.events.Event.{Event}
use Rattle.mem_base.specs.map.Region.{node_of}
use Rattle.mem_base.specs.access.AccessSteps.{reading, writing, AccessStep, blank, steps, marks, event_of, events_of_steps}
use Rattle.mem_base.specs.access.MemoryAccess.{on_words}
use Rattle.mem_base.specs.access.Plans.{takes, Reached, memory, callback, notifier, mark, nothing}
use Rattle.mem_base.specs.access.PlanSteps.{by_region, steps_of}
use Rattle.mem_base.proofs.EveryLaws.{weaker}
use Rattle.generation.specs.Published.{Published}
use Rattle.access_reach.specs.Asking as asking
use Rattle.access_reach.specs.Asking.{Asked, Reply}
use Rattle.access_run.specs.Runs.{Makes, TakesStep}
use Rattle.access_run.specs.WordReplies.{as_reached, steps_asked, AsksWords, TakesAsked, word_reply, words_told, word_replies}

module _ (f : Forest) (p : PassId) where
  step : (x : Reached) (xs ys : List Reached) (us vs : List ℕ) → length us ≡ length (events_of_steps p (flat_map (steps_of f) (x ∷ xs)))
      → ((us vs : List ℕ) → length us ≡ length (events_of_steps p (flat_map (steps_of f) xs))
      → word_replies f p (xs ++ ys) (us ++ vs) ≡ word_replies f p xs us ++ word_replies f p ys vs)
      → ((zs : List Reached) (ws : List ℕ) → word_replies f p (x ∷ zs) ws
      ≡ word_reply f x (take (words_told f p x) ws) ∷ word_replies f p zs (drop (words_told f p x) ws))
      → word_replies f p (x ∷ (xs ++ ys)) (us ++ vs) ≡ word_replies f p (x ∷ xs) us ++ word_replies f p ys vs
  step x xs ys us vs e rest splits =
      let c : ℕ = words_told f p x in
      let parts : length (events_of_steps p (flat_map (steps_of f) (x ∷ xs))) ≡ c + length (events_of_steps p (flat_map (steps_of f) xs)) =
      ap (λ es. length es) (filter_map-append (event_of p) (steps_of f x) (flat_map (steps_of f) xs))
      ∙ length-append (events_of_steps p (steps_of f x)) (events_of_steps p (flat_map (steps_of f) xs)) in
      let most : c ≤ length us = omega (arith, e, parts) in
      let dropped : length (drop c us) ≡ length us - c = length-drop c us in
      splits (xs ++ ys) (us ++ vs)
      ∙ (λ i. word_reply f x (take-append-le c us vs most i) ∷ word_replies f p (xs ++ ys) (drop-append-le c us vs most i))
      ∙ ap (λ rs. word_reply f x (take c us) ∷ rs) (rest (drop c us) vs (omega (arith, dropped, e, parts)))
      ∙ ap (λ rs. rs ++ word_replies f p ys vs) (sym (splits xs us))

  word_replies-append : (xs ys : List Reached) (us vs : List ℕ) → length us ≡ length (events_of_steps p (flat_map (steps_of f) xs))
      → word_replies f p (xs ++ ys) (us ++ vs) ≡ word_replies f p xs us ++ word_replies f p ys vs
  word_replies-append [] ys [] vs e = refl
  word_replies-append [] ys (u ∷ us) vs e = absurd (omega (arith, e))
  word_replies-append (nothing n result ∷ xs) ys us vs e = word_replies-append xs ys us vs e
  word_replies-append (memory region offset (reading n) ∷ xs) ys us vs e =
      step (memory region offset (reading n)) xs ys us vs e (word_replies-append xs ys) (λ zs ws. refl)
  word_replies-append (memory region offset (writing bs) ∷ xs) ys us vs e =
      step (memory region offset (writing bs)) xs ys us vs e (word_replies-append xs ys) (λ zs ws. refl)
  word_replies-append (callback region offset size r ∷ xs) ys us vs e =
      step (callback region offset size r) xs ys us vs e (word_replies-append xs ys) (λ zs ws. refl)
  word_replies-append (notifier number ∷ xs) ys us vs e = step (notifier number) xs ys us vs e (word_replies-append xs ys) (λ zs ws. refl)
  word_replies-append (mark region client page ∷ xs) ys us vs e = step (mark region client page) xs ys us vs e (word_replies-append xs ys) (λ zs ws. refl)

-- it is asked nothing at first
pub words_begin : {S : Type 0} (makes : Makes S) (p : PassId) (f : Forest) (x : S) → makes x [] [] x → AsksWords makes p f x [] [] x
words_begin makes p f x begins = record { words = []; made = begins; each = refl; told = refl }

module _ {S : Type 0} (makes : Makes S) (pass : S → PassId) (shows : S → Published)
    (goes_on : (x y z : S) (es fs : List Event) (rs qs : List ℕ) → length rs ≡ length es → makes x es rs y → makes y fs qs z → makes x (es ++ fs) (rs ++ qs) z)
    (stays : (x y : S) (es : List Event) (rs : List ℕ) → makes x es rs y → (pass y ≡ pass x) × (shows y ≡ shows x)) where
  -- and goes on
  pub words_then : (x y z : S) (es fs : List Asked) (rs qs : List Reply) → AsksWords makes (pass x) (shows x).forest x es rs y
      → AsksWords makes (pass y) (shows y).forest y fs qs z → AsksWords makes (pass x) (shows x).forest x (es ++ fs) (rs ++ qs) z
  words_then x y z es fs rs qs h later =
      let p : PassId = pass x in
      let f : Forest = (shows x).forest in
      let kept = stays x y (events_of_steps p (steps_asked f es)) h.words h.made in
      let k : AsksWords makes p f y fs qs z =
      subst (λ p. AsksWords makes p f y fs qs z) kept.0 (subst (λ (g : Published). AsksWords makes (pass y) g.forest y fs qs z) kept.1 later) in
      let us : List ℕ = h.words in
      let vs : List ℕ = k.words in
      let reached : map as_reached (es ++ fs) ≡ map as_reached es ++ map as_reached fs = map-append as_reached es fs in
      let list : steps_asked f (es ++ fs) ≡ steps_asked f es ++ steps_asked f fs =
      ap (flat_map (steps_of f)) reached ∙ flat_map-append (steps_of f) (map as_reached es) (map as_reached fs) in
      let events : events_of_steps p (steps_asked f (es ++ fs)) ≡ events_of_steps p (steps_asked f es) ++ events_of_steps p (steps_asked f fs) =
      ap (events_of_steps p) list ∙ filter_map-append (event_of p) (steps_asked f es) (steps_asked f fs) in
      let made : makes x (events_of_steps p (steps_asked f es) ++ events_of_steps p (steps_asked f fs)) (us ++ vs) z =
      goes_on x y z (events_of_steps p (steps_asked f es)) (events_of_steps p (steps_asked f fs)) us vs h.each h.made k.made in record {
        words = us ++ vs;
        made = subst (λ e. makes x e (us ++ vs) z) (sym events) made;
        each = length-append us vs ∙ (λ i. h.each i + k.each i)
            ∙ sym (length-append (events_of_steps p (steps_asked f es)) (events_of_steps p (steps_asked f fs))) ∙ sym (ap (λ es. length es) events);
        told = (λ i. h.told i ++ k.told i) ∙ sym (word_replies-append f p (map as_reached es) (map as_reached fs) us vs h.each)
            ∙ sym (ap (λ xs. word_replies f p xs (us ++ vs)) reached);
      }

module _ {S : Type 0} (makes : Makes S) (pass : S → PassId) (shows : S → Published)
    (stays : (x y : S) (es : List Event) (rs : List ℕ) → makes x es rs y → (pass y ≡ pass x) × (shows y ≡ shows x)) where
  -- it stays in its generation
  pub words_stay : (x y : S) (es : List Asked) (rs : List Reply) → AsksWords makes (pass x) (shows x).forest x es rs y → shows y ≡ shows x
  words_stay x y es rs h = (stays x y (events_of_steps (pass x) (steps_asked (shows x).forest es)) h.words h.made).1

  -- and goes on to take what it takes
  pub asked_lasts : (allowed : S → WordStep → Type 0)
      → ((x y : S) (es : List Event) (rs : List ℕ) → makes x es rs y → (step : WordStep) → allowed x step → allowed y step)
      → (x y : S) (es : List Asked) (rs : List Reply) → AsksWords makes (pass x) (shows x).forest x es rs y
      → (e : Asked) → TakesAsked (allowed x) (shows x).forest e → TakesAsked (allowed y) (shows y).forest e
  asked_lasts allowed lasts x y es rs h e t =
      subst (λ (g : Published). TakesAsked (allowed y) g.forest e) (sym (words_stay x y es rs h)) (go e t)
    where
      each : (d : AccessStep) → TakesStep (allowed x) d → TakesStep (allowed y) d
      each (blank n result) t = tt
      each (steps cell step shown) t = lasts x y (events_of_steps (pass x) (steps_asked (shows x).forest es)) h.words h.made step t
      each (marks region client page) t = tt

      go : (e : Asked) → TakesAsked (allowed x) (shows x).forest e → TakesAsked (allowed y) (shows x).forest e
      go (asking.reads region offset n) t = tt
      go (asking.writes region offset bs) t = weaker (TakesStep (allowed x)) (TakesStep (allowed y)) each (on_words region offset (writing bs)) t
      go (asking.calls region offset size None) t = tt
      go (asking.calls region offset size (Some value)) t =
          weaker (TakesStep (allowed x)) (TakesStep (allowed y)) each (by_region (node_of (shows x).forest.nodes region) offset size (takes value)) t
      go (asking.sets number) t = lasts x y (events_of_steps (pass x) (steps_asked (shows x).forest es)) h.words h.made (Or 1) t
      go (asking.marks region client page) t = tt
