-- What two listeners of one space get of the calls of a publish.
use Rattle.std.proofs.Common.{◌≡◌, inl, inr, ne_eqb, eq-eqb, Bool, true, false, List, [], ◌∷◌, ◌++◌, map, sym, refl, ap, ◌∙◌, arith}
use Rattle.std.proofs.Common.{if◌then◌else◌, ◌≤ℤ◌, ◌<ℤ◌, ℤ, int_cmp, Some}
use Rattle.std.proofs.lemmas.List.{append-nil}
use Rattle.std.proofs.lemmas.Int.{ints}
use Rattle.std.proofs.lemmas.List.Concat.{flat_map-append}
use Rattle.std.proofs.lemmas.List.Elements.{filter-append}
use Rattle.std.specs.Prelude.{filter, find, flat_map, is_some, ◌==◌, reverse}
use Rattle.std.specs.Ordering.{is_lt}
use Rattle.std.proofs.lemmas.Bool.{eqb-true, eqb-false}
use Rattle.mem_base.specs.declared.map.ids.RegionId.{RegionId}
use Rattle.mem_base.specs.declared.map.ids.SpaceId.{SpaceId}
use Rattle.mem_base.specs.declared.map.ids.ListenerId.{ListenerId}
use Rattle.mem_base.specs.declared.map.forests.Forest.{Forest}
use Rattle.mem_base.specs.declared.views.listening.Listener.{Listener}
use Rattle.mem_base.specs.declared.views.listening.Change.{Change}
use Rattle.mem_base.specs.declared.views.listening.RangeEvent.TheVariants.{Delete, Add, Keep, LogStart, LogStop}
use Rattle.mem_base.specs.declared.views.listening.ListenerEvent.{ListenerEvent}
use Rattle.mem_base.specs.declared.views.listening.ListenerEvent.TheVariants.{Begin, Range, Commit}
use Rattle.mem_base.specs.lists.Every.{Every, EveryPair}
use Rattle.mem_base.specs.map.Forest.{AreOtherSpaces}
use Rattle.mem_base.specs.map.Search.{is_space}
use Rattle.mem_base.specs.views.Listening.{Delivery, ascending, goes_down, deliver_each, calls_of, hears, deliveries_of}
use Rattle.mem_base.specs.views.Listening.{deliveries_of_changes, change_of, changes_between}
use Rattle.mem_base.proofs.EveryLaws.{weaker}
use Rattle.view_laws.specs.Priorities.{is_either, those_two, StandsBelow, told_in_turn, CallsGoByPriority}
use Rattle.view_laws.proofs.Projections.{reverse_filter, filter_swap}
use Rattle.view_laws.proofs.PriorityLaws.{ascending_filter}

filter_flat : {A B : Type 0} (q : B → Bool) (f g : A → List B) → ((x : A) → filter q (f x) ≡ g x) → (xs : List A)
    → filter q (flat_map f xs) ≡ flat_map g xs
filter_flat q f g h [] = refl
filter_flat q f g h (x ∷ xs) = filter-append q (f x) (flat_map f xs) ∙ (λ i. h x i ++ filter_flat q f g h xs i)

same_flat : {A B : Type 0} (f g : A → List B) → ((x : A) → f x ≡ g x) → (xs : List A) → flat_map f xs ≡ flat_map g xs
same_flat f g h [] = refl
same_flat f g h (x ∷ xs) = λ i. h x i ++ same_flat f g h xs i

-- the calls to some listeners are as if they alone listened

module _ (p : ListenerId → Bool) where
  abbrev chosen : List Listener → List Listener
  chosen ls = filter (λ l. p l.listener) ls

  abbrev theirs : List Delivery → List Delivery
  theirs ds = filter (λ d. p d.0) ds

  theirs_map : (e : ListenerEvent) (ls : List Listener) → theirs (map (λ l. (l.listener, e)) ls) ≡ map (λ l. (l.listener, e)) (chosen ls)
  theirs_map e [] = refl
  theirs_map e (l ∷ ls) = go (p l.listener) (theirs_map e ls)
    where
      go : (b : Bool) → theirs (map (λ l. (l.listener, e)) ls) ≡ map (λ l. (l.listener, e)) (chosen ls)
          → (if b then (l.listener, e) ∷ theirs (map (λ l. (l.listener, e)) ls) else theirs (map (λ l. (l.listener, e)) ls))
          ≡ map (λ l. (l.listener, e)) (if b then l ∷ chosen ls else chosen ls)
      go true rest = ap (λ (ds : List Delivery). (l.listener, e) ∷ ds) rest
      go false rest = rest

  theirs_each : (ls : List Listener) (e : ListenerEvent) → theirs (deliver_each ls e) ≡ deliver_each (chosen ls) e
  theirs_each ls e = theirs_map e (if goes_down e then reverse ls else ls) ∙ ap (map (λ (l : Listener). (l.listener, e))) (go (goes_down e))
    where
      go : (b : Bool) → chosen (if b then reverse ls else ls) ≡ (if b then reverse (chosen ls) else chosen ls)
      go true = reverse_filter (λ l. p l.listener) ls
      go false = refl

  theirs_of : (ls : List Listener) (c : Change) → theirs (deliveries_of ls c) ≡ deliveries_of (chosen ls) c
  theirs_of ls c = filter_flat (λ d. p d.0) (deliver_each (filter (hears c.space) ls)) (deliver_each (filter (hears c.space) (chosen ls)))
      (λ e. theirs_each (filter (hears c.space) ls) e
      ∙ ap (λ (ls : List Listener). deliver_each ls e) (filter_swap (λ l. p l.listener) (hears c.space) ls)) (calls_of c)

  theirs_spaces : (ls : List Listener) (cs : List Change) → theirs (flat_map (deliveries_of ls) cs) ≡ flat_map (deliveries_of (chosen ls)) cs
  theirs_spaces ls cs = filter_flat (λ d. p d.0) (deliveries_of ls) (deliveries_of (chosen ls)) (theirs_of ls) cs

  theirs_all : (ls : List Listener) (cs : List Change) → theirs (deliveries_of_changes ls cs) ≡ deliveries_of_changes (chosen ls) cs
  theirs_all ls cs =
      filter-append (λ (d : Delivery). p d.0) (deliver_each ls Begin ++ flat_map (deliveries_of ls) cs) (deliver_each ls Commit)
      ∙ ap (λ (ds : List Delivery). ds ++ theirs (deliver_each ls Commit))
      (filter-append (λ (d : Delivery). p d.0) (deliver_each ls Begin) (flat_map (deliveries_of ls) cs))
      ∙ (λ i. (theirs_each ls Begin i ++ theirs_spaces ls cs i) ++ theirs_each ls Commit i)

-- two listeners by priority

not_after : (a b : ℤ) → a ≤ℤ b → is_lt (int_cmp b a) ≡ false
not_after a b h = grind (arith, ints)

is_before : (a b : ℤ) → a <ℤ b → is_lt (int_cmp a b) ≡ true
is_before a b h = grind (arith, ints)

in_turn : (ls : List Listener) (lower upper : Listener) → StandsBelow ls lower upper → ascending (those_two lower upper ls) ≡ lower ∷ upper ∷ []
in_turn ls lower upper (inl h) = ap ascending h.0 ∙ rw (not_after lower.priority upper.priority h.1) refl
in_turn ls lower upper (inr h) = ap ascending h.0 ∙ rw (is_before lower.priority upper.priority h.1) refl

-- one call to both
each_in_turn : (lower upper : Listener) (e : ListenerEvent) → deliver_each (lower ∷ upper ∷ []) e ≡ told_in_turn lower upper e
each_in_turn lower upper (Range (Delete r)) = refl
each_in_turn lower upper (Range (Add r)) = refl
each_in_turn lower upper (Range (Keep r)) = refl
each_in_turn lower upper (Range (LogStart r from to)) = refl
each_in_turn lower upper (Range (LogStop r from to)) = refl
each_in_turn lower upper _ = refl

pub nobody : (es : List ListenerEvent) → flat_map (deliver_each []) es ≡ []
nobody [] = refl
nobody (e ∷ es) = go (goes_down e) (nobody es)
  where
    go : (b : Bool) → flat_map (deliver_each []) es ≡ [] → map (λ (l : Listener). (l.listener, e)) (if b then reverse [] else []) ++ flat_map (deliver_each []) es ≡ []
    go true rest = rest
    go false rest = rest

module _ (lower upper : Listener) (alike : lower.space ≡ upper.space) where
  abbrev both : List Listener
  both = lower ∷ upper ∷ []

  here : (c : Change) → hears c.space lower ≡ true → deliveries_of both c ≡ flat_map (told_in_turn lower upper) (calls_of c)
  here c e =
      let other : hears c.space upper ≡ true = ap (λ (s : SpaceId). s.0 == c.space.0) (sym alike) ∙ e in
      let all : filter (hears c.space) both ≡ both = rw (e, other) refl in
      ap (λ (ls : List Listener). flat_map (deliver_each ls) (calls_of c)) all
      ∙ same_flat (deliver_each both) (told_in_turn lower upper) (each_in_turn lower upper) (calls_of c)

  elsewhere : (c : Change) → hears c.space lower ≡ false → deliveries_of both c ≡ []
  elsewhere c e =
      let other : hears c.space upper ≡ false = ap (λ (s : SpaceId). s.0 == c.space.0) (sym alike) ∙ e in
      let none : filter (hears c.space) both ≡ [] = rw (e, other) refl in
      ap (λ (ls : List Listener). flat_map (deliver_each ls) (calls_of c)) none ∙ nobody (calls_of c)

  all_elsewhere : (old new : Forest) (ps : List (SpaceId × RegionId)) → Every (λ q. hears q.0 lower ≡ false) ps
      → flat_map (deliveries_of both) (map (λ q. change_of old new q.0) ps) ≡ []
  all_elsewhere old new [] h = refl
  all_elsewhere old new (q ∷ ps) h = λ i. elsewhere (change_of old new q.0) h.0 i ++ all_elsewhere old new ps h.1 i

  own_space : (old new : Forest) (ps : List (SpaceId × RegionId)) → EveryPair AreOtherSpaces ps → is_some (find (is_space lower.space) ps) ≡ true
      → flat_map (deliveries_of both) (map (λ q. change_of old new q.0) ps)
      ≡ flat_map (told_in_turn lower upper) (calls_of (change_of old new lower.space))
  own_space old new [] k f = absurd (grind arith)
  own_space old new (q ∷ ps) k f = go (q.0.0 == lower.space.0) refl f (own_space old new ps k.1)
    where
      go : (b : Bool) → (q.0.0 == lower.space.0) ≡ b → is_some (if b then Some q else find (is_space lower.space) ps) ≡ true
          → (is_some (find (is_space lower.space) ps) ≡ true → flat_map (deliveries_of both) (map (λ q. change_of old new q.0) ps)
          ≡ flat_map (told_in_turn lower upper) (calls_of (change_of old new lower.space)))
          → flat_map (deliveries_of both) (map (λ q. change_of old new q.0) (q ∷ ps))
          ≡ flat_map (told_in_turn lower upper) (calls_of (change_of old new lower.space))
      go true e f rest =
          let same : q.0.0 ≡ lower.space.0 = eqb-true _ _ e in
          let space : q.0 ≡ lower.space = (λ i. record { 0 = same i }) in
          let others : Every (λ r. hears r.0 lower ≡ false) ps = weaker (AreOtherSpaces q) (λ r. hears r.0 lower ≡ false)
          (λ r ne. ne_eqb lower.space.0 r.0.0 (λ z. ne (same ∙ z))) ps k.0 in
          (λ i. here (change_of old new q.0) (eq-eqb lower.space.0 q.0.0 (sym same)) i ++ all_elsewhere old new ps others i)
          ∙ append-nil (flat_map (told_in_turn lower upper) (calls_of (change_of old new q.0)))
          ∙ ap (λ (s : SpaceId). flat_map (told_in_turn lower upper) (calls_of (change_of old new s))) space
      go false e f rest =
          (λ i. elsewhere (change_of old new q.0) (ne_eqb lower.space.0 q.0.0 (λ z. eqb-false _ _ e (sym z))) i
          ++ flat_map (deliveries_of both) (map (λ q. change_of old new q.0) ps))
          ∙ rest f

  all_in_turn : (old new : Forest) → EveryPair AreOtherSpaces new.spaces → is_some (find (is_space lower.space) new.spaces) ≡ true
      → deliveries_of_changes both (changes_between old new)
      ≡ flat_map (told_in_turn lower upper) (Begin ∷ calls_of (change_of old new lower.space) ++ Commit ∷ [])
  all_in_turn old new k f =
      let told = told_in_turn lower upper in
      let mine = calls_of (change_of old new lower.space) in
      (λ i. (each_in_turn lower upper Begin i ++ own_space old new new.spaces k f i) ++ each_in_turn lower upper Commit i)
      ∙ sym (flat_map-append told (Begin ∷ mine) (Commit ∷ []))

pub two_hear : CallsGoByPriority
two_hear ls lower upper old new below alike k f =
    theirs_all (is_either lower upper) (ascending ls) (changes_between old new)
    ∙ ap (λ (ls : List Listener). deliveries_of_changes ls (changes_between old new))
    (ascending_filter (λ l. is_either lower upper l.listener) ls ∙ in_turn ls lower upper below)
    ∙ all_in_turn lower upper alike old new k f
