-- What one listener gets of the calls of a publish.
use Rattle.std.proofs.Common.{◌≡◌, ne_eqb, eq-eqb, drop, Bool, true, false, List, [], ◌∷◌, ◌++◌, map, reverse, sym, refl, ap, ◌∙◌, arith}
use Rattle.std.proofs.Common.{if◌then◌else◌, Option, Some, None}
use Rattle.std.proofs.lemmas.List.{append-nil}
use Rattle.std.proofs.lemmas.List.Elements.{filter-append}
use Rattle.std.specs.Prelude.{filter, find, flat_map, is_some, ◌==◌}
use Rattle.std.specs.List.{fold}
use Rattle.std.specs.declared.cmp.Ordering.{Ordering}
use Rattle.std.specs.Ordering.{is_lt}
use Rattle.std.proofs.lemmas.Bool.{eqb-true, eqb-false}
use mathlib.Core.List.{reverse-cons}
use Rattle.mem_base.specs.declared.map.ids.RegionId.{RegionId}
use Rattle.mem_base.specs.declared.map.ids.SpaceId.{SpaceId}
use Rattle.mem_base.specs.declared.map.ids.ListenerId.{ListenerId}
use Rattle.mem_base.specs.declared.map.forests.Forest.{Forest}
use Rattle.mem_base.specs.declared.views.listening.Listener.{Listener}
use Rattle.mem_base.specs.declared.views.listening.Change.{Change}
use Rattle.mem_base.specs.declared.views.listening.ListenerEvent.{ListenerEvent}
use Rattle.mem_base.specs.declared.views.listening.ListenerEvent.TheVariants.{Begin, Commit}
use Rattle.mem_base.specs.lists.Every.{Every, EveryPair}
use Rattle.mem_base.specs.map.Forest.{AreOtherSpaces}
use Rattle.mem_base.specs.map.Search.{is_space}
use Rattle.mem_base.specs.lists.Sorting.{put_by}
use Rattle.mem_base.specs.views.Listening.{Delivery, is_listener, deliveries_to, priority_order, ascending, goes_down}
use Rattle.mem_base.specs.views.Listening.{deliver_each, calls_of, hears, deliveries_of, deliveries_of_changes, change_of, changes_between}
use Rattle.mem_base.specs.views.Listening.{calls_to}
use Rattle.mem_base.proofs.EveryLaws.{weaker}

-- one list of calls after another
pub calls_both : (id : ListenerId) (xs ys : List Delivery) → calls_to id (xs ++ ys) ≡ calls_to id xs ++ calls_to id ys
calls_both id [] ys = refl
calls_both id (x ∷ xs) ys = go (x.0.0 == id.0) (calls_both id xs ys)
  where
    go : (b : Bool) → calls_to id (xs ++ ys) ≡ calls_to id xs ++ calls_to id ys
        → (if b then x.1 ∷ calls_to id (xs ++ ys) else calls_to id (xs ++ ys)) ≡ (if b then x.1 ∷ calls_to id xs else calls_to id xs) ++ calls_to id ys
    go true rest = ap (λ (es : List ListenerEvent). x.1 ∷ es) rest
    go false rest = rest

-- calls to one listener alone
pub calls_mine : (id l : ListenerId) (es : List ListenerEvent) → (l.0 == id.0) ≡ true → calls_to id (deliveries_to l es) ≡ es
calls_mine id l [] e = refl
calls_mine id l (x ∷ es) e = rw e (ap (λ (zs : List ListenerEvent). x ∷ zs) (calls_mine id l es e))

pub calls_others : (id l : ListenerId) (es : List ListenerEvent) → (l.0 == id.0) ≡ false → calls_to id (deliveries_to l es) ≡ []
calls_others id l [] e = refl
calls_others id l (x ∷ es) e = rw e (calls_others id l es e)

-- an element, or none, as a list
abbrev pub one : {A : Type 0} → Option A → List A
one None = []
one (Some x) = x ∷ []

-- of these at most one passes the test, and it is this one
abbrev pub AtMost : {A : Type 0} → (A → Bool) → List A → Option A → Type 0
AtMost test xs o = filter test xs ≡ one o

pub reverse_filter : {A : Type 0} (test : A → Bool) (xs : List A) → filter test (reverse xs) ≡ reverse (filter test xs)
reverse_filter test [] = refl
reverse_filter test (x ∷ xs) = ap (filter test) (reverse-cons x xs) ∙ filter-append test (reverse xs) (x ∷ []) ∙ go (test x) (reverse_filter test xs)
  where
    go : (b : Bool) → filter test (reverse xs) ≡ reverse (filter test xs) → filter test (reverse xs) ++ (if b then x ∷ [] else []) ≡ reverse
        (if b then x ∷ filter test xs else filter test xs)
    go true rest = ap (λ zs. zs ++ x ∷ []) rest ∙ sym (reverse-cons x (filter test xs))
    go false rest = append-nil (filter test (reverse xs)) ∙ rest

at_most_reversed : {A : Type 0} (test : A → Bool) (xs : List A) (o : Option A) → AtMost test xs o → AtMost test (reverse xs) o
at_most_reversed test xs o h = reverse_filter test xs ∙ ap reverse h ∙ go o
  where
    go : {A : Type 0} (o : Option A) → reverse (one o) ≡ one o
    go None = refl
    go (Some x) = refl

-- one more in order
put_passed : {A : Type 0} (R : A → A → Ordering) (test : A → Bool) (x : A) (xs : List A) → test x ≡ false → filter test (put_by R x xs) ≡ filter test xs
put_passed R test x [] e = rw e refl
put_passed R test x (y ∷ ys) e = go (is_lt (R x y)) (test y) (put_passed R test x ys e)
  where
    go : (b c : Bool) → filter test (put_by R x ys) ≡ filter test ys → filter test (if b then x ∷ y ∷ ys else y ∷ put_by R x ys) ≡ filter test (y ∷ ys)
    go true c rest = rw e refl
    go false c rest = at (test y)
      where
        at : (d : Bool) → (if d then y ∷ filter test (put_by R x ys) else filter test (put_by R x ys)) ≡ (if d then y ∷ filter test ys else filter test ys)
        at true = ap (λ zs. y ∷ zs) rest
        at false = rest

put_alone : {A : Type 0} (R : A → A → Ordering) (test : A → Bool) (x : A) (xs : List A) → test x ≡ true → filter test xs ≡ []
    → filter test (put_by R x xs) ≡ x ∷ []
put_alone {A = A} R test x [] e h = rw e refl
put_alone {A = A} R test x (y ∷ ys) e h = go (is_lt (R x y)) (test y) refl h (put_alone R test x ys e)
  where
    first : (ys : List A) → filter test ys ≡ [] → (if test x then x ∷ filter test ys else filter test ys) ≡ x ∷ []
    first ys k = rw e (ap (λ zs. x ∷ zs) k)

    not_nil : (zs : List A) → y ∷ zs ≡ [] → ⊥
    not_nil zs k = cc

    go : (b c : Bool) → test y ≡ c → (if c then y ∷ filter test ys else filter test ys) ≡ []
        → (filter test ys ≡ [] → filter test (put_by R x ys) ≡ x ∷ []) → filter test (if b then x ∷ y ∷ ys else y ∷ put_by R x ys) ≡ x ∷ []
    go b true t k rest = absurd (not_nil (filter test ys) k)
    go true false t k rest = first (y ∷ ys) (rw t k)
    go false false t k rest = rw t (rest k)

-- listeners in ascending order

abbrev in_order : List Listener → List Listener → List Listener
in_order before ls = fold (λ before l. put_by priority_order l before) before ls

order_keeps : (test : Listener → Bool) (before ls : List Listener) → filter test ls ≡ [] → filter test (in_order before ls) ≡ filter test before
order_keeps test before [] h = refl
order_keeps test before (l ∷ ls) h = go (test l) refl h (order_keeps test (put_by priority_order l before) ls)
  where
    not_nil : (zs : List Listener) → l ∷ zs ≡ [] → ⊥
    not_nil zs k = cc

    go : (b : Bool) → test l ≡ b → (if b then l ∷ filter test ls else filter test ls) ≡ []
        → (filter test ls ≡ [] → filter test (in_order (put_by priority_order l before) ls) ≡ filter test (put_by priority_order l before))
        → filter test (in_order (put_by priority_order l before) ls) ≡ filter test before
    go true e k rest = absurd (not_nil (filter test ls) k)
    go false e k rest = rest k ∙ put_passed priority_order test l before e

order_at_most : (test : Listener → Bool) (before ls : List Listener) (o : Option Listener) → filter test before ≡ [] → AtMost test ls o
    → AtMost test (in_order before ls) o
order_at_most test before [] o n h = n ∙ h
order_at_most test before (l ∷ ls) o n h = go (test l) refl h (λ m. order_at_most test (put_by priority_order l before) ls o m)
  where
    alone : (o : Option Listener) (zs : List Listener) → l ∷ zs ≡ one o → (zs ≡ []) × (l ∷ [] ≡ one o)
    alone None zs k = absurd (let f : l ∷ zs ≡ [] = k in cc)
    alone (Some x) zs k = let nil : zs ≡ [] = ap (drop 1) k in (nil, ap (λ ys. l ∷ ys) (sym nil) ∙ k)

    go : (b : Bool) → test l ≡ b → (if b then l ∷ filter test ls else filter test ls) ≡ one o
        → (filter test (put_by priority_order l before) ≡ [] → filter test ls ≡ one o → filter test (in_order (put_by priority_order l before) ls) ≡ one o)
        → filter test (in_order (put_by priority_order l before) ls) ≡ one o
    go true e k rest = let a = alone o (filter test ls) k in order_keeps test (put_by priority_order l before) ls a.0
        ∙ put_alone priority_order test l before e n ∙ a.1
    go false e k rest = rest (put_passed priority_order test l before e ∙ n) k

pub ascending_at_most : (test : Listener → Bool) (ls : List Listener) (o : Option Listener) → AtMost test ls o → AtMost test (ascending ls) o
ascending_at_most test ls o h = order_at_most test [] ls o refl h

-- one call to each

abbrev pub if_there : Option Listener → List ListenerEvent → List ListenerEvent
if_there None es = []
if_there (Some l) es = es

calls_map : (id : ListenerId) (e : ListenerEvent) (ls : List Listener) → calls_to id (map (λ l. (l.listener, e)) ls) ≡ map (λ l. e) (filter (is_listener id) ls)
calls_map id e [] = refl
calls_map id e (l ∷ ls) = go (l.listener.0 == id.0) (calls_map id e ls)
  where
    go : (b : Bool) → calls_to id (map (λ l. (l.listener, e)) ls) ≡ map (λ l. e) (filter (is_listener id) ls)
        → (if b then e ∷ calls_to id (map (λ l. (l.listener, e)) ls) else calls_to id (map (λ l. (l.listener, e)) ls)) ≡ map (λ l. e)
        (if b then l ∷ filter (is_listener id) ls else filter (is_listener id) ls)
    go true rest = ap (λ (es : List ListenerEvent). e ∷ es) rest
    go false rest = rest

each_one : (id : ListenerId) (ls : List Listener) (o : Option Listener) (e : ListenerEvent) → AtMost (is_listener id) ls o
    → calls_to id (deliver_each ls e) ≡ if_there o (e ∷ [])
each_one id ls o e h = calls_map id e (if goes_down e then reverse ls else ls) ∙ ap (map (λ (l : Listener). e)) (go (goes_down e)) ∙ at o
  where
    go : (b : Bool) → filter (is_listener id) (if b then reverse ls else ls) ≡ one o
    go true = at_most_reversed (is_listener id) ls o h
    go false = h

    at : (o : Option Listener) → map (λ (l : Listener). e) (one o) ≡ if_there o (e ∷ [])
    at None = refl
    at (Some l) = refl

calls_each : (id : ListenerId) (ls : List Listener) (o : Option Listener) (es : List ListenerEvent) → AtMost (is_listener id) ls o
    → calls_to id (flat_map (deliver_each ls) es) ≡ if_there o es
calls_each id ls o [] h = go o
  where
    go : (o : Option Listener) → [] ≡ if_there o []
    go None = refl
    go (Some l) = refl
calls_each id ls o (e ∷ es) h = calls_both id (deliver_each ls e) (flat_map (deliver_each ls) es)
    ∙ (λ i. each_one id ls o e h i ++ calls_each id ls o es h i) ∙ go o
  where
    go : (o : Option Listener) → if_there o (e ∷ []) ++ if_there o es ≡ if_there o (e ∷ es)
    go None = refl
    go (Some l) = refl

-- the calls of one space

abbrev kept_by : (Listener → Bool) → Option Listener → Option Listener
kept_by test None = None
kept_by test (Some l) = if test l then Some l else None

pub filter_swap : {A : Type 0} (p q : A → Bool) (xs : List A) → filter p (filter q xs) ≡ filter q (filter p xs)
filter_swap p q [] = refl
filter_swap p q (x ∷ xs) = go (p x) refl (q x) refl (filter_swap p q xs)
  where
    go : (b : Bool) → p x ≡ b → (c : Bool) → q x ≡ c → filter p (filter q xs) ≡ filter q (filter p xs)
        → filter p (if c then x ∷ filter q xs else filter q xs) ≡ filter q (if b then x ∷ filter p xs else filter p xs)
    go true e true k rest = rw (e, k) (ap (λ zs. x ∷ zs) rest)
    go true e false k rest = rw k rest
    go false e true k rest = rw e rest
    go false e false k rest = rest

kept_at_most : (test q : Listener → Bool) (ls : List Listener) (o : Option Listener) → AtMost test ls o → AtMost test (filter q ls) (kept_by q o)
kept_at_most test q ls o h = filter_swap test q ls ∙ ap (filter q) h ∙ go o
  where
    go : (o : Option Listener) → filter q (one o) ≡ one (kept_by q o)
    go None = refl
    go (Some l) = at (q l)
      where
        at : (b : Bool) → (if b then l ∷ [] else []) ≡ one (if b then Some l else None)
        at true = refl
        at false = refl

calls_of_space : (id : ListenerId) (ls : List Listener) (o : Option Listener) (c : Change) → AtMost (is_listener id) ls o
    → calls_to id (deliveries_of ls c) ≡ if_there (kept_by (hears c.space) o) (calls_of c)
calls_of_space id ls o c h = calls_each id (filter (hears c.space) ls) (kept_by (hears c.space) o) (calls_of c)
    (kept_at_most (is_listener id) (hears c.space) ls o h)

-- the calls of all spaces

abbrev Spaces : Type 0
Spaces = List (SpaceId × RegionId)

abbrev changes_of : Forest → Forest → Spaces → List Change
changes_of old new ps = map (λ p. change_of old new p.0) ps

none_there : (id : ListenerId) (ls : List Listener) (cs : List Change) → AtMost (is_listener id) ls None → calls_to id (flat_map (deliveries_of ls) cs) ≡ []
none_there id ls [] h = refl
none_there id ls (c ∷ cs) h = calls_both id (deliveries_of ls c) (flat_map (deliveries_of ls) cs)
    ∙ (λ i. calls_of_space id ls None c h i ++ none_there id ls cs h i)

-- the calls of a space in which a listener is not, and in which it is
elsewhere : (id : ListenerId) (ls : List Listener) (l : Listener) (c : Change) → AtMost (is_listener id) ls (Some l) → hears c.space l ≡ false
    → calls_to id (deliveries_of ls c) ≡ []
elsewhere id ls l c h e = calls_of_space id ls (Some l) c h ∙ ap (λ (b : Bool). if_there (if b then Some l else None) (calls_of c)) e

here : (id : ListenerId) (ls : List Listener) (l : Listener) (c : Change) → AtMost (is_listener id) ls (Some l) → hears c.space l ≡ true
    → calls_to id (deliveries_of ls c) ≡ calls_of c
here id ls l c h e = calls_of_space id ls (Some l) c h ∙ ap (λ (b : Bool). if_there (if b then Some l else None) (calls_of c)) e

all_elsewhere : (id : ListenerId) (ls : List Listener) (l : Listener) (old new : Forest) (ps : Spaces) → AtMost (is_listener id) ls (Some l)
    → Every (λ p. hears p.0 l ≡ false) ps
    → calls_to id (flat_map (deliveries_of ls) (changes_of old new ps)) ≡ []
all_elsewhere id ls l old new [] h e = refl
all_elsewhere id ls l old new (p ∷ ps) h e =
    calls_both id (deliveries_of ls (change_of old new p.0)) (flat_map (deliveries_of ls) (changes_of old new ps))
    ∙ (λ i. elsewhere id ls l (change_of old new p.0) h e.0 i ++ all_elsewhere id ls l old new ps h e.1 i)

-- a listener hears of its own space alone, which is among these spaces once
own_space : (id : ListenerId) (ls : List Listener) (l : Listener) (old new : Forest) (ps : Spaces) → AtMost (is_listener id) ls (Some l)
    → EveryPair AreOtherSpaces ps
    → is_some (find (is_space l.space) ps) ≡ true → calls_to id (flat_map (deliveries_of ls) (changes_of old new ps)) ≡ calls_of (change_of old new l.space)
own_space id ls l old new [] h k f = absurd (grind arith)
own_space id ls l old new (p ∷ ps) h k f = go (p.0.0 == l.space.0) refl f (own_space id ls l old new ps h k.1)
  where
    go : (b : Bool) → (p.0.0 == l.space.0) ≡ b → is_some (if b then Some p else find (is_space l.space) ps) ≡ true
        → (is_some (find (is_space l.space) ps) ≡ true → calls_to id (flat_map (deliveries_of ls) (changes_of old new ps)) ≡ calls_of
        (change_of old new l.space))
        → calls_to id (flat_map (deliveries_of ls) (changes_of old new (p ∷ ps))) ≡ calls_of (change_of old new l.space)
    go true e f rest =
        let same : p.0.0 ≡ l.space.0 = eqb-true _ _ e in
        let space : p.0 ≡ l.space = (λ i. record { 0 = same i }) in
        let others : Every (λ q. hears q.0 l ≡ false) ps = weaker (AreOtherSpaces p) (λ q. hears q.0 l ≡ false)
        (λ q ne. ne_eqb l.space.0 q.0.0 (λ z. ne (same ∙ z))) ps k.0 in
        calls_both id (deliveries_of ls (change_of old new p.0)) (flat_map (deliveries_of ls) (changes_of old new ps))
        ∙ (λ i. here id ls l (change_of old new p.0) h (eq-eqb l.space.0 p.0.0 (sym same)) i ++ all_elsewhere id ls l old new ps h others i)
        ∙ append-nil (calls_of (change_of old new p.0))
        ∙ ap (λ (s : SpaceId). calls_of (change_of old new s)) space
    go false e f rest =
        calls_both id (deliveries_of ls (change_of old new p.0)) (flat_map (deliveries_of ls) (changes_of old new ps))
        ∙ (λ i. elsewhere id ls l (change_of old new p.0) h (ne_eqb l.space.0 p.0.0 (λ z. eqb-false _ _ e (sym z))) i ++ calls_to id
        (flat_map (deliveries_of ls) (changes_of old new ps)))
        ∙ rest f

-- all that a publish tells one id

abbrev pub told_change : Forest → Forest → Option Listener → List ListenerEvent
told_change old new None = []
told_change old new (Some l) = Begin ∷ calls_of (change_of old new l.space) ++ Commit ∷ []

abbrev pub IsKnownTo : Forest → Option Listener → Type 0
IsKnownTo f None = Unit {0}
IsKnownTo f (Some l) = is_some (find (is_space l.space) f.spaces) ≡ true

pub publish_tells : (id : ListenerId) (ls : List Listener) (o : Option Listener) (old new : Forest) → AtMost (is_listener id) ls o
    → EveryPair AreOtherSpaces new.spaces → IsKnownTo new o
    → calls_to id (deliveries_of_changes (ascending ls) (changes_between old new)) ≡ told_change old new o
publish_tells id ls o old new h k known =
    let up = ascending ls in let m = ascending_at_most (is_listener id) ls o h in let cs = changes_between old new in
    calls_both id (deliver_each up Begin ++ flat_map (deliveries_of up) cs) (deliver_each up Commit)
    ∙ ap (λ (es : List ListenerEvent). es ++ calls_to id (deliver_each up Commit)) (calls_both id (deliver_each up Begin) (flat_map (deliveries_of up) cs))
    ∙ go o m known
  where
    go : (o : Option Listener) → AtMost (is_listener id) (ascending ls) o → IsKnownTo new o
        → (calls_to id (deliver_each (ascending ls) Begin) ++ calls_to id (flat_map (deliveries_of (ascending ls)) (changes_between old new)))
        ++ calls_to id (deliver_each (ascending ls) Commit) ≡ told_change old new o
    go None m known = λ i. (each_one id (ascending ls) None Begin m i ++ none_there id (ascending ls) (changes_between old new) m i) ++ each_one id
        (ascending ls) None Commit m i
    go (Some l) m known = λ i. (each_one id (ascending ls) (Some l) Begin m i ++ own_space id (ascending ls) l old new new.spaces m k known i)
        ++ each_one id (ascending ls) (Some l) Commit m i
