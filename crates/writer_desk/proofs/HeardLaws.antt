-- What is delivered of the changes that somebody hears is what is delivered of all.
use Rattle.std.proofs.Common.{◌≡◌, Bool, true, false, List, [], ◌∷◌, ◌++◌, ◌||◌, refl, sym, ap, ◌∙◌, if◌then◌else◌}
use Rattle.std.specs.Prelude.{filter, flat_map, map, reverse}
use Rattle.std.specs.List.{list_any}
use Rattle.mem_base.specs.declared.map.ids.SpaceId.{SpaceId}
use Rattle.mem_base.specs.declared.views.listening.Change.{Change}
use Rattle.mem_base.specs.declared.views.listening.Listener.{Listener}
use Rattle.mem_base.specs.declared.views.listening.ListenerEvent.{ListenerEvent}
use Rattle.mem_base.specs.declared.views.listening.ListenerEvent.TheVariants.{Begin, Commit}
use Rattle.mem_base.specs.views.Listening.{Delivery, Listening, ascending, calls_of, delivered, deliver_each, deliveries_of, goes_down, hears}
use Rattle.transact.specs.Preparing.{heard_by, is_heard}

-- no call is made where nobody is to get one

to_nobody : (e : ListenerEvent) → deliver_each [] e ≡ []
to_nobody e = go (goes_down e)
  where
    go : (b : Bool) → map {B = Delivery} (λ l. (l.listener, e)) (if b then reverse {A = Listener} [] else []) ≡ []
    go true = refl
    go false = refl

all_to_nobody : (es : List ListenerEvent) → flat_map (deliver_each []) es ≡ []
all_to_nobody [] = refl
all_to_nobody (e ∷ es) = λ i. to_nobody e i ++ all_to_nobody es i

nobody_hears : (s : SpaceId) (ls : List Listener) → is_heard ls s ≡ false → filter (hears s) ls ≡ []
nobody_hears s [] e = refl
nobody_hears s (l ∷ ls) e = go (hears s l) e (nobody_hears s ls)
  where
    go : (b : Bool) → (b || list_any (hears s) ls) ≡ false → (list_any (hears s) ls ≡ false → filter (hears s) ls ≡ [])
        → (if b then l ∷ filter (hears s) ls else filter (hears s) ls) ≡ []
    go true e rest = cc
    go false e rest = rest e

unheard : (ls : List Listener) (c : Change) → is_heard ls c.space ≡ false → deliveries_of ls c ≡ []
unheard ls c e = ap (λ (xs : List Listener). flat_map (deliver_each xs) (calls_of c)) (nobody_hears c.space ls e) ∙ all_to_nobody (calls_of c)

heard : (ls : List Listener) (cs : List Change) → flat_map (deliveries_of ls) (heard_by ls cs) ≡ flat_map (deliveries_of ls) cs
heard ls [] = refl
heard ls (c ∷ cs) = go (is_heard ls c.space) refl (heard ls cs)
  where
    go : (b : Bool) → is_heard ls c.space ≡ b → flat_map (deliveries_of ls) (heard_by ls cs) ≡ flat_map (deliveries_of ls) cs
        → flat_map (deliveries_of ls) (if b then c ∷ heard_by ls cs else heard_by ls cs) ≡ flat_map (deliveries_of ls) (c ∷ cs)
    go true e rest = ap (λ ds. deliveries_of ls c ++ ds) rest
    go false e rest = rest ∙ ap (λ ds. ds ++ flat_map (deliveries_of ls) cs) (sym (unheard ls c e))

pub delivered_heard : (x : Listening) (cs : List Change) → delivered x (heard_by (ascending x.listeners) cs) ≡ delivered x cs
delivered_heard x cs =
    let ls = ascending x.listeners in
    ap (λ ds. record x { journal = x.journal ++ (deliver_each ls Begin ++ ds ++ deliver_each ls Commit) }) (heard ls cs)
