-- How many calls a publish makes.
use Rattle.std.proofs.Common.{◌≡◌, ℕ, ◌+◌, ◌*◌, Bool, true, false, List, [], ◌∷◌, ◌++◌, map, length, length-append, refl, ◌∙◌, arith, if◌then◌else◌}
use Rattle.std.specs.Prelude.{flat_map, filter, Option, Some, None, SomeIff, IfSome, reverse}
use Rattle.std.proofs.lemmas.List.{length-reverse, length-map}
use Rattle.std.specs.declared.cmp.Ordering.{Ordering}
use Rattle.mem_base.specs.declared.views.listening.Change.{Change}
use Rattle.mem_base.specs.declared.views.listening.Listener.{Listener}
use Rattle.mem_base.specs.declared.views.listening.ListenerEvent.{ListenerEvent}
use Rattle.mem_base.specs.declared.views.listening.ListenerEvent.TheVariants.{Begin, Range, Commit}
use Rattle.mem_base.specs.lists.Sorting.{sorted_by}
use Rattle.mem_base.specs.views.Listening.{switch, switch_order, switches, switched, goes_down, hears, calls_of, deliver_each}
use Rattle.mem_base.specs.views.Listening.{deliveries_of, deliveries_of_changes}
use Rattle.mem_base.proofs.SortingLaws.{length-put_by}

length_directed : (down : Bool) (ls : List Listener) → length (if down then reverse ls else ls) ≡ length ls
length_directed true ls = length-reverse ls
length_directed false ls = refl

length_each : (ls : List Listener) (e : ListenerEvent) → length (deliver_each ls e) ≡ length ls
length_each ls e = length-map (if goes_down e then reverse ls else ls) (λ l. (l.listener, e)) ∙ length_directed (goes_down e) ls

length_told : (ls : List Listener) (es : List ListenerEvent) → length (flat_map (deliver_each ls) es) ≡ length ls * length es
length_told ls [] = omega arith
length_told ls (e ∷ es) =
    let first = length_each ls e in
    let rest = length_told ls es in
    let both = length-append (deliver_each ls e) (flat_map (deliver_each ls) es) in
    grind arith

length_sorted : {K : Type 0} (R : K → K → Ordering) (xs : List K) → length (sorted_by R xs) ≡ length xs
length_sorted R [] = refl
length_sorted R (x ∷ xs) = let first = length-put_by R x (sorted_by R xs) in let rest = length_sorted R xs in omega arith

-- of one space: the steps of its walk, and its ioeventfds
pub length_calls : (c : Change) → length (calls_of c) ≡ length c.walk + (length c.lost + length c.gained)
length_calls c =
    let row = map (switch false) c.lost ++ map (switch true) c.gained in
    length-append (map (λ e. Range e) c.walk) (map switched (switches c.lost c.gained))
    ∙ (λ i. length-map c.walk (λ e. Range e) i + (length-map (switches c.lost c.gained) switched ∙ length_sorted switch_order row
    ∙ length-append (map (switch false) c.lost) (map (switch true) c.gained)
    ∙ (λ j. length-map c.lost (switch false) j + length-map c.gained (switch true) j)) i)

pub length_change : (ls : List Listener) (c : Change) → length (deliveries_of ls c) ≡ length (filter (hears c.space) ls) * length (calls_of c)
length_change ls c = length_told (filter (hears c.space) ls) (calls_of c)

pub length_publish : (ls : List Listener) (cs : List Change) → length (deliveries_of_changes ls cs) ≡ length (flat_map (deliveries_of ls) cs) + length ls * 2
length_publish ls cs =
    let begin = length_each ls Begin in
    let commit = length_each ls Commit in
    let front = length-append (deliver_each ls Begin) (flat_map (deliveries_of ls) cs) in
    let all = length-append (deliver_each ls Begin ++ flat_map (deliveries_of ls) cs) (deliver_each ls Commit) in
    omega arith

-- a sum or product that fits
pub some_value : (r : Option ℕ) (P : Type 0) (v w : ℕ) → SomeIff r P v → v ≡ w → IfSome r (λ n. n ≡ w)
some_value None P v w h e = tt
some_value (Some n) P v w h e = h.1 ∙ e
