-- What a listener is told when it joins and leaves, call by call.
use Rattle.std.proofs.Common.{◌≡◌, ℕ, zero, suc, ◌≤◌, length, take, List, [], ◌∷◌, ◌++◌, map, refl, sym, ap, ◌∙◌, arith}
use Rattle.mem_base.specs.declared.map.ids.ListenerId.{ListenerId}
use Rattle.mem_base.specs.declared.map.ioevents.Live.{Live}
use Rattle.mem_base.specs.declared.views.flat.FlatRange.{FlatRange}
use Rattle.mem_base.specs.declared.views.listening.RangeEvent.TheVariants.{Add, Delete}
use Rattle.mem_base.specs.declared.views.listening.ListenerEvent.{ListenerEvent}
use Rattle.mem_base.specs.declared.views.listening.ListenerEvent.TheVariants.{Begin, Range, EventAdd, EventDel, Commit}
use Rattle.mem_base.specs.views.Listening.{deliveries_to, joining, leaving}

deliveries_append : (id : ListenerId) (xs ys : List ListenerEvent) → deliveries_to id (xs ++ ys) ≡ deliveries_to id xs ++ deliveries_to id ys
deliveries_append id [] ys = refl
deliveries_append id (x ∷ xs) ys = ap (λ l. (id, x) ∷ l) (deliveries_append id xs ys)

deliveries_map : {A : Type 0} (id : ListenerId) (f : A → ListenerEvent) (xs : List A) → deliveries_to id (map f xs) ≡ map (λ x. (id, f x)) xs
deliveries_map id f [] = refl
deliveries_map id f (x ∷ xs) = ap (λ l. (id, f x) ∷ l) (deliveries_map id f xs)

pub joining_is : (id : ListenerId) (rs : List FlatRange) (ls : List Live) →
    (((id, Begin) ∷ map (λ r. (id, Range (Add r))) rs) ++ map (λ l. (id, EventAdd l)) ls) ++ (id, Commit) ∷ [] ≡ deliveries_to id (joining rs ls)
joining_is id rs ls =
    sym (deliveries_append id (Begin ∷ map (λ r. Range (Add r)) rs ++ map (λ l. EventAdd l) ls) (Commit ∷ [])
    ∙ ap (λ x. x ++ (id, Commit) ∷ []) (deliveries_append id (Begin ∷ map (λ r. Range (Add r)) rs) (map (λ l. EventAdd l) ls)
    ∙ ap (λ x. ((id, Begin) ∷ x) ++ deliveries_to id (map (λ l. EventAdd l) ls)) (deliveries_map id (λ r. Range (Add r)) rs)
    ∙ ap (λ x. ((id, Begin) ∷ map (λ r. (id, Range (Add r))) rs) ++ x) (deliveries_map id (λ l. EventAdd l) ls)))

pub leaving_is : (id : ListenerId) (rs : List FlatRange) (ls : List Live) →
    (((id, Begin) ∷ map (λ l. (id, EventDel l)) ls) ++ map (λ r. (id, Range (Delete r))) rs) ++ (id, Commit) ∷ [] ≡ deliveries_to id (leaving rs ls)
leaving_is id rs ls =
    sym (deliveries_append id (Begin ∷ map (λ l. EventDel l) ls ++ map (λ r. Range (Delete r)) rs) (Commit ∷ [])
    ∙ ap (λ x. x ++ (id, Commit) ∷ []) (deliveries_append id (Begin ∷ map (λ l. EventDel l) ls) (map (λ r. Range (Delete r)) rs)
    ∙ ap (λ x. ((id, Begin) ∷ x) ++ deliveries_to id (map (λ r. Range (Delete r)) rs)) (deliveries_map id (λ l. EventDel l) ls)
    ∙ ap (λ x. ((id, Begin) ∷ map (λ l. (id, EventDel l)) ls) ++ x) (deliveries_map id (λ r. Range (Delete r)) rs)))

-- all of a list, where as many are taken as there are
pub taken_whole : {A : Type 0} (xs : List A) (n : ℕ) → length xs ≤ n → take n xs ≡ xs
taken_whole [] zero l = refl
taken_whole [] (suc n) l = refl
taken_whole (x ∷ xs) zero l = absurd (omega arith)
taken_whole (x ∷ xs) (suc n) l = ap (λ ys. x ∷ ys) (taken_whole xs n (omega arith))
