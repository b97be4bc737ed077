-- The list of live ioeventfds holds just what is live.
use Rattle.std.proofs.Common.{◌≡◌, ℕ, zero, suc, ◌^◌, ◌<◌, true, List, [], ◌∷◌, length, sym, refl, subst, inl, inr, arith, Option, Some, None, ℤ, pos}
use Rattle.std.specs.Prelude.{◌+ℤ◌, ◌≤ℤ◌, ◌<ℤ◌, int_lt, int_le, Contains, slice_index_or}
use Rattle.std.proofs.lemmas.Int.{ints}
use Rattle.mem_base.specs.declared.map.ids.SpaceId.{SpaceId}
use Rattle.mem_base.specs.declared.map.spots.Spot.{Spot}
use Rattle.mem_base.specs.declared.map.ioevents.Live.{Live}
use Rattle.mem_base.specs.declared.map.forests.Forest.{Forest}
use Rattle.mem_base.specs.map.Search.{look}
use Rattle.mem_base.specs.views.LiveEvents.{events_of, moved_to, meets, lives_at, lives_of, IsLive}
use Rattle.view_laws.specs.LiveLists.{ListsLive}
use Rattle.view_laws.proofs.LiveLaws.{In}
use Rattle.view_laws.proofs.LiveRanges.{moved_in, moved_out, below_in, below_out, below_rising}
use Rattle.std.proofs.lemmas.Bool.{and_parts, and_from}

pub contained : {A : Type 0} (x : A) (xs : List A) → In x xs → Contains xs x
contained x [] m = absurd m
contained x (y ∷ xs) (inl e) = (0, omega arith, sym e)
contained x (y ∷ xs) (inr m) = let t = contained x xs m in let l = t.1 in (suc t.0, omega arith, t.2)

pub one_of : {A : Type 0} (x : A) (xs : List A) (k : ℕ) → k < length xs → slice_index_or xs k x ≡ x → In x xs
one_of x [] k l e = absurd (omega arith)
one_of x (y ∷ xs) zero l e = inl (sym e)
one_of x (y ∷ xs) (suc k) l e = inr (one_of x xs k (omega arith) e)

le_so : (x y : ℤ) → int_le x y ≡ true → x ≤ℤ y
le_so x y h = grind (arith, ints)

lt_so : (x y : ℤ) → int_lt x y ≡ true → x <ℤ y
lt_so x y h = grind (arith, ints)

so_le : (x y : ℤ) → x ≤ℤ y → int_le x y ≡ true
so_le x y h = grind (arith, ints)

so_lt : (x y : ℤ) → x <ℤ y → int_lt x y ≡ true
so_lt x y h = grind (arith, ints)

is_live : (f : Forest) (s : SpaceId) (l : Live) → In l (lives_of f s) → IsLive f s l
is_live f s l m = let t = below_in f (2 ^ 64) (look f s) l m in go t.address (look f s t.address) refl t.below t.lives
  where
    go : (a : ℕ) (o : Option Spot) → look f s a ≡ o → a < 2 ^ 64 → In l (lives_at f a o) → IsLive f s l
    go a None e b m = absurd m
    go a (Some spot) e b m =
        let t = moved_in (moved_to a spot.offset) (meets a a) (events_of f spot.leaf) l m in let w = and_parts _ _ t.passes in record {
          address = a;
          below = b;
          spot = spot;
          shows = e;
          event = t.event;
          among = contained t.event (events_of f spot.leaf) t.among;
          moved = t.moved;
          from = le_so l.addr (pos a) w.0;
          to = lt_so (pos a) (l.addr +ℤ pos l.size) w.1;
        }

is_listed : (f : Forest) (s : SpaceId) (l : Live) → IsLive f s l → In l (lives_of f s)
is_listed f s l k =
    let met : meets k.address k.address l ≡ true = and_from _ _ (so_le l.addr (pos k.address) k.from) (so_lt (pos k.address) (l.addr +ℤ pos l.size) k.to) in
    let c = k.among in
    below_out f (2 ^ 64) (look f s) l k.address k.below
    (subst (λ (o : Option Spot). In l (lives_at f k.address o)) (sym k.shows)
    (subst (λ (z : Live). In z (lives_at f k.address (Some k.spot))) (sym k.moved)
    (moved_out (moved_to k.address k.spot.offset) (meets k.address k.address) (events_of f k.spot.leaf) k.event
    (one_of k.event (events_of f k.spot.leaf) c.0 c.1 c.2)
    (subst (λ (z : Live). meets k.address k.address z ≡ true) k.moved met))))

pub lists_live : (f : Forest) (s : SpaceId) → ListsLive f s
lists_live f s = record {
  members = λ l. (λ c. is_live f s l (one_of l (lives_of f s) c.0 c.1 c.2), λ k. contained l (lives_of f s) (is_listed f s l k));
  rising = below_rising f (2 ^ 64) (look f s);
}
