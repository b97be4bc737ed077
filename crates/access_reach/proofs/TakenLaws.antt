-- Laws of what a plan asks that is taken.
use Rattle.std.proofs.Common.{List, [], ◌∷◌, ◌++◌, subst}
use Rattle.std.proofs.lemmas.List.Elements.{filter_map-append}
use Rattle.mem_base.specs.lists.Every.{Every}
use Rattle.mem_base.proofs.EveryLaws.{weaker, every_split}
use Rattle.mem_base.specs.access.Plans.{Reached}
use Rattle.access_reach.specs.Asking.{Asked, asked_of, asked, Reply, Outcome}
use Rattle.access_reach.specs.Reaching.{Asks, HasReached, AllTaken}

-- what is taken of two lists together
pub taken_split : {S : Type 0} (takes : S → Asked → Type 0) (x : S) (xs ys : List Reached) → AllTaken takes x (xs ++ ys)
    → AllTaken takes x xs × AllTaken takes x ys
taken_split takes x xs ys all = every_split (takes x) (asked xs) (asked ys) (subst (Every (takes x)) (filter_map-append asked_of xs ys) all)

-- a bus goes on to take what it takes
pub taken_lasts : {S : Type 0} (asks : Asks S) (takes : S → Asked → Type 0)
    → ((x y : S) (es : List Asked) (rs : List Reply) → asks x es rs y → (e : Asked) → takes x e → takes y e)
    → (x y : S) (done : List Reached) (o : Outcome) → HasReached asks x done o y → (rs : List Reached) → AllTaken takes x rs → AllTaken takes y rs
taken_lasts asks takes lasts x y done o h rs all = weaker (takes x) (takes y) (lasts x y (asked done) h.replies h.made) (asked rs) all

-- one that takes all takes each plan
pub every_unit : (es : List Asked) → Every (λ e. Unit {0}) es
every_unit [] = tt
every_unit (e ∷ es) = (tt, every_unit es)

pub all_taken : {S : Type 0} (x : S) (rs : List Reached) → AllTaken (λ (y : S) e. Unit {0}) x rs
all_taken x rs = every_unit (asked rs)
