-- What one listener gets of a publish.
use Rattle.std.specs.Prelude.{◌≡◌, true, List, [], ◌∷◌, ◌++◌, filter, find, is_some}
use Rattle.mem_base.specs.declared.map.forests.Forest.{Forest}
use Rattle.mem_base.specs.declared.views.listening.Listener.{Listener}
use Rattle.mem_base.specs.declared.views.listening.ListenerEvent.TheVariants.{Begin, Commit}
use Rattle.mem_base.specs.lists.Every.{EveryPair}
use Rattle.mem_base.specs.map.Forest.{AreOtherSpaces}
use Rattle.mem_base.specs.map.Search.{is_space}
use Rattle.mem_base.specs.views.Listening.{is_listener, ascending, calls_of, deliveries_of_changes, change_of, changes_between, calls_to}

-- a publish as one listener hears it: the calls of its own space alone, in the order of its walk and of its
-- ioeventfds, whatever the other listeners and the priorities are
abbrev pub EachHearsItsOwn : Type 0
EachHearsItsOwn = (ls : List Listener) (l : Listener) (old new : Forest) → filter (is_listener l.listener) ls ≡ l ∷ [] →
    EveryPair AreOtherSpaces new.spaces → is_some (find (is_space l.space) new.spaces) ≡ true →
    calls_to l.listener (deliveries_of_changes (ascending ls) (changes_between old new)) ≡ Begin ∷ calls_of (change_of old new l.space) ++ Commit ∷ []
