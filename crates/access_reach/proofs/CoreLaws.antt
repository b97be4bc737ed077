-- Laws of accesses by the rounds of QEMU's core.
use Rattle.std.proofs.Common.{◌≡◌, ℕ, ◌+◌, ◌-◌, ◌<◌, Bool, false, List, [], ◌++◌, ap, subst, ◌∙◌, arith}
use Rattle.mem_base.specs.declared.map.ids.SpaceId.{SpaceId}
use Rattle.mem_base.specs.declared.map.forests.Forest.{Forest}
use Rattle.mem_base.specs.declared.access.accesses.TxResult.{TxResult}
use Rattle.mem_base.specs.access.AccessSteps.{Transfer, length_of, part, either}
use Rattle.mem_base.specs.access.Plans.{Reached}
use Rattle.mem_base.specs.access.Trails.{trail_of}
use Rattle.generation.specs.Published.{Published}
use Rattle.access_plan.specs.declared.rounds.Round.{Round}
use Rattle.access_plan.specs.HostPlans.{IsNearEnd, core_answerer_with_host, round_at, rounds_by, rounds_with_host}
use Rattle.access_plan.specs.Rounds.{IsRoundAt, bytes_in, reached_in}
use Rattle.access_plan.proofs.RoundLaws.{rounds_then}
use Rattle.access_reach.specs.Asking.{Outcome, outcome}
use Rattle.access_reach.specs.Reaching.{Asks, HasReached, IsUnderway}
use Rattle.access_reach.specs.Rounds.{HasStopped}
use Rattle.access_reach.proofs.ReachLaws.{AreBusLaws, underway_none, underway_then, underway_shows, all_reached}

module _ {S : Type 0} (asks : Asks S) (shows : S → Published) (laws : AreBusLaws asks shows) (w : Bool) (s : SpaceId) (addr n : ℕ) (t : Transfer) where
  -- what is left of a plan after some bytes
  abbrev pub later : Forest → ℕ → List Reached
  later f done = rounds_by (core_answerer_with_host f w) f w s addr t (addr + done) (n - done) 0

  -- of a plan nothing is asked at first
  pub rounds_none : (x : S)
      → IsUnderway asks x (rounds_with_host (shows x).forest w s addr n t) (later (shows x).forest 0) (outcome [] (record { error = false; decode = false })) x
  rounds_none x =
      let f : Forest = (shows x).forest in
      let here : addr ≡ addr + 0 = omega arith in
      let left : n ≡ n - 0 = omega arith in
      subst (λ rs. IsUnderway asks x (rounds_with_host f w s addr n t) rs (outcome [] (record { error = false; decode = false })) x)
      (λ i. rounds_by (core_answerer_with_host f w) f w s addr t (here i) (left i) 0)
      (underway_none asks shows laws x (rounds_with_host f w s addr n t))

  -- a round more
  pub round_more : (x y z : S) (done : ℕ) (round : Round) (u : Transfer) (bs got : List ℕ) (r q : TxResult)
      → IsUnderway asks x (rounds_with_host (shows x).forest w s addr n t) (later (shows x).forest done) (outcome bs r) y
      → IsRoundAt (shows y).forest w s (addr + done) (n - done) round → u ≡ part done (bytes_in round) t → length_of u ≡ bytes_in round
      → HasReached asks y (reached_in (shows y).forest w round u) (outcome got q) z
      → IsUnderway asks x (rounds_with_host (shows x).forest w s addr n t) (later (shows x).forest (done + bytes_in round)) (outcome (bs ++ got) (either r q)) z
  round_more x y z done round u bs got r q under next mine all h =
      let f : Forest = (shows x).forest in
      let whole : List Reached = rounds_with_host f w s addr n t in
      let count : ℕ = bytes_in round in
      let same : (shows y).forest ≡ f = ap (λ (g : Published). g.forest) (underway_shows asks shows laws x y whole (later f done) (outcome bs r) under) in
      let is : IsRoundAt f w s (addr + done) (n - done) round = subst (λ f. IsRoundAt f w s (addr + done) (n - done) round) same next in
      let now : List Reached = round_at (core_answerer_with_host f w) f w s (addr + done) (part done count t) in
      let here : addr + done + count ≡ addr + (done + count) = omega arith in
      let left : n - done - count ≡ n - (done + count) = omega arith in
      let skipped : addr + done - addr ≡ done = omega arith in
      let list : later f done ≡ now ++ later f (done + count) =
      rounds_then (core_answerer_with_host f w) f w s addr t (addr + done) (n - done) count is.taken is.some is.most
      ∙ (λ i. round_at (core_answerer_with_host f w) f w s (addr + done) (part (skipped i) count t)
      ++ rounds_by (core_answerer_with_host f w) f w s addr t (here i) (left i) 0) in
      let reached : reached_in (shows y).forest w round u ≡ now =
      ap (λ f. reached_in f w round u) same ∙ is.is u all ∙ ap (round_at (core_answerer_with_host f w) f w s (addr + done)) mine in
      underway_then asks shows laws x y z whole (later f done) now (later f (done + count)) bs got r q under list
      (subst (λ rs. HasReached asks y rs (outcome got q) z) reached h)

  -- until all are done
  pub rounds_all : (x y : S) (done : ℕ) (o : Outcome) → IsUnderway asks x (rounds_with_host (shows x).forest w s addr n t) (later (shows x).forest done) o y
      → n - done ≡ 0 → HasReached asks x (rounds_with_host (shows x).forest w s addr n t) o y
  rounds_all x y done o under none =
      let f : Forest = (shows x).forest in
      all_reached asks shows laws x y (rounds_with_host f w s addr n t) (later f done) o under
      (ap (λ m. rounds_by (core_answerer_with_host f w) f w s addr t (addr + done) m 0) none)

  -- or one meets the last offsets of a device
  pub rounds_stopped : (x y : S) (done : ℕ) (o : Outcome) → IsUnderway asks x (rounds_with_host (shows x).forest w s addr n t) (later (shows x).forest done) o y
      → done < n → IsNearEnd (trail_of (shows y).forest w s (addr + done)).target
      → HasStopped asks x (shows x).forest w s addr n (rounds_with_host (shows x).forest w s addr n t) y
  rounds_stopped x y done o under less near =
      let f : Forest = (shows x).forest in
      let same : (shows y).forest ≡ f = ap (λ (g : Published). g.forest)
      (underway_shows asks shows laws x y (rounds_with_host f w s addr n t) (later f done) o under) in record {
        meets = (done, less, subst (λ f. IsNearEnd (trail_of f w s (addr + done)).target) same near);
        rest = later f done;
        end = o;
        part = under;
      }
