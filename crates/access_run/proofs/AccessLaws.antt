-- Laws of the end of an access that goes past 2^64 - 1.
use Rattle.std.proofs.Common.{◌≡◌, ℕ, ◌+◌, ◌^◌, ◌<◌, true, false, List, [], ◌++◌, length, refl, sym, ap, subst, ◌∙◌, arith}
use Rattle.std.specs.Prelude.{replicate}
use Rattle.mem_base.specs.map.PassIds.{PassId}
use Rattle.mem_base.specs.declared.map.ids.SpaceId.{SpaceId}
use Rattle.mem_base.specs.declared.map.forests.Forest.{Forest}
use Rattle.mem_base.specs.declared.access.accesses.TxResult.{TxResult}
use Rattle.mem_base.specs.access.AccessSteps.{reading, writing, AccessStep, result_of, either, tx, unanswered}
use Rattle.mem_base.specs.access.Access.{access}
use Rattle.mem_base.specs.map.Forest.{IsMade, IsClosedForest}
use Rattle.map_laws.proofs.SoundCallLaws.{IsClosedForest-made}
use Rattle.generation.specs.Published.{Published}
use Rattle.access_run.specs.Runs.{Makes, HasDone}
use Rattle.access_run.specs.Chunks.{steps_below}
use Rattle.access_run.proofs.HandLaws.{AreHandLaws, done_then, results_append}
use Rattle.access_run.proofs.ChunkLaws.{clip, DoSame}
use Rattle.access_run.proofs.AnswerLaws.{nothing_done}

-- the same with another name for the state after it
pub done_at : {S : Type 0} (makes : Makes S) (p : PassId) (x y z : S) (ds : List AccessStep) (bs : List ℕ) → HasDone makes p x ds bs y → y ≡ z
    → HasDone makes p x ds bs z
done_at makes p x y z ds bs h e = subst (HasDone makes p x ds bs) e h

module _ {S : Type 0} (makes : Makes S) (pass : S → PassId) (shows : S → Published) (laws : AreHandLaws makes pass shows) where
  -- what makes the same events, and reads the same bytes
  same_done : (x y : S) (ds es : List AccessStep) (bs : List ℕ) → DoSame ds es → HasDone makes (pass x) x es bs y → HasDone makes (pass x) x ds bs y
  same_done x y ds es bs d h = record {
    replies = h.replies;
    made = subst (λ q. makes x q h.replies y) (sym (d.events (pass x))) h.made;
    each = h.each ∙ sym (ap (λ q. length q) (d.events (pass x)));
    read = h.read ∙ sym (d.bytes h.replies);
  }

  -- the end of a read above 2^64 - 1
  pub read_past : (x y : S) (s : SpaceId) (addr n below k : ℕ) (bs zeros : List ℕ) (r : TxResult) → IsMade (shows x).forest
      → addr + below ≡ 2 ^ 64 → below + k ≡ n → 0 < k
      → HasDone makes (pass x) x (steps_below (shows x).forest s addr (reading n) below) bs y
      → r ≡ result_of (steps_below (shows x).forest s addr (reading n) below)
      → zeros ≡ replicate k 0
      → HasDone makes (pass x) x (access (shows x).forest s addr (reading n)) (bs ++ zeros) y
      × (either r (tx false true) ≡ result_of (access (shows x).forest s addr (reading n)))
  read_past x y s addr n below k bs zeros r made at all some h is e =
      let f : Forest = (shows x).forest in
      let closed : IsClosedForest f = subst IsClosedForest made.made (IsClosedForest-made made.calls made.fitting) in
      let ds : List AccessStep = steps_below f s addr (reading n) below in
      let past : List AccessStep = unanswered (reading k) in
      let d : DoSame (steps_below f s addr (reading n) (below + k)) (ds ++ past) = clip f closed s addr (reading n) below below addr k (omega arith) at some in
      let d' : DoSame (access f s addr (reading n)) (ds ++ past) = subst (λ m. DoSame (steps_below f s addr (reading n) m) (ds ++ past)) all d in
      let z : HasDone makes (pass y) y past zeros y = nothing_done makes (pass y) y k (tx false true) zeros (laws.begins y) e in (
        same_done x y (access f s addr (reading n)) (ds ++ past) (bs ++ zeros) d' (done_then makes pass shows laws x y y ds past bs zeros h z),
        ap (λ q. either q (tx false true)) is ∙ sym (results_append ds past) ∙ sym d'.result,
      )

  -- and of a write
  pub write_past : (x y : S) (s : SpaceId) (addr below k : ℕ) (bytes : List ℕ) (r : TxResult) → IsMade (shows x).forest → addr + below ≡ 2 ^ 64
      → below + k ≡ length bytes → 0 < k → HasDone makes (pass x) x (steps_below (shows x).forest s addr (writing bytes) below) [] y
      → r ≡ result_of (steps_below (shows x).forest s addr (writing bytes) below)
      → HasDone makes (pass x) x (access (shows x).forest s addr (writing bytes)) [] y
      × (either r (tx false true) ≡ result_of (access (shows x).forest s addr (writing bytes)))
  write_past x y s addr below k bytes r made at all some h is =
      let f : Forest = (shows x).forest in
      let closed : IsClosedForest f = subst IsClosedForest made.made (IsClosedForest-made made.calls made.fitting) in
      let ds : List AccessStep = steps_below f s addr (writing bytes) below in
      let past : List AccessStep = unanswered (writing []) in
      let d : DoSame (steps_below f s addr (writing bytes) (below + k)) (ds ++ past) = clip f closed s addr
      (writing bytes) below below addr k (omega arith) at some in
      let d' : DoSame (access f s addr (writing bytes)) (ds ++ past) = subst (λ m. DoSame (steps_below f s addr (writing bytes) m) (ds ++ past)) all d in
      let z : HasDone makes (pass y) y past [] y = nothing_done makes (pass y) y 0 (tx false true) [] (laws.begins y) refl in (
        same_done x y (access f s addr (writing bytes)) (ds ++ past) [] d' (done_then makes pass shows laws x y y ds past [] [] h z),
        ap (λ q. either q (tx false true)) is ∙ sym (results_append ds past) ∙ sym d'.result,
      )
