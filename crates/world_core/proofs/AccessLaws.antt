-- What an access needs.
use Rattle.std.proofs.Common.{◌≡◌, ℕ, true, false, Option, Some, None, refl, ap, subst}
use Rattle.std.specs.Prelude.{is_some}
use Rattle.mem_base.specs.map.PassIds.{PassId}
use Rattle.mem_base.specs.machine.Passes.{pass_of}
use Rattle.mem_base.specs.machine.World.{World}
use Rattle.world_laws.specs.Entered.{EntersHeld}
use Rattle.world_laws.proofs.Entering.{entered_generations_are_held}
use Rattle.world_core.specs.Hands.{IsInside}
use Rattle.world_hand.specs.Reached.{IsReached}
use Rattle.world_hand.proofs.WithoutLaws.{enters_without}
use Rattle.mem_base.proofs.BoolLaws.{true_is_not_false}

-- a pass that entered a number is in a generation that is kept
pub inside_of : (w : World) (pass : PassId) → IsReached w → is_some (pass_of w.passes pass).entered ≡ true → IsInside w pass
inside_of w pass r some = go (pass_of w.passes pass).entered refl some
  where
    held : EntersHeld w pass
    held = enters_without r.taken w pass
        (subst (λ (v : World). EntersHeld v pass) r.leads (entered_generations_are_held r.pool_words r.passes r.entries r.legal pass))

    go : (o : Option ℕ) → (pass_of w.passes pass).entered ≡ o → is_some o ≡ true → IsInside w pass
    go None e some = true_is_not_false false some refl
    go (Some n) e some = ap (λ o. is_some o) (held.there n e).1
