-- Laws of what the hand tries.
use Rattle.std.proofs.Common.{◌≡◌, ℕ, Bool, true, false, ◌||◌, List, [], ◌∷◌, refl, sym, subst}
use Rattle.std.proofs.Math.Bool.{or-false}
use Rattle.mem_base.specs.declared.machine.events.Event.{Event}
use Rattle.generation.specs.Published.{Published}
use Rattle.epoch_rule.specs.Values.{PassValue}
use Rattle.vcpu_pass.specs.Steps.{HasMade}
use Rattle.vcpu_pass.specs.StepLaws.{made_none}
use Rattle.bounded_write.specs.Tries.{HasTried, WasContended}
use Rattle.mem_base.proofs.BoolLaws.{true_is_not_false}

-- one that had stopped does nothing more
pub tried_still : (tries : ℕ) (b g : Bool) (v : PassValue Published) (es : List Event) (rs : List ℕ) → b ≡ true → HasTried tries b g v es rs b g v
tried_still tries b g v es rs t = record {
  done = [];
  rest = es;
  said = [];
  unsaid = rs;
  events = refl;
  told = refl;
  each = refl;
  made = made_none v;
  all = λ f. true_is_not_false b t f;
  still = λ e. (refl, refl, refl, e);
  begins = sym (or-false g);
  contended = λ f s. true_is_not_false b t f;
}

-- one that goes on makes an event
pub tried_one : (tries : ℕ) (b g : Bool) (v w : PassValue Published) (e : Event) (r : ℕ) → b ≡ false → HasMade v (e ∷ []) (r ∷ []) w
    → HasTried tries b g v (e ∷ []) (r ∷ []) b true w
tried_one tries b g v w e r f m = record {
  done = e ∷ [];
  rest = [];
  said = r ∷ [];
  unsaid = [];
  events = refl;
  told = refl;
  each = refl;
  made = m;
  all = λ q. (refl, refl);
  still = λ t. true_is_not_false b t f;
  begins = or_true g;
  contended = λ q t. true_is_not_false b t q;
}
  where
    or_true : (g : Bool) → true ≡ (g || true)
    or_true true = refl
    or_true false = refl

-- or stops
pub tried_stop : (tries : ℕ) (b g : Bool) (v w : PassValue Published) (e : Event) (r : ℕ) → b ≡ false → w ≡ v → WasContended v tries
    → HasTried tries b g v (e ∷ []) (r ∷ []) true g w
tried_stop tries b g v w e r f same h = record {
  done = [];
  rest = e ∷ [];
  said = [];
  unsaid = r ∷ [];
  events = refl;
  told = refl;
  each = refl;
  made = subst (λ x. HasMade v [] [] x) (sym same) (made_none v);
  all = λ q. true_is_not_false true refl q;
  still = λ t. true_is_not_false b t f;
  begins = sym (or-false g);
  contended = λ q t. subst (λ x. WasContended x tries) (sym same) h;
}
