-- Laws of what is tried. They stand here because the laws of the hand, in `src`, cite them.
use Rattle.std.proofs.Common.{◌≡◌, ℕ, ◌+◌, Bool, true, false, ◌||◌, List, [], ◌∷◌, ◌++◌, refl, sym, ap, subst, ◌∙◌, append_assoc, append-nil}
use Rattle.std.proofs.lemmas.List.{length-append}
use Rattle.std.proofs.Math.Bool.{or_assoc, or-false}
use Rattle.mem_base.specs.declared.machine.events.Event.{Event}
use Rattle.generation.specs.Published.{Published}
use Rattle.epoch_rule.specs.Values.{PassValue}
use Rattle.vcpu_pass.specs.Steps.{HasMade}
use Rattle.vcpu_pass.specs.StepLaws.{made_none, made_then}
use Rattle.bounded_write.specs.Tries.{HasTried, WasContended, has_some}
use Rattle.mem_base.proofs.BoolLaws.{true_is_not_false}

some_append : (xs ys : List Event) → has_some (xs ++ ys) ≡ (has_some xs || has_some ys)
some_append [] ys = refl
some_append (x ∷ xs) ys = refl

true_false : {X : Type 0} (b : Bool) → b ≡ true → b ≡ false → X
true_false b t f = true_is_not_false b t f

pub tried_none : (tries : ℕ) (b g : Bool) (v : PassValue Published) → HasTried tries b g v [] [] b g v
tried_none tries b g v = record {
  done = [];
  rest = [];
  said = [];
  unsaid = [];
  events = refl;
  told = refl;
  each = refl;
  made = made_none v;
  all = λ e. (refl, refl);
  still = λ e. (refl, refl, refl, e);
  begins = sym (or-false g);
  contended = λ f t. true_false b t f;
}

-- one part after another
then_tried : (tries : ℕ) (b c d g h i : Bool) (u v w : PassValue Published) (es fs : List Event) (rs qs : List ℕ)
    → HasTried tries b g u es rs c h v → HasTried tries c h v fs qs d i w → HasTried tries b g u (es ++ fs) (rs ++ qs) d i w
then_tried tries b true d g h i u v w es fs rs qs x y =
    let s = y.still refl in record {
      done = x.done;
      rest = x.rest ++ fs;
      said = x.said;
      unsaid = x.unsaid ++ qs;
      events = ap (λ l. l ++ fs) x.events ∙ append_assoc x.done x.rest fs;
      told = ap (λ l. l ++ qs) x.told ∙ append_assoc x.said x.unsaid qs;
      each = x.each;
      made = subst (λ z. HasMade u x.done x.said z) (sym s.2) x.made;
      all = λ f. true_false d s.3 f;
      still = λ t. let q = x.still t in (q.0, q.1, s.2 ∙ q.2, s.3);
      begins = y.begins ∙ (λ j. x.begins j || has_some (s.0 j)) ∙ or-false (g || has_some x.done);
      contended = λ f t. subst (λ z. WasContended z tries) (sym s.2) (x.contended f refl);
    }
then_tried tries b false d g h i u v w es fs rs qs x y =
    let a = x.all refl in
    let all_events : es ≡ x.done = x.events ∙ ap (λ l. x.done ++ l) a.0 ∙ append-nil x.done in
    let all_told : rs ≡ x.said = x.told ∙ ap (λ l. x.said ++ l) a.1 ∙ append-nil x.said in record {
      done = x.done ++ y.done;
      rest = y.rest;
      said = x.said ++ y.said;
      unsaid = y.unsaid;
      events = (λ j. all_events j ++ y.events j) ∙ sym (append_assoc x.done y.done y.rest);
      told = (λ j. all_told j ++ y.told j) ∙ sym (append_assoc x.said y.said y.unsaid);
      each = length-append x.said y.said ∙ (λ j. x.each j + y.each j) ∙ sym (length-append x.done y.done);
      made = made_then u v w x.done y.done x.said y.said x.each x.made y.made;
      all = y.all;
      still = λ t. true_false false (x.still t).3 refl;
      begins = y.begins ∙ ap (λ z. z || has_some y.done) x.begins ∙ or_assoc g (has_some x.done) (has_some y.done)
          ∙ ap (λ z. g || z) (sym (some_append x.done y.done));
      contended = λ f t. y.contended refl t;
    }

pub tried_then : (tries again : ℕ) (b g c d h i : Bool) (u v w : PassValue Published) (es fs : List Event) (rs qs : List ℕ) → again ≡ tries
    → HasTried tries b g u es rs c h v → HasTried again c h v fs qs d i w → HasTried tries b g u (es ++ fs) (rs ++ qs) d i w
tried_then tries again b g c d h i u v w es fs rs qs same x y =
    then_tried tries b c d g h i u v w es fs rs qs x (subst (λ n. HasTried n c h v fs qs d i w) same y)
