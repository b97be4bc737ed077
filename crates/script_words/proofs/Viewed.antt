-- What a subcommand's matches are, from its getters.
use Rattle.std.proofs.Common.{◌≡◌, ap, ap₂, sym, refl, true≢false, None, Some, option_map, is_some}
use Rattle.std.specs.declared.option.Option.{Option}
use Rattle.std.proofs.lemmas.Option.{same_Some}

abbrev pub pair_by : {X A B : Type 0} → (X → A) → (X → B) → X → A × B
pair_by f g x = (f x, g x)

-- two views of an option, joined
pub both_views : {X Y A B : Type 0} (r : Option X) (o : Option Y) (f : X → A) (g : X → B) (f' : Y → A) (g' : Y → B)
    → option_map f r ≡ option_map f' o → option_map g r ≡ option_map (λ (p : A × B). p.1) (option_map (pair_by f' g') o)
    → option_map (pair_by f g) r ≡ option_map (pair_by f' g') o
both_views None None f g f' g' a b = refl
both_views None (Some y) f g f' g' a b = absurd (true≢false (sym (ap is_some a)))
both_views (Some x) None f g f' g' a b = absurd (true≢false (ap is_some a))
both_views {X} {Y} {A} {B} (Some x) (Some y) f g f' g' a b =
    let pair : A → B → Option (A × B) = λ p q. Some (p, q) in
    ap₂ pair (same_Some (f x) (f' y) a) (same_Some (g x) (g' y) b)
