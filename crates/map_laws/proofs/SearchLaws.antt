-- Laws of the search: it finds what the rules of the manual find, one thing each time, step by step.
use Rattle.std.proofs.Common.{◌≡◌, ℕ, zero, suc, ◌+◌, ◌-◌, ◌≤◌, true, false, ◌&&◌, cond, List, [], ◌∷◌, Option, Some, None, refl, sym, ap}
use Rattle.std.proofs.Common.{subst, ◌∙◌, arith, add-one}
use Rattle.std.specs.Prelude.{nat_lt, nat_le, option_map, option_and_then}
use Rattle.std.specs.Option.{option_or}
use Rattle.std.proofs.lemmas.Bool.Decides.{nat_tests}
use Rattle.mem_base.specs.declared.map.ids.RegionId.{RegionId}
use Rattle.mem_base.specs.declared.map.forests.Node.{Node}
use Rattle.mem_base.specs.declared.map.forests.Forest.{Forest}
use Rattle.mem_base.specs.declared.map.kinds.Kind.{Kind}
use Rattle.mem_base.specs.declared.map.kinds.Kind.TheVariants.{Container, Alias}
use Rattle.mem_base.specs.map.Region.{node_of}
use Rattle.mem_base.specs.map.Order.{children_of}
use Rattle.mem_base.specs.map.Search.{Found, Search, passed, itself, inside, at_node, found_in, first_of_children}
use Rattle.mem_base.specs.map.Paths.{Finds, FindsFirst, missing, outside, through, within, nowhere, above, at, past, IsNoAlias}
use Rattle.mem_base.specs.lists.Every.{Every}
use Rattle.mem_base.proofs.EveryLaws.{weaker}

-- a search by relation among the children, from one for each child
firsts : (f : Forest) (below : Search) (cs : List Node) (a : ℕ) → Every (λ c. (b : ℕ) → Finds f c.id b (below c.id b)) cs →
    FindsFirst f cs a (first_of_children below cs a)
firsts f below [] a h = nowhere
firsts f below (c ∷ cs) a h =
    elim (nat_le c.offset a) as (λ b. nat_le c.offset a ≡ b →
    FindsFirst f (c ∷ cs) a (option_or (cond b (below c.id (a - c.offset)) None) (first_of_children below cs a))) [
      | true ↦ λ e. elim (below c.id (a - c.offset)) as
          (λ o. Finds f c.id (a - c.offset) o → FindsFirst f (c ∷ cs) a (option_or o (first_of_children below cs a))) [
            | Some s ↦ λ w. at s e w
            | None ↦ λ w. past e w (firsts f below cs a h.1)
          ] (h.0 (a - c.offset))
      | false ↦ λ e. above e (firsts f below cs a h.1)
    ] refl

-- each step from a region leads to one of which this holds
abbrev pub StepsWithin : Forest → (RegionId → Type 0) → Kind → Node → Type 0
StepsWithin f below (Alias target offset) n = below target
StepsWithin f below _ n = Every (λ c. below c.id) (children_of f.nodes n.id)

-- each path from a region has at most n regions
abbrev pub HasPathsWithin : Forest → ℕ → RegionId → Type 0
HasPathsWithin f zero r = ⊥
HasPathsWithin f (suc depth) r = (n : Node) → node_of f.nodes r ≡ Some n → StepsWithin f (HasPathsWithin f depth) n.kind n

-- one level, by the kind
at_kind : (f : Forest) (below : Search) (P : RegionId → Type 0) (n : Node) (r : RegionId) (a : ℕ) →
    ((q : RegionId) (b : ℕ) → P q → Finds f q b (below q b)) → node_of f.nodes r ≡ Some n → (n.enabled && nat_lt a n.size) ≡ true → (k : Kind) → n.kind ≡ k →
    StepsWithin f P k n → Finds f r a (option_map (passed n) (inside f below k n a))
at_kind f below P n r a go e t (Alias target offset) k h = through n target offset (below target (a + offset)) e t k (go target (a + offset) h) refl
at_kind f below P n r a go e t Container k h =
    within n _ e t (let Q : Kind → Type 0 = IsNoAlias in subst Q (sym k) tt)
    (firsts f below _ a (weaker (λ c. P c.id) (λ c. (b : ℕ) → Finds f c.id b (below c.id b)) (λ c w b. go c.id b w) _ h)) refl
at_kind f below P n r a go e t _ k h = within n _ e t (let Q : Kind → Type 0 = IsNoAlias in subst Q (sym k) tt)
    (firsts f below _ a (weaker (λ c. P c.id) (λ c. (b : ℕ) → Finds f c.id b (below c.id b)) (λ c w b. go c.id b w) _ h)) refl

-- where no path is as long as the depth, the search down to it finds what the relation says
pub Finds-found_in : (f : Forest) (depth : ℕ) (r : RegionId) (a : ℕ) → HasPathsWithin f depth r → Finds f r a (found_in f depth r a)
unfolding found_in
Finds-found_in f zero r a h = absurd h
Finds-found_in f (suc depth) r a h =
    elim (node_of f.nodes r) as (λ o. node_of f.nodes r ≡ o → Finds f r a (option_and_then (λ n. at_node f (found_in f depth) n a) o)) [
      | None ↦ λ e. missing e
      | Some n ↦ λ e.
          elim (n.enabled && nat_lt a n.size) as (λ b. (n.enabled && nat_lt a n.size) ≡ b →
          Finds f r a (cond b (option_map (passed n) (inside f (found_in f depth) n.kind n a)) None)) [
            | true ↦ λ t. at_kind f (found_in f depth) (HasPathsWithin f depth) n r a (λ q b w. Finds-found_in f depth q b w) e t n.kind refl (h n e)
            | false ↦ λ t. outside n e t
          ] refl
    ] refl

-- an alias is one
no_alias : {P : Type 0} (k : Kind) (target : RegionId) (offset : ℕ) → k ≡ Alias target offset → IsNoAlias k → P
no_alias k target offset e h = let Q : Kind → Type 0 = IsNoAlias in absurd (subst Q e h)

mutual
  -- a search finds one thing
  pub Finds-unique : {f : Forest} {r : RegionId} {a : ℕ} {x y : Option Found} → Finds f r a x → Finds f r a y → x ≡ y
  Finds-unique (missing e) (missing e') = refl
  Finds-unique (missing e) (outside n e' t') = refl
  Finds-unique (missing e) (through n target offset x e' t' k' w' q') = cc
  Finds-unique (missing e) (within n x e' t' k' w' q') = cc
  Finds-unique (outside n e t) (missing e') = refl
  Finds-unique (outside n e t) (outside m e' t') = refl
  Finds-unique (outside n e t) (through m target offset x e' t' k' w' q') = cc
  Finds-unique (outside n e t) (within m x e' t' k' w' q') = cc
  Finds-unique (through n target offset x e t k w q) (missing e') = cc
  Finds-unique (through n target offset x e t k w q) (outside m e' t') = cc
  Finds-unique (through n target offset x e t k w q) (through {f = f} {a = a} m target' offset' x' e' t' k' w' q') =
      let same : n ≡ m = cc in
      let here : Finds f target (a + offset) x' =
      let to : target' ≡ target = cc in let by : offset' ≡ offset = cc in
      subst (λ o. Finds f target (a + o) x') by (subst (λ g. Finds f g (a + offset') x') to w') in
      let found = Finds-unique w here in
      q ∙ ap (option_map (passed n)) found ∙ ap (λ v. option_map (passed v) x') same ∙ sym q'
  Finds-unique (through n target offset x e t k w q) (within m x' e' t' k' w' q') =
      let is : m.kind ≡ Alias target offset = let same : n ≡ m = cc in cc in no_alias m.kind target offset is k'
  Finds-unique (within n x e t k w q) (missing e') = cc
  Finds-unique (within n x e t k w q) (outside m e' t') = cc
  Finds-unique (within n x e t k w q) (through m target offset x' e' t' k' w' q') =
      let is : n.kind ≡ Alias target offset = let same : n ≡ m = cc in cc in no_alias n.kind target offset is k
  Finds-unique (within n x e t k w q) (within {f = f} {a = a} m x' e' t' k' w' q') =
      let same : m ≡ n = cc in
      let here : FindsFirst f (children_of f.nodes n.id) a x' = subst (λ v. FindsFirst f (children_of f.nodes v.id) a x') same w' in
      let found = FindsFirst-unique w here in
      q ∙ ap (λ o. option_map (passed n) (option_or o (itself f.global n.kind n a))) found
      ∙ ap (λ v. option_map (passed v) (option_or x' (itself f.global v.kind v a))) (sym same) ∙ sym q'

  pub FindsFirst-unique : {f : Forest} {cs : List Node} {a : ℕ} {x y : Option Found} → FindsFirst f cs a x → FindsFirst f cs a y → x ≡ y
  FindsFirst-unique nowhere nowhere = refl
  FindsFirst-unique (above e w) (above e' w') = FindsFirst-unique w w'
  FindsFirst-unique (above e w) (at s e' w') = cc
  FindsFirst-unique (above e w) (past e' w' u') = cc
  FindsFirst-unique (at s e w) (above e' w') = cc
  FindsFirst-unique (at s e w) (at s' e' w') = Finds-unique w w'
  FindsFirst-unique (at s e w) (past e' w' u') = let q = Finds-unique w w' in cc
  FindsFirst-unique (past e w u) (above e' w') = cc
  FindsFirst-unique (past e w u) (at s e' w') = let q = Finds-unique w w' in cc
  FindsFirst-unique (past e w u) (past e' w' u') = FindsFirst-unique u u'

-- nothing is found at depth 0
pub found_in_zero : (f : Forest) (depth : ℕ) (r : RegionId) (a : ℕ) → depth ≡ 0 → found_in f depth r a ≡ None
unfolding found_in
found_in_zero f depth r a e = subst (λ d. found_in f d r a ≡ None) (sym e) refl

-- nothing is found from a region that is not there
pub found_in_missing : (f : Forest) (depth : ℕ) (r : RegionId) (a : ℕ) → node_of f.nodes r ≡ None → found_in f depth r a ≡ None
unfolding found_in
found_in_missing f zero r a e = refl
found_in_missing f (suc depth) r a e = ap (option_and_then (λ n. at_node f (found_in f depth) n a)) e

-- one step of the search
pub found_in_step : (f : Forest) (depth below : ℕ) (r : RegionId) (a : ℕ) (n : Node) → depth ≡ below + 1 → node_of f.nodes r ≡ Some n →
    found_in f depth r a ≡ at_node f (found_in f below) n a
unfolding found_in
found_in_step f depth below r a n d e =
    subst (λ k. found_in f k r a ≡ at_node f (found_in f below) n a) (sym (d ∙ add-one below)) (ap (option_and_then (λ m. at_node f (found_in f below) m a)) e)

-- something is found in the next child
pub child_found : (below : Search) (l rest : List Node) (c : Node) (a : ℕ) (s : Found) → l ≡ c ∷ rest → c.offset ≤ a → below c.id (a - c.offset) ≡ Some s →
    first_of_children below l a ≡ Some s
child_found below l rest c a s e le w =
    let t : nat_le c.offset a ≡ true = grind (arith, nat_tests) in
    ap (λ x. first_of_children below x a) e ∙ simp (t, w)

-- nothing is found in the next child
pub child_passed : (below : Search) (l rest : List Node) (c : Node) (a : ℕ) → l ≡ c ∷ rest → (c.offset ≤ a → below c.id (a - c.offset) ≡ None) →
    first_of_children below l a ≡ first_of_children below rest a
child_passed below l rest c a e w =
    ap (λ x. first_of_children below x a) e
    ∙ elim (nat_le c.offset a) as (λ b. nat_le c.offset a ≡ b →
    option_or (cond b (below c.id (a - c.offset)) None) (first_of_children below rest a) ≡ first_of_children below rest a) [
      | true ↦ λ t. let le : c.offset ≤ a = grind (arith, nat_tests) in let none = w le in simp none
      | false ↦ λ t. refl
    ] refl
