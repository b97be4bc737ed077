-- Laws of what the parts of a search answer.
use Rattle.std.proofs.Common.{◌≡◌, ◌≢◌, ℕ, zero, suc, ◌+◌, ◌-◌, ◌<◌, ◌≤◌, Bool, true, false, ◌&&◌, ◌||◌, cond, List, [], ◌∷◌, ◌++◌, reverse}
use Rattle.std.proofs.Common.{Option, Some, None, refl, sym, ap, subst, ◌∙◌, arith}
use Rattle.std.specs.Prelude.{nat_le, nat_lt, is_some, option_map, if◌then◌else◌}
use Rattle.std.specs.Option.{option_or}
use Rattle.std.specs.List.{list_any}
use Rattle.std.proofs.lemmas.Bool.Decides.{nat_tests}
use Rattle.std.proofs.lemmas.List.{append-nil, append_assoc, reverse-append}
use Rattle.mem_base.specs.declared.map.ids.RegionId.{RegionId}
use Rattle.mem_base.specs.declared.map.forests.Node.{Node}
use Rattle.mem_base.specs.declared.map.forests.Forest.{Forest}
use Rattle.mem_base.specs.declared.map.spots.Spot.{Spot}
use Rattle.mem_base.specs.declared.map.kinds.Kind.{Kind}
use Rattle.mem_base.specs.declared.map.kinds.Kind.TheVariants.{Alias}
use Rattle.mem_base.specs.map.Region.{node_of}
use Rattle.mem_base.specs.map.Order.{children_of}
use Rattle.mem_base.specs.map.Paths.{Finds}
use Rattle.mem_base.specs.map.Search.{Found, Search, passed, flagged, found_in, first_of_children, inside, itself, spot_of, path_of}
use Rattle.mem_base.proofs.EveryLaws.{every_push}
use Rattle.map_laws.proofs.SearchLaws.{Finds-found_in, found_in_step, found_in_zero}
use Rattle.find_why.specs.declared.looks.Look.{Look}
use Rattle.find_why.specs.declared.looks.Outcome.{Outcome}
use Rattle.find_why.specs.declared.looks.Outcome.TheVariants.{Answers, Hole, Disabled, BeginsAfter, EndsBefore, TriedLater}
use Rattle.find_why.specs.declared.looks.Tried.{Tried}
use Rattle.find_why.specs.declared.search.Sight.{Sight}
use Rattle.find_why.specs.Reasons.{Place, place_in, places, IsSo, AreTried, is_answer, IsFound}
use Rattle.find_why.specs.Looked.{Some_of, IsLook, IsFollowed, IsLooked, AreLooked, answering}
use Rattle.find_why.specs.Seen.{Went, Sees, SeesAmong, tried_in, unless, came_of, later, places_of, IsShallow}
use Rattle.find_why.proofs.LookedLaws.{some_last, covers_grown, all_followed_in, grows_not, grows_on, one_more, answering_one}
use Rattle.std.proofs.lemmas.Bool.{and_right}
use Rattle.mem_base.proofs.NodeLaws.{inside-own}
use Rattle.mem_base.proofs.BoolLaws.{or_joins}

abbrev pub sight : Outcome → Option Spot → Sight
sight o s = record { outcome = o; spot = s }

abbrev pub tried : RegionId → Outcome → Tried
tried r o = record { region = r; outcome = o }

-- nothing more was looked into
pub stays : (f : Forest) (x : Option Found) (looks : List Look) → x ≡ None → AreLooked f looks → Went f x looks looks
stays f x looks e h = record {
  path = sym (append-nil (answering looks)) ∙ ap (λ o. answering looks ++ reverse (path_of o)) (sym e);
  grows = grows_not looks;
  looked = h;
}

-- a region in which nothing is looked for
pub not_looked : (f : Forest) (answered : Bool) (p : Place) (x : Option Found) (looks : List Look) (o : Outcome) → x ≡ None → is_answer o ≡ false →
    IsSo f answered p o → IsFollowed looks p.0 o → AreLooked f looks → Sees f answered p x looks looks (sight o None)
not_looked f answered p x looks o e i s w h = record {
  spot = ap spot_of (sym e);
  so = s;
  answers = i ∙ ap is_some (sym e);
  followed = w;
  went = stays f x looks e h;
}

-- one step of the search where the region does not hold the offset
no_step : (f : Forest) (depth : ℕ) (n : Node) (a : ℕ) → node_of f.nodes n.id ≡ Some n → (n.enabled && nat_lt a n.size) ≡ false →
    found_in f depth n.id a ≡ None
no_step f zero n a e t = found_in_zero f zero n.id a refl
no_step f (suc depth) n a e t =
    let next : suc depth ≡ depth + 1 = omega arith in
    found_in_step f (suc depth) depth n.id a n next e
    ∙ ap (λ b. cond b (option_map (passed n) (inside f (found_in f depth) n.kind n a)) None) t

-- a region that ends before the offset
pub ends_before : (f : Forest) (depth : ℕ) (n : Node) (a : ℕ) (looks : List Look) → node_of f.nodes n.id ≡ Some n → n.size ≤ a → AreLooked f looks →
    Sees f false (n.id, Some a) (found_in f depth n.id a) looks looks (sight EndsBefore None)
ends_before f depth n a looks e l h =
    let out : nat_lt a n.size ≡ false = grind (arith, nat_tests) in
    not_looked f false (n.id, Some a) _ looks EndsBefore (no_step f depth n a e (and_right n.enabled (nat_lt a n.size) out)) refl
    (a, refl, (n, e, l)) tt h

-- a region that is disabled
pub disabled_at : (f : Forest) (depth : ℕ) (n : Node) (a : ℕ) (looks : List Look) → node_of f.nodes n.id ≡ Some n → n.enabled ≡ false → a < n.size →
    AreLooked f looks → Sees f false (n.id, Some a) (found_in f depth n.id a) looks looks (sight Disabled None)
disabled_at f depth n a looks e t l h =
    not_looked f false (n.id, Some a) _ looks Disabled (no_step f depth n a e (ap (λ b. b && nat_lt a n.size) t)) refl
    (a, refl, (n, e, (t, l))) tt h

-- one step of the search where the region holds the offset
step : (f : Forest) (depth : ℕ) (n : Node) (a : ℕ) → depth ≢ 0 → node_of f.nodes n.id ≡ Some n → n.enabled ≡ true → a < n.size →
    found_in f depth n.id a ≡ option_map (passed n) (inside f (found_in f (depth - 1)) n.kind n a)
step f depth n a d e t l =
    let next : depth ≡ (depth - 1) + 1 = omega arith in
    let within : (n.enabled && nat_lt a n.size) ≡ true = grind (arith, nat_tests) in
    found_in_step f depth (depth - 1) n.id a n next e
    ∙ ap (λ b. cond b (option_map (passed n) (inside f (found_in f (depth - 1)) n.kind n a)) None) within

-- a region that was looked into, by what is found inside it
looked_into : (f : Forest) (depth : ℕ) (n : Node) (a : ℕ) (y : Option Found) (old mid : List Look) (spot : Option Spot) (l : Look) →
    node_of f.nodes n.id ≡ Some n → n.enabled ≡ true → a < n.size → Finds f n.id a (option_map (passed n) y) →
    SeesAmong f (places f.nodes n.kind n a) y old mid l.trials spot → l.region ≡ n.id → l.at ≡ a → l.answers ≡ is_some spot →
    Sees f false (n.id, Some a) (option_map (passed n) y) old (mid ++ l ∷ []) (sight (came_of a (is_some spot)) (option_map (flagged n) spot))
looked_into f depth n a None old mid spot l e t m found h r at answers =
    let none : spot ≡ None = h.found in
    let silent : is_some spot ≡ false = ap is_some none in
    let told : IsLooked f mid l = record {
      node = n;
      known = ap (node_of f.nodes) r ∙ e;
      holds = (n, ap (node_of f.nodes) r ∙ e, (t, subst (λ b. b < n.size) (sym at) m));
      tried = subst (λ b. AreTried f false (places f.nodes n.kind n b) l.trials) (sym at) h.so;
      followed = h.followed;
      found = subst (λ b. IsFound f l.region l.at b) (sym (answers ∙ silent))
          (subst (λ q. Finds f q l.at None) (sym r) (subst (λ b. Finds f n.id b None) (sym at) found));
    } in
    let outcome : came_of a (is_some spot) ≡ Hole a = ap (came_of a) silent in
    let last : Some_of (IsLook n.id a false) (mid ++ l ∷ []) = some_last (IsLook n.id a false) mid l (r, at, answers ∙ silent) in
    record {
      spot = ap (option_map (flagged n)) none;
      so = subst (λ o. IsSo f false (n.id, Some a) o) (sym outcome) (refl, refl, (n, e, (t, m)), found);
      answers = ap is_answer outcome;
      followed = subst (λ o. IsFollowed (mid ++ l ∷ []) n.id o) (sym outcome) last;
      went = record {
        path = answering_one mid l false (answers ∙ silent) ∙ append-nil (answering mid) ∙ h.went.path;
        grows = grows_on old mid (mid ++ l ∷ []) h.went.grows (l ∷ [], refl);
        looked = one_more f mid l h.went.looked told;
      };
    }
looked_into f depth n a (Some z) old mid spot l e t m found h r at answers =
    let some : spot ≡ Some z.0 = h.found in
    let speaks : is_some spot ≡ true = ap is_some some in
    let told : IsLooked f mid l = record {
      node = n;
      known = ap (node_of f.nodes) r ∙ e;
      holds = (n, ap (node_of f.nodes) r ∙ e, (t, subst (λ b. b < n.size) (sym at) m));
      tried = subst (λ b. AreTried f false (places f.nodes n.kind n b) l.trials) (sym at) h.so;
      followed = h.followed;
      found = subst (λ b. IsFound f l.region l.at b) (sym (answers ∙ speaks))
          (passed n z, subst (λ q. Finds f q l.at (Some (passed n z))) (sym r) (subst (λ b. Finds f n.id b (Some (passed n z))) (sym at) found));
    } in
    let outcome : came_of a (is_some spot) ≡ Answers a = ap (came_of a) speaks in
    let last : Some_of (IsLook n.id a true) (mid ++ l ∷ []) = some_last (IsLook n.id a true) mid l (r, at, answers ∙ speaks) in
    record {
      spot = ap (option_map (flagged n)) some;
      so = subst (λ o. IsSo f false (n.id, Some a) o) (sym outcome) (refl, refl, (n, e, (t, m)), (passed n z, found));
      answers = ap is_answer outcome;
      followed = subst (λ o. IsFollowed (mid ++ l ∷ []) n.id o) (sym outcome) last;
      went = record {
        path = answering_one mid l true (answers ∙ speaks) ∙ ap (λ rs. rs ++ l.region ∷ []) h.went.path
            ∙ append_assoc (answering old) (reverse z.1) (l.region ∷ []) ∙ ap (λ q. answering old ++ (reverse z.1 ++ q ∷ [])) r
            ∙ ap (λ rs. answering old ++ rs) (sym (reverse-append (n.id ∷ []) z.1));
        grows = grows_on old mid (mid ++ l ∷ []) h.went.grows (l ∷ [], refl);
        looked = one_more f mid l h.went.looked told;
      };
    }

-- a region that holds the offset was looked into
pub looked_at : (f : Forest) (depth : ℕ) (n : Node) (a : ℕ) (old mid : List Look) (spot : Option Spot) (l : Look) (s : Sight) →
    depth ≢ 0 → IsShallow f depth n.id → node_of f.nodes n.id ≡ Some n → n.enabled ≡ true → a < n.size →
    SeesAmong f (places f.nodes n.kind n a) (inside f (found_in f (depth - 1)) n.kind n a) old mid l.trials spot →
    l.region ≡ n.id → l.at ≡ a → l.answers ≡ is_some spot → s.spot ≡ option_map (flagged n) spot → s.outcome ≡ came_of a (is_some spot) →
    Sees f false (n.id, Some a) (found_in f depth n.id a) old (mid ++ l ∷ []) s
unfolding IsShallow
looked_at f depth n a old mid spot l s d within e t m h r at answers first second =
    let here = step f depth n a d e t m in
    let y = inside f (found_in f (depth - 1)) n.kind n a in
    let found : Finds f n.id a (option_map (passed n) y) = subst (λ x. Finds f n.id a x) here (Finds-found_in f depth n.id a within) in
    let same : s ≡ sight (came_of a (is_some spot)) (option_map (flagged n) spot) = ap (λ o. sight o s.spot) second
    ∙ ap (λ o. sight (came_of a (is_some spot)) o) first in
    subst (λ x. Sees f false (n.id, Some a) x old (mid ++ l ∷ []) s) (sym here)
    (subst (λ q. Sees f false (n.id, Some a) (option_map (passed n) y) old (mid ++ l ∷ []) q) (sym same)
    (looked_into f depth n a y old mid spot l e t m found h r at answers))

-- an alias was looked into by its target
pub through_alias : (f : Forest) (below : Search) (k : Kind) (n : Node) (a : ℕ) (target : RegionId) (offset : ℕ) (old new : List Look) (ts : List Tried)
    (spot : Option Spot) → k ≡ Alias target offset → SeesAmong f ((target, Some (a + offset)) ∷ []) (below target (a + offset)) old new ts spot →
    SeesAmong f (places f.nodes k n a) (inside f below k n a) old new ts spot
through_alias f below k n a target offset old new ts spot e h =
    let Q : Kind → Type 0 = λ q. SeesAmong f (places f.nodes q n a) (inside f below q n a) old new ts spot in subst Q (sym e) h

-- the target of an alias was tried
pub one_tried : (f : Forest) (p : Place) (x : Option Found) (old new : List Look) (s : Sight) → Sees f false p x old new s →
    SeesAmong f (p ∷ []) x old new (tried p.0 s.outcome ∷ []) s.spot
one_tried f p x old new s h = record {
  found = h.spot;
  so = (refl, h.so, tt);
  followed = (h.followed, tt);
  went = h.went;
}

path_or : (x : Option Found) (own : Option Spot) → path_of (option_or x (option_map (λ (s : Spot). let y : Found = (s, []) in y) own)) ≡ path_of x
path_or (Some x) own = refl
path_or None (Some s) = refl
path_or None None = refl

spot_or : (x : Option Found) (spot own : Option Spot) → spot ≡ spot_of x →
    option_or spot own ≡ spot_of (option_or x (option_map (λ (s : Spot). let y : Found = (s, []) in y) own))
spot_or (Some x) spot own e = ap (λ o. option_or o own) e
spot_or None spot (Some s) e = ap (λ o. option_or o (Some s)) e
spot_or None spot None e = ap (λ o. option_or o None) e

plain_places : (nodes : List Node) (k : Kind) (n : Node) (a : ℕ) → ((target : RegionId) (offset : ℕ) → k ≡ Alias target offset → ⊥) →
    places nodes k n a ≡ places_of a (children_of nodes n.id)
plain_places nodes (Alias target offset) n a h = absurd (h target offset refl)
plain_places nodes _ n a h = refl

-- a region that is no alias was looked into by its children, and then by itself
pub with_own : (f : Forest) (below : Search) (k : Kind) (n : Node) (a : ℕ) (old new : List Look) (ts : List Tried) (spot own : Option Spot) →
    ((target : RegionId) (offset : ℕ) → k ≡ Alias target offset → ⊥) →
    SeesAmong f (places_of a (children_of f.nodes n.id)) (first_of_children below (children_of f.nodes n.id) a) old new ts spot →
    itself f.global n.kind n a ≡ option_map (λ s. (s, [])) own → SeesAmong f (places f.nodes k n a) (inside f below k n a) old new ts (option_or spot own)
with_own f below k n a old new ts spot own no_alias h e =
    let x = first_of_children below (children_of f.nodes n.id) a in
    let whole : inside f below k n a ≡ option_or x (option_map (λ (s : Spot). let y : Found = (s, []) in y) own) =
    inside-own f below k n a no_alias ∙ ap (option_or x) e in
    record {
      found = spot_or x spot own h.found ∙ ap spot_of (sym whole);
      so = subst (λ ps. AreTried f false ps ts) (sym (plain_places f.nodes k n a no_alias)) h.so;
      followed = h.followed;
      went = record {
        path = h.went.path ∙ ap (λ rs. answering old ++ reverse rs) (sym (ap path_of whole ∙ path_or x own));
        grows = h.went.grows;
        looked = h.went.looked;
      };
    }

-- the children one after another

tried_push : (f : Forest) (b : Bool) (ps : List Place) (ts : List Tried) (p : Place) (o : Outcome) → AreTried f b ps ts →
    IsSo f (b || list_any (λ t. is_answer t.outcome) ts) p o → AreTried f b (ps ++ p ∷ []) (ts ++ tried p.0 o ∷ [])
tried_push f b [] [] p o h s = (refl, subst (λ c. IsSo f c p o) (or_false b) s, tt) where
  or_false : (b : Bool) → (b || false) ≡ b
  or_false true = refl
  or_false false = refl
tried_push f b [] (t ∷ ts) p o h s = absurd h
tried_push f b (q ∷ ps) [] p o h s = absurd h
tried_push f b (q ∷ ps) (t ∷ ts) p o h s = (
  h.0,
  h.1,
  tried_push f (b || is_answer t.outcome) ps ts p o h.2
      (subst (λ c. IsSo f c p o) (or_joins b (is_answer t.outcome) (list_any (λ t. is_answer t.outcome) ts)) s),
)

any_push : (ts : List Tried) (t : Tried) → list_any (λ t. is_answer t.outcome) (ts ++ t ∷ []) ≡ (list_any (λ t. is_answer t.outcome) ts || is_answer t.outcome)
any_push [] t = one (is_answer t.outcome) where
  one : (b : Bool) → (b || false) ≡ (false || b)
  one true = refl
  one false = refl
any_push (x ∷ xs) t = ap (λ b. is_answer x.outcome || b) (any_push xs t)
    ∙ or_joins (is_answer x.outcome) (list_any (λ t. is_answer t.outcome) xs) (is_answer t.outcome)

first_push : (below : Search) (cs : List Node) (c : Node) (a : ℕ) →
    first_of_children below (cs ++ c ∷ []) a ≡ option_or (first_of_children below cs a) (tried_in below c a)
first_push below [] c a = last (tried_in below c a) where
  last : (x : Option Found) → option_or x None ≡ option_or None x
  last (Some x) = refl
  last None = refl
first_push below (d ∷ cs) c a = ap (option_or (tried_in below d a)) (first_push below cs c a)
    ∙ over (tried_in below d a) (first_of_children below cs a) (tried_in below c a)
  where
    over : (x y z : Option Found) → option_or x (option_or y z) ≡ option_or (option_or x y) z
    over (Some x) y z = refl
    over None y z = refl

-- the trials so far, and whether one of them answers
pub record SoFar (f : Forest) (below : Search) (cs : List Node) (a : ℕ) (old new : List Look) (ts : List Tried) (spot : Option Spot) : Type 0 where
  pub among : SeesAmong f (places_of a cs) (first_of_children below cs a) old new ts spot
  pub answers : list_any (λ t. is_answer t.outcome) ts ≡ is_some (first_of_children below cs a)

-- one child more, where none so far answers, or one does
next_found : (f : Forest) (c : Node) (a : ℕ) (x y : Option Found) (old mid new : List Look) (spot : Option Spot) (s : Sight) → spot ≡ spot_of x →
    answering mid ≡ answering old ++ reverse (path_of x) → Sees f (is_some spot) (place_in a c) (unless (is_some spot) y) mid new s →
    (option_or spot s.spot ≡ spot_of (option_or x y)) × (answering new ≡ answering old ++ reverse (path_of (option_or x y)))
    × ((is_some x || is_answer s.outcome) ≡ is_some (option_or x y))
next_found f c a (Some x) y old mid new spot s e w h =
    let nothing : unless (is_some spot) y ≡ None = ap (λ o. unless (is_some o) y) e in (
      ap (λ o. option_or o s.spot) e,
      h.went.path ∙ ap (λ o. answering mid ++ reverse (path_of o)) nothing ∙ append-nil (answering mid) ∙ w,
      refl,
    )
next_found f c a None y old mid new spot s e w h =
    let it : unless (is_some spot) y ≡ y = ap (λ o. unless (is_some o) y) e in (
      ap (λ o. option_or o s.spot) e ∙ h.spot ∙ ap spot_of it,
      h.went.path ∙ ap (λ o. answering mid ++ reverse (path_of o)) it ∙ ap (λ rs. rs ++ reverse (path_of y)) (w ∙ append-nil (answering old)),
      h.answers ∙ ap is_some it,
    )

is_some_spot : (x : Option Found) → is_some (spot_of x) ≡ is_some x
is_some_spot None = refl
is_some_spot (Some x) = refl

places_push : (a : ℕ) (cs : List Node) (c : Node) → places_of a (cs ++ c ∷ []) ≡ places_of a cs ++ place_in a c ∷ []
places_push a [] c = refl
places_push a (d ∷ cs) c = ap (λ ps. place_in a d ∷ ps) (places_push a cs c)

pub next_child : (f : Forest) (below : Search) (cs : List Node) (c : Node) (a : ℕ) (old mid new : List Look) (ts : List Tried) (spot : Option Spot) (s : Sight) →
    SoFar f below cs a old mid ts spot → Sees f (is_some spot) (place_in a c) (unless (is_some spot) (tried_in below c a)) mid new s →
    SoFar f below (cs ++ c ∷ []) a old new (ts ++ tried c.id s.outcome ∷ []) (option_or spot s.spot)
next_child f below cs c a old mid new ts spot s h k =
    let x = first_of_children below cs a in
    let y = tried_in below c a in
    let whole = first_push below cs c a in
    let both = next_found f c a x y old mid new spot s h.among.found h.among.went.path k in
    let flag : list_any (λ t. is_answer t.outcome) ts ≡ is_some spot = h.answers ∙ sym (ap is_some h.among.found ∙ is_some_spot x) in
    record {
      among = record {
        found = both.0 ∙ ap spot_of (sym whole);
        so = subst (λ ps. AreTried f false ps (ts ++ tried c.id s.outcome ∷ [])) (sym (places_push a cs c))
            (tried_push f false (places_of a cs) ts (place_in a c) s.outcome h.among.so (subst (λ b. IsSo f b (place_in a c) s.outcome) (sym flag) k.so));
        followed = every_push (λ t. IsFollowed new t.region t.outcome) ts (tried c.id s.outcome)
            (all_followed_in mid new (covers_grown mid new k.went.grows) ts h.among.followed) k.followed;
        went = record {
          path = both.1 ∙ ap (λ o. answering old ++ reverse (path_of o)) (sym whole);
          grows = grows_on old mid new h.among.went.grows k.went.grows;
          looked = k.went.looked;
        };
      };
      answers = any_push ts (tried c.id s.outcome) ∙ ap (λ b. b || is_answer s.outcome) h.answers ∙ both.2 ∙ ap is_some (sym whole);
    }

-- no child yet
pub no_child : (f : Forest) (below : Search) (a : ℕ) (looks : List Look) → AreLooked f looks → SoFar f below [] a looks looks [] None
no_child f below a looks h = record {
  among = record { found = refl; so = tt; followed = tt; went = stays f None looks refl h };
  answers = refl;
}

-- one child

-- a child that begins after the offset
pub begins_after : (f : Forest) (below : Search) (answered : Bool) (c : Node) (a : ℕ) (looks : List Look) → a < c.offset → AreLooked f looks →
    Sees f answered (place_in a c) (unless answered (tried_in below c a)) looks looks (sight BeginsAfter None)
begins_after f below answered c a looks l h =
    let past : nat_le c.offset a ≡ false = grind (arith, nat_tests) in
    let none : tried_in below c a ≡ None = ap (λ b. cond b (below c.id (a - c.offset)) None) past in
    not_looked f answered (place_in a c) _ looks BeginsAfter (nothing answered (tried_in below c a) none) refl
    (ap (λ b. if b then Some (a - c.offset) else None) past) tt h
  where
    nothing : (b : Bool) (x : Option Found) → x ≡ None → unless b x ≡ None
    nothing true x e = refl
    nothing false x e = e

held : (c : Node) (a : ℕ) → c.offset ≤ a → (place_in a c).1 ≡ Some (a - c.offset)
held c a l = let within : nat_le c.offset a ≡ true = grind (arith, nat_tests) in ap (λ b. if b then Some (a - c.offset) else None) within

-- a child that comes after one that answers
pub comes_later : (f : Forest) (below : Search) (answered : Bool) (c : Node) (a : ℕ) (looks : List Look) → answered ≡ true → node_of f.nodes c.id ≡ Some c →
    c.offset ≤ a → AreLooked f looks →
    Sees f answered (place_in a c) (unless answered (tried_in below c a)) looks looks (sight (later c (a - c.offset)) None)
comes_later f below answered c a looks e k l h =
    let none : unless answered (tried_in below c a) ≡ None = ap (λ b. unless b (tried_in below c a)) e in
    go (nat_le c.size (a - c.offset)) c.enabled refl refl none
  where
    go : (b t : Bool) → nat_le c.size (a - c.offset) ≡ b → c.enabled ≡ t → unless answered (tried_in below c a) ≡ None →
        Sees f answered (place_in a c) (unless answered (tried_in below c a)) looks looks (sight (later c (a - c.offset)) None)
    go true t p q none =
        let o : later c (a - c.offset) ≡ EndsBefore = ap (λ b. if b then EndsBefore else (if c.enabled then TriedLater else Disabled)) p in
        let out : c.size ≤ a - c.offset = grind (arith, nat_tests) in
        subst (λ o. Sees f answered (place_in a c) (unless answered (tried_in below c a)) looks looks (sight o None)) (sym o)
        (not_looked f answered (place_in a c) _ looks EndsBefore none refl (a - c.offset, held c a l, (c, k, out)) tt h)
    go false true p q none =
        let o : later c (a - c.offset) ≡ TriedLater = ap (λ b. if b then EndsBefore else (if c.enabled then TriedLater else Disabled)) p
        ∙ ap (λ b. if b then TriedLater else Disabled) q in
        let within : a - c.offset < c.size = grind (arith, nat_tests) in
        subst (λ o. Sees f answered (place_in a c) (unless answered (tried_in below c a)) looks looks (sight o None)) (sym o)
        (not_looked f answered (place_in a c) _ looks TriedLater none refl (e, (a - c.offset, held c a l, (c, k, (q, within)))) tt h)
    go false false p q none =
        let o : later c (a - c.offset) ≡ Disabled = ap (λ b. if b then EndsBefore else (if c.enabled then TriedLater else Disabled)) p
        ∙ ap (λ b. if b then TriedLater else Disabled) q in
        let within : a - c.offset < c.size = grind (arith, nat_tests) in
        subst (λ o. Sees f answered (place_in a c) (unless answered (tried_in below c a)) looks looks (sight o None)) (sym o)
        (not_looked f answered (place_in a c) _ looks Disabled none refl (a - c.offset, held c a l, (c, k, (q, within))) tt h)

-- a child that is tried where none before it answers
pub is_tried : (f : Forest) (below : Search) (answered : Bool) (c : Node) (a : ℕ) (old new : List Look) (s : Sight) → answered ≡ false → c.offset ≤ a →
    Sees f false (c.id, Some (a - c.offset)) (below c.id (a - c.offset)) old new s →
    Sees f answered (place_in a c) (unless answered (tried_in below c a)) old new s
is_tried f below answered c a old new s e l h =
    let within : nat_le c.offset a ≡ true = grind (arith, nat_tests) in
    let place : (c.id, Some (a - c.offset)) ≡ place_in a c = ap (λ (o : Option ℕ). let p : Place = (c.id, o) in p) (sym (held c a l)) in
    let found : below c.id (a - c.offset) ≡ unless answered (tried_in below c a) =
    sym (ap (λ b. unless b (tried_in below c a)) e ∙ ap (λ b. cond b (below c.id (a - c.offset)) None) within) in
    subst (λ x. Sees f answered (place_in a c) x old new s) found
    (subst (λ p. Sees f answered p (below c.id (a - c.offset)) old new s) place
    (subst (λ b. Sees f b (c.id, Some (a - c.offset)) (below c.id (a - c.offset)) old new s) (sym e) h))
