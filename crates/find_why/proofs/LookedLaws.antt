-- Laws of the regions that were looked into: what is told of them stays so as more is looked into.
use Rattle.std.proofs.Common.{◌≡◌, Bool, true, false, cond, List, [], ◌∷◌, ◌++◌, map, reverse, refl, sym, ap, subst, ◌∙◌, inl, inr}
use Rattle.std.specs.Prelude.{filter, if◌then◌else◌}
use Rattle.std.proofs.lemmas.List.{append-nil, append_assoc, reverse-append}
use Rattle.mem_base.specs.declared.map.ids.RegionId.{RegionId}
use Rattle.mem_base.specs.declared.map.forests.Forest.{Forest}
use Rattle.mem_base.specs.lists.Every.{Every}
use Rattle.mem_base.proofs.EveryLaws.{weaker, every_push}
use Rattle.find_why.specs.declared.looks.Look.{Look}
use Rattle.find_why.specs.declared.looks.Outcome.{Outcome}
use Rattle.find_why.specs.declared.looks.Outcome.TheVariants.{Answers, Hole}
use Rattle.find_why.specs.declared.looks.Tried.{Tried}
use Rattle.find_why.specs.Looked.{Some_of, IsLook, IsFollowed, AreFollowed, IsLooked, AreLooked, Grows, answering}

-- what some of the first are, some of the second are
abbrev pub Covers : List Look → List Look → Type 1
Covers old new = (P : Look → Type 0) → Some_of P old → Some_of P new

pub some_first : (xs ys : List Look) → Covers xs (xs ++ ys)
some_first [] ys P h = absurd h
some_first (x ∷ xs) ys P (inl h) = inl h
some_first (x ∷ xs) ys P (inr h) = inr (some_first xs ys P h)

pub some_rest : (xs ys : List Look) → Covers ys (xs ++ ys)
some_rest [] ys P h = h
some_rest (x ∷ xs) ys P h = inr (some_rest xs ys P h)

pub some_last : (P : Look → Type 0) (xs : List Look) (y : Look) → P y → Some_of P (xs ++ y ∷ [])
some_last P xs y h = some_rest xs (y ∷ []) P (inl h)

pub covers_grown : (old new : List Look) → Grows old new → Covers old new
covers_grown old new g P h = subst (λ l. Some_of P l) (sym g.1) (some_first old g.0 P h)

reverse_one : (x : Look) (xs : List Look) → reverse (x ∷ xs) ≡ reverse xs ++ x ∷ []
reverse_one x xs = reverse-append (x ∷ []) xs

pub covers_reversed : (xs : List Look) → Covers xs (reverse xs)
covers_reversed [] P h = absurd h
covers_reversed (x ∷ xs) P (inl h) = subst (λ l. Some_of P l) (sym (reverse_one x xs)) (some_last P (reverse xs) x h)
covers_reversed (x ∷ xs) P (inr h) = subst (λ l. Some_of P l) (sym (reverse_one x xs)) (some_first (reverse xs) (x ∷ []) P (covers_reversed xs P h))

pub followed_in : (old new : List Look) → Covers old new → (r : RegionId) (o : Outcome) → IsFollowed old r o → IsFollowed new r o
followed_in old new g r (Answers a) h = g (IsLook r a true) h
followed_in old new g r (Hole a) h = g (IsLook r a false) h
followed_in old new g r _ h = tt

pub all_followed_in : (old new : List Look) → Covers old new → (tried : List Tried) → AreFollowed old tried → AreFollowed new tried
all_followed_in old new g tried h = weaker (λ t. IsFollowed old t.region t.outcome) (λ t. IsFollowed new t.region t.outcome)
    (λ t w. followed_in old new g t.region t.outcome w) tried h

pub looked_in : (f : Forest) (old new : List Look) → Covers old new → (l : Look) → IsLooked f old l → IsLooked f new l
looked_in f old new g l h = record {
  node = h.node;
  known = h.known;
  holds = h.holds;
  tried = h.tried;
  followed = all_followed_in old new g l.trials h.followed;
  found = h.found;
}

pub grows_not : (l : List Look) → Grows l l
grows_not l = ([], sym (append-nil l))

pub grows_on : (a b c : List Look) → Grows a b → Grows b c → Grows a c
grows_on a b c g h = (g.0 ++ h.0, h.1 ∙ ap (λ l. l ++ h.0) g.1 ∙ append_assoc a g.0 h.0)

-- one more was looked into
pub one_more : (f : Forest) (looks : List Look) (l : Look) → AreLooked f looks → IsLooked f looks l → AreLooked f (looks ++ l ∷ [])
one_more f looks l h k =
    let g : Covers looks (looks ++ l ∷ []) = some_first looks (l ∷ []) in
    every_push (IsLooked f (looks ++ l ∷ [])) looks l
    (weaker (IsLooked f looks) (IsLooked f (looks ++ l ∷ [])) (λ x w. looked_in f looks (looks ++ l ∷ []) g x w) looks h)
    (looked_in f looks (looks ++ l ∷ []) g l k)

every_reversed : (P : Look → Type 0) (xs : List Look) → Every P xs → Every P (reverse xs)
every_reversed P [] h = tt
every_reversed P (x ∷ xs) h = subst (λ l. Every P l) (sym (reverse_one x xs)) (every_push P (reverse xs) x (every_reversed P xs h.1) h.0)

-- the order in which they are told does not matter
pub reversed_looked : (f : Forest) (looks : List Look) → AreLooked f looks → AreLooked f (reverse looks)
reversed_looked f looks h =
    every_reversed (IsLooked f (reverse looks)) looks
    (weaker (IsLooked f looks) (IsLooked f (reverse looks)) (λ x w. looked_in f looks (reverse looks) (covers_reversed looks) x w) looks h)

pub answering_both : (xs ys : List Look) → answering (xs ++ ys) ≡ answering xs ++ answering ys
answering_both [] ys = refl
answering_both (x ∷ xs) ys =
    let ih = answering_both xs ys in
    elim x.answers as (λ b. map (λ (l : Look). l.region) (cond b (x ∷ filter (λ (l : Look). l.answers) (xs ++ ys)) (filter (λ (l : Look). l.answers) (xs ++ ys)))
    ≡ map (λ (l : Look). l.region) (cond b (x ∷ filter (λ (l : Look). l.answers) xs) (filter (λ (l : Look). l.answers) xs)) ++ answering ys)
    [ true ↦ ap (λ rs. x.region ∷ rs) ih | false ↦ ih ]

pub answering_one : (looks : List Look) (l : Look) (b : Bool) → l.answers ≡ b → answering (looks ++ l ∷ []) ≡ answering looks ++ (if b then l.region ∷ [] else [])
answering_one looks l b e = answering_both looks (l ∷ []) ∙ ap (λ rs. answering looks ++ rs) (go b e) where
  go : (b : Bool) → l.answers ≡ b → answering (l ∷ []) ≡ (if b then l.region ∷ [] else [])
  go true e = ap (λ b. map (λ (l : Look). l.region) (cond b (l ∷ []) [])) e
  go false e = ap (λ b. map (λ (l : Look). l.region) (cond b (l ∷ []) [])) e

pub answering_reversed : (looks : List Look) → answering (reverse looks) ≡ reverse (answering looks)
answering_reversed [] = refl
answering_reversed (x ∷ xs) =
    let ih = answering_reversed xs in
    ap answering (reverse_one x xs) ∙ answering_both (reverse xs) (x ∷ []) ∙ ap (λ rs. rs ++ answering (x ∷ [])) ih
    ∙ ap (λ rs. reverse (answering xs) ++ rs) alone
    ∙ sym (reverse-append (answering (x ∷ [])) (answering xs)) ∙ ap reverse (sym (answering_both (x ∷ []) xs))
  where
    alone : answering (x ∷ []) ≡ reverse (answering (x ∷ []))
    alone = elim x.answers as (λ b. map (λ (l : Look). l.region) (cond b (x ∷ []) []) ≡ reverse (map (λ (l : Look). l.region) (cond b (x ∷ []) [])))
        [ true ↦ refl | false ↦ refl ]
