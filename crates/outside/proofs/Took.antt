-- What a sink took in one call after another.
use Rattle.std.proofs.Common.{◌≡◌, ℕ, List, [], ◌++◌, Bool, refl, sym, ap, subst, ◌∙◌, append_assoc, None, Some, take, drop, cond, true, false}
use Rattle.std.proofs.lemmas.List.{append-nil, take-append-drop}
use Rattle.std.specs.declared.option.Option.{Option}
use Rattle.outside.specs.Sink.{Grows, Takes, Stays, TakesPrefix}

pub Grows-nil : (o : Option (List ℕ)) → Grows o o []
Grows-nil None = tt
Grows-nil (Some xs) = sym (append-nil xs)

pub Grows-append : (a b c : Option (List ℕ)) (x y : List ℕ) → Grows a b x → Grows b c y → Grows a c (x ++ y)
Grows-append None None None x y p q = tt
Grows-append None None (Some zs) x y p q = q
Grows-append None (Some ys) c x y p q = absurd p
Grows-append (Some xs) None None x y p q = tt
Grows-append (Some xs) None (Some zs) x y p q = absurd q
Grows-append (Some xs) (Some ys) None x y p q = tt
Grows-append (Some xs) (Some ys) (Some zs) x y p q = q ∙ ap (λ v. v ++ y) p ∙ append_assoc xs x y

-- a call that takes nothing
pub Takes-nil : {K : Type 0} (written : K → Option (List ℕ)) (holds : K → List ℕ → Type 0) (s : K) → Takes written holds s s []
Takes-nil written holds s = record {
  told = Grows-nil (written s);
  held = λ t h. subst (holds s) (sym (append-nil t)) h;
}

-- two calls
pub Takes-append : {K : Type 0} (written : K → Option (List ℕ)) (holds : K → List ℕ → Type 0) (a b c : K) (x y : List ℕ)
    → Takes written holds a b x → Takes written holds b c y → Takes written holds a c (x ++ y)
Takes-append written holds a b c x y p q = record {
  told = Grows-append (written a) (written b) (written c) x y p.told q.told;
  held = λ t h. subst (holds c) (append_assoc t x y) (q.held (t ++ x) (p.held t h));
}

-- a call, and one that changes no meaning
pub Takes-Stays : {K : Type 0} (written : K → Option (List ℕ)) (holds : K → List ℕ → Type 0) (a b c : K) (x : List ℕ)
    → Takes written holds a b x → Stays written holds b c → Takes written holds a c x
Takes-Stays written holds a b c x p q = record {
  told = subst (λ v. Grows (written a) v x) (sym q.told) p.told;
  held = λ t h. q.held (t ++ x) (p.held t h);
}

-- the rest of a piece, cut at n
pub pieces_regroup : (piece front rest back : List ℕ) (n : ℕ) → piece ≡ front ++ rest → back ≡ drop n rest → piece ≡ (front ++ take n rest) ++ back
pieces_regroup piece front rest back n e b =
    e ∙ ap (λ v. front ++ v) (sym (take-append-drop n rest)) ∙ sym (append_assoc front (take n rest) (drop n rest))
    ∙ ap (λ v. (front ++ take n rest) ++ v) (sym b)

-- nothing is a prefix of each text
pub TakesPrefix-nil : {K : Type 0} (written : K → Option (List ℕ)) (holds : K → List ℕ → Type 0) (s : K) (text : List ℕ) → TakesPrefix written holds s s text
TakesPrefix-nil written holds s text = ([], text, refl, Takes-nil written holds s)

-- a text is a prefix of itself
pub TakesPrefix-all : {K : Type 0} (written : K → Option (List ℕ)) (holds : K → List ℕ → Type 0) (a b : K) (text : List ℕ)
    → Takes written holds a b text → TakesPrefix written holds a b text
TakesPrefix-all written holds a b text t = (text, [], sym (append-nil text), t)

-- a part, and then a prefix of the next part
pub TakesPrefix-after : {K : Type 0} (written : K → Option (List ℕ)) (holds : K → List ℕ → Type 0) (a b c : K) (text done part more : List ℕ)
    → Takes written holds a b done → TakesPrefix written holds b c part → text ≡ done ++ (part ++ more) → TakesPrefix written holds a c text
TakesPrefix-after written holds a b c text done part more t p e = (
  done ++ p.0,
  p.1 ++ more,
  e ∙ ap (λ v. done ++ (v ++ more)) p.2 ∙ ap (λ v. done ++ v) (append_assoc p.0 p.1 more) ∙ sym (append_assoc done p.0 (p.1 ++ more)),
  Takes-append written holds a b c done p.0 t p.3,
)

-- a sink that holds its bytes alone as long as it is whole, and each text else
pub whole_told : (whole : Bool) (old new more : List ℕ) → new ≡ old ++ more → Grows (cond whole (Some old) None) (cond whole (Some new) None) more
whole_told true old new more e = e
whole_told false old new more e = tt

pub whole_held : (whole : Bool) (text old new more : List ℕ) → new ≡ old ++ more
    → (whole ≡ true → text ≡ old) → whole ≡ true → text ++ more ≡ new
whole_held whole text old new more e h w = ap (λ v. v ++ more) (h w) ∙ sym e
