-- Lines that are made of texts one after another.
use Rattle.std.proofs.Common.{◌≡◌, ◌<◌, ◌+◌, ℕ, suc, List, ◌∷◌, ◌++◌, length, drop, get_or, Result, Ok, Err, Option, sym, ap, ◌∙◌, append_assoc, add-one, codes}
use Rattle.std.specs.Prelude.{OnOk, decimal, flat_map}
use Rattle.std.proofs.Math.Seq.{drop-cons}
use Rattle.mem_base.specs.script.RefusalLines.{line_feed}
use Rattle.mem_base.specs.script.Spelling.{Text}
use Rattle.script_lint.specs.Refusals.{since_text}

-- a text with a number, and another one
pub number_added : {T E : Type 0} (r : Result T E) (old a new head rest : Text) (n m : ℕ) → m ≡ n → a ≡ old ++ (head ++ decimal m)
    → OnOk r (new ≡ a ++ rest) → OnOk r (new ≡ old ++ ((head ++ decimal n) ++ rest))
number_added (Err x) old a new head rest n m is begun h = tt
number_added (Ok x) old a new head rest n m is begun h =
    h ∙ ap (λ (t : Text). t ++ rest) begun ∙ append_assoc old (head ++ decimal m) rest
    ∙ ap (λ (i : ℕ). old ++ ((head ++ decimal i) ++ rest)) is

-- the same as a line
pub line_added : {T E : Type 0} (r : Result T E) (old a b new head rest : Text) (n m : ℕ) → m ≡ n → a ≡ old ++ (head ++ decimal m) → b ≡ a ++ rest
    → OnOk r (new ≡ b ++ line_feed) → OnOk r (new ≡ old ++ ((head ++ decimal n) ++ (rest ++ line_feed)))
line_added (Err x) old a b new head rest n m is begun told h = tt
line_added (Ok x) old a b new head rest n m is begun told h =
    h ∙ ap (λ (t : Text). t ++ line_feed) told ∙ append_assoc a rest line_feed
    ∙ ap (λ (t : Text). t ++ (rest ++ line_feed)) begun ∙ append_assoc old (head ++ decimal m) (rest ++ line_feed)
    ∙ ap (λ (i : ℕ). old ++ ((head ++ decimal i) ++ (rest ++ line_feed))) is

-- a refusal
pub refusal_added : {T E : Type 0} (r : Result T E) (old a b d new words said : Text) (since from : Option ℕ) (n m : ℕ) → m ≡ n → said ≡ words
    → from ≡ since → a ≡ old ++ (codes "line " ++ decimal m) → b ≡ a ++ (codes " is refused: " ++ said) → d ≡ b ++ since_text from
    → OnOk r (new ≡ d ++ line_feed)
    → OnOk r (new ≡ old ++ ((codes "line " ++ decimal n) ++ ((codes " is refused: " ++ words) ++ (since_text since ++ line_feed))))
refusal_added (Err x) old a b d new words said since from n m is same because begun told given h = tt
refusal_added (Ok x) old a b d new words said since from n m is same because begun told given h =
    let head : Text = codes "line " ++ decimal m in
    let part : Text = codes " is refused: " ++ said in
    let rest : Text = since_text from ++ line_feed in
    h ∙ ap (λ (t : Text). t ++ line_feed) given ∙ append_assoc b (since_text from) line_feed
    ∙ ap (λ (t : Text). t ++ rest) told ∙ append_assoc a part rest
    ∙ ap (λ (t : Text). t ++ (part ++ rest)) begun ∙ append_assoc old head (part ++ rest)
    ∙ (λ i. old ++ ((codes "line " ++ decimal (is i)) ++ ((codes " is refused: " ++ same i) ++ (since_text (because i) ++ line_feed))))

-- one text more of those that a function gives
pub flat_next : {X : Type 0} (f : X → Text) (xs : List X) (i : ℕ) (d x : X) (old new whole : Text) → i < length xs → x ≡ get_or xs i d
    → new ≡ old ++ f x → old ++ flat_map f (drop i xs) ≡ whole → new ++ flat_map f (drop (i + 1) xs) ≡ whole
flat_next f xs i d x old new whole l is e h =
    let cut : drop i xs ≡ x ∷ drop (i + 1) xs =
    drop-cons xs i d l ∙ ap (λ y. y ∷ drop (suc i) xs) (sym is) ∙ ap (λ n. x ∷ drop n xs) (sym (add-one i))
    in
    ap (λ (t : Text). t ++ flat_map f (drop (i + 1) xs)) e ∙ append_assoc old (f x) (flat_map f (drop (i + 1) xs))
    ∙ ap (λ ys. old ++ flat_map f ys) (sym cut) ∙ h
