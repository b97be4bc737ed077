-- Bytes that are read one after another.
use Rattle.std.proofs.Common.{◌≡◌, ◌==◌, ◌≤◌, ℕ, List, [], ◌∷◌, ◌++◌, true, false, None, Some, refl, sym, ap, ◌∙◌, append_assoc}
use Rattle.std.proofs.Common.{option_map, length, arith, eqb-true}
use Rattle.std.specs.declared.option.Option.{Option}
use Rattle.mem_base.specs.script.Spelling.{byte_of, byte_pairs}

pub more_bytes : (front : List ℕ) (b : ℕ) (o : Option (List ℕ))
    → option_map (λ bs. (front ++ b ∷ []) ++ bs) o ≡ option_map (λ bs. front ++ bs) (option_map (λ bs. b ∷ bs) o)
more_bytes front b None = refl
more_bytes front b (Some bs) = ap Some (append_assoc front (b ∷ []) bs)

pub next_pair : (front text rest whole : List ℕ) (high low b : ℕ) → text ≡ high ∷ low ∷ rest → byte_of high low ≡ Some b
    → option_map (λ bs. front ++ bs) (byte_pairs text) ≡ byte_pairs whole
    → option_map (λ bs. (front ++ b ∷ []) ++ bs) (byte_pairs rest) ≡ byte_pairs whole
next_pair front text rest whole high low b e is h =
    let here : byte_pairs text ≡ option_map (λ bs. b ∷ bs) (byte_pairs rest) = rw e (rw is refl) in
    more_bytes front b (byte_pairs rest) ∙ ap (option_map (λ bs. front ++ bs)) (sym here) ∙ h

pub bad_pair : (front text rest whole : List ℕ) (high low : ℕ) → text ≡ high ∷ low ∷ rest → byte_of high low ≡ None
    → option_map (λ bs. front ++ bs) (byte_pairs text) ≡ byte_pairs whole → byte_pairs whole ≡ None
bad_pair front text rest whole high low e is h =
    let here : byte_pairs text ≡ None = rw e (rw is refl) in
    sym h ∙ ap (option_map (λ bs. front ++ bs)) here

pub one_left : (front text whole : List ℕ) → length text ≤ 1 → (length text == 0) ≡ false
    → option_map (λ bs. front ++ bs) (byte_pairs text) ≡ byte_pairs whole → byte_pairs whole ≡ None
one_left front (b ∷ []) whole few some h = sym h
one_left front [] whole few some h = absurd (Rattle.std.proofs.Common.true≢false some)
one_left front (a ∷ b ∷ bs) whole few some h = absurd (omega (arith, few))

append_nil : (xs : List ℕ) → xs ++ [] ≡ xs
append_nil [] = refl
append_nil (x ∷ xs) = ap (λ ys. x ∷ ys) (append_nil xs)

pub none_left : (front text whole : List ℕ) → (length text == 0) ≡ true
    → option_map (λ bs. front ++ bs) (byte_pairs text) ≡ byte_pairs whole → byte_pairs whole ≡ Some front
none_left front [] whole none h = sym h ∙ ap Some (append_nil front)
none_left front (b ∷ bs) whole none h = absurd (omega (arith, eqb-true (length (b ∷ bs)) 0 none))
