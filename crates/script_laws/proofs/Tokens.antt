-- Bytes that stand in tokens, and what it is to be spelled.
use Rattle.std.proofs.Common.{◌≡◌, ◌&&◌, ℕ, Bool, true, nat_le, nat_lt, length, [], ◌∷◌, refl, sym}
use Rattle.std.proofs.Common.{arith, Option, Some}
use Rattle.std.specs.List.{list_all}
use Rattle.std.proofs.lemmas.Bool.Decides.{nat_tests}
use Rattle.mem_base.specs.script.Spelling.{Text, is_name, may_follow, begins_with_letter}
use Rattle.std.proofs.lemmas.Bool.{and_parts, and_from}
pub use Rattle.mem_base.specs.script.Sound.{are_tokens, is_graphic, is_token}

-- the text is a token, which has this value
pub record Spelled {X : Type 0} (value : Text → Option X) (text : Text) (x : X) : Type 0 where
  pub token : is_token text ≡ true
  pub reads : value text ≡ Some x

-- whatever has a value, its value printed has that value too
abbrev pub Law : {X : Type 0} → (Text → Option X) → (X → Text) → Type 0
Law value show = (token : Text) (x : _) → value token ≡ Some x → Spelled value (show x) x

pub list_all-more : (p q : ℕ → Bool) → ((b : ℕ) → p b ≡ true → q b ≡ true) → (text : Text) → list_all p text ≡ true → list_all q text ≡ true
list_all-more p q h [] e = refl
list_all-more p q h (b ∷ bs) e = let both = and_parts (p b) (list_all p bs) e in and_from (q b) (list_all q bs) (h b both.0) (list_all-more p q h bs both.1)

may_follow-graphic : (b : ℕ) → may_follow b ≡ true → is_graphic b ≡ true
may_follow-graphic b h = grind (arith, nat_tests)

some_begin : (text : Text) → begins_with_letter text ≡ true → nat_lt 0 (length text) ≡ true
some_begin [] h = absurd (Rattle.std.proofs.Common.true≢false (sym h))
some_begin (b ∷ bs) h = grind (arith, nat_tests)

-- a name is a token
pub name-token : (text : Text) → is_name text ≡ true → is_token text ≡ true
name-token text h =
    let front = and_parts (begins_with_letter text && nat_le (length text) 32) (list_all may_follow text) h in
    let first = and_parts (begins_with_letter text) (nat_le (length text) 32) front.0 in
    and_from (nat_lt 0 (length text)) (list_all is_graphic text) (some_begin text first.0) (list_all-more may_follow is_graphic may_follow-graphic text front.1)

pub token_more : (b : ℕ) (bs : Text) → is_graphic b ≡ true → list_all is_graphic bs ≡ true → is_token (b ∷ bs) ≡ true
token_more b bs h k = and_from (nat_lt 0 (length (b ∷ bs))) (list_all is_graphic (b ∷ bs)) (grind (arith, nat_tests))
    (and_from (is_graphic b) (list_all is_graphic bs) h k)
