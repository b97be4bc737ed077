-- A line whose tokens are looked at one after another.
use Rattle.std.proofs.Common.{◌≡◌, ◌<◌, ◌≤◌, ◌+◌, ℕ, zero, suc, List, [], ◌∷◌, ◌++◌, length, take, drop, position, Some, None, refl, sym, ap, ◌∙◌, subst, arith, true≢false}
use Rattle.std.proofs.lemmas.List.{drop-drop, take_all}
use Rattle.mem_base.specs.script.Spelling.{Text}
use Rattle.mem_base.specs.script.Lines.{is_gap, tokens_of}
use Rattle.script_text.proofs.Cuts.{token_first, token_last}
use Rattle.script_marks.specs.Marks.{Fails, IsShort, Opens, OpensNone, is_plain}
use Rattle.script_marks.proofs.Cuts.{all_front, cut_at, gap_last, gap_there}
use Rattle.script_marks.proofs.Readings.{begun}

-- what stands before the rest opens a line, and the rest begins with no part of a token
pub record Cut (text : Text) (start : ℕ) (rest : Text) : Type 0 where
  pub rest_is : rest ≡ drop start text
  pub within : start ≤ length text
  pub opens : Opens (tokens_of (take start text))
  pub cut : tokens_of text ≡ tokens_of (take start text) ++ tokens_of (drop start text)

pub cut_first : (text : Text) → Cut text 0 text
cut_first text = record { rest_is = refl; within = omega arith; opens = begun; cut = refl }

gap_in : (text : Text) (start len : ℕ) (rest : Text) → rest ≡ drop start text → position is_gap rest ≡ Some len → position is_gap (drop start text) ≡ Some len
gap_in text start len rest is e = subst (λ (t : Text). position is_gap t ≡ Some len) is e

pub gap_within : (text : Text) (start len : ℕ) (rest : Text) → Cut text start rest → position is_gap rest ≡ Some len → start + len ≤ length text
gap_within text start len rest c e =
    let l : start + len < length text = (gap_there text start len (gap_in text start len rest c.rest_is e)).0 in omega (arith, l)

pub rest_within : (text : Text) (start : ℕ) (rest : Text) → Cut text start rest → start + length rest ≡ length text
rest_within text start rest c =
    let n : length (drop start text) + start ≡ length text = drop_length text start c.within in
    ap (λ (t : Text). start + length t) c.rest_is ∙ omega (arith, n)
  where
    drop_length : (text : Text) (start : ℕ) → start ≤ length text → length (drop start text) + start ≡ length text
    drop_length text zero l = omega arith
    drop_length [] (suc n) l = absurd (omega (arith, l))
    drop_length (b ∷ bs) (suc n) l = let h = drop_length bs n (omega (arith, l)) in omega (arith, h)

-- no text both opens a line and opens none
clash : {G : Type 0} (ts : List Text) → Opens ts → OpensNone ts → G
clash ts h k = absurd (true≢false (sym h.1 ∙ k h.0))

short_front : (text : Text) (n : ℕ) → IsShort text → IsShort (take n text)
short_front text n h =
    let l : length (take n text) ≤ length text = front_length text n in
    let k : length text ≤ 65536 = h.1 in (all_front is_plain text n h.0, omega (arith, l, k))
  where
    front_length : (text : Text) (n : ℕ) → length (take n text) ≤ length text
    front_length text zero = omega arith
    front_length [] (suc n) = omega arith
    front_length (b ∷ bs) (suc n) = let h = front_length bs n in omega (arith, h)

-- a token more, or a gap
pub cut_next : (text : Text) (start len : ℕ) (rest : Text) → Cut text start rest → position is_gap rest ≡ Some len
    → Opens (tokens_of (take (start + len) text)) → Cut text (start + (len + 1)) (drop (len + 1) rest)
cut_next text start len rest c e k =
    let there = gap_there text start len (gap_in text start len rest c.rest_is e) in
    let within : start + len < length text = there.0 in
    let same : (start + len) + 1 ≡ start + (len + 1) = omega arith in
    let last : tokens_of (take (start + (len + 1)) text) ≡ tokens_of (take (start + len) text) =
    ap (λ (n : ℕ). tokens_of (take n text)) (sym same) ∙ gap_last text (start + len) there.0 there.1
    in
    let back = sym last in record {
      rest_is = ap (drop (len + 1)) c.rest_is ∙ drop-drop (len + 1) start text;
      within = omega (arith, within);
      opens = subst Opens back k;
      cut = cut_at text (start + len) there.0 there.1 ∙ (λ i. back i ++ tokens_of (drop (same i) text));
    }

no_length : {G : Type 0} (n : ℕ) → suc n ≡ 0 → G
no_length n e = absurd (omega (arith, e))

nothing : {G : Type 0} → 0 < 0 → G
nothing l = absurd (omega (arith, l))

-- a token that a gap follows
pub fails_here : (text : Text) (start len : ℕ) (rest : Text) → IsShort text → Cut text start rest → position is_gap rest ≡ Some len
    → (IsShort (take (start + len) text) → OpensNone (tokens_of (take (start + len) text))) → Fails text (record { start = start; len = len })
fails_here text start zero rest s c e none =
    clash (tokens_of (take (start + 0) text))
    (subst (λ (n : ℕ). Opens (tokens_of (take n text))) (let z : start ≡ start + 0 = omega arith in z) c.opens) (none (short_front text (start + 0) s))
fails_here text start (suc n) rest s c e none = record {
  opens = c.opens;
  fails = λ l. none (short_front text (start + suc n) s);
  token = λ l. (
    tokens_of (drop (suc n + 1) (drop start text)),
    c.cut
        ∙ ap (λ ts. tokens_of (take start text) ++ ts) (token_first (suc n) (drop start text) (gap_in text start (suc n) rest c.rest_is e) l),
  );
  missing = no_length n;
}

-- the last token
pub fails_last : (text : Text) (start len : ℕ) (rest : Text) → IsShort text → Cut text start rest → position is_gap rest ≡ None → len ≡ length rest
    → (IsShort text → OpensNone (tokens_of text)) → Fails text (record { start = start; len = len })
fails_last text start zero rest s c e is none =
    let n : start + length rest ≡ length text = rest_within text start rest c in
    let end : start ≡ length text = omega (arith, n, is) in
    clash (tokens_of text)
    (subst Opens (ap tokens_of (ap (λ (i : ℕ). take i text) end ∙ take_all (length text) text (omega arith))) c.opens) (none s)
fails_last text start (suc k) rest s c e is none = record {
  opens = c.opens;
  fails = λ l. subst (λ (t : Text). OpensNone (tokens_of t)) (sym all) (none s);
  token = λ l. ([], c.cut ∙ ap (λ ts. tokens_of (take start text) ++ ts) token);
  missing = no_length k;
}
  where
    ends : start + suc k ≡ length text
    ends = let n : start + length rest ≡ length text = rest_within text start rest c in omega (arith, n, is)

    all : take (start + suc k) text ≡ text
    all = take_all (start + suc k) text (let n : start + suc k ≡ length text = ends in omega (arith, n))

    many : length (drop start text) ≡ suc k
    many = ap length (sym c.rest_is) ∙ sym is

    whole : take (suc k) (drop start text) ≡ drop start text
    whole = take_all (suc k) (drop start text) (let n : length (drop start text) ≡ suc k = many in omega (arith, n))

    token : tokens_of (drop start text) ≡ take (suc k) (drop start text) ∷ []
    token = token_last (drop start text) (subst (λ (t : Text). position is_gap t ≡ None) c.rest_is e)
        (let n : length (drop start text) ≡ suc k = many in omega (arith, n))
        ∙ ap (λ (t : Text). t ∷ []) (sym whole)

-- a token is missing
pub missing_here : (text : Text) → Opens (tokens_of text) → Fails text (record { start = length text; len = 0 })
missing_here text h =
    let all : take (length text) text ≡ text = take_all (length text) text (omega arith) in record {
      opens = subst (λ (t : Text). Opens (tokens_of t)) (sym all) h;
      fails = λ l. nothing l;
      token = λ l. nothing l;
      missing = λ l. ap tokens_of (sym all);
    }
