-- What clap makes of words none of which begins with a hyphen.
use Rattle.std.proofs.Common.{◌≡◌, ◌==◌, ◌++◌, ℕ, List, [], ◌∷◌, Bool, true, false, None, Some, codes, refl, sym, ap, ◌∙◌, fold, append-nil}
use Rattle.std.proofs.Common.{append_assoc, inl, inr, true≢false, subst, ap₂, eqb-true}
use Rattle.std.specs.Str.{bytes_eq}
use Rattle.std.proofs.lemmas.Cmp.{nat_list_eq_equiv}
use Rattle.std.specs.List.{list_any}
use Rattle.std.specs.declared.option.Option.{Option}
use Rattle.clap.specs.Words.{App, HasKind, HasMatchesOf, kind_of, is_simple, is_simple_and_free, subcommand_rows_of, Kinds, Row, Rule}
use Rattle.clap.specs.Words.{Shape, Text, built, fault_of, subcommand_of}
use Rattle.clap.specs.Faults.{walk_fault}
use Rattle.clap.specs.Lexer.{long_of, short_of}
use Rattle.clap.specs.Simple.{names_of}
use Rattle.clap.specs.Walk.{Names, Walk, walk_from, walked, nothing_held}
use Rattle.clap.proofs.OnLiterals.{clap_on_literals}
use Rattle.clap.specs.declared.Error.{Error}
use Rattle.clap.specs.declared.ArgMatches.{ArgMatches}
use Rattle.clap.specs.declared.error.ErrorKind.TheVariants as kind
use Rattle.mem_base.specs.declared.script.tasks.Task.{Task}
use Rattle.script_words.specs.App.{task_in, mtree_app}
use Rattle.script_words.specs.Agrees.{Agrees}
use Rattle.script_words.specs.Dash.{begins_with_dash}
use Rattle.mem_base.specs.script.Words.{task_of}
use Rattle.mem_base.proofs.BoolLaws.{left_of, neither_first, neither_second, right_of}

same_bytes : (xs ys : List ℕ) → bytes_eq xs ys ≡ true → xs ≡ ys
same_bytes [] [] h = refl
same_bytes [] (y ∷ ys) h = absurd (true≢false (sym h))
same_bytes (x ∷ xs) [] h = absurd (true≢false (sym h))
same_bytes (x ∷ xs) (y ∷ ys) h = ap₂ (λ z zs. z ∷ zs) (eqb-true x y (left_of _ _ h)) (same_bytes xs ys (right_of _ _ h))

-- after a subcommand each word is kept for it
pub stops : (rules : List Rule) (names : Names) (w : Walk) (name : Text) (before words : List Text)
    → fold (walked rules names) (record w { stopped = Some (name, before) }) words ≡ record w { stopped = Some (name, before ++ words) }
unfolding clap_on_literals
stops rules names w name before [] = ap (λ (xs : List Text). record w { stopped = Some (name, xs) }) (sym (append-nil before))
stops rules names w name before (x ∷ words) =
    stops rules names w name (before ++ x ∷ []) words ∙ ap (λ (xs : List Text). record w { stopped = Some (name, xs) }) (append_assoc before (x ∷ []) words)

pub passes_over : (s : Shape) (names : Names) (w : Walk) (name : Text) (before words : List Text)
    → walk_fault s names (record w { stopped = Some (name, before) }) words ≡ []
unfolding clap_on_literals
passes_over s names w name before [] = refl
passes_over s names w name before (x ∷ words) = passes_over s names w name (before ++ x ∷ []) words

abbrev NoDash : List Text → Type 0
NoDash words = list_any begins_with_dash words ≡ false

abbrev Agree : List Text → Type 0
Agree words = Agrees (fault_of mtree_app words) (subcommand_of mtree_app words) (task_of words)

no_long : (b : ℕ) (bs : Text) → (b == 45) ≡ false → long_of (b ∷ bs) ≡ None
no_long b bs h = rw h refl

no_short : (b : ℕ) (bs : Text) → (b == 45) ≡ false → short_of (b ∷ bs) ≡ None
no_short b bs h = rw h refl

no_dashes : (b : ℕ) (bs : Text) → (b == 45) ≡ false → bytes_eq (b ∷ bs) (45 ∷ 45 ∷ []) ≡ false
no_dashes b bs h = rw h refl

abbrev names : Names
names = names_of (built mtree_app)

abbrev top : Shape
top = (built mtree_app).top

abbrev walk0 : Walk
walk0 = walk_from nothing_held

nothing_then : Agree []
unfolding clap_on_literals
nothing_then = refl

run_then : (words : List Text) → NoDash words → Agree (codes "run" ∷ words)
unfolding clap_on_literals
run_then [] h = refl
run_then ([] ∷ []) h = refl
run_then ((b ∷ bs) ∷ []) h =
    let dash = neither_first (b == 45) false h in
    rw (no_long b bs dash, no_short b bs dash, no_dashes b bs dash) refl
run_then ([] ∷ x ∷ xs) h = rw (stops [] names walk0 (codes "run") [] ([] ∷ x ∷ xs), passes_over top names walk0 (codes "run") [] ([] ∷ x ∷ xs)) refl
run_then ((b ∷ bs) ∷ x ∷ xs) h =
    let dash = neither_first (b == 45) _ h in
    rw (
      stops [] names walk0 (codes "run") [] ((b ∷ bs) ∷ x ∷ xs),
      passes_over top names walk0 (codes "run") [] ((b ∷ bs) ∷ x ∷ xs),
      no_long b bs dash,
      no_short b bs dash,
      no_dashes b bs dash,
    ) refl

race_then : (words : List Text) → NoDash words → Agree (codes "race" ∷ words)
unfolding clap_on_literals
race_then [] h = refl
race_then ([] ∷ []) h = refl
race_then ((b ∷ bs) ∷ []) h =
    let dash = neither_first (b == 45) false h in
    rw (no_long b bs dash, no_short b bs dash, no_dashes b bs dash) refl
race_then ([] ∷ x ∷ xs) h = rw (stops [] names walk0 (codes "race") [] ([] ∷ x ∷ xs), passes_over top names walk0 (codes "race") [] ([] ∷ x ∷ xs)) refl
race_then ((b ∷ bs) ∷ x ∷ xs) h =
    let dash = neither_first (b == 45) _ h in
    rw (
      stops [] names walk0 (codes "race") [] ((b ∷ bs) ∷ x ∷ xs),
      passes_over top names walk0 (codes "race") [] ((b ∷ bs) ∷ x ∷ xs),
      no_long b bs dash,
      no_short b bs dash,
      no_dashes b bs dash,
    ) refl

make_then : (words : List Text) → NoDash words → Agree (codes "make" ∷ words)
unfolding clap_on_literals
make_then [] h = refl
make_then ([] ∷ []) h = refl
make_then ((b ∷ bs) ∷ []) h =
    let dash = neither_first (b == 45) false h in
    rw (no_long b bs dash, no_short b bs dash, no_dashes b bs dash) refl
make_then ([] ∷ [] ∷ ys) h =
    rw (stops [] names walk0 (codes "make") [] ([] ∷ [] ∷ ys), passes_over top names walk0 (codes "make") [] ([] ∷ [] ∷ ys)) refl
make_then ([] ∷ (d ∷ ds) ∷ ys) h =
    let dash2 = neither_first (d == 45) _ h in
    rw (
      stops [] names walk0 (codes "make") [] ([] ∷ (d ∷ ds) ∷ ys),
      passes_over top names walk0 (codes "make") [] ([] ∷ (d ∷ ds) ∷ ys),
      no_long d ds dash2,
      no_short d ds dash2,
      no_dashes d ds dash2,
    ) refl
make_then ((b ∷ bs) ∷ [] ∷ ys) h =
    let dash = neither_first (b == 45) _ h in
    rw (
      stops [] names walk0 (codes "make") [] ((b ∷ bs) ∷ [] ∷ ys),
      passes_over top names walk0 (codes "make") [] ((b ∷ bs) ∷ [] ∷ ys),
      no_long b bs dash,
      no_short b bs dash,
      no_dashes b bs dash,
    ) refl
make_then ((b ∷ bs) ∷ (d ∷ ds) ∷ ys) h =
    let dash = neither_first (b == 45) _ h in
    let dash2 = neither_first (d == 45) _ (neither_second (b == 45) _ h) in
    rw (
      stops [] names walk0 (codes "make") [] ((b ∷ bs) ∷ (d ∷ ds) ∷ ys),
      passes_over top names walk0 (codes "make") [] ((b ∷ bs) ∷ (d ∷ ds) ∷ ys),
      no_long b bs dash,
      no_short b bs dash,
      no_dashes b bs dash,
      no_long d ds dash2,
      no_short d ds dash2,
      no_dashes d ds dash2,
    ) refl

demo_then : (words : List Text) → NoDash words → Agree (codes "demo" ∷ words)
unfolding clap_on_literals
demo_then [] h = refl
demo_then ([] ∷ []) h = refl
demo_then ((b ∷ bs) ∷ []) h =
    let dash = neither_first (b == 45) false h in
    rw (no_long b bs dash, no_short b bs dash, no_dashes b bs dash) refl
demo_then ([] ∷ [] ∷ ys) h =
    rw (stops [] names walk0 (codes "demo") [] ([] ∷ [] ∷ ys), passes_over top names walk0 (codes "demo") [] ([] ∷ [] ∷ ys)) refl
demo_then ([] ∷ (d ∷ ds) ∷ ys) h =
    let dash2 = neither_first (d == 45) _ h in
    rw (
      stops [] names walk0 (codes "demo") [] ([] ∷ (d ∷ ds) ∷ ys),
      passes_over top names walk0 (codes "demo") [] ([] ∷ (d ∷ ds) ∷ ys),
      no_long d ds dash2,
      no_short d ds dash2,
      no_dashes d ds dash2,
    ) refl
demo_then ((b ∷ bs) ∷ [] ∷ ys) h =
    let dash = neither_first (b == 45) _ h in
    rw (
      stops [] names walk0 (codes "demo") [] ((b ∷ bs) ∷ [] ∷ ys),
      passes_over top names walk0 (codes "demo") [] ((b ∷ bs) ∷ [] ∷ ys),
      no_long b bs dash,
      no_short b bs dash,
      no_dashes b bs dash,
    ) refl
demo_then ((b ∷ bs) ∷ (d ∷ ds) ∷ ys) h =
    let dash = neither_first (b == 45) _ h in
    let dash2 = neither_first (d == 45) _ (neither_second (b == 45) _ h) in
    rw (
      stops [] names walk0 (codes "demo") [] ((b ∷ bs) ∷ (d ∷ ds) ∷ ys),
      passes_over top names walk0 (codes "demo") [] ((b ∷ bs) ∷ (d ∷ ds) ∷ ys),
      no_long b bs dash,
      no_short b bs dash,
      no_dashes b bs dash,
      no_long d ds dash2,
      no_short d ds dash2,
      no_dashes d ds dash2,
    ) refl

-- no subcommand has this name
no_task : (word : Text) (words : List Text) → bytes_eq word (codes "run") ≡ false → bytes_eq word (codes "race") ≡ false
    → bytes_eq word (codes "make") ≡ false → bytes_eq word (codes "demo") ≡ false → task_of (word ∷ words) ≡ None
no_task word [] run race make demo = rw (run, race) refl
no_task word (x ∷ []) run race make demo = rw (make, demo) refl
no_task word (x ∷ y ∷ ys) run race make demo = refl

other_then : (word : Text) (words : List Text) → begins_with_dash word ≡ false → bytes_eq (codes "run") word ≡ false → bytes_eq (codes "race") word ≡ false
    → bytes_eq (codes "make") word ≡ false → bytes_eq (codes "demo") word ≡ false → Agree (word ∷ words)
unfolding clap_on_literals
other_then [] words h run race make demo = no_task [] words run race make demo
other_then (b ∷ bs) words h run race make demo =
    let turned : (name : Text) → bytes_eq name (b ∷ bs) ≡ false → bytes_eq (b ∷ bs) name ≡ false = λ name e. nat_list_eq_equiv.symm (b ∷ bs) name ∙ e in
    rw (run, race, make, demo, no_long b bs h, no_short b bs h, no_dashes b bs h)
    (no_task (b ∷ bs) words (turned (codes "run") run) (turned (codes "race") race) (turned (codes "make") make) (turned (codes "demo") demo))

-- a word whose test is done, and the words after it
by_name : (word : Text) (words : List Text) → begins_with_dash word ≡ false → NoDash words → (run race make demo : Bool)
    → bytes_eq (codes "run") word ≡ run → bytes_eq (codes "race") word ≡ race → bytes_eq (codes "make") word ≡ make → bytes_eq (codes "demo") word ≡ demo
    → Agree (word ∷ words)
by_name word words h hs true race make demo r a m d = subst (λ w. Agree (w ∷ words)) (same_bytes (codes "run") word r) (run_then words hs)
by_name word words h hs false true make demo r a m d = subst (λ w. Agree (w ∷ words)) (same_bytes (codes "race") word a) (race_then words hs)
by_name word words h hs false false true demo r a m d = subst (λ w. Agree (w ∷ words)) (same_bytes (codes "make") word m) (make_then words hs)
by_name word words h hs false false false true r a m d = subst (λ w. Agree (w ∷ words)) (same_bytes (codes "demo") word d) (demo_then words hs)
by_name word words h hs false false false false r a m d = other_then word words h r a m d

-- what clap makes of words without hyphens is what they say
pub agrees : (words : List Text) → NoDash words → Agree words
agrees [] h = nothing_then
agrees (word ∷ words) h =
    by_name word words (neither_first (begins_with_dash word) _ h) (neither_second (begins_with_dash word) _ h) _ _ _ _ refl refl refl refl

pub mtree_is_simple : is_simple_and_free mtree_app ≡ true
unfolding clap_on_literals
mtree_is_simple = refl

pub mtree_is_plain : is_simple mtree_app ≡ true
unfolding clap_on_literals
mtree_is_plain = refl

-- clap took the words
pub taken : (words : List Text) → NoDash words → (app : App) → app ≡ mtree_app → (m : ArgMatches) → HasMatchesOf app words m
    → (is_simple_and_free app ≡ true → fault_of app words ≡ []) → task_in (subcommand_rows_of m) ≡ task_of words
taken words h app same m matches kinds =
    let free : fault_of mtree_app words ≡ [] = ap (λ (a : App). fault_of a words) (sym same) ∙ kinds (ap is_simple_and_free same ∙ mtree_is_simple) in
    let found : subcommand_rows_of m ≡ subcommand_of mtree_app words = (matches (ap is_simple same ∙ mtree_is_plain)).1
    ∙ ap (λ (a : App). subcommand_of a words) same in
    ap task_in found ∙ subst (λ k. Agrees k (subcommand_of mtree_app words) (task_of words)) free (agrees words h)

refused_by : (kinds : Kinds) (found : Option (Text × List Row)) (task : Option Task) (e : Error) → Agrees kinds found task → HasKind kinds e
    → (kind_of e ≡ kind.OutOfMemory → ⊥) → task ≡ None
refused_by [] found task e a (inl memory) other = absurd (other memory)
refused_by [] found task e a (inr none) other = absurd none
refused_by (k ∷ ks) found task e a h other = a

-- clap refused the words
pub refused : (words : List Text) → NoDash words → (app : App) → app ≡ mtree_app → (e : Error)
    → (is_simple_and_free app ≡ true → HasKind (fault_of app words) e) → (kind_of e ≡ kind.OutOfMemory → ⊥) → task_of words ≡ None
refused words h app same e kinds other =
    refused_by (fault_of mtree_app words) (subcommand_of mtree_app words) (task_of words) e (agrees words h)
    (subst (λ (a : App). HasKind (fault_of a words) e) same (kinds (ap is_simple_and_free same ∙ mtree_is_simple))) other
