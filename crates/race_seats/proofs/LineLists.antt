-- The lines of the actors, dealt one after another, and the tasks of the passes'.
use Rattle.std.proofs.Common.{◌≡◌, ◌≢◌, ℕ, ◌+◌, ◌<◌, ◌≤◌, ◌==◌, suc, Bool, true, false, List, [], ◌∷◌, ◌++◌, All, length, take, drop, get_or, map, append_assoc, append-nil}
use Rattle.std.proofs.Common.{refl, sym, ap, subst, ◌∙◌, arith}
use Rattle.std.proofs.Common.{if◌then◌else◌}
use Rattle.std.specs.Prelude.{nat_le, slice_set}
use Rattle.std.proofs.lemmas.Bool.Decides.{nat_tests}
use Rattle.std.specs.List.{prefix_len}
use Rattle.std.proofs.lemmas.List.{drop-map, get_or_append_left, get_or_push, get_or-set_same, get_or-set_other, get_or_default}
use Rattle.std.proofs.lemmas.List.{length-map, length-set, length_push}
use borrow.Author.Count.{below_more}
use Rattle.mem_base.specs.lists.Every.{Every}
use Rattle.mem_base.proofs.EveryLaws.{every_at, every_drop}
use Rattle.mem_base.specs.declared.script.commands.Command.{Command}
use Rattle.mem_base.specs.map.Limits.{most_passes}
use Rattle.run_laws.specs.Fitting.{AreFitting, FitsCommand}
use Rattle.race_levels.proofs.ActorLaws.{is_pass}
use Rattle.mem_base.specs.script.Scripts.{Line}
use Rattle.mem_base.specs.script.Tasks.{Known}
use Rattle.mem_base.specs.script.Race.{actor_number, block, desk_number, lines_by}
use Rattle.race_phases.specs.Plain.{has_lines, whose_line}
use Rattle.race_block.specs.declared.tasks.OwnLine.{OwnLine}
use Rattle.race_block.specs.Desks.{line_meant, lines_meant}
use Rattle.race_block.specs.Lines as passes
use Rattle.race_block.specs.Resolving.{AreTasksOf, IsPassLine, copy_room}
use Rattle.race_seats.specs.declared.rooms.Work.{Work}
use Rattle.race_seats.specs.Rooms.{AreAll, AreIdle, AreOwn, ArePrepared, AreWorksOf, HasDesksWork, HasOwn}
use Rattle.race_seats.specs.Rooms.{IsPrepared, most_actors}

-- the actor of a number takes these lines, and no other does
pub record TakesLines (lines : List Line) (who : ℕ) (works after : List Work) : Type 0 where
  pub later : Work
  pub set_at : after ≡ slice_set works who later
  pub put : lines_meant later.own.items ≡ lines_meant (get_or works who later).own.items ++ lines
  pub bounce : later.bounce ≡ (get_or works who later).bounce

-- numbers of actors

same_self : (n : ℕ) → (n == n) ≡ true
same_self n = grind (arith, nat_tests)

same_number : (a p : ℕ) → (a == p) ≡ true → a ≡ p
same_number a p e = grind (arith, nat_tests)

other_number : (a p : ℕ) → (a == p) ≡ false → a ≢ p
other_number a p e same = grind (arith, nat_tests)

-- an actor is one of those that there are
pub near_actor : (c : Command) → FitsCommand c → actor_number c < most_actors
near_actor c fits = go (actor_number c == desk_number) refl
  where
    go : (b : Bool) → (actor_number c == desk_number) ≡ b → actor_number c < most_actors
    go true e = let is : actor_number c ≡ desk_number = same_number (actor_number c) desk_number e in omega (arith, is)
    go false e =
        let few : actor_number c < most_passes = is_pass c fits (other_number (actor_number c) desk_number e) in omega (arith, few)

-- Dealing

-- the lines of an actor so far, and those that are left, are all of them
abbrev pub AreLinesSoFar : ℕ → List Line → List Line → List OwnLine → Type 0
AreLinesSoFar who whole left own = lines_meant own ++ lines_by who (block left) ≡ lines_by who (block whole)

-- lines of one actor that stand together, and others after them
mine : (who : ℕ) (run rest : List Line) → Every (λ line. actor_number line.1 ≡ who) run
    → lines_by who (block (run ++ rest)) ≡ run ++ lines_by who (block rest)
mine who [] rest h = refl
mine who (line ∷ run) rest h =
    let others : List Line = lines_by who (block (run ++ rest)) in
    ap (λ (b : Bool). if b then line ∷ others else others) (ap (λ (n : ℕ). n == who) h.0 ∙ same_self who)
    ∙ ap (λ (ls : List Line). line ∷ ls) (mine who run rest h.1)

not_mine : (who p : ℕ) (run rest : List Line) → (who == p) ≡ false → Every (λ line. actor_number line.1 ≡ who) run
    → lines_by p (block (run ++ rest)) ≡ lines_by p (block rest)
not_mine who p [] rest other h = refl
not_mine who p (line ∷ run) rest other h =
    let others : List Line = lines_by p (block (run ++ rest)) in
    ap (λ (b : Bool). if b then line ∷ others else others) (ap (λ (n : ℕ). n == p) h.0 ∙ other) ∙ not_mine who p run rest other h.1

abbrev pub IsDealt : List Line → List Line → ℕ → Work → Type 0
IsDealt whole left p work = AreLinesSoFar p whole left work.own.items × (work.bounce ≡ copy_room)

-- the lines that are left are still to be dealt
pub record AreDealt (whole left : List Line) (works : List Work) : Type 0 where
  pub all : length works ≡ most_actors
  pub each : (p : ℕ) (d : Work) → p < length works → IsDealt whole left p (get_or works p d)

pub none_dealt : (whole left : List Line) (works : List Work) → left ≡ whole → AreIdle works → AreDealt whole left works
none_dealt whole left works same idle = record {
  all = idle.all;
  each = λ p d near. let i = idle.each p d near in (
    (λ j. lines_meant (i.no_lines j) ++ lines_by p (block (same j))),
    i.bounce,
  );
}

-- the actor that took the lines
took : (whole left run rest : List Line) (who : ℕ) (works after : List Work) → left ≡ run ++ rest
    → Every (λ line. actor_number line.1 ≡ who) run → (t : TakesLines run who works after) → IsDealt whole left who (get_or works who t.later)
    → IsDealt whole rest who t.later
took whole left run rest who works after is all t h =
    let before : List Line = lines_meant (get_or works who t.later).own.items in
    let more : List Line = lines_by who (block rest) in (
      ap (λ (ls : List Line). ls ++ more) t.put ∙ append_assoc before run more
          ∙ ap (λ (ls : List Line). before ++ ls) (sym (mine who run rest all) ∙ ap (λ (ls : List Line). lines_by who (block ls)) (sym is)) ∙ h.0,
      t.bounce ∙ h.1,
    )

each_dealt : (whole left run rest : List Line) (who : ℕ) (works after : List Work) (p : ℕ) (d : Work) (b : Bool) → left ≡ run ++ rest
    → Every (λ line. actor_number line.1 ≡ who) run → TakesLines run who works after → who < length works → (who == p) ≡ b
    → IsDealt whole left p (get_or works p d)
    → ((later : Work) → IsDealt whole left who (get_or works who later)) → IsDealt whole rest p (get_or after p d)
each_dealt whole left run rest who works after p d true is all t near same h own =
    let at : who ≡ p = same_number who p same in
    let there : t.later ≡ get_or after p d = sym (get_or-set_same works who t.later d near) ∙ (λ i. get_or (sym t.set_at i) (at i) d) in
    subst (λ (z : ℕ × Work). IsDealt whole rest z.0 z.1) (λ i. (at i, there i))
    (took whole left run rest who works after is all t (own t.later))
each_dealt whole left run rest who works after p d false is all t near other h own =
    let apart : who ≢ p = other_number who p other in
    let there : get_or works p d ≡ get_or after p d =
    sym (get_or-set_other works who p t.later d (λ e. apart (sym e))) ∙ ap (λ (ws : List Work). get_or ws p d) (sym t.set_at) in
    subst (IsDealt whole rest p) there (
      ap (λ (ls : List Line). lines_meant (get_or works p d).own.items ++ ls)
          (sym (not_mine who p run rest other all) ∙ ap (λ (ls : List Line). lines_by p (block ls)) (sym is)) ∙ h.0,
      h.1,
    )

-- lines that stand together are dealt
pub run_dealt : (whole left run rest : List Line) (who : ℕ) (works after : List Work) → left ≡ run ++ rest
    → Every (λ line. actor_number line.1 ≡ who) run → who < most_actors → TakesLines run who works after → AreDealt whole left works
    → AreDealt whole rest after
run_dealt whole left run rest who works after is all few t h =
    let near : who < length works = let long = h.all in omega (arith, few, long) in
    let long : length after ≡ length works = ap length t.set_at ∙ length-set works who t.later in record {
      all = long ∙ h.all;
      each = λ p d within. each_dealt whole left run rest who works after p d (who == p) is all t near refl
          (h.each p d (omega (arith, within, long))) (λ later. h.each who later near);
    }

-- the first lines are those of the actor, by what was noted of each
pub run_noted : (who : ℕ) (lines : List Line) (whose : List ℕ) (n : ℕ) → whose ≡ map whose_line lines → n ≡ prefix_len (λ m. m == who) whose
    → Every (λ line. actor_number line.1 ≡ who) (take n lines)
run_noted who lines whose n all count =
    subst (λ (k : ℕ). Every (λ line. actor_number line.1 ≡ who) (take k lines)) (sym (count ∙ ap (prefix_len (λ m. m == who)) all)) (first lines)
  where
    first : (ls : List Line) → Every (λ line. actor_number line.1 ≡ who) (take (prefix_len (λ m. m == who) (map whose_line ls)) ls)
    first [] = tt
    first (line ∷ ls) = go (actor_number line.1 == who) refl (first ls)
      where
        count_left : ℕ
        count_left = prefix_len (λ m. m == who) (map whose_line ls)

        go : (b : Bool) → (actor_number line.1 == who) ≡ b → Every (λ l. actor_number l.1 ≡ who) (take count_left ls)
            → Every (λ l. actor_number l.1 ≡ who) (take (if b then 1 + count_left else 0) (line ∷ ls))
        go true e h = let longer : suc count_left ≡ 1 + count_left = omega arith in
            subst (λ (k : ℕ). Every (λ l. actor_number l.1 ≡ who) (take k (line ∷ ls))) longer (same_number (actor_number line.1) who e, h)
        go false e h = tt

-- what is left of them was noted too, and the numbers of its commands fit
pub rest_noted : (lines : List Line) (whose : List ℕ) (n : ℕ) → whose ≡ map whose_line lines → drop n whose ≡ map whose_line (drop n lines)
rest_noted lines whose n all = ap (drop n) all ∙ drop-map whose_line n lines

pub rest_fits : (lines : List Line) (n : ℕ) → AreFitting lines → AreFitting (drop n lines)
rest_fits lines n fits = every_drop (λ line. FitsCommand line.1) lines n fits

-- the actor of the first of them is one of those that there are
pub near_first : (who : ℕ) (others : List ℕ) (lines : List Line) (whose : List ℕ) → whose ≡ who ∷ others → whose ≡ map whose_line lines → AreFitting lines
    → who < most_actors
near_first who others lines whose is all fits = go lines (sym all ∙ is) fits
  where
    go : (ls : List Line) → map whose_line ls ≡ who ∷ others → AreFitting ls → who < most_actors
    go [] e h = absurd (let m : [] ≡ who ∷ others = e in cc)
    go (line ∷ ls) e h =
        let same : actor_number line.1 ≡ who = ap (λ (ns : List ℕ). get_or ns 0 who) e in
        subst (λ (n : ℕ). n < most_actors) same (near_actor line.1 h.0)

-- all lines are dealt
pub all_dealt : (whole left : List Line) (works : List Work) → left ≡ [] → AreDealt whole left works → AreAll whole works
all_dealt whole left works none h = record {
  all = h.all;
  own = λ p d near. let w = h.each p d near in record {
    own = sym (append-nil (lines_meant (get_or works p d).own.items))
        ∙ ap (λ (ls : List Line). lines_meant (get_or works p d).own.items ++ lines_by p (block ls)) (sym none) ∙ w.0;
    bounce = w.1;
  };
}

-- The desk's lines are the last

pub others_own : (lines : List Line) (works others : List Work) (own : List OwnLine) → AreAll lines works → HasDesksWork works others own
    → (length others ≡ most_passes) × AreOwn lines others
others_own lines works others own all has =
    let long : length works ≡ length others + 1 = ap length has.1 ∙ length_push others has.0 in
    let many : length works ≡ most_actors = all.all in (
      omega (arith, long, many),
      λ p d near. subst (HasOwn lines p)
          (ap (λ (ws : List Work). get_or ws p d) has.1 ∙ get_or_append_left others (has.0 ∷ []) d p near) (all.own p d (omega (arith, near, long))),
    )

pub desks_own : (lines : List Line) (works others : List Work) (own : List OwnLine) → AreAll lines works → HasDesksWork works others own
    → lines_meant own ≡ lines_by desk_number (block lines)
desks_own lines works others own all has =
    let long : length works ≡ length others + 1 = ap length has.1 ∙ length_push others has.0 in
    let many : length works ≡ most_actors = all.all in
    let few : length others ≡ desk_number = omega (arith, long, many) in
    let is : get_or works desk_number has.0 ≡ has.0 =
    ap (λ (ws : List Work). get_or ws desk_number has.0) has.1 ∙ get_or_push others has.0 has.0 desk_number few in
    ap lines_meant (has.2 ∙ ap (λ (w : Work). w.own.items) (sym is)) ∙ (all.own desk_number has.0 (omega (arith, many))).own

-- The numbers of the commands fit

every_unmapped : (P : Line → Type 0) (own : List OwnLine) → Every P (lines_meant own) → Every (λ x. P (line_meant x)) own
every_unmapped P [] h = tt
every_unmapped P (x ∷ own) h = (h.0, every_unmapped P own h.1)

abbrev CanBePassLine : Line → Type 0
CanBePassLine line = (actor_number line.1 < most_passes) × FitsCommand line.1

fit_by : (p : ℕ) (lines : List Line) → p < most_passes → AreFitting lines → Every CanBePassLine (lines_by p (block lines))
fit_by p [] near h = tt
fit_by p (line ∷ lines) near h = go (actor_number line.1 == p) refl (fit_by p lines near h.1)
  where
    go : (b : Bool) → (actor_number line.1 == p) ≡ b → Every CanBePassLine (lines_by p (block lines))
        → Every CanBePassLine (if b then line ∷ lines_by p (block lines) else lines_by p (block lines))
    go true e rest = let is : actor_number line.1 ≡ p = same_number (actor_number line.1) p e in ((omega (arith, is, near), h.0), rest)
    go false e rest = rest

pub passes_fit : (p : ℕ) (lines : List Line) (own : List OwnLine) → p < most_passes → AreFitting lines → lines_meant own ≡ lines_by p (block lines)
    → All IsPassLine own
passes_fit p lines own few fits is i d near = every_at IsPassLine own i d near (every_unmapped CanBePassLine own
    (subst (Every CanBePassLine) (sym is) (fit_by p lines few fits)))

-- The tasks of the passes' lines

-- one more is prepared
pub prepared_more : (k : Known) (xs ys : List Work) (i : ℕ) (e y : Work) → length ys ≡ length xs → i < length xs
    → ((p : ℕ) (d : Work) → i ≤ p → get_or ys p d ≡ get_or xs p d)
    → ((p : ℕ) (d : Work) → p < i → IsPrepared k (get_or xs p d) (get_or ys p d)) → IsPrepared k (get_or ys i e) y
    → (p : ℕ) (d : Work) → p < i + 1 → IsPrepared k (get_or xs p d) (get_or (slice_set ys i y) p d)
prepared_more k xs ys i e y long room same all here p d near =
    let inside : i < length ys = omega (arith, room, long) in
    let P : ℕ → Type 0 = λ n. IsPrepared k (get_or xs n d) (get_or (slice_set ys i y) n d) in
    let old : get_or ys i e ≡ get_or xs i d = same i e (omega arith) ∙ get_or_default xs i e d room in
    let now : y ≡ get_or (slice_set ys i y) i d = sym (get_or-set_same ys i y d inside) in
    below_more P i
    (λ n l. subst (λ (z : Work). IsPrepared k (get_or xs n d) z) (sym (get_or-set_other ys i n y d (λ f. absurd (omega (arith, f, l)))))
    (all n d l))
    (subst (λ (z : Work × Work). IsPrepared k z.0 z.1) (λ j. (old j, now j)) here) p near

pub same_after : (xs ys : List Work) (i : ℕ) (y : Work) → ((p : ℕ) (d : Work) → i ≤ p → get_or ys p d ≡ get_or xs p d)
    → (p : ℕ) (d : Work) → i + 1 ≤ p → get_or (slice_set ys i y) p d ≡ get_or xs p d
same_after xs ys i y same p d l = get_or-set_other ys i p y d (λ e. absurd (omega (arith, e, l))) ∙ same p d (omega (arith, l))

-- what the passes have to do, where the desk has no lines

has_none : (own : List OwnLine) (ls : List Line) → lines_meant own ≡ ls → length own ≡ 0 → nat_le 1 (length ls) ≡ false
has_none own ls is none = let long : length own ≡ length ls = sym (length-map own line_meant) ∙ ap length is in grind (arith, nat_tests)

false_or : {A : Type 0} (b : Bool) → b ≡ false → b ≡ true → A
false_or true e h = absurd (grind arith)
false_or false e h = absurd (grind arith)

pub works_alone : (k : Known) (lines : List Line) (desk : List OwnLine) (works : List Work) → AreFitting lines
    → lines_meant desk ≡ lines_by desk_number (block lines) → length desk ≡ 0 → length works ≡ most_passes → AreOwn lines works
    → AreWorksOf k lines works
works_alone k lines desk works fits is none many own p d near =
    let few : p < most_passes = omega (arith, near, many) in
    let w = own p d near in record {
      own = w.own;
      fits = passes_fit p lines (get_or works p d).own.items few fits w.own;
      bounce = w.bounce;
      tasks = λ some. false_or (has_lines (block lines) desk_number) (has_none desk (lines_by desk_number (block lines)) is none) some;
    }

-- and where it has some
pub works_prepared : (k : Known) (lines : List Line) (works after : List Work) → AreFitting lines → length works ≡ most_passes → AreOwn lines works
    → ArePrepared k works after → AreWorksOf k lines after
works_prepared k lines works after fits many own made p d near =
    let long : length after ≡ length works = made.all in
    let within : p < length works = omega (arith, near, long) in
    let few : p < most_passes = omega (arith, within, many) in
    let w = own p d within in
    let m = made.each p d within in
    let lines_are : lines_meant (get_or after p d).own.items ≡ lines_by p (block lines) = ap lines_meant m.own ∙ w.own in record {
      own = lines_are;
      fits = passes_fit p lines (get_or after p d).own.items few fits lines_are;
      bounce = m.bounce ∙ w.bounce;
      tasks = λ some. record {
        tasks = subst (λ (ls : List Line). AreTasksOf k ls (get_or after p d).tasks.items) w.own m.tasks;
        fits = m.fits;
      };
    }

pub own_fit : (lines : List Line) (works : List Work) → AreFitting lines → length works ≡ most_passes → AreOwn lines works
    → (p : ℕ) (d : Work) → p < length works → All IsPassLine (get_or works p d).own.items
own_fit lines works fits many own p d near =
    passes_fit p lines (get_or works p d).own.items (omega (arith, near, many)) fits (own p d near).own
