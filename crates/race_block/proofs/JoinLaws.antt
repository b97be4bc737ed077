-- Laws of what all have seen after a block.
use Rattle.std.proofs.Common.{◌≡◌, ℕ, ◌+◌, ◌<◌, ◌≤◌, List, [], ◌∷◌, ◌++◌, length, get_or, map, set, refl, sym, ap, subst, ◌∙◌, append-nil, length-append, arith}
use Rattle.std.proofs.lemmas.List.{length-set, get_or-set_same, get_or-set_other, get_or_default, get_or-map}
use mathlib.Core.List.{IsPrefix}
use borrow.Author.Count.{below_more}
use base.Growing.{prefix_trans}
use Rattle.mem_base.specs.declared.machine.events.HistoryEntry.{HistoryEntry}
use Rattle.epoch_rule.specs.Values.{NoteValue}
use Rattle.epoch_rule.specs.Wrote.{longer}
use Rattle.epoch_rule.proofs.SeatSteps.{longer_cases}
use Rattle.race_block.specs.declared.blocks.BlockActor.{BlockActor}
use Rattle.race_block.specs.declared.blocks.BlockActor.TheVariants.{Desk, Pass, Gone}
use Rattle.atomic_table.specs.Seated.{TableId}
use Rattle.mem_base.specs.machine.Records.{Clerk}
use Rattle.generation.specs.Published.{Published}
use Rattle.epoch_rule.specs.Values.{PassValue}
use Rattle.pass_lines.specs.Doing.{Grew, IsInItsGeneration}
use Rattle.race_block.specs.declared.desks.DeskActor.{DeskActor}
use Rattle.race_block.specs.declared.passes.PassActor.{PassActor}
use Rattle.race_block.specs.declared.tasks.BlockLine.{BlockLine}
use Rattle.race_block.specs.declared.tasks.LineGot.{LineGot}
use Rattle.race_block.specs.Blocks.{CanAct, HasActed}
use Rattle.race_block.specs.Desks.{HasHeard}
use Rattle.race_block.specs.Lines.{HaveRun}
use Rattle.race_block.specs.Lines as passes
use Rattle.race_block.proofs.StepLaws.{stays_inside}
use Rattle.race_block.specs.Joined.{HasJoined, HasJoinedPass, HasMet, HasMetPass, HasTold, IsHeard, IsOf, IsVcpuOf}
use Rattle.race_block.specs.Joined.{clerk_of, new_clerk, without_clerk}

-- a list with nothing after it
empty_rest : (xs ys : List HistoryEntry) → length ys ≡ 0 → xs ++ ys ≡ xs
empty_rest xs [] none = append-nil xs
empty_rest xs (y ∷ ys) none = absurd (omega (arith, none))

-- of a list and one that it begins, the longer is the second
pub longer_is : (xs ys : List HistoryEntry) → IsPrefix xs ys → longer xs ys ≡ ys
longer_is xs ys p = longer_cases (λ l. l ≡ ys) xs ys (λ less. refl)
    (λ few. sym (empty_rest xs p.0 (let long = length-append xs p.0 in let whole = ap length p.1 in omega (arith, long, whole, few))) ∙ p.1)

pub heard_on : (notes : List NoteValue) (before after : List HistoryEntry) → IsPrefix before after → HasHeard notes before → HasHeard notes after
heard_on [] before after p h = tt
heard_on (x ∷ xs) before after p h = (prefix_trans x.seen before after h.0 p, heard_on xs before after p h.1)

pub heard_last : (xs : List NoteValue) (x : NoteValue) (seen : List HistoryEntry) → HasHeard xs seen → IsPrefix x.seen seen → HasHeard (xs ++ x ∷ []) seen
heard_last [] x seen h p = (p, tt)
heard_last (y ∷ xs) x seen h p = (h.0, heard_last xs x seen h.1 p)

pub told_on : (before after : List HistoryEntry) (a b : BlockActor) → IsPrefix before after → HasTold before a b → HasTold after a b
told_on before after (Pass a) (Pass b) p h = (prefix_trans a.vcpu.seen before after h.0 p, h.1)
told_on before after (Desk a) (Desk b) p h = (heard_on a.notes.items before after p h.0, h.1)
told_on before after Gone Gone p h = tt
told_on before after (Pass a) (Desk b) p h = absurd h
told_on before after (Pass a) Gone p h = absurd h
told_on before after (Desk a) (Pass b) p h = absurd h
told_on before after (Desk a) Gone p h = absurd h
told_on before after Gone (Pass b) p h = absurd h
told_on before after Gone (Desk b) p h = absurd h

-- one actor more has told
pub told_more : (before after : List HistoryEntry) (xs ys : List BlockActor) (i : ℕ) (e y : BlockActor) → IsPrefix before after
    → length ys ≡ length xs → i < length xs → ((k : ℕ) (d : BlockActor) → i ≤ k → get_or ys k d ≡ get_or xs k d)
    → ((k : ℕ) (d : BlockActor) → k < i → HasTold before (get_or xs k d) (get_or ys k d)) → HasTold after (get_or ys i e) y
    → (k : ℕ) (d : BlockActor) → k < i + 1 → HasTold after (get_or xs k d) (get_or (set ys i y) k d)
told_more before after xs ys i e y p long room same all here k d near =
    let inside : i < length ys = omega (arith, room, long) in
    let P : ℕ → Type 0 = λ n. HasTold after (get_or xs n d) (get_or (set ys i y) n d) in
    let old : get_or ys i e ≡ get_or xs i d = same i e (omega arith) ∙ get_or_default xs i e d room in
    let now : y ≡ get_or (set ys i y) i d = sym (get_or-set_same ys i y d inside) in
    below_more P i
    (λ n l. subst (λ (z : BlockActor). HasTold after (get_or xs n d) z) (sym (get_or-set_other ys i n y d (λ e. absurd (omega (arith, e, l)))))
    (told_on before after (get_or xs n d) (get_or ys n d) p (all n d l)))
    (subst (λ (z : BlockActor × BlockActor). HasTold after z.0 z.1) (λ j. (old j, now j)) here) k near

pub set_length : (ys : List BlockActor) (i : ℕ) (y : BlockActor) → length (set ys i y) ≡ length ys
set_length ys i y = length-set ys i y

pub same_after : (xs ys : List BlockActor) (i : ℕ) (y : BlockActor) → ((k : ℕ) (d : BlockActor) → i ≤ k → get_or ys k d ≡ get_or xs k d)
    → (k : ℕ) (d : BlockActor) → i + 1 ≤ k → get_or (set ys i y) k d ≡ get_or xs k d
same_after xs ys i y same k d l = get_or-set_other ys i k y d (λ e. absurd (omega (arith, e, l))) ∙ same k d (omega (arith, l))

-- a pass stays of its cabinet
ran_in : (xs : List BlockLine) (c d : Clerk) (v w : PassValue Published) (all : List LineGot) → IsInItsGeneration v → HaveRun xs c v all d w
    → w.cabinet ≡ v.cabinet
ran_in [] c d v w all inside h = ap (λ (z : PassValue Published). z.cabinet) h.2
ran_in (x ∷ xs) c d v w all inside h =
    let s = stays_inside x.task c v h.got h.clerk h.pass inside h.first in
    ran_in xs h.clerk d h.pass w h.rest s.0 h.then ∙ s.1

of_one : (cabinet : TableId) (a b : BlockActor) → CanAct cabinet a → HasActed cabinet a b → IsOf cabinet (without_clerk b)
of_one cabinet (Pass a) (Pass b) can r = ran_in _ a.clerk b.clerk a.vcpu b.vcpu r.all can.0.inside r.ran ∙ can.1
of_one cabinet (Desk a) (Desk b) can r = r.1
of_one cabinet Gone Gone can r = tt
of_one cabinet (Pass a) (Desk b) can r = absurd r
of_one cabinet (Pass a) Gone can r = absurd r
of_one cabinet (Desk a) (Pass b) can r = absurd r
of_one cabinet (Desk a) Gone can r = absurd r
of_one cabinet Gone (Pass b) can r = absurd r
of_one cabinet Gone (Desk b) can r = absurd r

-- all virtual CPUs and notes are of the cabinet
pub of_all : (cabinet now : TableId) (a b t : List BlockActor) → now ≡ cabinet → length b ≡ length a → length t ≡ length b
    → ((i : ℕ) (d : BlockActor) → i < length a → CanAct cabinet (get_or a i d))
    → ((i : ℕ) (d : BlockActor) → i < length a → HasActed cabinet (get_or a i d) (get_or b i d))
    → ((i : ℕ) (d : BlockActor) → i < length b → get_or t i d ≡ without_clerk (get_or b i d))
    → (i : ℕ) (d : BlockActor) → i < length t → IsOf now (get_or t i d)
of_all cabinet now a b t is long wide cans acts took i d room =
    let first : i < length a = omega (arith, room, long, wide) in
    let second : i < length b = omega (arith, room, wide) in
    subst (λ (z : TableId × BlockActor). IsOf z.0 z.1) (λ j. (sym is j, sym (took i d second) j))
    (of_one cabinet (get_or a i d) (get_or b i d) (cans i d first) (acts i d first))

still_of : (cabinet : TableId) (seen : List HistoryEntry) (t e : BlockActor) → HasTold seen t e → IsOf cabinet t → (IsVcpuOf cabinet e × IsHeard seen e)
still_of cabinet seen (Pass t) (Pass e) h o =
    (ap (λ (z : PassActor). z.vcpu.cabinet) h.1 ∙ o, subst (λ (z : PassActor). IsPrefix z.vcpu.seen seen) (sym h.1) h.0)
still_of cabinet seen Gone Gone h o = (tt, tt)
still_of cabinet seen (Desk t) (Desk e) h o = (tt, tt)
still_of cabinet seen (Pass t) (Desk e) h o = absurd h
still_of cabinet seen (Pass t) Gone h o = absurd h
still_of cabinet seen (Desk t) (Pass e) h o = absurd h
still_of cabinet seen (Desk t) Gone h o = absurd h
still_of cabinet seen Gone (Pass e) h o = absurd h
still_of cabinet seen Gone (Desk e) h o = absurd h

-- an actor that did its lines, was heard without its clerk, and met

joined_pass : (seen : List HistoryEntry) (a b e f : PassActor) → passes.HasRun a b → e ≡ record b { clerk = new_clerk b.clerk.who }
    → IsPrefix b.vcpu.seen seen → HasMetPass seen e f → HasJoinedPass seen a f b.clerk
joined_pass seen a b e f r is heard m = record {
  after = b;
  run = r;
  clerk = refl;
  heard = heard;
  level = m.level;
  grew = subst (λ (z : PassActor). Grew z.vcpu [] f.vcpu) is m.grew;
  edition = m.edition ∙ ap (λ (z : PassActor). z.vcpu.edition) is;
  bounce = m.bounce ∙ ap (λ (z : PassActor). z.bounce) is;
  lines = m.lines ∙ ap (λ (z : PassActor). z.lines) is;
  got = m.got ∙ ap (λ (z : PassActor). z.got) is;
  out_of_memory = m.out_of_memory ∙ ap (λ (z : PassActor). z.out_of_memory) is;
  text = m.text ∙ ap (λ (z : PassActor). z.text) is;
}

joined_one : (cabinet : TableId) (seen : List HistoryEntry) (a b e f : BlockActor) → HasActed cabinet a b → HasTold seen (without_clerk b) e
    → HasMet seen e f → HasJoined seen a f (clerk_of b)
joined_one cabinet seen (Pass a) (Pass b) (Pass e) (Pass f) r t m = joined_pass seen a b e f r t.1 t.0 m
joined_one cabinet seen (Desk a) (Desk b) (Desk e) (Desk f) r t m = record {
  after = b;
  run = r.0;
  clerk = refl;
  heard = t.0;
  known = ap (λ (z : DeskActor). z.known) m ∙ t.1.known;
  lines = ap (λ (z : DeskActor). z.lines) m ∙ t.1.lines;
  said = ap (λ (z : DeskActor). z.said) m ∙ t.1.said;
  out_of_memory = ap (λ (z : DeskActor). z.out_of_memory) m ∙ t.1.out_of_memory;
}
joined_one cabinet seen Gone Gone Gone Gone r t m = tt
joined_one cabinet seen (Pass a) (Pass b) (Pass e) (Desk f) r t m = absurd m
joined_one cabinet seen (Pass a) (Pass b) (Pass e) Gone r t m = absurd m
joined_one cabinet seen (Pass a) (Pass b) (Desk e) f r t m = absurd t
joined_one cabinet seen (Pass a) (Pass b) Gone f r t m = absurd t
joined_one cabinet seen (Pass a) (Desk b) e f r t m = absurd r
joined_one cabinet seen (Pass a) Gone e f r t m = absurd r
joined_one cabinet seen (Desk a) (Desk b) (Desk e) (Pass f) r t m = absurd m
joined_one cabinet seen (Desk a) (Desk b) (Desk e) Gone r t m = absurd m
joined_one cabinet seen (Desk a) (Desk b) (Pass e) f r t m = absurd t
joined_one cabinet seen (Desk a) (Desk b) Gone f r t m = absurd t
joined_one cabinet seen (Desk a) (Pass b) e f r t m = absurd r
joined_one cabinet seen (Desk a) Gone e f r t m = absurd r
joined_one cabinet seen Gone Gone Gone (Pass f) r t m = absurd m
joined_one cabinet seen Gone Gone Gone (Desk f) r t m = absurd m
joined_one cabinet seen Gone Gone (Pass e) f r t m = absurd t
joined_one cabinet seen Gone Gone (Desk e) f r t m = absurd t
joined_one cabinet seen Gone (Pass b) e f r t m = absurd r
joined_one cabinet seen Gone (Desk b) e f r t m = absurd r

-- all of them: `b` after their lines, `k` their clerks, `t` without these, `e` once heard, and `f` once they have met
pub joined_all : (cabinet : TableId) (heard seen : List HistoryEntry) (a b t e f : List BlockActor) (k : List Clerk) → seen ≡ heard
    → length b ≡ length a → length t ≡ length b → length e ≡ length t → k ≡ map clerk_of b
    → ((i : ℕ) (d : BlockActor) → i < length a → HasActed cabinet (get_or a i d) (get_or b i d))
    → ((i : ℕ) (d : BlockActor) → i < length b → get_or t i d ≡ without_clerk (get_or b i d))
    → ((i : ℕ) (d : BlockActor) → i < length t → HasTold heard (get_or t i d) (get_or e i d))
    → ((i : ℕ) (d : BlockActor) → i < length e → HasMet heard (get_or e i d) (get_or f i d))
    → (i : ℕ) (d : BlockActor) (c : Clerk) → i < length a → HasJoined seen (get_or a i d) (get_or f i d) (get_or k i c)
joined_all cabinet heard seen a b t e f k is long wide same clerks acts took tells mets i d c room =
    let inside : i < length b = omega (arith, room, long) in
    let within : i < length t = omega (arith, inside, wide) in
    let on : i < length e = omega (arith, within, same) in
    let told = subst (λ (x : BlockActor). HasTold heard x (get_or e i d)) (took i d inside) (tells i d within) in
    let clerk : get_or k i c ≡ clerk_of (get_or b i d) = ap (λ (l : List Clerk). get_or l i c) clerks ∙ get_or-map clerk_of b i d c inside in
    subst (λ (z : List HistoryEntry × Clerk). HasJoined z.0 (get_or a i d) (get_or f i d) z.1) (λ j. (sym is j, sym clerk j))
    (joined_one cabinet heard (get_or a i d) (get_or b i d) (get_or e i d) (get_or f i d) (acts i d room) told (mets i d on))

-- what is asked of those that are to meet
pub still_all : (cabinet : TableId) (seen : List HistoryEntry) (t e : List BlockActor) → length e ≡ length t
    → ((i : ℕ) (d : BlockActor) → i < length t → IsOf cabinet (get_or t i d))
    → ((i : ℕ) (d : BlockActor) → i < length t → HasTold seen (get_or t i d) (get_or e i d))
    → (i : ℕ) (d : BlockActor) → i < length e → (IsVcpuOf cabinet (get_or e i d) × IsHeard seen (get_or e i d))
still_all cabinet seen t e same of tells i d room =
    let within : i < length t = omega (arith, room, same) in still_of cabinet seen (get_or t i d) (get_or e i d) (tells i d within) (of i d within)
