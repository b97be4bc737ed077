-- The lines of the desk, one after another.
use Rattle.std.proofs.Common.{◌≡◌, inl, inr, ℕ, zero, suc, ◌+◌, ◌<◌, ◌≤◌, List, [], ◌∷◌, ◌++◌, drop, length, map, take, refl, sym, ap, subst, ◌∙◌}
use Rattle.std.proofs.Common.{append-nil, append_assoc, arith}
use Rattle.std.specs.Prelude.{slice_index_or}
use Rattle.std.proofs.lemmas.List.{map-append}
use Rattle.mem_base.specs.declared.machine.events.HistoryEntry.{HistoryEntry}
use Rattle.mem_base.specs.declared.machine.records.DeskEntry.{DeskEntry}
use Rattle.mem_base.specs.lists.Every.{Every}
use Rattle.mem_base.specs.machine.Generations.{Generation}
use Rattle.mem_base.specs.machine.Actors.{generations_published}
use Rattle.mem_base.specs.machine.Records.{Clerk}
use Rattle.mem_base.specs.script.Scripts.{Line}
use Rattle.mem_base.specs.script.Tasks.{Known}
use Rattle.mem_base.specs.script.RaceLines.{DeskLine, Said, line_of_desk, lines_of_desk}
use Rattle.epoch_rule.specs.Values.{NoteValue}
use Rattle.race_laws.specs.Acting.{DeskAt, DeskLeft, left_of_desk}
use Rattle.race_laws.specs.SoFar.{IsTold}
use Rattle.race_laws.specs.Stopped.{BeginsLine}
use Rattle.race_laws.proofs.ActingLaws.{desk_acts}
use Rattle.race_laws.proofs.EnterLaws.{some_published}
use Rattle.race_laws.proofs.NextLines.{desk_append}
use Rattle.race_block.specs.declared.desks.Asked.{Asked}
use Rattle.race_block.specs.declared.tasks.OwnLine.{OwnLine}
use Rattle.race_block.specs.Desks.{DeskKeeps, DoesDeskLine, HasDoneLines, HasHeard, HasStopped, IsAsked, IsNotDone, LeavesLine, StopsIn, clerk_with}
use Rattle.race_block.specs.Desks.{line_asked, line_meant, lines_meant}
use Rattle.race_block.proofs.DeskLaws.{heard_both, told_both, with_nothing}
use Rattle.race_block.proofs.ResolvingLaws.{take_all}

none_done : (k : Known) (c : Clerk) → HasDoneLines k [] c c [] k []
none_done k c = record {
  got = [];
  clerk = with_nothing c;
  keeps = λ seen heard. record { at = desk_acts.begins (generations_published seen) k; told = tt; writes = λ more. refl };
}

more_clerk : (c d e : Clerk) (got new : List DeskEntry) → d ≡ clerk_with c got → e ≡ clerk_with d new → e ≡ clerk_with c (got ++ new)
more_clerk c d e got new h k =
    k ∙ ap (λ (z : Clerk). clerk_with z new) h
    ∙ ap (λ (all : List DeskEntry). let y : Clerk = record { who = c.who; got = all } in y) (append_assoc c.got got new)

-- one more line
module _ (k : Known) (lines : List Line) (c d e : Clerk) (notes more : List NoteValue) (now : Known) (said : List Said) (line : Line) (x : Asked)
    (h : HasDoneLines k lines c d notes now said) (a : IsAsked now line d notes x e more) where
  abbrev after : DeskLine
  after = line_asked now line.0 x

  one_keeps : (seen : List HistoryEntry) → HasHeard more seen
      → DeskKeeps (generations_published seen) k (lines ++ line ∷ []) (h.got ++ a.asked.new) after.known (said ++ after.said ∷ [])
  one_keeps seen heard =
      let gs : List Generation = generations_published seen in
      let both = heard_both notes a.asked.heard seen (subst (λ (ns : List NoteValue). HasHeard ns seen) a.asked.notes_are heard) in
      let was : DeskKeeps gs k lines h.got now said = h.keeps seen both.0 in
      let given = a.asked.is seen both.1 in
      let is : line_of_desk gs now line a.asked.new ≡ after =
      ap (λ (es : List DeskEntry). line_of_desk gs now line es) (sym (append-nil a.asked.new)) ∙ a.is seen both.1 [] in record {
        at = subst (λ (z : DeskLine). DeskAt gs k (lines ++ line ∷ []) (h.got ++ a.asked.new) z.known) is
            (desk_acts.goes gs k lines h.got now line a.asked.new was.at (some_published seen) given.asks given.looked);
        told = told_both (length gs) h.got a.asked.new was.told given.told;
        writes = λ others.
            let rest : List DeskEntry = a.asked.new ++ others in
            let left : left_of_desk gs k lines (h.got ++ rest) ≡ record { known = now; got = rest } =
            ap (λ (hs : List Generation). left_of_desk hs k lines (h.got ++ rest)) (sym (append-nil gs)) ∙ (was.at [] rest).left in
            ap (λ (es : List DeskEntry). map (λ (z : DeskLine). z.said) (lines_of_desk gs k (lines ++ line ∷ []) es)) (append_assoc h.got a.asked.new others)
            ∙ ap (λ (zs : List DeskLine). map (λ (z : DeskLine). z.said) zs) (desk_append gs k lines (line ∷ []) (h.got ++ rest))
            ∙ ap (λ (l : DeskLeft). map (λ (z : DeskLine). z.said) (lines_of_desk gs k lines (h.got ++ rest)
            ++ lines_of_desk gs l.known (line ∷ []) l.got)) left
            ∙ map-append (λ (z : DeskLine). z.said) (lines_of_desk gs k lines (h.got ++ rest)) (line_of_desk gs now line rest ∷ [])
            ∙ (λ i. was.writes rest i ++ (a.is seen both.1 others i).said ∷ []);
      }

  one_more : (next : Known) (written : List Said) → LeavesLine now line.0 x said next written
      → HasDoneLines k (lines ++ line ∷ []) c e more next written
  one_more next written l =
      subst (λ (z : Known × List Said). HasDoneLines k (lines ++ line ∷ []) c e more z.0 z.1) (λ i. (sym l.known i, sym l.written i)) (record {
        got = h.got ++ a.asked.new;
        clerk = more_clerk c d e h.got a.asked.new h.clerk a.asked.clerk;
        keeps = one_keeps;
      })

  -- what it wrote was lost
  one_lost : (all left : List Line) → all ≡ (lines ++ line ∷ []) ++ left → HasStopped k all c e more
  one_lost all left cut =
      let got : List DeskEntry = h.got ++ a.asked.new in record {
        front = lines ++ line ∷ [];
        left = left;
        cut = cut;
        got = got;
        had = [];
        clerk = more_clerk c d e h.got a.asked.new h.clerk a.asked.clerk
            ∙ ap (λ (es : List DeskEntry). clerk_with c es) (sym (append-nil got));
        now = after.known;
        next = tt;
        at = λ seen heard. (one_keeps seen heard).at;
        told = λ seen heard. subst (λ (es : List DeskEntry). Every (IsTold (length (generations_published seen))) es) (sym (append-nil got))
            (one_keeps seen heard).told;
      }

begins_more : (k : Known) (line : Line) (left : List Line) (had : List DeskEntry) → BeginsLine k (line ∷ []) had → BeginsLine k (line ∷ left) had
begins_more k line left [] h = tt
begins_more k line left (e ∷ []) h = h
begins_more k line left (e ∷ f ∷ had) h = absurd h

-- it stopped within the orders of a line
one_stops : (k : Known) (lines : List Line) (c d e : Clerk) (notes more : List NoteValue) (now : Known) (said : List Said) (line : Line)
    (all left : List Line) → HasDoneLines k lines c d notes now said → StopsIn now line d notes e more → all ≡ lines ++ line ∷ left
    → HasStopped k all c e more
one_stops k lines c d e notes more now said line all left h s cut = record {
  front = lines;
  left = line ∷ left;
  cut = cut;
  got = h.got;
  had = s.new;
  clerk = more_clerk c d e h.got s.new h.clerk s.clerk;
  now = now;
  next = begins_more now line left s.new s.begins;
  at = λ seen heard. (h.keeps seen (heard_both notes s.heard seen (subst (λ (ns : List NoteValue). HasHeard ns seen) s.notes_are heard)).0).at;
  told = λ seen heard.
      let both = heard_both notes s.heard seen (subst (λ (ns : List NoteValue). HasHeard ns seen) s.notes_are heard) in
      told_both (length (generations_published seen)) h.got s.new (h.keeps seen both.0).told (s.told seen both.1);
}

-- lists of lines

take_more : (xs : List OwnLine) (at : ℕ) (x : OwnLine) → at < length xs → slice_index_or xs at x ≡ x
    → lines_meant (take (at + 1) xs) ≡ lines_meant (take at xs) ++ line_meant x ∷ []
take_more [] at x l is = absurd (omega (arith, l))
take_more (y ∷ xs) zero x l is = ap (λ (z : OwnLine). line_meant z ∷ []) is
take_more (y ∷ xs) (suc at) x l is =
    let next : suc at + 1 ≡ suc (at + 1) = omega arith in
    ap (λ (n : ℕ). lines_meant (take n (y ∷ xs))) next ∙ ap (λ (zs : List Line). line_meant y ∷ zs) (take_more xs at x (omega (arith, l)) is)

cut_at : (xs : List OwnLine) (at : ℕ) (x : OwnLine) → at < length xs → slice_index_or xs at x ≡ x
    → lines_meant xs ≡ lines_meant (take at xs) ++ line_meant x ∷ lines_meant (drop (suc at) xs)
cut_at [] at x l is = absurd (omega (arith, l))
cut_at (y ∷ xs) zero x l is = ap (λ (z : OwnLine). line_meant z ∷ lines_meant xs) is
cut_at (y ∷ xs) (suc at) x l is = ap (λ (zs : List Line). line_meant y ∷ zs) (cut_at xs at x (omega (arith, l)) is)

-- the loop

pub step_done : (k : Known) (xs : List OwnLine) (at : ℕ) (x : OwnLine) (c d e : Clerk) (notes more : List NoteValue)
    (now next : Known) (said written : List Said) → at < length xs → slice_index_or xs at x ≡ x
    → HasDoneLines k (lines_meant (take at xs)) c d notes now said → DoesDeskLine now (line_meant x) d notes said e more next written
    → HasDoneLines k (lines_meant (take (at + 1) xs)) c e more next written
step_done k xs at x c d e notes more now next said written l is h s =
    subst (λ (zs : List Line). HasDoneLines k zs c e more next written) (sym (take_more xs at x l is))
    (one_more k (lines_meant (take at xs)) c d e notes more now said (line_meant x) s.x h s.asked next written s.leaves)

pub step_stops : (k : Known) (xs : List OwnLine) (at : ℕ) (x : OwnLine) (c d e : Clerk) (notes more : List NoteValue)
    (now : Known) (said : List Said) → at < length xs → slice_index_or xs at x ≡ x
    → HasDoneLines k (lines_meant (take at xs)) c d notes now said → IsNotDone now (line_meant x) d notes e more
    → HasStopped k (lines_meant xs) c e more
step_stops k xs at x c d e notes more now said l is h (inl s) =
    one_stops k (lines_meant (take at xs)) c d e notes more now said (line_meant x) (lines_meant xs) (lines_meant (drop (suc at) xs)) h s
    (cut_at xs at x l is)
step_stops k xs at x c d e notes more now said l is h (inr s) =
    let front : List Line = lines_meant (take at xs) in
    let left : List Line = lines_meant (drop (suc at) xs) in
    one_lost k front c d e notes more now said (line_meant x) s.0 h s.1 (lines_meant xs) left
    (cut_at xs at x l is ∙ sym (append_assoc front (line_meant x ∷ []) left))

pub first_done : (k : Known) (c : Clerk) (notes : List NoteValue) (said : List Said) → notes ≡ [] → said ≡ [] → HasDoneLines k [] c c notes k said
first_done k c notes said unheard silent =
    subst (λ (z : List NoteValue × List Said). HasDoneLines k [] c c z.0 k z.1) (λ i. (sym unheard i, sym silent i)) (none_done k c)

pub all_done : (k : Known) (xs : List OwnLine) (at : ℕ) (c d : Clerk) (notes : List NoteValue) (now : Known) (said : List Said)
    → length xs ≤ at → HasDoneLines k (lines_meant (take at xs)) c d notes now said → HasDoneLines k (lines_meant xs) c d notes now said
all_done k xs at c d notes now said l h = subst (λ (ys : List OwnLine). HasDoneLines k (lines_meant ys) c d notes now said) (take_all xs at l) h
