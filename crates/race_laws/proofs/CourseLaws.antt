-- One more order: the record and the clerks' lists grow, and agree as they did.
use Rattle.std.proofs.Common.{◌≡◌, ℕ, Bool, true, false, eqb, cond, List, [], ◌∷◌, ◌++◌, map, find, refl, sym, ap, ◌∙◌, subst, arith}
use Rattle.std.proofs.Common.{Some, None, if◌then◌else◌, not, ◌||◌, append-nil, eqb-true, eq-eqb}
use Rattle.std.specs.List.{list_any}
use Rattle.mem_base.specs.declared.machine.records.DeskEntry.{DeskEntry}
use Rattle.mem_base.specs.declared.machine.records.DeskOrder.{DeskOrder}
use Rattle.mem_base.specs.lists.Every.{Every}
use Rattle.mem_base.specs.machine.Reaps.{Writer}
use Rattle.mem_base.specs.machine.Turns.{Answered, turn, turns, last_writer}
use Rattle.mem_base.specs.machine.Records.{Given, Clerk, Closes, IsOfRecord, answered, call_of, entries_by, entry_of, got_by, recorded}
use Rattle.mem_base.specs.script.Race.{Stand, Course, turns_in}
use Rattle.race_laws.proofs.GoesOn.{add_got, ordered_on}
use Rattle.turn_laws.proofs.TurnLists.{turns_push}

-- turns, and one more

pub answered_push : (gs : List Given) (g : Given) → map answered (gs ++ g ∷ []) ≡ map answered gs ++ answered g ∷ []
answered_push [] g = refl
answered_push (h ∷ gs) g = ap (λ (os : List Answered). answered h ∷ os) (answered_push gs g)

pub recorded_push : (w : Writer) (gs : List Given) (g : Given) → let u = last_writer w (turns w (map answered gs)) in
    recorded w (gs ++ g ∷ []) ≡ recorded w gs ++ entry_of u g (turn u (call_of g.order) g.replies) ∷ []
recorded_push w [] g = refl
recorded_push w (h ∷ gs) g =
    let t = turn w (call_of h.order) h.replies in ap (λ (es : List DeskEntry). entry_of w h t ∷ es) (recorded_push t.writer gs g)

pub turns_in_push : (s : Stand) (c : Course) (who : ℕ) (order : DeskOrder) (replies : List ℕ)
    → turns_in s (ordered_on s c who order replies)
    ≡ turns_in s c ++ turn (last_writer s.writer (turns_in s c)) (call_of order) replies ∷ []
turns_in_push s c who order replies =
    let g : Given = record { who = who; order = order; replies = replies } in
    ap (λ (os : List Answered). turns s.writer os) (answered_push c.given g) ∙ turns_push s.writer (map answered c.given) (answered g)

-- the clerks' lists

has_clerk_same : (cs : List Clerk) (who n : ℕ) (e : DeskEntry)
    → list_any (λ (c : Clerk). eqb c.who n) (add_got who e cs) ≡ list_any (λ (c : Clerk). eqb c.who n) cs
has_clerk_same [] who n e = refl
has_clerk_same (c ∷ cs) who n e = go (eqb c.who who) (has_clerk_same cs who n e)
  where
    go : (b : Bool) → list_any (λ (c : Clerk). eqb c.who n) (add_got who e cs) ≡ list_any (λ (c : Clerk). eqb c.who n) cs
        → list_any (λ (c : Clerk). eqb c.who n) ((if b then record c { got = c.got ++ e ∷ [] } else c) ∷ add_got who e cs)
        ≡ (eqb c.who n || list_any (λ (c : Clerk). eqb c.who n) cs)
    go true rest = ap (λ (b : Bool). eqb c.who n || b) rest
    go false rest = ap (λ (b : Bool). eqb c.who n || b) rest

pub clerks_same : (cs : List Clerk) (who : ℕ) (e : DeskEntry) → map (λ (c : Clerk). c.who) (add_got who e cs) ≡ map (λ (c : Clerk). c.who) cs
clerks_same [] who e = refl
clerks_same (c ∷ cs) who e = go (eqb c.who who) (clerks_same cs who e)
  where
    go : (b : Bool) → map (λ (c : Clerk). c.who) (add_got who e cs) ≡ map (λ (c : Clerk). c.who) cs
        → map (λ (c : Clerk). c.who) ((if b then record c { got = c.got ++ e ∷ [] } else c) ∷ add_got who e cs) ≡ c.who ∷ map (λ (c : Clerk). c.who) cs
    go true rest = ap (λ (ns : List ℕ). c.who ∷ ns) rest
    go false rest = ap (λ (ns : List ℕ). c.who ∷ ns) rest

pub got_more : (cs : List Clerk) (who : ℕ) (e : DeskEntry) → list_any (λ (c : Clerk). eqb c.who who) cs ≡ true
    → got_by who (add_got who e cs) ≡ got_by who cs ++ e ∷ []
got_more [] who e h = absurd (grind arith)
got_more (c ∷ cs) who e h = go (eqb c.who who) refl h (got_more cs who e)
  where
    go : (b : Bool) → eqb c.who who ≡ b → (b || list_any (λ (c : Clerk). eqb c.who who) cs) ≡ true
        → (list_any (λ (c : Clerk). eqb c.who who) cs ≡ true → got_by who (add_got who e cs) ≡ got_by who cs ++ e ∷ [])
        → got_by who ((if b then record c { got = c.got ++ e ∷ [] } else c) ∷ add_got who e cs) ≡ (if b then c.got else got_by who cs) ++ e ∷ []
    go true is h rest = ap (λ (b : Bool). if b then c.got ++ e ∷ [] else got_by who (add_got who e cs)) is
    go false is h rest = ap (λ (b : Bool). if b then c.got else got_by who (add_got who e cs)) is ∙ rest h

pub got_same : (cs : List Clerk) (who other : ℕ) (e : DeskEntry) → eqb who other ≡ false → got_by other (add_got who e cs) ≡ got_by other cs
got_same [] who other e ne = refl
got_same (c ∷ cs) who other e ne = go (eqb c.who who) refl (got_same cs who other e ne)
  where
    go : (b : Bool) → eqb c.who who ≡ b → got_by other (add_got who e cs) ≡ got_by other cs
        → got_by other ((if b then record c { got = c.got ++ e ∷ [] } else c) ∷ add_got who e cs) ≡ (if eqb c.who other then c.got else got_by other cs)
    go true is rest =
        let not_here : eqb c.who other ≡ false = subst (λ (n : ℕ). eqb n other ≡ false) (sym (eqb-true c.who who is)) ne in
        ap (λ (b : Bool). if b then c.got ++ e ∷ [] else got_by other (add_got who e cs)) not_here ∙ rest
        ∙ sym (ap (λ (b : Bool). if b then c.got else got_by other cs) not_here)
    go false is rest = ap (λ (es : List DeskEntry). if eqb c.who other then c.got else es) rest

-- the record, by actor

entries_by_push : (who : ℕ) (es : List DeskEntry) (e : DeskEntry)
    → entries_by who (es ++ e ∷ []) ≡ entries_by who es ++ (if eqb e.who who then e ∷ [] else [])
entries_by_push who [] e = go (eqb e.who who)
  where
    go : (b : Bool) → cond b (e ∷ []) [] ≡ (if b then e ∷ [] else [])
    go true = refl
    go false = refl
entries_by_push who (x ∷ es) e = go (eqb x.who who) (entries_by_push who es e)
  where
    go : (b : Bool) → entries_by who (es ++ e ∷ []) ≡ entries_by who es ++ (if eqb e.who who then e ∷ [] else [])
        → cond b (x ∷ entries_by who (es ++ e ∷ [])) (entries_by who (es ++ e ∷ []))
        ≡ cond b (x ∷ entries_by who es) (entries_by who es) ++ (if eqb e.who who then e ∷ [] else [])
    go true rest = ap (λ (xs : List DeskEntry). x ∷ xs) rest
    go false rest = rest

each_of_record : (es : List DeskEntry) (e : DeskEntry) (cs : List Clerk) → Every (IsOfRecord es) cs → Every (IsOfRecord (es ++ e ∷ [])) (add_got e.who e cs)
each_of_record es e [] h = tt
each_of_record es e (c ∷ cs) h = (go (eqb c.who e.who) refl, each_of_record es e cs h.1)
  where
    swap : (a b : ℕ) (v : Bool) → eqb a b ≡ v → eqb b a ≡ v
    swap a b true is = eq-eqb b a (sym (eqb-true a b is))
    swap a b false is = go (eqb b a) refl
      where
        go : (v : Bool) → eqb b a ≡ v → v ≡ false
        go false e = refl
        go true e = sym (eq-eqb a b (sym (eqb-true b a e))) ∙ is

    go : (b : Bool) → eqb c.who e.who ≡ b → IsOfRecord (es ++ e ∷ []) (if b then record c { got = c.got ++ e ∷ [] } else c)
    go true is =
        (λ i. h.0 i ++ e ∷ [])
        ∙ ap (λ (b : Bool). entries_by c.who es ++ (if b then e ∷ [] else [])) (sym (swap c.who e.who true is))
        ∙ sym (entries_by_push c.who es e)
    go false is =
        h.0 ∙ sym (append-nil (entries_by c.who es))
        ∙ ap (λ (b : Bool). entries_by c.who es ++ (if b then e ∷ [] else [])) (sym (swap c.who e.who false is))
        ∙ sym (entries_by_push c.who es e)

find_push : (p : DeskEntry → Bool) (es : List DeskEntry) (e : DeskEntry) → find p es ≡ None → p e ≡ false → find p (es ++ e ∷ []) ≡ None
find_push p [] e h k = ap (λ (b : Bool). cond b (Some e) None) k
find_push p (x ∷ es) e h k = go (p x) h (find_push p es e)
  where
    go : (b : Bool) → cond b (Some x) (find p es) ≡ None → (find p es ≡ None → p e ≡ false → find p (es ++ e ∷ []) ≡ None)
        → cond b (Some x) (find p (es ++ e ∷ [])) ≡ None
    go true h rest = absurd (grind arith)
    go false h rest = rest h k

pub closes_on : (es : List DeskEntry) (e : DeskEntry) (cs : List Clerk) → Closes es cs None → list_any (λ (c : Clerk). eqb c.who e.who) cs ≡ true
    → Closes (es ++ e ∷ []) (add_got e.who e cs) None
closes_on es e cs h there = (
  each_of_record es e cs h.0,
  (λ i. find (λ (x : DeskEntry). not (has_clerk_same cs e.who x.who e i)) (es ++ e ∷ []))
      ∙ find_push (λ (x : DeskEntry). not (list_any (λ (c : Clerk). eqb c.who x.who) cs)) es e h.1 (ap not there),
)
