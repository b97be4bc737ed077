-- A history grows at its end, and each actor's part is what its own entries make.
use Rattle.std.proofs.Common.{◌≡◌, ◌≢◌, ℕ, ◌+◌, ◌<◌, ◌≤◌, eqb, Bool, true, false, List, [], ◌∷◌, ◌++◌, length, get_or, set, sym, refl, ap, ◌∙◌}
use Rattle.std.proofs.Common.{subst, arith, length-set, length-append, get_or-set_other, get_or-set_same, eq-eqb, ne_eqb, if◌then◌else◌, append-nil}
use mathlib.Core.Logic.{dite}
use mathlib.Core.List.{IsPrefix}
use base.Growing.{prefix_refl, prefix_trans}
use lib.ListN.{get_or-append}
use native.Mathlib.Decide.{ℕ_discrete}
use Rattle.mem_base.specs.declared.machine.events.Event.{Event}
use Rattle.mem_base.specs.declared.machine.events.Event.TheVariants as events
use Rattle.mem_base.specs.declared.machine.events.Carried.{Carried}
use Rattle.mem_base.specs.declared.machine.events.Carried.TheVariants.{Edition}
use Rattle.mem_base.specs.declared.machine.events.HistoryEntry.{HistoryEntry}
use Rattle.mem_base.specs.machine.Passes.{PassState, idle, pass_of, pass_after, passes_after, pass_id}
use Rattle.mem_base.specs.machine.Generations.{Generation, Generations, generation, generations_after}
use Rattle.mem_base.specs.machine.SharedHistory.{Shared, shared_possible, shared_reply, after_shared_entry, after_shared_entries, IsSharedLegalFrom}
use Rattle.mem_base.specs.machine.Turns.{history_entry}
use Rattle.mem_base.specs.machine.Actors.{actor_of, own_entries, pass_after_all, generations_after_all, published_from, published_with}
use Rattle.mem_base.specs.machine.Actors.{first_generation, generation_published, generations_published}

pub after_append : (xs ys : List HistoryEntry) (s : Shared) → after_shared_entries s (xs ++ ys) ≡ after_shared_entries (after_shared_entries s xs) ys
after_append [] ys s = refl
after_append (x ∷ xs) ys s = after_append xs ys (after_shared_entry s x)

pub published_append : (xs ys : List HistoryEntry) (gs : List Generation) → published_from gs (xs ++ ys) ≡ published_from (published_from gs xs) ys
published_append [] ys gs = refl
published_append (x ∷ xs) ys gs = published_append xs ys (published_with gs x.event x.carried)

pub legal_snoc : (xs : List HistoryEntry) (s : Shared) (e : Event) (x : Carried) (r : ℕ) → IsSharedLegalFrom s xs
    → shared_possible (after_shared_entries s xs) e x ≡ true → r ≡ shared_reply (after_shared_entries s xs) e x
    → IsSharedLegalFrom s (xs ++ history_entry e x r ∷ [])
legal_snoc [] s e x r l may is = (may, is, tt)
legal_snoc (y ∷ ys) s e x r l may is = (l.0, l.1, legal_snoc ys (after_shared_entry s y) e x r l.2 may is)

pub legal_start : (xs ys : List HistoryEntry) (s : Shared) → IsSharedLegalFrom s (xs ++ ys) → IsSharedLegalFrom s xs
legal_start [] ys s l = tt
legal_start (x ∷ xs) ys s l = (l.0, l.1, legal_start xs ys (after_shared_entry s x) l.2)

-- the last entry of a legal history has its reply
pub last_reply : (xs : List HistoryEntry) (s : Shared) (e : Event) (x : Carried) (r : ℕ) → IsSharedLegalFrom s (xs ++ history_entry e x r ∷ [])
    → r ≡ shared_reply (after_shared_entries s xs) e x
last_reply [] s e x r l = l.1
last_reply (y ∷ ys) s e x r l = last_reply ys (after_shared_entry s y) e x r l.2

pub own_append : (a : ℕ) (xs ys : List HistoryEntry) → own_entries a (xs ++ ys) ≡ own_entries a xs ++ own_entries a ys
own_append a [] ys = refl
own_append a (x ∷ xs) ys = go (eqb (actor_of x.event) a) (own_append a xs ys)
  where
    go : (b : Bool) → own_entries a (xs ++ ys) ≡ own_entries a xs ++ own_entries a ys
        → (if b then x ∷ own_entries a (xs ++ ys) else own_entries a (xs ++ ys)) ≡ (if b then x ∷ own_entries a xs else own_entries a xs) ++ own_entries a ys
    go true h = ap (λ l. x ∷ l) h
    go false h = h

pub own_other : (b : ℕ) (xs : List HistoryEntry) (e : Event) (x : Carried) (r : ℕ) → actor_of e ≢ b
    → own_entries b (xs ++ history_entry e x r ∷ []) ≡ own_entries b xs
own_other b xs e x r other = own_append b xs (history_entry e x r ∷ []) ∙ rw (ne_eqb (actor_of e) b other) (append-nil (own_entries b xs))

pub pass_by_append : (xs ys : List HistoryEntry) (p : PassState) → pass_after_all p (xs ++ ys) ≡ pass_after_all (pass_after_all p xs) ys
pass_by_append [] ys p = refl
pass_by_append (x ∷ xs) ys p = pass_by_append xs ys (pass_after p x.event x.reply)

pub generations_by_append : (xs ys : List HistoryEntry) (g : Generations)
    → generations_after_all g (xs ++ ys) ≡ generations_after_all (generations_after_all g xs) ys
generations_by_append [] ys g = refl
generations_by_append (x ∷ xs) ys g = generations_by_append xs ys (generations_after g x.event x.carried x.reply)

-- an entry that changes no pass
silent : (p : PassState) (y : HistoryEntry) (os : List HistoryEntry) → pass_after p y.event y.reply ≡ p → (b : Bool)
    → pass_after_all p os ≡ pass_after_all p (if b then y ∷ os else os)
silent p y os is true = ap (λ q. pass_after_all q os) (sym is)
silent p y os is false = refl

-- an entry of the pass u
moves : (ps : List PassState) (v : ℕ) (x : Carried) (r : ℕ) (os : List HistoryEntry) → v < length ps → (u : ℕ) (e : Event)
    → passes_after ps e r ≡ set ps u (pass_after (get_or ps u idle) e r) → actor_of e ≡ u + 1
    → pass_after_all (pass_of (passes_after ps e r) (pass_id v)) os
    ≡ pass_after_all (pass_of ps (pass_id v)) (if eqb (actor_of e) (v + 1) then history_entry e x r ∷ os else os)
moves ps v x r os near u e m b = rw (m, b) (dite (ℕ_discrete v u)
    (λ same. rw (eq-eqb (u + 1) (v + 1) (omega arith)) (ap (λ q. pass_after_all q os)
    (subst (λ (k : ℕ). get_or (set ps u (pass_after (get_or ps u idle) e r)) k idle ≡ pass_after (get_or ps k idle) e r) (sym same)
    (get_or-set_same ps u (pass_after (get_or ps u idle) e r) idle (omega arith)))))
    (λ other. rw (ne_eqb (u + 1) (v + 1) (λ q. other (omega arith)))
    (ap (λ q. pass_after_all q os) (get_or-set_other ps u v (pass_after (get_or ps u idle) e r) idle other))))

steps_pass : (ps : List PassState) (v : ℕ) → v < length ps → (e : Event) (x : Carried) (r : ℕ) (os : List HistoryEntry)
    → pass_after_all (pass_of (passes_after ps e r) (pass_id v)) os
    ≡ pass_after_all (pass_of ps (pass_id v)) (if eqb (actor_of e) (v + 1) then history_entry e x r ∷ os else os)
steps_pass ps v near (events.Look u) x r os = moves ps v x r os near u.0 (events.Look u) refl refl
steps_pass ps v near (events.Announce u) x r os = moves ps v x r os near u.0 (events.Announce u) refl refl
steps_pass ps v near (events.Enter u) x r os = moves ps v x r os near u.0 (events.Enter u) refl refl
steps_pass ps v near (events.Leave u) x r os = moves ps v x r os near u.0 (events.Leave u) refl refl
steps_pass ps v near (events.Sweep u) x r os = silent _ (history_entry (events.Sweep u) x r) os refl _
steps_pass ps v near (events.Place u) x r os = silent _ (history_entry (events.Place u) x r) os refl _
steps_pass ps v near events.Publish x r os = silent _ (history_entry events.Publish x r) os refl _
steps_pass ps v near (events.Word h c step) x r os = silent _ (history_entry (events.Word h c step) x r) os refl _
steps_pass ps v near (events.Mark u region client page) x r os = silent _ (history_entry (events.Mark u region client page) x r) os refl _
steps_pass ps v near (events.Harvest region client index) x r os = silent _ (history_entry (events.Harvest region client index) x r) os refl _
steps_pass ps v near (events.Fill c) x r os = silent _ (history_entry (events.Fill c) x r) os refl _
steps_pass ps v near (events.Config c) x r os = silent _ (history_entry (events.Config c) x r) os refl _
steps_pass ps v near events.Reap x r os = silent _ (history_entry events.Reap x r) os refl _

pub passes_stay : (ps : List PassState) (e : Event) (r : ℕ) → length (passes_after ps e r) ≡ length ps
passes_stay ps (events.Look u) r = length-set ps u.0 _
passes_stay ps (events.Announce u) r = length-set ps u.0 _
passes_stay ps (events.Enter u) r = length-set ps u.0 _
passes_stay ps (events.Leave u) r = length-set ps u.0 _
passes_stay ps _ r = refl

-- the pass v is what its own entries make
pub pass_owns : (xs : List HistoryEntry) (s : Shared) (v : ℕ) → v < length s.passes
    → pass_of (after_shared_entries s xs).passes (pass_id v) ≡ pass_after_all (pass_of s.passes (pass_id v)) (own_entries (v + 1) xs)
pass_owns [] s v near = refl
pass_owns (x ∷ xs) s v near = pass_owns xs (after_shared_entry s x) v (subst (λ (k : ℕ). v < k) (sym (passes_stay s.passes x.event x.reply)) near)
    ∙ steps_pass s.passes v near x.event x.carried x.reply (own_entries (v + 1) xs)

-- an entry that changes no generation
still : (g : Generations) (y : HistoryEntry) (os : List HistoryEntry) → generations_after g y.event y.carried y.reply ≡ g → (b : Bool)
    → generations_after_all g os ≡ generations_after_all g (if b then y ∷ os else os)
still g y os is true = ap (λ q. generations_after_all q os) (sym is)
still g y os is false = refl

steps_generations : (g : Generations) (e : Event) (x : Carried) (r : ℕ) (os : List HistoryEntry)
    → generations_after_all (generations_after g e x r) os ≡ generations_after_all g (if eqb (actor_of e) 0 then history_entry e x r ∷ os else os)
steps_generations g (events.Look u) x r os = still g (history_entry (events.Look u) x r) os refl _
steps_generations g (events.Announce u) x r os = still g (history_entry (events.Announce u) x r) os refl _
steps_generations g (events.Enter u) x r os = still g (history_entry (events.Enter u) x r) os refl _
steps_generations g (events.Leave u) x r os = still g (history_entry (events.Leave u) x r) os refl _
steps_generations g (events.Word h c step) x r os = still g (history_entry (events.Word h c step) x r) os refl _
steps_generations g (events.Mark u region client page) x r os = still g (history_entry (events.Mark u region client page) x r) os refl _
steps_generations g (events.Harvest region client index) x r os = still g (history_entry (events.Harvest region client index) x r) os refl true
steps_generations g (events.Fill c) x r os = still g (history_entry (events.Fill c) x r) os refl true
steps_generations g (events.Config c) x r os = still g (history_entry (events.Config c) x r) os refl true
steps_generations g events.Reap x r os = still g (history_entry events.Reap x r) os refl true
steps_generations g _ x r os = refl

-- the generations are what the writer's own entries make
pub generations_own : (xs : List HistoryEntry) (s : Shared) → (after_shared_entries s xs).generations ≡ generations_after_all s.generations (own_entries 0 xs)
generations_own [] s = refl
generations_own (x ∷ xs) s = generations_own xs (after_shared_entry s x) ∙ steps_generations s.generations x.event x.carried x.reply (own_entries 0 xs)

-- what was published stays under its number

pub published_grows : (xs : List HistoryEntry) (gs : List Generation) → IsPrefix gs (published_from gs xs)
published_grows [] gs = prefix_refl gs
published_grows (x ∷ xs) gs = prefix_trans gs (published_with gs x.event x.carried) (published_from (published_with gs x.event x.carried) xs)
    (one x.event x.carried) (published_grows xs (published_with gs x.event x.carried))
  where
    one : (e : Event) (c : Carried) → IsPrefix gs (published_with gs e c)
    one events.Publish (Edition forest places) = (generation forest places ∷ [], refl)
    one e c = prefix_refl gs

-- what a generation shows stays, once it was published
pub generation_stays : (xs log : List HistoryEntry) → IsPrefix xs log → (g : ℕ) → g < length (generations_published xs)
    → generation_published log g ≡ generation_published xs g
generation_stays xs log h g l =
    let more = published_grows h.0 (generations_published xs) in
    let whole : published_from (generations_published xs) h.0 ≡ generations_published log = sym (published_append xs h.0 (first_generation ∷ []))
    ∙ ap generations_published h.1 in
    ap (λ t. get_or t g first_generation) (sym whole ∙ sym more.1) ∙ get_or-append (generations_published xs) more.0 first_generation g l

pub published_more : (xs log : List HistoryEntry) → IsPrefix xs log → (g : ℕ) → g < length (generations_published xs) → g < length (generations_published log)
published_more xs log h g l =
    let more = published_grows h.0 (generations_published xs) in
    let whole : published_from (generations_published xs) h.0 ≡ generations_published log = sym (published_append xs h.0 (first_generation ∷ []))
    ∙ ap generations_published h.1 in
    let long : length (generations_published xs) + length more.0 ≡ length (generations_published log) = sym (length-append (generations_published xs) more.0)
    ∙ ap length (more.1 ∙ whole) in omega arith

pub published_longer : (xs log : List HistoryEntry) → IsPrefix xs log → length (generations_published xs) ≤ length (generations_published log)
published_longer xs log h =
    let more = published_grows h.0 (generations_published xs) in
    let whole : published_from (generations_published xs) h.0 ≡ generations_published log = sym (published_append xs h.0 (first_generation ∷ []))
    ∙ ap generations_published h.1 in
    let long : length (generations_published xs) + length more.0 ≡ length (generations_published log) = sym (length-append (generations_published xs) more.0)
    ∙ ap length (more.1 ∙ whole) in omega arith
