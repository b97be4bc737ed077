-- All actors after a block, found by their numbers.
use Rattle.std.proofs.Common.{◌≡◌, ◌<◌, ℕ, Bool, true, false, ◌||◌, List, [], ◌∷◌, refl, sym, ap, subst, ◌∙◌, arith, Option}
use Rattle.std.specs.Prelude.{◌==◌}
use Rattle.std.specs.List.{list_any}
use Rattle.std.proofs.lemmas.Bool.{eqb-true}
use Rattle.atomic_table.specs.Seated.{TableId}
use Rattle.mem_base.specs.declared.machine.events.HistoryEntry.{HistoryEntry}
use Rattle.mem_base.specs.declared.machine.records.DeskEntry.{DeskEntry}
use Rattle.mem_base.specs.declared.machine.records.Differs.{Differs}
use Rattle.mem_base.specs.map.Limits.{most_passes}
use Rattle.mem_base.specs.machine.Actors.{generations_published}
use Rattle.mem_base.specs.machine.Records.{Clerk, got_by}
use Rattle.mem_base.specs.script.Scripts.{Line}
use Rattle.mem_base.specs.script.Tasks.{Known}
use Rattle.mem_base.specs.script.RaceLines.{Said}
use Rattle.mem_base.specs.script.Race.{actors_in, block, desk_number, lines_by}
use Rattle.race_laws.proofs.ActingLaws.{desk_acts}
use Rattle.desk_orders.specs.Records.{RecordState}
use Rattle.race_block.specs.declared.blocks.BlockActor.{BlockActor}
use Rattle.race_block.specs.declared.blocks.BlockActor.TheVariants.{Desk, Pass, Gone}
use Rattle.race_block.specs.declared.desks.DeskActor.{DeskActor}
use Rattle.race_block.specs.declared.passes.PassActor.{PassActor}
use Rattle.race_block.specs.Blocks.{CanAct}
use Rattle.race_block.specs.Desks.{DeskKeeps}
use Rattle.race_block.specs.Joined.{HasJoined}
use Rattle.race_seats.specs.Starts.{IsAtStart}
use Rattle.race_seats.specs.Ran.{HasRunBlock, is_out_of_memory, known_after_block}
use Rattle.race_seats.proofs.ListLaws.{Each, GotIs, IsItsClerk, actors_apart, each_both, each_weaker, find_each, got_each, got_nothing, has_lines}
use Rattle.race_seats.proofs.ListLaws.{in_actors, is_in, no_lines}
use Rattle.race_seats.proofs.StartLaws.{WasActor, were_actors}
use Rattle.race_seats.proofs.DeskLaws.{DeskBegan, DeskEnded, desk_ended}
use Rattle.race_seats.proofs.PassLaws.{PassEnded, pass_ended}
use Rattle.mem_base.proofs.BoolLaws.{true_is_not_false, neither_first, neither_second}

-- the actor of a number after the block
abbrev pub Ended : Known → List Line → List HistoryEntry → List HistoryEntry → ℕ → BlockActor → Clerk → Type 0
Ended k lines before seen who (Desk b) c = (who ≡ desk_number) × DeskEnded k lines seen b c
Ended k lines before seen who (Pass b) c = PassEnded k lines before seen who b c
Ended k lines before seen who Gone c = ⊥

-- memory lasted for the actor, where it did for all
abbrev pub LastsWith : List BlockActor → ℕ → BlockActor → Clerk → Type 0
LastsWith all n x c = list_any is_out_of_memory all ≡ false → is_out_of_memory x ≡ false

-- the desk after the block, by its lines and what it got, also where it had out lines; where memory lasted, this is known
pub record DeskStays (k : Known) (seen : List HistoryEntry) (lasted : Type 0) (lines : List Line) (got : List DeskEntry) (now : Known) : Type 0 where
  pub began : DeskBegan k lines seen got
  pub said : List Said
  pub whole : lasted → DeskKeeps (generations_published seen) k lines got now said

module _ (k : Known) (lines : List Line) (before seen : List HistoryEntry) where
  ended_one : (cabinet : TableId) (who : ℕ) (a b : BlockActor) (c : Clerk) → IsAtStart k lines before who a → CanAct cabinet a → HasJoined seen a b c
      → Ended k lines before seen who b c
  ended_one cabinet who (Desk a) (Desk b) c s can j = (s.0, desk_ended k lines seen a b c s.1 j)
  ended_one cabinet who (Pass a) (Pass b) c s can j = pass_ended k lines before seen who a b c s can.0 j
  ended_one cabinet who Gone b c s can j = absurd s
  ended_one cabinet who (Desk a) (Pass b) c s can j = absurd j
  ended_one cabinet who (Desk a) Gone c s can j = absurd j
  ended_one cabinet who (Pass a) (Desk b) c s can j = absurd j
  ended_one cabinet who (Pass a) Gone c s can j = absurd j

  clerk_ended : (who : ℕ) (b : BlockActor) (c : Clerk) → Ended k lines before seen who b c → c.who ≡ who
  clerk_ended who (Desk b) c e = e.1.who ∙ sym e.0
  clerk_ended who (Pass b) c e = e.who_is
  clerk_ended who Gone c e = absurd e

  lasting : (E : ℕ → BlockActor → Clerk → Type 0) (ns : List ℕ) (xs : List BlockActor) (cs : List Clerk) → Each E ns xs cs → Each (LastsWith xs) ns xs cs
  lasting E [] [] [] h = tt
  lasting E (n ∷ ns) (x ∷ xs) (c ∷ cs) h = (
    λ none. neither_first (is_out_of_memory x) (list_any is_out_of_memory xs) none,
    each_weaker (LastsWith xs) (LastsWith (x ∷ xs)) (λ m y d f none. f (neither_second (is_out_of_memory x) (list_any is_out_of_memory xs) none)) ns xs cs
        (lasting E ns xs cs h.1),
  )
  lasting E [] [] (c ∷ cs) h = absurd h
  lasting E [] (x ∷ xs) cs h = absurd h
  lasting E (n ∷ ns) [] cs h = absurd h
  lasting E (n ∷ ns) (x ∷ xs) [] h = absurd h

  module _ (news : List BlockActor) (clerks : List Clerk) where
    -- an actor with its number and its clerk: what it got is what the clerk has
    pub record IsEnded (who : ℕ) (b : BlockActor) (c : Clerk) : Type 0 where
      pub ended : Ended k lines before seen who b c
      pub got : got_by who clerks ≡ c.got
      pub lasts : LastsWith news who b c

    -- the desk, the first that there is
    record FoundDesk (xs : List BlockActor) : Type 0 where
      desk : DeskActor
      clerk : Clerk
      is : IsEnded desk_number (Desk desk) clerk
      known : known_after_block k xs ≡ desk.known

    find_desk : (ns : List ℕ) (xs : List BlockActor) (cs : List Clerk) → Each IsEnded ns xs cs → is_in desk_number ns ≡ true → FoundDesk xs
    find_desk [] xs cs h there = true_is_not_false false there refl
    find_desk (n ∷ ns) [] cs h there = absurd h
    find_desk (n ∷ ns) (x ∷ xs) [] h there = absurd h
    find_desk (n ∷ ns) (Gone ∷ xs) (c ∷ cs) h there = absurd h.0.ended
    find_desk (n ∷ ns) (Desk b ∷ xs) (c ∷ cs) h there =
        record { desk = b; clerk = c; is = subst (λ (m : ℕ). IsEnded m (Desk b) c) h.0.ended.0 h.0; known = refl }
    find_desk (n ∷ ns) (Pass b ∷ xs) (c ∷ cs) h there = go (n == desk_number) refl there (λ t. find_desk ns xs cs h.1 t)
      where
        go : (t : Bool) → (n == desk_number) ≡ t → (t || is_in desk_number ns) ≡ true → (is_in desk_number ns ≡ true → FoundDesk xs)
            → FoundDesk (Pass b ∷ xs)
        go true e t rest = let same : n ≡ desk_number = eqb-true n desk_number e in let near = h.0.ended.near in absurd (omega (arith, same, near))
        go false e t rest = let f = rest t in record { desk = f.desk; clerk = f.clerk; is = f.is; known = f.known }

    no_desk : (ns : List ℕ) (xs : List BlockActor) (cs : List Clerk) → Each IsEnded ns xs cs → is_in desk_number ns ≡ false → known_after_block k xs ≡ k
    no_desk [] [] [] h out = refl
    no_desk [] [] (c ∷ cs) h out = absurd h
    no_desk [] (x ∷ xs) cs h out = absurd h
    no_desk (n ∷ ns) [] cs h out = absurd h
    no_desk (n ∷ ns) (x ∷ xs) [] h out = absurd h
    no_desk (n ∷ ns) (Gone ∷ xs) (c ∷ cs) h out = absurd h.0.ended
    no_desk (n ∷ ns) (Desk b ∷ xs) (c ∷ cs) h out =
        true_is_not_false (n == desk_number) (ap (λ (m : ℕ). m == desk_number) h.0.ended.0) (neither_first (n == desk_number) (is_in desk_number ns) out)
    no_desk (n ∷ ns) (Pass b ∷ xs) (c ∷ cs) h out = no_desk ns xs cs h.1 (neither_second (n == desk_number) (is_in desk_number ns) out)

    abbrev Lasted : Type 0
    Lasted = list_any is_out_of_memory news ≡ false

    abbrev pub DeskNow : Type 0
    DeskNow = DeskStays k seen Lasted (lines_by desk_number (block lines)) (got_by desk_number clerks) (known_after_block k news)

    desk_idle : known_after_block k news ≡ k → lines_by desk_number (block lines) ≡ [] → got_by desk_number clerks ≡ [] → DeskNow
    desk_idle known none got =
        subst (λ (z : List Line × List DeskEntry × Known). DeskStays k seen Lasted z.0 z.1 z.2) (λ i. (sym none i, sym got i, sym known i)) (record {
          began = record {
            front = [];
            left = [];
            cut = refl;
            got = [];
            had = [];
            all_is = refl;
            now = k;
            at = desk_acts.begins (generations_published seen) k;
            next = tt;
            told = tt;
          };
          said = [];
          whole = λ lasts. record { at = desk_acts.begins (generations_published seen) k; told = tt; writes = λ more. refl };
        })

    desk_ran : FoundDesk news → DeskNow
    desk_ran f =
        subst (λ (z : List DeskEntry × Known). DeskStays k seen Lasted (lines_by desk_number (block lines)) z.0 z.1)
        (λ i. (sym f.is.got i, sym f.known i))
        (record { began = f.is.ended.1.began; said = f.desk.said.items; whole = λ lasts. f.is.ended.1.whole (f.is.lasts lasts) })

    module _ (all : Each IsEnded (actors_in (block lines)) news clerks) where
      pub their_clerks : Each IsItsClerk (actors_in (block lines)) news clerks
      their_clerks =
          each_weaker IsEnded IsItsClerk (λ n x c e. clerk_ended n x c e.ended) (actors_in (block lines)) news clerks all

      pub desk_stays : DeskNow
      desk_stays = go (has_lines (block lines) desk_number) refl
        where
          in_it : is_in desk_number (actors_in (block lines)) ≡ has_lines (block lines) desk_number
          in_it = in_actors (block lines) desk_number (omega arith)

          go : (t : Bool) → has_lines (block lines) desk_number ≡ t → DeskNow
          go true e = desk_ran (find_desk (actors_in (block lines)) news clerks all (in_it ∙ e))
          go false e = desk_idle (no_desk (actors_in (block lines)) news clerks all (in_it ∙ e)) (no_lines (block lines) desk_number e)
              (got_nothing desk_number (actors_in (block lines)) news clerks their_clerks (in_it ∙ e))

      -- a pass that had lines
      pub record FoundPass (who : ℕ) : Type 0 where
        pub pass : PassActor
        pub clerk : Clerk
        pub is : IsEnded who (Pass pass) clerk

      pub find_pass : (who : ℕ) → who < most_passes → has_lines (block lines) who ≡ true → FoundPass who
      find_pass who near has =
          let f = find_each IsEnded who (actors_in (block lines)) news clerks all (in_actors (block lines) who (omega (arith, near)) ∙ has) in
          go f.actor f.clerk f.is
        where
          go : (x : BlockActor) (c : Clerk) → IsEnded who x c → FoundPass who
          go (Pass b) c e = record { pass = b; clerk = c; is = e }
          go (Desk b) c e = let same : who ≡ desk_number = e.ended.0 in absurd (omega (arith, same, near))
          go Gone c e = absurd e.ended

      pub pass_got_nothing : (who : ℕ) → who < most_passes → has_lines (block lines) who ≡ false → got_by who clerks ≡ []
      pass_got_nothing who near none = got_nothing who (actors_in (block lines)) news clerks their_clerks
          (in_actors (block lines) who (omega (arith, near)) ∙ none)

-- so it is once a block has run
pub actors_ended : (k : Known) (lines : List Line) (v w : RecordState) (olds news : List BlockActor) (clerks : List Clerk) (differs : Option Differs)
    → HasRunBlock k lines v w olds news clerks differs → Each (IsEnded k lines v.seat.seen w.seat.seen news clerks) (actors_in (block lines)) news clerks
actors_ended k lines v w olds news clerks differs h =
    let ns : List ℕ = actors_in (block lines) in
    let E : ℕ → BlockActor → Clerk → Type 0 = Ended k lines v.seat.seen w.seat.seen in
    let W : ℕ → BlockActor → Clerk → Type 0 = WasActor k lines v.seat.cabinet v.seat.seen w.seat.seen in
    let were : Each W ns news clerks =
    were_actors k lines v.seat.cabinet v.seat.seen w.seat.seen ns olds news clerks h.starts h.all_news h.all_clerks h.can h.joined in
    let ended : Each E ns news clerks = each_weaker W E
    (λ n x c e. ended_one k lines v.seat.seen w.seat.seen v.seat.cabinet n e.was x c e.starts e.can e.joined) ns news clerks were in
    let its : Each IsItsClerk ns news clerks = each_weaker E IsItsClerk (λ n x c e. clerk_ended k lines v.seat.seen w.seat.seen n x c e) ns news clerks ended in
    let gots : Each (GotIs clerks) ns news clerks = got_each ns news clerks (actors_apart (block lines)) its in
    let lasts : Each (LastsWith news) ns news clerks = lasting k lines v.seat.seen w.seat.seen E ns news clerks ended in
    each_weaker (λ n x c. (E n x c × GotIs clerks n x c) × LastsWith news n x c) (IsEnded k lines v.seat.seen w.seat.seen news clerks)
    (λ n x c e. record { ended = e.0.0; got = e.0.1; lasts = e.1 }) ns news clerks
    (each_both (λ n x c. E n x c × GotIs clerks n x c) (LastsWith news) ns news clerks (each_both E (GotIs clerks) ns news clerks ended gots) lasts)
