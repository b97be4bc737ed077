-- A reap is a turn.
use Rattle.std.proofs.Common.{◌≡◌, ℕ, suc, ◌+◌, ◌<◌, ◌≤◌, Bool, true, false, if◌then◌else◌}
use Rattle.std.proofs.Common.{List, [], ◌∷◌, ◌++◌, length, map, filter, drop, get_or, drop-cons}
use Rattle.std.proofs.Common.{None, Ok, refl, sym, ap, subst, ◌∙◌, arith, append-nil, eq-eqb}
use Rattle.std.specs.Prelude.{not, ◌==◌, ◌||◌}
use Rattle.std.proofs.lemmas.Bool.{eqb-true, eqb-false}
use Rattle.std.proofs.lemmas.List.{drop_all}
use Rattle.mem_base.specs.declared.map.ids.RegionId.{RegionId}
use Rattle.mem_base.specs.map.PassIds.{PassId}
use Rattle.mem_base.specs.declared.access.cells.Place.{Place}
use Rattle.mem_base.specs.declared.machine.events.Event.TheVariants as events
use Rattle.mem_base.specs.declared.machine.events.HistoryEntry.{HistoryEntry}
use Rattle.mem_base.specs.lists.Every.{Every}
use Rattle.mem_base.specs.map.Region.{node_of}
use Rattle.mem_base.specs.machine.Actors.{generations_after_all}
use Rattle.mem_base.specs.machine.Answers.{reap_answer}
use Rattle.mem_base.specs.machine.Desk.{unswept}
use Rattle.mem_base.specs.machine.Generations.{Generations, Generation}
use Rattle.mem_base.specs.machine.Orders.{reap, sweeps, pass_ids}
use Rattle.mem_base.specs.machine.Publishing.{forest_in}
use Rattle.mem_base.specs.machine.Reaps.{Writer, writer, is_named, is_among, released, reaped}
use Rattle.mem_base.specs.machine.Turns.{Played, WriterCall, turn, private_entries, entries_of_turn}
use Rattle.mem_base.proofs.EveryLaws.{weaker}
use Rattle.history_laws.proofs.DroppedLaws.{IsGone}
use Rattle.history_laws.proofs.Idles.{Idle}
use Rattle.turn_laws.proofs.Rows.{flags_after, with_swept, swept_length}
use Rattle.turn_laws.proofs.Turning.{turn_facts}
use Rattle.writer_desk.proofs.HandedOn.{backed_state, backing_at, backing_without, forest_at}
use Rattle.writer_desk.specs.Writers.{desk_of}
use Rattle.writer_desk.specs.Listened.{ListenedState, resting, with_backed}
use Rattle.writer_hand.specs.Hands.{swept}
use Rattle.writer_desk.specs.declared.idle.IdleDesk.{IdleDesk}
use Rattle.writer_run.specs.Parts.{part_with, BelongTogether, AreParts}
use Rattle.writer_run.specs.Reaped.{without_regions}
use Rattle.writer_run.specs.Turns.{IsTurn}
use Rattle.writer_run.proofs.DropLaws.{reaped_gone, gone_then}
use Rattle.writer_hand.proofs.EntryLaws.{Keeps, same_flags, sweeps_keep, after_sweeps, played_sweeps}
use Rattle.mem_base.proofs.ListLaws.{length_map}

-- places without those of some regions

pub same_either_way : (a b : ℕ) → (a == b) ≡ (b == a)
same_either_way a b = go (a == b) refl
  where
    go : (c : Bool) → (a == b) ≡ c → c ≡ (b == a)
    go true e = sym (eq-eqb b a (sym (eqb-true a b e)))
    go false e = other (b == a) refl
      where
        other : (c : Bool) → (b == a) ≡ c → false ≡ c
        other true f = absurd (eqb-false a b e (sym (eqb-true b a f)))
        other false f = refl

all_stay : (ps : List Place) → filter (λ p. not (is_among [] p.region)) ps ≡ ps
all_stay [] = refl
all_stay (p ∷ ps) = ap (λ qs. p ∷ qs) (all_stay ps)

without_next : (r : RegionId) (rs : List RegionId) (ps : List Place)
    → filter (λ p. not (is_among rs p.region)) (filter (λ p. not (p.region.0 == r.0)) ps) ≡ filter (λ p. not (is_among (r ∷ rs) p.region)) ps
without_next r rs [] = refl
without_next r rs (p ∷ ps) = go (p.region.0 == r.0) (r.0 == p.region.0) (same_either_way p.region.0 r.0)
    (filter (λ q. not (q.region.0 == r.0)) ps) (filter (λ q. not (is_among (r ∷ rs) q.region)) ps) (without_next r rs ps)
  where
    go : (a b : Bool) → a ≡ b → (rest left : List Place) → filter (λ q. not (is_among rs q.region)) rest ≡ left
        → filter (λ q. not (is_among rs q.region)) (if not a then p ∷ rest else rest) ≡ (if not (b || is_among rs p.region) then p ∷ left else left)
    go true true e rest left k = k
    go true false e rest left k = absurd (grind arith)
    go false true e rest left k = absurd (grind arith)
    go false false e rest left k = ap (λ qs. if not (is_among rs p.region) then p ∷ qs else qs) k

-- regions give their places back one after another

abbrev with_places : ListenedState → List Place → ListenedState
with_places s places = with_backed (backed_state s.backed.desk (backing_at s.backed.backing.pool_words places)) s

-- a list from one element on
from_one : (rs : List RegionId) (i : ℕ) (other : RegionId) → i < length rs → drop i rs ≡ get_or rs i other ∷ drop (i + 1) rs
from_one rs i other l = let next : suc i ≡ i + 1 = omega arith in drop-cons rs i other l ∙ (λ j. get_or rs i other ∷ drop (next j) rs)

module _ (test : RegionId → Bool) (rs : List RegionId) (i : ℕ) (other : RegionId) (l : i < length rs) (s : ListenedState) where
  abbrev r : RegionId
  r = get_or rs i other

  -- one that is not released
  pub pass_one : test r ≡ false → without_regions s (filter test (drop (i + 1) rs)) ≡ without_regions s (filter test (drop i rs))
  pass_one fails =
      ap (λ (b : Bool). without_regions s (if b then r ∷ filter test (drop (i + 1) rs) else filter test (drop (i + 1) rs))) (sym fails)
      ∙ ap (λ (qs : List RegionId). without_regions s (filter test qs)) (sym (from_one rs i other l))

  -- one that is
  pub release_one : (t : ListenedState) → test r ≡ true → t ≡ with_backed (backed_state s.backed.desk (backing_without s.backed.backing r)) s
      → without_regions t (filter test (drop (i + 1) rs)) ≡ without_regions s (filter test (drop i rs))
  release_one t passes released =
      let later : List RegionId = filter test (drop (i + 1) rs) in
      ap (λ (x : ListenedState). without_regions x later) released
      ∙ ap (with_places s) (without_next r later s.backed.backing.places)
      ∙ ap (λ (b : Bool). without_regions s (if b then r ∷ later else later)) (sym passes)
      ∙ ap (λ (qs : List RegionId). without_regions s (filter test qs)) (sym (from_one rs i other l))

-- when none is left, all that were to be released are
pub release_last : (test : RegionId → Bool) (rs : List RegionId) (i : ℕ) (s t : ListenedState) → length rs ≤ i
    → without_regions t (filter test (drop i rs)) ≡ without_regions s (filter test rs) → t ≡ without_regions s (filter test rs)
release_last test rs i s t all k =
    sym (ap (with_places t) (all_stay t.backed.backing.places))
    ∙ ap (λ (qs : List RegionId). without_regions t (filter test qs)) (sym (drop_all i rs all)) ∙ k

-- it is a turn, and the parts belong together after it
pub record LeavesReaped (w : Writer) (makes : List HistoryEntry → Type 0) (words : ℕ) (g : Generations) (rs : List RegionId) (s : ListenedState)
    (dropped : List RegionId) : Type 0 where
  pub turn_is : IsTurn w reap makes (reap_answer (Ok rs)) (part_with s dropped g)
  pub parts : BelongTogether s dropped g words

module _ (from : IdleDesk) (g : Generations) (words : ℕ) (parts : AreParts from g words) where
  abbrev s : ListenedState
  s = from.listened

  abbrev dropped : List RegionId
  dropped = from.dropped.items

  abbrev w : Writer
  w = part_with s dropped g

  abbrev vs : List PassId
  vs = pass_ids g

  abbrev unnamed_by : Generations → List RegionId
  unnamed_by h = filter (λ r. not (is_named h r)) dropped

  abbrev named_by : Generations → List RegionId
  named_by h = filter (is_named h) dropped

  -- a dropped region is not in the forest
  pub none_there : Every (λ r. node_of (forest_at s.backed).nodes r ≡ None) dropped
  none_there = weaker (IsGone (forest_at s.backed)) (λ r. node_of (forest_at s.backed).nodes r ≡ None) (λ r t. t.0) dropped parts.gone.gone

  module _ (found : List ℕ) (each : length found ≡ length (sweeps g)) (makes : List HistoryEntry → Type 0) (made : makes (swept g found)) where
    abbrev g1 : Generations
    g1 = generations_after_all g (swept g found)

    abbrev flags1 : List Bool
    flags1 = flags_after vs (map (λ k. false) g.passes)

    keeps : Keeps g g1
    keeps = sweeps_keep vs g found

    -- the turn, by what was played before its private event
    abbrev reap_from : Played → WriterCall
    reap_from b = record {
      before = b.entries;
      private = private_entries b.writer (events.Reap ∷ []);
      after = [];
      writer = writer (unswept (reaped b.writer)) b.writer.generations;
      answer = reap_answer (Ok (released b.writer));
    }

    turns_so : turn w reap (found ++ []) ≡ reap_from (after_sweeps vs w found [])
    turns_so = ap (λ (b : Played). reap_from b) (played_sweeps vs w found [] (each ∙ length_map _ vs))

    flags : map (λ k. false) g1.passes ≡ map (λ k. false) flags1
    flags = same_flags g1.passes flags1 (keeps.passes ∙ sym (swept_length vs (map (λ k. false) g.passes) ∙ length_map (λ k. false) g.passes))

    abbrev then_state : ListenedState
    then_state = without_regions s (unnamed_by g1)

    left : part_with then_state (named_by g1) g1 ≡ writer (unswept (reaped (writer (with_swept flags1 w.desk) g1))) g1
    left = λ i. writer (desk_of (resting then_state) (record { dropped = named_by g1; unfilled = []; swept = flags i })) g1

    is : IsTurn w reap makes (reap_answer (Ok (unnamed_by g1))) (part_with then_state (named_by g1) g1)
    is = record {
      replies = found ++ [];
      made = subst (λ (x : WriterCall). makes (entries_of_turn x)) (sym turns_so) (subst makes (sym (append-nil (swept g found))) made);
      answer_is = ap (λ (x : WriterCall). x.answer) (sym turns_so);
      writer = left ∙ ap (λ (x : WriterCall). x.writer) (sym turns_so);
    }

    all : (words_then : ℕ) → words_then ≡ words → LeavesReaped w makes words_then g1 (unnamed_by g1) then_state (named_by g1)
    all words_then wide = record {
      turn_is = is;
      parts = record {
        idle = subst Idle (sym is.writer) (turn_facts w w reap is.replies parts.idle).idle;
        gone = gone_then w reap makes (reap_answer (Ok (unnamed_by g1))) (part_with then_state (named_by g1) g1)
            (λ rs. reaped_gone w rs parts.idle.sound parts.gone) is;
        current = ap (λ (xs : List Generation). forest_in xs) keeps.kept ∙ parts.current;
        number = parts.number ∙ sym keeps.current;
        wide = wide ∙ parts.wide;
      };
    }

    pub reaped_by : (h : Generations) (words_then : ℕ) → h ≡ g1 → words_then ≡ words → (rs : List RegionId) → rs ≡ unnamed_by h
        → (t : ListenedState) → t ≡ without_regions s rs → (dropped_then : List RegionId) → dropped_then ≡ named_by h
        → LeavesReaped w makes words_then h rs t dropped_then
    reaped_by h words_then kept wide rs released t places dropped_then stay =
        let rs_is : rs ≡ unnamed_by g1 = released ∙ ap (λ (x : Generations). unnamed_by x) kept in
        let t_is : t ≡ then_state = places ∙ ap (λ (qs : List RegionId). without_regions s qs) rs_is in
        let stay_is : dropped_then ≡ named_by g1 = stay ∙ ap (λ (x : Generations). named_by x) kept in
        subst (λ (z : Generations × List RegionId × ListenedState × List RegionId). LeavesReaped w makes words_then z.0 z.1 z.2 z.3)
        (λ i. (sym kept i, sym rs_is i, sym t_is i, sym stay_is i)) (all words_then wide)
