-- A block as one phase of a race: what each actor has done of it, or that it is whole.
use Rattle.std.proofs.Common.{◌≡◌, ◌<◌, ◌+◌, ℕ, Bool, true, false, List, [], ◌++◌, length, map, flat_map, refl, sym, ap, subst, ◌∙◌, append-nil, Option}
use Rattle.std.proofs.lemmas.List.{append_cancel_left}
use Rattle.std.specs.List.{list_any}
use Rattle.mem_base.specs.declared.machine.events.HistoryEntry.{HistoryEntry}
use Rattle.mem_base.specs.declared.machine.records.DeskEntry.{DeskEntry}
use Rattle.mem_base.specs.declared.machine.records.Differs.{Differs}
use Rattle.mem_base.specs.lists.Every.{Every}
use Rattle.mem_base.specs.map.Limits.{most_passes, notifier_count}
use Rattle.mem_base.specs.machine.Passes.{PassState, pass_id}
use Rattle.mem_base.specs.machine.Actors.{generations_published, own_entries}
use Rattle.mem_base.specs.machine.Records.{Clerk, Closes, got_by, recorded}
use Rattle.mem_base.specs.machine.SharedHistory.{IsSharedLegal}
use Rattle.mem_base.specs.machine.Turns.{entries_of_turn, writers_of}
use Rattle.mem_base.specs.script.Scripts.{Line}
use Rattle.mem_base.specs.script.Tasks.{Known}
use Rattle.mem_base.specs.script.Race.{Course, Stand, actors_in, block, desk_number, lines_by, pass_state, turns_in}
use Rattle.history_laws.proofs.AppendLaws.{own_append}
use Rattle.epoch_rule.specs.declared.views.Sizes.{Sizes}
use Rattle.epoch_rule.specs.Rule.{IsLegal}
use Rattle.race_laws.specs.Acting.{DeskAt, PassAt}
use Rattle.race_laws.specs.SoFar.{IsTold}
use Rattle.race_laws.specs.Stopped.{ActorsHaveBegun, ActorsHaveDone, DeskActor, PassActor, published_by}
use Rattle.race_laws.proofs.ActingLaws.{pass_acts}
use Rattle.race_laws.proofs.PassGoesOn.{state_kept}
use Rattle.desk_orders.specs.Laws.{MakesTurns}
use Rattle.desk_orders.specs.Records.{RecordState}
use Rattle.desk_orders.proofs.StayLaws.{later_makes_turns}
use Rattle.race_block.specs.declared.blocks.BlockActor.{BlockActor}
use Rattle.race_block.specs.Laws.{deed_from}
use Rattle.race_block.specs.Desks.{DeskKeeps}
use Rattle.race_levels.specs.Outside.{sizes_of, stand_of}
use Rattle.race_seats.specs.Ran.{HasRunBlock, is_out_of_memory, known_after_block}
use Rattle.race_seats.proofs.ListLaws.{Each, clerks_are, has_lines, no_lines}
use Rattle.race_seats.proofs.PassLaws.{PassEnded}
use Rattle.race_seats.proofs.EndLaws.{DeskStays, FoundPass, IsEnded, actors_ended, desk_stays, find_pass, pass_got_nothing, their_clerks}

module _ (k : Known) (lines : List Line) (v w : RecordState) (olds news : List BlockActor) (clerks : List Clerk) (differs : Option Differs)
    (h : HasRunBlock k lines v w olds news clerks differs) where
  -- what came to pass in the block
  abbrev pub came : Course
  came = record { given = h.later.given; clerks = clerks; differs = differs; entries = h.later.grew.seen.0 }

  abbrev pub before : Stand
  before = stand_of k v

  pub cut : w.seat.seen ≡ v.seat.seen ++ came.entries
  cut = sym h.later.grew.seen.1

  pub all : Each (IsEnded k lines v.seat.seen w.seat.seen news clerks) (actors_in (block lines)) news clerks
  all = actors_ended k lines v w olds news clerks differs h

  abbrev pub Lasted : Type 0
  Lasted = list_any is_out_of_memory news ≡ false

  turned : MakesTurns h.later.given v w
  turned = later_makes_turns h.later.given v w h.later.grew

  legal : (pool : ℕ) → v.seat.sizes ≡ sizes_of pool → IsSharedLegal (pool + notifier_count) most_passes (v.seat.seen ++ came.entries)
  legal pool sizes = subst (λ (z : Sizes × List HistoryEntry). IsLegal z.0 z.1) (λ i. ((h.later.grew.sizes ∙ sizes) i, cut i)) h.legal

  writer : writers_of came.entries ≡ flat_map entries_of_turn (turns_in before came)
  writer = turned.writer came.entries cut

  clerks_is : map (λ clerk. clerk.who) clerks ≡ actors_in (block lines)
  clerks_is = clerks_are (actors_in (block lines)) news clerks (their_clerks k lines v.seat.seen w.seat.seen news clerks all)

  closes : Closes (recorded v.part h.later.given) clerks differs
  closes = subst (λ (es : List DeskEntry). Closes es clerks differs) turned.entries h.closes

  -- the desk

  pub desk : DeskStays k w.seat.seen Lasted (lines_by desk_number (block lines)) (got_by desk_number clerks) (known_after_block k news)
  desk = desk_stays k lines v.seat.seen w.seat.seen news clerks all

  desk_began : DeskActor before (block lines) came
  desk_began = record {
    front = desk.began.front;
    left = desk.began.left;
    lines = desk.began.cut;
    got = desk.began.got;
    had = desk.began.had;
    all = desk.began.all_is;
    now = desk.began.now;
    at = subst (λ (xs : List HistoryEntry). DeskAt (generations_published xs) k desk.began.front desk.began.got desk.began.now) cut desk.began.at;
    next = desk.began.next;
  }

  desk_told : Every (IsTold (length (published_by before came))) (got_by desk_number clerks)
  desk_told = subst (λ (xs : List HistoryEntry). Every (IsTold (length (generations_published xs))) (got_by desk_number clerks)) cut desk.began.told

  pub desk_did : Lasted → DeskKeeps (published_by before came) k (lines_by desk_number (block lines)) (got_by desk_number clerks)
      (known_after_block k news) desk.said
  desk_did lasts = subst (λ (xs : List HistoryEntry). DeskKeeps (generations_published xs) k (lines_by desk_number (block lines)) (got_by desk_number clerks)
      (known_after_block k news) desk.said) cut (desk.whole lasts)

  -- the passes

  pub own_of : (p : ℕ) (own : List HistoryEntry) → own_entries (p + 1) w.seat.seen ≡ own_entries (p + 1) v.seat.seen ++ own
      → own_entries (p + 1) came.entries ≡ own
  own_of p own is = append_cancel_left (own_entries (p + 1) v.seat.seen) (own_entries (p + 1) came.entries) own
      (sym (own_append (p + 1) v.seat.seen came.entries) ∙ ap (λ (xs : List HistoryEntry). own_entries (p + 1) xs) (sym cut) ∙ is)

  -- the first of a pass's lines; where memory lasted, all of them
  record PassHeld (p : ℕ) : Type 0 where
    first : PassActor before (block lines) came (pass_id p)
    whole : Lasted → first.left ≡ []

  held_idle : (p : ℕ) → lines_by p (block lines) ≡ [] → got_by p clerks ≡ [] → own_entries (p + 1) came.entries ≡ [] → PassHeld p
  held_idle p none got own =
      let xs : List HistoryEntry = v.seat.seen ++ came.entries in
      let state : PassState = pass_state (pass_id p) v.seat.seen in
      let still : pass_state (pass_id p) xs ≡ state = state_kept (pass_id p) v.seat.seen came.entries xs refl own in record {
        first = record {
          front = [];
          left = [];
          lines = none;
          at = subst (λ (z : List HistoryEntry × List DeskEntry × PassState). PassAt (generations_published xs) k (pass_id p) xs
              (length (own_entries (p + 1) v.seat.seen)) (deed_from state [] z.0 z.1 z.2)) (λ i. (sym own i, sym got i, sym still i))
              (pass_acts.begins (generations_published xs) k (pass_id p) xs (length (own_entries (p + 1) v.seat.seen)) state);
        };
        whole = λ lasts. refl;
      }

  held_ran : (p : ℕ) → FoundPass k lines v.seat.seen w.seat.seen news clerks all p → PassHeld p
  held_ran p f =
      let e : PassEnded k lines v.seat.seen w.seat.seen p f.pass f.clerk = f.is.ended in record {
        first = record {
          front = e.front;
          left = e.left;
          lines = e.cut;
          at = subst (λ (z : List HistoryEntry × List HistoryEntry × List DeskEntry). PassAt (generations_published z.0) k (pass_id p) z.0
              (length (own_entries (p + 1) v.seat.seen))
              (deed_from (pass_state (pass_id p) v.seat.seen) e.front z.1 z.2 (pass_state (pass_id p) z.0)))
              (λ i. (cut i, sym (own_of p e.own e.own_is) i, sym f.is.got i)) e.at;
        };
        whole = λ lasts. e.whole (f.is.lasts lasts);
      }

  held : (p : ℕ) → p < most_passes → PassHeld p
  held p near = go (has_lines (block lines) p) refl
    where
      go : (t : Bool) → has_lines (block lines) p ≡ t → PassHeld p
      go true e = held_ran p (find_pass k lines v.seat.seen w.seat.seen news clerks all p near e)
      go false e =
          let none : lines_by p (block lines) ≡ [] = no_lines (block lines) p e in
          held_idle p none (pass_got_nothing k lines v.seat.seen w.seat.seen news clerks all p near e)
          (own_of p [] (h.rest p near none ∙ sym (append-nil (own_entries (p + 1) v.seat.seen))))

  pub begun : (pool : ℕ) → v.seat.sizes ≡ sizes_of pool → ActorsHaveBegun pool before (block lines) came
  begun pool sizes = record {
    legal = legal pool sizes;
    writer = writer;
    desk = desk_began;
    each = λ pass near. (held pass.0 near).first;
    clerks = clerks_is;
    closes = tt;
    told = desk_told;
    fits = h.later.grew.fits;
  }

  -- where the first of a pass's lines are all of them
  all_done : (p : ℕ) (a : PassActor before (block lines) came (pass_id p)) → a.left ≡ []
      → PassAt (published_by before came) k (pass_id p) (v.seat.seen ++ came.entries) (length (own_entries (p + 1) v.seat.seen))
      (deed_from (pass_state (pass_id p) v.seat.seen) (lines_by p (block lines)) (own_entries (p + 1) came.entries) (got_by p clerks)
      (pass_state (pass_id p) (v.seat.seen ++ came.entries)))
  all_done p a none =
      let is : lines_by p (block lines) ≡ a.front = a.lines ∙ ap (λ (ls : List Line). a.front ++ ls) none ∙ append-nil a.front in
      subst (λ (ls : List Line). PassAt (published_by before came) k (pass_id p) (v.seat.seen ++ came.entries) (length (own_entries (p + 1) v.seat.seen))
      (deed_from (pass_state (pass_id p) v.seat.seen) ls (own_entries (p + 1) came.entries) (got_by p clerks)
      (pass_state (pass_id p) (v.seat.seen ++ came.entries)))) (sym is) a.at

  pub done : (pool : ℕ) → v.seat.sizes ≡ sizes_of pool → Lasted → ActorsHaveDone pool before (block lines) came
  done pool sizes lasts = record {
    legal = legal pool sizes;
    writer = writer;
    now = known_after_block k news;
    desk = (desk_did lasts).at;
    each = λ pass near. let a = held pass.0 near in (pass_state pass (v.seat.seen ++ came.entries), all_done pass.0 a.first (a.whole lasts));
    clerks = clerks_is;
    closes = closes;
    lock = tt;
    told = desk_told;
    fits = h.later.grew.fits;
  }
