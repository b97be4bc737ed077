-- The desk after a block: it did its lines, or the first of them.
use Rattle.std.proofs.Common.{◌≡◌, Bool, true, false, List, [], ◌++◌, length, refl, sym, ap, subst, ◌∙◌, append-nil}
use Rattle.mem_base.specs.declared.machine.events.HistoryEntry.{HistoryEntry}
use Rattle.mem_base.specs.declared.machine.records.DeskEntry.{DeskEntry}
use Rattle.mem_base.specs.lists.Every.{Every}
use Rattle.mem_base.specs.machine.Generations.{Generation}
use Rattle.mem_base.specs.machine.Actors.{generations_published}
use Rattle.mem_base.specs.machine.Records.{Clerk}
use Rattle.mem_base.specs.script.Scripts.{Line}
use Rattle.mem_base.specs.script.Tasks.{Known}
use Rattle.mem_base.specs.script.RaceLines.{Said}
use Rattle.mem_base.specs.script.Race.{block, desk_number, lines_by}
use Rattle.race_laws.specs.Acting.{DeskAt}
use Rattle.race_laws.specs.SoFar.{IsTold}
use Rattle.race_laws.specs.Stopped.{BeginsLine}
use Rattle.race_block.specs.declared.desks.DeskActor.{DeskActor}
use Rattle.race_block.specs.Desks.{DeskKeeps, HasDoneLines, HasStopped, clerk_with, lines_meant}
use Rattle.race_block.specs.Joined.{HasJoinedDesk, new_clerk}
use Rattle.race_seats.specs.Starts.{DeskStarts}

-- the first of the desk's lines, held against a history, and what its clerk wrote down for them and for one that it had begun
pub record DeskBegan (k : Known) (lines : List Line) (seen : List HistoryEntry) (all : List DeskEntry) : Type 0 where
  pub front : List Line
  pub left : List Line
  pub cut : lines ≡ front ++ left
  pub got : List DeskEntry
  pub had : List DeskEntry
  pub all_is : all ≡ got ++ had
  pub now : Known
  pub at : DeskAt (generations_published seen) k front got now
  pub next : BeginsLine now left had
  pub told : Every (IsTold (length (generations_published seen))) all

-- the desk after its block, with its clerk
pub record DeskEnded (k : Known) (lines : List Line) (seen : List HistoryEntry) (b : DeskActor) (c : Clerk) : Type 0 where
  pub who : c.who ≡ desk_number
  pub began : DeskBegan k (lines_by desk_number (block lines)) seen c.got
  pub whole : b.out_of_memory ≡ false → DeskKeeps (generations_published seen) k (lines_by desk_number (block lines)) c.got b.known b.said.items

module _ (k : Known) (lines : List Line) (seen : List HistoryEntry) (a b : DeskActor) (c : Clerk) (s : DeskStarts k lines a)
    (j : HasJoinedDesk seen a b c) where
  abbrev mine : List Line
  mine = lines_by desk_number (block lines)

  wrote : (got : List DeskEntry) → j.after.clerk ≡ clerk_with a.clerk got → c ≡ clerk_with (new_clerk desk_number) got
  wrote got h = j.clerk ∙ h ∙ ap (λ (d : Clerk). clerk_with d got) s.clerk

  did_all : HasDoneLines a.known (lines_meant a.lines.items) a.clerk j.after.clerk j.after.notes.items j.after.known j.after.said.items
      → DeskKeeps (generations_published seen) k mine c.got b.known b.said.items
  did_all h =
      let got : c.got ≡ h.got = ap (λ (d : Clerk). d.got) (wrote h.got h.clerk) in
      let said : b.said.items ≡ j.after.said.items = (λ i. (j.said i).items) in
      subst (λ (z : Known × List Line × List DeskEntry × Known × List Said). DeskKeeps (generations_published seen) z.0 z.1 z.2 z.3 z.4)
      (λ i. (s.known i, s.lines_are i, sym got i, sym j.known i, sym said i)) (h.keeps seen j.heard)

  began_all : DeskKeeps (generations_published seen) k mine c.got b.known b.said.items → DeskBegan k mine seen c.got
  began_all h = record {
    front = mine;
    left = [];
    cut = sym (append-nil mine);
    got = c.got;
    had = [];
    all_is = sym (append-nil c.got);
    now = b.known;
    at = h.at;
    next = tt;
    told = h.told;
  }

  did_first : HasStopped a.known (lines_meant a.lines.items) a.clerk j.after.clerk j.after.notes.items → DeskBegan k mine seen c.got
  did_first h =
      let gs : List Generation = generations_published seen in
      let got : c.got ≡ h.got ++ h.had = ap (λ (d : Clerk). d.got) (wrote (h.got ++ h.had) h.clerk) in record {
        front = h.front;
        left = h.left;
        cut = sym s.lines_are ∙ h.cut;
        got = h.got;
        had = h.had;
        all_is = got;
        now = h.now;
        at = subst (λ (z : Known). DeskAt gs z h.front h.got h.now) s.known (h.at seen j.heard);
        next = h.next;
        told = subst (λ (es : List DeskEntry). Every (IsTold (length gs)) es) (sym got) (h.told seen j.heard);
      }

  pub desk_ended : DeskEnded k lines seen b c
  desk_ended = record {
    who = who_is;
    began = go j.after.out_of_memory refl;
    whole = λ e. did_all (j.run.whole (sym j.out_of_memory ∙ e));
  }
    where
      go : (x : Bool) → j.after.out_of_memory ≡ x → DeskBegan k mine seen c.got
      go true e = did_first (j.run.stopped e)
      go false e = began_all (did_all (j.run.whole e))

      who_of : (x : Bool) → j.after.out_of_memory ≡ x → c.who ≡ desk_number
      who_of true e = let h = j.run.stopped e in ap (λ (d : Clerk). d.who) (wrote (h.got ++ h.had) h.clerk)
      who_of false e = let h = j.run.whole e in ap (λ (d : Clerk). d.who) (wrote h.got h.clerk)

      who_is : c.who ≡ desk_number
      who_is = who_of j.after.out_of_memory refl
