-- A line outside the block as one step of a race.
use Rattle.std.proofs.Common.{◌≡◌, ℕ, List, [], ◌∷◌, ◌++◌, map, refl, sym, ap, subst, ◌∙◌, Ok, Option, Some, None}
use Rattle.mem_base.specs.declared.map.forests.Forest.{Forest}
use Rattle.mem_base.specs.declared.map.refusals.Refusal.{Refusal}
use Rattle.mem_base.specs.declared.machine.records.DeskEntry.{DeskEntry}
use Rattle.mem_base.specs.declared.machine.records.DeskOrder.TheVariants.{Look}
use Rattle.mem_base.specs.machine.Actors.{generations_published}
use Rattle.mem_base.specs.machine.Generations.{Generation}
use Rattle.mem_base.specs.machine.Records.{recorded}
use Rattle.mem_base.specs.script.Spelling.{Text}
use Rattle.mem_base.specs.script.Watching.{Watcher, watch_refusal}
use Rattle.mem_base.specs.script.Tasks.{Known, Resolved, Task, accessed, copied, found, ordered, shown, task_of, unwatched, watched}
use Rattle.mem_base.specs.script.RaceLines.{DeskLine, catching_up, entry_at, generation_numbered, new_watcher, said_text, watch_line}
use Rattle.mem_base.specs.script.Race.{Course, alone}
use Rattle.race_laws.specs.SoFar.{IsRaceSoFar}
use Rattle.race_laws.specs.Outside.{desk_course, desk_line_of, pass_course}
use Rattle.race_laws.proofs.SoFarLaws.{takes_phase}
use Rattle.race_laws.proofs.OneLine.{desk_line_is_phase, pass_line_is_phase}
use Rattle.race_laws.proofs.OutsideLaws.{record_tells}
use Rattle.race_lines.specs.DeskLines.{desk_line_by}
use Rattle.race_levels.specs.Steps.{DeskLinesStep, OrdersAreWritten, PassLinesStep, line_given, orders_of, stand_with}

pub orders_are_written : OrdersAreWritten
orders_are_written w g h = record { one = refl; two = refl }

watch_asks : (k : Known) (line : ℕ) (f g : Forest) (name : Text) (w : Watcher) (o : Option Refusal)
    → (catching_up g (watch_line k line f name w o)).asks ≡ Look ∷ []
watch_asks k line f g name w None = refl
watch_asks k line f g name w (Some why) = refl

line_asks : (k : Known) (line : ℕ) (task : Resolved Task) (e : DeskEntry) (number : ℕ) (f : Forest) → (desk_line_by k line task e number f).asks ≡ orders_of task
line_asks k line (Ok (ordered order name)) e number f = refl
line_asks k line (Ok (shown s)) e number f = refl
line_asks k line (Ok (found s addr)) e number f = refl
line_asks k line (Ok (watched name region first last)) e number f =
    watch_asks k line f f name (new_watcher k region first last) (watch_refusal k.watchers first last)
line_asks k line (Ok (unwatched id)) e number f = refl
line_asks k line (Ok (accessed s addr transfer)) e number f = refl
line_asks k line (Ok (copied from addr n to to_addr)) e number f = refl
line_asks k line _ e number f = refl

pub desk_lines_step : DeskLinesStep
desk_lines_step pool done s text line given number f race g =
    let c : Course = desk_course s given in
    let published : List Generation = generations_published (s.seen ++ c.entries) in
    let task : Resolved Task = task_of s.known line.1 in
    let e : DeskEntry = entry_at (recorded s.writer given) 0 in
    let same : desk_line_of published s line given ≡ line_given s line given number f =
    ap (λ (n : ℕ). desk_line_by s.known line.0 task e n (generation_numbered published n).forest) (sym g.number_is)
    ∙ ap (λ (h : Forest). desk_line_by s.known line.0 task e number h) (sym g.forest_is) in
    let asks : map (λ x. x.order) given ≡ (desk_line_of published s line given).asks =
    g.orders ∙ sym (line_asks s.known line.0 task e number f) ∙ ap (λ (x : DeskLine). x.asks) (sym same) in
    let p = desk_line_is_phase published s line given g.actor g.own asks in
    let told = record_tells pool done s text c race g.legal p.phase.writer p.phase.closes in
    let taken = takes_phase pool done s text (alone line) c race (record { legal = g.legal; lines = p.phase; told = told; fits = g.fits }) in
    let known_is : (stand_with s line c).known ≡ (line_given s line given number f).known = p.known ∙ ap (λ (x : DeskLine). x.known) same in
    record {
      race = subst (λ (t : Text). IsRaceSoFar pool (done ++ alone line ∷ []) (stand_with s line c) (text ++ t))
          (p.text ∙ (λ i. said_text (known_is i).names (stand_with s line c).writer.desk.listening.journal (same i).said)) taken;
      known_is = known_is;
    }

pub pass_lines_step : PassLinesStep
pass_lines_step pool done s text pass line ys given said race g =
    let c : Course = pass_course s pass ys given in
    let published : List Generation = generations_published (s.seen ++ c.entries) in
    let p = pass_line_is_phase published s pass line ys given g.near g.actor g.own g.gave g.entries g.orders in
    let told = record_tells pool done s text c race g.legal p.phase.writer p.phase.closes in
    let taken = takes_phase pool done s text (alone line) c race (record { legal = g.legal; lines = p.phase; told = told; fits = g.fits }) in
    record {
      race = subst (λ (t : Text). IsRaceSoFar pool (done ++ alone line ∷ []) (stand_with s line c) (text ++ t))
          (p.text ∙ (λ i. said_text (p.known i).names (stand_with s line c).writer.desk.listening.journal (sym g.said_is i))) taken;
      known_is = p.known;
    }
