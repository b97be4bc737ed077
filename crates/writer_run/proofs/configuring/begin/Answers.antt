use Rattle.std.proofs.Common.{rules, ◌≡◌, List, Err, refl, sym, ap, subst}
use Rattle.std.specs.Prelude.{Result}
use Rattle.mem_base.specs.declared.map.calls.Applied.{Applied}
use Rattle.mem_base.specs.declared.map.calls.Config.TheVariants.{Begin}
use Rattle.mem_base.specs.declared.map.refusals.Refusal.{Refusal}
use Rattle.mem_base.specs.declared.machine.events.HistoryEntry.{HistoryEntry}
use Rattle.mem_base.specs.machine.Actors.{generations_after_all}
use Rattle.mem_base.specs.machine.Answers.{plain_answer}
use Rattle.mem_base.specs.machine.Generations.{Generations}
use Rattle.mem_base.specs.machine.Orders.{configure}
use Rattle.writer_desk.specs.Listened.{ListenedState, IsDone, IsRefused}
use Rattle.writer_desk.specs.Writers.{made_place}
use Rattle.writer_run.specs.Parts.{BelongTogether, part_of, part_with}
use Rattle.writer_run.specs.Turns.{IsTurn, cleared_at}
use Rattle.writer_run.proofs.TurnLaws.{done, refused}
use Rattle.writer_run.proofs.configuring.begin.Goals as goal

pub returns-in_err-begun-clause-turn : goal.returns-in_err-begun-clause-turn
returns-in_err-begun-clause-turn g c =
    let gens : Generations = g.H.Writing.generations c.args.hand.now in
    let why : Refusal = c.in_err-begun.field-0.0 in
    let said : c.from_residual.result ≡ Err why = search rules in
    let is : IsRefused c.args.desk.now.listened Begin why = c.in_err-begun.ensures.refused in
    let same : c.begin-begun.new.self ≡ c.args.desk.now.listened = c.in_err-begun.ensures.unchanged in
    subst (λ (r : Result (Unit {0}) Refusal). IsTurn (part_of c.args.desk.now gens) (configure Begin)
    (λ xs. g.H.Writing.makes c.args.hand.now xs c.args.hand.now) (plain_answer r) (part_with c.begin-begun.new.self c.args.desk.now.dropped.items gens))
    (sym said)
    (refused c.args.desk.now gens (g.H.Writing.words c.args.hand.now) c.requires.parts Begin why is c.begin-begun.new.self
    (ap (λ (x : ListenedState). x.backed) same, ap (λ (x : ListenedState). x.set.listening) same) c.args.desk.now.dropped.items refl
    (λ xs. g.H.Writing.makes c.args.hand.now xs c.args.hand.now) (g.met.H.Writing.begins c.args.hand.now))

pub returns-in_err-begun-clause-parts : goal.returns-in_err-begun-clause-parts
returns-in_err-begun-clause-parts g c =
    let same : c.begin-begun.new.self ≡ c.args.desk.now.listened = c.in_err-begun.ensures.unchanged in
    subst (λ (t : ListenedState). BelongTogether t c.args.desk.now.dropped.items (g.H.Writing.generations c.args.hand.now)
    (g.H.Writing.words c.args.hand.now)) (sym same) c.requires.parts

pub returns-clause-turn : goal.returns-clause-turn
returns-clause-turn g c =
    let gens : Generations = g.H.Writing.generations c.args.hand.now in
    let makes : List HistoryEntry → Type 0 = λ xs. g.H.Writing.makes c.args.hand.now xs c.args.hand.now in
    let d : IsDone c.args.desk.now.listened Begin c.begin-begun.new.self c.in_ok-begun.field-0 = c.in_ok-begun.ensures.done in
    let P : Applied → Type 0 = λ a. makes (cleared_at (made_place c.begin-begun.new.self.backed.backing.places a)) in
    let Q : Applied → Type 0 = λ a. gens ≡ generations_after_all gens (cleared_at (made_place c.begin-begun.new.self.backed.backing.places a)) in
    (done c.args.desk.now gens (g.H.Writing.words c.args.hand.now) c.requires.parts Begin c.begin-begun.new.self c.in_ok-begun.field-0 d
    c.args.desk.now.dropped.items refl gens (g.H.Writing.words c.args.hand.now) makes
    (subst P (sym d.accepted.answered) (g.met.H.Writing.begins c.args.hand.now)) (subst Q (sym d.accepted.answered) refl) refl).turn_is

pub returns-clause-parts : goal.returns-clause-parts
returns-clause-parts g c =
    let gens : Generations = g.H.Writing.generations c.args.hand.now in
    let makes : List HistoryEntry → Type 0 = λ xs. g.H.Writing.makes c.args.hand.now xs c.args.hand.now in
    let d : IsDone c.args.desk.now.listened Begin c.begin-begun.new.self c.in_ok-begun.field-0 = c.in_ok-begun.ensures.done in
    let P : Applied → Type 0 = λ a. makes (cleared_at (made_place c.begin-begun.new.self.backed.backing.places a)) in
    let Q : Applied → Type 0 = λ a. gens ≡ generations_after_all gens (cleared_at (made_place c.begin-begun.new.self.backed.backing.places a)) in
    (done c.args.desk.now gens (g.H.Writing.words c.args.hand.now) c.requires.parts Begin c.begin-begun.new.self c.in_ok-begun.field-0 d
    c.args.desk.now.dropped.items refl gens (g.H.Writing.words c.args.hand.now) makes
    (subst P (sym d.accepted.answered) (g.met.H.Writing.begins c.args.hand.now)) (subst Q (sym d.accepted.answered) refl) refl).parts
