use Rattle.std.proofs.Common.{rules, ◌≡◌, ℕ, ◌<◌, ◌≤◌, List, [], ◌∷◌, ◌++◌, All, length, slice_index_or, sym, subst}
use Rattle.std.proofs.lemmas.List.Elements.{All-nil}
use Rattle.race_block.specs.declared.tasks.BlockLine.{BlockLine}
use Rattle.race_block.specs.declared.tasks.OwnLine.{OwnLine}
use Rattle.race_block.specs.Desks.{lines_meant}
use Rattle.race_block.specs.Lines.{FitsLine}
use Rattle.race_block.specs.Resolving.{AreTasksOf, copy_room}
use Rattle.race_block.proofs.ResolvingLaws.{no_tasks, task_pushed, take_all}
use Rattle.race_block.proofs.resolving.resolve_lines.Goals as goal

pub loop-line-init : goal.loop-line-init
loop-line-init c =
    let none : c.in_ok-own.own.items ≡ [] = search rules in (
      no_tasks c.args.known.now c.in_ok-own.own.items none,
      subst (All (FitsLine copy_room)) (sym none) (All-nil (FitsLine copy_room)),
    )

pub loop-line-preserved : goal.loop-line-preserved
loop-line-preserved c =
    let lines : List OwnLine = c.args.lines.now in
    let line : OwnLine = c.line-item.result in
    let i : ℕ = c.loop-line.line-index in
    let room : i < length lines = search rules in
    let is : slice_index_or lines i line ≡ line = search rules in
    let x : BlockLine = c.in_ok-own_line.own_line in
    let put : c.push.new.self.items ≡ c.loop-line.own.items ++ x ∷ [] = search rules in
    task_pushed c.args.known.now lines i line c.loop-line.own.items c.push.new.self.items x room is c.loop-line.invariant
    c.in_ok-own_line.ensures.is c.in_ok-own_line.ensures.fits put

pub returns-clause-tasks : goal.returns-clause-tasks
returns-clause-tasks c =
    let lines : List OwnLine = c.args.lines.now in
    let done : length lines ≤ c.loop-line.line-index = search rules in
    subst (λ (ls : List OwnLine). AreTasksOf c.args.known.now (lines_meant ls) c.loop-line.own.items) (take_all lines c.loop-line.line-index done)
    c.loop-line.invariant.0
