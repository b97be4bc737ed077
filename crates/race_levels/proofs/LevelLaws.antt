-- What came to pass while one actor did something.
use Rattle.std.proofs.Common.{◌≡◌, ℕ, ◌+◌, List, [], ◌++◌, append-nil, sym, ◌∙◌}
use Rattle.std.proofs.lemmas.List.{append_cancel_left}
use Rattle.mem_base.specs.declared.machine.events.HistoryEntry.{HistoryEntry}
use Rattle.mem_base.specs.machine.Actors.{own_entries}
use Rattle.history_laws.proofs.AppendLaws.{own_append}
use Rattle.history_laws.proofs.OwnLaws.{own_writers}
use Rattle.race_laws.proofs.Actors.{only_pass, only_writers}
use Rattle.race_laws.proofs.DeskPhases.{course_machines}
use Rattle.race_levels.specs.ActorLevels.{ActorsAreLevel, GrewOwn, Stayed}

grew : (actor : ℕ) (before more new : List HistoryEntry) → GrewOwn actor before new (before ++ more) → own_entries actor more ≡ new
grew actor before more new h = append_cancel_left (own_entries actor before) (own_entries actor more) new (sym (own_append actor before more) ∙ h)

stayed : (actor : ℕ) (before more : List HistoryEntry) → Stayed actor before (before ++ more) → own_entries actor more ≡ []
stayed actor before more h = grew actor before more [] (h ∙ sym (append-nil (own_entries actor before)))

pub actors_are_level : ActorsAreLevel
actors_are_level pool before more legal = record {
  writer = λ new h others. sym (only_writers more (course_machines pool before more legal) (λ v l. stayed (v + 1) before more (others v l)))
      ∙ sym (own_writers more) ∙ grew 0 before more new h;
  pass = λ p new still h others.
      sym (only_pass p more (course_machines pool before more legal) (sym (own_writers more) ∙ stayed 0 before more still)
      (λ v l other. stayed (v + 1) before more (others v l other))).0
      ∙ grew (p + 1) before more new h;
}
