use Rattle.std.proofs.Common.{rules, ◌≡◌, ℕ, List, None, filter, sym, ap, subst, ◌∙◌}
use Rattle.std.specs.Prelude.{not}
use Rattle.mem_base.specs.declared.map.ids.RegionId.{RegionId}
use Rattle.mem_base.specs.declared.machine.events.HistoryEntry.{HistoryEntry}
use Rattle.mem_base.specs.lists.Every.{Every}
use Rattle.mem_base.specs.map.Region.{node_of}
use Rattle.mem_base.specs.machine.Generations.{Generations, least_lowest}
use Rattle.mem_base.specs.machine.Reaps.{is_named}
use Rattle.writer_desk.proofs.HandedOn.{forest_at}
use Rattle.writer_hand.specs.Hands.{is_named_from, swept}
use Rattle.writer_run.specs.Reaped.{without_regions}
use Rattle.writer_run.proofs.ReapLaws.{none_there, reaped_by}
use Rattle.writer_run.proofs.reaping.reap.Goals as goal

pub release_unnamed-requires : goal.release_unnamed-requires
release_unnamed-requires g c = record {
  gone = subst (λ (rs : List RegionId). Every (λ r. node_of (forest_at c.args.desk.now.listened.backed).nodes r ≡ None) rs)
      (sym c.as_slice-2.ensures.value)
      (none_there c.args.desk.now (g.H.Writing.generations c.args.hand.now) (g.H.Writing.words c.args.hand.now) c.requires.parts);
}

pub returns-clause-turn : goal.returns-clause-turn
returns-clause-turn g c =
    let gens : Generations = g.H.Writing.generations c.args.hand.now in
    let words : ℕ = g.H.Writing.words c.args.hand.now in
    let h : Generations = g.H.Writing.generations c.sweep-lowest.new.self in
    let makes : List HistoryEntry → Type 0 = λ xs. g.H.Writing.makes c.args.hand.now xs c.sweep-lowest.new.self in
    let found : List ℕ = c.sweep-lowest.ensures.swept.0 in
    let left = g.met.H.Writing.leaves c.args.hand.now c.sweep-lowest.new.self (swept gens found) c.sweep-lowest.ensures.swept.2 in
    let rs : List RegionId = c.unnamed.new.out.items in
    let low : c.sweep-lowest.result ≡ least_lowest h.current h.passes = c.sweep-lowest.ensures.lowest in
    let told : rs ≡ filter (λ r. not (is_named_from h c.sweep-lowest.result r)) c.args.desk.now.dropped.items = search rules in
    let released : rs ≡ filter (λ r. not (is_named h r)) c.args.desk.now.dropped.items =
    told ∙ ap (λ (n : ℕ). filter (λ r. not (is_named_from h n r)) c.args.desk.now.dropped.items) low in
    let places : c.release_unnamed.new.desk ≡ without_regions c.args.desk.now.listened rs =
    c.release_unnamed.ensures
    ∙ ap (λ (qs : List RegionId). without_regions c.args.desk.now.listened (filter (λ r. not (is_named_from h c.sweep-lowest.result r)) qs))
    c.as_slice-2.ensures.value
    ∙ ap (λ (qs : List RegionId). without_regions c.args.desk.now.listened qs) (sym told) in
    let left_so : c.keep_named.new.regions.items ≡ filter (is_named_from h c.sweep-lowest.result) c.args.desk.now.dropped.items = search rules in
    let stay : c.keep_named.new.regions.items ≡ filter (is_named h) c.args.desk.now.dropped.items =
    left_so ∙ ap (λ (n : ℕ). filter (is_named_from h n) c.args.desk.now.dropped.items) low in
    λ other. (reaped_by c.args.desk.now gens words c.requires.parts found c.sweep-lowest.ensures.swept.1 makes c.sweep-lowest.ensures.swept.2
    h (g.H.Writing.words c.sweep-lowest.new.self) left.0 left.1 rs released c.release_unnamed.new.desk places c.keep_named.new.regions.items stay).turn_is

pub returns-clause-parts : goal.returns-clause-parts
returns-clause-parts g c =
    let gens : Generations = g.H.Writing.generations c.args.hand.now in
    let words : ℕ = g.H.Writing.words c.args.hand.now in
    let h : Generations = g.H.Writing.generations c.sweep-lowest.new.self in
    let makes : List HistoryEntry → Type 0 = λ xs. g.H.Writing.makes c.args.hand.now xs c.sweep-lowest.new.self in
    let found : List ℕ = c.sweep-lowest.ensures.swept.0 in
    let left = g.met.H.Writing.leaves c.args.hand.now c.sweep-lowest.new.self (swept gens found) c.sweep-lowest.ensures.swept.2 in
    let rs : List RegionId = c.unnamed.new.out.items in
    let low : c.sweep-lowest.result ≡ least_lowest h.current h.passes = c.sweep-lowest.ensures.lowest in
    let told : rs ≡ filter (λ r. not (is_named_from h c.sweep-lowest.result r)) c.args.desk.now.dropped.items = search rules in
    let released : rs ≡ filter (λ r. not (is_named h r)) c.args.desk.now.dropped.items =
    told ∙ ap (λ (n : ℕ). filter (λ r. not (is_named_from h n r)) c.args.desk.now.dropped.items) low in
    let places : c.release_unnamed.new.desk ≡ without_regions c.args.desk.now.listened rs =
    c.release_unnamed.ensures
    ∙ ap (λ (qs : List RegionId). without_regions c.args.desk.now.listened (filter (λ r. not (is_named_from h c.sweep-lowest.result r)) qs))
    c.as_slice-2.ensures.value
    ∙ ap (λ (qs : List RegionId). without_regions c.args.desk.now.listened qs) (sym told) in
    let left_so : c.keep_named.new.regions.items ≡ filter (is_named_from h c.sweep-lowest.result) c.args.desk.now.dropped.items = search rules in
    let stay : c.keep_named.new.regions.items ≡ filter (is_named h) c.args.desk.now.dropped.items =
    left_so ∙ ap (λ (n : ℕ). filter (is_named_from h n) c.args.desk.now.dropped.items) low in
    (reaped_by c.args.desk.now gens words c.requires.parts found c.sweep-lowest.ensures.swept.1 makes c.sweep-lowest.ensures.swept.2
    h (g.H.Writing.words c.sweep-lowest.new.self) left.0 left.1 rs released c.release_unnamed.new.desk places c.keep_named.new.regions.items stay).parts
