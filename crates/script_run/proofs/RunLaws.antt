-- The text of a run, command after command.
use Rattle.std.proofs.Common.{◌≡◌, ◌<◌, ◌≤◌, ◌+◌, ℕ, suc, List, [], ◌∷◌, ◌++◌, length, drop, get_or, add-one, Option, true, false, ◌||◌, inl, inr}
use Rattle.std.proofs.Common.{refl, sym, ap, subst, ◌∙◌, arith}
use Rattle.std.proofs.Math.Seq.{drop-cons}
use Rattle.std.proofs.lemmas.List.{append-nil}
use Rattle.outside.specs.Sink.{Takes, TakesPrefix}
use Rattle.mem_base.specs.map.PassIds.{PassId}
use Rattle.mem_base.specs.declared.script.commands.Command.{Command}
use Rattle.mem_base.specs.declared.script.commands.Command.TheVariants as commands
use Rattle.mem_base.specs.lists.Every.{Every}
use Rattle.mem_base.specs.map.Limits.{most_passes}
use Rattle.mem_base.specs.machine.World.{World, opening}
use Rattle.mem_base.specs.script.Spelling.{Text}
use Rattle.mem_base.specs.script.Scripts.{Line}
use Rattle.mem_base.specs.script.Race.{actor_number, desk_number, is_end, is_par}
use Rattle.mem_base.specs.script.Run.{start, step, text_from}
use Rattle.mem_base.specs.script.States.{Outcome, State}
use Rattle.mem_base.specs.script.Tasks.{Known, known_at_first}
use Rattle.run_laws.specs.Fitting.{FitsCommand}
use Rattle.run_laws.specs.LineLaws.{IsDeskLine, IsPassLine, IsSomeonesLine}
use Rattle.run_laws.proofs.EachCommand.{may_first}
use Rattle.run_laws.proofs.TaskLaws.{lines_are_tasks}
use Rattle.script_run.specs.Adding.{StepAdds}
use Rattle.script_run.specs.Standing.{IsReady, Standing, state_of}
use Rattle.script_run.proofs.Writing.{Through, through_next, through_part}
use Rattle.run_laws.proofs.FittingLaws.{names_its}

-- Before the first command

ready_first : (pool : ℕ) → IsReady known_at_first (opening pool most_passes)
ready_first pool = record {
  names = record {
    regions = λ n l. absurd (omega arith);
    made = refl;
    dropped = λ n l. refl;
    listeners = λ n l. absurd (omega arith);
    gone = λ n l. refl;
  };
  rests = refl;
  passes = may_first pool;
}

pub starts_ready : (s : Standing) (pool : ℕ) → s.known ≡ known_at_first → s.world ≡ opening pool most_passes → IsReady s.known s.world
starts_ready s pool e f =
    subst (λ (w : World). IsReady s.known w) (sym f) (subst (λ (k : Known). IsReady k (opening pool most_passes)) (sym e) (ready_first pool))

pub starts_at : (s : Standing) (pool : ℕ) → s.known ≡ known_at_first → s.world ≡ opening pool most_passes → state_of s ≡ start pool
starts_at s pool e f = (λ i. state_of (record { known = e i; world = f i }))

-- Whose line a command is

pub desks_line : (k : Known) (w : World) (n : ℕ) (c : Command) → IsReady k w → FitsCommand c → actor_number c ≡ desk_number → is_par c ≡ false
    → is_end c ≡ false → IsDeskLine k w n c
desks_line k w n c r fits actor par end = go (lines_are_tasks k w n c r.names (names_its c fits) par end)
  where
    go : IsSomeonesLine k w n c → IsDeskLine k w n c
    go (inl d) = d
    go (inr d) = let near = d.1.near in let is = d.1.actor in absurd (omega (arith, near, is, actor))

pub passes_line : (k : Known) (w : World) (n : ℕ) (c : Command) (pass : PassId) → IsReady k w → FitsCommand c → actor_number c ≡ pass.0
    → pass.0 < most_passes → is_par c ≡ false → is_end c ≡ false → IsPassLine k w n c pass
passes_line k w n c pass r fits actor near par end = go (lines_are_tasks k w n c r.names (names_its c fits) par end)
  where
    go : IsSomeonesLine k w n c → IsPassLine k w n c pass
    go (inl d) = let is = d.actor in absurd (omega (arith, near, is, actor))
    go (inr d) = subst (λ (m : ℕ). IsPassLine k w n c (record { 0 = m })) (sym d.1.actor ∙ actor) d.1

-- From command to command

next_text : (state : State) (lines : List Line) (i : ℕ) (line : Line) → i < length lines → line ≡ get_or lines i line
    → text_from state (drop i lines) ≡ (step state line.0 line.1).0 ++ text_from (step state line.0 line.1).1 (drop (i + 1) lines)
next_text state lines i line l is =
    ap (text_from state) (drop-cons lines i line l ∙ ap (λ x. x ∷ drop (suc i) lines) (sym is)
    ∙ ap (λ n. line ∷ drop n lines) (sym (add-one i)))

pub script_next : {K : Type 0} (written : K → Option (List ℕ)) (holds : K → List ℕ → Type 0) (faults : K → ℕ) (a b c : K)
    (whole text : List ℕ) (state after : State) (lines : List Line) (i : ℕ) (line : Line) → i < length lines → line ≡ get_or lines i line
    → Through written holds faults a b whole (text_from state (drop i lines)) → text ≡ (step state line.0 line.1).0
    → Takes written holds b c text → faults b ≤ faults c → after ≡ (step state line.0 line.1).1
    → Through written holds faults a c whole (text_from after (drop (i + 1) lines))
script_next written holds faults a b c whole text state after lines i line l is k own t m e =
    subst (λ (s : State). Through written holds faults a c whole (text_from s (drop (i + 1) lines))) (sym e)
    (through_next written holds faults a b c whole (step state line.0 line.1).0 _
    (subst (Through written holds faults a b whole) (next_text state lines i line l is) k) (subst (Takes written holds b c) own t) m)

pub script_part : {K : Type 0} (written : K → Option (List ℕ)) (holds : K → List ℕ → Type 0) (faults : K → ℕ) (a b c : K)
    (whole text : List ℕ) (state : State) (lines : List Line) (i : ℕ) (line : Line) → i < length lines → line ≡ get_or lines i line
    → Through written holds faults a b whole (text_from state (drop i lines)) → text ≡ (step state line.0 line.1).0
    → TakesPrefix written holds b c text → TakesPrefix written holds a c whole
script_part written holds faults a b c whole text state lines i line l is k own t =
    through_part written holds faults a b c whole (step state line.0 line.1).0 _
    (subst (Through written holds faults a b whole) (next_text state lines i line l is) k) (subst (TakesPrefix written holds b c) own t)

each_split : (P : Line → Type 0) (lines : List Line) (i : ℕ) (line : Line) → i < length lines → line ≡ get_or lines i line
    → Every P (drop i lines) → P line × Every P (drop (i + 1) lines)
each_split P lines i line l is h =
    subst (Every P) (drop-cons lines i line l ∙ ap (λ x. x ∷ drop (suc i) lines) (sym is)
    ∙ ap (λ n. line ∷ drop n lines) (sym (add-one i))) h

pub each_here : (P : Line → Type 0) (lines : List Line) (i : ℕ) (line : Line) → i < length lines → line ≡ get_or lines i line
    → Every P (drop i lines) → P line
each_here P lines i line l is h = (each_split P lines i line l is h).0

pub each_later : (P : Line → Type 0) (lines : List Line) (i : ℕ) (line : Line) → i < length lines → line ≡ get_or lines i line
    → Every P (drop i lines) → Every P (drop (i + 1) lines)
each_later P lines i line l is h = (each_split P lines i line l is h).1

-- The ends of a block

block_end : (state : State) (n : ℕ) (c : Command) → (is_par c || is_end c) ≡ true → step state n c ≡ ([], state)
block_end state n commands.Par e = refl
block_end state n commands.End e = refl
block_end state n c e = absurd (grind arith)

-- nothing is added
pub end_adds : (s : Standing) (n : ℕ) (c : Command) (text : Text) → IsReady s.known s.world → (is_par c || is_end c) ≡ true
    → StepAdds text text (step (state_of s) n c) s
end_adds s n c text ready e =
    subst (λ (x : Outcome). StepAdds text text x s) (sym (block_end (state_of s) n c e)) (record { text = sym (append-nil text); is = refl; ready = ready })
