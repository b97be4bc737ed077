-- How deep answers nest.
use Rattle.std.proofs.Common.{◌≡◌, ◌≤◌, ℕ, suc, Bool, List, [], ◌∷◌, Option, Some, None, Ok, Err, is_some, map, arith, sym, subst}
use Rattle.std.specs.Prelude.{codes, flat_map, length, ◌==◌, not}
use Rattle.std.specs.List.{list_any}
use Rattle.serde_json.specs.Data.{Data, depth, null, string}
use Rattle.serde_json.specs.Read.{max_depth}
use Rattle.json_build.specs.Parts.{list_of, record_of}
use Rattle.json_build.proofs.Depths.{AreShallow, HaveShallow, depth_of_list, depth_of_map, depth_of_record}
use Rattle.mem_base.specs.declared.map.ids.SpaceId.{SpaceId}
use Rattle.mem_base.specs.declared.script.faults.BadScript.{BadScript}
use Rattle.mem_base.specs.declared.views.flat.FlatRange.{FlatRange}
use Rattle.mem_base.specs.declared.views.listening.RangeEvent.{RangeEvent}
use Rattle.mem_base.specs.script.Named.{Names}
use Rattle.mem_base.specs.script.Scripts.{Line, Meaning, script_of}
use Rattle.mem_base.specs.script.Spelling.{Text}
use Rattle.mem_base.specs.script.States.{State, space_named}
use Rattle.mem_base.specs.views.Walk.{walk}
use Rattle.view_diff.specs.declared.Difference.{Difference}
use Rattle.view_slots.specs.Texts.{range_of}
use Rattle.script_map.specs.Left.{Shown, first_of, published_in, refused_in}
use Rattle.script_map.specs.Refusals.{Refused}
use Rattle.scope_run.proofs.HandedOn.{idle_par, taken_along_by, unclosed}
use Rattle.scope_words.specs.declared.requests.Request.{Request}
use Rattle.scope_words.specs.declared.requests.Request.TheVariants.{Why, Lint, Diff, Slots, Draw, Explain, Import, Check}
use Rattle.scope_run.specs.Diffs.{is_kept}
use Rattle.scope_run.specs.Explains.{topic_code}
use Rattle.scope_run.specs.Requests.{Holding, called}
use Rattle.scope_run.specs.Scripts.{TellsAll, left_by, told_by}
use Rattle.scope_run.specs.Tables.{slot_number}
use Rattle.scope_values.specs.Findings.{finding_data}
use Rattle.scope_values.specs.Rows.{row_data}
use Rattle.scope_values.specs.Steps.{change_data}
use Rattle.scope_values.proofs.Nesting.{change_depth, finding_depth, row_depth, searches_depth, shallow_append, shallow_flat_map, shallow_if, shallow_unless, leaf}
use Rattle.scope_values.proofs.Nesting.{slot_depth, topic_depth}
use Rattle.scope_json.specs.Answers.{AnswersWith, AnswersWord}
use Rattle.scope_json.specs.Diffs.{TellsBetween, TellsDiff, TellsFirst, alone_data, changes_of, diff_data, diff_fields, difference_data, second_data}
use Rattle.scope_json.specs.Diffs.{space_data, space_fields}
use Rattle.scope_json.specs.Draws.{draw_data, draw_fields}
use Rattle.scope_json.specs.Explains.{explain_fields, explained_data, fault_data, fault_fields, refused_data, topic_answer}
use Rattle.scope_json.specs.Monitors.{check_data, import_data, text_fields}
use Rattle.scope_json.specs.Lints.{findings_in, line_data, lint_by, lint_data, lint_fields, number_data, refused_fields, taken_data, taken_fields}
use Rattle.scope_json.specs.Tables.{TellsSlotsIn, TellsSlotsOf, TellsTables, slots_data, slots_fields, step_data, table_data, table_fields}
use Rattle.scope_json.specs.Texts.{answer_of}
use Rattle.scope_json.specs.Whys.{why_data, why_fields}

answer_depth : (n : ℕ) (command : Text) (fs : List (Text × Data)) → HaveShallow n fs → depth (answer_of command fs) ≤ suc n
answer_depth n command fs h = depth_of_record n ((codes "command", string command) ∷ fs) (leaf n, h)

refused_depth : (r : Refused) → depth (refused_data r) ≤ 1
refused_depth r = depth_of_record 0 (refused_fields r) (leaf 0, (leaf 0, tt))

refusals_depth : (rs : List Refused) → depth (list_of (map refused_data rs)) ≤ 2
refusals_depth rs = depth_of_map 1 refused_data rs refused_depth

line_depth : (n : ℕ) (line : Option ℕ) → depth (line_data line) ≤ n
line_depth n None = leaf n
line_depth n (Some line) = leaf n

taken_depth : (lines : List Line) (rs : List Refused) (r : Refused) → depth (taken_data lines rs r) ≤ 1
taken_depth lines rs r = depth_of_record 0 (taken_fields lines rs r) (leaf 0, (leaf 0, (line_depth 0 (taken_along_by lines rs r), tt)))

lint_depth : (lines : List Line) (rs : List Refused) (s : State) → depth (lint_by lines rs s) ≤ 3
lint_depth lines rs s =
    let begun = unclosed lines rs in
    let idle = idle_par lines in
    answer_depth 2 (codes "lint") (lint_fields lines rs begun idle s.names (findings_in s)) (
      depth_of_map 1 (taken_data lines rs) rs (taken_depth lines rs),
      (
        depth_of_map 1 number_data begun (λ line. leaf 1),
        (line_depth 2 idle, (depth_of_map 1 (finding_data s.names) (findings_in s) (finding_depth s.names), tt)),
      ),
    )

-- a part for each element of a list
parts_shallow : {X : Type 0} (n : ℕ) (tells : X → List Data → Type 0) (xs : List X) (items : List Data)
    → ((x : X) (here : List Data) → tells x here → AreShallow n here) → TellsAll tells xs items → AreShallow n items
parts_shallow n tells [] items each h = subst (AreShallow n) (sym h) tt
parts_shallow n tells (x ∷ xs) items each h =
    subst (AreShallow n) (sym h.2) (shallow_append n h.0 h.1 (each x h.0 h.3) (parts_shallow n tells xs h.1 each h.4))

space_depth : (name which : Text) (changes : List Data) → AreShallow 2 changes → depth (space_data name which changes) ≤ 4
space_depth name which changes h = depth_of_record 3 (space_fields name which changes) (leaf 3, (leaf 3, (depth_of_list 2 changes h, tt)))

change_shallow : (labels : List Text) (step : RangeEvent) → AreShallow 2 (changes_of labels step)
change_shallow labels step = shallow_unless 2 (is_kept step) (change_data labels step) (change_depth labels step)

difference_shallow : (name : Text) (d : Difference) → AreShallow 4 (difference_data name d)
difference_shallow name d =
    let changes = flat_map (changes_of d.labels.made) d.walk in
    shallow_if 4 (list_any (λ step. not (is_kept step)) d.walk) (space_data name (codes "both") changes)
    (space_depth name (codes "both") changes (shallow_flat_map 2 (changes_of d.labels.made) d.walk (change_shallow d.labels.made)))

alone_shallow : (name which : Text) → AreShallow 4 (alone_data name which)
alone_shallow name which = (space_depth name which [] tt, tt)

between_shallow : (a b : State) (name : Text) (from to : Option SpaceId) (items : List Data) → TellsBetween a b name from to items → AreShallow 4 items
between_shallow a b name None to items h = subst (AreShallow 4) (sym h) tt
between_shallow a b name (Some from) None items h = subst (AreShallow 4) (sym h) (alone_shallow name (codes "first"))
between_shallow a b name (Some from) (Some to) items h = subst (AreShallow 4) (sym h.2) (difference_shallow name h.0)

second_shallow : (a : State) (name : Text) → AreShallow 4 (second_data a name)
second_shallow a name =
    shallow_unless 4 (is_some (space_named a name)) (space_data name (codes "second") []) (space_depth name (codes "second") [] tt)

diff_shallow : (a b : State) (items : List Data) → TellsDiff a b items → AreShallow 4 items
diff_shallow a b items h =
    subst (AreShallow 4) (sym h.1) (shallow_append 4 h.0 (flat_map (second_data a) b.names.spaces)
    (parts_shallow 4 (TellsFirst a b) a.names.spaces h.0
    (λ name here t. between_shallow a b name (space_named a name) (space_named b name) here t) h.2)
    (shallow_flat_map 4 (second_data a) b.names.spaces (second_shallow a)))

diff_depth : (a b : State) (items : List Data) → TellsDiff a b items → depth (diff_data items) ≤ 6
diff_depth a b items h = answer_depth 5 (codes "diff") (diff_fields items) (depth_of_list 4 items (diff_shallow a b items h), tt)

table_shallow : (edges : List ℕ) (names : Names) (space : SpaceId) (generation : ℕ) (steps : List RangeEvent)
    → AreShallow 4 (table_data edges names space generation steps)
table_shallow edges names space generation steps =
    let list = depth_of_map 2 (step_data edges names) steps (λ step. slot_depth (slot_number edges (range_of step)) names step) in
    let fs = table_fields edges names space generation steps in
    shallow_unless 4 (length steps == 0) (record_of fs) (depth_of_record 3 fs (leaf 3, (leaf 3, (list, tt))))

tables_shallow : (edges : List ℕ) (names : Names) (space : SpaceId) (old : List FlatRange) (gs : List Shown) (items : List Data)
    → TellsTables edges names space old gs items → AreShallow 4 items
tables_shallow edges names space old [] items h = subst (AreShallow 4) (sym h) tt
tables_shallow edges names space old (g ∷ gs) items h =
    subst (AreShallow 4) (sym h.4) (shallow_append 4 (table_data edges names space g.number (walk old h.0)) h.1
    (table_shallow edges names space g.number (walk old h.0)) (tables_shallow edges names space h.0 gs h.1 h.5))

slots_of_shallow : (names : Names) (gs : List Shown) (space : Option SpaceId) (items : List Data) → TellsSlotsOf names gs space items → AreShallow 4 items
slots_of_shallow names gs None items h = subst (AreShallow 4) (sym h) tt
slots_of_shallow names gs (Some space) items h = tables_shallow h.0 names space [] gs items h.2

slots_depth : (s : State) (gs : List Shown) (items : List Data) → TellsSlotsIn s gs items → depth (slots_data items) ≤ 6
slots_depth s gs items h =
    let each = parts_shallow 4 (λ name here. TellsSlotsOf s.names gs (space_named s name) here) s.names.spaces items
    (λ name here t. slots_of_shallow s.names gs (space_named s name) here t) h in
    answer_depth 5 (codes "slots") (slots_fields items) (depth_of_list 4 items each, tt)

fault_depth : (bad : BadScript) → depth (fault_data bad) ≤ 2
fault_depth bad = let k = depth_of_record 0 (fault_fields bad) (leaf 0, (leaf 0, tt)) in omega arith

explained_depth : (m : Meaning) → depth (explained_data m) ≤ 3
explained_depth (Ok lines) =
    let refused = refused_in (first_of lines) lines in
    answer_depth 2 (codes "explain") (explain_fields null refused) (leaf 2, (refusals_depth refused, tt))
explained_depth (Err bad) = answer_depth 2 (codes "explain") (explain_fields (fault_data bad) []) (fault_depth bad, (refusals_depth [], tt))

-- a value that is one that nests so far
same_depth : (d e : Data) (n : ℕ) → d ≡ e → depth e ≤ n → n ≤ 127 → depth d ≤ max_depth
same_depth d e n is h k = subst (λ (x : Data). depth x ≤ 127) (sym is) (omega arith)

word_depth : (held : Holding) (what : Text) (code : Option Text) (d : Data) (something : Bool) → AnswersWord held what code d something → depth d ≤ max_depth
word_depth held what (Some code) d something h =
    same_depth d (answer_of (codes "explain") (topic_answer h.0.0)) 2 h.0.2
    (answer_depth 1 (codes "explain") (topic_answer h.0.0) (topic_depth h.0.0, tt)) (omega arith)
word_depth held what None d something h = same_depth d (explained_data (script_of h.0)) 3 h.2.0 (explained_depth (script_of h.0)) (omega arith)

lint_within : (lines : List Line) (d : Data) → d ≡ lint_data lines → depth d ≤ max_depth
lint_within lines d is =
    let rs = refused_in (first_of lines) lines in
    same_depth d (lint_by lines rs (left_by lines)) 3 is (lint_depth lines rs (left_by lines)) (omega arith)

-- every answer nests at most so deep as a text may that is read
pub answers_depth : (request : Request) (held : Holding) (d : Data) (something : Bool) → AnswersWith request held d something → depth d ≤ max_depth
answers_depth (Why script space addr region) held d something h =
    let told = h.0.2.2.2 in
    let names = (told_by h.0.0 h.0.2.2.0).names in
    same_depth d (why_data names told.one told.hops) 7 told.data_is
    (answer_depth 6 (codes "why") (why_fields names told.one told.hops) (searches_depth names told.one told.hops, tt)) (omega arith)
answers_depth (Lint script) held d something h = lint_within h.2.0 d h.2.2.0
answers_depth (Diff first second) held d something h =
    let told = h.2.2.2.2 in
    same_depth d (diff_data told.0) 6 told.2 (diff_depth (told_by h.0 h.2.2.0) (told_by h.2.0 h.2.2.2.0) told.0 told.1) (omega arith)
answers_depth (Slots script) held d something h =
    let told = h.0.2.2 in
    let lines = h.0.2.0 in
    same_depth d (slots_data told.0) 6 told.2 (slots_depth (told_by h.0.0 lines) (published_in (first_of lines) lines) told.0 told.1) (omega arith)
answers_depth (Draw script space style) held d something h =
    let told = h.0.2.2 in
    let names = (told_by h.0.0 h.0.2.0).names in
    same_depth d (draw_data (called space.now) names told.rows) 4 told.data_is
    (answer_depth 3 (codes "draw") (draw_fields (called space.now) names told.rows) (leaf 3, (depth_of_map 2 (row_data names) told.rows (row_depth names), tt)))
    (omega arith)
answers_depth (Explain what) held d something h = word_depth held what.now (topic_code what.now) d something h
answers_depth (Import tree flat spaces) held d something h =
    same_depth d (import_data h.0) 1 h.2 (answer_depth 0 (codes "import") (text_fields (codes "script") h.0) (leaf 0, tt)) (omega arith)
answers_depth (Check script flat) held d something h =
    same_depth d (check_data h.0) 1 h.2 (answer_depth 0 (codes "check") (text_fields (codes "spaces") h.0) (leaf 0, tt)) (omega arith)
