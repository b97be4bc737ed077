-- The answer to a request as JSON.
use Rattle.std.specs.Prelude.{◌≡◌, ℕ, Bool, false, List, Option, Some, None, option_map}
use Rattle.serde_json.specs.Data.{Data}
use Rattle.mem_base.specs.script.Scripts.{script_of}
use Rattle.mem_base.specs.script.Spelling.{Text}
use Rattle.scope_words.specs.declared.requests.Request.{Request}
use Rattle.scope_words.specs.declared.requests.Request.TheVariants.{Why, Lint, Diff, Slots, Draw, Explain, Import, Check}
use Rattle.scope_run.specs.Explains.{topic_code}
use Rattle.scope_run.specs.Requests.{AnswersTo, Holding, IsAddress, OfFile, called}
use Rattle.scope_run.specs.Scripts.{OfScript, told_by}
use Rattle.scope_json.specs.Diffs.{TellsDiff, diff_data}
use Rattle.scope_json.specs.Draws.{TellsDraw}
use Rattle.scope_json.specs.Explains.{TellsTopic, explain_mends, explained_data}
use Rattle.scope_json.specs.Lints.{lint_data, lint_mends}
use Rattle.scope_json.specs.Monitors.{check_data, import_data}
use Rattle.scope_json.specs.Tables.{TellsSlots, slots_data}
use Rattle.scope_json.specs.Texts.{IsJson, has_any}
use Rattle.scope_json.specs.Whys.{TellsWhy}

-- what `explain` answers: to the number or the word of a refusal or a cause what it means, to another word what is wrong with the file
abbrev pub AnswersWord : Holding → Text → Option Text → Data → Bool → Type 0
AnswersWord held what (Some code) d something = TellsTopic what d × (something ≡ false)
AnswersWord held what None d something =
    OfFile held what (λ bytes. (d ≡ explained_data (script_of bytes)) × (something ≡ explain_mends (script_of bytes)))

-- the value that answers a request, and whether there is something to mend
abbrev pub AnswersWith : Request → Holding → Data → Bool → Type 0
AnswersWith (Why script space addr region) held d something =
    OfFile held script.now (λ bytes. (a : ℕ) × IsAddress addr.now a
    × OfScript bytes (λ lines. TellsWhy (told_by bytes lines) (called space.now) a (option_map (λ r. called r.now) region) d)) × (something ≡ false)
AnswersWith (Lint script) held d something =
    OfFile held script.now (λ bytes. OfScript bytes (λ lines. (d ≡ lint_data lines) × (something ≡ lint_mends lines)))
AnswersWith (Diff first second) held d something =
    OfFile held first.now (λ old. OfFile held second.now (λ new. OfScript old (λ a. OfScript new (λ b.
    (items : List Data) × TellsDiff (told_by old a) (told_by new b) items × (d ≡ diff_data items) × (something ≡ has_any items)))))
AnswersWith (Slots script) held d something =
    OfFile held script.now (λ bytes. OfScript bytes (λ lines. (items : List Data) × TellsSlots bytes lines items × (d ≡ slots_data items)))
    × (something ≡ false)
AnswersWith (Draw script space style) held d something =
    OfFile held script.now (λ bytes. OfScript bytes (λ lines. TellsDraw (told_by bytes lines) (called space.now) d)) × (something ≡ false)
AnswersWith (Explain what) held d something = AnswersWord held what.now (topic_code what.now) d something
AnswersWith (Import tree flat spaces) held d something =
    (text : Text) × AnswersTo (Import tree flat spaces) held text something × (d ≡ import_data text)
AnswersWith (Check script flat) held d something = (text : Text) × AnswersTo (Check script flat) held text something × (d ≡ check_data text)

-- the same as a text: a line that reads as the value
abbrev pub AnswersJson : Request → Holding → Text → Bool → Type 0
AnswersJson request held text something = (d : Data) × AnswersWith request held d something × IsJson d text
