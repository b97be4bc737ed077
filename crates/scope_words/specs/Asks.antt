-- What the words ask for, by what clap finds in them.
use Rattle.std.specs.Prelude.{◌≡◌, Bool, true, false, if◌then◌else◌, List, [], Option, Some, None, codes, option_map, unwrap_or, ⊤}
use Rattle.clap.specs.Words.{HasKind, Row, Text, fault_of, first_of, one_of, subcommand_of}
use Rattle.scope_words.specs.App.{scope_app}
use Rattle.scope_words.specs.declared.read.Asked.{Asked}
use Rattle.scope_words.specs.declared.read.Asked.TheVariants as asked
use Rattle.scope_words.specs.declared.requests.Request.{Request}
use Rattle.scope_words.specs.declared.requests.Request.TheVariants.{Why, Lint, Diff, Slots, Draw, Explain, Import, Check}
use Rattle.scope_words.specs.declared.requests.Style.{Style}
use Rattle.scope_words.specs.declared.requests.Style.TheVariants as styles

-- the word of a place; empty where there is none
abbrev pub word_of : Text → List Row → Text
word_of id rows = unwrap_or (first_of id rows) []

abbrev pub style_by : Bool → Style
style_by svg = if svg then styles.Svg else styles.Text

-- how a picture is drawn, by the flag
pub record IsStyle (flag : Option Text) (style : Style) : Type 0 where
  pub absent : flag ≡ None → style ≡ styles.Text
  pub off : flag ≡ Some (codes "false") → style ≡ styles.Text
  pub on : flag ≡ Some (codes "true") → style ≡ styles.Svg

-- whether the answer is to be JSON, by the flag
pub record IsForm (flag : Option Text) (json : Bool) : Type 0 where
  pub absent : flag ≡ None → json ≡ false
  pub off : flag ≡ Some (codes "false") → json ≡ false
  pub on : flag ≡ Some (codes "true") → json ≡ true

-- a subcommand with its words is this request
abbrev pub IsRequest : Text → List Row → Request → Type 0
IsRequest name rows (Why script space addr region) =
    (name ≡ codes "why") × (script.now ≡ word_of (codes "SCRIPT") rows) × (space.now ≡ word_of (codes "SPACE") rows)
    × (addr.now ≡ word_of (codes "ADDR") rows) × (option_map (λ r. r.now) region ≡ first_of (codes "REGION") rows)
IsRequest name rows (Lint script) = (name ≡ codes "lint") × (script.now ≡ word_of (codes "SCRIPT") rows)
IsRequest name rows (Diff first second) =
    (name ≡ codes "diff") × (first.now ≡ word_of (codes "FIRST") rows) × (second.now ≡ word_of (codes "SECOND") rows)
IsRequest name rows (Slots script) = (name ≡ codes "slots") × (script.now ≡ word_of (codes "SCRIPT") rows)
IsRequest name rows (Draw script space style) =
    (name ≡ codes "draw") × (script.now ≡ word_of (codes "SCRIPT") rows) × (space.now ≡ word_of (codes "SPACE") rows)
    × IsStyle (one_of (codes "svg") rows) style
IsRequest name rows (Explain what) = (name ≡ codes "explain") × (what.now ≡ word_of (codes "WHAT") rows)
IsRequest name rows (Import tree flat spaces) =
    (name ≡ codes "import") × (tree.now ≡ word_of (codes "TREE") rows) × (option_map (λ f. f.now) flat ≡ first_of (codes "FLAT") rows)
    × (option_map (λ s. s.now) spaces ≡ first_of (codes "space") rows)
IsRequest name rows (Check script flat) =
    (name ≡ codes "check") × (script.now ≡ word_of (codes "SCRIPT") rows) × (flat.now ≡ word_of (codes "FLAT") rows)

-- the same of what clap found, if it found a subcommand, and whether its answer is to be JSON
abbrev pub IsFound : Option (Text × List Row) → Bool → Request → Type 0
IsFound None json request = ⊥
IsFound (Some p) json request = IsRequest p.0 p.1 request × IsForm (one_of (codes "json") p.1) json

-- what is asked for by the subcommand that clap found: a request, to be answered as text or as JSON
abbrev pub IsAskedBy : Option (Text × List Row) → Asked → Type 0
IsAskedBy found (asked.Request request) = IsFound found false request
IsAskedBy found (asked.Json request) = IsFound found true request
IsAskedBy found _ = ⊥

-- what was read is what the words ask for: a request by the subcommand that clap finds, or an error of a kind that clap's meaning of the
-- words gives, as help, the version or a word too few
abbrev pub Asks : List Text → Asked → Type 0
Asks words (asked.Text error) = HasKind (fault_of scope_app words) error
Asks words asked.Memory = ⊤
Asks words found = IsAskedBy (subcommand_of scope_app words) found
