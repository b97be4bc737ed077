use Rattle.serde_json.specs.View.{view}
use Rattle.scope_json.proofs.Nesting.{answers_depth}
use Rattle.scope_json.proofs.top.answer_text.Goals as goal

pub line_of-requires : goal.line_of-requires
line_of-requires g c = answers_depth c.args.request.now (g.F.Files.held c.args.files.now) (view c.in_ok-told.told.value) c.in_ok-told.told.something
    c.in_ok-told.ensures.told
