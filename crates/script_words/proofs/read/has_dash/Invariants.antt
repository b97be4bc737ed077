use Rattle.std.proofs.Common.{◌≡◌, drop, map, string_bytes}
use Rattle.std.specs.List.{list_any}
use Rattle.script_words.specs.Dash.{begins_with_dash}
use Rattle.script_words.proofs.read.has_dash.Given as goal

abbrev pub invariant-loop-word : goal.invariant-loop-word
invariant-loop-word l = list_any begins_with_dash (map string_bytes (drop l.word-index l.words)) ≡ list_any begins_with_dash (map string_bytes l.words)
