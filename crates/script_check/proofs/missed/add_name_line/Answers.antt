use Rattle.std.proofs.Common.{◌≡◌, ◌++◌, codes, List, ℕ, ap, subst, ◌∙◌, append_assoc}
use Rattle.std.specs.Prelude.{OnOk}
use Rattle.mem_base.specs.script.RefusalLines.{line_feed}
use Rattle.script_check.specs.Checks.{name_line}
use Rattle.script_check.proofs.missed.add_name_line.Goals as goal

pub returns : goal.returns
unfolding name_line
returns c =
    let t : List ℕ = c.args.text.now in
    let a : List ℕ = codes "QEMU's view of " in
    let n : List ℕ = c.args.name.now in
    let b : List ℕ = codes ": no space of the script shows it" in
    let written : c.text.new.self ≡ (t ++ (a ++ n)) ++ b = c.in_ok-text.ensures ∙ ap (λ (z : List ℕ). z ++ b) (c.in_ok-named.ensures) in
    let whole : c.text.new.self ++ line_feed ≡ t ++ name_line n =
    ap (λ (z : List ℕ). z ++ line_feed) written ∙ append_assoc (t ++ (a ++ n)) b line_feed ∙ append_assoc t (a ++ n) (b ++ line_feed)
    ∙ ap (λ (z : List ℕ). t ++ z) (append_assoc a n (b ++ line_feed)) in
    subst (λ (z : List ℕ). OnOk c.end.result (c.end.new.self ≡ z)) whole c.end.ensures
