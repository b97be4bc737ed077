use Rattle.std.proofs.Common.{◌++◌, ◌∙◌, List, ℕ, Result, Ok, Err, OnOk, ap, append_assoc, codes}
use Rattle.mem_base.specs.script.RefusalLines.{line_feed}
use Rattle.script_explain.proofs.texts.add_advice.Goals as goal

on_ok : {A E P Q : Type 0} (r : Result A E) → (P → Q) → OnOk r P → OnOk r Q
on_ok (Ok x) f h = f h
on_ok (Err e) f h = tt

pub returns : goal.returns
returns c =
    let out : List ℕ = c.args.out.now in
    let advice : List ℕ = c.args.topic.now.advice.now in
    on_ok c.end.result
    (λ e. e ∙ ap (λ (xs : List ℕ). xs ++ line_feed) (c.in_ok-text-2.ensures ∙ ap (λ (xs : List ℕ). xs ++ advice) c.in_ok-text.ensures)
    ∙ append_assoc (out ++ codes "what to do: ") advice line_feed ∙ append_assoc out (codes "what to do: ") (advice ++ line_feed))
    c.end.ensures
