use Rattle.std.proofs.Common.{ℕ, List, ◌++◌, ap, sym, subst, ◌∙◌}
use Rattle.class_table.specs.View.{image_of}
use Rattle.why_model.specs.Why.{WhyIn}
use Rattle.explained_scripts.proofs.explain.explain_script.Goals as goal

pub returns-clause-answered : goal.returns-clause-answered
returns-clause-answered c =
    subst (λ (sent : List ℕ). WhyIn (image_of c.args.image.now) c.args.script.now c.in_ok-status.status sent)
    (sym (c.in_ok-push_slice.ensures.ok ∙ ap (λ (t : List ℕ). t ++ c.as_slice.result.now) c.requires.empty ∙ c.as_slice.ensures))
    c.in_ok-status.ensures
