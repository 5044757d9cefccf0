use Rattle.std.proofs.Common.{ℕ, List, ◌++◌, ap, ◌∙◌}
use Rattle.image_forms.proofs.fixed_lines.help.Goals as goal

pub returns-clause-text : goal.returns-clause-text
returns-clause-text c =
    c.in_ok-push_line-4.ensures ∙ ap (λ (t : List ℕ). t ++ _)
    (c.in_ok-push_line-3.ensures ∙ ap (λ (t : List ℕ). t ++ _)
    (c.in_ok-push_line-2.ensures ∙ ap (λ (t : List ℕ). t ++ _)
    (c.in_ok-push_line.ensures ∙ ap (λ (t : List ℕ). t ++ _) c.requires)))
