use Rattle.std.proofs.Common.{◌==◌, ◌||◌, ℕ, Bool, not, List, length, sym, ap, ◌∙◌}
use Rattle.scope_model.specs.Control.{is_empty}
use Rattle.inline_questions.proofs.Fit.{no-temporaries}
use Rattle.part_witnesses.proofs.inlinable.is_kept.Goals as goal

pub returns : goal.returns
returns c =
    let ts : List ℕ = c.args.method.now.tree.now.body.temporaries in
    ap not (c.is_empty.ensures ∙ ap (λ (xs : List ℕ). length xs == 0) c.as_slice.ensures ∙ no-temporaries ts)
    ∙ ap (λ (b : Bool). b || not (is_empty ts)) (sym c.if-method.false)
