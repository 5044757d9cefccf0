use Rattle.std.proofs.Common.{ℕ, ◌||◌, List, Bool, ap, ◌∙◌}
use Rattle.std.specs.Prelude.{nat_eq}
use Rattle.std.specs.List.{list_any}
use Rattle.image_strip.specs.Code.{doit_at}
use Rattle.image_strip.specs.Reached.{is_marked}
use Rattle.image_strip.proofs.Visits.{meant-member}
use Rattle.image_strip.proofs.least.add_doit.Goals as goal

pub returns : goal.returns
returns c =
    let s = c.args.image.now in
    let old = c.args.reach.now in
    record {
      classes = λ n. c.in_ok-add_names.ensures.classes n ∙ ap (λ (b : Bool). b || is_marked old.classes n) (meant-member (doit_at s c.args.body.now) _ c.in_ok-classes.ensures n);
      selectors = λ n. c.in_ok-add_names.ensures.selectors n ∙ ap (λ (xs : List ℕ). list_any (nat_eq n) xs || is_marked old.selectors n) c.in_ok-selectors.ensures;
      methods = c.in_ok-add_names.ensures.methods;
    }
