use Rattle.std.proofs.Common.{None, Some, Option, option_map, sym, ap, ◌∙◌}
use Rattle.extracted_code.specs.declared.extracting.Extracted.{Extracted}
use Rattle.st_tree.specs.View.{method_of}
use Rattle.use_witnesses.proofs.Highs.{brought-told}
use Rattle.use_witnesses.proofs.heights.is_part_high.Goals as goal

pub returns-in-None : goal.returns-in-None
returns-in-None g c =
    brought-told c.args.image.now c.args.part.now c.args.to None
    (sym (ap (λ (o : Option Extracted). option_map (λ (x : Extracted). method_of x.method) o) c.in-None.is) ∙ c.in_ok-extracted.ensures.method)

pub returns-in-Some : goal.returns-in-Some
returns-in-Some g c =
    c.is_high.ensures
    ∙ brought-told c.args.image.now c.args.part.now c.args.to (Some (method_of c.in-Some.made.method))
    (sym (ap (λ (o : Option Extracted). option_map (λ (x : Extracted). method_of x.method) o) c.in-Some.is) ∙ c.in_ok-extracted.ensures.method)
