use Rattle.std.proofs.Common.{ap, sym, ◌∙◌, arith}
use Rattle.std.specs.List.Sorted.{IsStrictlyIncreasing}
use Rattle.std.proofs.lemmas.List.Elements.{All-pop, All-weaker}
use Rattle.reference_index.specs.declared.fresh.Fresh.{Fresh}
use Rattle.reference_index.specs.Rows.{Fits}
use Rattle.reference_index.specs.Fresh.{kept_after}
use Rattle.reference_index.proofs.FreshLemmas.{Fits-more, kept_after-last}
use Rattle.reference_index.proofs.rows.Rows.set_all.Goals as goal

pub loop-place-preserved : goal.loop-place-preserved
loop-place-preserved c = (
  All-weaker (λ (f : Fresh). Fits c.loop-place.self f.place f.names) (λ (f : Fresh). Fits c.set.new.self f.place f.names)
      (λ f. Fits-more c.loop-place.self c.set.new.self f.place f.names (omega arith) (omega arith))
      c.pop.new.self.items
      (All-pop (λ (f : Fresh). Fits c.loop-place.self f.place f.names) _ _ _ c.pop.ensures.items c.loop-place.invariant.0).0,
  λ p.
      kept_after-last c.loop-place.self c.set.new.self c.pop.new.self.items c.in-Some.field-0 p (c.set.ensures.kept p)
      ∙ ap (λ fs. kept_after c.loop-place.self fs p) (sym c.in-Some.ensures.items)
      ∙ c.loop-place.invariant.1 p,
  (All-pop (λ (f : Fresh). IsStrictlyIncreasing f.names) _ _ _ c.pop.ensures.items c.loop-place.invariant.2).0,
)
