use Rattle.std.proofs.Common.{ap, sym, ◌∙◌, arith}
use Rattle.std.proofs.lemmas.List.Elements.{All-pop, All-weaker}
use Rattle.use_index.specs.declared.fresh.FreshUses.{FreshUses}
use Rattle.use_index.specs.Fresh.{used_after}
use Rattle.use_index.specs.Rows.{HasRow}
use Rattle.use_index.proofs.FreshLemmas.{used_after-last}
use Rattle.use_index.proofs.RowLemmas.{HasRow-more}
use Rattle.use_index.proofs.rows.UseRows.set_all.Goals as goal

pub loop-place-preserved : goal.loop-place-preserved
loop-place-preserved c = (
  All-weaker (λ (f : FreshUses). HasRow c.loop-place.self f.place) (λ (f : FreshUses). HasRow c.set.new.self f.place)
      (λ f. HasRow-more c.loop-place.self c.set.new.self f.place (omega arith) (omega arith))
      c.pop.new.self.items
      (All-pop (λ (f : FreshUses). HasRow c.loop-place.self f.place) _ _ _ c.pop.ensures.items c.loop-place.invariant.0).0,
  λ p.
      used_after-last c.loop-place.self c.set.new.self c.pop.new.self.items c.in-Some.field-0 p (c.set.ensures.used p)
      ∙ ap (λ fs. used_after c.loop-place.self fs p) (sym c.in-Some.ensures.items)
      ∙ c.loop-place.invariant.1 p,
)
