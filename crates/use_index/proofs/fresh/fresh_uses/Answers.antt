use Rattle.std.proofs.Common.{◌≡◌, sym, arith}
use Rattle.std.proofs.lemmas.Grind.{common_steps}
use Rattle.std.proofs.lemmas.List.{map-append}
use Rattle.std.proofs.lemmas.List.Elements.{All-push}
use Rattle.use_index.specs.declared.fresh.FreshUses.{FreshUses}
use Rattle.use_index.specs.Index.{uses_at}
use Rattle.use_index.proofs.fresh.fresh_uses.Goals as goal

pub loop-place-preserved : goal.loop-place-preserved
loop-place-preserved g c = (
  grind (arith, common_steps, map-append),
  rw c.in_ok-push.ensures.items
      (All-push (λ (f : FreshUses). uses_at c.args.image.now f.place ≡ f.uses) _ _ c.loop-place.invariant.1 (sym c.in_ok-uses.ensures.uses)),
  omega arith,
)
