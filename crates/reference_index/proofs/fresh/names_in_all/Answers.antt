use Rattle.std.proofs.Common.{arith}
use Rattle.std.proofs.lemmas.Grind.{common_steps}
use Rattle.std.proofs.lemmas.List.Elements.{All-push}
use Rattle.mentions.specs.Listing.{ListsOnce}
use Rattle.reference_index.specs.declared.fresh.Fresh.{Fresh}
use Rattle.reference_index.specs.Mentioned.{names_at}
use Rattle.reference_index.proofs.FreshLemmas.{places-push}
use Rattle.reference_index.proofs.fresh.names_in_all.Goals as goal

pub loop-place-preserved : goal.loop-place-preserved
loop-place-preserved g c = (
  grind (arith, common_steps, places-push),
  rw c.in_ok-push.ensures.items
      (All-push (λ (f : Fresh). ListsOnce (names_at c.args.image.now f.place) f.names) _ _ c.loop-place.invariant.1 c.in_ok-names.ensures.names),
  omega arith,
)
