-- Chains of classes by name and superclass alone.
use Rattle.std.proofs.Common.{◌≡◌, List, [], ◌∷◌, Some, refl, ap, ◌∙◌}
use Rattle.std.specs.Prelude.{◌||◌, map}
use Rattle.std.specs.List.{list_any}
use Rattle.rb_base.specs.Names.{text_eq}
use Rattle.image_model.specs.Image.{ClassOf, ImageOf}
use Rattle.image_model.specs.Chain.{chain}
use Rattle.image_model.proofs.Kept.{chain-kept}
use Rattle.run_model.specs.Values.{Name}
use Rattle.resolved_model.specs.ResolvedImages.{plain_class}
use Rattle.resolved_model.proofs.LookupLemmas.{plain-hierarchy}

-- the names of such classes
any-plain : (d : Name) (cs : List (ClassOf Name)) → list_any (λ (c : ClassOf Name). text_eq d c.name) (map plain_class cs) ≡ list_any (λ (c : ClassOf Name). text_eq d c.name) cs
any-plain d [] = refl
any-plain d (c ∷ cs) = ap (λ b. text_eq d c.name || b) (any-plain d cs)

-- the names on a chain of them
pub plain-chain : (x : ImageOf Name) (d n : Name) → list_any (λ (c : ClassOf Name). text_eq d c.name) (chain text_eq (map plain_class x.classes) (Some n)) ≡ list_any (λ (c : ClassOf Name). text_eq d c.name) (chain text_eq x.classes (Some n))
plain-chain x d n = ap (list_any (λ (c : ClassOf Name). text_eq d c.name)) (chain-kept text_eq plain_class x.classes (plain-hierarchy x.classes) (Some n)) ∙ any-plain d (chain text_eq x.classes (Some n))
