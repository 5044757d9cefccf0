-- Methods that are told to be the same, and send to `super`, find the same above where the one finds it in both images.
use Rattle.std.proofs.Common.{◌≡◌, Option, refl, subst}
use Rattle.std.specs.Prelude.{Bool, true, false, not, ◌||◌}
use Rattle.std.proofs.Math.Bool.{beq}
use Rattle.std.specs.Option.{option_eq}
use Rattle.std.proofs.lemmas.Bool.{false≢true}
use Rattle.rb_base.specs.Names.{text_eq}
use Rattle.image_model.specs.Image.{EntryOf, ImageOf}
use Rattle.image_model.specs.Words.{text_words}
use Rattle.image_model.specs.Lookup.{super_lookup}
use Rattle.run_model.specs.Values.{Name}
use Rattle.run_model.proofs.Finite.{by_cases, and-true_left, and-true_right}
use Rattle.same_trees.specs.SameTrees.{same_code}
use Rattle.command_model.specs.SameMethods.{has_super, are_of_one_side, means_same_in, is_same_method}
use Rattle.agreement_laws.specs.Reaching.{is_super, SendsAbove}
use Rattle.agreement_laws.proofs.CodeKnown.{nothing-above}
use Rattle.agreement_laws.proofs.Tests.{second, sides-same, any-names-same}

-- where both have no `super` there is none in the first
left-none : (a b : Bool) → not (a || b) ≡ true → a ≡ false
left-none true b h = absurd (false≢true h)
left-none false b h = refl

pub supers-same : (i j : ImageOf Name) (Both : Option (EntryOf Name) → Option (EntryOf Name) → Type 0) (m n : EntryOf Name) → is_same_method text_words is_super i j m n ≡ true → (t : Name) → SendsAbove m.tree.body t →
    Both (super_lookup text_words i m.class m.meta t) (super_lookup text_words j m.class m.meta t) → Both (super_lookup text_words i m.class m.meta t) (super_lookup text_words j n.class n.meta t)
supers-same i j Both m n e t sends both =
    by_cases (not (has_super is_super m || has_super is_super n))
    (λ none. absurd (nothing-above m (left-none (has_super is_super m) (has_super is_super n) none) t sends))
    (λ some.
    let rest = and-true_left (not (has_super is_super m || has_super is_super n) || are_of_one_side text_eq m n) (means_same_in text_words i m j n) (and-true_right (same_code text_eq m.tree n.tree) _ e) in
    let side = second (not (has_super is_super m || has_super is_super n)) (are_of_one_side text_eq m n) some rest in
    subst (λ x. Both (super_lookup text_words i m.class m.meta t) (super_lookup text_words j x n.meta t)) (any-names-same m.class n.class (and-true_left (option_eq text_eq m.class n.class) (beq m.meta n.meta) side))
    (subst (λ b. Both (super_lookup text_words i m.class m.meta t) (super_lookup text_words j m.class b t)) (sides-same m.meta n.meta (and-true_right (option_eq text_eq m.class n.class) (beq m.meta n.meta) side)) both))
