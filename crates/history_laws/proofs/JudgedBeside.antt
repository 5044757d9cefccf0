-- One script in an image, and in the image with one more do-it.
use Rattle.std.proofs.Common.{◌≡◌, Option, Some, None, Result, Ok, Err, refl, sym, ap, ◌∙◌}
use Rattle.std.specs.Option.{option_map_or}
use Rattle.rb_base.specs.Names.{text_eq}
use Rattle.image_model.specs.Image.{DoItOf, ImageOf, plus}
use Rattle.run_model.specs.Values.{Name}
use Rattle.rename_model.specs.ClassRenamed.{canonical}
use Rattle.command_model.specs.Asked.{text_asked}
use Rattle.command_model.specs.Commands.{CommandOf, RenameClass}
use Rattle.command_model.specs.Conditions.{ConditionOf}
use Rattle.command_model.specs.Beside.{HasOneMore}
use Rattle.command_model.specs.Effects.{effect}
use Rattle.command_model.specs.Judged.{first_false}
use Rattle.command_model.specs.Renamings.{renaming_of}
use Rattle.history_model.proofs.Beside.{AreBeside, verdicts-beside}
use Rattle.session_model.specs.Actions.{ActionOf, Single, CreateAccessors, ExtractSuperclass, PushUpWithMethods}
use Rattle.session_model.specs.Steps.{steps_of}
use Rattle.session_model.specs.Scripts.{rules, History, verdict_in}
use Rattle.session_model.specs.Admitted.{Admits}
use Rattle.command_model.proofs.EffectsBeside.{effect-beside}

-- a command that is accepted has no condition that is false, and makes its effect
made-by : (o : Option (ConditionOf Name)) (j m : ImageOf Name) →
    option_map_or {U = Result (ImageOf Name) (ConditionOf Name)} (λ q. Err q) o (Ok j) ≡ Ok m → (o ≡ None) × (j ≡ m)
made-by None j m e = let same : j ≡ m = cc in (refl, same)
made-by (Some q) j m e = absurd (cc)

pub made : (i : ImageOf Name) (c : CommandOf Name) (m : ImageOf Name) → rules.judged i c ≡ Ok m → (first_false text_asked i c ≡ None) × (effect text_asked canonical c i ≡ m)
made i c m e = made-by (first_false text_asked i c) (effect text_asked canonical c i) m e

-- what a command renames
pub renaming-plus : (i : ImageOf Name) (e : DoItOf Name) (c : CommandOf Name) → renaming_of (plus i e) c ≡ renaming_of i c
renaming-plus i e (RenameClass c d) = refl
renaming-plus i e c = refl

-- the steps of an action
pub steps-plus : (i : ImageOf Name) (e : DoItOf Name) (x : ActionOf Name) → steps_of text_eq (plus i e) canonical x ≡ steps_of text_eq i canonical x
steps-plus i e (Single c) = refl
steps-plus i e (CreateAccessors c x s p) = refl
steps-plus i e (ExtractSuperclass d p under) = refl
steps-plus i e (PushUpWithMethods c x) = refl

-- one command on both sides
judged-beside : (i j : ImageOf Name) (c : CommandOf Name) (m n : ImageOf Name) → HasOneMore i j → rules.judged i c ≡ Ok m → rules.judged j c ≡ Ok n → HasOneMore m n
judged-beside i j c m n one o p =
    let both = effect-beside text_asked canonical i one.last c in
    record {
      last = both.last;
      added = sym (made j c n p).1 ∙ ap (effect text_asked canonical c) one.added ∙ both.added ∙ ap (λ k. plus k both.last) (made i c m o).1;
    }

pub admitted : (i : ImageOf Name) (script : _) (h : History) (e : DoItOf Name) → verdict_in i script ≡ Ok h → (a : Admits i script e) →
    HasOneMore h.now.image a.history.now.image × (a.history.now.renaming ≡ h.now.renaming)
admitted i script h e o a =
    let both : AreBeside rules HasOneMore judged-beside
    (λ m n c one. ap (λ k. renaming_of k c) one.added ∙ renaming-plus m one.last c)
    (λ m n x one. ap (λ k. steps_of text_eq k canonical x) one.added ∙ steps-plus m one.last x) h.now a.history.now =
    verdicts-beside rules HasOneMore judged-beside
    (λ m n c one. ap (λ k. renaming_of k c) one.added ∙ renaming-plus m one.last c)
    (λ m n x one. ap (λ k. steps_of text_eq k canonical x) one.added ∙ steps-plus m one.last x)
    i (plus i e) script h a.history (record { last = e; added = refl }) o a.accepted in
    (both.images, both.renamings)
