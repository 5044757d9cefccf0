-- The image after a command matches the one before, by the law of each.
use Rattle.std.proofs.Common.{◌≡◌, ℕ, Bool, None, subst, sym}
use Rattle.image_model.specs.Image.{ImageOf}
use Rattle.run_model.specs.Values.{Name}
use Rattle.run_model.specs.Matched.{AreMatched}
use Rattle.rename_model.specs.ClassRenamed.{canonical}
use Rattle.command_model.specs.Accessors.{setter_selector, setter_argument}
use Rattle.command_model.specs.Asked.{text_asked}
use Rattle.command_model.specs.Commands.{CommandOf, AbstractInstVar, ExtractMethod, InlineMethod, ExtractTemp, InlineTemp, MovesNoCode}
use Rattle.command_model.specs.Effects.{effect}
use Rattle.command_model.specs.Judged.{first_false}
use Rattle.command_model.specs.Renamings.{renaming_of}
use Rattle.moved_code_laws.specs.AccessorNames.{AreAccessorNames}
use Rattle.kept_runs.specs.WellSpelled.{HasItsSetter}

-- the two images of a command match each other up to what it renames
abbrev Matches : ImageOf Name → CommandOf Name → Type 0
Matches i command = AreMatched i (effect text_asked canonical command i) (renaming_of i command)

module _ (i : ImageOf Name) (still : (command : CommandOf Name) → MovesNoCode command → first_false text_asked i command ≡ None → Matches i command)
    (abstracted : (c x setter given : Name) → first_false text_asked i (AbstractInstVar c x setter given) ≡ None → AreAccessorNames x setter given → Matches i (AbstractInstVar c x setter given))
    (names : (x : Name) → AreAccessorNames x (setter_selector x) (setter_argument x))
    (extracted : (c : Name) (meta : Bool) (s : Name) (from to : ℕ) (t : Name) → first_false text_asked i (ExtractMethod c meta s from to t) ≡ None → Matches i (ExtractMethod c meta s from to t))
    (inlined : (c : Name) (meta : Bool) (s : Name) (from to : ℕ) → first_false text_asked i (InlineMethod c meta s from to) ≡ None → Matches i (InlineMethod c meta s from to))
    (let_out : (c : Name) (meta : Bool) (s : Name) (from to : ℕ) (x : Name) → first_false text_asked i (ExtractTemp c meta s from to x) ≡ None → Matches i (ExtractTemp c meta s from to x))
    (let_in : (c : Name) (meta : Bool) (s x : Name) → first_false text_asked i (InlineTemp c meta s x) ≡ None → Matches i (InlineTemp c meta s x)) where
  pub effect-matched : (command : CommandOf Name) → HasItsSetter command → first_false text_asked i command ≡ None → Matches i command
  effect-matched (AbstractInstVar c x setter given) has none =
      abstracted c x setter given none (subst (λ s. AreAccessorNames x s given) (sym has.selector) (subst (λ p. AreAccessorNames x (setter_selector x) p) (sym has.parameter_is) (names x)))
  effect-matched (ExtractMethod c meta s from to t) has none = extracted c meta s from to t none
  effect-matched (InlineMethod c meta s from to) has none = inlined c meta s from to none
  effect-matched (ExtractTemp c meta s from to x) has none = let_out c meta s from to x none
  effect-matched (InlineTemp c meta s x) has none = let_in c meta s x none
  effect-matched command has none = still command tt none
