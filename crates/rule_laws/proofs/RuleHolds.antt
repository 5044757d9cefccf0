-- Where no condition of the command is false, each holds.
use Rattle.std.proofs.Common.{◌≡◌, Bool, true, false, not, [], ◌∷◌, find, Option, Some, None, refl}
use Rattle.std.specs.Option.{option_map_or}
use Rattle.image_model.specs.Image.{ImageOf}
use Rattle.certified_model.specs.Marks.{Text}
use Rattle.certified_model.specs.Certificates.{derives}
use Rattle.rename_model.specs.CommandWords.{text_command_words}
use Rattle.rename_model.specs.Conditions.{has_no_reflection}
use Rattle.command_model.specs.Conditions.{NoReflection, Shallow}
use Rattle.command_model.specs.ParameterConditions.{is_shallow}
use Rattle.rule_model.specs.RuleCommands.{RuleCommand, Reason, Unmet, Derived, rule_effect, first_false_of_rule}

pub record RuleHolds (c : RuleCommand) (i : ImageOf Text) : Type 0 where
  pub no_reflection : has_no_reflection text_command_words i ≡ true
  pub derived : derives c.certificate c.rule.pattern c.rule.replacement ≡ true
  pub shallow : is_shallow (rule_effect c i) ≡ true

-- of three conditions
abbrev first_of : (p q r : Reason) (a b c : Bool) → Option Reason
first_of p q r a b c = option_map_or (λ (j : Reason × Bool). Some j.0) (find (λ (j : Reason × Bool). not j.1) ((p, a) ∷ (q, b) ∷ (r, c) ∷ [])) None

all_three : (p q r : Reason) (a b c : Bool) → first_of p q r a b c ≡ None → (a ≡ true) × (b ≡ true) × (c ≡ true)
all_three p q r false b c e = let bad : ⊥ = cc in absurd bad
all_three p q r true false c e = let bad : ⊥ = cc in absurd bad
all_three p q r true true false e = let bad : ⊥ = cc in absurd bad
all_three p q r true true true e = (refl, refl, refl)

pub rule_holds : (c : RuleCommand) (i : ImageOf Text) → first_false_of_rule c i ≡ None → RuleHolds c i
rule_holds c i e =
    let h = all_three (Unmet NoReflection) (Derived c.certificate) (Unmet Shallow) (has_no_reflection text_command_words i) (derives c.certificate c.rule.pattern c.rule.replacement) (is_shallow (rule_effect c i)) e in
    record { no_reflection = h.0; derived = h.1; shallow = h.2 }
