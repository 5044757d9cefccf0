-- Which single change of an action is refused, and for what reason.
use Rattle.std.proofs.Common.{◌≡◌, ℕ, ◌<◌, suc, Bool, true, false, not, cond, List, [], ◌∷◌, length, map, Option, Some, None, Result, Ok, Err, refl, sym, ap, subst, ◌∙◌}
use Rattle.std.specs.Prelude.{find, is_some, option_map}
use Rattle.std.specs.Option.{option_map_or}
use Rattle.rb_base.specs.Names.{HasNoTwice, name_at}
use Rattle.class_table.specs.Slots.{Slots}
use Rattle.class_table.specs.Valid.{IsOrderly}
use Rattle.class_table.specs.View.{image_of, number_image}
use Rattle.image_model.specs.ImageNames.{ImageNames}
use Rattle.command_model.specs.Located.{Locating}
use Rattle.command_model.specs.Numbers.{number_asked}
use Rattle.command_model.specs.PartsOfText.{parts_of_text}
use Rattle.command_numbers.specs.MappedCommands.{map_command, map_condition}
use Rattle.code_command_numbers.specs.SelfNumber.{IsNumberOfSelf}
use Rattle.commands.specs.Views.{action_of, asked_by, command_of, condition_of, self_in, HasSelf}
use Rattle.commands.specs.declared.command.Action.{Action}
use Rattle.commands.specs.declared.command.Action.TheVariants as action
use Rattle.commands.specs.declared.command.Command.{Command}
use Rattle.commands.specs.declared.condition.Condition.{Condition}
use Rattle.explained_scripts.specs.declared.judging.Refused.{Refused}
use Rattle.explained_scripts.specs.Families.{IsMoving}
use Rattle.explained_scripts.specs.Refused.{command_text, judging_of, reason_text, IsComposite, IsRefusedAction, IsRefusedStep}
use Rattle.explained_scripts.proofs.Moving.{moving}
use Rattle.image_model.specs.Image.{ImageOf, map_image}
use Rattle.query_model.specs.Lines.{Text}
use Rattle.rename_model.specs.ClassRenamed.{canonical}
use Rattle.history_model.specs.Rules.{Perform}
use Rattle.history_model.specs.History.{by_result, after_all, after_action, version_after, appended, stepped}
use Rattle.command_model.specs.Asked.{AskedOf, asked_of_texts, text_asked}
use Rattle.command_model.specs.Commands.{CommandOf}
use Rattle.command_model.specs.Conditions.{ConditionOf, NoReflection, IsUserClass, HasVariable, Unreached}
use Rattle.command_model.specs.Effects.{effect}
use Rattle.command_model.specs.Judged.{first_false, judged}
use Rattle.command_numbers.specs.CommandNames.{CommandNames, ConditionNames}
use Rattle.commands.specs.Actions.{map_action, ActionNames}
use Rattle.image_model.specs.Means.{of_instance}
use Rattle.rename_model.specs.Conditions.{has_no_reflection, has_variable, is_user_class}
use Rattle.session_model.specs.Actions.{ActionOf, Single, CreateAccessors, ExtractSuperclass, PushUpWithMethods}
use Rattle.session_model.specs.OwnConditions.{first_own_false}
use Rattle.session_model.specs.Scripts as plain
use Rattle.session_model.specs.Scripts.{rules}
use Rattle.rule_model.specs.RuleCommands.{Reason, Unmet}
use Rattle.ruled_model.specs.RuledScripts.{Change, Plainly, Acts, Version, ruled, change_judged, changes_of}
use Rattle.why_model.specs.Refusals.{Judging, step_refused, stands_for, alone, composite_refused, action_refused}

-- the first condition of a command that is false refuses it
pub unmet : (i : ImageOf Text) (c : CommandOf Text) (q : ConditionOf Text) → first_false text_asked i c ≡ Some q → change_judged i (Plainly c) ≡ Err (Unmet q)
unmet i c q e =
    ap (λ (o : Option (ConditionOf Text)). by_result {B = Result (ImageOf Text) Reason} (λ (j : ImageOf Text). Ok j) (λ (x : ConditionOf Text). Err (Unmet x)) (option_map_or {U = Result (ImageOf Text) (ConditionOf Text)} (λ x. Err x) o (Ok (effect text_asked canonical c i)))) e

-- a single command that is done in a history makes its image
pub done-single : (h g : plain.History) (c : CommandOf Text) → stepped rules h (Perform (Single c)) ≡ Ok g → change_judged h.now.image (Plainly c) ≡ Ok g.now.image
done-single h g c e = by (judged text_asked canonical h.now.image c) e
  where
    by : (o : Result (ImageOf Text) (ConditionOf Text))
        → by_result (λ (v : plain.Version). Ok (appended rules h v)) (λ (q : ConditionOf Text). Err q) (by_result (λ (j : ImageOf Text). Ok (version_after rules h.now c j)) (λ (q : ConditionOf Text). Err q) o) ≡ Ok g
        → by_result {B = Result (ImageOf Text) Reason} (λ (j : ImageOf Text). Ok j) (λ (q : ConditionOf Text). Err (Unmet q)) o ≡ Ok g.now.image
    by (Ok j) f =
        let same : appended rules h (version_after rules h.now c j) ≡ g = cc in
        ap (λ (k : plain.History). Ok k.now.image) same
    by (Err q) f = absurd (cc)

-- a step that is refused, and one that is done
pub step-here : (i : ImageOf Text) (k : ℕ) (c : Change) (cs : List Change) (reason : Reason) → change_judged i c ≡ Err reason → step_refused i k (c ∷ cs) ≡ Some (record { image = i; change = c; step = Some k })
step-here i k c cs reason e =
    ap (λ o. by_result {B = Option Judging} (λ (j : ImageOf Text). step_refused j (suc k) cs) (λ (q : Reason). Some (record { image = i; change = c; step = Some k })) o) e

pub step-done : (i j : ImageOf Text) (k : ℕ) (c : Change) (cs : List Change) → change_judged i c ≡ Ok j → step_refused i k (c ∷ cs) ≡ step_refused j (suc k) cs
step-done i j k c cs e =
    ap (λ o. by_result {B = Option Judging} (λ (x : ImageOf Text). step_refused x (suc k) cs) (λ (q : Reason). Some (record { image = i; change = c; step = Some k })) o) e

-- the reason of the step that is refused is the only one
same-step : (v : Version) (k : ℕ) (steps : List Change) (j : Judging) (one other : Reason) → step_refused v.image k steps ≡ Some j → change_judged j.image j.change ≡ Err one → after_all ruled v steps ≡ Err other → other ≡ one
same-step v k [] j one other found refused e = absurd (cc)
same-step v k (c ∷ cs) j one other found refused e = by (change_judged v.image c) refl (λ w n. same-step w n cs j one other) found e
  where
    here : Judging
    here = record { image = v.image; change = c; step = Some k }

    by : (o : Result (ImageOf Text) Reason) → change_judged v.image c ≡ o
        → ((w : Version) (n : ℕ) → step_refused w.image n cs ≡ Some j → change_judged j.image j.change ≡ Err one → after_all ruled w cs ≡ Err other → other ≡ one)
        → by_result (λ (x : ImageOf Text). step_refused x (suc k) cs) (λ (q : Reason). Some here) o ≡ Some j
        → by_result (λ (x : ImageOf Text). after_all ruled (version_after ruled v c x) cs) (λ (q : Reason). Err q) o ≡ Err other → other ≡ one
    by (Ok x) is rest f g = rest (version_after ruled v c x) (suc k) f refused g
    by (Err q) is rest f g =
        let at : here ≡ j = cc in
        let told : q ≡ other = cc in
        let both : ◌≡◌ {A = Result (ImageOf Text) Reason} (Err q) (Err one) = sym is ∙ ap (λ (x : Judging). change_judged x.image x.change) at ∙ refused in
        let same : q ≡ one = cc in
        sym told ∙ same

-- the reason of an action that has no false condition of its own
module _ (i : ImageOf Text) (x : ActionOf Text) (j : Judging) (one : Reason) (own : first_own_false text_asked i x ≡ None)
    (found : step_refused i 1 (changes_of i (Acts x)) ≡ Some j) (refused : change_judged j.image j.change ≡ Err one) where
  pub only-step : (v : Version) (other : Reason) → v.image ≡ i → after_action ruled v (Acts x) ≡ Err other → other ≡ one
  only-step v other at e =
      same-step v 1 (changes_of v.image (Acts x)) j one other (ap (λ k. step_refused k 1 (changes_of k (Acts x))) at ∙ found) refused
      (sym (ap (λ o. option_map_or {U = Result Version Reason} (λ (q : Reason). Err q) o (after_all ruled v (changes_of v.image (Acts x)))) (ap (option_map Unmet) (ap (λ k. first_own_false text_asked k x) at ∙ own))) ∙ e)

  pub step-composite : action_refused i (Acts x) ≡ composite_refused i x → action_refused i (Acts x) ≡ Some j
  step-composite is = is ∙ ap (λ (o : Option (ConditionOf Text)). cond (is_some o) (Some (alone i (Plainly (stands_for x)))) (step_refused i 1 (changes_of i (Acts x)))) own ∙ found

-- the reason of an action that has one
module _ (i : ImageOf Text) (x : ActionOf Text) (q : ConditionOf Text) (own : first_own_false text_asked i x ≡ Some q) where
  pub only-own : (v : Version) (other : Reason) → v.image ≡ i → after_action ruled v (Acts x) ≡ Err other → other ≡ Unmet q
  only-own v other at e =
      let both : ◌≡◌ {A = Result Version Reason} (Err (Unmet q)) (Err other) =
      sym (ap (λ o. option_map_or {U = Result Version Reason} (λ (r : Reason). Err r) o (after_all ruled v (changes_of v.image (Acts x)))) (ap (option_map Unmet) (ap (λ k. first_own_false text_asked k x) at ∙ own))) ∙ e in
      let same : Unmet q ≡ other = cc in
      sym same

  pub own-composite : action_refused i (Acts x) ≡ composite_refused i x → action_refused i (Acts x) ≡ Some (alone i (Plainly (stands_for x)))
  own-composite is = is ∙ ap (λ (o : Option (ConditionOf Text)). cond (is_some o) (Some (alone i (Plainly (stands_for x)))) (step_refused i 1 (changes_of i (Acts x)))) own

-- the reason of a single command
pub only-single : (i : ImageOf Text) (c : CommandOf Text) (q : ConditionOf Text) → first_false text_asked i c ≡ Some q → (v : Version) (other : Reason) → v.image ≡ i → after_action ruled v (Acts (Single c)) ≡ Err other → other ≡ Unmet q
only-single i c q e v other at f =
    let both : ◌≡◌ {A = Result Version Reason} (Err (Unmet q)) (Err other) =
    sym (ap (λ o. by_result {B = Result Version Reason} (λ (j : ImageOf Text). Ok (version_after ruled v (Plainly c) j)) (λ (r : Reason). Err r) o) (unmet v.image c q (ap (λ k. first_false text_asked k c) at ∙ e))) ∙ f in
    let same : Unmet q ≡ other = cc in
    sym same

-- a composite is judged as one
pub is-composite : (i : ImageOf Text) (x : ActionOf Text) → ((c : CommandOf Text) → x ≡ Single c → ⊥) → action_refused i (Acts x) ≡ composite_refused i x
is-composite i (Single c) other = absurd (other c refl)
is-composite i (CreateAccessors c x setter given) other = refl
is-composite i (ExtractSuperclass d p under) other = refl
is-composite i (PushUpWithMethods c x) other = refl

-- the first false condition of a command over texts, and what it says of the command
abbrev pub FirstLaw : Type 0
FirstLaw = (names : List (List ℕ)) (self_number : ℕ) (part_of : Locating) (i : ImageOf ℕ) (command : CommandOf ℕ) → HasNoTwice names → IsNumberOfSelf names self_number →
    ImageNames (λ n. n < length names) i → CommandNames (λ n. n < length names) command →
    first_false (asked_of_texts part_of) (map_image (name_at names) i) (map_command (name_at names) command) ≡ option_map (map_condition (name_at names)) (first_false (number_asked names self_number part_of) i command)

module _ (law : FirstLaw) (s : Slots) (orderly : IsOrderly s) (has : HasSelf s.names) (c : Command) (known : CommandNames (λ n. n < length s.names) (command_of c)) (q : Condition)
    (found : option_map condition_of (Some q) ≡ first_false (asked_by s.names) (number_image s) (command_of c)) where
  pub first-text : first_false text_asked (image_of s) (command_text s c) ≡ Some (map_condition (name_at s.names) (condition_of q))
  first-text =
      law s.names (self_in s.names) parts_of_text (number_image s) (command_of c) orderly.names_distinct (record { known = has.0; spelled = has.1 }) orderly.names_known known
      ∙ ap (option_map (map_condition (name_at s.names))) (sym found)

  pub moving-there : IsMoving s (command_of c) (condition_of q)
  moving-there = by (condition_of q) (sym found)
    where
      by : (x : ConditionOf ℕ) → first_false (asked_by s.names) (number_image s) (command_of c) ≡ Some x → IsMoving s (command_of c) x
      by (Unreached t) e = moving (asked_by s.names) (number_image s) (command_of c) t e
      by other e = tt

  -- a single command is refused so
  pub refused-single : ConditionNames (λ n. n < length s.names) (condition_of q) → IsRefusedAction (image_of s) (Single (command_text s c)) s (record { command = c; condition = q; step = None })
  refused-single named = record {
    found = refl;
    only = only-single (image_of s) (command_text s c) (map_condition (name_at s.names) (condition_of q)) first-text;
    known = record { command = known; condition = named };
    moving = moving-there;
  }

  -- a step is refused so
  pub refused-step : ConditionNames (λ n. n < length s.names) (condition_of q) → (i : ImageOf Text) (all : List Change) (k : ℕ) (rest : List Change) → step_refused (image_of s) k (Plainly (command_text s c) ∷ rest) ≡ step_refused i 1 all
      → IsRefusedStep i 1 all s (record { command = c; condition = q; step = Some k })
  refused-step named i all k rest left = record {
    found = sym left ∙ step-here (image_of s) k (Plainly (command_text s c)) rest (Unmet (map_condition (name_at s.names) (condition_of q))) here;
    refused = here;
    known = record { command = known; condition = named };
    moving = moving-there;
  }
    where
      here : change_judged (image_of s) (Plainly (command_text s c)) ≡ Err (Unmet (map_condition (name_at s.names) (condition_of q)))
      here = unmet (image_of s) (command_text s c) (map_condition (name_at s.names) (condition_of q)) first-text

-- of an action whose steps are judged
pub refused-by-step : (i : ImageOf Text) (x : ActionOf Text) (s : Slots) (r : Refused) → action_refused i (Acts x) ≡ composite_refused i x → first_own_false text_asked i x ≡ None → (steps : List Change) → steps ≡ changes_of i (Acts x) → IsRefusedStep i 1 steps s r → IsRefusedAction i x s r
refused-by-step i x s r composite own steps are step =
    let found = subst (λ (cs : List Change). step_refused i 1 cs ≡ Some (judging_of s r)) are step.found in
    record {
      found = step-composite i x (judging_of s r) (reason_text s r.condition) own found step.refused composite;
      only = only-step i x (judging_of s r) (reason_text s r.condition) own found step.refused;
      known = step.known;
      moving = step.moving;
    }

-- a condition that a composite has of its own speaks of its names, and is not `Unreached`
abbrev pub IsOwn : (ℕ → Type 0) → ConditionOf ℕ → Type 0
IsOwn P q = ConditionNames P q × ((s : Slots) (c : CommandOf ℕ) → IsMoving s c q)

module _ (a : AskedOf ℕ) (i : ImageOf ℕ) (P : ℕ → Type 0) where
  pub own-named : (x : ActionOf ℕ) → ActionNames P x → (q : ConditionOf ℕ) → first_own_false a i x ≡ Some q → IsOwn P q
  own-named (Single c) named q e = absurd (cc)
  own-named (CreateAccessors c x setter given) named q e = by (has_no_reflection a.command_words i) (is_user_class a.words.tests.same i c) (has_variable a.words.tests.same i of_instance c x) e
    where
      by : (b d f : Bool) → option_map (λ (j : ConditionOf ℕ × Bool). j.0) (find (λ (j : ConditionOf ℕ × Bool). not j.1) ((NoReflection, b) ∷ (IsUserClass c, d) ∷ (HasVariable c x, f) ∷ [])) ≡ Some q → IsOwn P q
      by false d f g =
          let same : ◌≡◌ {A = ConditionOf ℕ} NoReflection q = cc in
          subst (IsOwn P) same (tt, λ s k. tt)
      by true false f g =
          let same : IsUserClass c ≡ q = cc in
          subst (IsOwn P) same (named.0, λ s k. tt)
      by true true false g =
          let same : HasVariable c x ≡ q = cc in
          subst (IsOwn P) same ((named.0, named.1), λ s k. tt)
      by true true true g = absurd (cc)
  own-named (ExtractSuperclass d p under) named q e = only-one (has_no_reflection a.command_words i) q e
    where
      only-one : (b : Bool) (q : ConditionOf ℕ) → option_map (λ (j : ConditionOf ℕ × Bool). j.0) (find (λ (j : ConditionOf ℕ × Bool). not j.1) ((NoReflection, b) ∷ [])) ≡ Some q → IsOwn P q
      only-one false q g =
          let same : ◌≡◌ {A = ConditionOf ℕ} NoReflection q = cc in
          subst (IsOwn P) same (tt, λ s k. tt)
      only-one true q g = absurd (cc)
  own-named (PushUpWithMethods c x) named q e = only-one (has_no_reflection a.command_words i) q e
    where
      only-one : (b : Bool) (q : ConditionOf ℕ) → option_map (λ (j : ConditionOf ℕ × Bool). j.0) (find (λ (j : ConditionOf ℕ × Bool). not j.1) ((NoReflection, b) ∷ [])) ≡ Some q → IsOwn P q
      only-one false q g =
          let same : ◌≡◌ {A = ConditionOf ℕ} NoReflection q = cc in
          subst (IsOwn P) same (tt, λ s k. tt)
      only-one true q g = absurd (cc)

-- a composite is refused so
pub refused-own : (s : Slots) (x : ActionOf ℕ) (c : Command) (q : Condition) → ActionNames (λ n. n < length s.names) x → CommandNames (λ n. n < length s.names) (command_of c) → command_text s c ≡ stands_for (map_action (name_at s.names) x)
    → action_refused (image_of s) (Acts (map_action (name_at s.names) x)) ≡ composite_refused (image_of s) (map_action (name_at s.names) x)
    → first_own_false (asked_by s.names) (number_image s) x ≡ Some (condition_of q) → first_own_false text_asked (image_of s) (map_action (name_at s.names) x) ≡ Some (map_condition (name_at s.names) (condition_of q))
    → IsRefusedAction (image_of s) (map_action (name_at s.names) x) s (record { command = c; condition = q; step = None })
refused-own s x c q named known stands composite numbers texts =
    let own = own-named (asked_by s.names) (number_image s) (λ n. n < length s.names) x named (condition_of q) numbers in
    record {
      found = own-composite (image_of s) (map_action (name_at s.names) x) (map_condition (name_at s.names) (condition_of q)) texts composite ∙ ap (λ (k : CommandOf Text). Some (alone (image_of s) (Plainly k))) (sym stands);
      only = only-own (image_of s) (map_action (name_at s.names) x) (map_condition (name_at s.names) (condition_of q)) texts;
      known = record { command = known; condition = own.0 };
      moving = own.1 s (command_of c);
    }

-- no composite is a single command
pub no-single : (f : ℕ → Text) (x : Action) → IsComposite x → (c : CommandOf Text) → map_action f (action_of x) ≡ Single c → ⊥
no-single f (action.Single k) h c e = h
no-single f (action.CreateAccessors d x setter given) h c e = cc
no-single f (action.ExtractSuperclass n) h c e = cc
no-single f (action.PushUpWithMethods d x) h c e = cc

-- the steps of a composite
pub steps-are : (s : Slots) (cs : List Command) → map (λ (c : Command). Plainly (command_text s c)) cs ≡ map (λ (c : CommandOf Text). Plainly c) (map (λ (c : Command). map_command (name_at s.names) (command_of c)) cs)
steps-are s [] = refl
steps-are s (c ∷ cs) = ap (λ xs. Plainly (command_text s c) ∷ xs) (steps-are s cs)
