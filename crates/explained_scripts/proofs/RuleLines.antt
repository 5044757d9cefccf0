-- The lines of what is in the way of a rule, by what is found of it.
use Rattle.std.proofs.Common.{◌≡◌, ◌==◌, ℕ, suc, true, false, true≢false, List, [], ◌∷◌, length, map, Some, None, refl, sym, ap, subst, ◌∙◌, arith}
use Rattle.std.proofs.lemmas.Bool.{eqb-true, eq-eqb}
use Rattle.rb_base.specs.Names.{name_at, HasNoTwice}
use Rattle.event_trees.specs.Naming.{Grows}
use Rattle.scope_model.specs.Control.{is_empty}
use Rattle.image_model.specs.Image.{ImageOf}
use Rattle.query_model.specs.Lines.{Text}
use Rattle.rename_model.specs.CommandWords.{text_command_words}
use Rattle.class_table.specs.Slots.{Slots}
use Rattle.class_table.specs.View.{image_of, number_image}
use Rattle.wider_slots.specs.Closed.{IsClosed}
use Rattle.command_model.specs.Numbers.{number_command_words}
use Rattle.commands.specs.Views.{HasSelf}
use Rattle.pattern_model.specs.Rewritten.{RuleOf}
use Rattle.certificates.specs.Asked.{command_in, IsKnownRule}
use Rattle.certificates.specs.declared.lines.RuleRequest.{RuleRequest}
use Rattle.certified_model.specs.Certificates.{stuck_at}
use Rattle.image_rewriting.specs.Changed.{rule_of, KnowsRule}
use Rattle.image_rewriting.proofs.SameRule.{same-rule, still-known}
use Rattle.rewrite_model.specs.Rewritten.{rewritten_image}
use Rattle.rule_model.specs.RuleCommands.{Reason, rule_judged, first_false_of_rule}
use Rattle.ruled_model.specs.RuledScripts.{ByRule}
use Rattle.refusal_witnesses.specs.Lines.{AreLines}
use Rattle.refusal_witnesses.specs.NameWitnesses.{reflections_there}
use Rattle.refusal_witnesses.specs.ParameterWitnesses.{too_high}
use Rattle.refusal_witnesses.specs.Witnesses.{WitnessOf, AStep}
use Rattle.witness_lists.specs.declared.witness.Witness.{Witness}
use Rattle.witness_lists.specs.declared.witness.Witness.TheVariants as witness
use Rattle.witness_lists.specs.Views.{shown, witness_of}
use Rattle.witness_numbers.specs.MappedWitnesses.{map_witness}
use Rattle.why_model.specs.Reasons.{AreShown}
use Rattle.why_model.specs.Refusals.{alone}
use Rattle.why_model.specs.Explained.{AreLinesOf}
use Rattle.explained_scripts.proofs.AtTexts.{LawAt}
use Rattle.explained_scripts.proofs.RuleReasons.{named-image, reflections-text, by-reflections, by-certificate, by-heights}

-- a list that is mapped is empty exactly if it was
pub mapped-empty : {X Y : Type 0} → (f : X → Y) → (xs : List X) → is_empty (map f xs) ≡ is_empty xs
mapped-empty f [] = refl
mapped-empty f (x ∷ xs) = refl

-- a list of no length is empty, and any other is not
pub empty-by-length : {X : Type 0} → (xs : List X) → (n : ℕ) → n ≡ length xs → (n == 0) ≡ true → is_empty xs ≡ true
empty-by-length [] n len is = refl
empty-by-length (x ∷ xs) n len is =
    let none : n ≡ 0 = eqb-true n 0 is in
    let some : n ≡ suc (length xs) = len in
    absurd (omega (arith, none, some))

pub filled-by-length : {X : Type 0} → (xs : List X) → (n : ℕ) → n ≡ length xs → (n == 0) ≡ false → is_empty xs ≡ false
filled-by-length [] n len is = absurd (true≢false (sym (eq-eqb n 0 len) ∙ is))
filled-by-length (x ∷ xs) n len is = refl

pub nothing-there : {X : Type 0} → (xs : List X) → is_empty xs ≡ true → xs ≡ []
nothing-there [] e = refl
nothing-there (x ∷ xs) e = absurd (cc)

module _ (s : Slots) (law : LawAt s) (has : HasSelf s.names) (request : RuleRequest) (are-shown : AreShown (image_of s) (command_in s.names request) (rule_judged (command_in s.names request) (image_of s))) where
  -- the code that looks at the program itself is found
  abbrev IsFound : List Witness → Type 0
  IsFound found = shown s found ≡ reflections_there (number_command_words s.names) (number_image s)

  -- whether there is any
  found-any : (found : List Witness) → IsFound found → is_empty (reflections_there text_command_words (image_of s)) ≡ is_empty found
  found-any found is =
      ap is_empty (reflections-text s law has)
      ∙ mapped-empty (map_witness (name_at s.names)) (reflections_there (number_command_words s.names) (number_image s))
      ∙ ap is_empty (sym is) ∙ mapped-empty (witness_of s) found

  pub lines-reflections : (found : List Witness) → IsFound found → is_empty found ≡ false → (lines : List Text) → AreLines (image_of s) (map (map_witness (name_at s.names)) (shown s found)) lines
      → (reason : Reason) → first_false_of_rule (command_in s.names request) (image_of s) ≡ Some reason → AreLinesOf (alone (image_of s) (ByRule (command_in s.names request))) reason lines
  lines-reflections found is some lines are reason e =
      by-reflections (image_of s) (command_in s.names request) are-shown lines reason e (found-any found is ∙ some)
      (subst (λ (ws : List (WitnessOf Text)). AreLines (image_of s) ws lines) (ap (map (map_witness (name_at s.names))) is ∙ sym (reflections-text s law has)) are)

  module _ (found : List Witness) (is : IsFound found) (none : is_empty found ≡ true) (p : Slots) (closed : IsClosed s) (rest : p ≡ record s { names = p.names }) (grows : Grows s.names p.names) (once : HasNoTwice p.names) where
    pub lines-certificate : (k : ℕ) → stuck_at (command_in s.names request).certificate (command_in s.names request).rule.pattern (command_in s.names request).rule.replacement ≡ Some k
        → (lines : List Text) → AreLines (image_of p) (map (map_witness (name_at p.names)) (shown p (witness.Step k ∷ []))) lines
        → (reason : Reason) → first_false_of_rule (command_in s.names request) (image_of s) ≡ Some reason → AreLinesOf (alone (image_of s) (ByRule (command_in s.names request))) reason lines
    lines-certificate k stuck lines are reason e =
        by-certificate (image_of s) (command_in s.names request) are-shown lines reason e k (found-any found is ∙ none) stuck
        (subst (λ (i : ImageOf Text). AreLines i (AStep k ∷ []) lines) (named-image s p closed rest grows once) are)

    pub lines-heights : IsKnownRule s.names request → stuck_at (command_in s.names request).certificate (command_in s.names request).rule.pattern (command_in s.names request).rule.replacement ≡ None
        → (lines : List Text) → ((i : ImageOf Text) → AreLines i (too_high (rewritten_image (rule_of p.names request.rule) (image_of p))) lines)
        → (reason : Reason) → first_false_of_rule (command_in s.names request) (image_of s) ≡ Some reason → AreLinesOf (alone (image_of s) (ByRule (command_in s.names request))) reason lines
    lines-heights known stuck lines are reason e =
        by-heights (image_of s) (command_in s.names request) are-shown lines reason e (found-any found is ∙ none) stuck
        (subst (λ (j : ImageOf Text). AreLines (image_of s) (too_high j) lines)
        (ap (λ (r : RuleOf Text). rewritten_image r (image_of p)) (same-rule s.names p.names request.rule grows (record { pattern = known.0; replacement = known.1 }))
        ∙ ap (rewritten_image (rule_of s.names request.rule)) (named-image s p closed rest grows once)) (are (image_of s)))

-- the names of a rule are known among more names
pub known-among : (names later : List Text) (request : RuleRequest) → Grows names later → IsKnownRule names request → KnowsRule later request.rule
known-among names later request grows known = still-known names later request.rule grows (record { pattern = known.0; replacement = known.1 })
