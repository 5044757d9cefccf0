-- Each line says one thing.
use Rattle.std.proofs.Common.{◌≡◌, ℕ, Bool, true, false, true≢false, List, [], ◌∷◌, map, Some, Result, Ok, refl, sym, ap, subst, ◌∙◌}
use Rattle.session_model.specs.Scripts.{Request}
use Rattle.rule_model.specs.RuleCommands.{RuleCommand}
use Rattle.rule_model.specs.RuleLines.{RuleLineSays}
use Rattle.ruled_model.specs.RuledScripts.{Line}
use Rattle.script_model.specs.Makers.{Text}
use Rattle.script_model.specs.Commands.{Cause}
use Rattle.script_model.specs.Additions.{behind_word}
use Rattle.script_model.specs.Scripts.{applies_rule, CommandSays, command_answer, rule_answer, LineSays, OfCommand, OfRule, EachSays, cause_of, IsWrong}

-- what a line says
abbrev pub Answer : Type 0
Answer = Result Line Cause

-- what a line of a command says, and what stands behind the word of a rule
abbrev Plain : Type 0
Plain = Result Request Cause

abbrev Ruled : Type 0
Ruled = Result RuleCommand (Unit {0})

module _ (command-one : (line : Text) (r s : Plain) → CommandSays line r → CommandSays line s → r ≡ s)
    (rule-one : (t : Text) (x y : Ruled) → RuleLineSays t x → RuleLineSays t y → x ≡ y) where
  -- one answer to a line
  pub says-one : (line : Text) (r s : Answer) → LineSays line r → LineSays line s → r ≡ s
  says-one line r s (OfCommand x plain says answer) (OfCommand y too said other) = answer ∙ ap command_answer (command-one line x y says said) ∙ sym other
  says-one line r s (OfCommand x plain says answer) (OfRule y applies said other) = absurd (true≢false (sym applies ∙ plain))
  says-one line r s (OfRule x applies says answer) (OfCommand y plain said other) = absurd (true≢false (sym applies ∙ plain))
  says-one line r s (OfRule x applies says answer) (OfRule y too said other) = answer ∙ ap rule_answer (rule-one (behind_word line) x y says said) ∙ sym other

module _ (command-some : (line : Text) → (r : Plain) × CommandSays line r) (rule-some : (t : Text) → (x : Ruled) × RuleLineSays t x) where
  -- some answer to a line
  pub says-some : (line : Text) → (r : Answer) × LineSays line r
  says-some line = by (applies_rule line) refl
    where
      by : (b : Bool) → applies_rule line ≡ b → (r : Answer) × LineSays line r
      by true applies = let some = rule-some (behind_word line) in (rule_answer some.0, OfRule some.0 applies some.1 refl)
      by false plain = let some = command-some line in (command_answer some.0, OfCommand some.0 plain some.1 refl)

-- where each line says one thing, so do lines
module _ (answer : Text → Answer) (says : (line : Text) → LineSays line (answer line)) (one : (line : Text) (r s : Answer) → LineSays line r → LineSays line s → r ≡ s) where
  pub each-said : (ls : List Text) (rs : List Line) → EachSays ls rs → map answer ls ≡ map {B = Answer} Ok rs
  each-said [] [] each = refl
  each-said [] (r ∷ rs) each = absurd each
  each-said (l ∷ ls) [] each = absurd each
  each-said (l ∷ ls) (r ∷ rs) each = λ i. one l (answer l) (Ok r) (says l) each.0 i ∷ each-said ls rs each.1 i

  pub each-says : (ls : List Text) (rs : List Line) → map answer ls ≡ map {B = Answer} Ok rs → EachSays ls rs
  each-says [] [] e = tt
  each-says [] (r ∷ rs) e = absurd (cc)
  each-says (l ∷ ls) [] e = absurd (cc)
  each-says (l ∷ ls) (r ∷ rs) e =
      let first : answer l ≡ Ok r = cc in
      let rest : map answer ls ≡ map {B = Answer} Ok rs = cc in
      (subst (LineSays l) first (says l), each-says ls rs rest)

  pub wrong-as : (line : Text) (count : ℕ) (cause : Cause) → IsWrong line count cause → cause_of count (answer line) ≡ Some cause
  wrong-as line count cause w = ap (cause_of count) (one line (answer line) w.answer (says line) w.says) ∙ w.wrong
