-- What a log proposes is well spelled.
use Rattle.std.proofs.Common.{◌≡◌, Bool, true, false, if◌then◌else◌, List, [], ◌∷◌, Option, Some, None, Result, Ok, Err, refl, sym, subst, ◌∙◌, codes}
use Rattle.std.specs.List.{AllByRecursion}
use Rattle.rb_base.specs.Names.{text_eq}
use Rattle.history_model.specs.Rules.{Perform, Undo, Redo}
use Rattle.rewrite_model.specs.Saying.{SaysRule}
use Rattle.rule_model.specs.RuleCommands.{RuleCommand}
use Rattle.rule_laws.specs.KeptRules.{IsSpelledRule}
use Rattle.ruled_model.specs.RuledScripts.{Line}
use Rattle.ruled_laws.specs.SpelledRequests.{IsSpelledAsked}
use Rattle.team_core.specs.Events as model
use Rattle.script_model.specs.Makers.{Text}
use Rattle.script_model.specs.Commands.{Cause}
use Rattle.script_model.specs.Scripts.{Says}
use Rattle.script_model.specs.Lines.{lines_of, spoken}
use Rattle.apply_laws.proofs.SpelledRequests.{requests-spelled}
use Rattle.log_model.specs.Events.{Act, Event, is_blank_text, proposing, ActSays, Alone, Proposes, ProposesWrong, NoAct, done_by, EventSays, NoSession, Wordless, Does, EachSays, LogSays}
use Rattle.play_laws.proofs.Scripted as made

abbrev IsSpelled : Act → Type 0
IsSpelled a = made.Proposes IsSpelledAsked a

abbrev ActAnswer : Type 0
ActAnswer = Result Act Cause

abbrev Answer : Type 0
Answer = Result Event Cause

-- a word that stands alone proposes nothing
lone-by : (a b c d : Bool) (act : Act) → (let o : Option Act = if a then Some model.Begin else if b then Some model.Commit else if c then Some model.Undo else if d then Some model.Redo else None in o) ≡ Some act → IsSpelled act
lone-by true b c d act e = let same : model.Begin ≡ act = cc in subst IsSpelled same tt
lone-by false true c d act e = let same : model.Commit ≡ act = cc in subst IsSpelled same tt
lone-by false false true d act e = let same : model.Undo ≡ act = cc in subst IsSpelled same tt
lone-by false false false true act e = let same : model.Redo ≡ act = cc in subst IsSpelled same tt
lone-by false false false false act e = absurd (cc)

alone-by : (blank : Bool) (act a : Act) (cause : Cause) → (let o : ActAnswer = if blank then Ok act else Err cause in o) ≡ Ok a → IsSpelled act → IsSpelled a
alone-by true act a cause e h = let same : act ≡ a = cc in subst IsSpelled same h
alone-by false act a cause e h = absurd (cc)

module _ (said-rule : (first second : Text) (c : RuleCommand) → SaysRule first second c.rule → IsSpelledRule c) where
  proposing-by : (behind : Text) (requests : List Line) (a : Act) → Says behind requests → proposing requests ≡ Ok a → IsSpelled a
  proposing-by behind [] a says e = absurd (cc)
  proposing-by behind (Perform x ∷ []) a says e =
      let same : model.Propose x ≡ a = cc in
      subst IsSpelled same (requests-spelled said-rule behind (Perform x ∷ []) says).0
  proposing-by behind (Perform x ∷ r ∷ rs) a says e = absurd (cc)
  proposing-by behind (Undo ∷ rs) a says e = absurd (cc)
  proposing-by behind (Redo ∷ rs) a says e = absurd (cc)

  act-spelled : (w behind : Text) (answer : ActAnswer) (a : Act) → ActSays w behind answer → answer ≡ Ok a → IsSpelled a
  act-spelled w behind answer a (Alone act differs is says) e =
      alone-by (is_blank_text behind) act a _ (sym says ∙ e) (lone-by (text_eq w (codes "begin")) (text_eq w (codes "commit")) (text_eq w (codes "undo")) (text_eq w (codes "redo")) act is)
  act-spelled w behind answer a (Proposes requests is_word asks says) e = proposing-by behind requests a asks (sym says ∙ e)
  act-spelled w behind answer a (ProposesWrong n c is_word wrong says) e = absurd (let bad : ◌≡◌ {A = ActAnswer} (Err c) (Ok a) = sym says ∙ e in cc)
  act-spelled w behind answer a (NoAct differs none says) e = absurd (let bad = sym says ∙ e in cc)

  done-spelled : (session : _) (o : ActAnswer) (e : Event) → done_by session o ≡ Ok e → ((a : Act) → o ≡ Ok a → IsSpelled a) → IsSpelled e.act
  done-spelled session (Ok a) e is spelled =
      let whose : ◌≡◌ {A = Event} (record { session = session; act = a }) e = cc in
      subst (λ (x : Event). IsSpelled x.act) whose (spelled a refl)
  done-spelled session (Err c) e is spelled = absurd (cc)

  event-spelled : (line : Text) (answer : Answer) (e : Event) → EventSays line answer → answer ≡ Ok e → IsSpelled e.act
  event-spelled line answer e (NoSession none says) is = absurd (let bad = sym says ∙ is in cc)
  event-spelled line answer e (Wordless n whose blank says) is = absurd (let bad = sym says ∙ is in cc)
  event-spelled line answer e (Does n o whose words act says) is = done-spelled n o e (sym says ∙ is) (λ a same. act-spelled _ _ o a act same)

  lines-spelled : (ls : List Text) (es : List Event) → EachSays ls es → AllByRecursion (λ (e : Event). IsSpelled e.act) es
  lines-spelled [] [] each = tt
  lines-spelled [] (e ∷ es) each = absurd each
  lines-spelled (l ∷ ls) [] each = absurd each
  lines-spelled (l ∷ ls) (e ∷ es) each = (event-spelled l (Ok e) e each.0 refl, lines-spelled ls es each.1)

  pub log-spelled : (log : Text) (es : List Event) → LogSays log es → AllByRecursion (λ (e : Event). made.Proposes IsSpelledAsked e.act) es
  log-spelled log es says = lines-spelled (spoken (lines_of log)) es says.each
