use Rattle.std.proofs.Common.{List, ℕ, IsTrue, map, sym, ap, subst, ◌∙◌}
use Rattle.std.specs.List.{list_all}
use Rattle.rb_base.specs.Names.{name_at}
use Rattle.command_numbers.specs.MappedCommands.{map_condition}
use Rattle.commands.specs.Views.{condition_of}
use Rattle.certificates.specs.Shown.{step_shown}
use Rattle.rule_model.specs.RuleCommands.{Unmet, Derived}
use Rattle.ruled_model.specs.RuledScripts.{History}
use Rattle.session.specs.History.{history_of}
use Rattle.session.specs.Refused.{group_told}
use Rattle.session.proofs.SelfGrown.{self-grown}
use Rattle.team_core.specs.History.{Group, moved, Moves}
use Rattle.session_book.specs.Shared.{Shared, book_of, book_rules, fits_in, shared_history}
use Rattle.session_book.proofs.Sharing.{all-fit, condition-named, group-done, group-refused}
use Rattle.session_book.proofs.book.SessionBookBook.group.Goals.{in-Ok, in-Err-Condition, in-Err-NotDerived, in-Err-Memory}
use Rattle.session_book.proofs.book.SessionBookBook.group.Goals as goal

pub step_all-requires-clause-known : goal.step_all-requires-clause-known
step_all-requires-clause-known g c =
    all-fit c.self.inside.image.names c.args.commands.now (subst (λ (b : Shared). IsTrue (list_all (fits_in b.image.names) c.args.commands.now)) (sym c.self.view_is) c.requires)

pub invariant_of-self : goal.invariant_of-self
invariant_of-self g c = (c.step_all.ensures.log, self-grown c.self.inside.image.names c.step_all.new.image.names c.self.invariant.1 c.step_all.ensures.names)

pub returns-clause-moves : goal.returns-clause-moves
returns-clause-moves g c =
    let v = c.self.inside in
    let after : Shared = record { image = c.step_all.new.image; log = c.step_all.new.self } in
    let names : List (List ℕ) = c.step_all.new.image.names in
    let h : History = history_of v.image v.session in
    let k : History = history_of c.step_all.new.image c.step_all.new.self in
    subst (λ (b : Shared). Moves (moved (book_rules b.image.names) (shared_history b) (Group c.args.commands.now)) (shared_history b) c.match-step_all.result (shared_history after)) c.self.view_is (
    elim c.match-step_all.branch [
      | in-Ok w ↦
          rw w.result-is (group-done v.image.names h k c.args.commands.now w.in-Ok.ensures.done)
      | in-Err-Condition w ↦
          let reason = Unmet (map_condition (name_at names) (condition_of w.in-Err-Condition.condition)) in
          rw w.result-is (
          group-refused v.image.names h k c.args.commands.now w.in-Err-Condition.ensures.same w.unmet.result w.in-Err-Condition.nth reason
          (w.in-Err-Condition.ensures.refused (w.in-Err-Condition.nth, reason) (ap (group_told names) w.in-Err-Condition.field-0-is))
          (λ m q e. let told = w.unmet.ensures m q e in
          (told.0, told.1 ∙ condition-named w.in-Err-Condition.condition w.names.result.now names w.names.ensures)))
      | in-Err-NotDerived w ↦
          let reason = Derived (map step_shown w.in-Err-NotDerived.certificate.now.steps.items) in
          rw w.result-is (
          group-refused v.image.names h k c.args.commands.now w.in-Err-NotDerived.ensures.same w.underived.result w.in-Err-NotDerived.nth reason
          (w.in-Err-NotDerived.ensures.refused (w.in-Err-NotDerived.nth, reason) (ap (group_told names) w.in-Err-NotDerived.field-0-is))
          w.underived.ensures)
      | in-Err-Memory w ↦
          rw w.result-is (ap book_of w.in-Err-Memory.ensures.same)
    ])
