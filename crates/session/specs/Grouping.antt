-- What becomes of a group of what is asked for.
use Rattle.std.specs.Prelude.{◌≡◌, ℕ, ◌+◌, List, [], ◌∷◌, Result, Ok, Err, IfErr, OnOk}
use Rattle.rb_base.specs.Names.{name_at}
use Rattle.run_model.specs.Values.{Name}
use Rattle.run_model.specs.Renamings.{Renaming}
use Rattle.class_table.specs.Slots.{Slots}
use Rattle.history_model.specs.History.{after_action, appended, by_result}
use Rattle.command_numbers.specs.MappedCommands.{map_condition}
use Rattle.session_model.specs.Actions.{ActionOf}
use Rattle.session_model.specs.Scripts.{rules}
use Rattle.rule_model.specs.RuleCommands.{Reason}
use Rattle.ruled_model.specs.RuledScripts.{Asked, Version, History, ruled}
use Rattle.commands.specs.Views.{condition_of}
use Rattle.commands.specs.declared.condition.Condition.{Condition}
use Rattle.reference_index.specs.Mentioned.{Mentioned}
use Rattle.session.specs.Log.{Done}
use Rattle.session.specs.History.{version_behind}
use Rattle.session.specs.Stepping.{IsUnderWay}
use Rattle.session.specs.declared.refusal.StepRefusal.{StepRefusal}
use Rattle.session.specs.declared.refusal.StepRefusal.TheVariants as refusal

-- What is asked for in order, each judged in the version after those before it, and the first of them has this number; the first one that is refused refuses all, with its number.
abbrev pub after_group : ℕ → Version → List Asked → Result Version (ℕ × Reason)
after_group n v [] = Ok v
after_group n v (a ∷ more) = by_result (λ w. after_group (n + 1) w more) (λ q. Err (n, q)) (after_action ruled v a)

-- the history after what is one entry of it; nothing that is asked for is none
abbrev pub grouped : History → List Asked → Result History (ℕ × Reason)
grouped h [] = Ok h
grouped h (a ∷ more) = by_result (λ v. Ok (appended ruled h v)) (λ r. Err r) (after_group 1 h.now (a ∷ more))

-- the version after what is asked for, which has this number
abbrev pub after_nth : ℕ → Asked → Version → Result Version (ℕ × Reason)
after_nth n a v = by_result (λ w. Ok w) (λ q. Err (n, q)) (after_action ruled v a)

-- What an action makes of slots, their index and what was done before. If it is done it makes that version; and a condition that refuses it is the one that is false.
pub record IsActedOut (s : Slots) (x : Mentioned) (d : Done) (action : ActionOf Name) (t : Slots) (y : Mentioned) (e : Done) (result : Result (Unit {0}) StepRefusal) : Type 0 where
  pub under_way : (first : Slots) → IsUnderWay first s x d → IsUnderWay first t y e
  pub names : t.names ≡ s.names
  pub done : OnOk result ((r : Renaming) → after_action rules (version_behind s r d.commands) action ≡ Ok (version_behind t r e.commands))
  pub refused : IfErr result (λ q. (c : Condition) → q ≡ refusal.Condition c → (r : Renaming) → after_action rules (version_behind s r d.commands) action ≡ Err (map_condition (name_at s.names) (condition_of c)))
