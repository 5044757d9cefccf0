-- What a step makes of the slots of an image and its log.
use Rattle.std.specs.Prelude.{◌≡◌, List, length, Result, Ok, Err, IfErr, OnOk, OnErr}
use Rattle.rb_base.specs.Names.{name_at}
use Rattle.run_model.specs.Values.{Name}
use Rattle.run_model.specs.Renamings.{Renaming}
use Rattle.class_table.specs.Slots.{Slots}
use Rattle.class_table.specs.Valid.{IsOrderly}
use Rattle.wider_slots.specs.Closed.{IsClosed}
use Rattle.wider_slots.specs.Wider.{Wider}
use Rattle.history_model.specs.History.{after_all, appended, by_result}
use Rattle.command_model.specs.Commands.{CommandOf}
use Rattle.command_model.specs.Conditions.{ConditionOf}
use Rattle.command_numbers.specs.MappedCommands.{map_condition}
use Rattle.session_model.specs.Scripts.{History, rules}
use Rattle.commands.specs.Views.{condition_of}
use Rattle.commands.specs.declared.condition.Condition.{Condition}
use Rattle.reference_index.specs.Mentioned.{Mentioned, IsIndexOf, DiffersAtMost}
use Rattle.session.specs.Log.{Done, Log, taken_back, CanGoBack, CommandsKnown, IsLogOf}
use Rattle.session.specs.History.{version_behind, history_of}
use Rattle.session.specs.declared.refusal.StepRefusal.{StepRefusal}
use Rattle.session.specs.declared.refusal.StepRefusal.TheVariants as refusal

-- these commands were done one after the other: they lead back from the slots to the first ones with room, and what they rename has texts
pub record IsUnderWay (s t : Slots) (index : Mentioned) (d : Done) : Type 0 where
  pub closed : IsClosed t
  pub orderly : IsOrderly t
  pub index_of : IsIndexOf t index
  pub back : CanGoBack t d.commands
  pub known : CommandsKnown (length t.names) d.commands
  pub room : Wider s (taken_back t d.commands)
  pub touched : DiffersAtMost t (taken_back t d.commands) d.touched

-- What commands one after the other make of slots, their index and what was done before. Where they are done they make that version; and a condition that refuses one of them is the one that is false.
pub record IsCarriedOut (s : Slots) (x : Mentioned) (d : Done) (commands : List (CommandOf Name)) (t : Slots) (y : Mentioned) (e : Done) (result : Result (Unit {0}) StepRefusal) : Type 0 where
  pub under_way : (first : Slots) → IsUnderWay first s x d → IsUnderWay first t y e
  pub names : t.names ≡ s.names
  pub done : OnOk result ((r : Renaming) → after_all rules (version_behind s r d.commands) commands ≡ Ok (version_behind t r e.commands))
  pub refused : IfErr result (λ q. (c : Condition) → q ≡ refusal.Condition c → (r : Renaming) → after_all rules (version_behind s r d.commands) commands ≡ Err (map_condition (name_at s.names) (condition_of c)))

-- The log is one of the slots, over the same names. Where the step is done they stand for the history that is wanted; else for the same as before, with room alone in the slots, and a condition that refuses it is the one that is false.
pub record IsStepped (s : Slots) (former : Log) (wanted : Result History (ConditionOf Name)) (t : Slots) (next : Log) (result : Result (Unit {0}) StepRefusal) : Type 0 where
  pub log : IsLogOf t next
  pub names : t.names ≡ s.names
  pub done : OnOk result (wanted ≡ Ok (history_of t next))
  pub same : OnErr result (history_of t next ≡ history_of s former)
  pub room : OnErr result (Wider s t)
  pub refused : IfErr result (λ e. (c : Condition) → e ≡ refusal.Condition c → wanted ≡ Err (map_condition (name_at s.names) (condition_of c)))

-- the history behind commands that are one action
abbrev pub after_commands : History → List (CommandOf Name) → Result History (ConditionOf Name)
after_commands h commands = by_result (λ v. Ok (appended rules h v)) (λ q. Err q) (after_all rules h.now commands)
