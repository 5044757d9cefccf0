-- What is made of the slots of an image, and of its log.
use Rattle.std.specs.Prelude.{◌≡◌, ℕ, List, Option, Some, Result, Ok, Err, IfErr, OnOk, OnErr}
use Rattle.run_model.specs.Renamings.{Renaming}
use Rattle.class_table.specs.Slots.{Slots}
use Rattle.event_trees.specs.Naming.{Grows}
use Rattle.reference_index.specs.Mentioned.{Mentioned}
use Rattle.wider_slots.specs.Wider.{Wider}
use Rattle.ruled_model.specs.RuledScripts.{Version, History}
use Rattle.session.specs.Log.{Done, Log, IsLogOf}
use Rattle.session.specs.History.{version_behind, history_of}
use Rattle.session.specs.Stepping.{IsUnderWay}

-- What is made of slots, their index and what was done before; the names may be more then. If it is done it makes the version that is wanted; and the reason that it tells, over the names then, if it is refused, is the one that is wanted.
pub record IsMadeOf {Q E : Type 0} (s : Slots) (x : Mentioned) (d : Done) (wanted : Version → Result Version Q) (t : Slots) (y : Mentioned) (e : Done) (told : List (List ℕ) → E → Option Q) (result : Result (Unit {0}) E) : Type 0 where
  pub under_way : (first : Slots) → IsUnderWay first s x d → IsUnderWay first t y e
  pub names : Grows s.names t.names
  pub done : OnOk result ((r : Renaming) → wanted (version_behind s r d.commands) ≡ Ok (version_behind t r e.commands))
  pub refused : IfErr result (λ f. (q : Q) → told t.names f ≡ Some q → (r : Renaming) → wanted (version_behind s r d.commands) ≡ Err q)

-- The log is one of the slots, whose names may be more. If the step is done they stand for the history that is wanted; else for the same as before, with room alone in the slots, and the reason that is told is the one that is wanted.
pub record IsEntered {Q E : Type 0} (s : Slots) (former : Log) (wanted : Result History Q) (t : Slots) (next : Log) (told : List (List ℕ) → E → Option Q) (result : Result (Unit {0}) E) : Type 0 where
  pub log : IsLogOf t next
  pub names : Grows s.names t.names
  pub done : OnOk result (wanted ≡ Ok (history_of t next))
  pub same : OnErr result (history_of t next ≡ history_of s former)
  pub room : OnErr result (Wider s t)
  pub refused : IfErr result (λ f. (q : Q) → told t.names f ≡ Some q → wanted ≡ Err q)
