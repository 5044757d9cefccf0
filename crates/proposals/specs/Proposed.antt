-- What is proposed.
use Rattle.std.specs.Prelude.{ℕ, ◌<◌, List, take}
use Rattle.rb_base.specs.Names.{name_at}
use Rattle.patterns.specs.Names.{PatternNames}
use Rattle.ruled_model.specs.RuledScripts as model
use Rattle.commands.specs.Actions.{map_action, ActionNames}
use Rattle.commands.specs.Views.{action_of}
use Rattle.certificates.specs.Asked.{command_in}
use Rattle.proposals.specs.declared.proposal.Asked.{Asked}
use Rattle.proposals.specs.declared.proposal.Asked.TheVariants as asked

-- each name of what is asked for is among so many first ones of a table
abbrev pub IsNamed : ℕ → Asked → Type 0
IsNamed count (asked.Action a) = ActionNames (λ n. n < count) (action_of a)
IsNamed count (asked.Rule r) = PatternNames (λ n. n < count) r.rule.pattern × PatternNames (λ n. n < count) r.rule.replacement

-- what is asked for, whose names are among so many
pub record Proposed : Type 0 where
  pub asked : Asked
  pub names : ℕ

-- what is asked for, over the texts of its names
abbrev pub asked_over : List (List ℕ) → Asked → model.Asked
asked_over names (asked.Action a) = model.Acts (map_action (name_at names) (action_of a))
asked_over names (asked.Rule r) = model.Applies (command_in names r)

-- what is proposed, over the texts of the names, which are so many first ones of a table
abbrev pub asked_in : List (List ℕ) → Proposed → model.Asked
asked_in names p = asked_over (take p.names names) p.asked
