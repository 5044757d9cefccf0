-- Commands and conditions that speak of code which moves.
use Rattle.command_model.specs.Commands.{CommandOf, RenameClass, AbstractInstVar, ExtractMethod, InlineMethod, ExtractTemp, InlineTemp, MovesNoCode}
use Rattle.command_model.specs.Conditions.{ConditionOf, NoReflection, PartIs, NoReturn, AssignsNoOuter, TempsSteady, ValueUnused, SelfSend, OneTarget, Inlinable, PlainActuals, NoCapture, NoNewControl, LetForm, FirstEvaluated, Shallow}
use Rattle.command_numbers.specs.WithoutMove.{IsWithoutMove}

-- whether a command moves code
abbrev pub MovesCode : {N : Type 0} → CommandOf N → Type 0
MovesCode (AbstractInstVar c x setter given) = Unit {0}
MovesCode (ExtractMethod c meta s from to t) = Unit {0}
MovesCode (InlineMethod c meta s from to) = Unit {0}
MovesCode (ExtractTemp c meta s from to x) = Unit {0}
MovesCode (InlineTemp c meta s x) = Unit {0}
MovesCode command = ⊥

-- whether a condition of a command is one that only commands have which move code, or looks at what such a command makes
abbrev pub IsOfMove : {N : Type 0} → CommandOf N → ConditionOf N → Type 0
IsOfMove command (PartIs c meta s from to) = Unit {0}
IsOfMove command (NoReturn c meta s from to) = Unit {0}
IsOfMove command (AssignsNoOuter c meta s from to) = Unit {0}
IsOfMove command (TempsSteady c meta s from to) = Unit {0}
IsOfMove command (ValueUnused c meta s from to) = Unit {0}
IsOfMove command (SelfSend c meta s from to) = Unit {0}
IsOfMove command (OneTarget c meta s) = Unit {0}
IsOfMove command (Inlinable c meta s) = Unit {0}
IsOfMove command (PlainActuals c meta s from to) = Unit {0}
IsOfMove command (NoCapture c meta s spot) = Unit {0}
IsOfMove command (NoNewControl c meta s spot) = Unit {0}
IsOfMove command (LetForm c meta s x) = Unit {0}
IsOfMove command (FirstEvaluated c meta s from to) = Unit {0}
IsOfMove command Shallow = MovesCode command
IsOfMove command condition = ⊥

module _ {N : Type 0} where
  -- what holds of commands that move code and of those that move none holds of all
  pub moves_or_not : (E : CommandOf N → Type 0) → ((command : CommandOf N) → MovesNoCode command → E command) → ((command : CommandOf N) → MovesCode command → E command) → (command : CommandOf N) → E command
  moves_or_not E still moves (RenameClass c d) = still (RenameClass c d) tt
  moves_or_not E still moves (AbstractInstVar c x setter given) = moves (AbstractInstVar c x setter given) tt
  moves_or_not E still moves (ExtractMethod c meta s from to t) = moves (ExtractMethod c meta s from to t) tt
  moves_or_not E still moves (InlineMethod c meta s from to) = moves (InlineMethod c meta s from to) tt
  moves_or_not E still moves (ExtractTemp c meta s from to x) = moves (ExtractTemp c meta s from to x) tt
  moves_or_not E still moves (InlineTemp c meta s x) = moves (InlineTemp c meta s x) tt
  moves_or_not E still moves command = still command tt

  -- and so with conditions
  pub of_move_or_not : (E : CommandOf N → ConditionOf N → Type 0) → ((command : CommandOf N) (condition : ConditionOf N) → IsWithoutMove command condition → E command condition)
      → ((command : CommandOf N) (condition : ConditionOf N) → IsOfMove command condition → E command condition) → (command : CommandOf N) (condition : ConditionOf N) → E command condition
  of_move_or_not E still moves command NoReflection = still command NoReflection tt
  of_move_or_not E still moves command (PartIs c meta s from to) = moves command (PartIs c meta s from to) tt
  of_move_or_not E still moves command (NoReturn c meta s from to) = moves command (NoReturn c meta s from to) tt
  of_move_or_not E still moves command (AssignsNoOuter c meta s from to) = moves command (AssignsNoOuter c meta s from to) tt
  of_move_or_not E still moves command (TempsSteady c meta s from to) = moves command (TempsSteady c meta s from to) tt
  of_move_or_not E still moves command (ValueUnused c meta s from to) = moves command (ValueUnused c meta s from to) tt
  of_move_or_not E still moves command (SelfSend c meta s from to) = moves command (SelfSend c meta s from to) tt
  of_move_or_not E still moves command (OneTarget c meta s) = moves command (OneTarget c meta s) tt
  of_move_or_not E still moves command (Inlinable c meta s) = moves command (Inlinable c meta s) tt
  of_move_or_not E still moves command (PlainActuals c meta s from to) = moves command (PlainActuals c meta s from to) tt
  of_move_or_not E still moves command (NoCapture c meta s spot) = moves command (NoCapture c meta s spot) tt
  of_move_or_not E still moves command (NoNewControl c meta s spot) = moves command (NoNewControl c meta s spot) tt
  of_move_or_not E still moves command (LetForm c meta s x) = moves command (LetForm c meta s x) tt
  of_move_or_not E still moves command (FirstEvaluated c meta s from to) = moves command (FirstEvaluated c meta s from to) tt
  of_move_or_not E still moves command Shallow = moves_or_not (λ c. E c Shallow) (λ c u. still c Shallow u) (λ c u. moves c Shallow u) command
  of_move_or_not E still moves command condition = still command condition tt
