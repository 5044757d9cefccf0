-- Events that may assign a name that can not be assigned.
use Rattle.std.specs.Prelude.{ℕ, Bool, true, false, ◌||◌, List, [], ◌∷◌, ◌++◌, map}
use Rattle.std.specs.Borrow.{Bor}
use Rattle.std.specs.List.{list_any}
use Rattle.std.specs.Str.{bytes_eq}
use Rattle.grammar_model.specs.Terminal.{Text}
use Rattle.grammar_model.specs.Words.{is_pseudo}
use Rattle.parse_events.specs.declared.event.Event.{Event}
use Rattle.parse_events.specs.declared.event.Event.TheVariants.{Target, Enter}
use Rattle.event_checks.specs.Lists.{names_of}

-- the texts that references point to
abbrev pub texts : List (Bor (List ℕ)) → List Text
texts ns = map (λ (n : Bor (List ℕ)). n.now) ns

-- the names of the parameters of an event
abbrev pub parameters_at : Event → List Text
parameters_at (Enter ps ds) = names_of ps
parameters_at e = []

-- the names of all parameters
abbrev pub parameters_in : List Event → List Text
parameters_in [] = []
parameters_in (e ∷ es) = parameters_at e ++ parameters_in es

-- whether an event assigns a pseudo-variable or one of the names
abbrev pub assigns_at : List Text → Event → Bool
assigns_at names (Target f n) = is_pseudo n || list_any (bytes_eq n) names
assigns_at names e = false

-- whether one of the events does
abbrev pub assigns_in : List Text → List Event → Bool
assigns_in names es = list_any (assigns_at names) es

-- whether an event is an assignment
abbrev pub is_target : Event → Bool
is_target (Target f n) = true
is_target e = false
