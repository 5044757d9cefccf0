-- How the events of a tree, read from the last to the first, give its nodes in preorder.
use Rattle.std.specs.Prelude.{ℕ, zero, suc, ◌+◌, ◌-◌, true, false, if◌then◌else◌, ◌==◌, List, [], ◌∷◌, length, Option, Some, None}
use Rattle.parse_events.specs.declared.event.Event.{Event}
use Rattle.parse_events.specs.declared.event.Event.TheVariants as event
use Rattle.event_spans.specs.declared.place.Place.{Place}
use Rattle.event_spans.specs.declared.building.Heading.{Heading}
use Rattle.event_spans.specs.declared.building.Open.{Open}

-- the nodes that are read in part, the innermost first, and those that are read whole, in preorder
pub record State : Type 0 where
  pub waiting : List Open
  pub places : List Place

-- a state
abbrev pub state : List Open → List Place → State
state os ps = record { waiting = os; places = ps }

-- one less than a number, where it is not 0
abbrev pub one_less : ℕ → Option ℕ
one_less zero = None
one_less (suc n) = Some n

-- the node whose event this is
abbrev pub heading_of : Event → Option Heading
heading_of (event.Literal f e) = Some (record { from = f; to = e; block = false; more = None })
heading_of (event.Var f e n) = Some (record { from = f; to = e; block = false; more = None })
heading_of (event.Send f e k s) = Some (record { from = f; to = e; block = false; more = Some k })
heading_of (event.Cascade f e k) = Some (record { from = f; to = e; block = false; more = Some 0 })
heading_of (event.Assign f e) = Some (record { from = f; to = e; block = false; more = Some 0 })
heading_of (event.Return f e) = Some (record { from = f; to = e; block = false; more = Some 0 })
heading_of (event.Block f e k c) = Some (record { from = f; to = e; block = true; more = one_less k })
heading_of (event.Brace f e k) = Some (record { from = f; to = e; block = false; more = one_less k })
heading_of other = None

-- what stands behind a node that is read whole
abbrev pub close : List Open → List Place → State
close [] ps = state [] ps
close (o ∷ os) ps = if o.more == 0 then close os (record { from = o.from; to = o.to; depth = length os; below = length ps - o.behind; block = o.block } ∷ ps) else state (record o { more = o.more - 1 } ∷ os) ps

-- a node without nodes below it is read whole
abbrev pub begun_by : Option ℕ → Heading → List Open → List Place → State
begun_by None h os ps = close os (record { from = h.from; to = h.to; depth = length os; below = 0; block = h.block } ∷ ps)
begun_by (Some more) h os ps = state (record { from = h.from; to = h.to; block = h.block; more = more; behind = length ps } ∷ os) ps

-- the event of a node is read
abbrev pub begun : Heading → List Open → List Place → State
begun h os ps = begun_by h.more h os ps

-- more nodes stand right below the innermost open node
abbrev pub widened : ℕ → List Open → List Open
widened k [] = []
widened k (o ∷ os) = record o { more = o.more + k } ∷ os

-- the event of a node is read, where it is one
abbrev pub begun_if : Option Heading → State → State
begun_if None s = s
begun_if (Some h) s = begun h s.waiting s.places

-- an event is read
abbrev pub step : Event → State → State
step (event.Message m k) s = state (widened k s.waiting) s.places
step e s = begun_if (heading_of e) s

-- events are read, the last one first
abbrev pub back : List Event → State → State
back [] s = s
back (e ∷ es) s = step e (back es s)
