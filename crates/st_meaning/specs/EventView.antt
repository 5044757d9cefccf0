-- What an event of the program stands for.
use Rattle.run_model.specs.Values.{Event, shown, printed}
use Rattle.st_meaning.specs.declared.event.EventKind.{EventKind}
use Rattle.st_meaning.specs.declared.event.EventKind.TheVariants as kind

-- the event of runs
abbrev pub event_of : EventKind → Event
event_of (kind.Shown t) = shown t
event_of (kind.Printed v) = printed v
