-- Where a reader begins, and what it has found at the end.
use Rattle.std.specs.Prelude.{Bool, List, [], ◌∷◌, None}
use Rattle.grammar_model.specs.Terminal.{Text}
use Rattle.parse_events.specs.declared.event.Declaration.{Declaration}
use Rattle.parse_events.specs.declared.event.SequenceEvents.{SequenceEvents}
use Rattle.parse_events.specs.declared.event.MethodEvents.{MethodEvents}
use Rattle.st_events.specs.declared.part.Part.{Part}
use Rattle.st_events.specs.declared.part.Part.TheVariants as part
use Rattle.st_events.specs.declared.part.SequencePart.TheVariants as sequence
use Rattle.st_events.specs.declared.part.HeadPart.TheVariants as head
use Rattle.st_events.specs.declared.reader.Head.{Head}
use Rattle.st_events.specs.declared.reader.Reader.{Reader}

-- a method's selector and its arguments alone
abbrev pub head_of : Text → List Declaration → Head
head_of s qs = record { selector = s; arguments = qs; opening = []; primitive = None; temporaries = []; tail = [] }

-- nothing was read yet, and these parts are to come
abbrev pub beginning_with : List Part → Reader
beginning_with ps = record { stack = ps; events = []; held = []; last = 0; head = head_of [] [] }

-- before a do-it
abbrev pub doit_start : Reader
doit_start = beginning_with (part.Head head.DoitTemporaries ∷ [])

-- before a method, of the kernel or not
abbrev pub method_start : Bool → Reader
method_start kernel = beginning_with (part.Head (head.Pattern kernel) ∷ [])

-- before a pattern
abbrev pub pattern_start : Reader
pattern_start = beginning_with (part.Sequence sequence.Pattern ∷ [])

-- what was found in a do-it
abbrev pub sequence_of : Reader → SequenceEvents
sequence_of r = record { temporaries = r.head.temporaries; events = r.events; tail = r.head.tail }

-- what was found in a method
abbrev pub method_of : Reader → MethodEvents
method_of r = record { selector = r.head.selector; arguments = r.head.arguments; opening = r.head.opening; primitive = r.head.primitive; body = sequence_of r }
