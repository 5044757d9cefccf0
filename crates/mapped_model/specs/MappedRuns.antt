-- What is seen of a run, with mapped names.
use Rattle.std.specs.Prelude.{map}
use Rattle.run_model.specs.Values.{Atom, nil_atom, true_atom, false_atom, int_atom, char_atom, string_atom, symbol_atom, class_atom, object_atom, array_atom, block_atom, transcript_atom, View, one, items, Event, shown, printed, RunError, does_not_understand, cannot_return, non_boolean, undeclared_name, not_assignable, unsupported, reflective, overflow, divide_by_zero, bad_index, bad_argument, wrong_arity, too_long, user_error, Outcome, done, failed, spent}
use Rattle.run_model.specs.Runs.{RunOf}
use Rattle.mapped_model.specs.NameMaps.{NameMaps}

module _ (f : NameMaps) where
  -- what is seen of a value in an array
  abbrev pub mapped_atom : Atom → Atom
  mapped_atom nil_atom = nil_atom
  mapped_atom true_atom = true_atom
  mapped_atom false_atom = false_atom
  mapped_atom (int_atom z) = int_atom z
  mapped_atom (char_atom b) = char_atom b
  mapped_atom (string_atom t) = string_atom t
  mapped_atom (symbol_atom t) = symbol_atom t
  mapped_atom (class_atom c) = class_atom (f.class c)
  mapped_atom (object_atom c) = object_atom (f.class c)
  mapped_atom (array_atom n) = array_atom n
  mapped_atom block_atom = block_atom
  mapped_atom transcript_atom = transcript_atom

  -- what is seen of a value
  abbrev pub mapped_view : View → View
  mapped_view (one a) = one (mapped_atom a)
  mapped_view (items atoms) = items (map mapped_atom atoms)

  -- an event
  abbrev pub mapped_event : Event → Event
  mapped_event (shown t) = shown t
  mapped_event (printed v) = printed (mapped_view v)

  -- an error
  abbrev pub mapped_error : RunError → RunError
  mapped_error (does_not_understand c meta s) = does_not_understand (f.class c) meta (f.selector s)
  mapped_error cannot_return = cannot_return
  mapped_error non_boolean = non_boolean
  mapped_error (undeclared_name n) = undeclared_name n
  mapped_error (not_assignable n) = not_assignable (f.class n)
  mapped_error unsupported = unsupported
  mapped_error reflective = reflective
  mapped_error overflow = overflow
  mapped_error divide_by_zero = divide_by_zero
  mapped_error bad_index = bad_index
  mapped_error (bad_argument n) = bad_argument n
  mapped_error (wrong_arity n) = wrong_arity n
  mapped_error too_long = too_long
  mapped_error (user_error t) = user_error t

  -- how a run comes out
  abbrev pub mapped_outcome : Outcome → Outcome
  mapped_outcome (done v) = done (mapped_view v)
  mapped_outcome (failed e) = failed (mapped_error e)
  mapped_outcome spent = spent

  -- what is seen of a run
  abbrev pub mapped_run : RunOf → RunOf
  mapped_run x = record { events = map mapped_event x.events; outcome = mapped_outcome x.outcome; ticks = x.ticks }
