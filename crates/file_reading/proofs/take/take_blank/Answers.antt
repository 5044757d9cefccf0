use Rattle.file_reading.proofs.Taking.{was_ended}
use Rattle.file_reading.proofs.take.take_blank.Goals as goal

pub returns-clause-sound : goal.returns-clause-sound
returns-clause-sound c =
    (was_ended c.args.reading.names c.args.reading.draft c.requires (record c.args.reading.draft { value = c.end_run.new.self }) (rw c.deref_mut.ensures.value at c.end_run.ensures.image) c.end_run.ensures.run (rw c.deref_mut.ensures.value at c.end_run.ensures.head) (rw c.deref_mut.ensures.value at c.end_run.ensures.places) c.end_run.ensures.whole).0

pub returns-clause-blank : goal.returns-clause-blank
returns-clause-blank c =
    (was_ended c.args.reading.names c.args.reading.draft c.requires (record c.args.reading.draft { value = c.end_run.new.self }) (rw c.deref_mut.ensures.value at c.end_run.ensures.image) c.end_run.ensures.run (rw c.deref_mut.ensures.value at c.end_run.ensures.head) (rw c.deref_mut.ensures.value at c.end_run.ensures.places) c.end_run.ensures.whole).1
