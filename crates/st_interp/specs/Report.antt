-- What is told of a run.
use Rattle.run_model.specs.Runs.{RunOf}
use Rattle.st_interp.specs.declared.report.RunReport.{RunReport}

-- what is seen of the run
abbrev pub report_of : RunReport → RunOf
report_of r = record { events = r.events.items; outcome = r.outcome; ticks = r.ticks }
